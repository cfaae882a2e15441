use Rattle.std.proofs.Common.{◌∙◌, sym, ap, Some}
use Rattle.std.proofs.lemmas.Bool.{ne_eqb}
use Rattle.tokens.specs.Tokens.{located_tokens}
use Rattle.tokens.specs.Lexing.{in_comment}
use Rattle.tokens.proofs.ToRead.{to_read-pass, to_read-seen, byte-found}
use Rattle.tokens.proofs.CommentLemmas.{in_star, comment_element-passes, star-passes, star-open, slash-closes, plain-passes, comment_element-ended, ended-beyond}
use Rattle.tokens.proofs.TakenLemmas.{on_err-from, stops, stops-from, in_comment-ends, in_star-ends, HasGoneOn-skip, HasGoneOn-then, then-fails}
use Rattle.tokens.proofs.lexer.Lexer.skip_comment.Goals as goal

pub returns-in-None-clause-tokens : goal.returns-in-None-clause-tokens
returns-in-None-clause-tokens g c = λ line.
    let seen = c.in_ok-peek.ensures in
    comment_element-ended line _ _ c.in_ok-peek.field-0 seen.next.ready seen.next.first c.in-None.is
    ∙ to_read-seen (in_comment line) _ _ _ _ seen.seen ∙ plain-passes line _ _ _ c.skip_to_star.ensures.value ∙
    c.loop-self.invariant.tokens line

pub returns-in-None-clause-ended : goal.returns-in-None-clause-ended
returns-in-None-clause-ended g c =
    λ _. ended-beyond c.peek.new.self c.in_ok-peek.field-0 c.in_ok-peek.ensures.next.ready
    c.in_ok-peek.ensures.next.first c.in-None.is

pub returns-then-eq-clause-tokens : goal.returns-then-eq-clause-tokens
returns-then-eq-clause-tokens g c = λ line.
    let seen = c.in_ok-peek.ensures in
    let next = c.in_ok-peek-in-Some-eq42.ensures in
    to_read-pass located_tokens (in_star line) _ _ _ _ 47 c.skip_byte-then-eq.ensures.value next.next.first
    (byte-found 47 _ (sym c.if-eq.ensures)) (slash-closes line)
    ∙ to_read-seen (in_star line) _ _ _ _ next.seen
    ∙
    to_read-pass (in_star line) (in_comment line) _ _ _ _ 42 c.skip_byte.ensures.value seen.next.first
    (c.in-Some-eq42.is ∙ ap Some c.in-Some-eq42.field-0-test) (star-passes line)
    ∙ to_read-seen (in_comment line) _ _ _ _ seen.seen ∙ plain-passes line _ _ _ c.skip_to_star.ensures.value ∙
    c.loop-self.invariant.tokens line

pub loop-self-preserved-else-eq : goal.loop-self-preserved-else-eq
loop-self-preserved-else-eq g c =
    let seen = c.in_ok-peek.ensures in
    let next = c.in_ok-peek-in-Some-eq42.ensures in
    record {
      tokens = λ line. star-open line _ _ _ next.next.ready next.next.first (sym c.if-eq.ensures)
          ∙ to_read-seen (in_star line) _ _ _ _ next.seen
          ∙
          to_read-pass (in_star line) (in_comment line) _ _ _ _ 42 c.skip_byte.ensures.value seen.next.first
          (c.in-Some-eq42.is ∙ ap Some c.in-Some-eq42.field-0-test) (star-passes line)
          ∙ to_read-seen (in_comment line) _ _ _ _ seen.seen ∙ plain-passes line _ _ _ c.skip_to_star.ensures.value ∙
          c.loop-self.invariant.tokens line;
      kept = HasGoneOn-then next.kept
          (HasGoneOn-skip c.skip_byte.ensures.kept
          (HasGoneOn-then seen.kept (HasGoneOn-skip c.skip_to_star.ensures.kept c.loop-self.invariant.kept)));
    }

pub loop-self-preserved : goal.loop-self-preserved
loop-self-preserved g c =
    let seen = c.in_ok-peek.ensures in
    record {
      tokens =
          λ line. to_read-pass (in_comment line) (in_comment line) _ _ _ _ c.in-Some.field-0
          c.skip_byte-in-Some.ensures.value seen.next.first c.in-Some.is
          (comment_element-passes line c.in-Some.field-0 (ne_eqb _ _ c.in-Some.field-0-test.1))
          ∙ to_read-seen (in_comment line) _ _ _ _ seen.seen ∙ plain-passes line _ _ _ c.skip_to_star.ensures.value ∙
          c.loop-self.invariant.tokens line;
      kept = HasGoneOn-skip c.skip_byte-in-Some.ensures.kept
          (HasGoneOn-then seen.kept (HasGoneOn-skip c.skip_to_star.ensures.kept c.loop-self.invariant.kept));
    }

pub returns-in_err-peek-clause-stopped : goal.returns-in_err-peek-clause-stopped
returns-in_err-peek-clause-stopped g c =
    let seen = c.in_err-peek.ensures in
    on_err-from c.from_residual.result (λ line.
    stops-from (in_comment line) (in_comment line) _ _ c.peek.new.self _ _
    (plain-passes line _ _ _ c.skip_to_star.ensures.value ∙ c.loop-self.invariant.tokens line)
    (stops (in_comment line) (in_comment-ends line) c.skip_to_star.new.self c.peek.new.self _ seen.failed
    seen.offset.offset))

pub returns-in_err-peek-in-Some-eq42-clause-stopped : goal.returns-in_err-peek-in-Some-eq42-clause-stopped
returns-in_err-peek-in-Some-eq42-clause-stopped g c =
    let seen = c.in_ok-peek.ensures in
    let next = c.in_err-peek-in-Some-eq42.ensures in
    on_err-from c.from_residual-in_err-peek-in-Some-eq42.result (λ line.
    stops-from (in_star line) (in_comment line) _ _ c.peek-in-Some-eq42.new.self _ _
    (to_read-pass (in_star line) (in_comment line) _ _ _ _ 42 c.skip_byte.ensures.value seen.next.first
    (c.in-Some-eq42.is ∙ ap Some c.in-Some-eq42.field-0-test) (star-passes line)
    ∙ to_read-seen (in_comment line) _ _ _ _ seen.seen ∙ plain-passes line _ _ _ c.skip_to_star.ensures.value ∙
    c.loop-self.invariant.tokens line)
    (stops (in_star line) (in_star-ends line) c.skip_byte.new.self c.peek-in-Some-eq42.new.self _ next.failed
    next.offset.offset))

pub returns-in_err-peek-clause-kept : goal.returns-in_err-peek-clause-kept
returns-in_err-peek-clause-kept g c =
    then-fails c.from_residual.result _ c.from_residual.ensures.1
    (HasGoneOn-skip c.skip_to_star.ensures.kept c.loop-self.invariant.kept) c.in_err-peek.ensures.kept

pub returns-in_err-peek-in-Some-eq42-clause-kept : goal.returns-in_err-peek-in-Some-eq42-clause-kept
returns-in_err-peek-in-Some-eq42-clause-kept g c =
    then-fails c.from_residual-in_err-peek-in-Some-eq42.result _ c.from_residual-in_err-peek-in-Some-eq42.ensures.1
    (HasGoneOn-skip c.skip_byte.ensures.kept
    (HasGoneOn-then c.in_ok-peek.ensures.kept
    (HasGoneOn-skip c.skip_to_star.ensures.kept c.loop-self.invariant.kept)))
    c.in_err-peek-in-Some-eq42.ensures.kept
