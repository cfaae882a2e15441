use Rattle.std.proofs.Common.{◌∙◌, sym}
use Rattle.tokens.specs.Lexing.{in_punctuator}
use Rattle.tokens.proofs.ToRead.{to_read-seen}
use Rattle.tokens.proofs.TokenLemmas.{punctuator_element-passes, punctuator_element-stops}
use Rattle.tokens.proofs.TakenLemmas.{asks-in-vain, found-here, in_punctuator-ends, HasGoneOn-skip, HasGoneOn-then, then-fails}
use Rattle.tokens.proofs.lexer.Lexer.read_punctuator.Goals as goal

pub loop-next-preserved : goal.loop-next-preserved
loop-next-preserved g c =
    let now = in_punctuator c.loop-next.punctuator in
    let seen = c.in_ok-next.ensures in
    record {
      tokens =
          punctuator_element-passes c.loop-next.punctuator c.in-Some.longer _ _ _ c.in_ok-next.next
          c.skip_byte.ensures.value
          seen.next.first (sym c.in-Some.ensures)
          ∙ to_read-seen now _ _ _ _ seen.seen ∙ c.loop-next.invariant.tokens;
      here = c.loop-next.invariant.here;
      kept = HasGoneOn-skip c.skip_byte.ensures.kept (HasGoneOn-then seen.kept c.loop-next.invariant.kept);
    }

pub returns-in-None-clause-finds : goal.returns-in-None-clause-finds
returns-in-None-clause-finds g c =
    let now = in_punctuator c.loop-next.punctuator in
    let seen = c.in_ok-next.ensures in
    record {
      tokens =
          punctuator_element-stops c.loop-next.punctuator c.token_ending_here.result _ _ c.in_ok-next.next
          seen.next.ready
          seen.next.first
          (sym c.in-None.ensures) (λ _. c.token_ending_here.ensures)
          ∙ to_read-seen now _ _ _ _ seen.seen ∙ c.loop-next.invariant.tokens;
      found = found-here _ _ _ c.token_ending_here.ensures tt;
    }

pub returns-in_err-next-clause-finds : goal.returns-in_err-next-clause-finds
returns-in_err-next-clause-finds g c =
    let seen = c.in_err-next.ensures in
    asks-in-vain c.from_residual.result _ c.from_residual.ensures.1 _ _ (in_punctuator-ends c.loop-next.punctuator) _
    c.loop-next.self.window _ (g.F.Feed.device c.args.feed.now) (g.F.Feed.device c.loop-next.feed) _ _ _
    c.loop-next.invariant.tokens seen.failed seen.offset.offset c.loop-next.invariant.here

pub returns-in_err-next-clause-kept : goal.returns-in_err-next-clause-kept
returns-in_err-next-clause-kept g c =
    then-fails c.from_residual.result _ c.from_residual.ensures.1 c.loop-next.invariant.kept c.in_err-next.ensures.kept
