use Rattle.std.proofs.Common.{◌∙◌, sym}
use Rattle.tokens.specs.Tokens.{located_tokens}
use Rattle.tokens.proofs.ToRead.{to_read-pass, to_read-seen}
use Rattle.tokens.proofs.TokenLemmas.{blank-skipped, blanks-pass}
use Rattle.tokens.proofs.TakenLemmas.{on_err-from, stops, stops-from, located_tokens-end, HasGoneOn-skip, HasGoneOn-then, then-fails}
use Rattle.tokens.proofs.lexer.Lexer.skip_blanks.Goals as goal

pub loop-b-preserved : goal.loop-b-preserved
loop-b-preserved g c = record {
  tokens =
      to_read-pass located_tokens located_tokens _ _ _ _ c.in-Some.b c.skip_byte.ensures.value
      c.in_ok-first.ensures.next.first c.in-Some.is (blank-skipped c.in-Some.b (sym c.if-is_blank.ensures))
      ∙ to_read-seen located_tokens _ _ _ _ c.in_ok-first.ensures.seen ∙
      blanks-pass _ _ _ c.skip_blanks_at_hand.ensures.value ∙
      c.loop-b.invariant.tokens;
  kept = HasGoneOn-skip c.skip_byte.ensures.kept
      (HasGoneOn-then c.in_ok-first.ensures.kept
      (HasGoneOn-skip c.skip_blanks_at_hand.ensures.kept c.loop-b.invariant.kept));
}

pub returns-in_default-clause-tokens : goal.returns-in_default-clause-tokens
returns-in_default-clause-tokens g c =
    to_read-seen located_tokens _ _ _ _ c.in_ok-first.ensures.seen ∙
    blanks-pass _ _ _ c.skip_blanks_at_hand.ensures.value ∙
    c.loop-b.invariant.tokens

pub returns-in_default-2-clause-tokens : goal.returns-in_default-2-clause-tokens
returns-in_default-2-clause-tokens g c =
    to_read-seen located_tokens _ _ _ _ c.in_ok-first.ensures.seen ∙
    blanks-pass _ _ _ c.skip_blanks_at_hand.ensures.value ∙
    c.loop-b.invariant.tokens

pub returns-in_err-first-clause-stopped : goal.returns-in_err-first-clause-stopped
returns-in_err-first-clause-stopped g c =
    let seen = c.in_err-first.ensures in
    on_err-from c.from_residual.result (stops-from located_tokens located_tokens _ _ c.peek.new.self _ _
    (blanks-pass _ _ _ c.skip_blanks_at_hand.ensures.value ∙ c.loop-b.invariant.tokens)
    (stops located_tokens located_tokens-end c.skip_blanks_at_hand.new.self c.peek.new.self _ seen.failed
    seen.offset.offset))

pub returns-in_err-first-clause-kept : goal.returns-in_err-first-clause-kept
returns-in_err-first-clause-kept g c =
    then-fails c.from_residual.result _ c.from_residual.ensures.1
    (HasGoneOn-skip c.skip_blanks_at_hand.ensures.kept c.loop-b.invariant.kept) c.in_err-first.ensures.kept

pub returns-in_default-3-clause-tokens : goal.returns-in_default-3-clause-tokens
returns-in_default-3-clause-tokens g c =
    to_read-seen located_tokens _ _ _ _ c.in_ok-first.ensures.seen ∙
    blanks-pass _ _ _ c.skip_blanks_at_hand.ensures.value ∙
    c.loop-b.invariant.tokens
