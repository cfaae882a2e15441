use Rattle.std.proofs.Common.{◌≡◌, ◌+◌, ℕ, true, Some, sym, refl, arith, Result}
use Rattle.std.specs.Prelude.{slice_get}
use Rattle.tokens.specs.Characters.{is_blank}
use Rattle.tokens.specs.Device.{Device}
use Rattle.tokens.specs.Lexing.{ReadsToken}
use Rattle.tokens.specs.Tokens.{located_tokens}
use Rattle.tokens.specs.Window.{Window, window_after_byte}
use Rattle.tokens.specs.declared.devices.DeviceFault.{DeviceFault}
use Rattle.tokens.specs.declared.located_tokens.LocatedToken.{LocatedToken}
use Rattle.tokens.proofs.ToRead.{to_read-pass}
use Rattle.tokens.proofs.TokenLemmas.{blank-skipped}
use Rattle.tokens.proofs.TakenLemmas.{then-reads}
use Rattle.tokens.proofs.lexer.Lexer.read_from_blank_or_slash.Goals as goal

-- what reads a token after a blank reads it from before that
blank-reads : {T : Type 0} (r : Result T DeviceFault) (old mid new : Window) (before after : Device)
    (here here' : LocatedToken) (blank : ℕ) → mid ≡ window_after_byte old → Some blank ≡ slice_get old.at_hand 0 →
    is_blank blank ≡ true → mid.offset ≡ old.offset + 1 → ReadsToken r mid new before after here here' →
    ReadsToken r old new before after here here'
blank-reads r old mid new before after here here' blank past is blanks forward =
    then-reads r old mid new before before after here here here'
    (to_read-pass located_tokens located_tokens mid old before.to_come (Some blank) blank past is refl
    (blank-skipped blank blanks))
    (omega (arith, forward)) refl

pub returns-in-Some-first_at_hand-clause-reads : goal.returns-in-Some-first_at_hand-clause-reads
returns-in-Some-first_at_hand-clause-reads g c =
    blank-reads c.read_begun_token.result _ c.skip_byte.new.self _ (g.F.Feed.device c.args.feed.now) _ _ _
    c.in-Some.blank c.skip_byte.ensures.value c.in-Some.ensures.value (sym c.if-is_blank.ensures)
    c.skip_byte.ensures.forward c.read_begun_token.ensures.reads

pub returns-in_default-first_at_hand-clause-reads : goal.returns-in_default-first_at_hand-clause-reads
returns-in_default-first_at_hand-clause-reads g c =
    blank-reads c.read_after_blanks.result _ c.skip_byte.new.self _ (g.F.Feed.device c.args.feed.now) _ _ _
    c.in-Some.blank c.skip_byte.ensures.value c.in-Some.ensures.value (sym c.if-is_blank.ensures)
    c.skip_byte.ensures.forward c.read_after_blanks.ensures.reads
