use Rattle.std.proofs.Common.{◌≡◌, ◌∙◌, ◌+◌, ◌∷◌, ℕ, sym, ap, refl, Some, List, arith, Result}
use Rattle.tokens.specs.Cursors.{FitsToken}
use Rattle.tokens.specs.Device.{Device}
use Rattle.tokens.specs.Tokens.{UnreadSource, ahead_after_byte, located_tokens}
use Rattle.tokens.specs.Window.{Window, MayHaveAsked, ahead, window_after_byte}
use Rattle.tokens.specs.declared.devices.DeviceFault.{DeviceFault}
use Rattle.tokens.specs.declared.located_tokens.Token.{Token}
use Rattle.tokens.specs.declared.located_tokens.LexicalError.TheVariants.{BadCharacter}
use Rattle.tokens.specs.declared.located_tokens.Token.TheVariants as token
use Rattle.tokens.specs.declared.located_tokens.LocatedToken.{LocatedToken}
use Rattle.tokens.specs.Lexing.{BeginsToken, FindsToken, ReadsOne, ReadsToken, followed, to_read, token_ending}
use Rattle.tokens.proofs.ToRead.{to_read-pass, to_read-here}
use Rattle.tokens.proofs.BeginLemmas.{name-begins, constant-begins, other-begins, bad-begins}
use Rattle.tokens.proofs.TakenLemmas.{finds-reads, found-here, found-reads}
use Rattle.tokens.proofs.AtHandLemmas.{punctuator_element-ends_before}
use Rattle.tokens.proofs.PunctuatorLemmas.{no-digit}
use Rattle.tokens.proofs.TokenLemmas.{punctuator_element-whole}
use Rattle.tokens.proofs.lexer.Lexer.read_begun_token.Goals as goal

-- the first byte of a token is passed
begins-pass : (inside : UnreadSource → List LocatedToken) (old mid : Window) (device : Device) (b : ℕ) →
    mid ≡ window_after_byte old → BeginsToken b old →
    ((a : UnreadSource) (rest : List ℕ) → a.bytes ≡ b ∷ rest → inside (ahead_after_byte a) ≡ located_tokens a) →
    to_read inside mid device.to_come ≡ to_read located_tokens old device.to_come
begins-pass inside old mid device b past begins =
    to_read-pass inside located_tokens mid old device.to_come (Some b) b past (sym begins.first) refl

-- what finds a token after it reads one
begun-reads : {T : Type 0} (r : Result T DeviceFault) (inside : UnreadSource → List LocatedToken)
    (old mid new : Window) (before after : Device) (here here' : LocatedToken) (b : ℕ) →
    mid ≡ window_after_byte old → mid.offset ≡ old.offset + 1 → BeginsToken b old →
    ((a : UnreadSource) (rest : List ℕ) → a.bytes ≡ b ∷ rest → inside (ahead_after_byte a) ≡ located_tokens a) →
    MayHaveAsked r mid new before after → FindsToken r inside mid new before after here here' →
    ReadsToken r old new before after here here'
begun-reads r inside old mid new before after here here' b past forward begins begun =
    finds-reads r inside old mid new before after here here' (begins-pass inside old mid before b past begins begun)
    (omega (arith, forward))

-- and so does one that ends there
begun-read : (inside : UnreadSource → List LocatedToken) (old mid : Window) (device : Device) (here : LocatedToken)
    (token : Token) (b : ℕ) → mid ≡ window_after_byte old → mid.offset ≡ old.offset + 1 → BeginsToken b old →
    ((a : UnreadSource) (rest : List ℕ) → a.bytes ≡ b ∷ rest → inside (ahead_after_byte a) ≡ located_tokens a) →
    to_read (followed here) mid device.to_come ≡ to_read inside mid device.to_come →
    here ≡ (record { token = token; line = mid.line; end = mid.offset }) → FitsToken token →
    ReadsOne old mid device device here
begun-read inside old mid device here token b past forward begins begun same is fits = record {
  tokens = same ∙ begins-pass inside old mid device b past begins begun;
  read = found-reads here old mid (omega (arith, forward)) (found-here here token mid is fits);
}

pub returns-then-is_letter-clause-reads : goal.returns-then-is_letter-clause-reads
returns-then-is_letter-clause-reads g c =
    begun-reads c.read_name.result _ _ c.skip_byte.new.self _ (g.F.Feed.device c.args.feed.now) _ _ _ _
    c.skip_byte.ensures.value c.skip_byte.ensures.forward c.requires.begins
    (name-begins c.args.first c.requires.begins.no_blank (sym c.if-is_letter.ensures)) c.read_name.ensures.kept
    c.read_name.ensures.finds

pub returns-then-is_digit-clause-reads : goal.returns-then-is_digit-clause-reads
returns-then-is_digit-clause-reads g c =
    begun-reads c.read_constant.result _ _ c.skip_byte.new.self _ (g.F.Feed.device c.args.feed.now) _ _ _ _
    c.skip_byte.ensures.value c.skip_byte.ensures.forward c.requires.begins
    (constant-begins c.args.first c.requires.begins.no_blank (sym c.if-is_letter.ensures)
    (sym c.if-is_digit.ensures)) c.read_constant.ensures.kept c.read_constant.ensures.finds

pub returns-else-ends_before-clause-reads : goal.returns-else-ends_before-clause-reads
returns-else-ends_before-clause-reads g c =
    begun-reads c.read_punctuator.result _ _ c.skip_byte.new.self _ (g.F.Feed.device c.args.feed.now) _ _ _ _
    c.skip_byte.ensures.value c.skip_byte.ensures.forward c.requires.begins
    (other-begins c.in-Some-of_byte.punctuator c.args.first c.requires.begins.no_blank (sym c.if-is_letter.ensures)
    (sym c.if-is_digit.ensures) c.requires.begins.no_slash (sym c.in-Some-of_byte.ensures))
    c.read_punctuator.ensures.kept c.read_punctuator.ensures.finds

pub returns-then-ends_before-clause-reads : goal.returns-then-ends_before-clause-reads
returns-then-ends_before-clause-reads g c =
    let here = c.token_ending_here-then-ends_before in
    begun-read _ _ c.skip_byte.new.self (g.F.Feed.device c.args.feed.now) here.result _ _ c.skip_byte.ensures.value
    c.skip_byte.ensures.forward c.requires.begins
    (other-begins c.in-Some-of_byte.punctuator c.args.first c.requires.begins.no_blank (sym c.if-is_letter.ensures)
    (sym c.if-is_digit.ensures) c.requires.begins.no_slash (sym c.in-Some-of_byte.ensures))
    (punctuator_element-ends_before c.in-Some-of_byte.punctuator here.result c.skip_byte.new.self _ _
    c.first_at_hand.ensures.value (c.ends_before.ensures c.if-ends_before.true) (λ _. here.ensures))
    here.ensures tt

pub returns-in_default-of_byte-clause-reads : goal.returns-in_default-of_byte-clause-reads
returns-in_default-of_byte-clause-reads g c =
    let here = c.token_ending_here-in_default-of_byte in
    let bad : UnreadSource → List LocatedToken = λ a. followed (token_ending (token.Fault BadCharacter) a) a in
    begun-read bad _ c.skip_byte.new.self (g.F.Feed.device c.args.feed.now) here.result _ _ c.skip_byte.ensures.value
    c.skip_byte.ensures.forward c.requires.begins
    (bad-begins c.args.first c.requires.begins.no_blank (sym c.if-is_letter.ensures) (sym c.if-is_digit.ensures)
    c.requires.begins.no_slash (sym c.in_default-of_byte.ensures))
    (to_read-here (followed here.result) bad c.skip_byte.new.self _
    (λ to_come. ap (λ x. followed x (ahead c.skip_byte.new.self to_come)) here.ensures))
    here.ensures tt

pub returns-in-Some-clause-reads : goal.returns-in-Some-clause-reads
returns-in-Some-clause-reads g c =
    let here = c.token_ending_here in
    let whole = c.in-Some.ensures in
    begun-read _ _ c.skip_byte.new.self (g.F.Feed.device c.args.feed.now) here.result _ _ c.skip_byte.ensures.value
    c.skip_byte.ensures.forward c.requires.begins
    (other-begins c.in-Some.punctuator c.args.first c.requires.begins.no_blank (sym c.if-is_letter.ensures)
    (no-digit c.args.first c.in-Some.punctuator c.ranges.first.fits whole.is) c.requires.begins.no_slash whole.is)
    (punctuator_element-whole c.in-Some.punctuator here.result c.skip_byte.new.self _ whole.ends (λ _. here.ensures))
    here.ensures tt
