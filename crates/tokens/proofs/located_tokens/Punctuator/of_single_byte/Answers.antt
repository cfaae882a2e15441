-- The kind of a byte decides which punctuator it is.
use Rattle.std.proofs.Common.{refl}
use Rattle.tokens.specs.Punctuators.{punctuator_of}
use Rattle.tokens.specs.declared.located_tokens.Punctuator.TheVariants.{OpenRound, CloseRound, OpenCurly, CloseCurly, Comma, Semicolon}
use Rattle.tokens.proofs.CharacterLemmas.{kinds}
use Rattle.tokens.proofs.PunctuatorLemmas.{whole_of_kind}
use Rattle.tokens.proofs.located_tokens.Punctuator.of_single_byte.Goals as goal

pub returns-in-3 : goal.returns-in-3
unfolding kinds punctuator_of
returns-in-3 c = whole_of_kind 3 OpenRound refl refl (λ n. refl) c.args.b c.ranges.b.fits _ c.from.ensures c.in-3.is

pub returns-in-4 : goal.returns-in-4
unfolding kinds punctuator_of
returns-in-4 c = whole_of_kind 4 CloseRound refl refl (λ n. refl) c.args.b c.ranges.b.fits _ c.from.ensures c.in-4.is

pub returns-in-5 : goal.returns-in-5
unfolding kinds punctuator_of
returns-in-5 c = whole_of_kind 5 OpenCurly refl refl (λ n. refl) c.args.b c.ranges.b.fits _ c.from.ensures c.in-5.is

pub returns-in-6 : goal.returns-in-6
unfolding kinds punctuator_of
returns-in-6 c = whole_of_kind 6 CloseCurly refl refl (λ n. refl) c.args.b c.ranges.b.fits _ c.from.ensures c.in-6.is

pub returns-in-7 : goal.returns-in-7
unfolding kinds punctuator_of
returns-in-7 c = whole_of_kind 7 Comma refl refl (λ n. refl) c.args.b c.ranges.b.fits _ c.from.ensures c.in-7.is

pub returns-in-8 : goal.returns-in-8
unfolding kinds punctuator_of
returns-in-8 c = whole_of_kind 8 Semicolon refl refl (λ n. refl) c.args.b c.ranges.b.fits _ c.from.ensures c.in-8.is
