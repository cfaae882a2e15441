-- The kind of a byte decides which punctuator it is.
use Rattle.std.proofs.Common.{◌<◌, ◌≤◌, Some, arith, refl, slice_index}
use Rattle.tokens.specs.Punctuators.{punctuator_of}
use Rattle.tokens.specs.declared.located_tokens.Punctuator.TheVariants.{OpenRound, CloseRound, OpenCurly, CloseCurly, Comma, Semicolon, Plus, Minus, Star, Slash, Percent, And, Or, Xor, Tilde, Not, Less, Greater, Equals}
use Rattle.tokens.proofs.CharacterLemmas.{kinds, kinds-most}
use Rattle.tokens.proofs.PunctuatorLemmas.{kind-none, of_kind}
use Rattle.tokens.proofs.located_tokens.Punctuator.of_byte.Goals as goal

pub returns-in_default : goal.returns-in_default
unfolding kinds
returns-in_default c =
    let most : slice_index kinds c.from.result ≤ 21 = rw c.from.ensures (kinds-most c.args.b c.ranges.b.fits) in
    let low : slice_index kinds c.from.result < 3 = omega (arith, most) in
    kind-none c.args.b c.ranges.b.fits (rw c.from.ensures at low)

pub returns-in-3 : goal.returns-in-3
unfolding kinds punctuator_of
returns-in-3 c = of_kind 3 (Some OpenRound) refl refl c.args.b c.ranges.b.fits _ c.from.ensures c.in-3.is

pub returns-in-4 : goal.returns-in-4
unfolding kinds punctuator_of
returns-in-4 c = of_kind 4 (Some CloseRound) refl refl c.args.b c.ranges.b.fits _ c.from.ensures c.in-4.is

pub returns-in-5 : goal.returns-in-5
unfolding kinds punctuator_of
returns-in-5 c = of_kind 5 (Some OpenCurly) refl refl c.args.b c.ranges.b.fits _ c.from.ensures c.in-5.is

pub returns-in-6 : goal.returns-in-6
unfolding kinds punctuator_of
returns-in-6 c = of_kind 6 (Some CloseCurly) refl refl c.args.b c.ranges.b.fits _ c.from.ensures c.in-6.is

pub returns-in-7 : goal.returns-in-7
unfolding kinds punctuator_of
returns-in-7 c = of_kind 7 (Some Comma) refl refl c.args.b c.ranges.b.fits _ c.from.ensures c.in-7.is

pub returns-in-8 : goal.returns-in-8
unfolding kinds punctuator_of
returns-in-8 c = of_kind 8 (Some Semicolon) refl refl c.args.b c.ranges.b.fits _ c.from.ensures c.in-8.is

pub returns-in-9 : goal.returns-in-9
unfolding kinds punctuator_of
returns-in-9 c = of_kind 9 (Some Plus) refl refl c.args.b c.ranges.b.fits _ c.from.ensures c.in-9.is

pub returns-in-10 : goal.returns-in-10
unfolding kinds punctuator_of
returns-in-10 c = of_kind 10 (Some Minus) refl refl c.args.b c.ranges.b.fits _ c.from.ensures c.in-10.is

pub returns-in-11 : goal.returns-in-11
unfolding kinds punctuator_of
returns-in-11 c = of_kind 11 (Some Star) refl refl c.args.b c.ranges.b.fits _ c.from.ensures c.in-11.is

pub returns-in-12 : goal.returns-in-12
unfolding kinds punctuator_of
returns-in-12 c = of_kind 12 (Some Slash) refl refl c.args.b c.ranges.b.fits _ c.from.ensures c.in-12.is

pub returns-in-13 : goal.returns-in-13
unfolding kinds punctuator_of
returns-in-13 c = of_kind 13 (Some Percent) refl refl c.args.b c.ranges.b.fits _ c.from.ensures c.in-13.is

pub returns-in-14 : goal.returns-in-14
unfolding kinds punctuator_of
returns-in-14 c = of_kind 14 (Some And) refl refl c.args.b c.ranges.b.fits _ c.from.ensures c.in-14.is

pub returns-in-15 : goal.returns-in-15
unfolding kinds punctuator_of
returns-in-15 c = of_kind 15 (Some Or) refl refl c.args.b c.ranges.b.fits _ c.from.ensures c.in-15.is

pub returns-in-16 : goal.returns-in-16
unfolding kinds punctuator_of
returns-in-16 c = of_kind 16 (Some Xor) refl refl c.args.b c.ranges.b.fits _ c.from.ensures c.in-16.is

pub returns-in-17 : goal.returns-in-17
unfolding kinds punctuator_of
returns-in-17 c = of_kind 17 (Some Tilde) refl refl c.args.b c.ranges.b.fits _ c.from.ensures c.in-17.is

pub returns-in-18 : goal.returns-in-18
unfolding kinds punctuator_of
returns-in-18 c = of_kind 18 (Some Not) refl refl c.args.b c.ranges.b.fits _ c.from.ensures c.in-18.is

pub returns-in-19 : goal.returns-in-19
unfolding kinds punctuator_of
returns-in-19 c = of_kind 19 (Some Less) refl refl c.args.b c.ranges.b.fits _ c.from.ensures c.in-19.is

pub returns-in-20 : goal.returns-in-20
unfolding kinds punctuator_of
returns-in-20 c = of_kind 20 (Some Greater) refl refl c.args.b c.ranges.b.fits _ c.from.ensures c.in-20.is

pub returns-in-21 : goal.returns-in-21
unfolding kinds punctuator_of
returns-in-21 c = of_kind 21 (Some Equals) refl refl c.args.b c.ranges.b.fits _ c.from.ensures c.in-21.is
