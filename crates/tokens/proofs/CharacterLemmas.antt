-- The table of the kinds of bytes.
use Rattle.std.proofs.Common.{◌≡◌, ◌∙◌, ℕ, ◌<◌, Bool, true, false, ◌||◌, eqb, leb}
use Rattle.std.proofs.Common.{List, [], ◌∷◌, refl, subst, slice_index}
use Rattle.std.proofs.lemmas.Bool.{agree_below_at, eqb-true, leb-true}
use Rattle.std.specs.Prelude.{nat_le, ◌≤◌}
use Rattle.tokens.specs.Characters.{is_letter, is_name_byte}

-- as the code has it
unfoldable pub kinds : List ℕ
kinds =
    2 ∷ 2 ∷ 2 ∷ 2 ∷ 2 ∷ 2 ∷ 2 ∷ 2 ∷ 2 ∷ 2 ∷ 2 ∷ 2 ∷ 2 ∷ 2 ∷ 2 ∷ 2 ∷ 2 ∷ 2 ∷ 2 ∷ 2 ∷ 2 ∷ 2 ∷ 2 ∷ 2 ∷ 2 ∷ 2 ∷ 2 ∷ 2 ∷ 2 ∷
    2 ∷ 2 ∷ 2 ∷
    2 ∷ 18 ∷ 2 ∷ 2 ∷ 2 ∷ 13 ∷ 14 ∷ 2 ∷ 3 ∷ 4 ∷ 11 ∷ 9 ∷ 7 ∷ 10 ∷ 2 ∷ 12 ∷ 1 ∷ 1 ∷ 1 ∷ 1 ∷ 1 ∷ 1 ∷ 1 ∷ 1 ∷ 1 ∷ 1 ∷ 2 ∷
    8 ∷ 19 ∷ 21 ∷ 20 ∷ 2 ∷
    2 ∷ 0 ∷ 0 ∷ 0 ∷ 0 ∷ 0 ∷ 0 ∷ 0 ∷ 0 ∷ 0 ∷ 0 ∷ 0 ∷ 0 ∷ 0 ∷ 0 ∷ 0 ∷ 0 ∷ 0 ∷ 0 ∷ 0 ∷ 0 ∷ 0 ∷ 0 ∷ 0 ∷ 0 ∷ 0 ∷ 0 ∷ 2 ∷ 2 ∷
    2 ∷ 16 ∷ 0 ∷
    2 ∷ 0 ∷ 0 ∷ 0 ∷ 0 ∷ 0 ∷ 0 ∷ 0 ∷ 0 ∷ 0 ∷ 0 ∷ 0 ∷ 0 ∷ 0 ∷ 0 ∷ 0 ∷ 0 ∷ 0 ∷ 0 ∷ 0 ∷ 0 ∷ 0 ∷ 0 ∷ 0 ∷ 0 ∷ 0 ∷ 0 ∷ 5 ∷ 15 ∷
    6 ∷ 17 ∷ 2 ∷
    2 ∷ 2 ∷ 2 ∷ 2 ∷ 2 ∷ 2 ∷ 2 ∷ 2 ∷ 2 ∷ 2 ∷ 2 ∷ 2 ∷ 2 ∷ 2 ∷ 2 ∷ 2 ∷ 2 ∷ 2 ∷ 2 ∷ 2 ∷ 2 ∷ 2 ∷ 2 ∷ 2 ∷ 2 ∷ 2 ∷ 2 ∷ 2 ∷ 2 ∷
    2 ∷ 2 ∷ 2 ∷
    2 ∷ 2 ∷ 2 ∷ 2 ∷ 2 ∷ 2 ∷ 2 ∷ 2 ∷ 2 ∷ 2 ∷ 2 ∷ 2 ∷ 2 ∷ 2 ∷ 2 ∷ 2 ∷ 2 ∷ 2 ∷ 2 ∷ 2 ∷ 2 ∷ 2 ∷ 2 ∷ 2 ∷ 2 ∷ 2 ∷ 2 ∷ 2 ∷ 2 ∷
    2 ∷ 2 ∷ 2 ∷
    2 ∷ 2 ∷ 2 ∷ 2 ∷ 2 ∷ 2 ∷ 2 ∷ 2 ∷ 2 ∷ 2 ∷ 2 ∷ 2 ∷ 2 ∷ 2 ∷ 2 ∷ 2 ∷ 2 ∷ 2 ∷ 2 ∷ 2 ∷ 2 ∷ 2 ∷ 2 ∷ 2 ∷ 2 ∷ 2 ∷ 2 ∷ 2 ∷ 2 ∷
    2 ∷ 2 ∷ 2 ∷
    2 ∷ 2 ∷ 2 ∷ 2 ∷ 2 ∷ 2 ∷ 2 ∷ 2 ∷ 2 ∷ 2 ∷ 2 ∷ 2 ∷ 2 ∷ 2 ∷ 2 ∷ 2 ∷ 2 ∷ 2 ∷ 2 ∷ 2 ∷ 2 ∷ 2 ∷ 2 ∷ 2 ∷ 2 ∷ 2 ∷ 2 ∷ 2 ∷ 2 ∷
    2 ∷ 2 ∷ 2 ∷ []

-- what it says of each byte
pub letters : (b : ℕ) → b < 256 → eqb (slice_index kinds b) 0 ≡ is_letter b
unfolding kinds
letters b h = agree_below_at (λ x. eqb (slice_index kinds x) 0) is_letter 256 b refl h

pub bytes_of_names : (b : ℕ) → b < 256 → leb (slice_index kinds b) 1 ≡ is_name_byte b
unfolding kinds
bytes_of_names b h = agree_below_at (λ x. leb (slice_index kinds x) 1) is_name_byte 256 b refl h

-- the punctuators of one byte, each at its kind
abbrev pub punctuator_bytes : List ℕ
punctuator_bytes =
    0 ∷ 0 ∷ 0 ∷ 40 ∷ 41 ∷ 123 ∷ 125 ∷ 44 ∷ 59 ∷ 43 ∷ 45 ∷ 42 ∷ 47 ∷ 37 ∷ 38 ∷ 124 ∷ 94 ∷ 126 ∷ 33 ∷ 60 ∷ 62 ∷ 61 ∷ []

-- one look at each byte serves all kinds
has_its_kind : (b : ℕ) → b < 256 →
    (nat_le (slice_index kinds b) 2 || eqb b (slice_index punctuator_bytes (slice_index kinds b))) ≡ true
unfolding kinds
has_its_kind b h =
    agree_below_at
    (λ x. nat_le (slice_index kinds x) 2 || eqb x (slice_index punctuator_bytes (slice_index kinds x)))
    (λ x. true) 256 b refl h

the_other : (t u : Bool) → (t || u) ≡ true → t ≡ false → u ≡ true
the_other true u e f = absurd cc
the_other false u e f = e

-- a byte by its kind, which no other byte has
pub by_kind : (kind c : ℕ) → nat_le kind 2 ≡ false → slice_index punctuator_bytes kind ≡ c → (b : ℕ) → b < 256 →
    slice_index kinds b ≡ kind → b ≡ c
by_kind kind c high at b h e =
    let own = subst (λ (k : ℕ). (nat_le k 2 || eqb b (slice_index punctuator_bytes k)) ≡ true) e (has_its_kind b h) in
    eqb-true b _ (the_other _ _ own high) ∙ at

pub kinds-most : (b : ℕ) → b < 256 → slice_index kinds b ≤ 21
unfolding kinds
kinds-most b h = leb-true _ _ (agree_below_at (λ x. nat_le (slice_index kinds x) 21) (λ x. true) 256 b refl h)
