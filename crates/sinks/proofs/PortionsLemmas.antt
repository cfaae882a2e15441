-- What a sink took in one call after another.
use Rattle.std.proofs.Common.{◌≡◌, ◌⊎◌, inl, inr, ℕ, ◌+◌, ◌<◌, ◌≤◌, List, [], ◌∷◌, ◌++◌, Some, None, length, take, get_or, map, rules, refl, sym, ap, ◌∙◌, append_assoc, arith}
use Rattle.std.specs.List.{concat, between}
use Rattle.std.proofs.lemmas.List.{append-nil, map-append, take-append-drop, take_all, take_more, drop_all}
use Rattle.std.proofs.lemmas.Slice.{between_to_end}
use Rattle.std.proofs.lemmas.List.Folds.{concat-append}
use Rattle.sinks.specs.Portions.{Portions, and_portions, Takes, TakesAllBut, TakesPrefix, TakesWhole, buffer_bytes}

-- portions after portions
pub and_portions_twice : (p : Portions) (xs ys : List (List ℕ)) →
    and_portions (and_portions p xs) ys ≡ and_portions p (xs ++ ys)
and_portions_twice None xs ys = refl
and_portions_twice (Some taken) xs ys =
    ap (λ (l : List (List ℕ)). Some (record taken { portions = l })) (append_assoc taken.portions xs ys)

-- no portions
pub and_portions_none : (p : Portions) → p ≡ and_portions p []
and_portions_none None = refl
and_portions_none (Some taken) =
    ap (λ (l : List (List ℕ)). Some (record taken { portions = l })) (sym (append-nil taken.portions))

-- at first nothing is taken
pub nothing_taken : (p : Portions) (bytes : List ℕ) → TakesAllBut p p bytes bytes
nothing_taken p bytes = record { portions = []; taken = and_portions_none p; joined = refl }

-- one more call takes a prefix of what is left
pub one_more : (before now after : Portions) (bytes left : List ℕ) (n : ℕ) → TakesAllBut before now bytes left
    → after ≡ and_portions now (take n left ∷ []) → TakesAllBut before after bytes (between n (length left) left)
one_more before now after bytes left n so_far taken = record {
  portions = so_far.portions ++ take n left ∷ [];
  taken = taken ∙ ap (λ p. and_portions p (take n left ∷ [])) so_far.taken ∙
      and_portions_twice before so_far.portions (take n left ∷ []);
  joined = rw (between_to_end left n (length left) (search rules))
      (simp (concat-append, append_assoc, append-nil, take-append-drop) so_far.joined);
}

-- nothing is left, and it was one portion if it had to be
pub all_taken : (before after : Portions) (bytes : List ℕ) → TakesAllBut before after bytes []
    → (TakesWhole before → 0 < length bytes → length bytes ≤ buffer_bytes → after ≡ and_portions before (bytes ∷ []))
    → Takes before after bytes
all_taken before after bytes all one =
    record {
      portions = all.portions;
      taken = all.taken;
      joined = sym (append-nil (concat all.portions)) ∙ all.joined;
      one = one;
    }

-- and back
pub none_left : (before after : Portions) (bytes : List ℕ) → Takes before after bytes →
    TakesAllBut before after bytes []
none_left before after bytes all =
    record { portions = all.portions; taken = all.taken; joined = append-nil (concat all.portions) ∙ all.joined }

-- what was left is taken, all but some
pub all_but_then : (before now after : Portions) (bytes left rest : List ℕ) → TakesAllBut before now bytes left
    → TakesAllBut now after left rest → TakesAllBut before after bytes rest
all_but_then before now after bytes left rest first second = record {
  portions = first.portions ++ second.portions;
  taken = second.taken ∙ ap (λ p. and_portions p second.portions) first.taken ∙
      and_portions_twice before first.portions second.portions;
  joined = simp (concat-append, append_assoc, second.joined) first.joined;
}

-- a prefix of what was left is taken
pub front_then : (before now after : Portions) (bytes left : List ℕ) → TakesAllBut before now bytes left
    → TakesPrefix now after left → TakesPrefix before after bytes
front_then before now after bytes left first (rest, second) =
    (rest, all_but_then before now after bytes left rest first second)

-- the bytes go on, and so does what is left
pub all_but_more : (before after : Portions) (bytes left more : List ℕ) → TakesAllBut before after bytes left
    → TakesAllBut before after (bytes ++ more) (left ++ more)
all_but_more before after bytes left more so_far = record {
  portions = so_far.portions;
  taken = so_far.taken;
  joined = sym (append_assoc (concat so_far.portions) left more) ∙ ap (λ l. l ++ more) so_far.joined;
}

-- a prefix of the bytes is one of more bytes
pub front_more : (before after : Portions) (bytes more : List ℕ) → TakesPrefix before after bytes →
    TakesPrefix before after (bytes ++ more)
front_more before after bytes more (left, so_far) = (left ++ more, all_but_more before after bytes left more so_far)

-- of these bytes none is taken, or all are by one call, and then none is left
abbrev pub InOneCall : Portions → Portions → List ℕ → List ℕ → Type 0
InOneCall before now bytes left =
    ((now ≡ before) × (left ≡ bytes)) ⊎ ((now ≡ and_portions before (bytes ∷ [])) × (left ≡ []))

-- a call that takes all that is left was the only one
pub one_call : (before now after : Portions) (bytes left : List ℕ) (n : ℕ) →
    (TakesWhole before → InOneCall before now bytes left)
    → 0 < length left → (TakesWhole now → n ≡ length left) → after ≡ and_portions now (take n left ∷ [])
    → TakesWhole before → InOneCall before after bytes (between n (length left) left)
one_call before now after bytes left n so_far some all taken whole = elim (so_far whole) [
  | inl (same, none) ↦
      let every : n ≡ length left = all (rw same whole) in
      inr (
        rw (taken, same, every, none)
            (ap (λ l. and_portions before (l ∷ [])) (take_all (length bytes) bytes (search rules))),
        rw (every, between_to_end left (length left) (length left) (search rules))
            (drop_all (length left) left (search rules)),
      )
  | inr (once, none) ↦ let no : length left ≡ 0 = ap length none in absurd (omega arith)
]

-- the bytes of the first portions, with one portion more
pub joined_more : {X : Type 0} (bytes : X → List ℕ) (xs : List X) (n : ℕ) (x : X) → n < length xs → x ≡ get_or xs n x
    → concat (map bytes (take (n + 1) xs)) ≡ concat (map bytes (take n xs)) ++ bytes x
joined_more bytes xs n x within is =
    simp (take_more xs n x within, map-append, concat-append, append-nil)
    (ap (λ y. concat (map bytes (take n xs)) ++ bytes y) (sym is))
