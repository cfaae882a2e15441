-- What an index of the functions keeps.
use Rattle.std.proofs.Common.{◌≡◌, ◌≢◌, ℕ, ◌<◌, ◌≤◌, List, sym, ap, ◌∙◌, arith, get_or, length, set, ⊎_elim}
use Rattle.std.proofs.lemmas.Bool.{cases_eq}
use Rattle.std.proofs.lemmas.List.{get_or-set_other, get_or-set_same}
use Rattle.grammar.specs.Laws.Index.{Notes, bucket_of}

-- a name is noted in its bucket
pub noted : (name : List ℕ) (number b : ℕ) (index : List ℕ) → b ≡ bucket_of name → b < length index →
    number < get_or index b 0 → Notes name number index (set index b number)
noted name number b index e within less = record {
  here = omega (arith, ap (λ k. get_or (set index b number) k 0) (sym e) ∙ get_or-set_same index b number 0 within);
  others = λ other. ⊎_elim
      (λ (same : bucket_of other ≡ b). omega (
        arith,
        less,
        ap (λ k. get_or (set index b number) k 0) same ∙ get_or-set_same index b number 0 within,
        ap (λ k. get_or index k 0) same,
      ))
      (λ (apart : bucket_of other ≢ b). omega (arith, get_or-set_other index b (bucket_of other) number 0 apart))
      (cases_eq (bucket_of other) b);
}

-- and stays there if its bucket has an earlier one
pub stays : (name : List ℕ) (number b : ℕ) (index : List ℕ) → b ≡ bucket_of name → get_or index b 0 ≤ number →
    Notes name number index index
stays name number b index e most =
    record { here = omega (arith, most, ap (λ k. get_or index k 0) e); others = λ other. omega arith }

pub ruleset notes = (noted, stays)
