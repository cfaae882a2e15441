-- What was read of a source is needed, if no fault is before it.
use Rattle.std.proofs.Common.{◌≡◌, ℕ, ◌<◌, ◌≤◌, List, [], ◌∷◌, ◌++◌, sym, ap, ◌∙◌, subst, arith, length, length-append, le_refl}
use Rattle.tokens.specs.Ends.{IsRising}
use Rattle.tokens.specs.Cursors.{reach_of}
use Rattle.tokens.specs.Tokens.{tokens}
use Rattle.tokens.specs.declared.located_tokens.LocatedToken.{LocatedToken}
use Rattle.tokens.proofs.EndLemmas.{tokens-rising}
use Rattle.grammar.specs.Compiled.{all_faults, enough_steps}
use Rattle.grammar.specs.Derivation.{State, initial_state, derived}
use Rattle.grammar.specs.Faults.{Fault, first_fault}
use Rattle.grammar.specs.Laws.{WhatWasReadIsNeeded}
use Rattle.grammar.specs.Need.{last_end, need, needed}
use Rattle.grammar.specs.Laws.Parsing.{IsIn, IsFault}
use Rattle.grammar.specs.Profile.{Profile}
use Rattle.grammar.proofs.Bottoms.{fault_at_token}
use Rattle.grammar.proofs.Firsts.{at_rest}
use Rattle.grammar.proofs.LastTokens.{tokens_end}
use Rattle.grammar.proofs.Order.{first_in}
use Rattle.grammar.proofs.Verdicts.{IsRest, gathered, run_rests}

-- All tokens end where the last one does, or before.

next_by_last : (offset : ℕ) (next : LocatedToken) (others : List LocatedToken) → IsRising offset (next ∷ others) →
    next.end ≤ last_end (next ∷ others)
next_by_last offset next [] rising = le_refl next.end
next_by_last offset next (after ∷ others) rising =
    omega (arith, rising.1.0, next_by_last next.end after others rising.1)

reach_by_last : (offset : ℕ) (rest : List LocatedToken) → IsRising offset rest → reach_of rest ≤ last_end rest
reach_by_last offset [] rising = le_refl 0
reach_by_last offset (next ∷ []) rising = le_refl next.end
reach_by_last offset (next ∷ after ∷ others) rising = next_by_last next.end after others rising.1

last_behind : (located_token : LocatedToken) (others : List LocatedToken) →
    last_end others ≤ last_end (located_token ∷ others)
last_behind located_token [] = omega arith
last_behind located_token (other ∷ others) = le_refl (last_end (other ∷ others))

all_by_last : (offset : ℕ) (passed rest : List LocatedToken) → IsRising offset (passed ++ rest) →
    reach_of rest ≤ last_end (passed ++ rest)
all_by_last offset [] rest rising = reach_by_last offset rest rising
all_by_last offset (located_token ∷ passed) rest rising =
    omega (arith, last_behind located_token (passed ++ rest), all_by_last located_token.end passed rest rising.1)

-- What is reached from a token is reached from those after it.

reach_behind : (offset : ℕ) (located_token : LocatedToken) (others : List LocatedToken) → 0 < length others →
    IsRising offset (located_token ∷ others) → reach_of (located_token ∷ others) ≤ reach_of others
reach_behind offset located_token [] some rising = absurd (omega (arith, some))
reach_behind offset located_token (next ∷ []) some rising = le_refl next.end
reach_behind offset located_token (next ∷ after ∷ others) some rising = rising.1.1.0

reach_later : (offset : ℕ) (before rest : List LocatedToken) → 0 < length rest → IsRising offset (before ++ rest) →
    reach_of (before ++ rest) ≤ reach_of rest
reach_later offset [] rest some rising = le_refl (reach_of rest)
reach_later offset (located_token ∷ before) rest some rising =
    let others : 0 < length (before ++ rest) = omega (arith, length-append before rest, some) in
    omega (
      arith,
      reach_behind offset located_token (before ++ rest) others rising,
      reach_later located_token.end before rest some rising.1,
    )

same_others : (x y : LocatedToken) (xs ys : List LocatedToken) → x ∷ xs ≡ y ∷ ys → xs ≡ ys
same_others x y xs ys e = cc

-- with as many tokens left, or fewer
reach_by : (offset : ℕ) (before left passed rest : List LocatedToken) → before ++ left ≡ passed ++ rest →
    length left ≤ length rest → 0 < length left →
    IsRising offset (passed ++ rest) → reach_of rest ≤ reach_of left
reach_by offset before left [] rest is fewer some rising =
    subst (λ xs. reach_of xs ≤ reach_of left) is
    (reach_later offset before left some (subst (IsRising offset) (sym is) rising))
reach_by offset [] left (located_token ∷ passed) rest is fewer some rising =
    absurd (omega (arith, ap length is, length-append passed rest, fewer))
reach_by offset (x ∷ before) left (located_token ∷ passed) rest is fewer some rising =
    reach_by located_token.end before left passed rest (same_others x located_token _ _ is) fewer some rising.1

fault_by : (profile : Profile) (bytes : List ℕ) (passed rest : List LocatedToken) (f : Fault) →
    tokens bytes ≡ passed ++ rest → length f.rest ≤ length rest →
    IsFault profile (initial_state (tokens bytes)) f → reach_of rest ≤ reach_of f.rest
fault_by profile bytes passed rest f is fewer comes =
    let s : State = derived comes.steps (initial_state (tokens bytes)) in
    let at : f.rest ≡ s.rest = at_rest profile f s comes.here in
    let behind : IsRest s.rest (tokens bytes) = run_rests comes.steps (initial_state (tokens bytes)) in
    let some : 0 < length s.rest = fault_at_token profile (tokens bytes) comes.steps f (tokens_end bytes) comes.here in
    subst (λ xs. reach_of rest ≤ reach_of xs) (sym at)
    (reach_by 0 behind.before s.rest passed rest (sym behind.is ∙ is) (subst (λ xs. length xs ≤ length rest) at fewer)
    some (subst (IsRising 0) is (tokens-rising bytes)))

pub what_was_read_is_needed : WhatWasReadIsNeeded
unfolding need
what_was_read_is_needed profile bytes passed rest is none =
    by (all_faults profile (tokens bytes))
    (gathered profile (enough_steps (tokens bytes)) (initial_state (tokens bytes)))
  where
    by : (faults : List Fault) → ((f : Fault) → IsIn f faults → IsFault profile (initial_state (tokens bytes)) f) →
        reach_of rest ≤ needed (tokens bytes) faults
    by [] each =
        subst (λ xs. reach_of rest ≤ last_end xs) (sym is)
        (all_by_last 0 passed rest (subst (IsRising 0) is (tokens-rising bytes)))
    by (f ∷ faults) each =
        let comes : IsFault profile (initial_state (tokens bytes)) (first_fault f faults) =
        each (first_fault f faults) (first_in f faults) in
        fault_by profile bytes passed rest (first_fault f faults) is (none (first_fault f faults) comes) comes
