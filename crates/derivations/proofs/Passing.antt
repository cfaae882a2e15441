-- The steps up to the one that passes a token.
use Rattle.std.proofs.Common.{◌≡◌, ℕ, suc, ◌+◌, ◌<◌, ◌≤◌, List, ◌++◌, refl, sym, ap, ◌∙◌, subst, Bool, true, false, arith}
use Rattle.std.specs.Prelude.{◌^◌, ◌≢◌, drop, if◌then◌else◌}
use Rattle.tokens.specs.declared.located_tokens.LocatedToken.{LocatedToken}
use Rattle.grammar.specs.Grammar.{Item, is_lexical_error}
use Rattle.grammar.specs.Profile.{Profile}
use Rattle.derivations.proofs.Stepping.{rest_after}
use Rattle.derivations.proofs.Walking.{StepReaches, step_reaches}
use Rattle.derivations.specs.Positions.{passes_with, positions_after}
use Rattle.derivations.specs.Stacks.{Moves, items_of, tokens_passed}
use Rattle.derivations.specs.Steps.{front_of, outcome_of}
use Rattle.derivations.specs.Walks.{AreNext, PassesToken, Reaches, positions_next, walk_at}
use Rattle.derivations.specs.declared.addresses.SourcePosition.{SourcePosition}
use Rattle.derivations.specs.declared.locations.Located.{Located}
use Rattle.derivations.specs.declared.steps.Automaton.{Automaton}
use Rattle.derivations.specs.declared.steps.StepEnd.{StepEnd}
use Rattle.derivations.specs.declared.steps.StepEnd.TheVariants as step_end

-- some steps were made, and the next token is still the same
pub record Still (profile : Profile) (tokens : List LocatedToken) (given : List SourcePosition) (n place made : ℕ)
    (automaton : Automaton)
    (positions : List SourcePosition) : Type 0 where
  pub steps : ℕ
  pub many : steps ≡ n + made
  pub reaches : Reaches profile tokens given steps automaton positions
  pub rest : (walk_at tokens given steps).state.rest ≡ (walk_at tokens given n).state.rest
  pub left : (walk_at tokens given steps).positions ≡ (walk_at tokens given n).positions
  pub same_place : automaton.place ≡ place

-- so it is wherever the automaton was at first
abbrev pub StaysNext : Profile → Automaton → List SourcePosition → Located → Located → ℕ → Automaton
    → List SourcePosition → Type 0
StaysNext profile first kept next after made automaton positions =
    (tokens : List LocatedToken) (given : List SourcePosition) (n : ℕ) → Reaches profile tokens given n first kept
    → AreNext next after (walk_at tokens given n).state.rest (walk_at tokens given n).positions →
    first.place + 1 < 2 ^ 64
    → Still profile tokens given n first.place made automaton positions

pub begins : (profile : Profile) (first : Automaton) (kept : List SourcePosition) (next after : Located) →
    StaysNext profile first kept next after 0 first kept
begins profile first kept next after tokens given n r are few =
    record { steps = n; many = omega arith; reaches = r; rest = refl; left = refl; same_place = refl }

-- what one more step does
pub record IsStep (profile : Profile) (next after : Located) (old new : Automaton)
    (before positions : List SourcePosition) : Type 0 where
  pub ends : outcome_of (front_of old.stack.items) next.token after.token ≡ step_end.Stepped
  pub moves : Moves old new next after
  pub kept : is_lexical_error next.token ≡ false → positions ≡ before ++ positions_next profile old next

ended : (end outcome : StepEnd) → end ≡ step_end.Stepped → (end ≢ step_end.Full → end ≡ outcome) →
    outcome ≡ step_end.Stepped
ended end outcome e f =
    let other : step_end.Stepped ≢ step_end.Full = λ h. cc in
    sym (f (λ h. other (sym e ∙ h))) ∙ e

pub is_step : (profile : Profile) (next after : Located) (old new : Automaton) (before positions : List SourcePosition)
    (end : StepEnd) → end ≡ step_end.Stepped →
    (end ≢ step_end.Full → end ≡ outcome_of (front_of old.stack.items) next.token after.token) →
    (end ≡ step_end.Stepped → Moves old new next after) →
    (is_lexical_error next.token ≡ false → positions ≡ before ++ positions_next profile old next) →
    IsStep profile next after old new before positions
is_step profile next after old new before positions end e ends moves kept =
    record { ends = ended end _ e ends; moves = moves e; kept = kept }

flag_rest : (stack : List Item) (rest : List LocatedToken) (b : Bool) → passes_with stack ≡ b →
    rest_after stack rest ≡ (if b then drop 1 rest else rest)
flag_rest stack rest b e = ap (λ (x : Bool). if x then drop 1 rest else rest) e

flag_left : (stack : List Item) (positions : List SourcePosition) (b : Bool) → passes_with stack ≡ b →
    positions_after stack positions ≡ (if b then drop 1 positions else positions)
flag_left stack positions b e = ap (λ (x : Bool). if x then drop 1 positions else positions) e

-- the next token is the same, at the same position
pub still_next : (next after : Located) (rest rest' : List LocatedToken) (left left' : List SourcePosition) →
    rest' ≡ rest →
    left' ≡ left → AreNext next after rest left → AreNext next after rest' left'
still_next next after rest rest' left left' e f are =
    subst (λ (l : List SourcePosition). AreNext next after rest' l) (sym f)
    (subst (λ (l : List LocatedToken). AreNext next after l left) (sym e) are)

flag_place : (stack : List Item) (b : Bool) → passes_with stack ≡ b →
    tokens_passed (passes_with stack) ≡ tokens_passed b
flag_place stack b e = ap tokens_passed e

-- no token was passed: the place stayed
pub stays : (profile : Profile) (first old new : Automaton) (kept before positions : List SourcePosition)
    (next after : Located) (made : ℕ) → StaysNext profile first kept next after made old before →
    IsStep profile next after old new before positions → new.place ≤ first.place →
    StaysNext profile first kept next after (made + 1) new positions
stays profile first old new kept before positions next after made each is low tokens given n r are few =
    let still : Still profile tokens given n first.place made old before = each tokens given n r are few in
    let to : StepReaches profile tokens given still.steps old new positions =
    step_reaches profile tokens given still.steps old new before positions next after still.reaches
    (still_next next after _ _ _ _ still.rest still.left are) is.ends is.moves is.kept in
    by still to (passes_with (items_of old.stack.items)) refl
  where
    by : (still : Still profile tokens given n first.place made old before) →
        StepReaches profile tokens given still.steps old new positions → (b : Bool) →
        passes_with (items_of old.stack.items) ≡ b → Still profile tokens given n first.place (made + 1) new positions
    by still to true e = absurd (
        let moved : new.place ≡ old.place + tokens_passed (passes_with (items_of old.stack.items)) =
        is.moves.place (omega (arith, still.same_place, few)) in
        let one : tokens_passed (passes_with (items_of old.stack.items)) ≡ 1 =
        flag_place (items_of old.stack.items) true e in
        omega (arith, moved, one, still.same_place, low))
    by still to false e = record {
      steps = suc still.steps;
      many = omega (arith, still.many);
      reaches = to.reaches;
      rest = to.rest ∙ flag_rest (items_of old.stack.items) (walk_at tokens given still.steps).state.rest false e
          ∙ still.rest;
      left = to.left ∙ flag_left (items_of old.stack.items) (walk_at tokens given still.steps).positions false e
          ∙ still.left;
      same_place =
          let moved : new.place ≡ old.place + tokens_passed (passes_with (items_of old.stack.items)) =
          is.moves.place (omega (arith, still.same_place, few)) in
          let none : tokens_passed (passes_with (items_of old.stack.items)) ≡ 0 =
          flag_place (items_of old.stack.items) false e in
          omega (arith, moved, none, still.same_place);
    }

-- a token was passed
pub passed : (profile : Profile) (first old new : Automaton) (kept before positions : List SourcePosition)
    (next after : Located) (made : ℕ) → StaysNext profile first kept next after made old before →
    IsStep profile next after old new before positions → first.place < new.place →
    (tokens : List LocatedToken) (given : List SourcePosition) (n : ℕ) → Reaches profile tokens given n first kept →
    AreNext next after (walk_at tokens given n).state.rest (walk_at tokens given n).positions →
    first.place + 1 < 2 ^ 64 →
    PassesToken profile tokens given n new positions × (new.place ≡ first.place + 1)
passed profile first old new kept before positions next after made each is high tokens given n r are few =
    let still : Still profile tokens given n first.place made old before = each tokens given n r are few in
    let to : StepReaches profile tokens given still.steps old new positions =
    step_reaches profile tokens given still.steps old new before positions next after still.reaches
    (still_next next after _ _ _ _ still.rest still.left are) is.ends is.moves is.kept in
    by still to (passes_with (items_of old.stack.items)) refl
  where
    by : (still : Still profile tokens given n first.place made old before) →
        StepReaches profile tokens given still.steps old new positions → (b : Bool) →
        passes_with (items_of old.stack.items) ≡ b →
        PassesToken profile tokens given n new positions × (new.place ≡ first.place + 1)
    by still to false e = absurd (
        let moved : new.place ≡ old.place + tokens_passed (passes_with (items_of old.stack.items)) =
        is.moves.place (omega (arith, still.same_place, few)) in
        let none : tokens_passed (passes_with (items_of old.stack.items)) ≡ 0 =
        flag_place (items_of old.stack.items) false e in
        omega (arith, moved, none, still.same_place, high))
    by still to true e =
        let moved : new.place ≡ old.place + tokens_passed (passes_with (items_of old.stack.items)) =
        is.moves.place (omega (arith, still.same_place, few)) in
        let one : tokens_passed (passes_with (items_of old.stack.items)) ≡ 1 =
        flag_place (items_of old.stack.items) true e in (
          record {
            steps = suc still.steps;
            before = still.steps;
            last = omega arith;
            unpassed = still.rest;
            reaches = to.reaches;
            rest = to.rest ∙ flag_rest (items_of old.stack.items) (walk_at tokens given still.steps).state.rest true e
                ∙ ap (λ (l : List LocatedToken). drop 1 l) still.rest;
            left = to.left ∙ flag_left (items_of old.stack.items) (walk_at tokens given still.steps).positions true e
                ∙ ap (λ (l : List SourcePosition). drop 1 l) still.left;
          },
          omega (arith, moved, one, still.same_place),
        )
