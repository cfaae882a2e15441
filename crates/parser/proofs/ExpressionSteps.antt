-- The steps of expressions: levels of operators, and which production the next token chooses.
use Rattle.std.proofs.Common.{◌≡◌, ℕ, zero, suc, ◌+◌, ◌-◌, ◌<◌, ◌≤◌, List, [], ◌∷◌, ◌++◌, refl, ap, ◌∙◌, subst, false, zero-add, suc-add, arith}
use Rattle.std.specs.Prelude.{Option, Some, None, nat_le}
use Rattle.std.proofs.lemmas.Bool.Decides.{nat_tests}
use Rattle.tokens.specs.declared.located_tokens.Token.{Token}
use Rattle.grammar.specs.declared.actions.Action.{Action}
use Rattle.grammar.specs.declared.name_limits.TheConstants.{MOST_NESTED}
use Rattle.grammar.specs.declared.operators.BinaryOperator.{BinaryOperator}
use Rattle.grammar.specs.declared.operators.StoreOp.{StoreOp}
use Rattle.grammar.specs.Actions.{middle}
use Rattle.grammar.specs.Derivation.{PartialTree}
use Rattle.grammar.specs.Faults.{nested_count}
use Rattle.grammar.specs.Grammar.{Item, AName, Close, Exactly, Expression, Level, Make, Mentioned, Operate, Part, Store, Tail, Unary}
use Rattle.grammar.specs.Laws.Climbing.{operator_from}
use Rattle.grammar.specs.Laws.OperatorTokens.{operator_of}
use Rattle.grammar.specs.Operators.{operator_at}
use Rattle.grammar_laws.specs.Emission.{and_then}
use Rattle.grammar.specs.declared.operators.TheConstants.{UNARY_LEVEL}
use Rattle.parser.specs.Automata.{all_tails, tails, tails_to}
use Rattle.parser.specs.Paths.{Origin, Path}
use Rattle.parser.specs.ScopedCursors.{ScopedCursor, token_after, token_of}
use Rattle.parser.specs.Starts.{StartsAssignment, StartsNoAssignment}
use Rattle.parser.proofs.AssignmentForms.{IsAssignment, SpellsStore, none_behind, plain_choice, plain_enters, store_chooses}
use Rattle.parser.proofs.NameLaws.{is_named}
use Rattle.parser.proofs.Operators.{SpellsOperator, all_looser, at_its_own, found, last_choice, level_choice, no_operator, none_at}
use Rattle.parser.proofs.PathLaws.{chosen, opened}

-- From a level down to an operand.

levels_path : {o : Origin} {stack : List Item} {values : List PartialTree} {acts : List Action} {at : ScopedCursor}
    (count floor : ℕ) → floor + count ≤ UNARY_LEVEL → Path o (Part (Level floor) ∷ stack) values acts at →
    Path o (Part (Level (floor + count)) ∷ tails count floor ++ stack) values acts at
levels_path {o} {stack} {values} {acts} {at} zero floor most h =
    let same : floor ≡ floor + 0 = omega arith in
    subst (λ (n : ℕ). Path o (Part (Level n) ∷ stack) values acts at) same h
levels_path {o} {stack} {values} {acts} {at} (suc count) floor most h =
    let same : floor + count + 1 ≡ floor + suc count = omega arith in
    subst (λ (n : ℕ). Path o (Part (Level n) ∷ tails (suc count) floor ++ stack) values acts at) same
    (chosen {more = []} (Level (floor + count)) (Part (Level (floor + count + 1)) ∷ Part (Tail (floor + count)) ∷ [])
    (λ after last. level_choice (floor + count) (token_of at) after (omega (arith, most))) (λ after last. refl) refl
    (levels_path count floor (omega (arith, most)) h))

pub operand_path : {o : Origin} {stack : List Item} {values : List PartialTree} {acts : List Action}
    {at : ScopedCursor} (floor : ℕ) → floor ≤ UNARY_LEVEL → Path o (Part (Level floor) ∷ stack) values acts at →
    Path o (Part Unary ∷ all_tails floor ++ stack) values acts at
operand_path {at = at} floor most h =
    let last : UNARY_LEVEL ≤ floor + (UNARY_LEVEL - floor) = omega (arith, most) in
    chosen {more = []} (Level (floor + (UNARY_LEVEL - floor))) (Part Unary ∷ [])
    (λ after more. last_choice (floor + (UNARY_LEVEL - floor)) (token_of at) after last) (λ after more. refl) refl
    (levels_path (UNARY_LEVEL - floor) floor (omega (arith, most)) h)

-- Levels of which no operator is next end.

drop_to : {o : Origin} {values : List PartialTree} {acts : List Action} {at : ScopedCursor} (stack : List Item)
    (kept more floor : ℕ) → operator_from (floor + kept) (token_of at) ≡ None →
    Path o (tails (more + kept) floor ++ stack) values acts at → Path o (tails kept floor ++ stack) values acts at
drop_to {o} {values} {acts} {at} stack kept zero floor none h =
    subst (λ (n : ℕ). Path o (tails n floor ++ stack) values acts at) (zero-add kept) h
drop_to {o} {values} {acts} {at} stack kept (suc more) floor none h =
    let level : ℕ = floor + (more + kept) in
    let absent : operator_at level (token_of at) ≡ None =
    none_at (floor + kept) level (token_of at) none (omega arith) in
    drop_to stack kept more floor none
    (chosen {more = []} (Tail level) [] (λ after last. no_operator level (token_of at) after absent)
    (λ after last. refl) (rw absent refl)
    (subst (λ (n : ℕ). Path o (tails n floor ++ stack) values acts at) (suc-add more kept) h))

none_from : (t : Token) (b : BinaryOperator) (n : ℕ) → operator_of t ≡ Some b → b.level < n → operator_from n t ≡ None
none_from t b n is less = let test : nat_le n b.level ≡ false = below n b.level less in rw (is, test) refl
  where
    below : (n k : ℕ) → k < n → nat_le n k ≡ false
    below n k less = grind (arith, nat_tests)

-- what is in front after an operand: the levels up to the next operator
pub operators_path : {o : Origin} {values : List PartialTree} {acts : List Action} {at : ScopedCursor}
    (stack : List Item) (count floor : ℕ) → operator_from (floor + count) (token_of at) ≡ None →
    Path o (tails count floor ++ stack) values acts at →
    Path o (tails_to (operator_from floor (token_of at)) floor ++ stack) values acts at
operators_path {o} {values} {acts} {at} stack count floor none h = by (operator_from floor (token_of at)) refl
  where
    by : (found : Option BinaryOperator) → operator_from floor (token_of at) ≡ found →
        Path o (tails_to found floor ++ stack) values acts at
    by None is =
        drop_to stack 0 count floor (subst (λ (n : ℕ). operator_from n (token_of at) ≡ None) (omega arith) is)
        (subst (λ (n : ℕ). Path o (tails n floor ++ stack) values acts at) (omega arith) h)
    by (Some b) is =
        let it = found floor (token_of at) b is in
        let order : floor ≤ b.level = it.1 in
        let under : b.level < floor + count = all_looser (floor + count) (token_of at) b none it.0 in
        let kept : ℕ = b.level + 1 - floor in
        let whole : count ≡ count - kept + kept = omega (arith, under, order) in
        drop_to stack kept (count - kept) floor (none_from (token_of at) b (floor + kept) it.0 (omega (arith, order)))
        (subst (λ (n : ℕ). Path o (tails n floor ++ stack) values acts at) whole h)

module _ {o : Origin} {values : List PartialTree} {acts : List Action} {at : ScopedCursor} where
  -- An operator.

  pub operator_path : (stack : List Item) (b : BinaryOperator) (floor : ℕ)
      (s : SpellsOperator b.level b.op (token_of at)) →
      operator_from floor (token_of at) ≡ Some b →
      Path o (tails_to (operator_from floor (token_of at)) floor ++ stack) values acts at →
      Path o
      (Exactly s.m ∷ Part (Level (b.level + 1)) ∷ Make (Operate b.op) ∷ tails (b.level + 1 - floor) floor ++ stack)
      values (and_then acts (middle b.op)) at
  operator_path stack b floor s is h =
      let order : floor ≤ b.level = (found floor (token_of at) b is).1 in
      let top : b.level + 1 - floor ≡ suc (b.level - floor) = omega (arith, order) in
      let level : floor + (b.level - floor) ≡ b.level = omega (arith, order) in
      let whole : tails (b.level + 1 - floor) floor ≡ Part (Tail b.level) ∷ tails (b.level - floor) floor =
      ap (λ (n : ℕ). tails n floor) top ∙ ap (λ (n : ℕ). Part (Tail n) ∷ tails (b.level - floor) floor) level in
      let own : operator_at b.level (token_of at) ≡ Some b.op =
      at_its_own (token_of at) b (found floor (token_of at) b is).0 in
      rw whole
      (chosen {more = middle b.op} (Tail b.level)
      (Exactly s.m ∷ Part (Level (b.level + 1)) ∷ Make (Operate b.op) ∷ Part (Tail b.level) ∷ [])
      (λ after last. s.choice_is after) (λ after last. refl) (rw own refl)
      (subst (λ (xs : List Item). Path o (xs ++ stack) values acts at) whole
      (subst (λ (b : Option BinaryOperator). Path o (tails_to b floor ++ stack) values acts at) is h)))

  -- An assignment, or none.

  pub plain_path : {stack : List Item} → StartsNoAssignment at → Path o (Part Expression ∷ stack) values acts at →
      Path o (Part Unary ∷ all_tails 1 ++ stack) values acts at
  plain_path none h =
      operand_path 1 (omega arith)
      (chosen {more = []} Expression (Part (Level 1) ∷ [])
      (λ after last. plain_choice (token_of at) after (none_behind at.position after none last))
      (λ after last. plain_enters (token_of at) after (none_behind at.position after none last)) refl h)

  pub store_path : {stack : List Item} (op : StoreOp) (a : IsAssignment at.position op)
      (s : SpellsStore op (token_after at)) →
      nested_count stack < MOST_NESTED → Path o (Part Expression ∷ stack) values acts at →
      Path o (AName Mentioned ∷ Exactly s.m ∷ Part Expression ∷ Make (Store op) ∷ Close ∷ stack) values acts at
  store_path op a s few h =
      opened {more = []} Expression (AName Mentioned ∷ Exactly s.m ∷ Part Expression ∷ Make (Store op) ∷ Close ∷ [])
      (store_chooses at.position op a s).is few refl h

pub assigned : {at : ScopedCursor} (op : StoreOp) → StartsAssignment op at → IsAssignment at.position op
assigned op starts = record { named = is_named _ starts.named; is = starts.is }
