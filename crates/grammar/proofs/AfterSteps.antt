-- What holds of the state after a step, if there is a step.
use Rattle.std.proofs.Common.{◌≡◌, ℕ, pos, List, [], ◌∷◌, ◌++◌, refl, Bool, true, false}
use Rattle.std.specs.Prelude.{Option, Some, None, unwrap_or, if◌then◌else◌}
use Rattle.grammar.specs.Derivation.{State, AnExpr, stack_step, stepped, next_token, matched, name_matched, constant_matched, replaced, past_token, after_name, with_trees}
use Rattle.grammar.specs.Grammar.{Item, Role, Production, is_lexical_error}
use Rattle.grammar.specs.Tree.{Constant}

abbrev pub IfStepped : (State → Type 0) → Option State → Type 0
IfStepped P None = Unit {0}
IfStepped P (Some s) = P s

-- Of the steps of an item, by its kind: the state has the items after it.

pub if_matched : (P : State → Type 0) (fits : Bool) (stack : List Item) (s : State) →
    (fits ≡ true → P (past_token (record s { stack = stack }))) →
    IfStepped P (matched fits (record s { stack = stack }))
if_matched P true stack s h = h refl
if_matched P false stack s h = tt

pub if_named : (P : State → Type 0) (role : Role) (name : Option (List ℕ)) (stack : List Item) (s : State) →
    ((n : List ℕ) → name ≡ Some n → P (after_name role n (record s { stack = stack }))) →
    IfStepped P (name_matched role name (record s { stack = stack }))
if_named P role (Some n) stack s h = h n refl
if_named P role None stack s h = tt

pub if_constant : (P : State → Type 0) (value : Option ℕ) (stack : List Item) (s : State) →
    ((n : ℕ) → value ≡ Some n →
    P (with_trees (AnExpr (Constant (pos n)) ∷ []) (past_token (record s { stack = stack }))))
    → IfStepped P (constant_matched value (record s { stack = stack }))
if_constant P (Some n) stack s h = h n refl
if_constant P None stack s h = tt

pub if_replaced : (P : State → Type 0) (production : Production) (stack : List Item) (s : State) →
    ((items : List Item) → production ≡ Some items → P (record s { stack = items ++ stack })) →
    IfStepped P (replaced production (record s { stack = stack }))
if_replaced P (Some items) stack s h = h items refl
if_replaced P None stack s h = tt

-- at a lexical error there is no step
pub if_sound : (P : State → Type 0) (b : Bool) (next : Option State) → IfStepped P next →
    IfStepped P (if b then None else next)
if_sound P true next h = tt
if_sound P false next h = h

-- without a step the derivation stays
pub after_step : (P : State → Type 0) (s : State) → IfStepped P (stack_step s.stack s) → P s → P (stepped s)
after_step P s h here = by (is_lexical_error (next_token s.rest)) (stack_step s.stack s) h
  where
    by : (b : Bool) (next : Option State) → IfStepped P next → P (unwrap_or (if b then None else next) s)
    by true next h = here
    by false None h = here
    by false (Some t) h = h
