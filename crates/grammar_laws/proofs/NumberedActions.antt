-- Actions that may follow one another have numbers below the limits.
use Rattle.std.proofs.Common.{◌≡◌, ℕ, List, [], ◌∷◌, refl, Bool, true, false}
use Rattle.std.specs.Prelude.{Option, Some, None, IsTrue, is_some, if◌then◌else◌}
use Rattle.grammar.specs.declared.resolved_names.Var.{Var}
use Rattle.grammar.specs.declared.operators.StoreOp.{StoreOp}
use Rattle.grammar.specs.declared.actions.Action.{Action}
use Rattle.grammar.specs.declared.actions.Action.TheVariants.{FetchVariable, StoreVariable, EndCall, BeginFunction}
use Rattle.grammar.specs.declared.actions.Action.TheVariants.{EndFunction}
use Rattle.grammar_laws.specs.Emitted.{IsNumbered, AreNumbered}
use Rattle.grammar.specs.Following.{AValue, Fetched, InFunction, Opened, call_done, few_open, follow, follow_all}
use Rattle.grammar.specs.Following.{is_callee_numbered, is_var_numbered, stored_origin, then_follow, opens_within}
use Rattle.grammar.specs.NameLimits.{most_names}
use Rattle.grammar.specs.Resolved.{IsVariable}
use Rattle.grammar.proofs.Beginnings.{begin_makes, finish_makes}
use Rattle.grammar.proofs.UnfinishedSteps.{callee_in, if_true, only_true, variable_in}

store_numbered : (v : Var) (op : StoreOp) (o q : Opened) → follow (StoreVariable v op) o ≡ Some q →
    IsVariable most_names most_names v
store_numbered v op (AValue origin ∷ o) q e = variable_in v
    (only_true (is_var_numbered v) (AValue (stored_origin v origin) ∷ o) q e).0
store_numbered v op o q e = absurd (cc)

function_numbered : (number parameters : ℕ) (o q : Opened) → follow (BeginFunction number parameters) o ≡ Some q →
    IsNumbered (BeginFunction number parameters)
function_numbered number parameters [] q e = (begin_makes number parameters q e).0
function_numbered number parameters (x ∷ o) q e = absurd (cc)

finish_numbered : (variables : ℕ) (o q : Opened) → follow (EndFunction variables) o ≡ Some q →
    IsNumbered (EndFunction variables)
finish_numbered variables (InFunction parameters true ∷ []) q e = (finish_makes variables parameters true q e).variables
finish_numbered variables o q e = absurd (cc)

action_numbered : (a : Action) (o q : Opened) → follow a o ≡ Some q → IsNumbered a
action_numbered (FetchVariable v) o q e = variable_in v
    (if_true (is_var_numbered v) (opens_within (AValue (Fetched v)) o) q e).0
action_numbered (StoreVariable v op) o q e = store_numbered v op o q e
action_numbered (EndCall f) o q e = callee_in f (if_true (is_callee_numbered f) (call_done o) q e).0
action_numbered (BeginFunction number parameters) o q e = function_numbered number parameters o q e
action_numbered (EndFunction variables) o q e = finish_numbered variables o q e
action_numbered a o q e = tt

pub numbered : (acts : List Action) (o : Opened) → IsTrue (is_some (follow_all acts o)) → AreNumbered acts
numbered [] o h = tt
numbered (a ∷ acts) o h = by (λ q k. numbered acts q k) (follow a o) refl h
  where
    fewer : ((q : Opened) → IsTrue (is_some (follow_all acts q)) → AreNumbered acts) → (q : Opened) →
        follow a o ≡ Some q → (b : Bool) → IsTrue (is_some (if b then follow_all acts q else None)) →
        AreNumbered (a ∷ acts)
    fewer again q e true k = (action_numbered a o q e, again q k)
    fewer again q e false k = absurd (cc)

    by : ((q : Opened) → IsTrue (is_some (follow_all acts q)) → AreNumbered acts) → (next : Option Opened) →
        follow a o ≡ next → IsTrue (is_some (then_follow (follow_all acts) next)) → AreNumbered (a ∷ acts)
    by again None e k = absurd (cc)
    by again (Some q) e k = fewer again q e (few_open q) k
