-- What the answer to an action says.
use Rattle.std.proofs.Common.{◌≡◌, ℕ, refl, subst, false}
use Rattle.std.specs.Prelude.{Result, Ok, Err}
use Rattle.grammar.specs.declared.build.BuildFault.{BuildFault}
use Rattle.grammar.specs.declared.build.BuildFault.TheVariants as build_fault
use Rattle.grammar.specs.declared.actions.Action.{Action}
use Rattle.grammar.specs.declared.actions.Action.TheVariants.{EndFunction}
use Rattle.grammar.specs.Actions.{ends_function}
use Rattle.grammar.specs.Building.{Representation, FitsWithin, IsOver, Judges, Measures, Refuses}

-- an action other than the end of a function
pub ends_none : (action : Action) → ((variables : ℕ) → action ≡ EndFunction variables → ⊥) →
    ends_function action ≡ false
ends_none (EndFunction variables) other = absurd (other variables refl)
ends_none action other = refl

-- it is refused for want of memory alone
pub judges_other : {A : Type 0} (result : Result A BuildFault) (denied : Type 0) (before : Representation)
    (action : Action) →
    ends_function action ≡ false → Refuses result denied → Judges result denied before action
judges_other result denied before (EndFunction variables) e refuses = absurd (cc)
judges_other result denied before action e refuses = refuses

-- the end of a function if the code fits
pub measures_fitting : {A : Type 0} (result : Result A BuildFault) (denied : Type 0) (before : Representation) →
    FitsWithin before → Refuses result denied → Measures result denied before
measures_fitting (Ok x) denied before fits refuses = fits
measures_fitting (Err build_fault.Memory) denied before fits refuses = (refuses, fits)
measures_fitting (Err build_fault.Full) denied before fits refuses = absurd refuses

-- what each refusal of the end of a function says
pub measured_over : {A : Type 0} (result : Result A BuildFault) (denied : Type 0) (before : Representation) →
    Measures result denied before → result ≡ Err build_fault.Full → IsOver before
measured_over result denied before m is = subst (λ r. Measures r denied before) is m
