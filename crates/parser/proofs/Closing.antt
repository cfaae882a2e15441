-- The actions of whole functions leave nothing open.
use Rattle.std.proofs.Common.{◌≡◌, ℕ, List, [], ◌∷◌, ◌++◌, refl, sym, ap, ◌∙◌, subst, Bool, true, false, append_assoc, append-nil, length}
use Rattle.std.specs.Prelude.{Option, Some, None, IsTrue, if◌then◌else◌, is_some}
use Rattle.grammar.specs.declared.actions.Action.{Action}
use Rattle.grammar.specs.declared.actions.Action.TheVariants.{BeginFunction, EndFunction}
use Rattle.grammar.specs.Actions.{body_actions, function_actions, last_return}
use Rattle.grammar.specs.Beginning.{IsBeginning, definitions_actions}
use Rattle.grammar.specs.Derivation.{Definition}
use Rattle.grammar.specs.Following.{InFunction, Opened, few_open, follow, follow_all, then_follow}
use Rattle.grammar.proofs.Beginnings.{beginning_follows, finish_makes}

-- the end of a function, where it may follow
finish_leaves : (v : ℕ) (o q : Opened) → follow (EndFunction v) o ≡ Some q → q ≡ []
finish_leaves v (InFunction k last ∷ []) q e = sym (finish_makes v k last q e).nothing
finish_leaves v (InFunction k true ∷ x ∷ o) q e = absurd (cc)
finish_leaves v (InFunction k false ∷ x ∷ o) q e = absurd (cc)
finish_leaves v o q e = absurd (cc)

-- one action, and those after it
first_follows : (more : Opened → Option Opened) (next : Option Opened) (q : Opened) → then_follow more next ≡ Some q →
    ((p : Opened) → next ≡ Some p → more p ≡ Some q → q ≡ []) → q ≡ []
first_follows more None q e on = absurd (cc)
first_follows more (Some p) q e on = by (few_open p) e
  where
    by : (few : Bool) → (if few then more p else None) ≡ Some q → q ≡ []
    by true h = on p refl h
    by false h = absurd (cc)

all_closed : (xs : List Action) (v : ℕ) (o q : Opened) → follow_all (xs ++ EndFunction v ∷ []) o ≡ Some q → q ≡ []
all_closed [] v o q e =
    first_follows (follow_all []) (follow (EndFunction v) o) q e
    (λ p h same. let it : p ≡ q = cc in subst (λ (r : Opened). r ≡ []) it (finish_leaves v o p h))
all_closed (x ∷ xs) v o q e =
    first_follows (follow_all (xs ++ EndFunction v ∷ [])) (follow x o) q e (λ p h same. all_closed xs v p q same)

-- these end with the end of a function
record EndsFunction (acts : List Action) : Type 0 where
  before : List Action
  variables : ℕ
  is : acts ≡ before ++ EndFunction variables ∷ []

one_ends : (d : Definition) → EndsFunction (function_actions d.number d.function)
one_ends d = record {
  before = BeginFunction d.number d.function.parameters ∷ (body_actions d.function.body ++ last_return);
  variables = length d.function.variables;
  is = ap (λ (xs : List Action). BeginFunction d.number d.function.parameters ∷ xs)
      (sym (append_assoc (body_actions d.function.body) last_return (EndFunction (length d.function.variables) ∷ [])));
}

all_end : (d : Definition) (ds : List Definition) → EndsFunction (definitions_actions (d ∷ ds))
all_end d [] = subst EndsFunction (sym (append-nil (function_actions d.number d.function))) (one_ends d)
all_end d (e ∷ ds) =
    let h : EndsFunction (definitions_actions (e ∷ ds)) = all_end e ds in
    record {
      before = function_actions d.number d.function ++ h.before;
      variables = h.variables;
      is = ap (λ (xs : List Action). function_actions d.number d.function ++ xs) h.is
          ∙ sym (append_assoc (function_actions d.number d.function) h.before (EndFunction h.variables ∷ []));
    }

pub nothing_open : (ds : List Definition) → IsBeginning (definitions_actions ds) →
    follow_all (definitions_actions ds) [] ≡ Some []
nothing_open [] begins = refl
nothing_open (d ∷ ds) begins =
    by (follow_all (definitions_actions (d ∷ ds)) []) refl (beginning_follows (definitions_actions (d ∷ ds)) begins)
  where
    by : (r : Option Opened) → follow_all (definitions_actions (d ∷ ds)) [] ≡ r → IsTrue (is_some r) → r ≡ Some []
    by None e h = absurd (cc)
    by (Some q) e h =
        let k : EndsFunction (definitions_actions (d ∷ ds)) = all_end d ds in
        ap Some (all_closed k.before k.variables [] q (subst (λ (xs : List Action). follow_all xs [] ≡ Some q) k.is e))
