-- Segments of a derivation one after another, and how a first fault goes back along one.
use Rattle.std.proofs.Common.{◌≡◌, ℕ, zero, suc, ◌+◌, List, [], ◌∷◌, ◌++◌, refl, sym, ap, ap₂, ◌∙◌, subst, zero-add, suc-add, append_assoc}
use Rattle.grammar.specs.declared.diagnostics.Diagnostic.{Diagnostic}
use Rattle.grammar.specs.Derivation.{State, stepped, derived}
use Rattle.grammar.specs.Faults.{Fault, faults_at, faults_in}
use Rattle.grammar.specs.Laws.Parsing.{IsIn, IsFault, IsFirstFault, Fails, DerivesWithoutFault}
use Rattle.grammar.specs.Profile.{Profile}

pub derived-add : (m n : ℕ) (s : State) → derived (m + n) s ≡ derived n (derived m s)
derived-add zero n s = ap (λ k. derived k s) (zero-add n)
derived-add (suc m) n s = ap (λ k. derived k s) (suc-add m n) ∙ derived-add m n (stepped s)

-- a state that no step changes
pub stays : (n : ℕ) (s : State) → stepped s ≡ s → derived n s ≡ s
stays zero s e = refl
stays (suc n) s e = ap (λ t. derived n t) e ∙ stays n s e

pub faults_in-add : (profile : Profile) (m n : ℕ) (s : State) →
    faults_in profile (m + n) s ≡ faults_in profile m s ++ faults_in profile n (derived m s)
faults_in-add profile zero n s = ap (λ k. faults_in profile k s) (zero-add n)
faults_in-add profile (suc m) n s =
    ap (λ k. faults_in profile k s) (suc-add m n)
    ∙ ap (λ faults. faults_at profile s ++ faults) (faults_in-add profile m n (stepped s))
    ∙
    sym
    (append_assoc (faults_at profile s) (faults_in profile m (stepped s))
    (faults_in profile n (derived m (stepped s))))

pub here : (profile : Profile) (s : State) → DerivesWithoutFault profile s s
here profile s = record { steps = 0; leads = refl; clean = refl }

pub then : (profile : Profile) (s t u : State) → DerivesWithoutFault profile s t → DerivesWithoutFault profile t u →
    DerivesWithoutFault profile s u
then profile s t u a b = record {
  steps = a.steps + b.steps;
  leads = derived-add a.steps b.steps s ∙ ap (λ v. derived b.steps v) a.leads ∙ b.leads;
  clean = faults_in-add profile a.steps b.steps s
      ∙ ap₂ ◌++◌ a.clean (ap (λ v. faults_in profile b.steps v) a.leads ∙ b.clean);
}

-- no faults in a list of two parts, so none in either
pub append_empty : (xs ys : List Fault) → xs ++ ys ≡ [] → (xs ≡ []) × (ys ≡ [])
append_empty [] ys e = (refl, e)
append_empty (x ∷ xs) ys e = absurd (cc)

none_in : (f : Fault) (faults : List Fault) → faults ≡ [] → IsIn f faults → ⊥
none_in f [] e h = h
none_in f (g ∷ faults) e h = cc

later_at : (profile : Profile) (m : ℕ) (s : State) (f : Fault) →
    ((n : ℕ) → IsIn f (faults_at profile (derived n (stepped s))) → IsFault profile (derived m (stepped s)) f) →
    faults_at profile s ≡ [] → (n : ℕ) → IsIn f (faults_at profile (derived n s)) →
    IsFault profile (derived m (stepped s)) f
later_at profile m s f again clean zero h = absurd (none_in f _ clean h)
later_at profile m s f again clean (suc n) h = again n h

-- if the first m states are clean, a fault of the derivation comes after them
pub later : (profile : Profile) (m : ℕ) (s : State) (f : Fault) → faults_in profile m s ≡ [] → (n : ℕ) →
    IsIn f (faults_at profile (derived n s)) → IsFault profile (derived m s) f
later profile zero s f clean n h = record { steps = n; here = h }
later profile (suc m) s f clean n h =
    let parts : (faults_at profile s ≡ []) × (faults_in profile m (stepped s) ≡ []) =
    append_empty (faults_at profile s) (faults_in profile m (stepped s)) clean in
    later_at profile m s f (λ k g. later profile m (stepped s) f parts.1 k g) parts.0 n h

pub sooner : (profile : Profile) (m : ℕ) (s : State) (f : Fault) → IsFault profile (derived m s) f → IsFault profile s f
sooner profile m s f h = record {
  steps = m + h.steps;
  here = subst (λ (t : State). IsIn f (faults_at profile t)) (sym (derived-add m h.steps s)) h.here;
}

-- a first fault goes back along a segment without faults
pub first_back : (profile : Profile) (s t : State) (f : Fault) → DerivesWithoutFault profile s t →
    IsFirstFault profile t f →
    IsFirstFault profile s f
first_back profile s t f p h = record {
  comes = sooner profile p.steps s f (subst (λ (v : State). IsFault profile v f) (sym p.leads) h.comes);
  first =
      λ g is. h.first g
      (subst (λ (v : State). IsFault profile v g) p.leads (later profile p.steps s g p.clean is.steps is.here));
}

pub back : (profile : Profile) (s t : State) (d : Diagnostic) → DerivesWithoutFault profile s t → Fails profile t d →
    Fails profile s d
back profile s t d p h =
    record { fault = h.fault; first = first_back profile s t h.fault p h.first; line = h.line; code = h.code }
