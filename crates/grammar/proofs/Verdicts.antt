-- What the derivation of a source leads to is what the source is.
use Rattle.std.proofs.Common.{◌≡◌, ◌≤◌, ℕ, zero, suc, ◌+◌, ◌⊎◌, List, [], ◌∷◌, ◌++◌, refl, sym, ap, ◌∙◌, subst, inl, inr, arith, length, length-append, le-add_right, le_refl, add-one, ⊎_elim, ap₂}
use Rattle.std.specs.Prelude.{Err}
use Rattle.tokens.specs.declared.located_tokens.LocatedToken.{LocatedToken}
use Rattle.grammar.specs.declared.diagnostics.Diagnostic.{Diagnostic}
use Rattle.grammar.specs.Compiled.{compiled_tokens, verdict, resolved, enough_steps, diagnostic}
use Rattle.grammar.specs.Derivation.{State, Definition, initial_state, stepped, derived, line_at}
use Rattle.grammar.specs.Faults.{Fault, faults_at, faults_in, first_fault}
use Rattle.grammar.specs.Laws.Parsing.{IsIn, IsFault, IsFirstFault, Fails, DerivesWithoutFault}
use Rattle.grammar.specs.Profile.{Profile}
use Rattle.grammar.specs.Scope.{Scope}
use Rattle.grammar.proofs.Weight.{weight}
use Rattle.grammar.proofs.Endings.{IsFinal, ends, stays_final, final_stays}
use Rattle.grammar.proofs.Firsts.{at_rest}
use Rattle.grammar.proofs.Order.{first_in, first_least, same_token}
pub use Rattle.grammar.proofs.TokensLeft.{IsRest, run_rests}
use Rattle.grammar.proofs.Runs.{append_empty, derived-add, faults_in-add}

-- A derivation without a fault.

final_clean : (profile : Profile) (n : ℕ) (s : State) → IsFinal s → faults_at profile s ≡ [] →
    faults_in profile n s ≡ []
final_clean profile zero s final clean = refl
final_clean profile (suc n) s final clean =
    let rest : faults_in profile n (stepped s) ≡ [] = rw (final_stays s final) (final_clean profile n s final clean) in
    rw (clean, rest) refl

-- Two counts of steps are one after the other.
record Apart (m n : ℕ) : Type 0 where
  more : ℕ
  sum : m + more ≡ n

apart : (m n : ℕ) → Apart m n ⊎ Apart n m
apart zero n = inl (record { more = n; sum = omega arith })
apart (suc m) zero = inr (record { more = suc m; sum = omega arith })
apart (suc m) (suc n) = wider m n (apart m n)
  where
    wider : (m n : ℕ) → Apart m n ⊎ Apart n m → Apart (suc m) (suc n) ⊎ Apart (suc n) (suc m)
    wider m n (inl a) = let e : m + a.more ≡ n = a.sum in inl (record { more = a.more; sum = omega arith })
    wider m n (inr a) = let e : n + a.more ≡ m = a.sum in inr (record { more = a.more; sum = omega arith })

record Reaches (profile : Profile) (n : ℕ) (s t : State) : Type 0 where
  clean : faults_in profile n s ≡ []
  there : derived n s ≡ t

reached : (profile : Profile) (n m : ℕ) (s t : State) → IsFinal (derived n s) → derived m s ≡ t →
    faults_in profile m s ≡ [] →
    IsFinal t → faults_at profile t ≡ [] →
    Apart m n ⊎ Apart n m → Reaches profile n s t
reached profile n m s t final leads clean ended quiet (inl a) = record {
  clean = subst (λ (k : ℕ). faults_in profile k s ≡ []) a.sum
      (faults_in-add profile m a.more s ∙ rw (clean, leads, final_clean profile a.more t ended quiet) refl);
  there = subst (λ (k : ℕ). derived k s ≡ t) a.sum (derived-add m a.more s ∙ rw leads (stays_final a.more t ended));
}
reached profile n m s t final leads clean ended quiet (inr a) = record {
  clean =
      (append_empty (faults_in profile n s) _
      (sym (faults_in-add profile n a.more s) ∙ subst (λ (k : ℕ). faults_in profile k s ≡ []) (sym a.sum) clean)).0;
  there = sym (stays_final a.more (derived n s) final) ∙ sym (derived-add n a.more s) ∙
      subst (λ (k : ℕ). derived k s ≡ t) (sym a.sum) leads;
}

pub weighs : (located_tokens : List LocatedToken) →
    weight (initial_state located_tokens) + 1 ≡ enough_steps located_tokens
weighs located_tokens = omega arith

pub enough_ends : (located_tokens : List LocatedToken) →
    IsFinal (derived (enough_steps located_tokens) (initial_state located_tokens))
enough_ends located_tokens = ends (enough_steps located_tokens) (initial_state located_tokens)
    (subst (λ (n : ℕ). weight (initial_state located_tokens) ≤ n) (weighs located_tokens)
    (le-add_right (weight (initial_state located_tokens)) 1))

pub clean_verdict : (profile : Profile) (located_tokens : List LocatedToken) (t : State) →
    DerivesWithoutFault profile (initial_state located_tokens) t → IsFinal t → faults_at profile t ≡ [] →
    compiled_tokens profile located_tokens ≡ resolved located_tokens t.scope t.functions
clean_verdict profile located_tokens t p ended quiet =
    let r : Reaches profile (enough_steps located_tokens) (initial_state located_tokens) t =
    reached profile (enough_steps located_tokens) p.steps (initial_state located_tokens) t (enough_ends located_tokens)
    p.leads
    p.clean ended quiet (apart p.steps (enough_steps located_tokens)) in
    rw (r.clean, r.there) refl

-- A derivation with a fault.

in_append_left : (f : Fault) (xs ys : List Fault) → IsIn f xs → IsIn f (xs ++ ys)
in_append_left f [] ys h = absurd h
in_append_left f (x ∷ xs) ys (inl e) = inl e
in_append_left f (x ∷ xs) ys (inr h) = inr (in_append_left f xs ys h)

in_append_right : (f : Fault) (xs ys : List Fault) → IsIn f ys → IsIn f (xs ++ ys)
in_append_right f [] ys h = h
in_append_right f (x ∷ xs) ys h = inr (in_append_right f xs ys h)

in_either : (f : Fault) (xs ys : List Fault) → IsIn f (xs ++ ys) → IsIn f xs ⊎ IsIn f ys
in_either f [] ys h = inr h
in_either f (x ∷ xs) ys (inl e) = inl (inl e)
in_either f (x ∷ xs) ys (inr h) = ⊎_elim (λ k. inl (inr k)) (λ k. inr k) (in_either f xs ys h)

-- each fault that was gathered comes in the derivation
pub gathered : (profile : Profile) (n : ℕ) (s : State) (f : Fault) → IsIn f (faults_in profile n s) →
    IsFault profile s f
gathered profile zero s f h = absurd h
gathered profile (suc n) s f h =
    gathered_at profile n s f (λ k. gathered profile n (stepped s) f k)
    (in_either f (faults_at profile s) (faults_in profile n (stepped s)) h)
  where
    gathered_at : (profile : Profile) (n : ℕ) (s : State) (f : Fault) →
        (IsIn f (faults_in profile n (stepped s)) → IsFault profile (stepped s) f) →
        IsIn f (faults_at profile s) ⊎ IsIn f (faults_in profile n (stepped s)) → IsFault profile s f
    gathered_at profile n s f again (inl h) = record { steps = 0; here = h }
    gathered_at profile n s f again (inr h) =
        let k : IsFault profile (stepped s) f = again h in record { steps = suc k.steps; here = k.here }

-- and each that comes was gathered
at_final : (profile : Profile) (k : ℕ) (s : State) (f : Fault) → IsFinal s → IsIn f (faults_at profile (derived k s)) →
    IsIn f (faults_at profile s)
at_final profile k s f final h = subst (λ (t : State). IsIn f (faults_at profile t)) (stays_final k s final) h

pub all_gathered : (profile : Profile) (n : ℕ) (s : State) (k : ℕ) (f : Fault) → IsFinal (derived n s) →
    IsIn f (faults_at profile (derived k s)) → IsIn f (faults_in profile (suc n) s)
all_gathered profile zero s k f final h = in_append_left f (faults_at profile s) [] (at_final profile k s f final h)
all_gathered profile (suc n) s zero f final h = in_append_left f (faults_at profile s) _ h
all_gathered profile (suc n) s (suc k) f final h =
    in_append_right f (faults_at profile s) _ (all_gathered profile n (stepped s) k f final h)

same_tails : (a b x y : List LocatedToken) → a ++ x ≡ b ++ y → length x ≡ length y → x ≡ y
same_tails [] [] x y e l = e
same_tails [] (p ∷ b) x y e l =
    let h : length x ≡ length ((p ∷ b) ++ y) = ap length e in absurd (omega (arith, length-append b y))
same_tails (p ∷ a) [] x y e l =
    let h : length ((p ∷ a) ++ x) ≡ length y = ap length e in absurd (omega (arith, length-append a x))
same_tails (p ∷ a) (q ∷ b) x y e l = same_tails a b x y (cc) l

-- two faults of one derivation with as many tokens left are at one token
same_rest : (profile : Profile) (s : State) (f g : Fault) → IsFault profile s f → IsFault profile s g →
    length f.rest ≡ length g.rest → f.rest ≡ g.rest
same_rest profile s f g a b l =
    let p : f.rest ≡ (derived a.steps s).rest = at_rest profile f (derived a.steps s) a.here in
    let q : g.rest ≡ (derived b.steps s).rest = at_rest profile g (derived b.steps s) b.here in
    let x : IsRest (derived a.steps s).rest s.rest = run_rests a.steps s in
    let y : IsRest (derived b.steps s).rest s.rest = run_rests b.steps s in
    p ∙ same_tails x.before y.before _ _ (sym x.is ∙ y.is) (ap length (sym p) ∙ l ∙ ap length q) ∙ sym q

verdict_at : (profile : Profile) (located_tokens : List LocatedToken) (s : State) (f : Fault) (faults : List Fault)
    (scope : Scope) (functions : List Definition) →
    IsFirstFault profile s f → ((g : Fault) → IsIn g faults → IsFault profile s g) → IsIn f faults →
    verdict located_tokens faults scope functions ≡ Err (diagnostic (line_at f.rest) f.code)
verdict_at profile located_tokens s f [] scope functions first sound h = absurd h
verdict_at profile located_tokens s f (g ∷ gs) scope functions first sound h =
    let one : IsFault profile s (first_fault g gs) = sound (first_fault g gs) (first_in g gs) in
    let same : (length f.rest ≡ length (first_fault g gs).rest) × (f.code ≡ (first_fault g gs).code) =
    same_token f (first_fault g gs) (first.first (first_fault g gs) one) (first_least g gs f h) in
    let rest : f.rest ≡ (first_fault g gs).rest = same_rest profile s f (first_fault g gs) first.comes one same.0 in
    rw (rest, same.1) refl

pub fault_verdict : (profile : Profile) (located_tokens : List LocatedToken) (d : Diagnostic) →
    Fails profile (initial_state located_tokens) d → compiled_tokens profile located_tokens ≡ Err d
fault_verdict profile located_tokens d h =
    let n : ℕ = weight (initial_state located_tokens) in
    let here : IsIn h.fault (faults_in profile (suc n) (initial_state located_tokens)) =
    all_gathered profile n (initial_state located_tokens) h.first.comes.steps h.fault
    (ends n (initial_state located_tokens) (le_refl n)) h.first.comes.here in
    let there : IsIn h.fault (faults_in profile (enough_steps located_tokens) (initial_state located_tokens)) =
    subst (λ (k : ℕ). IsIn h.fault (faults_in profile k (initial_state located_tokens)))
    (sym (add-one n) ∙ weighs located_tokens) here in
    verdict_at profile located_tokens (initial_state located_tokens) h.fault
    (faults_in profile (enough_steps located_tokens) (initial_state located_tokens)) _ _ h.first
    (gathered profile (enough_steps located_tokens) (initial_state located_tokens)) there
    ∙ ap Err (same_diagnostic d (diagnostic (line_at h.fault.rest) h.fault.code) h.line h.code)
  where
    same_diagnostic : (d e : Diagnostic) → d.line ≡ e.line → d.code ≡ e.code → e ≡ d
    same_diagnostic d e p q = sym (ap₂ diagnostic p q)
