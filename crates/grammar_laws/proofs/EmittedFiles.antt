-- The derivation of a source that is a file emits the file's actions.
use Rattle.std.proofs.Common.{◌≡◌, ℕ, ◌+◌, ◌<◌, List, [], ◌∷◌, ◌++◌, refl, sym, ap, ◌∙◌, subst, Bool}
use Rattle.std.proofs.Common.{true, false, arith, length, le_refl}
use Rattle.std.proofs.lemmas.Option.{slice_get-get_or}
use Rattle.std.specs.Prelude.{Option, Some, None, Ok, get_or, if◌then◌else◌, slice_get}
use Rattle.tokens.specs.declared.located_tokens.LocatedToken.{LocatedToken}
use Rattle.grammar.specs.Actions.{actions}
use Rattle.grammar.specs.Compiled.{all_defined, all_faults, defined_as, enough_steps, last_line, last_state}
use Rattle.grammar.specs.Compiled.{main_name, order_of}
use Rattle.grammar.specs.Derivation.{Definition, State, next_token, derived, initial_state, stack_step}
use Rattle.grammar_laws.specs.Emitted.{EmitsItsFile}
use Rattle.grammar.specs.Faults.{Fault, faults_at, faults_in, stack_faults, unexpected_token, unexpected_tokens}
use Rattle.grammar.specs.Beginning.{definitions_actions}
use Rattle.grammar.specs.Grammar.{Item, is_lexical_error}
use Rattle.grammar.specs.Profile.{Profile}
use Rattle.grammar.specs.Scope.{function_number}
use Rattle.grammar.specs.Tree.{Function}
use Rattle.grammar_laws.proofs.Emitted.{emits_its_functions}
use Rattle.grammar.proofs.Endings.{IsFinal, ends, final_stays}
use Rattle.grammar.proofs.FileLaws.{actions_there, there}
use Rattle.grammar.proofs.Phases.{phase_of}
use Rattle.grammar.proofs.ResolvedLaws.{AreDefined, IsClean, IsMade, Sound, are_defined, distinct_of, is_clean, is_made}
use Rattle.grammar.proofs.ResolvedLaws.{made_file, order_below, run_sound, start_sound}
use Rattle.grammar.proofs.Runs.{append_empty, faults_in-add, derived-add}
use Rattle.grammar.proofs.Verdicts.{weighs}
use Rattle.grammar.proofs.Weight.{weight}

-- If a derivation ends without a fault, nothing is left to match.

nothing_left : (stack : List Item) (rest : List LocatedToken) (fault : Bool) (xs : List Fault) (o : Option State) →
    (if fault then None else o) ≡ None →
    (if fault then unexpected_token rest else xs ++ unexpected_tokens stack rest o) ≡ [] → stack ≡ []
nothing_left [] rest fault xs o final clean = refl
nothing_left (item ∷ stack) rest true xs o final clean = absurd (cc)
nothing_left (item ∷ stack) rest false xs None final clean =
    absurd (let no : unexpected_token rest ≡ [] = (append_empty xs (unexpected_token rest) clean).1 in cc)
nothing_left (item ∷ stack) rest false xs (Some s) final clean = absurd (cc)

done : (profile : Profile) (s : State) → IsFinal s → faults_at profile s ≡ [] → s.stack ≡ []
done profile s final clean =
    nothing_left s.stack s.rest (is_lexical_error (next_token s.rest))
    (stack_faults profile s.stack s)
    (stack_step s.stack s) final clean

-- one step before the last of those that are enough the derivation has ended
last_is_done : (profile : Profile) (located_tokens : List LocatedToken) → all_faults profile located_tokens ≡ [] →
    (last_state located_tokens).stack ≡ []
last_is_done profile located_tokens clean =
    subst (λ (n : ℕ). (derived n (initial_state located_tokens)).stack ≡ []) (weighs located_tokens)
    (subst (λ (t : State). t.stack ≡ [])
    (sym (derived-add most 1 (initial_state located_tokens) ∙ final_stays before final))
    (done profile before final quiet))
  where
    most : ℕ
    most = weight (initial_state located_tokens)

    before : State
    before = derived most (initial_state located_tokens)

    final : IsFinal before
    final = ends most (initial_state located_tokens) (le_refl most)

    both : faults_in profile most (initial_state located_tokens) ++ faults_in profile 1 before ≡ []
    both = sym (faults_in-add profile most 1 (initial_state located_tokens))
        ∙ subst (λ (n : ℕ). faults_in profile n (initial_state located_tokens) ≡ []) (sym (weighs located_tokens)) clean

    quiet : faults_at profile before ≡ []
    quiet = (append_empty (faults_at profile before) []
        (append_empty (faults_in profile most (initial_state located_tokens)) (faults_in profile 1 before) both).1).0

-- The functions of the file are those defined, each by its number.

each_by_number : (lines : List ℕ) (ds : List Definition) (functions : List Function) → AreDefined 0 lines ds functions →
    (k : ℕ) → k < length functions → slice_get functions k ≡ defined_as k ds
each_by_number lines ds functions a k less = by (slice_get functions k) refl
  where
    from_zero : 0 + k ≡ k
    from_zero = omega arith

    by : (o : Option Function) → slice_get functions k ≡ o → slice_get functions k ≡ defined_as k ds
    by (Some f) e = e ∙ sym (subst (λ (n : ℕ). defined_as n ds ≡ Some f) from_zero (a.each k f e))
    by None e = absurd (missing functions e less)
      where
        missing : (fs : List Function) → slice_get fs k ≡ None → k < length fs → ⊥
        missing [] e h = omega arith
        missing (f ∷ fs) e h = let some : slice_get (f ∷ fs) k ≡ Some (get_or (f ∷ fs) k f) =
            slice_get-get_or (f ∷ fs) k f h in cc

file_reported : (s : State) (functions : List Function) (main : ℕ) → Sound s →
    all_defined 0 s.scope.lines s.functions ≡ Ok functions →
    definitions_actions s.functions ≡ actions (made_file s.scope (order_of s.functions) functions main)
file_reported s functions main h found =
    let a : AreDefined 0 s.scope.lines s.functions functions =
    are_defined 0 s.scope.lines s.functions functions found in
    let count : length functions ≡ length s.scope.functions = a.count ∙ h.scoped.lines in
    sym (actions_there functions s.functions
    (there functions s.functions (distinct_of (phase_of s.stack) s.values s.scope s.functions h.scoped.begun h.tied)
    (λ k i. each_by_number s.scope.lines s.functions functions a k
    (let low : k < length s.scope.functions = order_below _ _ k s.functions h.scoped.definitions i in omega
    (arith, low, count)))))

pub emits_its_file : EmitsItsFile
emits_its_file profile located_tokens file compiled =
    emits_its_functions (enough_steps located_tokens) located_tokens (last_is_done profile located_tokens c.clean)
    ∙ file_reported (last_state located_tokens) m.all m.number
    (run_sound profile (enough_steps located_tokens) (initial_state located_tokens) c.clean
    (start_sound located_tokens)) m.found
    ∙ ap actions m.is
  where
    c : IsClean located_tokens (all_faults profile located_tokens) (last_state located_tokens).scope
        (last_state located_tokens).functions file
    c = is_clean located_tokens (all_faults profile located_tokens) (last_state located_tokens).scope
        (last_state located_tokens).functions file compiled

    m : IsMade (last_state located_tokens).scope (order_of (last_state located_tokens).functions)
        (all_defined 0 (last_state located_tokens).scope.lines (last_state located_tokens).functions)
        (function_number main_name (last_state located_tokens).scope) file
    m = is_made (last_line located_tokens) (last_state located_tokens).scope
        (order_of (last_state located_tokens).functions)
        (all_defined 0 (last_state located_tokens).scope.lines (last_state located_tokens).functions)
        (function_number main_name (last_state located_tokens).scope) file c.is
