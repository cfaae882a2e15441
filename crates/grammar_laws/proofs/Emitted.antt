-- What a derivation has emitted after some steps.
use Rattle.std.proofs.Common.{◌≡◌, ℕ, zero, suc, List, [], ◌∷◌, ◌++◌, refl, sym, ap, ◌∙◌, subst, Bool, true, false}
use Rattle.std.proofs.Common.{append_assoc, append-nil}
use Rattle.std.proofs.lemmas.List.{append_cancel_left}
use Rattle.std.specs.Prelude.{Option, Some, None, if◌then◌else◌, unwrap_or}
use Rattle.tokens.specs.declared.located_tokens.LocatedToken.{LocatedToken}
use Rattle.grammar.specs.declared.actions.Action.{Action}
use Rattle.grammar.specs.declared.actions.Action.TheVariants.{BeginFunction}
use Rattle.grammar.specs.Actions.{body_actions, function_actions}
use Rattle.grammar.specs.Beginning.{IsBeginning}
use Rattle.grammar.specs.Derivation.{State, initial_state, PartialTree, Definition, last_body, definition_of, next_token}
use Rattle.grammar.specs.Laws.StateParts.{state}
use Rattle.grammar.specs.Derivation.{stack_step, stepped, derived}
use Rattle.grammar_laws.specs.Emission.{on_item, emitted, emissions}
use Rattle.grammar.specs.Faults.{faults_at, faults_in}
use Rattle.grammar.specs.Beginning.{definitions_actions}
use Rattle.grammar.specs.Grammar.{Item, Exactly, AKeyword, AName, AConstant, AnEnd, Part, Make, Close}
use Rattle.grammar.specs.Grammar.{Define}
use Rattle.grammar.specs.Grammar.{is_lexical_error}
use Rattle.grammar.specs.Profile.{Profile}
use Rattle.grammar.specs.Scope.{Scope}
use Rattle.grammar.proofs.AfterSteps.{IfStepped, if_matched, if_named, if_constant, if_replaced}
use Rattle.grammar.proofs.Beginnings.{beginning_follows}
use Rattle.grammar_laws.proofs.NumberedActions.{numbered}
use Rattle.grammar.proofs.ResolvedLaws.{Sound, run_sound, start_sound, stepped_sound}
use Rattle.grammar.proofs.Runs.{append_empty}
use Rattle.grammar_laws.specs.Emitted.{EmitsABeginning, EmitsAPart, EmitsItsFunctions, IsPart, BeginningsAreNumbered}
use Rattle.grammar_laws.specs.Emitted.{NextMayFollow}
use Rattle.grammar_laws.proofs.Completing.{Completes, completes}
use Rattle.grammar_laws.proofs.ReportingLimits.{allowed, unlimited}
use Rattle.grammar_laws.proofs.ReportingSteps.{Allows, StateReports, defined_reported, stepped_reports}
use Rattle.grammar_laws.proofs.Reporting.{Ends, Reports}

pub start_reports : (A : Type 0) (located_tokens : List LocatedToken) → StateReports A (initial_state located_tokens) []
start_reports A located_tokens = record {
  reported = refl;
  fit = λ a. tt;
  on =
      λ values n k more f. record { reported = refl; fit = f };
}

-- What was emitted is that of the functions defined so far, and a part.

record HasPart (acts : List Action) (ds : List Definition) : Type 0 where
  part : List Action
  is : acts ≡ definitions_actions ds ++ part

more_part : (acts more : List Action) (ds : List Definition) → HasPart acts ds → HasPart (acts ++ more) ds
more_part acts more ds h = record {
  part = h.part ++ more;
  is = ap (λ xs. xs ++ more) h.is
      ∙ append_assoc (definitions_actions ds) h.part more;
}

no_more : (acts : List Action) (ds : List Definition) → HasPart acts ds → HasPart acts (ds ++ [])
no_more acts ds h = subst (λ (xs : List Definition). HasPart acts xs) (sym (append-nil ds)) h

abbrev HasParts : List Action → State → Type 0
HasParts acts s = HasPart acts s.functions

step_part : (A : Type 0) (stack : List Item) (s : State) (acts : List Action) →
    Reports A stack s.values s.scope.number s.scope.current.parameters s.functions acts →
    HasPart (acts ++ on_item stack (next_token s.rest) s.values s.scope) s.functions →
    IfStepped (HasParts (acts ++ on_item stack (next_token s.rest) s.values s.scope)) (stack_step stack s)
step_part A [] s acts t h = tt
step_part A (Exactly m ∷ stack) s acts t h = if_matched (HasParts _) _ stack s (λ e. h)
step_part A (AKeyword w ∷ stack) s acts t h = if_matched (HasParts _) _ stack s (λ e. h)
step_part A (AName role ∷ stack) s acts t h = if_named (HasParts _) role _ stack s (λ n e. h)
step_part A (AConstant ∷ stack) s acts t h = if_constant (HasParts _) _ stack s (λ n e. h)
step_part A (AnEnd ∷ stack) s acts t h = if_matched (HasParts _) _ stack s (λ e. h)
step_part A (Part symbol ∷ stack) s acts t h = if_replaced (HasParts _) _ stack s (λ items e. h)
step_part A (Make Define ∷ stack) s acts t h =
    record {
      part = [];
      is = sym (defined_reported s.values s.scope s.functions acts t.reported)
          ∙ sym (append-nil (definitions_actions (s.functions ++ definition_of s.scope (last_body s.values) ∷ [])));
    }
step_part A (Make rule ∷ stack) s acts t h = no_more _ s.functions h
step_part A (Close ∷ stack) s acts t h = h

guarded_part : (s : State) (fault : Bool) (o : Option State) (acts more : List Action) → HasPart acts s.functions →
    IfStepped (HasParts (acts ++ more)) o →
    HasPart (acts ++ (if fault then [] else more)) (unwrap_or (if fault then None else o) s).functions
guarded_part s true o acts more h k = more_part acts [] s.functions h
guarded_part s false None acts more h k = more_part acts more s.functions h
guarded_part s false (Some t) acts more h k = k

stepped_part : (A : Type 0) (s : State) (acts : List Action) → StateReports A s acts → HasPart acts s.functions →
    HasPart (acts ++ emitted s) (stepped s).functions
stepped_part A s acts t h =
    guarded_part s (is_lexical_error (next_token s.rest)) (stack_step s.stack s) acts
    (on_item s.stack (next_token s.rest) s.values s.scope) h
    (step_part A s.stack s acts t
    (more_part acts (on_item s.stack (next_token s.rest) s.values s.scope) s.functions h))

-- Any steps.

record Emitted (s : State) (acts : List Action) : Type 0 where
  reports : StateReports ⊥ s acts
  part : HasPart acts s.functions

emits : (n : ℕ) (s : State) (acts : List Action) → Emitted s acts → Emitted (derived n s) (acts ++ emissions n s)
emits zero s acts h = subst (λ (xs : List Action). Emitted s xs) (sym (append-nil acts)) h
emits (suc n) s acts h =
    subst (λ (xs : List Action). Emitted (derived n (stepped s)) xs)
    (append_assoc acts (emitted s) (emissions n (stepped s)))
    (emits n (stepped s) (acts ++ emitted s) (record {
      reports = stepped_reports ⊥ s acts (λ e. unlimited s.stack s.rest s.scope) h.reports;
      part =
          stepped_part ⊥ s acts h.reports h.part;
    }))

emits_from_start : (n : ℕ) (located_tokens : List LocatedToken) →
    Emitted (derived n (initial_state located_tokens)) (emissions n (initial_state located_tokens))
emits_from_start n located_tokens = emits n (initial_state located_tokens) []
    (record { reports = start_reports ⊥ located_tokens; part = record { part = []; is = refl } })

clean_reports : (profile : Profile) (n : ℕ) (s : State) (acts : List Action) → faults_in profile n s ≡ [] → Sound s →
    StateReports (Unit {0}) s acts → StateReports (Unit {0}) (derived n s) (acts ++ emissions n s)
clean_reports profile zero s acts clean sound h = subst (λ (xs : List Action). StateReports (Unit {0}) s xs)
    (sym (append-nil acts)) h
clean_reports profile (suc n) s acts clean sound h =
    let parts = append_empty (faults_at profile s) (faults_in profile n (stepped s)) clean in
    subst (λ (xs : List Action). StateReports (Unit {0}) (derived n (stepped s)) xs)
    (append_assoc acts (emitted s) (emissions n (stepped s)))
    (clean_reports profile n (stepped s) (acts ++ emitted s) parts.1 (stepped_sound profile s parts.0 sound)
    (stepped_reports (Unit {0}) s acts (allowed profile s parts.0 sound) h))

-- The laws.

pub emits_its_functions : EmitsItsFunctions
emits_its_functions n located_tokens done = sym (ends (derived n (initial_state located_tokens))
    (emissions n (initial_state located_tokens)) done (emits_from_start n located_tokens).reports).reported
  where
    ends : (s : State) (acts : List Action) → s.stack ≡ [] → StateReports ⊥ s acts → Ends ⊥ s.functions acts
    ends s acts e h = subst (λ (stack : List Item).
        Reports ⊥ stack s.values s.scope.number s.scope.current.parameters s.functions acts) e h

definitions_append : (ds more : List Definition) →
    definitions_actions (ds ++ more) ≡ definitions_actions ds ++ definitions_actions more
definitions_append [] more = refl
definitions_append (d ∷ ds) more =
    ap (λ xs. function_actions d.number d.function ++ xs) (definitions_append ds more)
    ∙ sym (append_assoc (function_actions d.number d.function) (definitions_actions ds) (definitions_actions more))

part_of_one : (acts : List Action) (ds : List Definition) → HasPart acts ds → Completes ⊥ ds acts → IsPart acts ds
part_of_one acts ds h c = record {
  part = h.part;
  is = h.is;
  further = c.further;
  one = c.one;
  rest = c.rest;
  begins = append_cancel_left (definitions_actions ds) (h.part ++ c.rest) (definitions_actions c.further)
      (sym (append_assoc (definitions_actions ds) h.part c.rest) ∙ ap (λ xs. xs ++ c.rest) (sym h.is) ∙ c.begins
      ∙ definitions_append ds c.further);
}

pub emits_a_part : EmitsAPart
emits_a_part n located_tokens =
    whole (derived n (initial_state located_tokens)) (emissions n (initial_state located_tokens))
    (emits_from_start n located_tokens)
  where
    whole : (s : State) (acts : List Action) → Emitted s acts → IsPart acts s.functions
    whole s acts e = part_of_one acts s.functions e.part
        (completes ⊥ s.stack s.values s.scope.number s.scope.current.parameters s.functions acts e.reports)

begins : (s : State) (acts : List Action) → StateReports (Unit {0}) s acts → IsBeginning acts
begins s acts h =
    let c : Completes (Unit {0}) s.functions acts =
    completes (Unit {0}) s.stack s.values s.scope.number s.scope.current.parameters s.functions acts h in
    record { functions = s.functions ++ c.further; reportable = c.fit tt; rest = c.rest; begins = c.begins }

clean_from_start : (profile : Profile) (n : ℕ) (located_tokens : List LocatedToken) →
    faults_in profile n (initial_state located_tokens) ≡ [] →
    StateReports (Unit {0}) (derived n (initial_state located_tokens)) (emissions n (initial_state located_tokens))
clean_from_start profile n located_tokens clean = clean_reports profile n (initial_state located_tokens) [] clean
    (start_sound located_tokens) (start_reports (Unit {0}) located_tokens)

pub emits_a_beginning : EmitsABeginning
emits_a_beginning profile n located_tokens clean =
    begins (derived n (initial_state located_tokens)) (emissions n (initial_state located_tokens))
    (clean_from_start profile n located_tokens clean)

pub next_may_follow : NextMayFollow
next_may_follow profile other n located_tokens clean quiet =
    begins (stepped (derived n (initial_state located_tokens)))
    (emissions n (initial_state located_tokens) ++ emitted (derived n (initial_state located_tokens)))
    (stepped_reports (Unit {0}) (derived n (initial_state located_tokens)) (emissions n (initial_state located_tokens))
    (allowed other (derived n (initial_state located_tokens)) quiet
    (run_sound profile n (initial_state located_tokens) clean (start_sound located_tokens)))
    (clean_from_start profile n located_tokens clean))

pub beginnings_are_numbered : BeginningsAreNumbered
beginnings_are_numbered acts b = numbered acts [] (beginning_follows acts b)

-- At a function's end, with its body made: what was emitted is that of the functions defined and of this one up to its
-- body. What its end emits may be reported, however much code there is.
pub record AtEnd (n : ℕ) (located_tokens : List LocatedToken) (values : List PartialTree) (scope : Scope)
    (functions : List Definition) : Type 0 where
  pub reported : definitions_actions functions ++
      (BeginFunction scope.number scope.current.parameters ∷ body_actions (last_body values)) ≡
      emissions n (initial_state located_tokens)
  pub begins : IsBeginning
      (emissions n (initial_state located_tokens) ++ emitted (derived n (initial_state located_tokens)))

pub at_end : (profile : Profile) (n : ℕ) (located_tokens : List LocatedToken) (stack : List Item)
    (rest : List LocatedToken)
    (values : List PartialTree) (scope : Scope) (functions : List Definition) →
    faults_in profile n (initial_state located_tokens) ≡ [] →
    derived n (initial_state located_tokens) ≡ state (Make Define ∷ stack) rest values scope functions →
    AtEnd n located_tokens values scope functions
at_end profile n located_tokens stack rest values scope functions clean is =
    let s : State = derived n (initial_state located_tokens) in
    let reports : StateReports (Unit {0}) s (emissions n (initial_state located_tokens)) =
    clean_from_start profile n located_tokens clean in
    let sound : Sound s = run_sound profile n (initial_state located_tokens) clean (start_sound located_tokens) in
    let here : StateReports (Unit {0}) (state (Make Define ∷ stack) rest values scope functions)
    (emissions n (initial_state located_tokens)) =
    subst (λ (t : State). StateReports (Unit {0}) t (emissions n (initial_state located_tokens))) is reports in
    let there : Sound (state (Make Define ∷ stack) rest values scope functions) = subst Sound is sound in
    record {
      reported = here.reported;
      begins = begins (stepped s) (emissions n (initial_state located_tokens) ++ emitted s)
          (stepped_reports (Unit {0}) s (emissions n (initial_state located_tokens))
          (λ e. subst (λ (t : State). Allows (Unit {0}) t.stack t.rest t.scope) (sym is)
          (λ a. (there.scoped.parameters, there.scoped.variables))) reports);
    }
