-- What a file is whose parse came to its end, and what a refusal says of it.
use Rattle.std.proofs.Common.{◌≡◌, ℕ, List, [], ◌∷◌, ◌++◌, refl, sym, ap, ◌∙◌, subst, true, false, drop, ◌+◌, ◌≤◌, append_assoc, arith}
use Rattle.std.specs.Option.{option_map}
use Rattle.std.specs.Prelude.{Bool, ◌<◌, Option, Some, None, Ok, Err, Result, is_some}
use Rattle.tokens.specs.Cursors.{Cursor, OpensCursor, undecided_reach_of, reach_of}
use Rattle.tokens.specs.Device.{FailureCount}
use Rattle.tokens.specs.Tokens.{is_last, tokens}
use Rattle.tokens.specs.WindowLimits.{most_taken_bytes}
use Rattle.tokens.proofs.ReadingLemmas.{open-to_last, open-within}
use Rattle.tokens.specs.declared.located_tokens.LocatedToken.{LocatedToken}
use Rattle.tokens.specs.declared.located_tokens.Token.TheVariants as token
use Rattle.grammar.specs.declared.diagnostics.Code.TheVariants as fault_code
use Rattle.grammar.specs.declared.diagnostics.Diagnostic.{Diagnostic}
use Rattle.grammar.specs.declared.diagnostics.ParseFault.{ParseFault}
use Rattle.grammar.specs.declared.diagnostics.ParseFault.TheVariants as parse_fault
use Rattle.grammar.specs.declared.actions.Action.{Action}
use Rattle.grammar.specs.Beginning.{IsBeginning, definitions_actions}
use Rattle.grammar.specs.Building.{Representation}
use Rattle.grammar.specs.Compiled.{compiled, compiled_tokens, diagnostic, last_line, main_name, resolved}
use Rattle.grammar.specs.Derivation.{State, PartialTree, derived, initial_state, Definition, next_token, line_at}
use Rattle.grammar.specs.Following.{follow_all}
use Rattle.grammar.specs.Laws.StateParts.{state}
use Rattle.grammar.specs.Faults.{unexpected_token_code}
use Rattle.grammar.specs.Grammar.{AnEnd, Part, Source, is_lexical_error}
use Rattle.grammar.specs.Laws.Naming.{line_of_undefined}
use Rattle.grammar.specs.Need.{built, need}
use Rattle.grammar.specs.Pools.{Pools}
use Rattle.grammar.specs.Profile.{Profile}
use Rattle.grammar.specs.Scope.{Scope, function_number, no_names}
use Rattle.grammar.specs.Tree.{File}
use Rattle.grammar.proofs.Endings.{stays_final}
use Rattle.grammar.proofs.Firsts.{at_fault}
use Rattle.grammar.proofs.Reach.{what_was_read_is_needed}
use Rattle.grammar.proofs.Runs.{derived-add}
use Rattle.grammar.proofs.Verdicts.{clean_verdict, fault_verdict}
use Rattle.grammar.specs.Laws.Finished.{IsFinished, PassesAll}
use Rattle.grammar.proofs.FileLaws.{finished, undefined, without_main}
use Rattle.grammar_laws.specs.Emission.{emissions}
use Rattle.grammar_laws.specs.Emitted.{IsPart}
use Rattle.grammar_laws.proofs.Emitted.{emits_a_beginning, emits_a_part, emits_its_functions}
use Rattle.parser.specs.declared.automaton.Automaton.{Automaton}
use Rattle.parser.specs.declared.frames.Frame.{Frame}
use Rattle.parser.specs.declared.frames.Front.TheVariants as front
use Rattle.parser.specs.Advancing.{IsReadable, IsReady, most_failures}
use Rattle.parser.specs.Automata.{Stands, Start, stack_of}
use Rattle.parser.specs.Complete.{ADefinition, AMain, IsComplete, LacksDefinition}
use Rattle.parser.specs.ParsedFiles.{BuildsAhead, FailsBytes, HasBuilt, LeavesUndecided, ParsesToFile, ParseIsRefused, StopsTaking, TakesNoMore, TakesUpTo}
use Rattle.parser.specs.Paths.{HasTold, Leads, Origin, Path, Refused}
use Rattle.parser.specs.ScopedCursors.{MayContinue, ScopedCursor, UnreadPosition, next_at, pools_in, position_of, scope_of, taken_at, token_of, tokens_at}
use Rattle.parser.specs.Segment.{StopsFirst, StopsAtFirst, TakesTokens}
use Rattle.parser.specs.Stopping.{NoFaultBefore, Stops, stop_with}
use Rattle.parser.proofs.Built.{IsAmongDefined, built_by_stop}
use Rattle.parser.proofs.Closing.{nothing_open}
use Rattle.parser.proofs.PathLaws.{leads_more}
use Rattle.parser.proofs.Segments.{functions_here, near_told, none_back, none_before, stops_here, told_goes}

-- Where a parse begins: the first tokens are shown, and nothing was reported.

abbrev pub from : (told : Option (List ℕ)) (account : FailureCount) (borrows : ℕ × ℕ) → Profile → Origin
from told account borrows profile =
    record { profile = profile; bytes = told; account = account; borrows = borrows }

pub starts : (o : Origin) (at : ScopedCursor) → tokens_at at.position ≡ option_map tokens o.bytes →
    scope_of at ≡ no_names → at.borrows ≡ o.borrows → at.account ≡ o.account →
    at.position.to_come ≡ option_map (drop (taken_at at.position)) o.bytes → IsReady at →
    Path o (Part Source ∷ []) [] [] at
starts o at shows nothing borrows account took ready = record {
  consumed = [];
  steps = 0;
  functions = [];
  told = λ ls is. record { rest = ls; is = refl; shows = shows ∙ is };
  follows = λ rest g. record {
    comes = ap (λ (known : Scope). state (Part Source ∷ []) rest [] known []) (sym nothing);
    clean = refl;
    emits = refl;
  };
  borrows = borrows;
  account = account;
  took = took;
  ready = ready;
}

-- an automaton there, of a cursor that was opened and made
pub begun : {F B : Type 0} (stands : B → Representation) {told left : Option (List ℕ)} {account : FailureCount}
    {ended : Bool} {cursor : Cursor} {scope : Scope} {at : Automaton F B} → at.frames ≡ [] → at.depth ≡ 0 →
    at.tokens.position ≡ position_of (record { cursor = cursor; scope = scope }) left → at.tokens.account ≡ account →
    OpensCursor cursor told left ended → IsReadable cursor → account.failures < most_failures → scope ≡ no_names →
    (profile : Profile) → stands at.builder.now profile [] →
    Stands (record { origin = from told account at.tokens.borrows profile; builder = at.builder.now }) stands
    front.Source at
begun stands {told} {account = account} {at = at} none flat position counted opens ready few nothing profile new =
    record {
      values = [];
      acts = [];
      path = rw none
          (starts (from told account at.tokens.borrows profile) at.tokens (rw position opens.tokens)
          (rw position nothing) refl counted (rw position opens.took)
          (record { sound = rw position ready.sound; near = rw position ready.near; count = rw counted few }));
      new = new;
      told = record { each = λ other h. h };
      depth = rw (none, flat) refl;
      few = rw flat (omega arith);
      fits = (none, refl);
    }

-- Where it ends: at the end of the file, if it was not refused.

-- the end is the only token from there on
ends_alone : (at : UnreadPosition) (rest : List LocatedToken) → (next_at at).token ≡ token.End → MayContinue at rest →
    rest ≡ next_at at ∷ []
ends_alone at rest is g = let last : is_last (next_at at).token ≡ true = rw is refl in g.is ∙ rw last refl

goes_alone : (at : UnreadPosition) → (next_at at).token ≡ token.End → MayContinue at (next_at at ∷ [])
goes_alone at is =
    let last : is_last (next_at at).token ≡ true = rw is refl in record { behind = []; is = rw last refl }

last_line_is : (consumed : List LocatedToken) (next : LocatedToken) → last_line (consumed ++ next ∷ []) ≡ next.line
last_line_is [] next = refl
last_line_is (located_token ∷ []) next = refl
last_line_is (located_token ∷ other ∷ consumed) next = last_line_is (other ∷ consumed) next

-- The derivation of these tokens and the end comes to its end without a fault, and emits these functions' actions.
pub record IsWhole (profile : Profile) (told : Option (List ℕ)) (acts : List Action) (at : ScopedCursor) : Type 0 where
  pub consumed : List LocatedToken
  pub functions : List Definition
  pub passes : PassesAll profile (consumed ++ next_at at.position ∷ []) (scope_of at) functions
  pub reports : acts ≡ definitions_actions functions
  pub begins : IsBeginning acts
  pub tells : (bytes : List ℕ) → told ≡ Some bytes → tokens bytes ≡ consumed ++ next_at at.position ∷ []
  pub shows : (bytes : List ℕ) → told ≡ Some bytes → tokens_at at.position ≡ Some (next_at at.position ∷ [])
  pub none : NoFaultBefore profile (initial_state (consumed ++ next_at at.position ∷ [])) (next_at at.position ∷ [])

pub whole : {o : Origin} {acts : List Action} {at : ScopedCursor} → Path o (AnEnd ∷ []) [] acts at →
    token_of at ≡ token.End → IsWhole o.profile o.bytes acts at
whole {o} {acts} {at} p is =
    let next : List LocatedToken = next_at at.position ∷ [] in
    let here : State = state (AnEnd ∷ []) next [] (scope_of at) p.functions in
    let before : Leads o.profile p.steps (p.consumed ++ next) here acts = p.follows next (goes_alone at.position is) in
    let after : Leads o.profile (p.steps + 1) (p.consumed ++ next) (state [] [] [] (scope_of at) p.functions) acts =
    leads_more o.profile p.steps (p.consumed ++ next) here _ acts [] before
    (record { leads = rw is refl; clean = rw is refl; emits = rw is refl }) in
    let alone : (bytes : List ℕ) (shows : o.bytes ≡ Some bytes) →
    (p.told (tokens bytes) (ap (option_map tokens) shows)).rest ≡ next =
    λ bytes shows.
    let t : TakesTokens p.consumed (tokens bytes) at.position = p.told (tokens bytes) (ap (option_map tokens) shows) in
    ends_alone at.position t.rest is (told_goes at.position t.rest t.shows) in
    record {
      consumed = p.consumed;
      functions = p.functions;
      passes = record { steps = p.steps + 1; leads = after.comes; clean = after.clean };
      reports = sym after.emits
          ∙ emits_its_functions (p.steps + 1) (p.consumed ++ next) (ap (λ (s : State). s.stack) after.comes)
          ∙ ap (λ (s : State). definitions_actions s.functions) after.comes;
      begins = subst IsBeginning after.emits
          (emits_a_beginning o.profile (p.steps + 1) (p.consumed ++ next) after.clean);
      tells = λ bytes shows.
          (p.told (tokens bytes) (ap (option_map tokens) shows)).is
          ∙ ap (λ (ls : List LocatedToken). p.consumed ++ ls) (alone bytes shows);
      shows = λ bytes shows.
          (p.told (tokens bytes) (ap (option_map tokens) shows)).shows
          ∙ ap (λ (ls : List LocatedToken). Some ls) (alone bytes shows);
      none = none_back o.profile _ here next
          (record { steps = p.steps; leads = before.comes; clean = before.clean }) (none_before o.profile here);
    }

-- what was read by a profile, to the file's end
pub record Reads (began left : Representation) (told : Option (List ℕ)) (at : ScopedCursor) (profile : Profile) : Type 0
  where
    pub acts : List Action
    pub is : IsWhole profile told acts at
    pub tells : HasTold began left acts

abbrev all_of : {began left : Representation} {told : Option (List ℕ)} {at : ScopedCursor} {profile : Profile} →
    Reads began left told at profile → List LocatedToken
all_of {at = at} r = r.is.consumed ++ next_at at.position ∷ []

pub reads_of : {F B : Type 0} {o : Start B} {stands : B → Representation} {at : Automaton F B} →
    Stands o stands front.End at →
    Reads (stands o.builder) (stands at.builder.now) o.origin.bytes at.tokens o.origin.profile
reads_of {o = o} {at = at} h = record {
  acts = h.acts;
  is = whole
      (subst (λ (fs : List Frame). Path o.origin (AnEnd ∷ stack_of fs) [] h.acts at.tokens) h.fits.0
      (subst (λ (vs : List PartialTree). Path o.origin (AnEnd ∷ stack_of at.frames) vs h.acts at.tokens) h.fits.1
      h.path))
      h.fits.2;
  tells = h.told;
}

compiled_as : (profile : Profile) (bytes : List ℕ) (located_tokens : List LocatedToken)
    (verdict : Result File Diagnostic) → tokens bytes ≡ located_tokens →
    compiled_tokens profile located_tokens ≡ verdict → compiled profile bytes ≡ verdict
unfolding compiled
compiled_as profile bytes located_tokens verdict same is = rw same is

-- a derivation has one end
one_end : (p q : Profile) (ls ms : List LocatedToken) (scope : Scope) (fs gs : List Definition) → ls ≡ ms →
    PassesAll p ls scope fs → PassesAll q ms scope gs → fs ≡ gs
one_end p q ls ms scope fs gs same a b =
    let back : derived b.steps (initial_state ls) ≡ state [] [] [] scope gs =
    subst (λ (xs : List LocatedToken). derived b.steps (initial_state xs) ≡ state [] [] [] scope gs) (sym same) b.leads
    in
    let one : derived (a.steps + b.steps) (initial_state ls) ≡ state [] [] [] scope fs =
    derived-add a.steps b.steps (initial_state ls) ∙ ap (λ (s : State). derived b.steps s) a.leads
    ∙ stays_final b.steps (state [] [] [] scope fs) refl in
    let other : derived (b.steps + a.steps) (initial_state ls) ≡ state [] [] [] scope gs =
    derived-add b.steps a.steps (initial_state ls) ∙ ap (λ (s : State). derived a.steps s) back
    ∙ stays_final a.steps (state [] [] [] scope gs) refl in
    let order : a.steps + b.steps ≡ b.steps + a.steps = omega arith in
    ap (λ (s : State). s.functions)
    (sym one ∙ ap (λ (n : ℕ). derived n (initial_state ls)) order ∙ other)

module _ {began left : Representation} {told : Option (List ℕ)} {at : ScopedCursor} (first : Profile)
    (new : began first []) (reads : (profile : Profile) → began profile [] → Reads began left told at profile) where
  -- all functions are defined, and main is among them
  pub whole_file : {names : Pools} → IsComplete (scope_of at) → names ≡ pools_in (scope_of at) →
      ParsesToFile began left told names
  whole_file complete same =
      let r : Reads began left told at first = reads first new in
      let f : IsFinished first (all_of r) (scope_of at) r.is.functions =
      finished first (all_of r) (scope_of at) r.is.functions r.is.passes complete.defined complete.main in
      record {
        file = f.file;
        resolved = f.resolved;
        named = same ∙ f.named;
        main = rw same f.main;
        built = λ profile h.
            subst (λ (acts : List Action). left profile acts) (r.is.reports ∙ sym f.reported) (r.tells.each profile h);
        closed = record {
          profile = first;
          acts = r.acts;
          stood = r.tells.each first new;
          opens = ap (λ (acts : List Action). follow_all acts []) r.is.reports
              ∙ nothing_open r.is.functions (subst IsBeginning r.is.reports r.is.begins);
        };
        is = λ bytes shows profile h.
            let q : Reads began left told at profile = reads profile h in
            let one : all_of q ≡ all_of r = sym (q.is.tells bytes shows) ∙ r.is.tells bytes shows in
            let defined : q.is.functions ≡ r.is.functions =
            one_end profile first (all_of q) (all_of r) (scope_of at) q.is.functions r.is.functions one q.is.passes
            r.is.passes in
            compiled_as profile bytes (all_of q) (Ok f.file) (q.is.tells bytes shows)
            (clean_verdict profile (all_of q) (state [] [] [] (scope_of at) q.is.functions) q.is.passes refl refl
            ∙ ap (λ (ls : List LocatedToken). resolved ls (scope_of at) q.is.functions) one
            ∙ ap (λ (fs : List Definition). resolved (all_of r) (scope_of at) fs) defined
            ∙ sym (clean_verdict first (all_of r) (state [] [] [] (scope_of at) r.is.functions) r.is.passes refl refl)
            ∙ f.compiled);
      }

  -- What is lacking is the file's fault.

  lacks_definition : (line : ℕ) → line_of_undefined 0 (scope_of at).lines (scope_of at).begun ≡ Some line →
      FailsBytes began told (diagnostic line fault_code.FunctionNotDefined)
  lacks_definition line is bytes shows profile h =
      let q : Reads began left told at profile = reads profile h in
      compiled_as profile bytes (all_of q) (Err (diagnostic line fault_code.FunctionNotDefined))
      (q.is.tells bytes shows)
      (undefined profile (all_of q) (scope_of at) q.is.functions line q.is.passes is)

  lacks_main : line_of_undefined 0 (scope_of at).lines (scope_of at).begun ≡ None →
      is_some (function_number main_name (scope_of at)) ≡ false →
      FailsBytes began told (diagnostic (next_at at.position).line fault_code.NoMainFunction)
  lacks_main defined none bytes shows profile h =
      let q : Reads began left told at profile = reads profile h in
      compiled_as profile bytes (all_of q) (Err (diagnostic (next_at at.position).line fault_code.NoMainFunction))
      (q.is.tells bytes shows)
      (without_main profile (all_of q) (scope_of at) q.is.functions q.is.passes defined none
      ∙ ap (λ (n : ℕ). Err (diagnostic n fault_code.NoMainFunction))
      (last_line_is q.is.consumed (next_at at.position)))

  pub lacking : (denied : Type 0) (to_come : Option (List ℕ)) (f : ParseFault) →
      LacksDefinition at.position.lookahead f → ParseIsRefused began left denied told to_come f
  lacking denied to_come f (ADefinition line is same) = rw same (lacks_definition line is)
  lacking denied to_come f (AMain defined none same) = rw same (lacks_main defined none)

-- How much was taken.

takes_up_to : (profile : Profile) (bytes : List ℕ) (to_come : Option (List ℕ)) (used more : ℕ)
    (passed rest : List LocatedToken) → tokens bytes ≡ passed ++ rest →
    NoFaultBefore profile (initial_state (tokens bytes)) rest →
    to_come ≡ Some (drop used bytes) → used ≤ 1048577 → used ≤ reach_of rest + more →
    TakesUpTo profile bytes to_come more
takes_up_to profile bytes to_come used more passed rest is none took limited taken =
    let needed : reach_of rest ≤ need profile bytes = what_was_read_is_needed profile bytes passed rest is none.each in
    record { count = used; took = took; needed = omega (arith, needed, taken); limited = limited }

-- `used` bytes were taken from a device whose bytes are known
pub record HasTaken (used : ℕ) (told to_come : Option (List ℕ)) : Type 0 where
  pub took : (bytes : List ℕ) → told ≡ Some bytes → to_come ≡ Some (drop used bytes)
  pub limited : used ≤ 1048577

pub has_taken : (at : ScopedCursor) (told to_come : Option (List ℕ)) →
    at.position.to_come ≡ option_map (drop (taken_at at.position)) told → to_come ≡ at.position.to_come →
    taken_at at.position ≤ most_taken_bytes → HasTaken (taken_at at.position) told to_come
has_taken at told to_come took same limited =
    record { took = λ bytes is. same ∙ took ∙ rw is refl; limited = limited }

leaves_open : (profile : Profile) (bytes : List ℕ) (to_come : Option (List ℕ)) (used : ℕ)
    (passed rest : List LocatedToken) → tokens bytes ≡ passed ++ rest →
    NoFaultBefore profile (initial_state (tokens bytes)) rest →
    to_come ≡ Some (drop used bytes) → used ≤ 1048577 → used ≤ undecided_reach_of rest →
    LeavesUndecided profile bytes to_come
leaves_open profile bytes to_come used passed rest is none took limited taken =
    let up_to : reach_of rest ≤ need profile bytes = what_was_read_is_needed profile bytes passed rest is none.each in
    record {
      count = used;
      took = took;
      needed = omega (arith, up_to, open-within rest used taken);
      undecided = open-to_last bytes passed rest used is taken;
      limited = limited;
    }

-- a file that was read to its end
pub whole_takes : {began left : Representation} {told to_come : Option (List ℕ)} {at : ScopedCursor} →
    ((profile : Profile) → began profile [] → Reads began left told at profile) → IsReady at →
    HasTaken (taken_at at.position) told to_come → TakesNoMore began told to_come 4096
whole_takes {to_come = to_come} {at = at} reads ready taken bytes shows profile h =
    let q = reads profile h in
    let is : tokens bytes ≡ q.is.consumed ++ next_at at.position ∷ [] = q.is.tells bytes shows in
    takes_up_to profile bytes to_come (taken_at at.position) 4096 q.is.consumed (next_at at.position ∷ []) is
    (subst (λ (ls : List LocatedToken). NoFaultBefore profile (initial_state ls) (next_at at.position ∷ [])) (sym is)
    q.is.none) (taken.took bytes shows) taken.limited
    (near_told at.position (next_at at.position ∷ []) (taken_at at.position) (q.is.shows bytes shows) ready.near)

pub lacks_taking : {began left : Representation} {told to_come : Option (List ℕ)} {at : ScopedCursor} {f : ParseFault} →
    ((profile : Profile) → began profile [] → Reads began left told at profile) → IsReady at →
    HasTaken (taken_at at.position) told to_come → LacksDefinition at.position.lookahead f →
    StopsTaking began told to_come f
lacks_taking reads ready taken (ADefinition line is same) = rw same (whole_takes reads ready taken)
lacks_taking reads ready taken (AMain defined none same) = rw same (whole_takes reads ready taken)

-- What a refusal says.

builds_by : (after : Representation) (profile : Profile) (bytes : List ℕ) (to_come : Option (List ℕ)) (used : ℕ)
    (s : Stops profile (initial_state (tokens bytes)) (stop_with parse_fault.Device used)) →
    to_come ≡ Some (drop used bytes) →
    (more : List Action) →
    after profile (definitions_actions (derived s.steps (initial_state (tokens bytes))).functions ++ more) →
    HasBuilt after profile bytes to_come
builds_by after profile bytes to_come used s took more stands =
    let defined : IsAmongDefined bytes used s.steps =
    built_by_stop bytes used s.steps
    (subst (λ (ls : List LocatedToken). used ≤ reach_of ls) (sym s.comes) (open-within s.rest used s.taken)) in
    record {
      count = used;
      took = took;
      more = defined.more ++ more;
      stands = subst (λ (xs : List Action). after profile xs)
          (ap (λ (xs : List Action). xs ++ more) defined.is ∙
          append_assoc (built bytes used) defined.more more) stands;
    }

-- a refusal by each profile
abbrev pub AreRefused : (began left : Representation) (denied : Type 0) (told : Option (List ℕ))
    (account : FailureCount)
    (borrows : ℕ × ℕ) (at : ScopedCursor) → ParseFault → Type 0
AreRefused began left denied told account borrows at f =
    (profile : Profile) → began profile [] →
    Refused (from told account borrows profile) denied (HasTold began left) f at

pub stopped : {began left : Representation} {denied : Type 0} {told to_come : Option (List ℕ)} {account : FailureCount}
    {borrows : ℕ × ℕ} {at : ScopedCursor} (f : ParseFault) (first : Profile) → began first [] →
    HasTaken (taken_at at.position) told to_come → AreRefused began left denied told account borrows at f →
    ParseIsRefused began left denied told to_come f
stopped (parse_fault.Source d) first new taken refused = λ bytes shows profile h.
    let s = (refused profile h).ended.stops (tokens bytes) (ap (option_map tokens) shows) in
    compiled_as profile bytes (tokens bytes) (Err d) refl (fault_verdict profile (tokens bytes) d s.stops.fails)
stopped {left = left} {to_come = to_come} {at = at} parse_fault.Device first new taken refused =
    λ bytes shows profile h.
    let r = refused profile h in
    let s = r.ended.stops (tokens bytes) (ap (option_map tokens) shows) in
    let p : IsPart (emissions s.steps (initial_state (tokens bytes)))
    (derived s.steps (initial_state (tokens bytes))).functions = emits_a_part s.steps (tokens bytes) in
    builds_by left profile bytes to_come (taken_at at.position) s.stops (taken.took bytes shows) p.part
    (subst (λ (xs : List Action). left profile xs)
    (sym s.emits ∙ p.is ∙ ap (λ (fs : List Definition). definitions_actions fs ++ p.part) (sym s.functions))
    (r.leaves.each profile h))
stopped parse_fault.Memory first new taken refused = (refused first new).leaves

pub stops_taking : {began left : Representation} {denied : Type 0} {told to_come : Option (List ℕ)}
    {account : FailureCount} {borrows : ℕ × ℕ} {at : ScopedCursor} (f : ParseFault) →
    HasTaken (taken_at at.position) told to_come → AreRefused began left denied told account borrows at f →
    StopsTaking began told to_come f
stops_taking {to_come = to_come} {at = at} (parse_fault.Source d) taken refused = λ bytes shows profile h.
    let s = ((refused profile h).ended.stops (tokens bytes) (ap (option_map tokens) shows)).stops in
    takes_up_to profile bytes to_come (taken_at at.position) 4096 s.passed s.rest s.is s.none_before
    (taken.took bytes shows) taken.limited s.taken
stops_taking {to_come = to_come} {at = at} parse_fault.Device taken refused = λ bytes shows profile h.
    let s = ((refused profile h).ended.stops (tokens bytes) (ap (option_map tokens) shows)).stops in
    leaves_open profile bytes to_come (taken_at at.position) s.passed s.rest s.is s.none_before
    (taken.took bytes shows) taken.limited s.taken
stops_taking {to_come = to_come} {at = at} parse_fault.Memory taken refused = λ bytes shows profile h.
    let s = ((refused profile h).ended.stops (tokens bytes) (ap (option_map tokens) shows)).stops in
    takes_up_to profile bytes to_come (taken_at at.position) 4096 s.passed s.rest s.is s.none_before
    (taken.took bytes shows) taken.limited s.taken

-- At the first token, when nothing was reported.

first_fails : (before : Representation) (told told' : Option (List ℕ)) (d : Diagnostic) →
    StopsAtFirst told told' (parse_fault.Source d) → FailsBytes before told d
first_fails before told told' d stops bytes shows profile h =
    let s : (is_lexical_error (next_token (tokens bytes)) ≡ true) ×
    (d ≡ diagnostic (line_at (tokens bytes)) (unexpected_token_code (next_token (tokens bytes)))) =
    stops.refused.lexical_error (tokens bytes) (ap (option_map tokens) shows) in
    compiled_as profile bytes (tokens bytes) (Err d) refl
    (fault_verdict profile (tokens bytes) d
    (rw s.1 (at_fault profile (Part Source ∷ []) (tokens bytes) [] no_names [] s.0)))

pub first_taking : (before : Representation) (told to_come : Option (List ℕ)) (f : ParseFault) →
    StopsAtFirst told to_come f →
    StopsTaking before told to_come f
first_taking before told to_come (parse_fault.Source d) stops = λ bytes shows profile stands.
    takes_up_to profile bytes to_come stops.taken 4096 [] (tokens bytes) refl
    (none_before profile (initial_state (tokens bytes))) (stops.took bytes shows) stops.limited
    (stops.refused.taken (tokens bytes) (ap (option_map tokens) shows))
first_taking before told to_come parse_fault.Device stops = λ bytes shows profile stands.
    leaves_open profile bytes to_come stops.taken [] (tokens bytes) refl
    (none_before profile (initial_state (tokens bytes)))
    (stops.took bytes shows) stops.limited (stops.refused.taken (tokens bytes) (ap (option_map tokens) shows))
first_taking before told to_come parse_fault.Memory stops = absurd stops.refused.0

opening_builds : (before : Representation) (told to_come : Option (List ℕ)) (used : ℕ) → HasTaken used told to_come →
    StopsFirst (option_map tokens told) (stop_with parse_fault.Device used) → BuildsAhead before before told to_come
opening_builds before told to_come used taken stops bytes shows profile h =
    let some : used ≤ undecided_reach_of (tokens bytes) = stops.taken (tokens bytes) (ap (option_map tokens) shows) in
    let s : Stops profile (initial_state (tokens bytes)) (stop_with parse_fault.Device used) =
    stops_here profile (initial_state (tokens bytes)) (stop_with parse_fault.Device used) tt some in
    builds_by before profile bytes to_come used s (taken.took bytes shows) []
    (subst (λ (fs : List Definition). before profile (definitions_actions fs ++ []))
    (sym (functions_here profile (initial_state (tokens bytes)) (stop_with parse_fault.Device used) tt some)) h)

pub first_refused : (before : Representation) (told to_come : Option (List ℕ)) (f : ParseFault) (denied : Type 0) →
    StopsAtFirst told to_come f → ParseIsRefused before before denied told to_come f
first_refused before told to_come (parse_fault.Source d) denied stops = first_fails before told to_come d stops
first_refused before told to_come parse_fault.Device denied stops =
    opening_builds before told to_come stops.taken (record { took = stops.took; limited = stops.limited }) stops.refused
first_refused before told to_come parse_fault.Memory denied stops = absurd stops.refused.0

-- What is said of a builder as a parser left it is true of it when the parser is gone.
pub file_left : {B : Type 0} →
    (stands : B → Representation) (before : Representation) (last left : B) (told : Option (List ℕ))
    (names : Pools) → last ≡ left → ParsesToFile before (stands left) told names →
    ParsesToFile before (stands last) told names
file_left stands before last left told names same h = rw same h

pub refused_left : (before after left : Representation) (denied : Type 0) (told to_come : Option (List ℕ))
    (fault : ParseFault)
    →
    ((profile : Profile) (acts : List Action) → left profile acts → after profile acts) →
    ParseIsRefused before left denied told to_come fault → ParseIsRefused before after denied told to_come fault
refused_left before after left denied told to_come (parse_fault.Source d) same h = h
refused_left before after left denied told to_come parse_fault.Device same h = λ bytes e profile start.
    let built = h bytes e profile start in
    record { count = built.count; took = built.took; more = built.more; stands = same profile _ built.stands }
refused_left before after left denied told to_come parse_fault.Memory same h = h
