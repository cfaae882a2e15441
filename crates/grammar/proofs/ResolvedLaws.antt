-- A file that compiles is resolved.
use Rattle.std.proofs.Common.{◌≡◌, ℕ, zero, suc, ◌+◌, ◌<◌, List, [], ◌∷◌, ◌++◌, refl, sym, ap, ◌∙◌, subst, inl, inr, Bool, true, false, arith, length, append-nil, drop}
use Rattle.std.proofs.lemmas.Bool.Decides.{nat_tests}
use Rattle.std.proofs.lemmas.List.{length-map, length-set, map-append}
use Rattle.std.specs.Prelude.{Option, Some, None, Result, Ok, Err, if◌then◌else◌, unwrap_or, map, slice_get, ◌==◌}
use Rattle.tokens.specs.declared.located_tokens.LocatedToken.{LocatedToken}
use Rattle.grammar.specs.declared.diagnostics.Diagnostic.{Diagnostic}
use Rattle.grammar.specs.Compiled.{order_of, defined_as, in_front, all_defined, file_of, resolved, verdict, main_name, all_faults, last_state, enough_steps, last_line}
use Rattle.grammar.specs.Derivation.{State, initial_state, PartialTree, Definition, definition_of, last_body, trees_after, name_tree, next_token, token_after_next, line_at, stack_step, stepped, derived}
use Rattle.grammar.specs.Laws.StateParts.{state}
use Rattle.grammar.specs.Faults.{Fault, faults_at, faults_in, stack_faults, name_faults, role_faults, unexpected_token, unexpected_tokens}
use Rattle.grammar.specs.Grammar.{Item, Exactly, AKeyword, AName, AConstant, AnEnd, Part, Make, Close, SemanticAction, Define, Role, Defined, Called, Mentioned, is_lexical_error}
use Rattle.grammar.specs.Laws.{CompiledIsResolved}
use Rattle.grammar.specs.Profile.{Profile}
use Rattle.grammar.specs.Pools.{FunctionNames}
use Rattle.grammar.specs.Resolved.{FitsFile, IsAmong, AreDistinct, IsResolved}
use Rattle.grammar.specs.Scope.{Scope, scope_after_name, end_definition, function_number, number_or_next}
use Rattle.grammar.specs.Tree.{Function, File}
use Rattle.grammar.proofs.AfterSteps.{IfStepped, if_matched, if_named, if_constant, if_replaced}
use Rattle.grammar.proofs.Phases.{Phase, Outside, Before, Inside, Wrong, Stays, inside, outside_then, begun, by_role, phase_of, part_stays}
use Rattle.grammar.proofs.DistinctNames.{distinct_front, HaveNames, part_at, names, at_append, names_kept}
use Rattle.grammar.proofs.Indices.{map_by_index}
use Rattle.grammar.proofs.Runs.{append_empty}
use Rattle.grammar.proofs.Soundness.{InValue, ValuesIn, values_wider, made_in, last_body_in, IsScoped, Grows, Clean, AllIn, all_append, BeginsWell, definition_begins, role_grows, callee_in, variable_in, function_below}

-- The names and trees, by the phase.

pub record Quiet (values : List PartialTree) (scope : Scope) (ds : List Definition) : Type 0 where
  pub none : values ≡ []
  pub begun : scope.begun ≡ order_of ds

pub record Busy (values : List PartialTree) (scope : Scope) (ds : List Definition) : Type 0 where
  pub within : ValuesIn (length scope.externals) (length scope.current.variables) (length scope.functions) values
  pub begun : scope.begun ≡ order_of ds ++ scope.number ∷ []
  pub named : slice_get (names scope.functions) scope.number ≡ Some scope.current.name

abbrev pub Tied : Phase → List PartialTree → Scope → List Definition → Type 0
Tied Outside values scope ds = Quiet values scope ds
Tied Before values scope ds = Quiet values scope ds
Tied Inside values scope ds = Busy values scope ds
Tied Wrong values scope ds = ⊥

pub record Sound (s : State) : Type 0 where
  pub scoped : IsScoped s.scope s.functions
  pub tied : Tied (phase_of s.stack) s.values s.scope s.functions

tied_stays : (before after : Phase) (values : List PartialTree) (scope : Scope) (ds : List Definition) →
    Stays before after →
    Tied before values scope ds → Tied after values scope ds
tied_stays Outside Outside values scope ds e t = t
tied_stays Outside Before values scope ds e t = t
tied_stays Before Outside values scope ds e t = t
tied_stays Before Before values scope ds e t = t
tied_stays Inside Inside values scope ds e t = t
tied_stays Wrong after values scope ds e t = absurd t
tied_stays phase after values scope ds e t = absurd (cc)

quiet_grows : (values : List PartialTree) (old new : Scope) (ds : List Definition) → Grows old new ds →
    Quiet values old ds →
    Quiet values new ds
quiet_grows values old new ds g q = record { none = q.none; begun = g.begun ∙ q.begun }

busy_grows : (values : List PartialTree) (old new : Scope) (ds : List Definition) → Grows old new ds →
    Busy values old ds →
    Busy values new ds
busy_grows values old new ds g b = record {
  within = values_wider _ _ _ _ _ _ g.wider values b.within;
  begun = g.begun ∙ b.begun ∙ ap (λ n. order_of ds ++ n ∷ []) (sym g.number);
  named = rw (g.number, g.current) (g.same old.number old.current.name b.named);
}

tied_grows : (phase : Phase) (values : List PartialTree) (old new : Scope) (ds : List Definition) → Grows old new ds →
    Tied phase values old ds → Tied phase values new ds
tied_grows Outside values old new ds g t = quiet_grows values old new ds g t
tied_grows Before values old new ds g t = quiet_grows values old new ds g t
tied_grows Inside values old new ds g t = busy_grows values old new ds g t
tied_grows Wrong values old new ds g t = absurd t

-- inside of a function the trees may change
tied_inside : (phase : Phase) (values more : List PartialTree) (old new : Scope) (ds : List Definition) →
    (Busy values old ds → Busy more new ds) → Tied (inside phase) values old ds → Tied phase more new ds
tied_inside Inside values more old new ds change t = change t
tied_inside phase values more old new ds change t = absurd t

-- a definition begins
tied_begun : (phase : Phase) (values : List PartialTree) (old new : Scope) (ds : List Definition) →
    (Quiet values old ds → Busy values new ds) → Tied (begun phase) values old ds → Tied phase values new ds
tied_begun Inside values old new ds change t = change t
tied_begun phase values old new ds change t = absurd t

-- it ends
tied_ended : (phase : Phase) (values : List PartialTree) (old new : Scope) (ds more : List Definition) →
    (Busy values old ds → Quiet [] new more) → Tied (outside_then Inside phase) values old ds → Tied phase [] new more
tied_ended Outside values old new ds more change t = change t
tied_ended phase values old new ds more change t = absurd t

-- Steps.

-- a name within a function makes a tree
tree_sound : {stack : List Item} {left : List LocatedToken} {values : List PartialTree} {scope new : Scope}
    {ds : List Definition} (tree : PartialTree) →
    InValue (length new.externals) (length new.current.variables) (length new.functions) tree → Grows scope new ds →
    Tied (inside (phase_of stack)) values scope ds → Sound (state stack left (tree ∷ values) new ds)
tree_sound {stack} {values = values} {scope = scope} {new = new} {ds = ds} tree within g t = record {
  scoped = g.scoped;
  tied = tied_inside (phase_of stack) values (tree ∷ values) scope new ds
      (λ b. let c : Busy values new ds = busy_grows values scope new ds g b in
      record { within = (within, c.within); begun = c.begun; named = c.named }) t;
}

name_sound : (role : Role) (name : List ℕ) (stack : List Item) (rest : List LocatedToken) (line : ℕ)
    (left : List LocatedToken) (values : List PartialTree) (scope : Scope) (ds : List Definition) →
    IsScoped scope ds → Clean (role_faults role name scope rest) →
    Tied (by_role role (phase_of stack)) values scope ds →
    Sound (state stack left (name_tree role name scope ++ values) (scope_after_name role name line scope) ds)
name_sound Defined name stack rest line left values scope ds k clean t =
    let w : BeginsWell name line scope ds = definition_begins name line scope ds rest k clean in
    record {
      scoped = w.scoped;
      tied = tied_begun (phase_of stack) values scope (scope_after_name Defined name line scope) ds
          (λ q. record {
            within = rw q.none tt;
            begun = w.begun ∙ ap (λ ns. ns ++ number_or_next name scope ∷ []) q.begun;
            named = w.named;
          }) t;
    }
name_sound Called name stack rest line left values scope ds k clean t =
    tree_sound _ (record { callable = callee_in name line scope; arguments = tt })
    (role_grows Called name line scope ds rest tt k clean) t
name_sound Mentioned name stack rest line left values scope ds k clean t =
    tree_sound _ (variable_in name scope) (role_grows Mentioned name line scope ds rest tt k clean) t
name_sound role name stack rest line left values scope ds k clean t =
    let g = role_grows role name line scope ds rest tt k clean in
    record { scoped = g.scoped; tied = tied_grows (phase_of stack) values scope _ ds g t }

order-append : (ds : List Definition) (d : Definition) → order_of (ds ++ d ∷ []) ≡ order_of ds ++ d.number ∷ []
order-append ds d = map-append (λ (x : Definition). x.number) ds (d ∷ [])

pub among_last : (n : ℕ) (ns : List ℕ) → IsAmong n (ns ++ n ∷ [])
among_last n [] = inl refl
among_last n (x ∷ ns) = inr (among_last n ns)

-- at a function's end
define_scoped : (values : List PartialTree) (scope : Scope) (ds : List Definition) → IsScoped scope ds →
    Busy values scope ds →
    IsScoped (end_definition scope) (ds ++ definition_of scope (last_body values) ∷ [])
define_scoped values scope ds k b =
    let same : length (end_definition scope).functions ≡ length scope.functions =
    length-set scope.functions scope.number scope.current in
    let kept : names (end_definition scope).functions ≡ names scope.functions =
    names_kept scope.functions scope.number scope.current b.named in
    record {
      externals = k.externals;
      functions = omega (arith, k.functions);
      lines = k.lines ∙ sym same;
      variables = omega arith;
      parameters = omega arith;
      definitions =
          subst (λ (n : ℕ). AllIn (length scope.externals) n (ds ++ definition_of scope (last_body values) ∷ []))
          (sym same)
          (all_append _ _ ds _ k.definitions
          (k.below scope.number
          (subst (λ (ns : List ℕ). IsAmong scope.number ns) (sym b.begun) (among_last scope.number (order_of ds))))
          (record {
            parameters = k.parameters;
            variables = k.variables;
            distinct = k.distinct_variables;
            body = last_body_in _ _ _ values b.within;
          }));
      begun = k.begun;
      below = λ j i. let low : j < length scope.functions = k.below j i in omega (arith, same);
      distinct_externals = k.distinct_externals;
      distinct_variables = tt;
      distinct_functions = rw kept k.distinct_functions;
      named = rw kept
          (at_append (λ (f : Function). f.name) (names scope.functions) ds (definition_of scope (last_body values))
          k.named b.named);
    }

-- a function that ends had begun
pub ended : (phase : Phase) (values : List PartialTree) (scope : Scope) (ds : List Definition) →
    Tied (outside_then Inside phase) values scope ds → Busy values scope ds
ended Outside values scope ds t = t
ended phase values scope ds t = absurd t

define_sound : (stack : List Item) (rest : List LocatedToken) (values : List PartialTree) (scope : Scope)
    (ds : List Definition) →
    IsScoped scope ds → Tied (outside_then Inside (phase_of stack)) values scope ds →
    Sound (state stack rest [] (end_definition scope) (ds ++ definition_of scope (last_body values) ∷ []))
define_sound stack rest values scope ds k t = record {
  scoped = define_scoped values scope ds k (ended (phase_of stack) values scope ds t);
  tied = tied_ended (phase_of stack) values scope (end_definition scope) ds _
      (λ b. record { none = refl; begun = b.begun ∙ sym (order-append ds (definition_of scope (last_body values))) }) t;
}

make_sound : (rule : SemanticAction) (stack : List Item) (rest : List LocatedToken) (values : List PartialTree)
    (scope : Scope) (ds : List Definition) →
    IsScoped scope ds → Tied (inside (phase_of stack)) values scope ds →
    Sound (state stack rest (trees_after rule values) scope (ds ++ []))
make_sound rule stack rest values scope ds k t =
    subst (λ (xs : List Definition). Sound (state stack rest (trees_after rule values) scope xs))
    (sym (append-nil ds)) (record {
      scoped = k;
      tied = tied_inside (phase_of stack) values (trees_after rule values) scope scope ds
          (λ b. record { within = made_in _ _ _ rule values b.within; begun = b.begun; named = b.named }) t;
    })

sound_of : (profile : Profile) (stack : List Item) (s : State) →
    Clean (stack_faults profile stack (record s { stack = stack })) → Sound (record s { stack = stack }) →
    IfStepped Sound (stack_step stack s)
sound_of profile [] s clean h = tt
sound_of profile (Exactly m ∷ stack) s clean h =
    if_matched Sound _ stack s (λ e. record { scoped = h.scoped; tied = h.tied })
sound_of profile (AKeyword w ∷ stack) s clean h =
    if_matched Sound _ stack s (λ e. record { scoped = h.scoped; tied = h.tied })
sound_of profile (AName role ∷ stack) s clean h =
    if_named Sound role _ stack s
    (λ name e. name_sound role name stack s.rest (line_at s.rest) (drop 1 s.rest) s.values s.scope s.functions h.scoped
    (subst (λ (n : Option (List ℕ)). Clean (name_faults role n s.scope s.rest)) e clean) h.tied)
sound_of profile (AConstant ∷ stack) s clean h =
    if_constant Sound _ stack s
    (λ n e. record {
      scoped = h.scoped;
      tied = tied_inside (phase_of stack) s.values _ s.scope s.scope s.functions
          (λ b. record { within = (tt, b.within); begun = b.begun; named = b.named }) h.tied;
    })
sound_of profile (AnEnd ∷ stack) s clean h =
    if_matched Sound _ stack s (λ e. record { scoped = h.scoped; tied = h.tied })
sound_of profile (Part symbol ∷ stack) s clean h =
    if_replaced Sound _ stack s
    (λ items e. record {
      scoped = h.scoped;
      tied = tied_stays (phase_of (Part symbol ∷ stack)) (phase_of (items ++ stack)) s.values s.scope s.functions
          (part_stays symbol (next_token s.rest) (token_after_next s.rest) items stack e) h.tied;
    })
sound_of profile (Make Define ∷ stack) s clean h =
    define_sound stack s.rest s.values s.scope s.functions h.scoped h.tied
sound_of profile (Make rule ∷ stack) s clean h =
    make_sound rule stack s.rest s.values s.scope s.functions h.scoped h.tied
sound_of profile (Close ∷ stack) s clean h = record { scoped = h.scoped; tied = h.tied }

pub stepped_sound : (profile : Profile) (s : State) → faults_at profile s ≡ [] → Sound s → Sound (stepped s)
stepped_sound profile s clean h = by (is_lexical_error (next_token s.rest)) clean
  where
    by : (b : Bool) →
        (if b then unexpected_token s.rest else stack_faults profile s.stack s
        ++ unexpected_tokens s.stack s.rest (stack_step s.stack s)) ≡ [] →
        Sound (unwrap_or (if b then None else stack_step s.stack s) s)
    by true e = h
    by false e = by_step (stack_step s.stack s)
        (sound_of profile s.stack s (append_empty (stack_faults profile s.stack s) _ e).0
        (record { scoped = h.scoped; tied = h.tied }))
      where
        by_step : (next : Option State) → IfStepped Sound next → Sound (unwrap_or next s)
        by_step None k = h
        by_step (Some t) k = k

pub run_sound : (profile : Profile) (n : ℕ) (s : State) → faults_in profile n s ≡ [] → Sound s → Sound (derived n s)
run_sound profile zero s clean h = h
run_sound profile (suc n) s clean h =
    run_sound profile n (stepped s) (append_empty (faults_at profile s) (faults_in profile n (stepped s)) clean).1
    (stepped_sound profile s (append_empty (faults_at profile s) (faults_in profile n (stepped s)) clean).0 h)

pub start_sound : (located_tokens : List LocatedToken) → Sound (initial_state located_tokens)
start_sound located_tokens = record {
  scoped = record {
    externals = omega arith;
    functions = omega arith;
    lines = refl;
    variables = omega arith;
    parameters = omega arith;
    definitions = tt;
    begun = tt;
    below = λ k i. absurd i;
    distinct_externals = tt;
    distinct_variables = tt;
    distinct_functions = tt;
    named = tt;
  };
  tied = record { none = refl; begun = refl };
}

-- The file of the last state.

defined_in : (e n k : ℕ) (f : Function) (ds : List Definition) → AllIn e n ds → defined_as k ds ≡ Some f →
    FitsFile e n f
defined_in e n k f [] h is = absurd (cc)
defined_in e n k f (d ∷ ds) h is = at_test (λ g. defined_in e n k f ds h.2 g) (d.number == k) is
  where
    at_test : (defined_as k ds ≡ Some f → FitsFile e n f) → (b : Bool) →
        (if b then Some d.function else defined_as k ds) ≡ Some f → FitsFile e n f
    at_test again true g = let same : d.function ≡ f = cc in subst (λ (x : Function). FitsFile e n x) same h.1
    at_test again false g = again g

defined_among : (k : ℕ) (f : Function) (ds : List Definition) → defined_as k ds ≡ Some f → IsAmong k (order_of ds)
defined_among k f [] is = absurd (cc)
defined_among k f (d ∷ ds) is = at_test (λ g. defined_among k f ds g) (d.number == k) refl is
  where
    same_number : (x y : ℕ) → (x == y) ≡ true → y ≡ x
    same_number x y e = grind (arith, nat_tests)

    at_test : (defined_as k ds ≡ Some f → IsAmong k (order_of ds)) → (b : Bool) → (d.number == k) ≡ b →
        (if b then Some d.function else defined_as k ds) ≡ Some f → IsAmong k (order_of (d ∷ ds))
    at_test again true e g = inl (same_number d.number k e)
    at_test again false e g = inr (again g)

pub order_below : (e n k : ℕ) (ds : List Definition) → AllIn e n ds → IsAmong k (order_of ds) → k < n
order_below e n k [] h i = absurd i
order_below e n k (d ∷ ds) h (inl same) = subst (λ (x : ℕ). x < n) (sym same) h.0
order_below e n k (d ∷ ds) h (inr i) = order_below e n k ds h.2 i

-- the functions are those defined, by number
pub record AreDefined (number : ℕ) (lines : List ℕ) (ds : List Definition) (functions : List Function) : Type 0 where
  pub count : length functions ≡ length lines
  pub each : (k : ℕ) (f : Function) → slice_get functions k ≡ Some f → defined_as (number + k) ds ≡ Some f
  pub all : (k : ℕ) → k < length lines → IsAmong (number + k) (order_of ds)

record InFront (number : ℕ) (ds : List Definition) (functions : List Function) (others : Result (List Function) ℕ) :
    Type 0 where
  first : Function
  rest : List Function
  is : functions ≡ first ∷ rest
  here : defined_as number ds ≡ Some first
  further : others ≡ Ok rest

in_front_of : (number line : ℕ) (ds : List Definition) (functions : List Function) (o : Option Function)
    (others : Result (List Function) ℕ) → defined_as number ds ≡ o →
    in_front o line others ≡ Ok functions → InFront number ds functions others
in_front_of number line ds functions None others at e = absurd (cc)
in_front_of number line ds functions (Some f) (Err other) at e = absurd (cc)
in_front_of number line ds functions (Some f) (Ok fs) at e =
    record { first = f; rest = fs; is = sym (cc); here = at; further = refl }

none_there : (number : ℕ) (ds : List Definition) (functions : List Function) → functions ≡ [] →
    AreDefined number [] ds functions
none_there number ds [] e = record { count = refl; each = λ k f g. absurd (cc); all = λ k h. absurd (omega arith) }
none_there number ds (f ∷ fs) e = absurd (cc)

one_more : (number line : ℕ) (lines : List ℕ) (ds : List Definition) (first : Function) (rest : List Function) →
    defined_as number ds ≡ Some first →
    AreDefined (number + 1) lines ds rest → AreDefined number (line ∷ lines) ds (first ∷ rest)
one_more number line lines ds first rest here more = record {
  count = omega (arith, more.count);
  each = each;
  all = all;
}
  where
    at_zero : number + 0 ≡ number
    at_zero = omega arith

    at_suc : (k : ℕ) → number + suc k ≡ number + 1 + k
    at_suc k = omega arith

    each : (k : ℕ) (f : Function) → slice_get (first ∷ rest) k ≡ Some f → defined_as (number + k) ds ≡ Some f
    each zero f e = subst (λ (n : ℕ). defined_as n ds ≡ Some f) (sym at_zero) (here ∙ e)
    each (suc k) f e = subst (λ (n : ℕ). defined_as n ds ≡ Some f) (sym (at_suc k)) (more.each k f e)

    all : (k : ℕ) → k < length (line ∷ lines) → IsAmong (number + k) (order_of ds)
    all zero h = subst (λ (n : ℕ). IsAmong n (order_of ds)) (sym at_zero) (defined_among number first ds here)
    all (suc k) h = subst (λ (n : ℕ). IsAmong n (order_of ds)) (sym (at_suc k)) (more.all k (omega arith))

pub are_defined : (number : ℕ) (lines : List ℕ) (ds : List Definition) (functions : List Function) →
    all_defined number lines ds ≡ Ok functions → AreDefined number lines ds functions
are_defined number [] ds functions e = none_there number ds functions (cc)
are_defined number (line ∷ lines) ds functions e =
    let i : InFront number ds functions (all_defined (number + 1) lines ds) =
    in_front_of number line ds functions (defined_as number ds) (all_defined (number + 1) lines ds) refl e in
    subst (λ (fs : List Function). AreDefined number (line ∷ lines) ds fs) (sym i.is)
    (one_more number line lines ds i.first i.rest i.here (are_defined (number + 1) lines ds i.rest i.further))

abbrev pub made_file : Scope → List ℕ → List Function → ℕ → File
made_file scope order functions main =
    record { externals = scope.externals; functions = functions; order = order; main = main }

pub record IsMade (scope : Scope) (order : List ℕ) (functions : Result (List Function) ℕ) (main : Option ℕ)
    (file : File) : Type 0 where
  pub all : List Function
  pub number : ℕ
  pub found : functions ≡ Ok all
  pub named : main ≡ Some number
  pub is : made_file scope order all number ≡ file

pub is_made : (last : ℕ) (scope : Scope) (order : List ℕ) (functions : Result (List Function) ℕ) (main : Option ℕ)
    (file : File) → file_of last scope order functions main ≡ Ok file →
    IsMade scope order functions main file
is_made last scope order (Err line) main file e = absurd (cc)
is_made last scope order (Ok fs) None file e = absurd (cc)
is_made last scope order (Ok fs) (Some number) file e =
    record
    { all = fs; number = number; found = refl; named = refl; is = ok_same (made_file scope order fs number) file e }
  where
    ok_at : File → Result File Diagnostic
    ok_at x = Ok x

    ok_same : (x y : File) → ok_at x ≡ ok_at y → x ≡ y
    ok_same x y h = cc

pub distinct_of : (phase : Phase) (values : List PartialTree) (scope : Scope) (ds : List Definition) →
    AreDistinct scope.begun → Tied phase values scope ds → AreDistinct (order_of ds)
distinct_of Outside values scope ds h t = subst (λ (ns : List ℕ). AreDistinct ns) t.begun h
distinct_of Before values scope ds h t = subst (λ (ns : List ℕ). AreDistinct ns) t.begun h
distinct_of Inside values scope ds h t =
    distinct_front (order_of ds) scope.number (subst (λ (ns : List ℕ). AreDistinct ns) t.begun h)
distinct_of Wrong values scope ds h t = absurd t

-- so the functions' names are those that were mentioned
defined_names : (functions : List FunctionNames) (lines : List ℕ) (ds : List Definition) (all : List Function) →
    AreDefined 0 lines ds all → HaveNames (names functions) ds
    → length all ≡ length functions → map (λ (f : Function). f.name) all ≡ names functions
defined_names functions lines ds all a h count =
    map_by_index (λ (f : Function). f.name) all (names functions)
    (count ∙ sym (length-map functions (λ (f : FunctionNames). f.name)))
    (λ k f e. part_at (λ (f : Function). f.name) (names functions) k f ds h
    (subst (λ (n : ℕ). defined_as n ds ≡ Some f) (from_zero k) (a.each k f e)))
  where
    from_zero : (k : ℕ) → 0 + k ≡ k
    from_zero k = omega arith

resolved_of : (s : State) (all : List Function) (number : ℕ) → Sound s →
    all_defined 0 s.scope.lines s.functions ≡ Ok all → function_number main_name s.scope ≡ Some number →
    IsResolved (made_file s.scope (order_of s.functions) all number)
resolved_of s all number h found named =
    let a : AreDefined 0 s.scope.lines s.functions all = are_defined 0 s.scope.lines s.functions all found in
    let count : length all ≡ length s.scope.functions = a.count ∙ h.scoped.lines in
    record {
      externals = h.scoped.externals;
      functions = omega (arith, h.scoped.functions);
      distinct_externals = h.scoped.distinct_externals;
      distinct_functions = rw (defined_names s.scope.functions s.scope.lines s.functions all a h.scoped.named count)
          h.scoped.distinct_functions;
      each =
          λ k f e. subst (λ (n : ℕ). FitsFile (length s.scope.externals) n f) (sym count)
          (defined_in _ _ (0 + k) f s.functions h.scoped.definitions (a.each k f e));
      defined =
          λ k less. subst (λ (n : ℕ). IsAmong n (order_of s.functions)) (from_zero k)
          (a.all k (omega (arith, a.count)));
      only = λ k i. subst (λ (n : ℕ). k < n) (sym count) (order_below _ _ k s.functions h.scoped.definitions i);
      once = distinct_of (phase_of s.stack) s.values s.scope s.functions h.scoped.begun h.tied;
      main = subst (λ (n : ℕ). number < n) (sym count) (function_below main_name s.scope number named);
    }
  where
    from_zero : (k : ℕ) → 0 + k ≡ k
    from_zero k = omega arith

-- if the verdict is a file, no fault was gathered
pub record IsClean (located_tokens : List LocatedToken) (faults : List Fault) (scope : Scope) (ds : List Definition)
    (file : File) : Type 0 where
  pub clean : faults ≡ []
  pub is : resolved located_tokens scope ds ≡ Ok file

pub is_clean : (located_tokens : List LocatedToken) (faults : List Fault) (scope : Scope) (ds : List Definition)
    (file : File) → verdict located_tokens faults scope ds ≡ Ok file → IsClean located_tokens faults scope ds file
is_clean located_tokens [] scope ds file e = record { clean = refl; is = e }
is_clean located_tokens (f ∷ faults) scope ds file e = absurd (cc)

pub compiled_is_resolved : CompiledIsResolved
compiled_is_resolved profile located_tokens file e =
    let last = last_state located_tokens in
    let c = is_clean located_tokens (all_faults profile located_tokens) last.scope last.functions file e in
    let s =
    run_sound profile (enough_steps located_tokens) (initial_state located_tokens) c.clean (start_sound located_tokens)
    in
    let m = is_made (last_line located_tokens) last.scope (order_of last.functions)
    (all_defined 0 last.scope.lines last.functions) (function_number main_name last.scope) file c.is in
    subst (λ (x : File). IsResolved x) m.is (resolved_of last m.all m.number s m.found m.named)
