-- The numbers of a derivation's variables and functions are those of the rules on names.
use Rattle.std.proofs.Common.{◌≡◌, ℕ, zero, suc, ◌+◌, List, [], ◌∷◌, ◌++◌, refl, sym, ap, ◌∙◌, subst, Bool, true, false, arith, append-nil, append_assoc, length, map}
use Rattle.std.proofs.lemmas.List.{length-append, length-map}
use Rattle.std.specs.Prelude.{Option, Some, None, unwrap_or, slice_get, set, if◌then◌else◌}
use Rattle.tokens.specs.declared.located_tokens.LocatedToken.{LocatedToken}
use Rattle.tokens.specs.declared.located_tokens.Token.{Token}
use Rattle.tokens.specs.declared.located_tokens.Token.TheVariants as token
use Rattle.grammar.specs.declared.diagnostics.Code.TheVariants as fault_code
use Rattle.grammar.specs.Compiled.{order_of, all_defined, all_faults, defined_as, enough_steps, last_line, last_state, main_name}
use Rattle.grammar.specs.Derivation.{State, initial_state, PartialTree, Definition, definition_of, last_body, name_tree, next_token, token_after_next, line_at, name_of_token, constant_value, is_end, matched, name_matched, constant_matched, replaced, stack_step, step, stepped, derived}
use Rattle.grammar.specs.Laws.StateParts.{state}
use Rattle.grammar.specs.Faults.{Fault, fault, faults_at, faults_in, stack_faults, definition_faults, name_faults, role_faults, unexpected_token, unexpected_tokens}
use Rattle.grammar.specs.Grammar.{Item, Exactly, AKeyword, AName, AConstant, AnEnd, Part, Make, Close, Define, Role, Defined, External, Parameter, Typed, Local, Called, Mentioned, Production, choice, is_lexical_error, is_punctuator, is_keyword}
use Rattle.grammar.specs.Intrinsics.{is_intrinsic}
use Rattle.grammar.specs.Pools.{FunctionNames, names_of_function}
use Rattle.grammar.specs.Profile.{Profile}
use Rattle.grammar.specs.Scope.{Scope, scope_after_name, end_definition, function_number, is_external_new, is_function_new, is_local_new, is_variable_new, with_external, with_function, with_parameter, with_variable, variable_of, callee_of, only_named}
use Rattle.grammar.specs.Tree.{Function, File}
use Rattle.grammar.proofs.FileLaws.{named_at}
use Rattle.grammar.proofs.NamedFunctions.{AreNamed, named_of_passes}
use Rattle.grammar.proofs.Phases.{phase_of}
use Rattle.grammar.proofs.Indices.{get_append, map_by_index}
use Rattle.grammar.proofs.ResolvedLaws.{AreDefined, IsClean, IsMade, are_defined, is_clean, is_made, Sound, Busy, ended, stepped_sound, run_sound, start_sound}
use Rattle.grammar.proofs.Runs.{append_empty}
use Rattle.grammar_laws.specs.Numbering.{Says, Ends, History, distinct, function_names}
use Rattle.grammar_laws.specs.Numbered.{says, said, said_of, said_in, said_at, state_at, MentionsAreNumbered, CallsAreNumbered, DefinitionsAreNumbered, FilesAreNumbered}
use Rattle.grammar_laws.proofs.Numbering.{Agrees, agrees_first, agrees_named, agrees_ended, variable_right, callee_right, names_in, map_last, functions_said, number_right}

-- Variables, along a derivation.

abbrev IfAgrees : History → History → Option State → Type 0
IfAgrees more h None = more ≡ []
IfAgrees more h (Some s) = Agrees (more ++ h) s.scope

matched_agrees : (fits : Bool) (stack : List Item) (rest : List LocatedToken) (values : List PartialTree)
    (scope : Scope)
    (ds : List Definition) (h : History) → Agrees h scope →
    IfAgrees [] h (matched fits (state stack rest values scope ds))
matched_agrees true stack rest values scope ds h a = a
matched_agrees false stack rest values scope ds h a = refl

name_agrees : (role : Role) (name : Option (List ℕ)) (stack : List Item) (rest : List LocatedToken)
    (values : List PartialTree) (scope : Scope) (ds : List Definition) (h : History) → Agrees h scope →
    IfAgrees (says role name) h (name_matched role name (state stack rest values scope ds))
name_agrees role None stack rest values scope ds h a = refl
name_agrees role (Some name) stack rest values scope ds h a = agrees_named role name (line_at rest) h scope a

constant_agrees : (value : Option ℕ) (stack : List Item) (rest : List LocatedToken) (values : List PartialTree)
    (scope : Scope) (ds : List Definition) (h : History) → Agrees h scope →
    IfAgrees [] h (constant_matched value (state stack rest values scope ds))
constant_agrees None stack rest values scope ds h a = refl
constant_agrees (Some value) stack rest values scope ds h a = a

part_agrees : (production : Production) (stack : List Item) (rest : List LocatedToken) (values : List PartialTree)
    (scope : Scope) (ds : List Definition) (h : History) → Agrees h scope →
    IfAgrees [] h (replaced production (state stack rest values scope ds))
part_agrees None stack rest values scope ds h a = refl
part_agrees (Some items) stack rest values scope ds h a = a

step_agrees : (stack : List Item) (rest : List LocatedToken) (values : List PartialTree) (scope : Scope)
    (ds : List Definition) (h : History) → Agrees h scope →
    IfAgrees (said_of stack rest) h (stack_step stack (state stack rest values scope ds))
step_agrees [] rest values scope ds h a = refl
step_agrees (Exactly m ∷ stack) rest values scope ds h a =
    matched_agrees (is_punctuator m (next_token rest)) stack rest values scope ds h a
step_agrees (AKeyword w ∷ stack) rest values scope ds h a =
    matched_agrees (is_keyword w (next_token rest)) stack rest values scope ds h a
step_agrees (AName role ∷ stack) rest values scope ds h a =
    name_agrees role (name_of_token (next_token rest)) stack rest values scope ds h a
step_agrees (AConstant ∷ stack) rest values scope ds h a =
    constant_agrees (constant_value (next_token rest)) stack rest values scope ds h a
step_agrees (AnEnd ∷ stack) rest values scope ds h a =
    matched_agrees (is_end (next_token rest)) stack rest values scope ds h a
step_agrees (Part symbol ∷ stack) rest values scope ds h a =
    part_agrees (choice symbol (next_token rest) (token_after_next rest)) stack rest values scope ds h a
step_agrees (Make Define ∷ stack) rest values scope ds h a = agrees_ended h scope a
step_agrees (Make rule ∷ stack) rest values scope ds h a = a
step_agrees (Close ∷ stack) rest values scope ds h a = a

guarded_agrees : (b : Bool) (more h : History) (o : Option State) → IfAgrees more h o →
    IfAgrees (if b then [] else more) h (if b then None else o)
guarded_agrees true more h o a = refl
guarded_agrees false more h o a = a

kept_agrees : (s : State) (more h : History) (o : Option State) → Agrees h s.scope → IfAgrees more h o →
    Agrees (more ++ h) (unwrap_or o s).scope
kept_agrees s more h None a k = rw k a
kept_agrees s more h (Some t) a k = k

stepped_agrees : (s : State) (h : History) → Agrees h s.scope → Agrees (said s ++ h) (stepped s).scope
stepped_agrees s h a = kept_agrees s (said s) h (step s) a
    (guarded_agrees (is_lexical_error (next_token s.rest)) (said_of s.stack s.rest) h
    (stack_step s.stack s)
    (step_agrees s.stack s.rest s.values s.scope s.functions h a))

run_agrees : (n : ℕ) (s : State) (h : History) → Agrees h s.scope → Agrees (said_in n s ++ h) (derived n s).scope
run_agrees zero s h a = a
run_agrees (suc n) s h a =
    subst (λ (k : History). Agrees k (derived n (stepped s)).scope)
    (sym (append_assoc (said_in n (stepped s)) (said s) h))
    (run_agrees n (stepped s) (said s ++ h) (stepped_agrees s h a))

pub agrees_at : (located_tokens : List LocatedToken) (n : ℕ) →
    Agrees (said_at n located_tokens) (state_at n located_tokens).scope
agrees_at located_tokens n =
    subst (λ (k : History). Agrees k (state_at n located_tokens).scope) (append-nil (said_at n located_tokens))
    (run_agrees n (initial_state located_tokens) [] agrees_first)

-- What a name makes.

no_fault : (t : Token) (name : List ℕ) → name_of_token t ≡ Some name → is_lexical_error t ≡ false
no_fault (token.Fault f) name e = absurd (cc)
no_fault t name e = refl

values_behind : (s : State) (stack : List Item) (role : Role) (name : List ℕ) → s.stack ≡ AName role ∷ stack →
    name_of_token (next_token s.rest) ≡ Some name →
    (stepped s).values ≡ name_tree role name s.scope ++ s.values
values_behind s stack role name here named = rw (no_fault (next_token s.rest) name named, here, named) refl

pub mentions : MentionsAreNumbered
mentions located_tokens n name next = record {
  variable = variable_of name (state_at n located_tokens).scope;
  makes = values_behind (state_at n located_tokens) next.stack Mentioned name next.role_next next.name_next;
  right = variable_right name (said_at n located_tokens) (state_at n located_tokens).scope (agrees_at located_tokens n);
}

-- Functions, along a derivation without a fault.

record Counts (h : History) (scope : Scope) (ds : List Definition) : Type 0 where
  names : names_in scope ≡ distinct (function_names h)
  current : length scope.begun ≡ length ds + 1 → slice_get (names_in scope) scope.number ≡ Some scope.current.name

-- the function that is being defined stays the same
record Keeps (scope more : Scope) : Type 0 where
  names : names_in more ≡ names_in scope
  begun : more.begun ≡ scope.begun
  number : more.number ≡ scope.number
  name : more.current.name ≡ scope.current.name

keeps_if : (b : Bool) (more scope : Scope) → Keeps scope more → Keeps scope (if b then more else scope)
keeps_if true more scope k = k
keeps_if false more scope k = record { names = refl; begun = refl; number = refl; name = refl }

more_counts : (longer h : History) (scope more : Scope) (ds : List Definition) →
    function_names longer ≡ function_names h → Counts h scope ds → Keeps scope more → Counts longer more ds
more_counts longer h scope more ds same c k = record {
  names = k.names ∙ c.names ∙ ap distinct (sym same);
  current =
      λ e. ap (λ ns. slice_get ns more.number) k.names ∙ ap (slice_get (names_in scope)) k.number ∙
      c.current (ap length (sym k.begun) ∙ e) ∙ ap (λ n. Some n) (sym k.name);
}

-- a function is mentioned
function_counts : (name : List ℕ) (line : ℕ) (h : History) (scope : Scope) (ds : List Definition) → Counts h scope ds →
    Counts (Says Called name ∷ h) (with_function name line scope) ds
function_counts name line h scope ds c = by (is_function_new name scope) refl
  where
    by : (b : Bool) → is_function_new name scope ≡ b → Counts (Says Called name ∷ h) (with_function name line scope) ds
    by true new = record {
      names = functions_said name line scope (function_names h) c.names;
      current =
          λ e. rw new
          (ap (λ ns. slice_get ns scope.number) (map_last scope.functions (only_named name)) ∙
          get_append (names_in scope) (name ∷ []) scope.number scope.current.name (c.current (rw new at e)));
    }
    by false old = record {
      names = functions_said name line scope (function_names h) c.names;
      current = λ e. rw old (c.current (rw old at e));
    }

-- a definition begins
begun_counts : (name : List ℕ) (line : ℕ) (h : History) (scope : Scope) (ds : List Definition) →
    is_intrinsic name ≡ false → Counts h scope ds →
    Counts (Says Defined name ∷ h) (scope_after_name Defined name line scope) ds
begun_counts name line h scope ds own c = record {
  names = functions_said name line scope (function_names h) c.names;
  current = λ e. number_right name line scope own;
}

-- a name without a fault
own_name : (name : List ℕ) (scope : Scope) (rest : List LocatedToken) → definition_faults name scope rest ≡ [] →
    is_intrinsic name ≡ false
own_name name scope rest clean = by (is_intrinsic name) refl
  where
    by : (b : Bool) → is_intrinsic name ≡ b → is_intrinsic name ≡ false
    by true is = absurd (let no : fault rest fault_code.IntrinsicRedefined ∷ [] ≡ [] = rw is at clean in cc)
    by false is = is

named_counts : (role : Role) (name : List ℕ) (line : ℕ) (rest : List LocatedToken) (h : History) (scope : Scope)
    (ds : List Definition) → role_faults role name scope rest ≡ [] →
    Counts h scope ds → Counts (Says role name ∷ h) (scope_after_name role name line scope) ds
named_counts Defined name line rest h scope ds clean c =
    begun_counts name line h scope ds (own_name name scope rest clean) c
named_counts External name line rest h scope ds clean c =
    more_counts (Says External name ∷ h) h scope (scope_after_name External name line scope) ds refl c
    (keeps_if (is_external_new name scope) (with_external name scope) scope
    (record { names = refl; begun = refl; number = refl; name = refl }))
named_counts Parameter name line rest h scope ds clean c =
    more_counts (Says Parameter name ∷ h) h scope (scope_after_name Parameter name line scope) ds refl c
    (keeps_if (is_local_new name scope) (with_parameter name scope) scope
    (record { names = refl; begun = refl; number = refl; name = refl }))
named_counts Typed name line rest h scope ds clean c = record { names = c.names; current = c.current }
named_counts Local name line rest h scope ds clean c =
    more_counts (Says Local name ∷ h) h scope (scope_after_name Local name line scope) ds refl c
    (keeps_if (is_local_new name scope) (with_variable name scope) scope
    (record { names = refl; begun = refl; number = refl; name = refl }))
named_counts Called name line rest h scope ds clean c = function_counts name line h scope ds c
named_counts Mentioned name line rest h scope ds clean c =
    more_counts (Says Mentioned name ∷ h) h scope (scope_after_name Mentioned name line scope) ds refl c
    (keeps_if (is_variable_new name scope) (with_variable name scope) scope
    (record { names = refl; begun = refl; number = refl; name = refl }))

map_set : (fs : List FunctionNames) (n : ℕ) (f : FunctionNames) →
    slice_get (map (λ (g : FunctionNames). g.name) fs) n ≡ Some f.name →
    map (λ (g : FunctionNames). g.name) (set fs n f) ≡ map (λ (g : FunctionNames). g.name) fs
map_set [] n f e = refl
map_set (g ∷ fs) zero f e =
    let same : f.name ≡ g.name = cc in ap (λ name. name ∷ map (λ (g : FunctionNames). g.name) fs) same
map_set (g ∷ fs) (suc n) f e = ap (λ ns. g.name ∷ ns) (map_set fs n f e)

-- the number of the function whose definition ends
ending_number : (values : List PartialTree) (h : History) (scope : Scope) (ds : List Definition) →
    Busy values scope ds →
    Counts h scope ds → slice_get (names_in scope) scope.number ≡ Some scope.current.name
ending_number values h scope ds b c =
    c.current
    (ap length b.begun ∙ length-append (order_of ds) (scope.number ∷ []) ∙
    ap (λ n. n + 1) (length-map ds (λ (d : Definition). d.number)))

ended_counts : (values : List PartialTree) (d : Definition) (h : History) (scope : Scope) (ds : List Definition) →
    Busy values scope ds → Counts h scope ds → Counts (Ends ∷ h) (end_definition scope) (ds ++ d ∷ [])
ended_counts values d h scope ds b c = record {
  names = map_set scope.functions scope.number scope.current (ending_number values h scope ds b c) ∙ c.names;
  current =
      λ e. absurd
      (omega (
        arith,
        e,
        ap length b.begun,
        length-append (order_of ds) (scope.number ∷ []),
        length-map ds (λ (d : Definition). d.number),
        length-append ds (d ∷ []),
      ));
}

abbrev IfCounts : History → History → Option State → Type 0
IfCounts more h None = more ≡ []
IfCounts more h (Some s) = Counts (more ++ h) s.scope s.functions

matched_counts : (fits : Bool) (stack : List Item) (rest : List LocatedToken) (values : List PartialTree)
    (scope : Scope)
    (ds : List Definition) (h : History) → Counts h scope ds →
    IfCounts [] h (matched fits (state stack rest values scope ds))
matched_counts true stack rest values scope ds h c = c
matched_counts false stack rest values scope ds h c = refl

name_counts : (role : Role) (name : Option (List ℕ)) (stack : List Item) (rest : List LocatedToken)
    (values : List PartialTree) (scope : Scope) (ds : List Definition) (h : History) →
    name_faults role name scope rest ≡ [] → Counts h scope ds →
    IfCounts (says role name) h (name_matched role name (state stack rest values scope ds))
name_counts role None stack rest values scope ds h clean c = refl
name_counts role (Some name) stack rest values scope ds h clean c =
    named_counts role name (line_at rest) rest h scope ds clean c

constant_counts : (value : Option ℕ) (stack : List Item) (rest : List LocatedToken) (values : List PartialTree)
    (scope : Scope) (ds : List Definition) (h : History) → Counts h scope ds →
    IfCounts [] h (constant_matched value (state stack rest values scope ds))
constant_counts None stack rest values scope ds h c = refl
constant_counts (Some value) stack rest values scope ds h c = c

part_counts : (production : Production) (stack : List Item) (rest : List LocatedToken) (values : List PartialTree)
    (scope : Scope) (ds : List Definition) (h : History) → Counts h scope ds →
    IfCounts [] h (replaced production (state stack rest values scope ds))
part_counts None stack rest values scope ds h c = refl
part_counts (Some items) stack rest values scope ds h c = c

step_counts : (profile : Profile) (stack : List Item) (rest : List LocatedToken) (values : List PartialTree)
    (scope : Scope)
    (ds : List Definition) (h : History) →
    stack_faults profile stack (state stack rest values scope ds) ≡ [] → Sound (state stack rest values scope ds) →
    Counts h scope ds →
    IfCounts (said_of stack rest) h (stack_step stack (state stack rest values scope ds))
step_counts profile [] rest values scope ds h clean s c = refl
step_counts profile (Exactly m ∷ stack) rest values scope ds h clean s c =
    matched_counts (is_punctuator m (next_token rest)) stack rest values scope ds h c
step_counts profile (AKeyword w ∷ stack) rest values scope ds h clean s c =
    matched_counts (is_keyword w (next_token rest)) stack rest values scope ds h c
step_counts profile (AName role ∷ stack) rest values scope ds h clean s c =
    name_counts role (name_of_token (next_token rest)) stack rest values scope ds h clean c
step_counts profile (AConstant ∷ stack) rest values scope ds h clean s c =
    constant_counts (constant_value (next_token rest)) stack rest values scope ds h c
step_counts profile (AnEnd ∷ stack) rest values scope ds h clean s c =
    matched_counts (is_end (next_token rest)) stack rest values scope ds h c
step_counts profile (Part symbol ∷ stack) rest values scope ds h clean s c =
    part_counts (choice symbol (next_token rest) (token_after_next rest)) stack rest values scope ds h c
step_counts profile (Make Define ∷ stack) rest values scope ds h clean s c =
    ended_counts values (definition_of scope (last_body values)) h scope ds
    (ended (phase_of stack) values scope ds s.tied) c
step_counts profile (Make rule ∷ stack) rest values scope ds h clean s c =
    subst (λ (xs : List Definition). Counts h scope xs) (sym (append-nil ds)) c
step_counts profile (Close ∷ stack) rest values scope ds h clean s c = c

guarded_counts : (b : Bool) (more h : History) (rest : List LocatedToken) (xs ys : List Fault) (o : Option State) →
    (if b then unexpected_token rest else xs ++ ys) ≡ [] → (xs ≡ [] → IfCounts more h o) →
    IfCounts (if b then [] else more) h (if b then None else o)
guarded_counts true more h rest xs ys o e c = refl
guarded_counts false more h rest xs ys o e c = c (append_empty xs ys e).0

kept_counting : (s : State) (more h : History) (o : Option State) → Counts h s.scope s.functions → IfCounts more h o →
    Counts (more ++ h) (unwrap_or o s).scope (unwrap_or o s).functions
kept_counting s more h None c k = rw k c
kept_counting s more h (Some t) c k = k

stepped_counts : (profile : Profile) (s : State) (h : History) → faults_at profile s ≡ [] → Sound s →
    Counts h s.scope s.functions → Counts (said s ++ h) (stepped s).scope (stepped s).functions
stepped_counts profile s h clean sound c = kept_counting s (said s) h (step s) c
    (guarded_counts (is_lexical_error (next_token s.rest)) (said_of s.stack s.rest) h s.rest
    (stack_faults profile s.stack s)
    (unexpected_tokens s.stack s.rest (stack_step s.stack s))
    (stack_step s.stack s) clean
    (λ e. step_counts profile s.stack s.rest s.values s.scope s.functions h e
    (record { scoped = sound.scoped; tied = sound.tied }) c))

run_counts : (profile : Profile) (n : ℕ) (s : State) (h : History) → faults_in profile n s ≡ [] → Sound s →
    Counts h s.scope s.functions →
    Counts (said_in n s ++ h) (derived n s).scope (derived n s).functions
run_counts profile zero s h clean sound c = c
run_counts profile (suc n) s h clean sound c =
    let parts = append_empty (faults_at profile s) (faults_in profile n (stepped s)) clean in
    subst (λ (k : History). Counts k (derived n (stepped s)).scope (derived n (stepped s)).functions)
    (sym (append_assoc (said_in n (stepped s)) (said s) h))
    (run_counts profile n (stepped s) (said s ++ h) parts.1 (stepped_sound profile s parts.0 sound)
    (stepped_counts profile s h parts.0 sound c))

counts_at : (profile : Profile) (located_tokens : List LocatedToken) (n : ℕ) →
    faults_in profile n (initial_state located_tokens) ≡ [] →
    Counts (said_at n located_tokens) (state_at n located_tokens).scope (state_at n located_tokens).functions
counts_at profile located_tokens n clean =
    subst (λ (k : History). Counts k (state_at n located_tokens).scope (state_at n located_tokens).functions)
    (append-nil (said_at n located_tokens))
    (run_counts profile n (initial_state located_tokens) [] clean (start_sound located_tokens)
    (record { names = refl; current = λ e. absurd (omega (arith, e)) }))

pub calls : CallsAreNumbered
calls profile located_tokens n name clean next = record {
  callee = callee_of name (state_at n located_tokens).scope;
  makes = values_behind (state_at n located_tokens) next.stack Called name next.role_next next.name_next;
  right = callee_right name (said_at n located_tokens) (state_at n located_tokens).scope
      (counts_at profile located_tokens n clean).names;
}

-- Definitions.

functions_behind : (s : State) (stack : List Item) → s.stack ≡ Make Define ∷ stack →
    is_lexical_error (next_token s.rest) ≡ false →
    (stepped s).functions ≡ s.functions ++ definition_of s.scope (last_body s.values) ∷ []
functions_behind s stack here sound = rw (sound, here) refl

busy_at : (s : State) (stack : List Item) → s.stack ≡ Make Define ∷ stack → Sound s → Busy s.values s.scope s.functions
busy_at s stack here sound = ended (phase_of stack) s.values s.scope s.functions (rw here at sound.tied)

pub definitions : DefinitionsAreNumbered
definitions profile located_tokens n clean ending =
    let s : State = state_at n located_tokens in
    let h : History = said_at n located_tokens in
    let a : Agrees h s.scope = agrees_at located_tokens n in
    let c : Counts h s.scope s.functions = counts_at profile located_tokens n clean in
    let busy : Busy s.values s.scope s.functions =
    busy_at s ending.stack ending.define_next
    (run_sound profile n (initial_state located_tokens) clean (start_sound located_tokens)) in
    record {
      definition = definition_of s.scope (last_body s.values);
      adds = functions_behind s ending.stack ending.define_next ending.sound;
      name = a.name;
      number = ap (λ ns. slice_get ns s.scope.number) (sym c.names) ∙
          ending_number s.values h s.scope s.functions busy c ∙ ap (λ name. Some name) a.name;
      parameters = a.parameters;
      variables = a.variables;
    }

-- Files.

-- the names of the functions that were defined are those of the scope
functions_named : (scope : Scope) (ds : List Definition) (functions : List Function) →
    AreDefined 0 scope.lines ds functions → AreNamed scope.functions ds →
    length scope.lines ≡ length scope.functions → map names_of_function functions ≡ scope.functions
functions_named scope ds functions a h lined =
    map_by_index names_of_function functions scope.functions (a.count ∙ lined)
    (λ k f e. named_at scope.functions k f ds h (ap (λ n. defined_as n ds) (at k) ∙ a.each k f e))
  where
    at : (k : ℕ) → k ≡ 0 + k
    at k = omega arith

names_mapped : (fs : List Function) →
    map (λ (f : Function). f.name) fs ≡ map (λ (f : FunctionNames). f.name) (map names_of_function fs)
names_mapped [] = refl
names_mapped (f ∷ fs) = ap (λ ns. f.name ∷ ns) (names_mapped fs)

pub files : FilesAreNumbered
files profile located_tokens file e =
    let s : State = last_state located_tokens in
    let c : IsClean located_tokens (all_faults profile located_tokens) s.scope s.functions file =
    is_clean located_tokens (all_faults profile located_tokens) s.scope s.functions file e in
    let m : IsMade s.scope (order_of s.functions) (all_defined 0 s.scope.lines s.functions)
    (function_number main_name s.scope) file =
    is_made (last_line located_tokens) s.scope (order_of s.functions) (all_defined 0 s.scope.lines s.functions)
    (function_number main_name s.scope) file c.is in
    let sound : Sound s =
    run_sound profile (enough_steps located_tokens) (initial_state located_tokens) c.clean (start_sound located_tokens)
    in
    let named : AreNamed s.scope.functions s.functions =
    named_of_passes profile located_tokens s
    (record { steps = enough_steps located_tokens; leads = refl; clean = c.clean })
    in
    let same : map names_of_function m.all ≡ s.scope.functions =
    functions_named s.scope s.functions m.all (are_defined 0 s.scope.lines s.functions m.all m.found) named
    sound.scoped.lines in
    record {
      externals = ap (λ (f : File). f.externals) (sym m.is) ∙
          (agrees_at located_tokens (enough_steps located_tokens)).externals;
      functions =
          ap (λ (f : File). map (λ (g : Function). g.name) f.functions) (sym m.is) ∙ names_mapped m.all ∙
          ap (λ fs. map (λ (f : FunctionNames). f.name) fs) same
          ∙ (counts_at profile located_tokens (enough_steps located_tokens) c.clean).names;
    }
