-- The lines of tokens decide nothing but the lines of first mentions.
use Rattle.std.proofs.Common.{◌≡◌, ℕ, zero, suc, List, [], ◌∷◌, refl, ap, ◌∙◌, Bool, true, false, map, drop}
use Rattle.std.proofs.lemmas.List.{map-append}
use Rattle.std.specs.Prelude.{Option, Some, None, unwrap_or, if◌then◌else◌}
use Rattle.std.specs.Option.{option_map}
use Rattle.tokens.specs.declared.located_tokens.LocatedToken.{LocatedToken}
use Rattle.grammar.specs.Derivation.{State, PartialTree, Definition, step, stack_step, stepped, derived, next_token, token_after_next, matched, name_matched, constant_matched, replaced, name_of_token, constant_value, name_tree, functions_defined, scope_after_action, is_end}
use Rattle.grammar.specs.Laws.StateParts.{state}
use Rattle.grammar.specs.Grammar.{Item, Exactly, AKeyword, AName, AConstant, AnEnd, Part, Make, Close, Role, Defined, External, Parameter, Typed, Local, Called, Mentioned, SemanticAction, Define, Production, choice, is_punctuator, is_keyword, is_lexical_error}
use Rattle.grammar.specs.Scope.{Scope, scope_after_name, with_function, with_new_function, with_variable, with_parameter, with_external, is_function_new, is_variable_new, is_local_new, is_external_new}
use Rattle.grammar_laws.specs.RoundTrip.{tokens_of}
use Rattle.grammar_laws.proofs.Leading.{located_tokens_of}

abbrev no_line : ℕ → ℕ
no_line line = 0

-- the names in scope, each mentioned on no line
abbrev pub bare_scope : Scope → Scope
bare_scope scope = record scope { lines = map no_line scope.lines }

-- the same tokens, with lines and ends that mean nothing
abbrev pub bare_rest : List LocatedToken → List LocatedToken
bare_rest rest = located_tokens_of (tokens_of rest)

abbrev pub bare : State → State
bare s = state s.stack (bare_rest s.rest) s.values (bare_scope s.scope) s.functions

-- names

either : (b : Bool) (x y : Scope) → (if b then bare_scope x else bare_scope y) ≡ bare_scope (if b then x else y)
either true x y = refl
either false x y = refl

bare_new_function : (name : List ℕ) (line : ℕ) (scope : Scope) →
    with_new_function name 0 (bare_scope scope) ≡ bare_scope (with_new_function name line scope)
bare_new_function name line scope = rw (map-append no_line scope.lines (line ∷ [])) refl

bare_function : (name : List ℕ) (line : ℕ) (scope : Scope) →
    with_function name 0 (bare_scope scope) ≡ bare_scope (with_function name line scope)
bare_function name line scope =
    ap (λ (s : Scope). if is_function_new name scope then s else bare_scope scope) (bare_new_function name line scope)
    ∙ either (is_function_new name scope) (with_new_function name line scope) scope

bare_name : (role : Role) (name : List ℕ) (line : ℕ) (scope : Scope) →
    scope_after_name role name 0 (bare_scope scope) ≡ bare_scope (scope_after_name role name line scope)
bare_name Defined name line scope = rw (bare_function name line scope) refl
bare_name External name line scope = either (is_external_new name scope) (with_external name scope) scope
bare_name Parameter name line scope = either (is_local_new name scope) (with_parameter name scope) scope
bare_name Typed name line scope = refl
bare_name Local name line scope = either (is_local_new name scope) (with_variable name scope) scope
bare_name Called name line scope = bare_function name line scope
bare_name Mentioned name line scope = either (is_variable_new name scope) (with_variable name scope) scope

bare_tree : (role : Role) (name : List ℕ) (scope : Scope) →
    name_tree role name (bare_scope scope) ≡ name_tree role name scope
bare_tree Called name scope = refl
bare_tree Mentioned name scope = refl
bare_tree role name scope = refl

bare_rule : (rule : SemanticAction) (scope : Scope) →
    scope_after_action rule (bare_scope scope) ≡ bare_scope (scope_after_action rule scope)
bare_rule Define scope = refl
bare_rule rule scope = refl

bare_defined : (rule : SemanticAction) (values : List PartialTree) (scope : Scope) →
    functions_defined rule values (bare_scope scope) ≡ functions_defined rule values scope
bare_defined Define values scope = refl
bare_defined rule values scope = refl

-- steps

bare_next : (rest : List LocatedToken) → next_token (bare_rest rest) ≡ next_token rest
bare_next [] = refl
bare_next (l ∷ rest) = refl

bare_after : (rest : List LocatedToken) → token_after_next (bare_rest rest) ≡ token_after_next rest
bare_after [] = refl
bare_after (l ∷ rest) = bare_next rest

bare_drop : (rest : List LocatedToken) → drop 1 (bare_rest rest) ≡ bare_rest (drop 1 rest)
bare_drop [] = refl
bare_drop (l ∷ rest) = refl

abbrev AreBare : Option State → Option State → Type 0
AreBare x y = x ≡ option_map bare y

bare_matched : (fits : Bool) (stack : List Item) (rest : List LocatedToken) (values : List PartialTree) (scope : Scope)
    (functions : List Definition) →
    AreBare (matched fits (state stack (bare_rest rest) values (bare_scope scope) functions))
    (matched fits (state stack rest values scope functions))
bare_matched true stack rest values scope functions = rw (bare_drop rest) refl
bare_matched false stack rest values scope functions = refl

bare_name_matched : (role : Role) (name : Option (List ℕ)) (stack : List Item) (l : LocatedToken)
    (rest : List LocatedToken) (values : List PartialTree) (scope : Scope) (functions : List Definition) →
    AreBare (name_matched role name (state stack (bare_rest (l ∷ rest)) values (bare_scope scope) functions))
    (name_matched role name (state stack (l ∷ rest) values scope functions))
bare_name_matched role None stack l rest values scope functions = refl
bare_name_matched role (Some name) stack l rest values scope functions =
    rw (bare_tree role name scope, bare_name role name l.line scope) refl

bare_constant : (value : Option ℕ) (stack : List Item) (rest : List LocatedToken) (values : List PartialTree)
    (scope : Scope)
    (functions : List Definition) →
    AreBare (constant_matched value (state stack (bare_rest rest) values (bare_scope scope) functions))
    (constant_matched value (state stack rest values scope functions))
bare_constant None stack rest values scope functions = refl
bare_constant (Some value) stack rest values scope functions = rw (bare_drop rest) refl

bare_replaced : (items : Production) (stack : List Item) (rest : List LocatedToken) (values : List PartialTree)
    (scope : Scope) (functions : List Definition) →
    AreBare (replaced items (state stack (bare_rest rest) values (bare_scope scope) functions))
    (replaced items (state stack rest values scope functions))
bare_replaced None stack rest values scope functions = refl
bare_replaced (Some items) stack rest values scope functions = refl

bare_step_of : (stack : List Item) (rest : List LocatedToken) (values : List PartialTree) (scope : Scope)
    (functions : List Definition) →
    AreBare (stack_step stack (state stack (bare_rest rest) values (bare_scope scope) functions))
    (stack_step stack (state stack rest values scope functions))
bare_step_of [] rest values scope functions = refl
bare_step_of (Exactly m ∷ stack) rest values scope functions =
    rw (bare_next rest) (bare_matched (is_punctuator m (next_token rest)) stack rest values scope functions)
bare_step_of (AKeyword w ∷ stack) rest values scope functions =
    rw (bare_next rest) (bare_matched (is_keyword w (next_token rest)) stack rest values scope functions)
bare_step_of (AName role ∷ stack) [] values scope functions = refl
bare_step_of (AName role ∷ stack) (l ∷ rest) values scope functions =
    bare_name_matched role (name_of_token l.token) stack l rest values scope functions
bare_step_of (AConstant ∷ stack) rest values scope functions =
    rw (bare_next rest) (bare_constant (constant_value (next_token rest)) stack rest values scope functions)
bare_step_of (AnEnd ∷ stack) rest values scope functions =
    rw (bare_next rest) (bare_matched (is_end (next_token rest)) stack rest values scope functions)
bare_step_of (Part symbol ∷ stack) rest values scope functions =
    rw (bare_next rest, bare_after rest)
    (bare_replaced (choice symbol (next_token rest) (token_after_next rest)) stack rest values scope functions)
bare_step_of (Make rule ∷ stack) rest values scope functions =
    rw (bare_rule rule scope, bare_defined rule values scope) refl
bare_step_of (Close ∷ stack) rest values scope functions = refl

unless : (stops : Bool) (x y : Option State) → AreBare x y →
    AreBare (if stops then None else x) (if stops then None else y)
unless true x y same = refl
unless false x y same = same

bare_step : (s : State) → AreBare (step (bare s)) (step s)
bare_step s =
    rw (bare_next s.rest)
    (unless (is_lexical_error (next_token s.rest)) _ _ (bare_step_of s.stack s.rest s.values s.scope s.functions))

bare_or : (x : Option State) (s : State) → unwrap_or (option_map bare x) (bare s) ≡ bare (unwrap_or x s)
bare_or None s = refl
bare_or (Some t) s = refl

bare_stepped : (s : State) → stepped (bare s) ≡ bare (stepped s)
bare_stepped s = ap (λ (x : Option State). unwrap_or x (bare s)) (bare_step s) ∙ bare_or (step s) s

pub bare_run : (n : ℕ) (s : State) → derived n (bare s) ≡ bare (derived n s)
bare_run zero s = refl
bare_run (suc n) s = ap (derived n) (bare_stepped s) ∙ bare_run n (stepped s)
