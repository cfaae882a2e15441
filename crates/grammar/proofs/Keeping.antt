-- What is within a function's block keeps the function that is being defined.
use Rattle.std.proofs.Common.{◌≡◌, ℕ, zero, suc, ◌+◌, ◌≤◌, List, [], ◌∷◌, ◌++◌, refl, sym, ap, ◌∙◌, subst, Bool, true, false, arith, length, length-append, append_assoc, le_refl}
use Rattle.std.specs.Prelude.{Option, Some, None, nat_lt, if◌then◌else◌, unwrap_or}
use Rattle.tokens.specs.declared.located_tokens.LocatedToken.{LocatedToken}
use Rattle.tokens.specs.declared.located_tokens.Punctuator.{Punctuator}
use Rattle.tokens.specs.declared.located_tokens.Punctuator.TheVariants as punctuator
use Rattle.tokens.specs.declared.located_tokens.Token.{Token}
use Rattle.tokens.specs.declared.located_tokens.Token.TheVariants as token
use Rattle.tokens.specs.declared.located_tokens.Keyword.TheVariants as keyword
use Rattle.arith.specs.declared.operators.Op.{Op}
use Rattle.grammar.specs.declared.operators.StoreOp.{StoreOp}
use Rattle.grammar.specs.Derivation.{State, PartialTree, Definition, item_step, stack_step, stepped, derived, next_token, token_after_next, line_at, functions_defined, scope_after_action}
use Rattle.grammar.specs.Laws.StateParts.{state}
use Rattle.grammar.specs.Grammar.{Symbol, Source, Head, More, Parameters, FunctionBlock, Declarations, Statements, Expression, Level, Tail, Unary, Primary, Role, Defined, External, Parameter, Typed, Local, Called, Mentioned, Item, Exactly, AKeyword, AName, AConstant, AnEnd, Part, Make, Close, SemanticAction, Define, Production, choice, assignment_or, tail_production, is_lexical_error, unary_level}
use Rattle.grammar.specs.Laws.{KeepsFunction, BlocksKeepTheFunction}
use Rattle.grammar.proofs.AfterSteps.{IfStepped, if_matched, if_named, if_constant, if_replaced, after_step}
use Rattle.grammar.specs.Operators.{operator_at, store_of}
use Rattle.grammar.specs.Scope.{Scope, scope_after_name, is_external_new, is_local_new, is_variable_new, is_function_new, with_external, with_variable, with_new_function}

-- Inner items: they neither begin a function, nor give it a parameter, nor end it.

abbrev pub is_inner_role : Role → Bool
is_inner_role Defined = false
is_inner_role Parameter = false
is_inner_role role = true

abbrev pub is_inner_symbol : Symbol → Bool
is_inner_symbol Source = false
is_inner_symbol Head = false
is_inner_symbol (More role) = is_inner_role role
is_inner_symbol Parameters = false
is_inner_symbol FunctionBlock = false
is_inner_symbol symbol = true

abbrev pub is_inner : Item → Bool
is_inner (AName role) = is_inner_role role
is_inner (Part symbol) = is_inner_symbol symbol
is_inner (Make Define) = false
is_inner item = true

abbrev pub all_inner : List Item → Bool
all_inner [] = true
all_inner (item ∷ items) = if is_inner item then all_inner items else false

abbrev inner_production : Production → Bool
inner_production None = true
inner_production (Some items) = all_inner items

both : (a b : Bool) → a ≡ true → b ≡ true → (if a then b else false) ≡ true
both a b p q = rw (p, q) refl

front_inner : (a b : Bool) → (if a then b else false) ≡ true → a ≡ true
front_inner true b h = refl
front_inner false b h = h

others_inner : (a b : Bool) → (if a then b else false) ≡ true → b ≡ true
others_inner true b h = h
others_inner false b h = absurd (cc)

append_inner : (items more : List Item) → all_inner items ≡ true → all_inner more ≡ true →
    all_inner (items ++ more) ≡ true
append_inner [] more h k = k
append_inner (item ∷ items) more h k =
    both (is_inner item) (all_inner (items ++ more)) (front_inner (is_inner item) (all_inner items) h)
    (append_inner items more (others_inner (is_inner item) (all_inner items) h) k)

-- The production of an inner symbol has inner items only.

more_inner : (role : Role) → is_inner_role role ≡ true →
    inner_production (Some (Exactly punctuator.Comma ∷ AName role ∷ Part (More role) ∷ [])) ≡ true
more_inner role h = rw h refl

level_inner : (n : ℕ) (b : Bool) →
    inner_production (if b then Some (Part (Level (n + 1)) ∷ Part (Tail n) ∷ []) else Some (Part Unary ∷ [])) ≡ true
level_inner n true = refl
level_inner n false = refl

tail_inner : (n : ℕ) (o : Option Op) (m : Punctuator) → inner_production (Some (tail_production n o m)) ≡ true
tail_inner n None m = refl
tail_inner n (Some op) m = refl

assignment_inner : (o : Option StoreOp) (m : Punctuator) → inner_production (Some (assignment_or o m)) ≡ true
assignment_inner None m = refl
assignment_inner (Some op) m = refl

primary_inner : (next after : Token) → inner_production (choice Primary next after) ≡ true
primary_inner (token.Name name) (token.Punctuator punctuator.OpenRound) = refl
primary_inner (token.Punctuator punctuator.OpenRound) after = refl
primary_inner next after = refl

choice_inner : (symbol : Symbol) (next after : Token) → is_inner_symbol symbol ≡ true →
    inner_production (choice symbol next after) ≡ true
choice_inner Source next after h = absurd (cc)
choice_inner Head next after h = absurd (cc)
choice_inner Parameters next after h = absurd (cc)
choice_inner FunctionBlock next after h = absurd (cc)
choice_inner (More role) (token.Punctuator punctuator.Comma) after h = more_inner role h
choice_inner (More role) next after h = refl
choice_inner Expression (token.Name name) (token.Punctuator m) h = assignment_inner (store_of m) m
choice_inner Expression next after h = refl
choice_inner (Level n) next after h = level_inner n (nat_lt n unary_level)
choice_inner (Tail n) (token.Punctuator m) after h = tail_inner n (operator_at n (token.Punctuator m)) m
choice_inner (Tail n) next after h = refl
choice_inner Primary next after h = primary_inner next after
choice_inner symbol (token.Punctuator punctuator.Plus) after h = refl
choice_inner symbol (token.Keyword keyword.Type) after h = refl
choice_inner symbol next after h = refl

-- What an inner name or semantic action does to the scope.

kept : (scope : Scope) → KeepsFunction scope scope
kept scope = record { number = refl; begun = refl; name = refl; parameters = refl }

kept_on : (a b c : Scope) → KeepsFunction a b → KeepsFunction b c → KeepsFunction a c
kept_on a b c h k =
    record {
      number = k.number ∙ h.number;
      begun = k.begun ∙ h.begun;
      name = k.name ∙ h.name;
      parameters = k.parameters ∙ h.parameters;
    }

kept_either : (b : Bool) (scope new : Scope) → KeepsFunction scope new → KeepsFunction scope (if b then new else scope)
kept_either true scope new h = h
kept_either false scope new h = kept scope

name_keeps : (role : Role) (name : List ℕ) (line : ℕ) (scope : Scope) → is_inner_role role ≡ true →
    KeepsFunction scope (scope_after_name role name line scope)
name_keeps Defined name line scope h = absurd (cc)
name_keeps External name line scope h =
    kept_either (is_external_new name scope) scope (with_external name scope)
    (record { number = refl; begun = refl; name = refl; parameters = refl })
name_keeps Parameter name line scope h = absurd (cc)
name_keeps Typed name line scope h = kept scope
name_keeps Local name line scope h =
    kept_either (is_local_new name scope) scope (with_variable name scope)
    (record { number = refl; begun = refl; name = refl; parameters = refl })
name_keeps Called name line scope h =
    kept_either (is_function_new name scope) scope (with_new_function name line scope)
    (record { number = refl; begun = refl; name = refl; parameters = refl })
name_keeps Mentioned name line scope h =
    kept_either (is_variable_new name scope) scope (with_variable name scope)
    (record { number = refl; begun = refl; name = refl; parameters = refl })

rule_keeps : (rule : SemanticAction) (scope : Scope) → is_inner (Make rule) ≡ true →
    KeepsFunction scope (scope_after_action rule scope)
rule_keeps Define scope h = absurd (cc)
rule_keeps rule scope h = kept scope

defines_none : (rule : SemanticAction) (values : List PartialTree) (scope : Scope) (functions : List Definition) →
    is_inner (Make rule) ≡ true →
    length (functions ++ functions_defined rule values scope) ≡ length functions
defines_none Define values scope functions h = absurd (cc)
defines_none rule values scope functions h = length-append functions [] ∙ omega arith

-- One step at an inner item: what follows is over the same items.

record Stands (base : List Item) (in_scope : Scope) (count : ℕ) (s : State) : Type 0 where
  items : List Item
  inner : all_inner items ≡ true
  over : s.stack ≡ items ++ base
  keeps : KeepsFunction in_scope s.scope
  same : length s.functions ≡ count

item_stands : (item : Item) (items base : List Item) (s : State) → is_inner item ≡ true → all_inner items ≡ true →
    IfStepped (Stands base s.scope (length s.functions)) (item_step item (record s { stack = items ++ base }))
item_stands (Exactly m) items base s i h =
    if_matched (Stands base s.scope (length s.functions)) _ (items ++ base) s
    (λ e. record { items = items; inner = h; over = refl; keeps = kept s.scope; same = refl })
item_stands (AKeyword w) items base s i h =
    if_matched (Stands base s.scope (length s.functions)) _ (items ++ base) s
    (λ e. record { items = items; inner = h; over = refl; keeps = kept s.scope; same = refl })
item_stands (AName role) items base s i h =
    if_named (Stands base s.scope (length s.functions)) role _ (items ++ base) s
    (λ n e. record {
      items = items;
      inner = h;
      over = refl;
      keeps = name_keeps role n (line_at s.rest) s.scope i;
      same = refl;
    })
item_stands AConstant items base s i h =
    if_constant (Stands base s.scope (length s.functions)) _ (items ++ base) s
    (λ n e. record { items = items; inner = h; over = refl; keeps = kept s.scope; same = refl })
item_stands AnEnd items base s i h =
    if_matched (Stands base s.scope (length s.functions)) _ (items ++ base) s
    (λ e. record { items = items; inner = h; over = refl; keeps = kept s.scope; same = refl })
item_stands (Part symbol) items base s i h =
    if_replaced (Stands base s.scope (length s.functions)) _ (items ++ base) s
    (λ front e. record {
      items = front ++ items;
      inner = append_inner front items
          (subst (λ (p : Production). inner_production p ≡ true) e
          (choice_inner symbol (next_token s.rest) (token_after_next s.rest) i))
          h;
      over = sym (append_assoc front items base);
      keeps = kept s.scope;
      same = refl;
    })
item_stands (Make rule) items base s i h =
    record {
      items = items;
      inner = h;
      over = refl;
      keeps = rule_keeps rule s.scope i;
      same = defines_none rule s.values s.scope s.functions i;
    }
item_stands Close items base s i h =
    record { items = items; inner = h; over = refl; keeps = kept s.scope; same = refl }

carried : (base : List Item) (in_scope : Scope) (count : ℕ) (s t : State) → Stands base in_scope count s →
    Stands base s.scope (length s.functions) t → Stands base in_scope count t
carried base in_scope count s t h k =
    record {
      items = k.items;
      inner = k.inner;
      over = k.over;
      keeps = kept_on in_scope s.scope t.scope h.keeps k.keeps;
      same = k.same ∙ h.same;
    }

-- A derivation takes no function away.

abbrev NotFewer : ℕ → State → Type 0
NotFewer count t = count ≤ length t.functions

item_more : (stack : List Item) (s : State) → IfStepped (NotFewer (length s.functions)) (stack_step stack s)
item_more [] s = tt
item_more (Exactly m ∷ stack) s =
    if_matched (NotFewer (length s.functions)) _ stack s (λ e. le_refl (length s.functions))
item_more (AKeyword w ∷ stack) s =
    if_matched (NotFewer (length s.functions)) _ stack s (λ e. le_refl (length s.functions))
item_more (AName role ∷ stack) s =
    if_named (NotFewer (length s.functions)) role _ stack s (λ n e. le_refl (length s.functions))
item_more (AConstant ∷ stack) s =
    if_constant (NotFewer (length s.functions)) _ stack s (λ n e. le_refl (length s.functions))
item_more (AnEnd ∷ stack) s = if_matched (NotFewer (length s.functions)) _ stack s (λ e. le_refl (length s.functions))
item_more (Part symbol ∷ stack) s =
    if_replaced (NotFewer (length s.functions)) _ stack s (λ items e. le_refl (length s.functions))
item_more (Make rule ∷ stack) s =
    omega (arith, length-append s.functions (functions_defined rule s.values s.scope))
item_more (Close ∷ stack) s = le_refl (length s.functions)

run_more : (n : ℕ) (s : State) → length s.functions ≤ length (derived n s).functions
run_more zero s = omega arith
run_more (suc n) s =
    let more : length s.functions ≤ length (stepped s).functions =
    after_step (NotFewer (length s.functions)) s (item_more s.stack s) (le_refl (length s.functions)) in
    omega (arith, run_more n (stepped s), more)

-- A derivation that defined no function didn't pass the end of the one that it is in.

abbrev KeepsFrom : ℕ → Scope → ℕ → State → Type 0
KeepsFrom n in_scope count s = length (derived n s).functions ≡ count → KeepsFunction in_scope (derived n s).scope

-- at a function's end a step adds it, or the derivation stays
end_keeps : (b : Bool) (n : ℕ) (stack : List Item) (in_scope : Scope) (count : ℕ) (s : State) →
    length s.functions ≡ count → KeepsFrom n in_scope count s →
    KeepsFrom n in_scope count
    (unwrap_or (if b then None else stack_step (Make Define ∷ stack) s) s)
end_keeps true n stack in_scope count s before again = again
end_keeps false n stack in_scope count s before again = λ same. absurd (
    let behind : State =
    state stack s.rest [] (scope_after_action Define s.scope) (s.functions ++ functions_defined Define s.values s.scope)
    in
    omega
    (arith, before, same, run_more n behind, length-append s.functions (functions_defined Define s.values s.scope)))

step_keeps : (n : ℕ) (items stack : List Item) (in_scope : Scope) (count : ℕ) (s : State) → all_inner items ≡ true →
    s.stack ≡ items ++ Make Define ∷ stack →
    Stands (Make Define ∷ stack) in_scope count s →
    ((t : State) → Stands (Make Define ∷ stack) in_scope count t → KeepsFrom n in_scope count t) →
    KeepsFrom n in_scope count (stepped s)
step_keeps n [] stack in_scope count s inner over h again =
    subst
    (λ (xs : List Item). KeepsFrom n in_scope count
    (unwrap_or (if is_lexical_error (next_token s.rest) then None else stack_step xs s) s))
    (sym over)
    (end_keeps (is_lexical_error (next_token s.rest)) n stack in_scope count s h.same (again s h))
step_keeps n (item ∷ items) stack in_scope count s inner over h again =
    again (stepped s) (carried base in_scope count s (stepped s) h
    (after_step (Stands base s.scope (length s.functions)) s
    (subst
    (λ (xs : List Item). IfStepped (Stands base s.scope (length s.functions)) (stack_step xs s))
    (sym over)
    (item_stands item items base s (front_inner (is_inner item) (all_inner items) inner)
    (others_inner (is_inner item) (all_inner items) inner)))
    (record { items = h.items; inner = h.inner; over = h.over; keeps = kept s.scope; same = refl })))
  where
    base : List Item
    base = Make Define ∷ stack

run_keeps : (n : ℕ) (stack : List Item) (in_scope : Scope) (count : ℕ) (s : State) →
    Stands (Make Define ∷ stack) in_scope count s → KeepsFrom n in_scope count s
run_keeps zero stack in_scope count s h = λ same. h.keeps
run_keeps (suc n) stack in_scope count s h =
    step_keeps n h.items stack in_scope count s h.inner h.over h (λ t k. run_keeps n stack in_scope count t k)

-- from inner items over a function's end to any state before the next function is defined
pub inner_keeps : (n : ℕ) (items stack after : List Item) (rest later : List LocatedToken)
    (values left : List PartialTree)
    (in_scope learnt : Scope) (functions : List Definition) → all_inner items ≡ true →
    derived n (state (items ++ Make Define ∷ stack) rest values in_scope functions) ≡
    state after later left learnt functions →
    KeepsFunction in_scope learnt
inner_keeps n items stack after rest later values left in_scope learnt functions inner leads =
    subst (λ (t : State). KeepsFunction in_scope t.scope) leads
    (run_keeps n stack in_scope (length functions) (state (items ++ Make Define ∷ stack) rest values in_scope functions)
    (record { items = items; inner = inner; over = refl; keeps = kept in_scope; same = refl })
    (ap (λ (t : State). length t.functions) leads))

pub blocks_keep : BlocksKeepTheFunction
blocks_keep n stack rest later values left in_scope learnt functions leads =
    inner_keeps n (Part Declarations ∷ Part Statements ∷ []) stack (Make Define ∷ stack) rest later values left in_scope
    learnt functions refl leads
