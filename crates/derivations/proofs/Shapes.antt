-- The trees on which a derivation's actions work are there when they are made: by what each item leaves of the trees.
use Rattle.std.proofs.Common.{◌≡◌, ℕ, zero, suc, ◌+◌, List, [], ◌∷◌, ◌++◌, refl, Bool, true, false}
use Rattle.std.specs.Prelude.{Option, Some, None, nat_lt, map, unwrap_or, option_map, if◌then◌else◌}
use Rattle.tokens.specs.declared.located_tokens.LocatedToken.{LocatedToken}
use Rattle.tokens.specs.declared.located_tokens.Punctuator.{Punctuator}
use Rattle.tokens.specs.declared.located_tokens.Punctuator.TheVariants as punctuator
use Rattle.tokens.specs.declared.located_tokens.Token.{Token}
use Rattle.tokens.specs.declared.located_tokens.Token.TheVariants as token
use Rattle.tokens.specs.declared.located_tokens.Keyword.TheVariants as keyword
use Rattle.arith.specs.declared.operators.Op.{Op}
use Rattle.grammar.specs.declared.operators.StoreOp.{StoreOp}
use Rattle.grammar.specs.declared.actions.Action.{Action}
use Rattle.grammar.specs.Actions.{code_length}
use Rattle.grammar.specs.Derivation.{State, PartialTree, AnExpr, AVariable, ACall, ABody, Definition, initial_state, step, stack_step, stepped, derived, next_token, token_after_next, trees_after, name_tree, name_of_token, constant_value, matched, name_matched, replaced, constant_matched}
use Rattle.grammar.specs.Grammar.{Symbol, Source, Types, Head, More, Parameters, ParameterTypes, FunctionBlock, Block, Declarations, Statements, Statement, ElsePart, Back, Expression, Level, Tail, Unary, Primary, Arguments, MoreArguments, Role, Defined, External, Parameter, Typed, Local, Called, Mentioned, Item, Exactly, AKeyword, AName, AConstant, AnEnd, Part, Make, Close, SemanticAction, Operate, Negate, Not, Complement, Fetch, Store, PrefixIncrement, PostfixIncrement, AddArgument, Invoke, Empty, Evaluate, Decide, DecideElse, Repeat, Zero, GiveBack, Define, Production, choice, assignment_or, tail_production, is_lexical_error, unary_level}
use Rattle.grammar.specs.Laws.StateParts.{state}
use Rattle.grammar.specs.Operators.{operator_at, store_of}
use Rattle.grammar.specs.Profile.{Profile}
use Rattle.grammar.specs.Scope.{Scope, no_names}
use Rattle.grammar_laws.specs.Emission.{on_choice, on_constant, on_rule, on_item, emitted}
use Rattle.derivations.specs.Scheme.{blank_rule, blank_item, blank_emitted}

data Kind : Type 0 where
  E : Kind  -- an expression
  V : Kind  -- a variable
  C : Kind  -- a call
  B : Kind  -- a body

abbrev kind_of : PartialTree → Kind
kind_of (AnExpr e) = E
kind_of (AVariable v) = V
kind_of (ACall f args) = C
kind_of (ABody b) = B

abbrev Kinds : Type 0
Kinds = Option (List Kind)

-- the kinds of the trees that are left once a symbol is derived
abbrev after_symbol : Symbol → List Kind → Kinds
after_symbol Source [] = Some []
after_symbol Head [] = Some []
after_symbol FunctionBlock [] = Some []
after_symbol Source ks = None
after_symbol Head ks = None
after_symbol FunctionBlock ks = None
after_symbol (More Called) ks = None
after_symbol (More Mentioned) ks = None
after_symbol Block (B ∷ ks) = Some (B ∷ ks)
after_symbol Statements (B ∷ ks) = Some (B ∷ ks)
after_symbol Statement (B ∷ ks) = Some (B ∷ ks)
after_symbol ElsePart (B ∷ E ∷ B ∷ ks) = Some (B ∷ ks)
after_symbol Block ks = None
after_symbol Statements ks = None
after_symbol Statement ks = None
after_symbol ElsePart ks = None
after_symbol Back ks = Some (E ∷ ks)
after_symbol Expression ks = Some (E ∷ ks)
after_symbol (Level n) ks = Some (E ∷ ks)
after_symbol (Tail n) (E ∷ ks) = Some (E ∷ ks)
after_symbol (Tail n) ks = None
after_symbol Unary ks = Some (E ∷ ks)
after_symbol Primary ks = Some (E ∷ ks)
after_symbol Arguments (C ∷ ks) = Some (C ∷ ks)
after_symbol MoreArguments (C ∷ ks) = Some (C ∷ ks)
after_symbol Arguments ks = None
after_symbol MoreArguments ks = None
after_symbol symbol ks = Some ks

abbrev after_rule : SemanticAction → List Kind → Kinds
after_rule (Operate o) (E ∷ E ∷ ks) = Some (E ∷ ks)
after_rule Negate (E ∷ ks) = Some (E ∷ ks)
after_rule Not (E ∷ ks) = Some (E ∷ ks)
after_rule Complement (E ∷ ks) = Some (E ∷ ks)
after_rule Fetch (V ∷ ks) = Some (E ∷ ks)
after_rule (Store o) (E ∷ V ∷ ks) = Some (E ∷ ks)
after_rule (PrefixIncrement o) (V ∷ ks) = Some (E ∷ ks)
after_rule (PostfixIncrement o) (V ∷ ks) = Some (E ∷ ks)
after_rule AddArgument (E ∷ C ∷ ks) = Some (C ∷ ks)
after_rule Invoke (C ∷ ks) = Some (E ∷ ks)
after_rule Empty ks = Some (B ∷ ks)
after_rule Evaluate (E ∷ B ∷ ks) = Some (B ∷ ks)
after_rule Decide (B ∷ E ∷ B ∷ ks) = Some (B ∷ ks)
after_rule DecideElse (B ∷ B ∷ E ∷ B ∷ ks) = Some (B ∷ ks)
after_rule Repeat (B ∷ E ∷ B ∷ ks) = Some (B ∷ ks)
after_rule Zero ks = Some (E ∷ ks)
after_rule GiveBack (E ∷ B ∷ ks) = Some (B ∷ ks)
after_rule Define ks = Some []
after_rule rule ks = None

abbrev after_name : Role → List Kind → List Kind
after_name Called ks = C ∷ ks
after_name Mentioned ks = V ∷ ks
after_name role ks = ks

abbrev after_item : Item → List Kind → Kinds
after_item (AName role) ks = Some (after_name role ks)
after_item AConstant ks = Some (E ∷ ks)
after_item (Part symbol) ks = after_symbol symbol ks
after_item (Make rule) ks = after_rule rule ks
after_item item ks = Some ks

-- the trees are there for each of the items
abbrev fit : List Item → Kinds → Bool
fit [] None = false
fit [] (Some ks) = true
fit (item ∷ stack) None = false
fit (item ∷ stack) (Some ks) = fit stack (after_item item ks)

abbrev fit_chosen : Production → List Item → List Kind → Bool
fit_chosen None stack ks = true
fit_chosen (Some items) stack ks = fit (items ++ stack) (Some ks)

no_true : false ≡ true → ⊥
no_true e = cc

none_fits : (stack : List Item) → fit stack None ≡ true → ⊥
none_fits [] e = no_true e
none_fits (item ∷ stack) e = no_true e

-- A production leaves what its symbol does.

level_fits : (n : ℕ) (b : Bool) (stack : List Item) (ks : List Kind) → fit stack (Some (E ∷ ks)) ≡ true →
    fit_chosen (if b then Some (Part (Level (n + 1)) ∷ Part (Tail n) ∷ []) else Some (Part Unary ∷ [])) stack ks ≡ true
level_fits n true stack ks h = h
level_fits n false stack ks h = h

tail_fits : (n : ℕ) (o : Option Op) (m : Punctuator) (stack : List Item) (ks : List Kind) →
    fit stack (Some (E ∷ ks)) ≡ true → fit_chosen (Some (tail_production n o m)) stack (E ∷ ks) ≡ true
tail_fits n None m stack ks h = h
tail_fits n (Some op) m stack ks h = h

assignment_fits : (o : Option StoreOp) (m : Punctuator) (stack : List Item) (ks : List Kind) →
    fit stack (Some (E ∷ ks)) ≡ true → fit_chosen (Some (assignment_or o m)) stack ks ≡ true
assignment_fits None m stack ks h = h
assignment_fits (Some op) m stack ks h = h

expression_fits : (next after : Token) (stack : List Item) (ks : List Kind) → fit stack (Some (E ∷ ks)) ≡ true →
    fit_chosen (choice Expression next after) stack ks ≡ true
expression_fits (token.Name name) (token.Punctuator m) stack ks h = assignment_fits (store_of m) m stack ks h
expression_fits next after stack ks h = h

unary_fits : (next after : Token) (stack : List Item) (ks : List Kind) → fit stack (Some (E ∷ ks)) ≡ true →
    fit_chosen (choice Unary next after) stack ks ≡ true
unary_fits (token.Punctuator punctuator.Minus) after stack ks h = h
unary_fits (token.Punctuator punctuator.Not) after stack ks h = h
unary_fits (token.Punctuator punctuator.Tilde) after stack ks h = h
unary_fits (token.Punctuator punctuator.PlusPlus) after stack ks h = h
unary_fits (token.Punctuator punctuator.MinusMinus) after stack ks h = h
unary_fits next after stack ks h = h

primary_fits : (next after : Token) (stack : List Item) (ks : List Kind) → fit stack (Some (E ∷ ks)) ≡ true →
    fit_chosen (choice Primary next after) stack ks ≡ true
primary_fits (token.Constant value) after stack ks h = h
primary_fits (token.Name name) (token.Punctuator punctuator.OpenRound) stack ks h = h
primary_fits (token.Name name) (token.Punctuator punctuator.PlusPlus) stack ks h = h
primary_fits (token.Name name) (token.Punctuator punctuator.MinusMinus) stack ks h = h
primary_fits (token.Name name) after stack ks h = h
primary_fits (token.Punctuator punctuator.OpenRound) after stack ks h = h
primary_fits next after stack ks h = refl

statement_fits : (next after : Token) (stack : List Item) (ks : List Kind) → fit stack (Some (B ∷ ks)) ≡ true →
    fit_chosen (choice Statement next after) stack (B ∷ ks) ≡ true
statement_fits (token.Punctuator punctuator.Semicolon) after stack ks h = h
statement_fits (token.Punctuator punctuator.OpenCurly) after stack ks h = h
statement_fits (token.Keyword keyword.If) after stack ks h = h
statement_fits (token.Keyword keyword.While) after stack ks h = h
statement_fits (token.Keyword keyword.Return) after stack ks h = h
statement_fits next after stack ks h = h

source_fits : (next after : Token) (stack : List Item) → fit stack (Some []) ≡ true →
    fit_chosen (choice Source next after) stack [] ≡ true
source_fits token.End after stack h = h
source_fits (token.Keyword keyword.Type) after stack h = h
source_fits (token.Name name) after stack h = h
source_fits next after stack h = refl

head_fits : (next after : Token) (stack : List Item) → fit stack (Some []) ≡ true →
    fit_chosen (choice Head next after) stack [] ≡ true
head_fits (token.Name name) (token.Punctuator punctuator.OpenRound) stack h = h
head_fits (token.Name name) after stack h = h
head_fits next after stack h = refl

block_fits : (next after : Token) (stack : List Item) (ks : List Kind) → fit stack (Some (B ∷ ks)) ≡ true →
    fit_chosen (choice Block next after) stack (B ∷ ks) ≡ true
block_fits (token.Punctuator punctuator.OpenCurly) after stack ks h = h
block_fits next after stack ks h = refl

function_fits : (next after : Token) (stack : List Item) → fit stack (Some []) ≡ true →
    fit_chosen (choice FunctionBlock next after) stack [] ≡ true
function_fits (token.Punctuator punctuator.OpenCurly) after stack h = h
function_fits next after stack h = refl

more_fits : (role : Role) (next after : Token) (stack : List Item) (ks : List Kind) →
    fit stack (after_symbol (More role) ks) ≡ true → fit_chosen (choice (More role) next after) stack ks ≡ true
more_fits Called next after stack ks h = absurd (none_fits stack h)
more_fits Mentioned next after stack ks h = absurd (none_fits stack h)
more_fits Defined (token.Punctuator punctuator.Comma) after stack ks h = h
more_fits External (token.Punctuator punctuator.Comma) after stack ks h = h
more_fits Parameter (token.Punctuator punctuator.Comma) after stack ks h = h
more_fits Typed (token.Punctuator punctuator.Comma) after stack ks h = h
more_fits Local (token.Punctuator punctuator.Comma) after stack ks h = h
more_fits Defined next after stack ks h = h
more_fits External next after stack ks h = h
more_fits Parameter next after stack ks h = h
more_fits Typed next after stack ks h = h
more_fits Local next after stack ks h = h

statements_fits : (next after : Token) (stack : List Item) (ks : List Kind) → fit stack (Some (B ∷ ks)) ≡ true →
    fit_chosen (choice Statements next after) stack (B ∷ ks) ≡ true
statements_fits (token.Punctuator punctuator.CloseCurly) after stack ks h = h
statements_fits next after stack ks h = h

else_fits : (next after : Token) (stack : List Item) (ks : List Kind) → fit stack (Some (B ∷ ks)) ≡ true →
    fit_chosen (choice ElsePart next after) stack (B ∷ E ∷ B ∷ ks) ≡ true
else_fits (token.Keyword keyword.Else) after stack ks h = h
else_fits next after stack ks h = h

back_fits : (next after : Token) (stack : List Item) (ks : List Kind) → fit stack (Some (E ∷ ks)) ≡ true →
    fit_chosen (choice Back next after) stack ks ≡ true
back_fits (token.Punctuator punctuator.Semicolon) after stack ks h = h
back_fits next after stack ks h = h

tails_fit : (n : ℕ) (next after : Token) (stack : List Item) (ks : List Kind) → fit stack (Some (E ∷ ks)) ≡ true →
    fit_chosen (choice (Tail n) next after) stack (E ∷ ks) ≡ true
tails_fit n (token.Punctuator m) after stack ks h = tail_fits n (operator_at n (token.Punctuator m)) m stack ks h
tails_fit n next after stack ks h = h

arguments_fit : (next after : Token) (stack : List Item) (ks : List Kind) → fit stack (Some (C ∷ ks)) ≡ true →
    fit_chosen (choice Arguments next after) stack (C ∷ ks) ≡ true
arguments_fit (token.Punctuator punctuator.CloseRound) after stack ks h = h
arguments_fit next after stack ks h = h

more_arguments_fit : (next after : Token) (stack : List Item) (ks : List Kind) → fit stack (Some (C ∷ ks)) ≡ true →
    fit_chosen (choice MoreArguments next after) stack (C ∷ ks) ≡ true
more_arguments_fit (token.Punctuator punctuator.Comma) after stack ks h = h
more_arguments_fit next after stack ks h = h

types_fit : (next after : Token) (stack : List Item) (ks : List Kind) → fit stack (Some ks) ≡ true →
    fit_chosen (choice Types next after) stack ks ≡ true
types_fit (token.Keyword keyword.Type) after stack ks h = h
types_fit next after stack ks h = h

parameters_fit : (next after : Token) (stack : List Item) (ks : List Kind) → fit stack (Some ks) ≡ true →
    fit_chosen (choice Parameters next after) stack ks ≡ true
parameters_fit (token.Name name) after stack ks h = h
parameters_fit next after stack ks h = h

parameter_types_fit : (next after : Token) (stack : List Item) (ks : List Kind) → fit stack (Some ks) ≡ true →
    fit_chosen (choice ParameterTypes next after) stack ks ≡ true
parameter_types_fit (token.Keyword keyword.Type) after stack ks h = h
parameter_types_fit next after stack ks h = h

declarations_fit : (next after : Token) (stack : List Item) (ks : List Kind) → fit stack (Some ks) ≡ true →
    fit_chosen (choice Declarations next after) stack ks ≡ true
declarations_fit (token.Keyword keyword.Type) after stack ks h = h
declarations_fit next after stack ks h = h

choice_fits : (symbol : Symbol) (next after : Token) (stack : List Item) (ks : List Kind) →
    fit stack (after_symbol symbol ks) ≡ true → fit_chosen (choice symbol next after) stack ks ≡ true
choice_fits Source next after stack [] h = source_fits next after stack h
choice_fits Head next after stack [] h = head_fits next after stack h
choice_fits FunctionBlock next after stack [] h = function_fits next after stack h
choice_fits Source next after stack (k ∷ ks) h = absurd (none_fits stack h)
choice_fits Head next after stack (k ∷ ks) h = absurd (none_fits stack h)
choice_fits FunctionBlock next after stack (k ∷ ks) h = absurd (none_fits stack h)
choice_fits (More role) next after stack ks h = more_fits role next after stack ks h
choice_fits Types next after stack ks h = types_fit next after stack ks h
choice_fits Parameters next after stack ks h = parameters_fit next after stack ks h
choice_fits ParameterTypes next after stack ks h = parameter_types_fit next after stack ks h
choice_fits Declarations next after stack ks h = declarations_fit next after stack ks h
choice_fits Block next after stack (B ∷ ks) h = block_fits next after stack ks h
choice_fits Statements next after stack (B ∷ ks) h = statements_fits next after stack ks h
choice_fits Statement next after stack (B ∷ ks) h = statement_fits next after stack ks h
choice_fits ElsePart next after stack (B ∷ E ∷ B ∷ ks) h = else_fits next after stack ks h
choice_fits Block next after stack ks h = absurd (none_fits stack h)
choice_fits Statements next after stack ks h = absurd (none_fits stack h)
choice_fits Statement next after stack ks h = absurd (none_fits stack h)
choice_fits ElsePart next after stack ks h = absurd (none_fits stack h)
choice_fits Back next after stack ks h = back_fits next after stack ks h
choice_fits Expression next after stack ks h = expression_fits next after stack ks h
choice_fits (Level n) next after stack ks h = level_fits n (nat_lt n unary_level) stack ks h
choice_fits (Tail n) next after stack (E ∷ ks) h = tails_fit n next after stack ks h
choice_fits (Tail n) next after stack ks h = absurd (none_fits stack h)
choice_fits Unary next after stack ks h = unary_fits next after stack ks h
choice_fits Primary next after stack ks h = primary_fits next after stack ks h
choice_fits Arguments next after stack (C ∷ ks) h = arguments_fit next after stack ks h
choice_fits MoreArguments next after stack (C ∷ ks) h = more_arguments_fit next after stack ks h
choice_fits Arguments next after stack ks h = absurd (none_fits stack h)
choice_fits MoreArguments next after stack ks h = absurd (none_fits stack h)

-- A step keeps it.

abbrev HasTrees : List Item → List PartialTree → Type 0
HasTrees stack values = fit stack (Some (map kind_of values)) ≡ true

abbrev KeepsTrees : Option State → Type 0
KeepsTrees None = Unit {0}
KeepsTrees (Some t) = HasTrees t.stack t.values

rule_fits : (rule : SemanticAction) (stack : List Item) (values : List PartialTree) →
    HasTrees (Make rule ∷ stack) values →
    HasTrees stack (trees_after rule values)
rule_fits (Operate o) stack (AnExpr b ∷ AnExpr a ∷ values) h = h
rule_fits Negate stack (AnExpr e ∷ values) h = h
rule_fits Not stack (AnExpr e ∷ values) h = h
rule_fits Complement stack (AnExpr e ∷ values) h = h
rule_fits Fetch stack (AVariable v ∷ values) h = h
rule_fits (Store o) stack (AnExpr e ∷ AVariable v ∷ values) h = h
rule_fits (PrefixIncrement o) stack (AVariable v ∷ values) h = h
rule_fits (PostfixIncrement o) stack (AVariable v ∷ values) h = h
rule_fits AddArgument stack (AnExpr e ∷ ACall f args ∷ values) h = h
rule_fits Invoke stack (ACall f args ∷ values) h = h
rule_fits Empty stack values h = h
rule_fits Evaluate stack (AnExpr e ∷ ABody b ∷ values) h = h
rule_fits Decide stack (ABody s ∷ AnExpr c ∷ ABody b ∷ values) h = h
rule_fits DecideElse stack (ABody t ∷ ABody s ∷ AnExpr c ∷ ABody b ∷ values) h = h
rule_fits Repeat stack (ABody s ∷ AnExpr c ∷ ABody b ∷ values) h = h
rule_fits Zero stack values h = h
rule_fits GiveBack stack (AnExpr e ∷ ABody b ∷ values) h = h
rule_fits Define stack values h = h
rule_fits rule stack values h = absurd (none_fits stack h)

matched_fits : (b : Bool) (stack : List Item) (rest : List LocatedToken) (values : List PartialTree) (scope : Scope)
    (functions : List Definition) → HasTrees stack values →
    KeepsTrees (matched b (state stack rest values scope functions))
matched_fits true stack rest values scope functions h = h
matched_fits false stack rest values scope functions h = tt

role_fits : (role : Role) (name : List ℕ) (scope : Scope) (stack : List Item) (values : List PartialTree) →
    HasTrees (AName role ∷ stack) values → HasTrees stack (name_tree role name scope ++ values)
role_fits Called name scope stack values h = h
role_fits Mentioned name scope stack values h = h
role_fits role name scope stack values h = h

name_fits : (role : Role) (name : Option (List ℕ)) (stack : List Item) (rest : List LocatedToken)
    (values : List PartialTree) (scope : Scope) (functions : List Definition) → HasTrees (AName role ∷ stack) values →
    KeepsTrees (name_matched role name (state stack rest values scope functions))
name_fits role None stack rest values scope functions h = tt
name_fits role (Some name) stack rest values scope functions h = role_fits role name scope stack values h

constant_fits : (value : Option ℕ) (stack : List Item) (rest : List LocatedToken) (values : List PartialTree)
    (scope : Scope) (functions : List Definition) → HasTrees (AConstant ∷ stack) values →
    KeepsTrees (constant_matched value (state stack rest values scope functions))
constant_fits None stack rest values scope functions h = tt
constant_fits (Some value) stack rest values scope functions h = h

replaced_fits : (production : Production) (stack : List Item) (rest : List LocatedToken) (values : List PartialTree)
    (scope : Scope) (functions : List Definition) → fit_chosen production stack (map kind_of values) ≡ true →
    KeepsTrees (replaced production (state stack rest values scope functions))
replaced_fits None stack rest values scope functions h = tt
replaced_fits (Some items) stack rest values scope functions h = h

step_fits : (stack : List Item) (rest : List LocatedToken) (values : List PartialTree) (scope : Scope)
    (functions : List Definition) → HasTrees stack values →
    KeepsTrees (stack_step stack (state stack rest values scope functions))
step_fits [] rest values scope functions h = tt
step_fits (Exactly m ∷ stack) rest values scope functions h = matched_fits _ stack rest values scope functions h
step_fits (AKeyword w ∷ stack) rest values scope functions h = matched_fits _ stack rest values scope functions h
step_fits (AName role ∷ stack) rest values scope functions h =
    name_fits role (name_of_token (next_token rest)) stack rest values scope functions h
step_fits (AConstant ∷ stack) rest values scope functions h =
    constant_fits (constant_value (next_token rest)) stack rest values scope functions h
step_fits (AnEnd ∷ stack) rest values scope functions h = matched_fits _ stack rest values scope functions h
step_fits (Part symbol ∷ stack) rest values scope functions h =
    replaced_fits (choice symbol (next_token rest) (token_after_next rest)) stack rest values scope functions
    (choice_fits symbol (next_token rest) (token_after_next rest) stack (map kind_of values) h)
step_fits (Make rule ∷ stack) rest values scope functions h = rule_fits rule stack values h
step_fits (Close ∷ stack) rest values scope functions h = h

kept_fits : (s : State) (o : Option State) → HasTrees s.stack s.values → KeepsTrees o →
    HasTrees (unwrap_or o s).stack (unwrap_or o s).values
kept_fits s None h k = h
kept_fits s (Some t) h k = k

guarded_fits : (s : State) (fault : Bool) (o : Option State) → KeepsTrees o → KeepsTrees (if fault then None else o)
guarded_fits s true o k = tt
guarded_fits s false o k = k

stepped_fits : (s : State) → HasTrees s.stack s.values → HasTrees (stepped s).stack (stepped s).values
stepped_fits s h = kept_fits s (step s) h (guarded_fits s (is_lexical_error (next_token s.rest)) (stack_step s.stack s)
    (step_fits s.stack s.rest s.values s.scope s.functions h))

-- So what is emitted makes as many instructions as the scheme's actions with 0 for each number.

rule_makes : (p : Profile) (rule : SemanticAction) (stack : List Item) (values : List PartialTree) (variables : ℕ) →
    HasTrees (Make rule ∷ stack) values →
    code_length p (on_rule rule stack values variables) ≡ code_length p (blank_rule rule stack)
rule_makes p (Operate o) stack values variables h = refl
rule_makes p Negate stack values variables h = refl
rule_makes p Not stack values variables h = refl
rule_makes p Complement stack values variables h = refl
rule_makes p Fetch stack (AVariable v ∷ values) variables h = refl
rule_makes p (Store o) stack (AnExpr e ∷ AVariable v ∷ values) variables h = refl
rule_makes p (PrefixIncrement o) stack (AVariable v ∷ values) variables h = refl
rule_makes p (PostfixIncrement o) stack (AVariable v ∷ values) variables h = refl
rule_makes p AddArgument stack values variables h = refl
rule_makes p Invoke stack (ACall f args ∷ values) variables h = refl
rule_makes p Empty stack values variables h = refl
rule_makes p Evaluate stack values variables h = refl
rule_makes p Decide stack values variables h = refl
rule_makes p DecideElse stack values variables h = refl
rule_makes p Repeat stack values variables h = refl
rule_makes p Zero stack values variables h = refl
rule_makes p GiveBack stack values variables h = refl
rule_makes p Define stack values variables h = refl
rule_makes p rule stack values variables h = absurd (none_fits stack h)

choice_makes : (p : Profile) (symbol : Symbol) (next : Token) (scope other : Scope) →
    code_length p (on_choice symbol next scope) ≡ code_length p (on_choice symbol next other)
choice_makes p FunctionBlock (token.Punctuator punctuator.OpenCurly) scope other = refl
choice_makes p Statement (token.Keyword keyword.While) scope other = refl
choice_makes p (Tail n) next scope other = refl
choice_makes p Unary (token.Punctuator punctuator.Minus) scope other = refl
choice_makes p symbol next scope other = refl

constant_makes : (p : Profile) (value : Option ℕ) →
    code_length p (on_constant value) ≡ code_length p (on_constant (option_map (λ n. 0) value))
constant_makes p None = refl
constant_makes p (Some value) = refl

item_makes : (p : Profile) (stack : List Item) (next : Token) (values : List PartialTree) (scope : Scope) →
    HasTrees stack values → code_length p (on_item stack next values scope) ≡ code_length p (blank_item stack next)
item_makes p [] next values scope h = refl
item_makes p (Exactly m ∷ stack) next values scope h = refl
item_makes p (AKeyword w ∷ stack) next values scope h = refl
item_makes p (AName role ∷ stack) next values scope h = refl
item_makes p (AConstant ∷ stack) next values scope h = constant_makes p (constant_value next)
item_makes p (AnEnd ∷ stack) next values scope h = refl
item_makes p (Part symbol ∷ stack) next values scope h = choice_makes p symbol next scope no_names
item_makes p (Make rule ∷ stack) next values scope h = rule_makes p rule stack values _ h
item_makes p (Close ∷ stack) next values scope h = refl

guarded_makes : (p : Profile) (fault : Bool) (xs ys : List Action) → code_length p xs ≡ code_length p ys →
    code_length p (if fault then [] else xs) ≡ code_length p (if fault then [] else ys)
guarded_makes p true xs ys h = refl
guarded_makes p false xs ys h = h

emitted_makes : (p : Profile) (s : State) → HasTrees s.stack s.values →
    code_length p (emitted s) ≡ code_length p (blank_emitted s.stack (next_token s.rest))
emitted_makes p s h = guarded_makes p (is_lexical_error (next_token s.rest))
    (on_item s.stack (next_token s.rest) s.values s.scope) (blank_item s.stack (next_token s.rest))
    (item_makes p s.stack (next_token s.rest) s.values s.scope h)

derived_fits : (n : ℕ) (s : State) → HasTrees s.stack s.values → HasTrees (derived n s).stack (derived n s).values
derived_fits zero s h = h
derived_fits (suc n) s h = derived_fits n (stepped s) (stepped_fits s h)

-- in any state of a derivation
pub step_makes : (p : Profile) (n : ℕ) (tokens : List LocatedToken) → let s = derived n (initial_state tokens) in
    code_length p (emitted s) ≡ code_length p (blank_emitted s.stack (next_token s.rest))
step_makes p n tokens =
    emitted_makes p (derived n (initial_state tokens)) (derived_fits n (initial_state tokens) refl)
