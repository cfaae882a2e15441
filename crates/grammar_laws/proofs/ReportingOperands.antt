-- The productions of expressions, and those of any symbol.
use Rattle.std.proofs.Common.{◌≡◌, ℕ, ◌+◌, ◌<◌, ◌≤◌, List, [], ◌∷◌, ◌++◌, refl, sym, ap, ◌∙◌, subst, Bool, true, false}
use Rattle.std.proofs.Common.{arith, append_assoc, append-nil}
use Rattle.std.specs.Prelude.{ℤ, pos, negsuc, ◌-◌, ◌*◌, Option, Some, None, nat_lt, if◌then◌else◌}
use Rattle.tokens.specs.declared.located_tokens.Punctuator.{Punctuator}
use Rattle.tokens.specs.declared.located_tokens.Punctuator.TheVariants as punctuator
use Rattle.tokens.specs.declared.located_tokens.Token.{Token}
use Rattle.tokens.specs.declared.located_tokens.Token.TheVariants as token
use Rattle.tokens.specs.declared.located_tokens.Keyword.TheVariants as keyword
use Rattle.arith.specs.declared.operators.Op.{Op}
use Rattle.arith.specs.declared.operators.Op.TheVariants as op
use Rattle.grammar.specs.declared.operators.StoreOp.{StoreOp}
use Rattle.grammar.specs.declared.operators.StoreOp.TheVariants as store_op
use Rattle.grammar.specs.declared.actions.Action.{Action}
use Rattle.grammar.specs.declared.actions.Action.TheVariants.{PushConstant, StoreVariable, ApplyBinop, BeginCall}
use Rattle.grammar.specs.declared.actions.Action.TheVariants.{EndCall}
use Rattle.grammar.specs.Actions.{expr_actions, args_actions, middle}
use Rattle.grammar.specs.Derivation.{PartialTree, AnExpr, ACall, Definition}
use Rattle.grammar_laws.specs.Emission.{and_then, on_choice, on_operator}
use Rattle.grammar.specs.Faults.{nested_count}
use Rattle.grammar.specs.Grammar.{Symbol, Source, Types, Head, More, Parameters, ParameterTypes, FunctionBlock, Block}
use Rattle.grammar.specs.Grammar.{Declarations, Statements, Statement, ElsePart, Back, Expression, Level, Tail, Unary}
use Rattle.grammar.specs.Grammar.{Primary, Arguments, MoreArguments, Item, Part, Make, Operate, AddArgument, choice}
use Rattle.grammar.specs.Grammar.{assignment_or, tail_production, unary_level}
use Rattle.grammar.specs.NameLimits.{most_names, most_nested}
use Rattle.grammar.specs.Operators.{operator_at, store_of}
use Rattle.grammar.specs.Scope.{Scope}
use Rattle.grammar.specs.Tree as tree
use Rattle.grammar.specs.Tree.{Expr}
use Rattle.grammar_laws.proofs.Fitting.{constant_fits, variable_fits, postfix_fits, expr_wider, assign_fits, binary_fits}
use Rattle.grammar_laws.proofs.Fitting.{call_fits, no_args_fit, argument_fits, argument_actions, side_fits}
use Rattle.grammar_laws.proofs.ReportingProductions.{and_then_is, Produced, Enters, source_reports, head_reports}
use Rattle.grammar_laws.proofs.ReportingProductions.{more_reports, function_reports, block_reports, statements_report, statement_reports}
use Rattle.grammar_laws.proofs.ReportingProductions.{else_reports}
use Rattle.grammar_laws.proofs.Reporting.{ExprFits, Fact, Gives, Goes, Passed, Parted, room_in, Reports}

-- an expression more, with its actions as they come
given : (A : Type 0) (room : ℕ) (next : Fact) (values : List PartialTree) (n k : ℕ) (ds : List Definition)
    (acts : List Action) → Gives A room next values n k ds acts →
    (e : Expr) → ExprFits A room e → (more : List Action) → acts ++ expr_actions e ≡ more →
    next (AnExpr e ∷ values) n k ds more
given A room next values n k ds acts h e f more is =
    subst (λ (xs : List Action). next (AnExpr e ∷ values) n k ds xs) is (h e f)

-- Operators of a level.

level_reports : (A : Type 0) (m : ℕ) (b : Bool) (stack : List Item) (values : List PartialTree) (n k : ℕ)
    (ds : List Definition)
    (acts : List Action) →
    Gives A (room_in stack + (3 - m)) (Reports A stack) values n k ds acts →
    Produced A (if b then Some (Part (Level (m + 1)) ∷ Part (Tail m) ∷ []) else Some (Part Unary ∷ []))
    stack values n k ds acts
level_reports A m true stack values n k ds acts h = λ e f. record {
  base = acts;
  reported = refl;
  fits = expr_wider A (room_in stack + (3 - (m + 1))) (room_in stack + (3 - m)) e (λ a. omega arith) f;
  on = h;
}
level_reports A m false stack values n k ds acts h =
    λ e f. h e (expr_wider A (room_in stack) (room_in stack + (3 - m)) e (λ a. omega arith) f)

pub no_more_operators : (A : Type 0) (room : ℕ) (next : Fact) (values : List PartialTree) (n k : ℕ)
    (ds : List Definition)
    (acts : List Action) → Goes A room next values n k ds acts → next values n k ds acts
no_more_operators A room next (AnExpr e ∷ below) n k ds acts h =
    subst (λ (xs : List Action). next (AnExpr e ∷ below) n k ds xs) h.reported (h.on e h.fits)
no_more_operators A room next values n k ds acts h = absurd h

operated : (base a acts b : List Action) (o : Op) → base ++ a ≡ acts →
    base ++ (a ++ (middle o ++ (b ++ ApplyBinop o ∷ []))) ≡ (and_then acts (middle o) ++ b) ++ ApplyBinop o ∷ []
operated base a acts b o e =
    sym (append_assoc base a (middle o ++ (b ++ ApplyBinop o ∷ [])))
    ∙ ap (λ xs. xs ++ (middle o ++ (b ++ ApplyBinop o ∷ []))) e ∙ again (middle o)
    ∙ ap (λ xs. (xs ++ b) ++ ApplyBinop o ∷ []) (sym (and_then_is acts (middle o)))
  where
    again : (m : List Action) → acts ++ (m ++ (b ++ ApplyBinop o ∷ [])) ≡ ((acts ++ m) ++ b) ++ ApplyBinop o ∷ []
    again m = simp append_assoc refl

one_more_operator : (A : Type 0) (m : ℕ) (p : Punctuator) (o : Op) → operator_at m (token.Punctuator p) ≡ Some o →
    (stack : List Item) (values : List PartialTree) (n k : ℕ) (ds : List Definition) (acts : List Action) →
    Goes A (room_in stack + (3 - m)) (Reports A stack) values n k ds acts →
    Reports A (Part (Level (m + 1)) ∷ Make (Operate o) ∷ Part (Tail m) ∷ stack) values n k ds
    (and_then acts (middle o))
one_more_operator A m p o is stack (AnExpr e ∷ below) n k ds acts h = λ b f. record {
  base = h.base;
  reported = operated h.base (expr_actions e) acts (expr_actions b) o h.reported;
  fits = binary_fits A (room_in stack + (3 - m)) (room_in stack + (3 - (m + 1))) (room_in stack + (3 - m)) o e b
      (λ a. omega arith) (λ a. side_fits (room_in stack) m p o is) h.fits f;
  on = h.on;
}
one_more_operator A m p o is stack values n k ds acts h = absurd h

operator_reports : (A : Type 0) (m : ℕ) (p : Punctuator) (o : Option Op) → operator_at m (token.Punctuator p) ≡ o →
    (stack : List Item) (values : List PartialTree) (n k : ℕ) (ds : List Definition) (acts : List Action) →
    Goes A (room_in stack + (3 - m)) (Reports A stack) values n k ds acts →
    Produced A (Some (tail_production m o p)) stack values n k ds (and_then acts (on_operator o))
operator_reports A m p None is stack values n k ds acts h =
    no_more_operators A (room_in stack + (3 - m)) (Reports A stack) values n k ds acts h
operator_reports A m p (Some o) is stack values n k ds acts h = one_more_operator A m p o is stack values n k ds acts h

tail_reports : (A : Type 0) (m : ℕ) (next after : Token) (stack : List Item) (values : List PartialTree) (scope : Scope)
    (n k : ℕ) (ds : List Definition) (acts : List Action) →
    Goes A (room_in stack + (3 - m)) (Reports A stack) values n k ds acts →
    Produced A (choice (Tail m) next after) stack values n k ds (and_then acts (on_choice (Tail m) next scope))
tail_reports A m (token.Punctuator p) after stack values scope n k ds acts h =
    operator_reports A m p (operator_at m (token.Punctuator p)) refl stack values n k ds acts h
tail_reports A m next after stack values scope n k ds acts h =
    no_more_operators A (room_in stack + (3 - m)) (Reports A stack) values n k ds acts h

-- Assignments.

assignment_reports : (A : Type 0) (o : Option StoreOp) (p : Punctuator) (stack : List Item) (values : List PartialTree)
    (n k : ℕ) (ds : List Definition) (acts : List Action) →
    Gives A (room_in stack + 2) (Reports A stack) values n k ds acts →
    Produced A (Some (assignment_or o p)) stack values n k ds acts
assignment_reports A None p stack values n k ds acts h = h
assignment_reports A (Some o) p stack values n k ds acts h = λ v i e f.
    given A (room_in stack + 2) (Reports A stack) values n k ds acts h (tree.Assign o v e)
    (assign_fits A (3 * (most_nested - (nested_count stack + 1)) + 2) (room_in stack + 2) o v e (λ a. omega arith) i f)
    _ (sym (append_assoc acts (expr_actions e) (StoreVariable v o ∷ [])))

expression_reports : (A : Type 0) (next after : Token) (stack : List Item) (values : List PartialTree) (n k : ℕ)
    (ds : List Definition) (acts : List Action) →
    Gives A (room_in stack + 2) (Reports A stack) values n k ds acts →
    Produced A (choice Expression next after) stack values n k ds acts
expression_reports A (token.Name name) (token.Punctuator p) stack values n k ds acts h =
    assignment_reports A (store_of p) p stack values n k ds acts h
expression_reports A next after stack values n k ds acts h = h

back_reports : (A : Type 0) (next after : Token) (stack : List Item) (values : List PartialTree) (n k : ℕ)
    (ds : List Definition) (acts : List Action) →
    Gives A (room_in stack + 2) (Reports A stack) values n k ds acts →
    Produced A (choice Back next after) stack values n k ds acts
back_reports A (token.Punctuator punctuator.Semicolon) after stack values n k ds acts h =
    h (tree.Constant (pos 0)) (constant_fits A (room_in stack + 2) (pos 0))
back_reports A next after stack values n k ds acts h = h

-- Operands.

-- the room within a level more
abbrev inner : List Item → ℕ
inner stack = 3 * (most_nested - (nested_count stack + 1))

negated : (acts e : List Action) → acts ++ (PushConstant (pos 0) ∷ (e ++ ApplyBinop op.Subtract ∷ [])) ≡
    ((acts ++ PushConstant (pos 0) ∷ []) ++ e) ++ ApplyBinop op.Subtract ∷ []
negated acts e = simp append_assoc refl

compared : (acts e : List Action) (value : ℤ) (o : Op) →
    acts ++ (e ++ PushConstant value ∷ ApplyBinop o ∷ []) ≡ (acts ++ e) ++ PushConstant value ∷ ApplyBinop o ∷ []
compared acts e value o = simp append_assoc refl

unary_reports : (A : Type 0) (next after : Token) (stack : List Item) (values : List PartialTree) (scope : Scope)
    (n k : ℕ)
    (ds : List Definition) (acts : List Action) →
    Gives A (room_in stack) (Reports A stack) values n k ds acts →
    Produced A (choice Unary next after) stack values n k ds (and_then acts (on_choice Unary next scope))
unary_reports A (token.Punctuator punctuator.Minus) after stack values scope n k ds acts h = λ e f.
    given A (room_in stack) (Reports A stack) values n k ds acts h (tree.Binary op.Subtract (tree.Constant (pos 0)) e)
    (binary_fits A (inner stack) (inner stack) (room_in stack) op.Subtract (tree.Constant (pos 0)) e (λ a. omega arith)
    (λ a. omega arith) (constant_fits A (inner stack) (pos 0)) f)
    _ (negated acts (expr_actions e))
unary_reports A (token.Punctuator punctuator.Not) after stack values scope n k ds acts h = λ e f.
    given A (room_in stack) (Reports A stack) values n k ds acts h (tree.Binary op.Equal e (tree.Constant (pos 0)))
    (binary_fits A (inner stack) (inner stack) (room_in stack) op.Equal e (tree.Constant (pos 0)) (λ a. omega arith)
    (λ a. omega arith) f (constant_fits A (inner stack) (pos 0)))
    _ (compared acts (expr_actions e) (pos 0) op.Equal)
unary_reports A (token.Punctuator punctuator.Tilde) after stack values scope n k ds acts h = λ e f.
    given A (room_in stack) (Reports A stack) values n k ds acts h (tree.Binary op.BitXor e (tree.Constant (negsuc 0)))
    (binary_fits A (inner stack) (inner stack) (room_in stack) op.BitXor e (tree.Constant (negsuc 0)) (λ a. omega arith)
    (λ a. omega arith) f (constant_fits A (inner stack) (negsuc 0)))
    _ (compared acts (expr_actions e) (negsuc 0) op.BitXor)
unary_reports A (token.Punctuator punctuator.PlusPlus) after stack values scope n k ds acts h = λ v i.
    h (tree.Assign store_op.Add v (tree.Constant (pos 1)))
    (assign_fits A (room_in stack) (room_in stack) store_op.Add v (tree.Constant (pos 1)) (λ a. omega arith) i
    (constant_fits A (room_in stack) (pos 1)))
unary_reports A (token.Punctuator punctuator.MinusMinus) after stack values scope n k ds acts h = λ v i.
    h (tree.Assign store_op.Subtract v (tree.Constant (pos 1)))
    (assign_fits A (room_in stack) (room_in stack) store_op.Subtract v (tree.Constant (pos 1)) (λ a. omega arith) i
    (constant_fits A (room_in stack) (pos 1)))
unary_reports A next after stack values scope n k ds acts h = h

called : (acts args : List Action) (last : Action) →
    acts ++ (BeginCall ∷ (args ++ last ∷ [])) ≡ ((acts ++ BeginCall ∷ []) ++ args) ++ last ∷ []
called acts args last = simp append_assoc refl

primary_reports : (A : Type 0) (next after : Token) (stack : List Item) (values : List PartialTree) (n k : ℕ)
    (ds : List Definition) (acts : List Action) → Enters A Primary next after stack →
    Gives A (room_in stack) (Reports A stack) values n k ds acts →
    Produced A (choice Primary next after) stack values n k ds acts
primary_reports A (token.Constant value) after stack values n k ds acts level h =
    λ c. h (tree.Constant (pos c)) (constant_fits A (room_in stack) (pos c))
primary_reports A (token.Name name) (token.Punctuator punctuator.OpenRound) stack values n k ds acts level h =
    λ c i. record {
      base = acts ++ BeginCall ∷ [];
      reported = append-nil (acts ++ BeginCall ∷ []);
      fits = no_args_fit A (inner stack + 2);
      on = λ args g.
          given A (room_in stack) (Reports A stack) values n k ds acts h (tree.Call c args)
          (call_fits A (inner stack + 2) (room_in stack) c args (λ a. omega (arith, level a refl)) i g)
          _ (called acts (args_actions args) (EndCall c));
    }
primary_reports A (token.Name name) (token.Punctuator punctuator.PlusPlus) stack values n k ds acts level h =
    λ v i. h (tree.Postfix store_op.Add v) (postfix_fits A (room_in stack) store_op.Add v i)
primary_reports A (token.Name name) (token.Punctuator punctuator.MinusMinus) stack values n k ds acts level h =
    λ v i. h (tree.Postfix store_op.Subtract v) (postfix_fits A (room_in stack) store_op.Subtract v i)
primary_reports A (token.Name name) after stack values n k ds acts level h =
    λ v i. h (tree.Variable v) (variable_fits A (room_in stack) v i)
primary_reports A (token.Punctuator punctuator.OpenRound) after stack values n k ds acts level h =
    λ e f. h e (expr_wider A (inner stack + 2) (room_in stack) e (λ a. omega (arith, level a refl)) f)
primary_reports A next after stack values n k ds acts level h = tt

-- Arguments.

pub no_more_arguments : (A : Type 0) (room : ℕ) (next : Fact) (values : List PartialTree) (n k : ℕ)
    (ds : List Definition)
    (acts : List Action) → Passed A room next values n k ds acts → next values n k ds acts
no_more_arguments A room next (ACall c args ∷ below) n k ds acts h =
    subst (λ (xs : List Action). next (ACall c args ∷ below) n k ds xs) h.reported (h.on args h.fits)
no_more_arguments A room next values n k ds acts h = absurd h

one_more_argument : (A : Type 0) (stack : List Item) (values : List PartialTree) (n k : ℕ) (ds : List Definition)
    (acts : List Action) → Passed A (room_in stack + 2) (Reports A stack) values n k ds acts →
    Reports A (Part Expression ∷ Make AddArgument ∷ Part MoreArguments ∷ stack) values n k ds acts
one_more_argument A stack (ACall c args ∷ below) n k ds acts h = λ e f. record {
  base = h.base;
  reported = ap (λ xs. h.base ++ xs) (argument_actions args e)
      ∙ sym (append_assoc h.base (args_actions args) (expr_actions e)) ∙ ap (λ xs. xs ++ expr_actions e) h.reported
      ∙ sym (append-nil (acts ++ expr_actions e));
  fits = argument_fits A (room_in stack + 2) args e h.fits f;
  on = h.on;
}
one_more_argument A stack values n k ds acts h = absurd h

arguments_report : (A : Type 0) (next after : Token) (stack : List Item) (values : List PartialTree) (n k : ℕ)
    (ds : List Definition) (acts : List Action) →
    Passed A (room_in stack + 2) (Reports A stack) values n k ds acts →
    Produced A (choice Arguments next after) stack values n k ds acts
arguments_report A (token.Punctuator punctuator.CloseRound) after stack values n k ds acts h =
    no_more_arguments A (room_in stack + 2) (Reports A stack) values n k ds acts h
arguments_report A next after stack values n k ds acts h = one_more_argument A stack values n k ds acts h

further_arguments_report : (A : Type 0) (next after : Token) (stack : List Item) (values : List PartialTree) (n k : ℕ)
    (ds : List Definition) (acts : List Action) →
    Passed A (room_in stack + 2) (Reports A stack) values n k ds acts →
    Produced A (choice MoreArguments next after) stack values n k ds acts
further_arguments_report A (token.Punctuator punctuator.Comma) after stack values n k ds acts h =
    one_more_argument A stack values n k ds acts h
further_arguments_report A next after stack values n k ds acts h =
    no_more_arguments A (room_in stack + 2) (Reports A stack) values n k ds acts h

-- Any symbol.

-- a function's number and its parameters are within the limits, if a function's block is next
abbrev pub Begins : Type 0 → Symbol → Scope → Type 0
Begins A FunctionBlock scope = A → (scope.number < most_names) × (scope.current.parameters ≤ most_names)
Begins A symbol scope = Unit {0}

pub part_reports : (A : Type 0) (symbol : Symbol) (next after : Token) (stack : List Item) (values : List PartialTree)
    (scope : Scope) (ds : List Definition) (acts : List Action) →
    Enters A symbol next after stack → Begins A symbol scope →
    Parted A symbol (room_in stack) (Reports A stack) values scope.number scope.current.parameters ds acts →
    Produced A (choice symbol next after) stack values scope.number scope.current.parameters ds
    (and_then acts (on_choice symbol next scope))
part_reports A Source next after stack values scope ds acts level begins h =
    source_reports A next after stack values scope.number scope.current.parameters ds acts h
part_reports A Types (token.Keyword keyword.Type) after stack values scope ds acts level begins h = h
part_reports A Types next after stack values scope ds acts level begins h = h
part_reports A Head next after stack values scope ds acts level begins h =
    head_reports A next after stack values scope.number scope.current.parameters ds acts h
part_reports A (More role) next after stack values scope ds acts level begins h =
    more_reports A role next after stack values scope.number scope.current.parameters ds acts h
part_reports A Parameters (token.Name name) after stack values scope ds acts level begins h = λ j i. h i
part_reports A Parameters next after stack values scope ds acts level begins h = h scope.current.parameters
part_reports A ParameterTypes (token.Keyword keyword.Type) after stack values scope ds acts level begins h = h
part_reports A ParameterTypes next after stack values scope ds acts level begins h = h
part_reports A FunctionBlock next after stack values scope ds acts level begins h =
    function_reports A next after stack values scope ds acts begins h
part_reports A Block next after stack values scope ds acts level begins h =
    block_reports A next after stack values scope.number scope.current.parameters ds acts h
part_reports A Declarations (token.Keyword keyword.Type) after stack values scope ds acts level begins h = h
part_reports A Declarations next after stack values scope ds acts level begins h = h
part_reports A Statements next after stack values scope ds acts level begins h =
    statements_report A next after stack values scope.number scope.current.parameters ds acts h
part_reports A Statement next after stack values scope ds acts level begins h =
    statement_reports A next after stack values scope scope.number scope.current.parameters ds acts level h
part_reports A ElsePart next after stack values scope ds acts level begins h =
    else_reports A next after stack values scope.number scope.current.parameters ds acts h
part_reports A Back next after stack values scope ds acts level begins h =
    back_reports A next after stack values scope.number scope.current.parameters ds acts h
part_reports A Expression next after stack values scope ds acts level begins h =
    expression_reports A next after stack values scope.number scope.current.parameters ds acts h
part_reports A (Level m) next after stack values scope ds acts level begins h =
    level_reports A m (nat_lt m unary_level) stack values scope.number scope.current.parameters ds acts h
part_reports A (Tail m) next after stack values scope ds acts level begins h =
    tail_reports A m next after stack values scope scope.number scope.current.parameters ds acts h
part_reports A Unary next after stack values scope ds acts level begins h =
    unary_reports A next after stack values scope scope.number scope.current.parameters ds acts h
part_reports A Primary next after stack values scope ds acts level begins h =
    primary_reports A next after stack values scope.number scope.current.parameters ds acts level h
part_reports A Arguments next after stack values scope ds acts level begins h =
    arguments_report A next after stack values scope.number scope.current.parameters ds acts h
part_reports A MoreArguments next after stack values scope ds acts level begins h =
    further_arguments_report A next after stack values scope.number scope.current.parameters ds acts h
