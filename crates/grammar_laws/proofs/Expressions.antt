-- Each expression, as it is spelled, is taken.
use Rattle.std.proofs.Common.{false, ◌≡◌, ℕ, ◌+◌, List, [], ◌∷◌, ◌++◌, refl, sym, ap, append_assoc}
use Rattle.std.specs.Prelude.{Some}
use Rattle.tokens.specs.declared.located_tokens.Punctuator.TheVariants as punctuator
use Rattle.tokens.specs.declared.located_tokens.Token.{Token}
use Rattle.tokens.specs.declared.located_tokens.Token.TheVariants as token
use Rattle.grammar.specs.declared.resolved_names.Callee.{Callee}
use Rattle.arith.specs.declared.operators.Op.{Op}
use Rattle.grammar.specs.declared.operators.StoreOp.{StoreOp}
use Rattle.grammar.specs.declared.operators.StoreOp.TheVariants as store_op
use Rattle.grammar.specs.Derivation.{PartialTree, AnExpr, AVariable, ACall, Definition}
use Rattle.grammar.specs.Grammar as grammar
use Rattle.grammar.specs.Grammar.{Item, Exactly, Part, Make, Close, Level, Unary, MoreArguments, SemanticAction, Operate, Negate, Complement, Store, AddArgument, Invoke, choice, is_lexical_error, binary_levels}
use Rattle.grammar.specs.Scope.{Scope, variable_of, callee_of}
use Rattle.grammar.specs.Tree as tree
use Rattle.grammar.specs.Tree.{Expr, Args, add_argument}
use Rattle.grammar_laws.specs.Written.{Sign, Minus, Not, Tilde, Increment, Up, Down, Expression, Constant, Variable, Binary, Signed, Assign, PreIncrement, PostIncrement, Call, Arguments, NoMore, Argument}
use Rattle.grammar.specs.Operators.{binary_punctuator, store_punctuator}
use Rattle.grammar_laws.specs.Spelling.{sign_punctuator, spelled_increment, spell_more}
use Rattle.grammar_laws.specs.Resolving.{tree_of, trees_of, behind, behind_arguments, mentioned, behind_callee, signed, increment_operator}
use Rattle.grammar_laws.proofs.Leading.{Leads, then, at, first, second, part, make}
use Rattle.grammar_laws.proofs.Levels.{tails, every_tail, down, up, Closing, Round, Comma, closing_punctuator, Operates, operates, level_of, tighter_levels}
use Rattle.grammar_laws.proofs.Parts.{IsTaken, IsOperand, operand, a_constant, a_name, operator_ends, closing_ends, spell_part, part_sound, part_begins, part_at_level, part_alone}

-- a binary operator

binary : (o : Op) (a b : Expression) → IsOperand a → IsOperand b → IsTaken (Binary o a b)
binary o a b is_a is_b c rest stack values scope functions =
    let goes : Operates o = operates o in
    let right : List Token = spell_part b ++ token.Punctuator (closing_punctuator c) ∷ rest in
    let both : List PartialTree = AnExpr (tree_of b (behind a scope)) ∷ AnExpr (tree_of a scope) ∷ values in
    rw
    (append_assoc (spell_part a) (token.Punctuator (binary_punctuator o) ∷ spell_part b)
    (token.Punctuator (closing_punctuator c) ∷ rest))
    (then _ _ _ (part grammar.Expression (Part (Level 1) ∷ []) stack
    (spell_part a ++ token.Punctuator (binary_punctuator o) ∷ right) values scope functions
    (part_sound a (token.Punctuator (binary_punctuator o) ∷ right))
    (part_begins a (binary_punctuator o) right (operator_ends o)))
    (then _ _ _
    (down binary_levels 1 stack (spell_part a ++ token.Punctuator (binary_punctuator o) ∷ right) values scope functions
    refl
    (part_sound a (token.Punctuator (binary_punctuator o) ∷ right)))
    (then _ _ _ (is_a (binary_punctuator o) (operator_ends o) right (every_tail stack) values scope functions)
    (then _ _ _ (goes.goes stack right (AnExpr (tree_of a scope) ∷ values) (behind a scope) functions)
    (then _ _ _
    (part_at_level b is_b (tighter_levels o) (level_of o + 1) goes.sum c rest
    (Make (Operate o) ∷ tails (level_of o) 1 stack)
    (AnExpr (tree_of a scope) ∷ values) (behind a scope) functions)
    (then _ _ _
    (make (Operate o) (tails (level_of o) 1 stack) (token.Punctuator (closing_punctuator c) ∷ rest) both
    (AnExpr (tree_of (Binary o a b) scope) ∷ values) (behind (Binary o a b) scope) functions refl refl refl refl)
    (up (level_of o) 1 c stack rest (AnExpr (tree_of (Binary o a b) scope) ∷ values) (behind (Binary o a b) scope)
    functions)))))))

-- a unary operator

sign_rule : Sign → SemanticAction
sign_rule Minus = Negate
sign_rule Not = grammar.Not
sign_rule Tilde = Complement

sign_begins : (sign : Sign) (tokens : List Token) (stack : List Item) (values : List PartialTree) (scope : Scope)
    (functions : List Definition) →
    Leads (at (Part Unary ∷ stack) (token.Punctuator (sign_punctuator sign) ∷ tokens) values scope functions)
    (at (Part Unary ∷ Make (sign_rule sign) ∷ Close ∷ stack) tokens values scope functions)
unfolding sign_rule
sign_begins Minus tokens stack values scope functions = record { steps = 2; leads = refl }
sign_begins sign tokens stack values scope functions = record { steps = 2; leads = refl }

sign_ends : (sign : Sign) (e : Expr) (c : Closing) (rest : List Token) (stack : List Item) (values : List PartialTree)
    (scope : Scope) (functions : List Definition) →
    Leads
    (at (Make (sign_rule sign) ∷ stack) (token.Punctuator (closing_punctuator c) ∷ rest) (AnExpr e ∷ values) scope
    functions)
    (at stack (token.Punctuator (closing_punctuator c) ∷ rest) (AnExpr (signed sign e) ∷ values) scope functions)
unfolding sign_rule
sign_ends Minus e c rest stack values scope functions =
    make Negate stack (token.Punctuator (closing_punctuator c) ∷ rest) _ _ scope functions refl refl refl refl
sign_ends Not e c rest stack values scope functions =
    make grammar.Not stack (token.Punctuator (closing_punctuator c) ∷ rest) _ _ scope functions refl refl refl refl
sign_ends Tilde e c rest stack values scope functions =
    make Complement stack (token.Punctuator (closing_punctuator c) ∷ rest) _ _ scope functions refl refl refl refl

with_sign : (sign : Sign) (e : Expression) → IsOperand e → IsTaken (Signed sign e)
with_sign sign e is c rest stack values scope functions =
    let inner : List Token = spell_part e ++ token.Punctuator (closing_punctuator c) ∷ rest in
    let above : List Item = every_tail stack in
    let whole : Expr = tree_of (Signed sign e) scope in
    then _ _ _
    (part grammar.Expression (Part (Level 1) ∷ []) stack (token.Punctuator (sign_punctuator sign) ∷ inner) values scope
    functions refl refl)
    (then _ _ _
    (down binary_levels 1 stack (token.Punctuator (sign_punctuator sign) ∷ inner) values scope functions refl refl)
    (then _ _ _ (sign_begins sign inner above values scope functions)
    (then _ _ _
    (is (closing_punctuator c) (closing_ends c) rest (Make (sign_rule sign) ∷ Close ∷ above) values scope functions)
    (then _ _ _ (sign_ends sign (tree_of e scope) c rest (Close ∷ above) values (behind e scope) functions)
    (then _
    (at above (token.Punctuator (closing_punctuator c) ∷ rest) (AnExpr whole ∷ values) (behind e scope) functions) _
    (record { steps = 1; leads = refl })
    (up binary_levels 1 c stack rest (AnExpr whole ∷ values) (behind e scope) functions))))))

-- ++ and --

before_begins : (increment : Increment) (name : List ℕ) (tokens : List Token) (stack : List Item)
    (values : List PartialTree)
    (scope : Scope) (functions : List Definition) →
    Leads
    (at (Part Unary ∷ stack) (token.Punctuator (spelled_increment increment) ∷ token.Name name ∷ tokens) values scope
    functions)
    (at (Make (grammar.PrefixIncrement (increment_operator increment)) ∷ stack) tokens
    (AVariable (variable_of name scope) ∷ values)
    (mentioned name scope) functions)
before_begins Up name tokens stack values scope functions = record { steps = 3; leads = refl }
before_begins Down name tokens stack values scope functions = record { steps = 3; leads = refl }

behind_begins : (increment : Increment) (name : List ℕ) (tokens : List Token) (stack : List Item)
    (values : List PartialTree)
    (scope : Scope) (functions : List Definition) →
    Leads
    (at (Part Unary ∷ stack) (token.Name name ∷ token.Punctuator (spelled_increment increment) ∷ tokens) values scope
    functions)
    (at (Make (grammar.PostfixIncrement (increment_operator increment)) ∷ stack) tokens
    (AVariable (variable_of name scope) ∷ values)
    (mentioned name scope) functions)
behind_begins Up name tokens stack values scope functions = record { steps = 4; leads = refl }
behind_begins Down name tokens stack values scope functions = record { steps = 4; leads = refl }

no_assignment : (increment : Increment) (name : List ℕ) →
    choice grammar.Expression (token.Name name) (token.Punctuator (spelled_increment increment)) ≡
    Some (Part (Level 1) ∷ [])
no_assignment Up name = refl
no_assignment Down name = refl

-- the name was taken, and the increment is still to be made
incremented : (rule : SemanticAction) (name : List ℕ) (whole : Expr) (tokens rest : List Token) (c : Closing)
    (stack : List Item) (values : List PartialTree) (scope : Scope) (functions : List Definition) →
    is_lexical_error (first tokens) ≡ false →
    choice grammar.Expression (first tokens) (second tokens) ≡ Some (Part (Level 1) ∷ []) →
    Leads (at (Part Unary ∷ every_tail stack) tokens values scope functions)
    (at (Make rule ∷ every_tail stack) (token.Punctuator (closing_punctuator c) ∷ rest)
    (AVariable (variable_of name scope) ∷ values) (mentioned name scope) functions) →
    Leads
    (at (Make rule ∷ every_tail stack) (token.Punctuator (closing_punctuator c) ∷ rest)
    (AVariable (variable_of name scope) ∷ values) (mentioned name scope) functions)
    (at (every_tail stack) (token.Punctuator (closing_punctuator c) ∷ rest) (AnExpr whole ∷ values)
    (mentioned name scope) functions) →
    Leads (at (Part grammar.Expression ∷ stack) tokens values scope functions)
    (at stack (token.Punctuator (closing_punctuator c) ∷ rest) (AnExpr whole ∷ values) (mentioned name scope)
    functions)
incremented rule name whole tokens rest c stack values scope functions sound chosen begins made =
    then _ _ _ (part grammar.Expression (Part (Level 1) ∷ []) stack tokens values scope functions sound chosen)
    (then _ _ _ (down binary_levels 1 stack tokens values scope functions refl sound)
    (then _ _ _ begins (then _ _ _ made
    (up binary_levels 1 c stack rest (AnExpr whole ∷ values) (mentioned name scope) functions))))

pre_incremented : (increment : Increment) (name : List ℕ) → IsTaken (PreIncrement increment name)
pre_incremented increment name c rest stack values scope functions =
    let rule : SemanticAction = grammar.PrefixIncrement (increment_operator increment) in
    let closing : List Token = token.Punctuator (closing_punctuator c) ∷ rest in
    incremented rule name (tree_of (PreIncrement increment name) scope)
    (token.Punctuator (spelled_increment increment) ∷ token.Name name ∷ closing) rest c stack values scope functions
    refl refl (before_begins increment name closing (every_tail stack) values scope functions)
    (make rule (every_tail stack) closing _ _ (mentioned name scope) functions refl refl refl refl)

post_incremented : (increment : Increment) (name : List ℕ) → IsTaken (PostIncrement increment name)
post_incremented increment name c rest stack values scope functions =
    let rule : SemanticAction = grammar.PostfixIncrement (increment_operator increment) in
    let closing : List Token = token.Punctuator (closing_punctuator c) ∷ rest in
    incremented rule name (tree_of (PostIncrement increment name) scope)
    (token.Name name ∷ token.Punctuator (spelled_increment increment) ∷ closing) rest c stack values scope functions
    refl (no_assignment increment name)
    (behind_begins increment name closing (every_tail stack) values scope functions)
    (make rule (every_tail stack) closing _ _ (mentioned name scope) functions refl refl refl refl)

-- an assignment

assignment_begins : (o : StoreOp) (name : List ℕ) (tokens : List Token) (stack : List Item) (values : List PartialTree)
    (scope : Scope) (functions : List Definition) →
    Leads
    (at (Part grammar.Expression ∷ stack) (token.Name name ∷ token.Punctuator (store_punctuator o) ∷ tokens) values
    scope functions)
    (at (Part grammar.Expression ∷ Make (Store o) ∷ Close ∷ stack) tokens (AVariable (variable_of name scope) ∷ values)
    (mentioned name scope) functions)
assignment_begins store_op.Set name tokens stack values scope functions = record { steps = 3; leads = refl }
assignment_begins o name tokens stack values scope functions = record { steps = 3; leads = refl }

assignment : (o : StoreOp) (name : List ℕ) (e : Expression) → IsOperand e → IsTaken (Assign o name e)
assignment o name e is c rest stack values scope functions =
    let variable : PartialTree = AVariable (variable_of name scope) in
    let in_scope : Scope = mentioned name scope in
    let whole : Expr = tree_of (Assign o name e) scope in
    then _ _ _
    (assignment_begins o name (spell_part e ++ token.Punctuator (closing_punctuator c) ∷ rest) stack values scope
    functions)
    (then _ _ _ (part_alone e is c rest (Make (Store o) ∷ Close ∷ stack) (variable ∷ values) in_scope functions)
    (then _ _ _
    (make (Store o) (Close ∷ stack) (token.Punctuator (closing_punctuator c) ∷ rest) _ (AnExpr whole ∷ values)
    (behind e in_scope) functions refl refl refl refl)
    (record { steps = 1; leads = refl })))

-- a call

-- arguments after others
abbrev with_arguments : Args → Args → Args
with_arguments tree.NoMore more = more
with_arguments (tree.Argument e rest) more = tree.Argument e (with_arguments rest more)

with_no_more : (arguments : Args) → with_arguments arguments tree.NoMore ≡ arguments
with_no_more tree.NoMore = refl
with_no_more (tree.Argument e rest) = ap (tree.Argument e) (with_no_more rest)

with_one_more : (arguments : Args) (e : Expr) (more : Args) →
    with_arguments (add_argument arguments e) more ≡ with_arguments arguments (tree.Argument e more)
with_one_more tree.NoMore e more = refl
with_one_more (tree.Argument a rest) e more = ap (tree.Argument a) (with_one_more rest e more)

-- a comma or the bracket follows an argument
record Stops (tokens : List Token) : Type 0 where
  closing : Closing
  behind : List Token
  is : tokens ≡ token.Punctuator (closing_punctuator closing) ∷ behind

stops : (more : Arguments) (rest : List Token) →
    Stops (spell_more more ++ token.Punctuator punctuator.CloseRound ∷ rest)
stops NoMore rest = record { closing = Round; behind = rest; is = refl }
stops (Argument e more) rest =
    record {
      closing = Comma;
      behind = (spell_part e ++ spell_more more) ++ token.Punctuator punctuator.CloseRound ∷ rest;
      is = refl;
    }

-- one argument
passed : (e : Expression) → IsOperand e → (tokens : List Token) → Stops tokens →
    (stack : List Item) (callee : Callee) (arguments : Args) (values : List PartialTree) (scope : Scope)
    (functions : List Definition) →
    Leads
    (at (Part grammar.Expression ∷ Make AddArgument ∷ stack) (spell_part e ++ tokens) (ACall callee arguments ∷ values)
    scope
    functions)
    (at stack tokens (ACall callee (add_argument arguments (tree_of e scope)) ∷ values) (behind e scope) functions)
passed e is tokens s stack callee arguments values scope functions =
    rw s.is
    (then _ _ _
    (part_alone e is s.closing s.behind (Make AddArgument ∷ stack) (ACall callee arguments ∷ values) scope functions)
    (make AddArgument stack (token.Punctuator (closing_punctuator s.closing) ∷ s.behind) _ _ (behind e scope) functions
    refl
    refl refl refl))

-- further arguments
abbrev AreTaken : Arguments → Type 0
AreTaken more =
    (rest : List Token) (stack : List Item) (callee : Callee) (arguments : Args) (values : List PartialTree)
    (scope : Scope)
    (functions : List Definition) →
    Leads
    (at (Part MoreArguments ∷ stack) (spell_more more ++ token.Punctuator punctuator.CloseRound ∷ rest)
    (ACall callee arguments ∷ values) scope functions)
    (at stack (token.Punctuator punctuator.CloseRound ∷ rest)
    (ACall callee (with_arguments arguments (trees_of more scope)) ∷ values) (behind_arguments more scope)
    functions)

no_more : AreTaken NoMore
no_more rest stack callee arguments values scope functions =
    record { steps = 1; leads = rw (with_no_more arguments) refl }

one_more : (e : Expression) (more : Arguments) → IsOperand e → AreTaken more → AreTaken (Argument e more)
one_more e more is others rest stack callee arguments values scope functions =
    let behind_e : List Token = spell_more more ++ token.Punctuator punctuator.CloseRound ∷ rest in
    rw (
      append_assoc (spell_part e) (spell_more more) (token.Punctuator punctuator.CloseRound ∷ rest),
      sym (with_one_more arguments (tree_of e scope) (trees_of more (behind e scope))),
    )
    (then _
    (at (Part grammar.Expression ∷ Make AddArgument ∷ Part MoreArguments ∷ stack) (spell_part e ++ behind_e)
    (ACall callee arguments ∷ values) scope functions) _
    (record { steps = 2; leads = refl })
    (then _ _ _
    (passed e is behind_e (stops more rest) (Part MoreArguments ∷ stack) callee arguments values scope functions)
    (others rest stack callee (add_argument arguments (tree_of e scope)) values (behind e scope) functions)))

arguments_begin : (e : Expression) (rest : List Token) →
    choice grammar.Arguments (first (spell_part e ++ rest)) (second (spell_part e ++ rest)) ≡
    Some (Part grammar.Expression ∷ Make AddArgument ∷ Part MoreArguments ∷ [])
arguments_begin (Constant value) rest = refl
arguments_begin (Variable name) rest = refl
arguments_begin e rest = refl

-- up to the bracket after the name
call_begins : (name : List ℕ) (tokens : List Token) (stack : List Item) (values : List PartialTree) (scope : Scope)
    (functions : List Definition) →
    Leads
    (at (Part grammar.Expression ∷ stack) (token.Name name ∷ token.Punctuator punctuator.OpenRound ∷ tokens) values
    scope functions)
    (at (Part grammar.Arguments ∷ Exactly punctuator.CloseRound ∷ Make Invoke ∷ Close ∷ every_tail stack) tokens
    (ACall (callee_of name scope) tree.NoMore ∷ values) (behind_callee name scope) functions)
call_begins name tokens stack values scope functions = record { steps = 16; leads = refl }

-- from the bracket after the arguments
call_ends : (callee : Callee) (arguments : Args) (c : Closing) (rest : List Token) (stack : List Item)
    (values : List PartialTree) (scope : Scope) (functions : List Definition) →
    Leads
    (at (Exactly punctuator.CloseRound ∷ Make Invoke ∷ Close ∷ every_tail stack)
    (token.Punctuator punctuator.CloseRound ∷ token.Punctuator (closing_punctuator c) ∷ rest)
    (ACall callee arguments ∷ values) scope functions)
    (at stack (token.Punctuator (closing_punctuator c) ∷ rest) (AnExpr (tree.Call callee arguments) ∷ values) scope
    functions)
call_ends callee arguments c rest stack values scope functions =
    let above : List Item = every_tail stack in
    let tokens : List Token = token.Punctuator (closing_punctuator c) ∷ rest in
    then _ (at (Make Invoke ∷ Close ∷ above) tokens (ACall callee arguments ∷ values) scope functions) _
    (record { steps = 1; leads = refl })
    (then _ _ _
    (make Invoke (Close ∷ above) tokens _ (AnExpr (tree.Call callee arguments) ∷ values) scope functions refl refl refl
    refl)
    (then _ (at above tokens (AnExpr (tree.Call callee arguments) ∷ values) scope functions) _
    (record { steps = 1; leads = refl })
    (up binary_levels 1 c stack rest (AnExpr (tree.Call callee arguments) ∷ values) scope functions)))

call_of_none : (name : List ℕ) → IsTaken (Call name NoMore)
call_of_none name c rest stack values scope functions =
    then _ _ _
    (call_begins name (token.Punctuator punctuator.CloseRound ∷ token.Punctuator (closing_punctuator c) ∷ rest) stack
    values scope functions)
    (then _
    (at (Exactly punctuator.CloseRound ∷ Make Invoke ∷ Close ∷ every_tail stack)
    (token.Punctuator punctuator.CloseRound ∷ token.Punctuator (closing_punctuator c) ∷ rest)
    (ACall (callee_of name scope) tree.NoMore ∷ values) (behind_callee name scope) functions) _
    (record { steps = 1; leads = refl })
    (call_ends (callee_of name scope) tree.NoMore c rest stack values (behind_callee name scope) functions))

call : (name : List ℕ) (e : Expression) (more : Arguments) → IsOperand e → AreTaken more →
    IsTaken (Call name (Argument e more))
call name e more is others c rest stack values scope functions =
    let in_scope : Scope = behind_callee name scope in
    let callee : Callee = callee_of name scope in
    let close : List Token = token.Punctuator punctuator.CloseRound ∷ token.Punctuator (closing_punctuator c) ∷ rest in
    let end : List Item = Exactly punctuator.CloseRound ∷ Make Invoke ∷ Close ∷ every_tail stack in
    let inner : List Token = spell_part e ++ (spell_more more ++ close) in
    rw (
      append_assoc (spell_part e ++ spell_more more) (token.Punctuator punctuator.CloseRound ∷ [])
          (token.Punctuator (closing_punctuator c) ∷ rest),
      append_assoc (spell_part e) (spell_more more) close,
    )
    (then _ _ _ (call_begins name inner stack values scope functions)
    (then _ _ _ (part grammar.Arguments (Part grammar.Expression ∷ Make AddArgument ∷ Part MoreArguments ∷ []) end inner
    (ACall callee tree.NoMore ∷ values) in_scope functions
    (part_sound e (spell_more more ++ close)) (arguments_begin e (spell_more more ++ close)))
    (then _ _ _
    (passed e is (spell_more more ++ close) (stops more (token.Punctuator (closing_punctuator c) ∷ rest))
    (Part MoreArguments ∷ end) callee tree.NoMore values in_scope functions)
    (then _ _ _
    (others (token.Punctuator (closing_punctuator c) ∷ rest) end callee (tree.Argument (tree_of e in_scope) tree.NoMore)
    values (behind e in_scope) functions)
    (call_ends callee (tree.Argument (tree_of e in_scope) (trees_of more (behind e in_scope))) c rest stack values
    (behind_arguments more (behind e in_scope)) functions)))))

mutual
  pub taken : (e : Expression) → IsTaken e
  taken (Constant value) = part_alone (Constant value) (a_constant value)
  taken (Variable name) = part_alone (Variable name) (a_name name)
  taken (Binary o a b) = binary o a b (operand a (taken a)) (operand b (taken b))
  taken (Signed sign e) = with_sign sign e (operand e (taken e))
  taken (Assign o name e) = assignment o name e (operand e (taken e))
  taken (PreIncrement increment name) = pre_incremented increment name
  taken (PostIncrement increment name) = post_incremented increment name
  taken (Call name NoMore) = call_of_none name
  taken (Call name (Argument e more)) = call name e more (operand e (taken e)) (all_taken more)

  all_taken : (more : Arguments) → AreTaken more
  all_taken NoMore = no_more
  all_taken (Argument e more) = one_more e more (operand e (taken e)) (all_taken more)
