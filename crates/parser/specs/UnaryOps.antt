-- The unary operators: their punctuators, the actions around the operand's, and the trees that they make.
use Rattle.std.specs.Prelude.{pos, negsuc, List, [], ◌∷◌}
use Rattle.tokens.specs.declared.located_tokens.Punctuator.{Punctuator}
use Rattle.tokens.specs.declared.located_tokens.Punctuator.TheVariants as punctuator
use Rattle.arith.specs.declared.operators.Op.TheVariants as op
use Rattle.grammar.specs.declared.operators.StoreOp.{StoreOp}
use Rattle.grammar.specs.declared.operators.StoreOp.TheVariants as store_op
use Rattle.grammar.specs.declared.actions.Action.{Action}
use Rattle.grammar.specs.declared.actions.Action.TheVariants.{ApplyBinop, Chop, FetchVariable, PushConstant, StoreVariable}
use Rattle.grammar.specs.declared.resolved_names.Var.{Var}
use Rattle.grammar.specs.Grammar.{SemanticAction, Complement, Negate, Not}
use Rattle.grammar.specs.Tree.{Expr, Binary, Constant}
use Rattle.parser.specs.declared.unary_ops.UnaryOp.{UnaryOp}
use Rattle.parser.specs.declared.unary_ops.UnaryOp.TheVariants as unary_op
use Rattle.parser.specs.declared.unary_ops.IncrementOp.{IncrementOp}
use Rattle.parser.specs.declared.unary_ops.IncrementOp.TheVariants as increment_op

abbrev pub unary_punctuator : UnaryOp → Punctuator
unary_punctuator unary_op.Negation = punctuator.Minus
unary_punctuator unary_op.Denial = punctuator.Not
unary_punctuator unary_op.Complement = punctuator.Tilde

abbrev pub unary_action : UnaryOp → SemanticAction
unary_action unary_op.Negation = Negate
unary_action unary_op.Denial = Not
unary_action unary_op.Complement = Complement

-- -e is 0 - e, !e is e == 0, ~e is e ^ -1
abbrev pub unary_tree : UnaryOp → Expr → Expr
unary_tree unary_op.Negation e = Binary op.Subtract (Constant (pos 0)) e
unary_tree unary_op.Denial e = Binary op.Equal e (Constant (pos 0))
unary_tree unary_op.Complement e = Binary op.BitXor e (Constant (negsuc 0))

abbrev pub actions_before_operand : UnaryOp → List Action
actions_before_operand unary_op.Negation = PushConstant (pos 0) ∷ []
actions_before_operand s = []

abbrev pub actions_after_operand : UnaryOp → List Action
actions_after_operand unary_op.Negation = ApplyBinop op.Subtract ∷ []
actions_after_operand unary_op.Denial = PushConstant (pos 0) ∷ ApplyBinop op.Equal ∷ []
actions_after_operand unary_op.Complement = PushConstant (negsuc 0) ∷ ApplyBinop op.BitXor ∷ []

-- ++ and --
abbrev pub increment_punctuator : IncrementOp → Punctuator
increment_punctuator increment_op.Increment = punctuator.PlusPlus
increment_punctuator increment_op.Decrement = punctuator.MinusMinus

abbrev pub increment_store_op : IncrementOp → StoreOp
increment_store_op increment_op.Increment = store_op.Add
increment_store_op increment_op.Decrement = store_op.Subtract

-- before a variable: it is changed, and its value is the new one
abbrev pub prefix_actions : IncrementOp → Var → List Action
prefix_actions s v = PushConstant (pos 1) ∷ StoreVariable v (increment_store_op s) ∷ []

-- after a variable: the value is the one before
abbrev pub postfix_actions : IncrementOp → Var → List Action
postfix_actions s v = FetchVariable v ∷ PushConstant (pos 1) ∷ StoreVariable v (increment_store_op s) ∷ Chop ∷ []
