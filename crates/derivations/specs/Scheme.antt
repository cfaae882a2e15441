-- The translation scheme as the code has it: it knows no numbers of names and no constants, and has 0 for each.
use Rattle.std.specs.Prelude.{pos, Bool, true, false, List, [], ◌∷◌, Option, Some, None, map, option_map, if◌then◌else◌}
use Rattle.tokens.specs.declared.located_tokens.Token.{Token}
use Rattle.grammar.specs.declared.actions.Action.{Action}
use Rattle.grammar.specs.declared.actions.Action.TheVariants as action
use Rattle.grammar.specs.declared.operators.StoreOp.TheVariants as store_op
use Rattle.grammar.specs.declared.resolved_names.Callee.TheVariants as callee
use Rattle.grammar.specs.declared.resolved_names.Var.TheVariants as var
use Rattle.grammar.specs.Derivation.{PartialTree, AnExpr, AVariable, ACall, name_of_token, constant_value}
use Rattle.grammar.specs.Grammar as table
use Rattle.grammar.specs.Grammar.{is_lexical_error}
use Rattle.grammar.specs.Scope.{no_names}
use Rattle.grammar.specs.Tree as tree
use Rattle.grammar_laws.specs.Emission.{on_choice, on_name, on_body, on_constant, on_rule}
use Rattle.derivations.specs.Table.{item_of}
use Rattle.derivations.specs.declared.emissions.Origin.{Origin}
use Rattle.derivations.specs.declared.emissions.Origin.TheVariants as origin
use Rattle.derivations.specs.declared.symbols.Item.{Item}

abbrev pub blank_variable : PartialTree
blank_variable = AVariable (var.Local 0)

-- trees that an action fits, with 0 for each number
abbrev pub blank_trees : table.SemanticAction → List PartialTree
blank_trees table.Fetch = blank_variable ∷ []
blank_trees (table.Store o) = AnExpr (tree.Constant (pos 0)) ∷ blank_variable ∷ []
blank_trees (table.PrefixIncrement o) = blank_variable ∷ []
blank_trees (table.PostfixIncrement o) = blank_variable ∷ []
blank_trees table.Invoke = ACall (callee.Function 0) tree.NoMore ∷ []
blank_trees rule = []

-- the action with 0 for each number of a name and each constant, and a store by any operator
abbrev pub blank : Action → Action
blank (action.PushConstant value) = action.PushConstant (pos 0)
blank (action.FetchVariable v) = action.FetchVariable (var.Local 0)
blank (action.StoreVariable v o) = action.StoreVariable (var.Local 0) store_op.Set
blank (action.EndCall f) = action.EndCall (callee.Function 0)
blank (action.BeginFunction number parameters) = action.BeginFunction 0 0
blank (action.EndFunction variables) = action.EndFunction 0
blank act = act

-- as a tree is made
abbrev pub blank_rule : table.SemanticAction → List table.Item → List Action
blank_rule table.Empty stack = on_body stack
blank_rule rule stack = map blank (on_rule rule [] (blank_trees rule) 0)

-- other than that of a binary operator or a body
abbrev pub is_on_rule : table.SemanticAction → Bool
is_on_rule (table.Operate o) = false
is_on_rule table.Empty = false
is_on_rule rule = true

-- by the item in front and the next token, if it is no lexical error
abbrev pub blank_item : List table.Item → Token → List Action
blank_item (table.Part symbol ∷ stack) next = on_choice symbol next no_names
blank_item (table.AName role ∷ stack) next = on_name role (name_of_token next)
blank_item (table.AConstant ∷ stack) next = on_constant (option_map (λ n. 0) (constant_value next))
blank_item (table.Make rule ∷ stack) next = blank_rule rule stack
blank_item stack next = []

-- what a step emits
abbrev pub blank_emitted : List table.Item → Token → List Action
blank_emitted stack next = if is_lexical_error next then [] else blank_item stack next

-- the token that it comes from, by the item in front
abbrev pub origin_of : table.Item → Origin
origin_of (table.Make (table.Store o)) = origin.AfterChosen
origin_of (table.Make (table.PostfixIncrement o)) = origin.AfterChosen
origin_of (table.Make table.Evaluate) = origin.Passed
origin_of (table.Make table.Define) = origin.Next
origin_of (table.Make rule) = origin.Chosen
origin_of item = origin.Next

-- the items that are known of those after the one in front
abbrev pub known_items : List (Option Item) → List table.Item
known_items [] = []
known_items (None ∷ others) = []
known_items (Some item ∷ others) = item_of item ∷ known_items others
