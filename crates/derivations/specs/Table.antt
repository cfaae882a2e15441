-- The symbols and items of the code, as those of the grammar's table.
use Rattle.grammar.specs.Grammar as table
use Rattle.derivations.specs.declared.symbols.Role.{Role}
use Rattle.derivations.specs.declared.symbols.Role.TheVariants as role
use Rattle.derivations.specs.declared.symbols.Symbol.{Symbol}
use Rattle.derivations.specs.declared.symbols.Symbol.TheVariants as symbol
use Rattle.derivations.specs.declared.symbols.SemanticAction.{SemanticAction}
use Rattle.derivations.specs.declared.symbols.SemanticAction.TheVariants as semantic_action
use Rattle.derivations.specs.declared.symbols.Item.{Item}
use Rattle.derivations.specs.declared.symbols.Item.TheVariants as item

abbrev pub role_of : Role → table.Role
role_of role.Defined = table.Defined
role_of role.External = table.External
role_of role.Parameter = table.Parameter
role_of role.Typed = table.Typed
role_of role.Local = table.Local
role_of role.Called = table.Called
role_of role.Mentioned = table.Mentioned

abbrev pub symbol_of : Symbol → table.Symbol
symbol_of symbol.Source = table.Source
symbol_of symbol.Types = table.Types
symbol_of symbol.Head = table.Head
symbol_of (symbol.More r) = table.More (role_of r)
symbol_of symbol.Parameters = table.Parameters
symbol_of symbol.ParameterTypes = table.ParameterTypes
symbol_of symbol.FunctionBlock = table.FunctionBlock
symbol_of symbol.Block = table.Block
symbol_of symbol.Declarations = table.Declarations
symbol_of symbol.Statements = table.Statements
symbol_of symbol.Statement = table.Statement
symbol_of symbol.ElsePart = table.ElsePart
symbol_of symbol.Back = table.Back
symbol_of symbol.Expression = table.Expression
symbol_of (symbol.Level n) = table.Level n
symbol_of (symbol.Tail n) = table.Tail n
symbol_of symbol.Unary = table.Unary
symbol_of symbol.Primary = table.Primary
symbol_of symbol.Arguments = table.Arguments
symbol_of symbol.MoreArguments = table.MoreArguments

abbrev pub action_of : SemanticAction → table.SemanticAction
action_of (semantic_action.Operate o) = table.Operate o
action_of semantic_action.Negate = table.Negate
action_of semantic_action.Not = table.Not
action_of semantic_action.Complement = table.Complement
action_of semantic_action.Fetch = table.Fetch
action_of (semantic_action.Store o) = table.Store o
action_of (semantic_action.PrefixIncrement o) = table.PrefixIncrement o
action_of (semantic_action.PostfixIncrement o) = table.PostfixIncrement o
action_of semantic_action.Pass = table.AddArgument
action_of semantic_action.Invoke = table.Invoke
action_of semantic_action.Empty = table.Empty
action_of semantic_action.Evaluate = table.Evaluate
action_of semantic_action.Decide = table.Decide
action_of semantic_action.DecideElse = table.DecideElse
action_of semantic_action.Repeat = table.Repeat
action_of semantic_action.Zero = table.Zero
action_of semantic_action.GiveBack = table.GiveBack
action_of semantic_action.Define = table.Define

abbrev pub item_of : Item → table.Item
item_of (item.Exactly m) = table.Exactly m
item_of (item.AKeyword w) = table.AKeyword w
item_of (item.Naming r) = table.AName (role_of r)
item_of item.Number = table.AConstant
item_of item.Ending = table.AnEnd
item_of (item.Part s) = table.Part (symbol_of s)
item_of (item.Make a) = table.Make (action_of a)
item_of item.Close = table.Close
