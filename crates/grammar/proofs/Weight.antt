-- How many more steps a derivation can make at most.
use Rattle.std.specs.Prelude.{ℕ, ◌+◌, ◌-◌, ◌*◌, List, [], ◌∷◌, length}
use Rattle.grammar.specs.Derivation.{State}
use Rattle.grammar.specs.Grammar.{Item, AnEnd, Part, Make, Close, Symbol, Source, Types, Head, More, Parameters, ParameterTypes, FunctionBlock, Block, Declarations, Statements, Statement, ElsePart, Back, Expression, Level, Tail, Unary, Primary, Arguments, MoreArguments, unary_level}

-- each item costs a step; the end's makes up for what follows it, and of two symbols for the semantic action that is
-- all they push
abbrev pub cost : Item → ℕ
cost AnEnd = 41
cost (Part Source) = 60
cost (Part ElsePart) = 2
cost (Part Back) = 2
cost item = 1

abbrev pub costs : List Item → ℕ
costs [] = 0
costs (item ∷ stack) = cost item + costs stack

-- what the symbol in front may push before a token is matched; a symbol that may be empty has the most
abbrev pub credit_of : Symbol → ℕ
credit_of Source = 10
credit_of Types = 40
credit_of Head = 10
credit_of (More role) = 40
credit_of Parameters = 40
credit_of ParameterTypes = 40
credit_of FunctionBlock = 10
credit_of Block = 10
credit_of Declarations = 40
credit_of Statements = 40
credit_of Statement = 38
credit_of ElsePart = 40
credit_of Back = 40
credit_of Expression = 34
credit_of (Level n) = 10 + 2 * (unary_level - n)
credit_of (Tail n) = 40
credit_of Unary = 9
credit_of Primary = 7
credit_of Arguments = 40
credit_of MoreArguments = 40

abbrev pub credit : List Item → ℕ
credit [] = 0
credit (Part symbol ∷ stack) = credit_of symbol
credit (Make rule ∷ stack) = 40
credit (Close ∷ stack) = 40
credit (item ∷ stack) = 0

abbrev pub weight : State → ℕ
weight s = 40 * length s.rest + costs s.stack + credit s.stack
