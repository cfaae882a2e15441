-- What `choice` adds to the plain grammar: the semantic actions in each production, and the role of its names.
use Prim.Native.String.{String}
use Rattle.std.specs.Prelude.{◌≡◌, ◌≤◌, ◌&&◌, ◌||◌, ℕ, ◌+◌, List, [], ◌∷◌, ◌++◌, length, replicate, Bool, Option, Some}
use Rattle.std.specs.Prelude.{None, codes, if◌then◌else◌, option_map}
use Rattle.std.specs.Fmt.{decimal}
use Rattle.std.specs.Str.{bytes_eq}
use Rattle.tokens.specs.Punctuators.{spelling}
use Rattle.tokens.specs.declared.located_tokens.Punctuator.TheVariants as punctuator
use Rattle.tokens.specs.declared.located_tokens.Keyword.{Keyword}
use Rattle.tokens.specs.declared.located_tokens.Keyword.TheVariants as word
use Rattle.tokens.specs.declared.located_tokens.Token.{Token}
use Rattle.tokens.specs.declared.located_tokens.Token.TheVariants as token
use Rattle.arith.specs.declared.operators.Op.TheVariants as op
use Rattle.grammar.specs.declared.operators.StoreOp.TheVariants as store_op
use Rattle.grammar.specs.Grammar.{Role, Defined, External, Parameter, Typed, Local, Called, Mentioned, Symbol, Source}
use Rattle.grammar.specs.Grammar.{Types, Head, More, Parameters, ParameterTypes, FunctionBlock, Block, Declarations}
use Rattle.grammar.specs.Grammar.{Statements, Statement, ElsePart, Back, Expression, Level, Tail, Unary, Primary}
use Rattle.grammar.specs.Grammar.{Arguments, MoreArguments, Operate, Negate, Not, Complement, Fetch, Store, PrefixIncrement}
use Rattle.grammar.specs.Grammar.{PostfixIncrement, AddArgument, Invoke, Empty, Evaluate, Decide, DecideElse, Repeat, Zero, GiveBack}
use Rattle.grammar.specs.Grammar.{Define, Item, Exactly, AKeyword, AName, AConstant, AnEnd, Part, Make, Close, Production}
use Rattle.grammar.specs.Grammar.{choice, binary_levels, unary_level}
use Rattle.grammar_laws.specs.Productions.{Row, rows}

-- a symbol, a production of it, and its semantic actions, each after this many words; `Close` is one of them
abbrev pub ActionRow : Type 0
ActionRow = String × String × List (ℕ × Item)

-- any other production has none
abbrev pub action_rows : List ActionRow
action_rows =
    ("body", "{ decls stmts }", (1, Make Empty) ∷ (3, Make Define) ∷ (4, Close) ∷ [])
    ∷ ("block", "{ decls stmts }", (4, Close) ∷ [])
    ∷ ("stmt", "if ( expr ) stmt elsepart", (4, Make Empty) ∷ (6, Close) ∷ [])
    ∷ ("stmt", "while ( expr ) stmt", (4, Make Empty) ∷ (5, Make Repeat) ∷ (5, Close) ∷ [])
    ∷ ("stmt", "return back ;", (3, Make GiveBack) ∷ [])
    ∷ ("stmt", "expr ;", (2, Make Evaluate) ∷ [])
    ∷ ("elsepart", "else stmt", (1, Make Empty) ∷ (2, Make DecideElse) ∷ [])
    ∷ ("elsepart", "", (0, Make Decide) ∷ [])
    ∷ ("back", "", (0, Make Zero) ∷ [])
    ∷ ("expr", "name = expr", (3, Make (Store store_op.Set)) ∷ (3, Close) ∷ [])
    ∷ ("expr", "name += expr", (3, Make (Store store_op.Add)) ∷ (3, Close) ∷ [])
    ∷ ("expr", "name -= expr", (3, Make (Store store_op.Subtract)) ∷ (3, Close) ∷ [])
    ∷ ("expr", "name *= expr", (3, Make (Store store_op.Multiply)) ∷ (3, Close) ∷ [])
    ∷ ("expr", "name /= expr", (3, Make (Store store_op.Divide)) ∷ (3, Close) ∷ [])
    ∷ ("expr", "name %= expr", (3, Make (Store store_op.Remainder)) ∷ (3, Close) ∷ [])
    ∷ ("expr", "name <<= expr", (3, Make (Store store_op.ShiftLeft)) ∷ (3, Close) ∷ [])
    ∷ ("expr", "name >>= expr", (3, Make (Store store_op.ShiftRight)) ∷ (3, Close) ∷ [])
    ∷ ("expr", "name &= expr", (3, Make (Store store_op.BitAnd)) ∷ (3, Close) ∷ [])
    ∷ ("expr", "name ^= expr", (3, Make (Store store_op.BitXor)) ∷ (3, Close) ∷ [])
    ∷ ("expr", "name |= expr", (3, Make (Store store_op.BitOr)) ∷ (3, Close) ∷ [])
    ∷ ("tail1", "|| level2 tail1", (2, Make (Operate op.Or)) ∷ [])
    ∷ ("tail2", "&& level3 tail2", (2, Make (Operate op.And)) ∷ [])
    ∷ ("tail3", "| level4 tail3", (2, Make (Operate op.BitOr)) ∷ [])
    ∷ ("tail4", "^ level5 tail4", (2, Make (Operate op.BitXor)) ∷ [])
    ∷ ("tail5", "& level6 tail5", (2, Make (Operate op.BitAnd)) ∷ [])
    ∷ ("tail6", "== level7 tail6", (2, Make (Operate op.Equal)) ∷ [])
    ∷ ("tail6", "!= level7 tail6", (2, Make (Operate op.NotEqual)) ∷ [])
    ∷ ("tail7", "< level8 tail7", (2, Make (Operate op.Less)) ∷ [])
    ∷ ("tail7", "> level8 tail7", (2, Make (Operate op.Greater)) ∷ [])
    ∷ ("tail7", "<= level8 tail7", (2, Make (Operate op.LessOrEqual)) ∷ [])
    ∷ ("tail7", ">= level8 tail7", (2, Make (Operate op.GreaterOrEqual)) ∷ [])
    ∷ ("tail8", "<< level9 tail8", (2, Make (Operate op.ShiftLeft)) ∷ [])
    ∷ ("tail8", ">> level9 tail8", (2, Make (Operate op.ShiftRight)) ∷ [])
    ∷ ("tail9", "+ level10 tail9", (2, Make (Operate op.Add)) ∷ [])
    ∷ ("tail9", "- level10 tail9", (2, Make (Operate op.Subtract)) ∷ [])
    ∷ ("tail10", "* level11 tail10", (2, Make (Operate op.Multiply)) ∷ [])
    ∷ ("tail10", "/ level11 tail10", (2, Make (Operate op.Divide)) ∷ [])
    ∷ ("tail10", "% level11 tail10", (2, Make (Operate op.Remainder)) ∷ [])
    ∷ ("unary", "- unary", (2, Make Negate) ∷ (2, Close) ∷ [])
    ∷ ("unary", "! unary", (2, Make Not) ∷ (2, Close) ∷ [])
    ∷ ("unary", "~ unary", (2, Make Complement) ∷ (2, Close) ∷ [])
    ∷ ("unary", "++ name", (2, Make (PrefixIncrement store_op.Add)) ∷ [])
    ∷ ("unary", "-- name", (2, Make (PrefixIncrement store_op.Subtract)) ∷ [])
    ∷ ("primary", "name ( args )", (4, Make Invoke) ∷ (4, Close) ∷ [])
    ∷ ("primary", "name ++", (2, Make (PostfixIncrement store_op.Add)) ∷ [])
    ∷ ("primary", "name --", (2, Make (PostfixIncrement store_op.Subtract)) ∷ [])
    ∷ ("primary", "name", (1, Make Fetch) ∷ [])
    ∷ ("primary", "( expr )", (3, Close) ∷ [])
    ∷ ("args", "expr moreargs", (1, Make AddArgument) ∷ [])
    ∷ ("moreargs", ", expr moreargs", (2, Make AddArgument) ∷ [])
    ∷ []

-- what the names in a production of this symbol are there for, if this token is after the next
abbrev pub role_in_production : Symbol → Token → Role
role_in_production Source after = Defined
role_in_production Head (token.Punctuator punctuator.OpenRound) = Defined
role_in_production Head after = External
role_in_production (More role) after = role
role_in_production Parameters after = Parameter
role_in_production ParameterTypes after = Typed
role_in_production Declarations after = Local
role_in_production Primary (token.Punctuator punctuator.OpenRound) = Called
role_in_production symbol after = Mentioned

-- how the rows name keywords, symbols and tokens
abbrev pub keyword : Keyword → List ℕ
keyword word.If = codes "if"
keyword word.Else = codes "else"
keyword word.While = codes "while"
keyword word.Return = codes "return"
keyword word.Type = codes "type"
keyword word.Refused = codes "refused"

abbrev pub of_symbol : Symbol → List ℕ
of_symbol Source = codes "source"
of_symbol Types = codes "types"
of_symbol Head = codes "head"
of_symbol (More role) = codes "more"
of_symbol Parameters = codes "params"
of_symbol ParameterTypes = codes "pdecls"
of_symbol FunctionBlock = codes "body"
of_symbol Block = codes "block"
of_symbol Declarations = codes "decls"
of_symbol Statements = codes "stmts"
of_symbol Statement = codes "stmt"
of_symbol ElsePart = codes "elsepart"
of_symbol Back = codes "back"
of_symbol Expression = codes "expr"
of_symbol (Level n) = codes "level" ++ decimal n
of_symbol (Tail n) = codes "tail" ++ decimal n
of_symbol Unary = codes "unary"
of_symbol Primary = codes "primary"
of_symbol Arguments = codes "args"
of_symbol MoreArguments = codes "moreargs"

abbrev pub of_token : Token → List ℕ
of_token (token.Name name) = codes "name"
of_token (token.Keyword w) = keyword w
of_token (token.Constant value) = codes "constant"
of_token (token.Punctuator m) = spelling m
of_token token.End = codes "end"
of_token (token.Fault lexical_error) = codes "fault"

abbrev pub and_space : List ℕ → List ℕ
and_space [] = []
and_space rest = codes " " ++ rest

-- a production's words, with spaces between; a semantic action has none
abbrev pub in_words : List Item → List ℕ
in_words [] = []
in_words (Exactly m ∷ items) = spelling m ++ and_space (in_words items)
in_words (AKeyword w ∷ items) = keyword w ++ and_space (in_words items)
in_words (AName role ∷ items) = codes "name" ++ and_space (in_words items)
in_words (AConstant ∷ items) = codes "constant" ++ and_space (in_words items)
in_words (AnEnd ∷ items) = codes "end" ++ and_space (in_words items)
in_words (Part symbol ∷ items) = of_symbol symbol ++ and_space (in_words items)
in_words (Make action ∷ items) = in_words items
in_words (Close ∷ items) = in_words items

-- whether a row is for any token, for the next one, or for it and the one after it
abbrev pub fits : List ℕ → Token → Token → Bool
fits lookahead next after = bytes_eq lookahead (codes "other") || bytes_eq lookahead (of_token next)
    || bytes_eq lookahead (of_token next ++ codes " " ++ of_token after)

-- the production of this symbol's first row that fits
abbrev pub found : List ℕ → Token → Token → List Row → Option (List ℕ)
found symbol next after [] = None
found symbol next after (row ∷ rows) =
    if bytes_eq symbol (codes row.0) && fits (codes row.1) next after then Some (codes row.2)
    else found symbol next after rows

-- the semantic actions that the rows have for this production of the symbol
abbrev pub found_actions : List ℕ → List ActionRow → List ℕ → List (ℕ × Item)
found_actions symbol [] production = []
found_actions symbol (row ∷ rows) production =
    if bytes_eq symbol (codes row.0) && bytes_eq production (codes row.1) then row.2
    else found_actions symbol rows production

-- the semantic actions in these items of a production, which come after its first n words
abbrev pub actions_after : ℕ → List Item → List (ℕ × Item)
actions_after n [] = []
actions_after n (Make action ∷ items) = (n, Make action) ∷ actions_after n items
actions_after n (Close ∷ items) = (n, Close) ∷ actions_after n items
actions_after n (item ∷ items) = actions_after (n + 1) items

-- what the names in a production are there for
abbrev pub roles_in : List Item → List Role
roles_in [] = []
roles_in (AName role ∷ items) = role ∷ roles_in items
roles_in (Part (More role) ∷ items) = role ∷ roles_in items
roles_in (item ∷ items) = roles_in items

-- the symbols that the rows have: all levels from 1 on, and the tails of those of binary operators
abbrev pub IsSymbol : Symbol → Type 0
IsSymbol (Level n) = (1 ≤ n) × (n ≤ unary_level)
IsSymbol (Tail n) = (1 ≤ n) × (n ≤ binary_levels)
IsSymbol symbol = Unit

-- the plain production that the next token and the one after it choose
abbrev pub plain : Symbol → Token → Token → Option (List ℕ)
plain symbol next after = found (of_symbol symbol) next after rows

-- without its semantic actions, what `choice` answers is the plain production
abbrev pub ChoosesRows : Type 0
ChoosesRows = (symbol : Symbol) (next after : Token) → IsSymbol symbol
    → option_map in_words (choice symbol next after) ≡ plain symbol next after

-- the semantic actions of what `choice` answers are those of the plain production
abbrev pub ActsByRows : Type 0
ActsByRows = (symbol : Symbol) (next after : Token) → IsSymbol symbol
    → option_map (actions_after 0) (choice symbol next after)
    ≡ option_map (found_actions (of_symbol symbol) action_rows) (plain symbol next after)

abbrev pub roles_of : Production → List Role
roles_of None = []
roles_of (Some items) = roles_in items

-- the names in what `choice` answers are there for what `role_in_production` says
abbrev pub HasOneRole : Type 0
HasOneRole = (symbol : Symbol) (next after : Token) → let roles = roles_of (choice symbol next after) in
    roles ≡ replicate (length roles) (role_in_production symbol after)
