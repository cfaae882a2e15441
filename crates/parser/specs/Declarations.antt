-- The items of lists of names, of declarations and of a function's header, by what the names are declared as.
use Rattle.std.specs.Prelude.{List, [], ◌∷◌}
use Rattle.tokens.specs.declared.located_tokens.Punctuator.TheVariants as punctuator
use Rattle.tokens.specs.declared.located_tokens.Keyword.TheVariants as keyword
use Rattle.grammar.specs.Grammar.{Item, AName, AKeyword, Exactly, Part}
use Rattle.grammar.specs.Grammar.{Symbol, Declarations, Defined, More, ParameterTypes, Parameters, Types}
use Rattle.parser.specs.Roles.{role_of}
use Rattle.parser.specs.declared.roles.Declared.{Declared}
use Rattle.parser.specs.declared.roles.Declared.TheVariants as kind

-- locals at the beginning of a block, and parameters after their list
abbrev pub IsInFunction : Declared → Type 0
IsInFunction kind.Locals = Unit {0}
IsInFunction kind.TypedParameters = Unit {0}
IsInFunction declared = ⊥

abbrev pub declarations_of : Declared → Symbol
declarations_of kind.TypedParameters = ParameterTypes
declarations_of declared = Declarations

-- name more ;
abbrev pub names_items : Declared → List Item
names_items declared = AName (role_of declared) ∷ Part (More (role_of declared)) ∷ Exactly punctuator.Semicolon ∷ []

-- type types name more ;
abbrev pub declaration_items : Declared → List Item
declaration_items declared = AKeyword keyword.Type ∷ Part Types ∷ names_items declared

-- name ( params ) pdecls
abbrev pub header_items : List Item
header_items =
    AName Defined ∷ Exactly punctuator.OpenRound ∷ Part Parameters ∷ Exactly punctuator.CloseRound
    ∷ Part ParameterTypes ∷ []
