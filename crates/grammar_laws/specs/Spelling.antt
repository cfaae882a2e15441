-- How expressions and statements are spelled: each compound part in brackets, each body in braces.
use Rattle.std.specs.Prelude.{List, [], ◌∷◌, ◌++◌, codes}
use Rattle.tokens.specs.declared.located_tokens.Punctuator.{Punctuator}
use Rattle.tokens.specs.declared.located_tokens.Punctuator.TheVariants as punctuator
use Rattle.tokens.specs.declared.located_tokens.Token.{Token}
use Rattle.tokens.specs.declared.located_tokens.Token.TheVariants as token
use Rattle.tokens.specs.declared.located_tokens.Keyword.TheVariants as keyword
use Rattle.grammar.specs.Operators.{binary_punctuator, store_punctuator}
use Rattle.grammar_laws.specs.Written.{Sign, Minus, Not, Tilde, Increment, Up, Down, Expression, Constant, Variable, Binary}
use Rattle.grammar_laws.specs.Written.{Signed, Assign, PreIncrement, PostIncrement, Call, Arguments, NoMore, Argument}
use Rattle.grammar_laws.specs.Written.{Statement, Nothing, Evaluate, If, IfElse, While, Return, ReturnValue, Block}
use Rattle.grammar_laws.specs.Written.{Statements, Done, Next}

abbrev pub sign_punctuator : Sign → Punctuator
sign_punctuator Minus = punctuator.Minus
sign_punctuator Not = punctuator.Not
sign_punctuator Tilde = punctuator.Tilde

abbrev pub spelled_increment : Increment → Punctuator
spelled_increment Up = punctuator.PlusPlus
spelled_increment Down = punctuator.MinusMinus

-- ( .. )
abbrev pub brackets : List Token → List Token
brackets tokens = token.Punctuator punctuator.OpenRound ∷ (tokens ++ token.Punctuator punctuator.CloseRound ∷ [])

-- { .. }
abbrev pub braces : List Token → List Token
braces tokens = token.Punctuator punctuator.OpenCurly ∷ (tokens ++ token.Punctuator punctuator.CloseCurly ∷ [])

-- an expression, spelled by these tokens, as a part of a larger one: a constant or a variable has no brackets
abbrev pub as_part : Expression → List Token → List Token
as_part (Constant value) tokens = tokens
as_part (Variable name) tokens = tokens
as_part e tokens = brackets tokens

-- an expression's tokens: its parts are spelled as parts, the whole has no brackets of its own
abbrev mutual
  pub spell : Expression → List Token
  spell (Constant value) = token.Constant value ∷ []
  spell (Variable name) = token.Name name ∷ []
  spell (Binary o a b) = as_part a (spell a) ++ token.Punctuator (binary_punctuator o) ∷ as_part b (spell b)
  spell (Signed sign e) = token.Punctuator (sign_punctuator sign) ∷ as_part e (spell e)
  spell (Assign o name e) = token.Name name ∷ token.Punctuator (store_punctuator o) ∷ as_part e (spell e)
  spell (PreIncrement increment name) = token.Punctuator (spelled_increment increment) ∷ token.Name name ∷ []
  spell (PostIncrement increment name) = token.Name name ∷ token.Punctuator (spelled_increment increment) ∷ []
  spell (Call name NoMore) = token.Name name ∷ brackets []
  spell (Call name (Argument e rest)) = token.Name name ∷ brackets (as_part e (spell e) ++ spell_more rest)

  -- further arguments, a comma before each
  pub spell_more : Arguments → List Token
  spell_more NoMore = []
  spell_more (Argument e rest) = token.Punctuator punctuator.Comma ∷ (as_part e (spell e) ++ spell_more rest)

-- ( condition )
abbrev pub condition : Expression → List Token
condition c = brackets (spell c)

-- .. ;
abbrev pub closed : List Token → List Token
closed tokens = tokens ++ token.Punctuator punctuator.Semicolon ∷ []

-- a statement's tokens: each body, of one statement too, in braces
abbrev mutual
  pub spell_statement : Statement → List Token
  spell_statement Nothing = token.Punctuator punctuator.Semicolon ∷ []
  spell_statement (Evaluate e) = closed (spell e)
  spell_statement (If c body) = token.Keyword keyword.If ∷ (condition c ++ braces (spell_statements body))
  spell_statement (IfElse c body other) =
      token.Keyword keyword.If ∷ (condition c ++ (braces (spell_statements body)
      ++ token.Keyword keyword.Else ∷ braces (spell_statements other)))
  spell_statement (While c body) = token.Keyword keyword.While ∷ (condition c ++ braces (spell_statements body))
  spell_statement Return = token.Keyword keyword.Return ∷ token.Punctuator punctuator.Semicolon ∷ []
  spell_statement (ReturnValue e) = token.Keyword keyword.Return ∷ closed (spell e)
  spell_statement (Block body) = braces (spell_statements body)

  pub spell_statements : Statements → List Token
  spell_statements Done = []
  spell_statements (Next s rest) = spell_statement s ++ spell_statements rest

-- main ( ) { .. }, and the end
abbrev pub in_main : List Token → List Token
in_main tokens = token.Name (codes "main") ∷ (brackets [] ++ (braces tokens ++ token.End ∷ []))
