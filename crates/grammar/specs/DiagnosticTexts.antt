-- The texts of the diagnostics.
use Rattle.std.specs.Prelude.{ℕ, List, codes}
use Rattle.grammar.specs.declared.diagnostics.Code.{Code}
use Rattle.grammar.specs.declared.diagnostics.Code.TheVariants as fault_code

unfoldable pub text_of : Code → List ℕ
text_of fault_code.BadCharacter = codes "bad character"
text_of fault_code.CommentNotClosed = codes "comment not closed"
text_of fault_code.NameTooLong = codes "name too long"
text_of fault_code.ConstantTooLarge = codes "constant too large"
text_of fault_code.SourceTooLong = codes "source too long"
text_of fault_code.SyntaxError = codes "syntax error"
text_of fault_code.ReservedWord = codes "reserved word"
text_of fault_code.NestedTooDeeply = codes "nested too deeply"
text_of fault_code.TooManyVariables = codes "too many variables"
text_of fault_code.TooManyFunctions = codes "too many functions"
text_of fault_code.FunctionDefinedTwice = codes "function defined twice"
text_of fault_code.IntrinsicRedefined = codes "intrinsic redefined"
text_of fault_code.BadParameterDeclaration = codes "bad parameter declaration"
text_of fault_code.TooMuchCode = codes "too much code"
text_of fault_code.FunctionNotDefined = codes "function not defined"
text_of fault_code.NoMainFunction = codes "no main function"
