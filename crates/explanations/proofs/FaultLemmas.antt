-- How long the first line on a diagnostic is at most.
use Rattle.std.proofs.Common.{ℕ, ◌^◌, ◌<◌, ◌≤◌, ◌++◌, ◌∷◌, [], length, decimal, length-append, arith, rules}
use Rattle.std.proofs.lemmas.Fmt.{length-decimal-le}
use Rattle.grammar.specs.DiagnosticTexts.{text_of}
use Rattle.grammar.specs.declared.diagnostics.Code.{Code}
use Rattle.grammar.specs.declared.diagnostics.Code.TheVariants as code
use Rattle.explanations.specs.Faults.{position}

pub position_short : (line column : ℕ) → line < 2 ^ 32 → column < 2 ^ 32 → length (position line column) ≤ 23
position_short line column small narrow =
    let first = length-decimal-le 10 line (search rules) (omega (arith, small)) (omega (arith, small)) in
    let second = length-decimal-le 10 column (search rules) (omega (arith, narrow)) (omega (arith, narrow)) in
    omega (
      arith,
      first,
      second,
      length-append (decimal line) (58 ∷ (decimal column ++ (58 ∷ 32 ∷ []))),
      length-append (decimal column) (58 ∷ 32 ∷ []),
    )

pub text_short : (c : Code) → length (text_of c) ≤ 100
unfolding text_of
text_short code.BadCharacter = search rules
text_short code.CommentNotClosed = search rules
text_short code.NameTooLong = search rules
text_short code.ConstantTooLarge = search rules
text_short code.SourceTooLong = search rules
text_short code.SyntaxError = search rules
text_short code.ReservedWord = search rules
text_short code.NestedTooDeeply = search rules
text_short code.TooManyVariables = search rules
text_short code.TooManyFunctions = search rules
text_short code.FunctionDefinedTwice = search rules
text_short code.IntrinsicRedefined = search rules
text_short code.BadParameterDeclaration = search rules
text_short code.TooMuchCode = search rules
text_short code.FunctionNotDefined = search rules
text_short code.NoMainFunction = search rules
