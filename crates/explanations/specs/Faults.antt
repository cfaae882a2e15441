-- What is said first of a fault: its position, and the text of its diagnostic.
use Rattle.std.specs.Prelude.{ℕ, ◌≡◌, ◌++◌, ◌∷◌, [], List, decimal}
use Rattle.grammar.specs.DiagnosticTexts.{text_of}
use Rattle.grammar.specs.declared.diagnostics.Diagnostic.{Diagnostic}

-- a line and a column, each with a colon behind it, and a space
abbrev pub position : ℕ → ℕ → List ℕ
position line column = decimal line ++ (58 ∷ (decimal column ++ (58 ∷ 32 ∷ [])))

-- the first line on a diagnostic at this column, as crobots writes it, but for the column
abbrev pub first_line : Diagnostic → ℕ → List ℕ
first_line diagnostic column = position diagnostic.line column ++ (text_of diagnostic.code ++ (10 ∷ []))

-- a note begins with the line on this diagnostic
pub record IsOn (diagnostic : Diagnostic) (note : List ℕ) : Type 0 where
  pub column : ℕ
  pub reason : List ℕ
  pub is : note ≡ first_line diagnostic column ++ reason
