-- The listing of a file: lines, each of which ends with an LF.
use Rattle.std.specs.Prelude.{ℕ, ◌+◌, List, [], ◌∷◌, ◌++◌, codes, length, get_or}
use Rattle.std.specs.Fmt.{decimal}
use Rattle.grammar.specs.Pools.{FunctionNames, Pools}
use Rattle.code.specs.declared.instr.Instr.{Instr}
use Rattle.code.specs.Generation.{Program}
use Rattle.sinks.specs.Texts.{column}
use Rattle.listings.specs.Spelling.{instr_text}

-- the texts of members, which are numbered from this one on
abbrev pub numbered : {A : Type 0} → (ℕ → A → List ℕ) → ℕ → List A → List ℕ
numbered text n [] = []
numbered text n (x ∷ xs) = text n x ++ numbered text (n + 1) xs

unfoldable pub name_line : ℕ → List ℕ → List ℕ
name_line n name = codes "  " ++ decimal n ++ codes " " ++ name ++ codes "\n"

unfoldable pub instr_line : ℕ → Instr → List ℕ
instr_line at instr = column 5 at ++ codes " " ++ instr_text instr ++ codes "\n"

unfoldable pub externals_lines : List (List ℕ) → List ℕ
externals_lines externals =
    codes "Externals " ++ decimal (length externals) ++ codes "\n" ++ numbered name_line 0 externals

-- a function of this number at its address, and its variables
unfoldable pub function_lines : List ℕ → ℕ → FunctionNames → List ℕ
function_lines addresses number f =
    codes "Function " ++ decimal number ++ codes " " ++ f.name ++ codes " vars " ++ decimal (length f.variables)
    ++ codes " at " ++ decimal (get_or addresses number 0) ++ codes "\n" ++ numbered name_line 0 f.variables

unfoldable pub code_lines : List Instr → List ℕ
code_lines instrs = codes "Code " ++ decimal (length instrs) ++ codes "\n" ++ numbered instr_line 0 instrs

-- the listing of a program and its names, the name of the file in front
abbrev pub listing_of : List ℕ → Pools → Program → List ℕ
listing_of name names code =
    codes "File " ++ name ++ codes "\n" ++ externals_lines names.externals
    ++ numbered (function_lines code.addresses) 0 names.functions ++ code_lines code.instructions
