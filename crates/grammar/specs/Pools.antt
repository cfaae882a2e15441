-- The names of a file by number, as a parse returns them.
use Rattle.std.specs.Prelude.{ℕ, List, map}
use Rattle.grammar.specs.Tree.{Function, File}

-- of its variables the parameters come first
pub record FunctionNames : Type 0 where
  pub name : List ℕ
  pub parameters : ℕ
  pub variables : List (List ℕ)

pub record Pools : Type 0 where
  pub externals : List (List ℕ)
  pub functions : List FunctionNames

abbrev pub names_of_function : Function → FunctionNames
names_of_function f = record { name = f.name; parameters = f.parameters; variables = f.variables }

abbrev pub pools_of : File → Pools
pools_of file = record { externals = file.externals; functions = map names_of_function file.functions }
