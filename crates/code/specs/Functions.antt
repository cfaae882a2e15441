-- A file's functions by number.
use Rattle.std.specs.Prelude.{ℕ, [], slice_index_or}
use Rattle.grammar.specs.Tree.{Done, Function, File}

abbrev pub no_function : Function
no_function = record { name = []; parameters = 0; variables = []; body = Done }

abbrev pub function_at : File → ℕ → Function
function_at file number = slice_index_or file.functions number no_function
