-- What is known of functions' runs while trees are gone through.
use Rattle.std.specs.Prelude.{◌≡◌, ℕ, List, [], ◌∷◌, map, nat_lt, slice_index_or, if◌then◌else◌, ◌==◌}
use Rattle.grammar.specs.Tree.{Body, Done}
use Rattle.trees.specs.Trees.{body_tree}
use Rattle.trees.specs.declared.tree.Function.{Function}
use Rattle.cycles.specs.declared.runs.Run.{Run}
use Rattle.cycles.specs.declared.runs.Runs.{Runs}
use Rattle.cycles.specs.declared.spans.Span.{Span}
use Rattle.cycles.specs.Told.{told}

-- the run that a table has for a number
abbrev pub run_in : Runs → ℕ → Span
run_in table k = slice_index_or table.spans k table.other

-- the table has these runs as they are reported
pub record HasRuns (table : Runs) (runs : ℕ → Span) : Type 0 where
  pub each : (k : ℕ) → run_in table k ≡ told (runs k)

-- what tables of cycles and of questions have for a function
abbrev pub row_in : Runs → Runs → Function → Run
row_in cycles questions f =
    record { function = f.number; cycles = run_in cycles f.number; questions = run_in questions f.number }

-- and for functions
abbrev pub rows_in : Runs → Runs → List Function → List Run
rows_in cycles questions fs = map (row_in cycles questions) fs

-- the statements of the first function of this number
abbrev pub first_numbered : List Function → ℕ → Body
first_numbered [] k = Done
first_numbered (f ∷ fs) k = if f.number == k then body_tree f.body.items else first_numbered fs k

-- The statements of the function of this number, which is a byte. A number that no function has stands for no
-- statements.
abbrev pub body_numbered : List Function → ℕ → Body
body_numbered functions k = if nat_lt k 256 then first_numbered functions k else Done
