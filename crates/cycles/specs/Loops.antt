-- The loops of statements, and a row for each.
use Rattle.std.specs.Prelude.{ℕ, List, [], ◌∷◌, ◌++◌, map}
use Rattle.grammar.specs.Tree.{Expr, Body, Done, ExpressionStatement, IfStatement, IfElseStatement, While, Return}
use Rattle.trees.specs.Trees.{body_tree}
use Rattle.trees.specs.declared.tree.Function.{Function}
use Rattle.cycles.specs.declared.runs.Runs.{Runs}
use Rattle.cycles.specs.declared.spans.Span.{Span}
use Rattle.cycles.specs.declared.loops.Turn.{Turn}
use Rattle.cycles.specs.Told.{told_end}
use Rattle.cycles.specs.Turns.{turn_of}

-- a loop: its test and its statements
pub record Loop : Type 0 where
  pub test : Expr
  pub statements : Body

-- the loops, each before those inside it and those after it, as they begin in the source
abbrev pub loops_of : Body → List Loop
loops_of Done = []
loops_of (ExpressionStatement e next) = loops_of next
loops_of (IfStatement c s next) = loops_of s ++ loops_of next
loops_of (IfElseStatement c s t next) = loops_of s ++ (loops_of t ++ loops_of next)
loops_of (While c s next) = record { test = c; statements = s } ∷ (loops_of s ++ loops_of next)
loops_of (Return e next) = loops_of next

-- the row of a loop of this function: its cycles and its questions, with the run of each function by number
abbrev pub row_of : Runs → Runs → (cycles questions : ℕ → Span) → ℕ → Loop → Turn
row_of c q cycles questions function l = record {
  function = function;
  cycles = told_end (turn_of c.counted c.profile cycles l.test l.statements);
  questions = told_end (turn_of q.counted q.profile questions l.test l.statements);
}

-- a row for each loop of statements
abbrev pub rows_of : Runs → Runs → (cycles questions : ℕ → Span) → ℕ → Body → List Turn
rows_of c q cycles questions function b = map (row_of c q cycles questions function) (loops_of b)

-- and for each loop of functions
abbrev pub all_rows : Runs → Runs → (cycles questions : ℕ → Span) → List Function → List Turn
all_rows c q cycles questions [] = []
all_rows c q cycles questions (f ∷ fs) =
    rows_of c q cycles questions f.number (body_tree f.body.items) ++ all_rows c q cycles questions fs
