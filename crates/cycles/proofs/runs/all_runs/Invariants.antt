use Rattle.std.proofs.Common.{◌≡◌, take}
use Rattle.cycles.specs.Tables.{rows_in}
use Rattle.cycles.proofs.runs.all_runs.Given as goal

abbrev pub invariant-loop-function : goal.invariant-loop-function
invariant-loop-function l = l.rows.items ≡ rows_in l.cycles l.questions (take l.function-index l.maker.functions)
