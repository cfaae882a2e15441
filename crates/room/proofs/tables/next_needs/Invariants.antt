use Rattle.std.proofs.Common.{◌≡◌, drop}
use Rattle.trees.specs.Laws.{told_trees}
use Rattle.room.specs.Tables.{blank, entered, needs_in}
use Rattle.room.proofs.tables.next_needs.Given as goal

-- the functions from here on are still to be entered
abbrev pub invariant-loop-function : goal.invariant-loop-function
invariant-loop-function l =
    entered l.calls.short (needs_in l.calls.needs) (told_trees (drop l.function-index l.functions)) l.needs ≡
    entered l.calls.short (needs_in l.calls.needs) (told_trees l.functions) blank
