use Rattle.std.proofs.Common.{◌≡◌}
use Rattle.trees.specs.Laws.{told_trees}
use Rattle.room.specs.Tables.{table_within}
use Rattle.room.proofs.tables.all_needs.Given as goal

-- n functions may call one another
abbrev pub invariant-loop-round : goal.invariant-loop-round
invariant-loop-round l =
    record {
      short : l.calls.short ≡ l.initial.calls.short;
      needs : l.calls.needs ≡ table_within l.initial.calls.short (told_trees l.functions) l._round;
    }
