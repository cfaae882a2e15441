-- Streaks: calls from one place in a row.
use Rattle.std.specs.Prelude.{◌+◌}
use Rattle.std.specs.Int.{int_min, int_max}
use Rattle.watching.specs.declared.streaks.Call.{Call}
use Rattle.watching.specs.declared.streaks.Streak.{Streak}

-- a streak of one call
abbrev pub streak_of : Call → Streak
streak_of call = record {
  first = call;
  last = call.cycle;
  count = 1;
  least = call.reply;
  most = call.reply;
}

-- a streak with one call more
abbrev pub with_call : Streak → Call → Streak
with_call streak call = record streak {
  last = call.cycle;
  count = streak.count + 1;
  least = int_min streak.least call.reply;
  most = int_max streak.most call.reply;
}
