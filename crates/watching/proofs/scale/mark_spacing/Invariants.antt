use Rattle.std.proofs.Common.{◌≡◌, ◌*◌, ◌<◌, ◌≤◌}
use Rattle.watching.specs.Rounds.{round_number}
use Rattle.watching.proofs.Rounding.{AreSmall}
use Rattle.watching.proofs.scale.mark_spacing.Given as goal

-- the powers of ten so far, twice and five times as much were too small
abbrev pub invariant-loop : goal.invariant-loop
invariant-loop l = record {
  some : 1 ≤ l.power;
  power : l.counter < 10 → l.power ≡ round_number (3 * l.counter);
  small : AreSmall l.cycles l.most (3 * l.counter);
}
