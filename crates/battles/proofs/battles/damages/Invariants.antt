use Rattle.std.proofs.Common.{◌≡◌, ◌≤◌, length}
use Rattle.std.specs.Prelude.{All}
use Rattle.arena.specs.Field.{Field}
use Rattle.arena.specs.Representing.{RepresentsField}
use Rattle.battles.specs.Battle.{damages_of}
use Rattle.battles.proofs.battles.damages.Given as goal

abbrev pub invariant-loop-robot : goal.invariant-loop-robot
invariant-loop-robot l = record {
  damages : (f : Field) → RepresentsField l.arena f → l.damages.items ≡ damages_of l.robot f;
  each : length l.damages.items ≡ l.robot;
  most : All (λ d. d ≤ 100) l.damages.items;
}
