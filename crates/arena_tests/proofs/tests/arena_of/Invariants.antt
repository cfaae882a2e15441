use Rattle.std.proofs.Common.{◌≡◌, length, All}
use Rattle.arena.specs.Placed.{IsPlace}
use Rattle.arena_tests.proofs.tests.arena_of.Given as goal

abbrev pub invariant-loop-x : goal.invariant-loop-x
invariant-loop-x l = record {
  count : length l.list.items ≡ l.x-index;
  inside : All IsPlace l.list.items;
}
