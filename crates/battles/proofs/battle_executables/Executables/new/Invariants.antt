use Rattle.std.proofs.Common.{◌≡◌, length, map, take}
use Rattle.std.specs.Prelude.{flat_map}
use Rattle.std.specs.Option.{option_to_list}
use Rattle.battles.specs.Pairing.{paired}
use Rattle.battles.specs.Programs.{AllSome}
use Rattle.battles.proofs.battle_executables.Executables.new.Given as goal

abbrev pub invariant-loop-robot : goal.invariant-loop-robot
invariant-loop-robot l = record {
  all : length l.exes.items ≡ l.robot;
  some : AllSome l.exes.items;
  found : map (λ e. e.program) (flat_map option_to_list l.exes.items) ≡ take l.robot (paired l.programs);
}
