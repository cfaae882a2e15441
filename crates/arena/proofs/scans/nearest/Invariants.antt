use Rattle.std.proofs.Common.{◌≡◌, take, map}
use Rattle.std.specs.List.{filter}
use Rattle.arena.specs.Field.{Field, robot_at}
use Rattle.arena.specs.Collisions.{others}
use Rattle.arena.specs.Scan.{sees}
use Rattle.arena.specs.Nearer.{IsLeast, IsSquare, square_to}
use Rattle.arena.specs.Arena.{robot_of}
use Rattle.arena.proofs.scans.nearest.Given as goal

-- the nearest of the others so far
abbrev pub invariant-loop-i : goal.invariant-loop-i
invariant-loop-i l = record {
  square : IsSquare l.nearest;
  nearest : (field : Field) → l.robots ≡ map robot_of field.robots →
      IsLeast l.nearest
      (map (square_to (robot_at field l.robot))
      (filter (sees (robot_at field l.robot) l.degree l.resolution) (others (take l.i field.robots) l.robot)));
}
