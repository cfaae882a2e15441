use Rattle.std.proofs.Common.{◌≡◌, slice_index_or, ◌∙◌, arith}
use Rattle.std.proofs.lemmas.Grind.{common_steps}
use Rattle.arena.specs.Field.{no_robot}
use Rattle.arena.specs.Arena.{robot_of}
use Rattle.arena.proofs.Represents.{body_at}
use Rattle.arena.proofs.arenas.Arena.robot.Goals as goal

pub returns-clause-stands : goal.returns-clause-stands
returns-clause-stands c = λ f s.
    let v : c.index-deref-robot.result ≡ slice_index_or c.args.self.now.robots c.args.robot (robot_of no_robot) =
    grind (arith, common_steps) in
    v ∙ body_at c.args.self.now f c.args.robot s
