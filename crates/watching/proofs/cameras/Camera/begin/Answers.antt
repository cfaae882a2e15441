use Rattle.std.proofs.Common.{rules, ◌≡◌, length, min, arith}
use Rattle.watching.proofs.cameras.Camera.begin.Goals as goal

pub returns-clause-heard : goal.returns-clause-heard
returns-clause-heard g c = λ events f stands heard.
    let all : min c.robot_count-self.result (length f.robots) ≡ length f.robots =
    omega (arith, c.robot_count-self.ensures.stands f stands) in
    rw all at (c.look.ensures.heard events f stands heard)
