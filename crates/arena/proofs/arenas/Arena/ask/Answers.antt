use Rattle.std.proofs.Common.{ap, ◌∙◌, pos, get_or, FitsSigned, w32, rules}
use Rattle.std.proofs.lemmas.Int.{to_z-of_z}
use Rattle.arena.specs.Answer.{argument_at, answer}
use Rattle.arena.specs.Arena.{Robot, motion_of, robot_of}
use Rattle.arena.proofs.Represents.{inside_if_lives}
use Rattle.arena.proofs.arenas.Arena.ask.Goals as goal

pub robot-requires : goal.robot-requires
robot-requires c = inside_if_lives c.args.self.now c.args.robot c.requires

pub robot-requires-in-Speed : goal.robot-requires-in-Speed
robot-requires-in-Speed c = inside_if_lives c.args.self.now c.args.robot c.requires

pub robot-requires-in-LocX : goal.robot-requires-in-LocX
robot-requires-in-LocX c = inside_if_lives c.args.self.now c.args.robot c.requires

pub robot-requires-in-LocY : goal.robot-requires-in-LocY
robot-requires-in-LocY c = inside_if_lives c.args.self.now c.args.robot c.requires

pub returns-in-Rand-clause-alive : goal.returns-in-Rand-clause-alive
returns-in-Rand-clause-alive c = c.draw.ensures.alive c.args.robot ∙ c.requires

pub returns-in-Scan-clause-reply : goal.returns-in-Scan-clause-reply
unfolding answer argument_at
returns-in-Scan-clause-reply c = λ f s.
    let first : FitsSigned w32 (get_or c.args.arguments 0 (pos 0)) = search rules in
    let second : FitsSigned w32 (get_or c.args.arguments 1 (pos 0)) = search rules in
    let fits : FitsSigned w32 c.scan.result = record { sfits = c.scan.type_inv } in
    rw c.in-Scan.is (simp to_z-of_z (simp to_z-of_z at (c.scan.ensures f s)))

pub returns-in-Scan-clause-stands : goal.returns-in-Scan-clause-stands
unfolding answer
returns-in-Scan-clause-stands c = λ f s. rw c.in-Scan.is s

pub returns-in-Cannon-clause-reply : goal.returns-in-Cannon-clause-reply
unfolding answer argument_at
returns-in-Cannon-clause-reply c = λ f s.
    let first : FitsSigned w32 (get_or c.args.arguments 0 (pos 0)) = search rules in
    let second : FitsSigned w32 (get_or c.args.arguments 1 (pos 0)) = search rules in
    let fits : FitsSigned w32 c.cannon.result = record { sfits = c.cannon.type_inv } in
    rw c.in-Cannon.is (simp to_z-of_z (simp to_z-of_z at (c.cannon.ensures.reply f s)))

pub returns-in-Cannon-clause-stands : goal.returns-in-Cannon-clause-stands
unfolding answer argument_at
returns-in-Cannon-clause-stands c = λ f s.
    let first : FitsSigned w32 (get_or c.args.arguments 0 (pos 0)) = search rules in
    let second : FitsSigned w32 (get_or c.args.arguments 1 (pos 0)) = search rules in
    rw c.in-Cannon.is (simp to_z-of_z at (c.cannon.ensures.stands f s))

pub returns-in-Drive-clause-reply : goal.returns-in-Drive-clause-reply
unfolding answer argument_at
returns-in-Drive-clause-reply c = λ f s.
    let fits : FitsSigned w32 c.drive.result = record { sfits = c.drive.type_inv } in
    rw c.in-Drive.is (simp to_z-of_z (c.drive.ensures.reply f s))

pub returns-in-Drive-clause-stands : goal.returns-in-Drive-clause-stands
unfolding answer argument_at
returns-in-Drive-clause-stands c = λ f s.
    let first : FitsSigned w32 (get_or c.args.arguments 0 (pos 0)) = search rules in
    let second : FitsSigned w32 (get_or c.args.arguments 1 (pos 0)) = search rules in
    rw c.in-Drive.is (simp to_z-of_z at (c.drive.ensures.stands f s))

pub returns-in-Damage-clause-reply : goal.returns-in-Damage-clause-reply
unfolding answer argument_at robot_of
returns-in-Damage-clause-reply c = λ f s.
    let fits : FitsSigned w32 c.from.result = record { sfits = c.from.type_inv } in
    rw c.in-Damage.is
    (simp to_z-of_z
    (c.from.ensures ∙ ap pos (c.damage.ensures.value ∙ ap (λ (b : Robot). b.damage) (c.robot.ensures.stands f s))))

pub returns-in-Damage-clause-stands : goal.returns-in-Damage-clause-stands
unfolding answer
returns-in-Damage-clause-stands c = λ f s. rw c.in-Damage.is s

pub returns-in-Speed-clause-reply : goal.returns-in-Speed-clause-reply
unfolding answer argument_at robot_of motion_of
returns-in-Speed-clause-reply c = λ f s.
    let fits : FitsSigned w32 c.from-in-Speed.result = record { sfits = c.from-in-Speed.type_inv } in
    rw c.in-Speed.is
    (simp to_z-of_z
    (c.from-in-Speed.ensures ∙
    ap pos (c.speed.ensures.value ∙ ap (λ (b : Robot). b.motion.speed) (c.robot-in-Speed.ensures.stands f s))))

pub returns-in-Speed-clause-stands : goal.returns-in-Speed-clause-stands
unfolding answer
returns-in-Speed-clause-stands c = λ f s. rw c.in-Speed.is s

pub returns-in-LocX-clause-reply : goal.returns-in-LocX-clause-reply
unfolding answer argument_at
returns-in-LocX-clause-reply c = λ f s.
    let fits : FitsSigned w32 c.from-in-LocX.result = record { sfits = c.from-in-LocX.type_inv } in
    rw c.in-LocX.is
    (simp to_z-of_z
    (c.from-in-LocX.ensures ∙ ap pos (c.metres_x.ensures.value _ (c.robot-in-LocX.ensures.stands f s))))

pub returns-in-LocX-clause-stands : goal.returns-in-LocX-clause-stands
unfolding answer
returns-in-LocX-clause-stands c = λ f s. rw c.in-LocX.is s

pub returns-in-LocY-clause-reply : goal.returns-in-LocY-clause-reply
unfolding answer argument_at
returns-in-LocY-clause-reply c = λ f s.
    let fits : FitsSigned w32 c.from-in-LocY.result = record { sfits = c.from-in-LocY.type_inv } in
    rw c.in-LocY.is
    (simp to_z-of_z
    (c.from-in-LocY.ensures ∙ ap pos (c.metres_y.ensures.value _ (c.robot-in-LocY.ensures.stands f s))))

pub returns-in-LocY-clause-stands : goal.returns-in-LocY-clause-stands
unfolding answer
returns-in-LocY-clause-stands c = λ f s. rw c.in-LocY.is s

pub returns-in-Rand-clause-reply : goal.returns-in-Rand-clause-reply
unfolding answer argument_at
returns-in-Rand-clause-reply c = λ f s.
    let first : FitsSigned w32 (get_or c.args.arguments 0 (pos 0)) = search rules in
    let fits : FitsSigned w32 c.draw.result = record { sfits = c.draw.type_inv } in
    rw c.in-Rand.is (simp to_z-of_z (simp to_z-of_z at (c.draw.ensures.reply f s c.args.robot)))

pub returns-in-Rand-clause-stands : goal.returns-in-Rand-clause-stands
unfolding answer argument_at
returns-in-Rand-clause-stands c = λ f s. rw c.in-Rand.is (c.draw.ensures.stands f s c.args.robot)

pub returns-in-Sqrt-clause-reply : goal.returns-in-Sqrt-clause-reply
unfolding answer argument_at
returns-in-Sqrt-clause-reply c = λ f s.
    let first : FitsSigned w32 (get_or c.args.arguments 0 (pos 0)) = search rules in
    let fits : FitsSigned w32 c.root.result = record { sfits = c.root.type_inv } in
    rw c.in-Sqrt.is (simp to_z-of_z (simp to_z-of_z at c.root.ensures.value))

pub returns-in-Sqrt-clause-stands : goal.returns-in-Sqrt-clause-stands
unfolding answer
returns-in-Sqrt-clause-stands c = λ f s. rw c.in-Sqrt.is s

pub returns-in-Sin-clause-reply : goal.returns-in-Sin-clause-reply
unfolding answer argument_at
returns-in-Sin-clause-reply c = λ f s.
    let first : FitsSigned w32 (get_or c.args.arguments 0 (pos 0)) = search rules in
    let fits : FitsSigned w32 c.sin.result = record { sfits = c.sin.type_inv } in
    rw c.in-Sin.is (simp to_z-of_z (simp to_z-of_z at c.sin.ensures.value))

pub returns-in-Sin-clause-stands : goal.returns-in-Sin-clause-stands
unfolding answer
returns-in-Sin-clause-stands c = λ f s. rw c.in-Sin.is s

pub returns-in-Cos-clause-reply : goal.returns-in-Cos-clause-reply
unfolding answer argument_at
returns-in-Cos-clause-reply c = λ f s.
    let first : FitsSigned w32 (get_or c.args.arguments 0 (pos 0)) = search rules in
    let fits : FitsSigned w32 c.cos.result = record { sfits = c.cos.type_inv } in
    rw c.in-Cos.is (simp to_z-of_z (simp to_z-of_z at c.cos.ensures.value))

pub returns-in-Cos-clause-stands : goal.returns-in-Cos-clause-stands
unfolding answer
returns-in-Cos-clause-stands c = λ f s. rw c.in-Cos.is s

pub returns-in-Tan-clause-reply : goal.returns-in-Tan-clause-reply
unfolding answer argument_at
returns-in-Tan-clause-reply c = λ f s.
    let first : FitsSigned w32 (get_or c.args.arguments 0 (pos 0)) = search rules in
    let fits : FitsSigned w32 c.tan.result = record { sfits = c.tan.type_inv } in
    rw c.in-Tan.is (simp to_z-of_z (simp to_z-of_z at c.tan.ensures))

pub returns-in-Tan-clause-stands : goal.returns-in-Tan-clause-stands
unfolding answer
returns-in-Tan-clause-stands c = λ f s. rw c.in-Tan.is s

pub returns-in-Atan-clause-reply : goal.returns-in-Atan-clause-reply
unfolding answer argument_at
returns-in-Atan-clause-reply c = λ f s.
    let first : FitsSigned w32 (get_or c.args.arguments 0 (pos 0)) = search rules in
    let fits : FitsSigned w32 c.atan.result = record { sfits = c.atan.type_inv } in
    rw c.in-Atan.is (simp to_z-of_z (simp to_z-of_z at c.atan.ensures.value))

pub returns-in-Atan-clause-stands : goal.returns-in-Atan-clause-stands
unfolding answer
returns-in-Atan-clause-stands c = λ f s. rw c.in-Atan.is s
