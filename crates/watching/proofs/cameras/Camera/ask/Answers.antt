use Rattle.std.proofs.Common.{rules, sym, subst, append-nil, FitsSigned, w32}
use Rattle.std.proofs.lemmas.Int.{to_z-of_z}
use Rattle.std.specs.Prelude.{◌&&◌}
use Rattle.watching.specs.Heard.{asked_heard, is_first_scan}
use Rattle.watching.proofs.Hearing.{nothing_else}
use Rattle.watching.proofs.cameras.Camera.ask.Goals as goal

pub returns-in-Cannon-clause-heard : goal.returns-in-Cannon-clause-heard
unfolding asked_heard
returns-in-Cannon-clause-heard g c = λ events f stands heard.
    let fits : FitsSigned w32 c.args.question.reply = search rules in
    rw c.in-Cannon.is (rw (to_z-of_z w32 _ fits) at (c.shoot.ensures.heard events f stands heard))

pub returns-in-Scan-clause-heard : goal.returns-in-Scan-clause-heard
unfolding asked_heard
returns-in-Scan-clause-heard g c = λ events f stands heard.
    let fits : FitsSigned w32 c.args.question.reply = search rules in
    rw c.in-Scan.is (rw (to_z-of_z w32 _ fits) at (c.scan.ensures.heard events heard))

pub returns-in-Drive : goal.returns-in-Drive
returns-in-Drive g c = record {
  heard = λ events f stands heard.
      let question = c.args.question in
      rw (nothing_else c.args.turn.cycle c.args.turn.robot question.intrinsic question.arguments question.reply f
      (is_first_scan c.args.self.now.seen c.args.turn.robot
      &&
      g.R.Listener.shows c.args.self.now.rows c.args.turn.cycle c.args.turn.robot) c.in-Drive.is)
      (subst (g.R.Listener.heard c.args.self.now.rows) (sym (append-nil events)) heard);
  kept = search rules;
}
