use Rattle.std.proofs.Common.{◌≡◌}
use Rattle.page.specs.Asking.{kept_by}
use Rattle.page.proofs.films.Film.tell_border.Given as goal

abbrev pub invariant-loop-robot : goal.invariant-loop-robot
invariant-loop-robot l = kept_by l.self.camera.rows ≡ kept_by l.initial.self.camera.rows
