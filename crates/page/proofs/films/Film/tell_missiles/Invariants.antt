use Rattle.std.proofs.Common.{◌≡◌}
use Rattle.page.specs.Asking.{kept_by}
use Rattle.page.proofs.films.Film.tell_missiles.Given as goal

abbrev pub invariant-loop-slot : goal.invariant-loop-slot
invariant-loop-slot l = kept_by l.self.camera.rows ≡ kept_by l.initial.self.camera.rows
