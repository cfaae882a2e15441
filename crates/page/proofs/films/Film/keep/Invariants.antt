use Rattle.std.proofs.Common.{◌≡◌}
use Rattle.page.proofs.films.Film.keep.Given as goal

abbrev pub invariant-loop-slot : goal.invariant-loop-slot
invariant-loop-slot l = l.self.camera ≡ l.initial.self.camera
