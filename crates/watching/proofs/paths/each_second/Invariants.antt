use Rattle.std.proofs.Common.{◌≡◌, ◌*◌, ◌<◌, ℕ, length}
use Rattle.std.specs.Prelude.{slice_get}
use Rattle.watching.proofs.paths.each_second.Given as goal

-- each second place so far is kept
abbrev pub invariant-loop-n : goal.invariant-loop-n
invariant-loop-n l =
    (length l.kept.items ≡ l.n) × ((m : ℕ) → m < l.n → slice_get l.kept.items m ≡ slice_get l.places (2 * m))
