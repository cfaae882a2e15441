use Rattle.std.proofs.Common.{ℕ, ◌<◌, length}
use Rattle.arena.proofs.Touches.{AreApart}
use Rattle.arena.proofs.collisions.any_are_close.Given as goal

-- those so far are apart from all after them
abbrev pub invariant-loop-i : goal.invariant-loop-i
invariant-loop-i l = (a b : ℕ) → a < l.i → a < b → b < length l.movers → AreApart l.movers a b
