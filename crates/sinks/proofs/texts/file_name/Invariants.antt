use Rattle.std.proofs.Common.{◌≡◌, ℕ, ◌<◌, ◌≤◌, length, get_or}
use Rattle.sinks.proofs.texts.file_name.Given as goal

-- no byte from here on is a `/`
abbrev pub invariant-loop-start : goal.invariant-loop-start
invariant-loop-start l =
    (l.start ≤ length l.word) × ((k : ℕ) → l.start ≤ k → k < length l.word → get_or l.word k 0 ≡ 47 → ⊥)

abbrev pub decreases-loop-start : goal.decreases-loop-start
decreases-loop-start l = l.start
