use Rattle.std.proofs.Common.{ℕ, ◌<◌, ◌≤◌, length, slice_index}
use Rattle.watching.proofs.counts.greatest.Given as goal

-- none of the counts so far is larger, and those before the one that was found are less
abbrev pub invariant-loop-n : goal.invariant-loop-n
invariant-loop-n l =
    (l.found < length l.counts) × ((k : ℕ) → k < l.n → slice_index l.counts k ≤ slice_index l.counts l.found)
    × ((k : ℕ) → k < l.found → slice_index l.counts k < slice_index l.counts l.found) × (l.found ≤ l.n)
