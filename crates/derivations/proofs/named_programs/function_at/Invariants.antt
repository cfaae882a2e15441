use Rattle.std.proofs.Common.{ℕ, ◌<◌, ◌≤◌, length, slice_index}
use Rattle.derivations.proofs.named_programs.function_at.Given as goal

-- of the functions so far that begin at the address or before, this is the last
abbrev pub invariant-loop-k : goal.invariant-loop-k
invariant-loop-k l =
    (0 < length l.addresses → l.found < length l.addresses)
    × ((k : ℕ) → k < l.k → slice_index l.addresses k ≤ l.address → slice_index l.addresses l.found ≤ l.address)
    × ((k : ℕ) → k < l.k → slice_index l.addresses k ≤ l.address
    → slice_index l.addresses k ≤ slice_index l.addresses l.found)
