use Rattle.std.proofs.Common.{◌≡◌, ℕ, ◌<◌, false}
use Rattle.std.specs.Prelude.{not, ◌&&◌, ◌==◌, nat_lt}
use Rattle.arena.specs.Field.{Field}
use Rattle.arena.specs.Outlook.{taken_by}
use Rattle.arena.specs.Representing.{RepresentsField}
use Rattle.watching.proofs.hits.hurts_another.Given as goal

-- none of the robots so far is another one that is hurt
abbrev pub invariant-loop-other : goal.invariant-loop-other
invariant-loop-other l = (f : Field) → RepresentsField l.arena f → (k : ℕ) → k < l.other
    → (not (k == l.burst.robot) && nat_lt 0 (taken_by f k l.burst)) ≡ false
