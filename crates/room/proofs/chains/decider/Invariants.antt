use Rattle.std.specs.Prelude.{ℕ}
use Rattle.room.specs.Chains.{Decides}
use Rattle.room.proofs.ChainLaws.{IsLeft}
use Rattle.room.proofs.chains.decider.Given as goal

-- what decides is left
abbrev pub invariant-loop-callee : goal.invariant-loop-callee
invariant-loop-callee l =
    (j : ℕ) → Decides l.measure l.calls l.functions l.caller j → IsLeft l.functions l.callee-index j
