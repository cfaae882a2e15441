use Rattle.std.proofs.Common.{◌≡◌, false, take}
use Rattle.std.specs.List.{All}
use Rattle.arena.specs.Collisions.{is_close}
use Rattle.arena.proofs.collisions.is_close_to_any.Given as goal

-- none so far is close
abbrev pub invariant-loop-other : goal.invariant-loop-other
invariant-loop-other l = All (λ other. is_close l.mover other ≡ false) (take l.other-index l.others)
