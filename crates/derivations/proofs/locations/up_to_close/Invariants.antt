use Rattle.std.proofs.Common.{◌≡◌, drop}
use Rattle.tokens.specs.InputElement.{up_to_close}
use Rattle.derivations.proofs.Placing.{behind, closed_from}
use Rattle.derivations.proofs.locations.up_to_close.Given as goal

abbrev pub invariant-loop-i : goal.invariant-loop-i
invariant-loop-i l = up_to_close l.inside ≡ behind l.i (closed_from l.is_star (drop l.i l.inside))
