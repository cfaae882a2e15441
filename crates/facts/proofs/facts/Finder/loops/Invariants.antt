use Rattle.std.specs.Prelude.{◌≡◌, map, take}
use Rattle.facts.specs.Facts.{cycles_of_turn, cycles_told}
use Rattle.facts.proofs.facts.Finder.loops.Given as goal

-- the loops so far
abbrev pub invariant-loop-index : goal.invariant-loop-index
invariant-loop-index l = map cycles_told l.parts.items ≡ map (cycles_of_turn l.self.names.now) (take l.index l.turns)
