use Rattle.std.proofs.Common.{◌≡◌, length, take}
use Rattle.watching.specs.Played.{codes_of}
use Rattle.watching.proofs.pilot.pilots.Given as goal

-- the pilots of the programs so far
abbrev pub invariant-loop-program : goal.invariant-loop-program
invariant-loop-program l = (codes_of l.pilots.items ≡ take l.program-index l.programs)
    × (length l.pilots.items ≡ l.program-index)
