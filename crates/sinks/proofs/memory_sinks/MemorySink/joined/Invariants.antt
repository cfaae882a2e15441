use Rattle.std.proofs.Common.{◌≡◌, take, map}
use Rattle.std.specs.List.{concat}
use Rattle.sinks.proofs.memory_sinks.MemorySink.joined.Given as goal

-- the portions so far are joined
abbrev pub invariant-loop-portion : goal.invariant-loop-portion
invariant-loop-portion l = l.joined.items ≡ concat (map (λ portion. portion.items) (take l.portion-index l.portions))
