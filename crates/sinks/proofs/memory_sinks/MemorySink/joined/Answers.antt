use Rattle.std.proofs.Common.{◌∙◌, ap, sym, List, ℕ, ◌++◌}
use Rattle.sinks.proofs.PortionsLemmas.{joined_more}
use Rattle.sinks.proofs.memory_sinks.MemorySink.joined.Goals as goal

pub loop-portion-preserved : goal.loop-portion-preserved
loop-portion-preserved c =
    c.in_ok-extend_from_slice.ensures.items
    ∙ ap (λ (bytes : List ℕ). bytes ++ c.as_slice.result.now) c.loop-portion.invariant
    ∙ rw c.as_slice.ensures.value
    (sym
    (joined_more (λ portion. portion.items) c.portions-portions.result.now c.loop-portion.portion-index
    c.portion-item.result c.loop-portion-test.true c.portion-item.is))
