use Rattle.std.proofs.Common.{ap}
use Rattle.sinks.specs.MemorySinks.{MemorySink}
use Rattle.listings.proofs.Texts.{all_taken}
use Rattle.listings.proofs.instructions.instruction_text.Goals as goal

pub returns-in-Ok : goal.returns-in-Ok
returns-in-Ok c =
    let took = c.in-Ok.ensures.0 in
    let nothing = ap (λ (sink : MemorySink). sink.portions) c.new-sink.ensures in
    rw (all_taken _ _ took.portions _ nothing took.taken took.joined) at c.joined.ensures
