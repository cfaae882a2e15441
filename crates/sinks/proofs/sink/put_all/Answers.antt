use Rattle.std.proofs.Common.{rules, ap, ◌∙◌}
use Rattle.sinks.specs.Portions.{SinkState}
use Rattle.sinks.proofs.PortionsLemmas.{one_more, one_call}
use Rattle.sinks.proofs.sink.put_all.Goals as goal

pub loop-rest-preserved : goal.loop-rest-preserved
loop-rest-preserved g c = (
  one_more _ _ _ _ c.loop-rest.rest.now c.in_ok-n.n c.loop-rest.invariant.0
      (ap (λ (w : SinkState). w.portions) c.in_ok-n.ensures.takes.taken),
  ap (λ (w : SinkState). w.failures) c.in_ok-n.ensures.takes.taken ∙ c.loop-rest.invariant.1,
  one_call _ _ _ _ c.loop-rest.rest.now c.in_ok-n.n c.loop-rest.invariant.2 (search rules)
      c.in_ok-n.ensures.takes.whole (ap (λ (w : SinkState). w.portions) c.in_ok-n.ensures.takes.taken),
)
