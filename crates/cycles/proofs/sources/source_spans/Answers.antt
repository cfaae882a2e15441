use Rattle.cycles.proofs.Files.{spans_are}
use Rattle.cycles.proofs.sources.source_spans.Goals as goal

pub returns-in-Ok-clause-spans : goal.returns-in-Ok-clause-spans
returns-in-Ok-clause-spans g c =
    spans_are c.args.asked c.args.profile _ c.new-maker.result c.parse.new.build c.in_ok-_names._names c.in-Ok.spans
    c.new-maker.ensures c.in_ok-_names.ensures.file c.in-Ok.ensures
