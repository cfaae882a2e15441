use Rattle.cycles.specs.declared.counted.Counted.TheVariants.{Cycles}
use Rattle.cycles.specs.Runs.{run_span}
use Rattle.cycles.proofs.Files.{has_rows, runs_are}
use Rattle.cycles.proofs.sources.spans_of.Goals as goal

pub returns : goal.returns
returns c = λ file resolved same.
    let p = c.args.profile in
    let asked = c.args.asked in
    let made = c.args.maker.now.functions in
    let knows = runs_are file resolved made same c.of-cycles.result Cycles p c.of-cycles.ensures.runs in
    let answers = runs_are file resolved made same c.of-questions.result asked p c.of-questions.ensures.runs in
    has_rows asked p file resolved made same c.of-cycles.result c.of-questions.result knows answers
    c.of-cycles.ensures.counted c.of-cycles.ensures.profile c.of-questions.ensures.counted
    c.of-questions.ensures.profile
    (record { runs = c.in_ok-all_runs.field-0; turns = c.in_ok-turns.field-0 }) c.in_ok-all_runs.ensures
    (c.in_ok-turns.ensures (run_span Cycles p file) (run_span asked p file) knows answers)
