use Rattle.std.proofs.Common.{arith, rules}
use Rattle.sinks.proofs.TextsLemmas.{name_from}
use Rattle.sinks.proofs.texts.file_name.Goals as goal
use Rattle.sinks.proofs.texts.file_name.Goals.{then-loop-start-test+else-word-start-ne47, else-loop-start-test}

pub returns : goal.returns
returns c = name_from c.args.word.now c.loop-start.start c.loop-start.invariant.0 c.loop-start.invariant.1
    (elim c.loop-start-test.branch [
      | then-loop-start-test+else-word-start-ne47 w ↦ λ some. search rules
      | else-loop-start-test w ↦ λ some. absurd (omega arith)
    ])
