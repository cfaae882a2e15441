use Rattle.std.proofs.Common.{◌∙◌, ap, arith, length, map}
use Rattle.std.proofs.lemmas.List.{length-set}
use Rattle.facts.specs.Facts.{cycles_told}
use Rattle.facts.proofs.PartLaws.{same_cycles}
use Rattle.facts.proofs.facts.note_turns.Goals as goal
use Rattle.facts.proofs.facts.note_turns.Goals.{in-Some, in_default}

pub loop-index-preserved : goal.loop-index-preserved
loop-index-preserved c =
    elim c.match-get.branch [
      | in-Some w ↦
          record {
            long = ap length w.parts-is ∙ length-set c.loop-index.parts c.loop-index.index w.noted.result ∙
                c.loop-index.invariant.long;
            same =
                ap (map cycles_told) w.parts-is
                ∙
                same_cycles c.loop-index.parts c.args.parts.now c.loop-index.index w.index-parts-index.result
                w.noted.result
                (omega (arith, c.loop-index-test.true, c.loop-index.invariant.long)) w.index-parts-index.is
                w.noted.ensures
                c.loop-index.invariant.same;
          }
      | in_default w ↦
          record {
            long = ap length w.parts-is ∙ c.loop-index.invariant.long;
            same = ap (map cycles_told) w.parts-is ∙ c.loop-index.invariant.same;
          }
    ]
