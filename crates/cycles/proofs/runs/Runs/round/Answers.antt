use Rattle.std.proofs.Common.{◌∙◌, arith, refl}
use Rattle.cycles.specs.Ends.{passed}
use Rattle.cycles.proofs.Tables.{none_numbered, same_for_each}
use Rattle.cycles.proofs.runs.Runs.round.Goals as goal

pub loop-index-init : goal.loop-index-init
loop-index-init c = record {
  within = omega arith;
  size = refl;
  so_far =
      λ runs known k below. same_for_each 256 k c.run_of-other.result
      ∙ c.run_of-other.ensures passed c.passed.ensures
      ∙ none_numbered c.args.self.now.counted c.args.self.now.profile runs c.args.functions.now k;
}
