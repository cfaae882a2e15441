use Rattle.std.proofs.Common.{[]}
use Rattle.grammar.specs.Actions.{actions}
use Rattle.series_tests.proofs.tests.replay_tests.replayed.Goals as goal

-- the trees are reported to a maker that represented nothing
pub finish-requires : goal.finish-requires
finish-requires c =
    let file = c.in-Ok.ensures.file in
    record {
      profile = _;
      file = file.file;
      reported = record {
        resolved = file.resolved;
        stands =
            c.in-Ok-replay.ensures.ok _ (actions file.file) (file.built _ c.new-trees.ensures) _ [] c.new-maker.ensures;
        named = file.named;
        main = file.main;
      };
    }
