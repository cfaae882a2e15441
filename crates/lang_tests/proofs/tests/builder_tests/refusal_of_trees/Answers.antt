use Rattle.std.proofs.Common.{refl, false}
use Rattle.lang_tests.proofs.tests.builder_tests.refusal_of_trees.Goals as goal

pub replay-requires-clause-told_nothing : goal.replay-requires-clause-told_nothing
replay-requires-clause-told_nothing c =
    record { profile = record { instructions = 0; words = 500; frames = 64; short_circuit = false }; stood = refl }
