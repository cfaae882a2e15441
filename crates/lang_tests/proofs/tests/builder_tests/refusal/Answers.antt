use Rattle.std.proofs.Common.{refl, false}
use Rattle.lang_tests.proofs.tests.builder_tests.refusal.Goals as goal

pub parse-requires-clause-new : goal.parse-requires-clause-new
parse-requires-clause-new c =
    record { profile = record { instructions = 0; words = 500; frames = 64; short_circuit = false }; stands = refl }
