-- The eight entries are the definition's round from the degree on.
use Rattle.std.proofs.Common.{ap, ◌∙◌, map, arith}
use Rattle.std.specs.List.{range_with_len}
use Rattle.arith.proofs.CircleLemmas.{eight_are, round_sine}
use Rattle.arith.proofs.tables.round_entries.Goals as goal

pub returns : goal.returns
returns c =
    eight_are c.from.result (omega arith) ∙ ap (λ i. map round_sine (range_with_len i 8)) c.from.ensures
