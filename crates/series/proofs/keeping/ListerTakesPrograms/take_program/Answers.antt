use Rattle.std.proofs.Common.{sym, ◌∙◌, rules}
use Rattle.code.specs.Generation.{code_of}
use Rattle.series.proofs.keeping.ListerTakesPrograms.take_program.Goals as goal

pub returns-clause-output : goal.returns-clause-output
returns-clause-output g c p file faults reported =
    let has = c.end_code.ensures p file (rw c.pools-names.ensures reported) in
    let puts =
    rw c.pools-names.ensures at (c.put_code.ensures (code_of p file) (sym (c.addresses.ensures ∙ has.addresses))
    (sym (c.instructions.ensures.code ∙ has.instructions))) in
    search (rules, puts)

pub returns-clause-count : goal.returns-clause-count
returns-clause-count g c =
    let made = c.requires.made in
    let has = c.end_code.ensures made.profile made.file (rw c.pools-names.ensures made.reported) in
    let puts =
    c.put_code.ensures (code_of made.profile made.file) (sym (c.addresses.ensures ∙ has.addresses))
    (sym (c.instructions.ensures.code ∙ has.instructions)) in
    search (rules, puts)
