use Rattle.std.proofs.Common.{arith}
use Rattle.settings.proofs.NumbersLemmas.{number_within, number_refused}
use Rattle.settings.proofs.numbers.value_number.Goals as goal

pub returns-in-Ok-clause-value : goal.returns-in-Ok-clause-value
returns-in-Ok-clause-value c =
    number_within c.args.text.now c.parse.result c.in-Ok.number c.args.least c.args.most c.parse.ensures.value.0
    c.if-has_plus.ensures c.in-Ok.is
    c.if-least-number.true c.if-number-most.true

pub returns-in_default-3-clause-value : goal.returns-in_default-3-clause-value
returns-in_default-3-clause-value c =
    number_refused c.args.text.now c.parse.result c.in_default.field-0 c.args.least c.args.most c.parse.ensures.value.0
    c.if-has_plus.ensures
    c.in_default.is (omega arith)
