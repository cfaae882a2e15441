use Rattle.std.proofs.Common.{List, ℕ, ap, arith, length-drop, sym, ◌∙◌}
use Rattle.tokens.specs.InputElement.{up_to_close}
use Rattle.derivations.proofs.Placing.{all_left, comment_closed, comment_open, none_alone, none_opens, nothing_left, one_blank}
use Rattle.derivations.proofs.locations.blank.Goals as goal

pub returns-then-size-lt1-clause-value : goal.returns-then-size-lt1-clause-value
returns-then-size-lt1-clause-value c = nothing_left c.args.bytes.now (omega arith)

pub returns-then-is_blank-clause-value : goal.returns-then-is_blank-clause-value
returns-then-is_blank-clause-value c =
    one_blank c.args.bytes.now (omega arith) (sym c.is_blank.ensures ∙ c.if-is_blank.true)

pub returns-then-size-lt2-clause-value : goal.returns-then-size-lt2-clause-value
returns-then-size-lt2-clause-value c =
    none_alone c.args.bytes.now (omega arith) (sym c.is_blank.ensures ∙ c.if-is_blank.false)

pub returns-then-not-opens-clause-value : goal.returns-then-not-opens-clause-value
returns-then-not-opens-clause-value c =
    none_opens c.args.bytes.now (omega arith) (sym c.is_blank.ensures ∙ c.if-is_blank.false)
    (sym c.opens.ensures ∙ c.if-not-opens.true)

pub overflow_add-result : goal.overflow_add-result
overflow_add-result c = omega (arith, length-drop 2 c.args.bytes.now, c.in-Some.ensures.most)

pub returns-in-Some-clause-value : goal.returns-in-Some-clause-value
returns-in-Some-clause-value c =
    comment_closed c.args.bytes.now c.in-Some.count (omega arith) (sym c.opens.ensures ∙ c.if-not-opens.false)
    (c.in-Some.ensures.value ∙ ap (λ (l : List ℕ). up_to_close l) (all_left c.args.bytes.now 2))

pub returns-in-Some-clause-most : goal.returns-in-Some-clause-most
returns-in-Some-clause-most c = omega (arith, length-drop 2 c.args.bytes.now, c.in-Some.ensures.most)

pub returns-in-None-clause-value : goal.returns-in-None-clause-value
returns-in-None-clause-value c =
    comment_open c.args.bytes.now (omega arith) (sym c.opens.ensures ∙ c.if-not-opens.false)
    (c.in-None.ensures.value ∙ ap (λ (l : List ℕ). up_to_close l) (all_left c.args.bytes.now 2))
