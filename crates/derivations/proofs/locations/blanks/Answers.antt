use Rattle.std.proofs.Common.{List, ℕ, ap, arith, length-drop, ◌∙◌}
use Rattle.tokens.specs.InputElement.{input_element}
use Rattle.derivations.specs.Columns.{blank_length}
use Rattle.derivations.proofs.Placing.{all_left, counted_all, counted_more, counted_none, none_counted}
use Rattle.derivations.proofs.locations.blanks.Goals as goal

pub loop-blank-init : goal.loop-blank-init
loop-blank-init c = record { within = omega arith; counted = none_counted c.args.bytes.now }

pub returns-then-count-lt1-clause-value : goal.returns-then-count-lt1-clause-value
returns-then-count-lt1-clause-value c =
    counted_none c.args.bytes.now c.loop-blank._blank c.loop-blank.passed c.blank-count.result
    (c.blank-count.ensures.value
    ∙
    ap (λ (l : List ℕ). blank_length (input_element l)) (all_left c.args.bytes.now c.loop-blank.passed))
    (omega arith) c.loop-blank.invariant.counted

pub overflow_add-passed : goal.overflow_add-passed
overflow_add-passed c =
    omega (arith, c.blank-count.ensures.most, length-drop c.loop-blank.passed c.args.bytes.now)

pub loop-blank-preserved : goal.loop-blank-preserved
loop-blank-preserved c = record {
  within = omega (arith, c.blank-count.ensures.most, length-drop c.loop-blank.passed c.args.bytes.now);
  counted = counted_more c.args.bytes.now c.loop-blank._blank c.loop-blank.passed c.blank-count.result (omega arith)
      (c.blank-count.ensures.value
      ∙
      ap (λ (l : List ℕ). blank_length (input_element l)) (all_left c.args.bytes.now c.loop-blank.passed))
      c.loop-blank.invariant.counted;
}

pub returns-clause-value : goal.returns-clause-value
returns-clause-value c =
    counted_all c.args.bytes.now c.loop-blank._blank c.loop-blank.passed (omega arith) c.loop-blank.invariant.counted
