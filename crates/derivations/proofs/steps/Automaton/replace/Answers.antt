use Rattle.std.proofs.Common.{sym, ◌∙◌}
use Rattle.derivations.specs.Positions.{mark}
use Rattle.derivations.proofs.Replacing.{items_done, items_grow, marks_done, marks_grow}
use Rattle.derivations.proofs.steps.Automaton.replace.Goals as goal

pub loop-i-preserved : goal.loop-i-preserved
loop-i-preserved c = record {
  items = items_grow c.items-items.result.now c.loop-i.i c.loop-i.self.stack.items
      c.push.new.self.stack.items c.take_front.new.self.stack.items _ c.loop-i-test.true
      (sym c.from_end.ensures ∙ c.in-Some.is)
      (c.push.ensures.stack c.if-not-push.false) c.loop-i.invariant.items;
  marks = marks_grow c.items-items.result.now c.loop-i.i c.loop-i.self.stack.items
      c.push.new.self.stack.items c.take_front.new.self.stack.items _ c.loop-i-test.true
      (sym c.from_end.ensures ∙ c.in-Some.is)
      (c.push.ensures.stack c.if-not-push.false) c.loop-i.invariant.marks;
  place = c.push.ensures.place ∙ c.loop-i.invariant.place;
  passed = c.push.ensures.passed ∙ c.loop-i.invariant.passed;
}

pub returns-clause-items : goal.returns-clause-items
returns-clause-items c =
    λ stepped. items_done c.items-items.result.now c.loop-i.i c.loop-i.self.stack.items
    c.take_front.new.self.stack.items c.args.self.now.stack.items c.args.production.now c.loop-i-test.false
    c.items-items.ensures.value c.take_front.ensures.stack
    c.loop-i.invariant.items

pub returns-clause-marks : goal.returns-clause-marks
returns-clause-marks c =
    λ stepped. marks_done c.items-items.result.now c.loop-i.i c.loop-i.self.stack.items
    c.take_front.new.self.stack.items c.args.self.now.stack.items c.args.production.now
    (mark c.args.chosen c.args.after_chosen) c.loop-i-test.false c.items-items.ensures.value c.take_front.ensures.stack
    c.loop-i.invariant.marks
