use Rattle.std.proofs.Common.{◌≡◌, ◌++◌, drop, length}
use Rattle.std.specs.Prelude.{◌-◌, map}
use Rattle.derivations.specs.Positions.{mark}
use Rattle.derivations.specs.Stacks.{items_of, marks_of}
use Rattle.derivations.specs.Table.{item_of}
use Rattle.derivations.specs.declared.symbols.Item.{Item}
use Rattle.derivations.proofs.steps.Automaton.replace.Given as goal

abbrev pub invariant-loop-i : goal.invariant-loop-i
invariant-loop-i l = record {
  items : items_of l.self.stack.items
      ≡ map item_of (drop (length l.items - l.i) l.items) ++ items_of l.initial.self.stack.items;
  marks : marks_of l.self.stack.items ≡ map (λ (x : Item). mark l.chosen l.after_chosen)
      (drop (length l.items - l.i) l.items) ++ marks_of l.initial.self.stack.items;
  place : l.self.place ≡ l.initial.self.place;
  passed : l.self.passed ≡ l.initial.self.passed;
}
