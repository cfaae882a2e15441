use Rattle.std.proofs.Common.{◌≡◌, ◌≤◌, length, map, take}
use Rattle.watching.specs.declared.events.Field.TheVariants.{Number}
use Rattle.watching.proofs.events.Event.of_numbers.Given as goal

-- the numbers so far are taken
abbrev pub invariant-loop-number : goal.invariant-loop-number
invariant-loop-number l = record {
  kind : l.event.kind.now ≡ l.kind;
  fields : length l.numbers ≤ 5 → l.event.fields.items ≡ map Number (take l.number-index l.numbers);
}
