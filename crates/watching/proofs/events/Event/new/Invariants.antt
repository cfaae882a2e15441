use Rattle.std.proofs.Common.{◌≡◌, ◌≤◌, length, take}
use Rattle.watching.proofs.events.Event.new.Given as goal

-- the fields so far are taken
abbrev pub invariant-loop-field : goal.invariant-loop-field
invariant-loop-field l = record {
  kind : l.event.kind.now ≡ l.kind;
  fields : length l.fields ≤ 5 → l.event.fields.items ≡ take l.field-index l.fields;
}
