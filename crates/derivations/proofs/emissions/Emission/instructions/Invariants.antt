use Rattle.std.proofs.Common.{◌≡◌, ◌*◌, ◌≤◌, take}
use Rattle.grammar.specs.Actions.{code_length}
use Rattle.derivations.proofs.emissions.Emission.instructions.Given as goal

abbrev pub invariant-loop-action : goal.invariant-loop-action
invariant-loop-action l = record {
  made : l.made ≡ code_length l.profile (take l.action-index l.actions);
  few : l.made ≤ 4 * l.action-index;
}
