use Rattle.page.specs.Sheets.{AddsSome}
use Rattle.page.proofs.explaining.tell_warnings.Given as goal

abbrev pub invariant-loop-warning : goal.invariant-loop-warning
invariant-loop-warning l = AddsSome l.initial.sheet l.sheet
