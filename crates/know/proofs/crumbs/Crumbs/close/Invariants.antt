use Rattle.std.specs.Prelude.{◌≡◌}
use Rattle.know.specs.Names.{names_of}
use Rattle.know.proofs.crumbs.Crumbs.close.Given as goal

-- braces are no names
abbrev pub invariant-loop-brace : goal.invariant-loop-brace
invariant-loop-brace l = names_of l.self.list.items ≡ names_of l.initial.self.list.items
