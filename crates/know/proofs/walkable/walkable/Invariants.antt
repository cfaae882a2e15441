use Rattle.std.specs.Prelude.{◌≡◌, take}
use Rattle.know.specs.Names.{names_of}
use Rattle.know.proofs.walkable.walkable.Given as goal

-- the names so far
abbrev pub invariant-loop-index : goal.invariant-loop-index
invariant-loop-index l = names_of l.crumbs.list.items ≡ names_of (take l.index l.tokens)
