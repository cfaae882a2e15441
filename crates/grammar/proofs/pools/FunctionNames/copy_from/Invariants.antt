use Rattle.std.proofs.Common.{◌≡◌, take}
use Rattle.grammar.proofs.pools.FunctionNames.copy_from.Given as goal

-- the names so far are copied
abbrev pub invariant-loop-name : goal.invariant-loop-name
invariant-loop-name l = record {
  name : l.self-inside.name ≡ l.initial.self-inside.name;
  parameters : l.self-inside.parameters ≡ 0;
  copied : l.self-inside.variables.items ≡ take l.name-index l.name-items;
}
