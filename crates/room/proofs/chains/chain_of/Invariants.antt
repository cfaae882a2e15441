use Rattle.std.specs.Prelude.{◌+◌}
use Rattle.grammar.specs.Resolved.{IsAmong}
use Rattle.trees.specs.Laws.{told_trees}
use Rattle.room.specs.Chains.{CallNoOthers, numbers}
use Rattle.room.proofs.ChainLaws.{IsBegun, IsSoFar}
use Rattle.room.proofs.chains.chain_of.Given as goal

-- the functions so far are a chain, which leads to the next one or is whole
abbrev pub invariant-loop-round : goal.invariant-loop-round
invariant-loop-round l = record {
  begun : IsBegun l.measure l.calls (told_trees l.functions) l.main l.chain.items l.next;
  so_far :
      CallNoOthers (told_trees l.functions) → IsAmong l.main (numbers (told_trees l.functions)) →
      IsSoFar l.measure l.calls (told_trees l.functions) l.chain.items (l._round + 1) l.next;
}
