use Rattle.std.proofs.Common.{rules, ap}
use Rattle.grammar.proofs.ScopeLaws.{kept_nothing}
use Rattle.grammar.proofs.scope.Scope.new.Goals as goal

pub invariant_of-result : goal.invariant_of-result
invariant_of-result c =
    (kept_nothing _ _ _ (ap (λ p. p.functions) c.new.ensures) c.new-2.ensures c.new-3.ensures, search rules)
