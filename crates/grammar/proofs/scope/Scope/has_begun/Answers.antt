use Rattle.std.proofs.Common.{rules}
use Rattle.grammar.proofs.ScopeLaws.{not_begun}
use Rattle.grammar.proofs.scope.Scope.has_begun.Goals as goal

pub returns-in-None : goal.returns-in-None
returns-in-None c =
    let none =
    not_begun c.self.inside.pools.functions c.self.inside.lines.items c.self.inside.begun.items c.self.invariant.0 in
    search (rules, none)
