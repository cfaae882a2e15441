use Rattle.std.proofs.Common.{rules, ◌≡◌, ◌<◌, length, false, eqb, sym, subst}
use Rattle.std.specs.List.{list_any}
use Rattle.grammar.proofs.ScopeLaws.{kept_begun, room_begun}
use Rattle.grammar.specs.Laws.Naming.{IsScopeKept}
use Rattle.grammar.proofs.scope.Scope.note_begun.Goals as goal

pub push-requires : goal.push-requires
push-requires c =
    let room =
    room_begun c.self.inside.pools.functions c.self.inside.lines.items c.self.inside.begun.items c.args.number
    c.self.invariant.0 within new in
    search (rules, room)
  where
    within : c.args.number < length c.self.inside.pools.functions
    within = search (rules, c.requires.within)

    new : list_any (λ k. eqb k c.args.number) c.self.inside.begun.items ≡ false
    new = search (rules, c.requires.new)

pub invariant_of-self : goal.invariant_of-self
invariant_of-self c = (
  subst (λ begun. IsScopeKept c.self.inside.pools.functions c.self.inside.lines.items begun) (sym c.push.ensures.items)
      (kept_begun c.self.inside.pools.functions c.self.inside.lines.items c.self.inside.begun.items c.args.number
      c.self.invariant.0 within new),
  c.self.invariant.1,
)
  where
    within : c.args.number < length c.self.inside.pools.functions
    within = search (rules, c.requires.within)

    new : list_any (λ k. eqb k c.args.number) c.self.inside.begun.items ≡ false
    new = search (rules, c.requires.new)
