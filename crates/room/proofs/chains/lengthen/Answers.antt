use Rattle.std.proofs.Common.{◌∙◌, ap, inl, sym, List, ℕ}
use Rattle.std.specs.List.{list_any}
use Rattle.std.specs.Prelude.{nat_eq}
use Rattle.room.proofs.ChainLaws.{if_some, is_found, is_missed}
use Rattle.room.proofs.chains.lengthen.Goals as goal

pub returns-then-is_back-clause-last : goal.returns-then-is_back-clause-last
returns-then-is_back-clause-last c = λ none closed among.
    inl (is_found c.args.number c.args.chain.now.items
    (ap (λ (ks : List ℕ). list_any (λ k. nat_eq k c.args.number) ks) (sym c.deref.ensures.value)
    ∙ sym c.contains-is_back.ensures.value ∙ c.if-is_back.true))

pub returns-clause-new : goal.returns-clause-new
returns-clause-new c =
    if_some c.behind.result
    (is_missed c.args.number c.args.chain.now.items
    (ap (λ (ks : List ℕ). list_any (λ k. nat_eq k c.args.number) ks) (sym c.deref.ensures.value)
    ∙ sym c.contains-is_back.ensures.value ∙ c.if-is_back.false))
