use Rattle.std.proofs.Common.{List, ℕ, arith, ap, length, subst, sym, ◌∙◌, ◌≤◌}
use Rattle.derivations.proofs.Placing.{begins_at_end, begins_behind}
use Rattle.derivations.specs.Columns.{blanks}
use Rattle.derivations.proofs.locations.Finder.start.Goals as goal

pub returns-then-is_of_byte : goal.returns-then-is_of_byte
returns-then-is_of_byte c =
    begins_at_end c.args.self.now.source.now c.args.self.now.end c.args.token.now _
    (sym c.is_of_byte.ensures ∙ c.if-is_of_byte.true) c.saturating_sub.ensures

pub returns : goal.returns
returns c =
    begins_behind c.args.self.now.source.now c.args.self.now.end c.args.token.now c.blanks-count.result
    c.saturating_add.result (sym c.is_of_byte.ensures ∙ c.if-is_of_byte.false)
    (c.blanks-count.ensures.value ∙ ap (λ (l : List ℕ). blanks l) c.between-gap.ensures)
    (subst (λ (l : List ℕ). c.blanks-count.result ≤ length l) c.between-gap.ensures c.blanks-count.ensures.most)
    (omega arith) c.saturating_add.ensures
