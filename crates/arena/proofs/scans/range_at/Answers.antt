use Rattle.std.proofs.Common.{inl, inr, refl, sym, ◌∙◌, arith}
use Rattle.arena.specs.Nearer.{range_at}
use Rattle.arena.proofs.Nearest.{in_sight, at_least_1}
use Rattle.arena.proofs.scans.range_at.Goals as goal

pub returns-then-square-eq-OUT_OF_SIGHT : goal.returns-then-square-eq-OUT_OF_SIGHT
unfolding range_at
returns-then-square-eq-OUT_OF_SIGHT c = rw c.if-square-eq-OUT_OF_SIGHT.true refl

pub whole_root-requires-clause-most : goal.whole_root-requires-clause-most
whole_root-requires-clause-most c = elim c.requires [
  | inl none ↦ absurd (c.if-square-eq-OUT_OF_SIGHT.false none)
  | inr most ↦ omega (arith, most, c.max.ensures)
]

pub returns : goal.returns
returns c = elim c.requires [
  | inl none ↦ absurd (c.if-square-eq-OUT_OF_SIGHT.false none)
  | inr most ↦ rw c.max.ensures at (c.whole_root.ensures) ∙ sym (in_sight c.args.square most ∙ at_least_1 c.args.square)
]
