use Rattle.grammar.specs.declared.resolved_names.Var.TheVariants.{External}
use Rattle.code.specs.declared.instr.Instr.TheVariants.{Fetch}
use Rattle.listings.specs.Listing.{instr_line}
use Rattle.listings.proofs.Texts.{numbered_get}
use Rattle.listings.proofs.listing.add_lines.Goals as goal

pub loop-at-preserved : goal.loop-at-preserved
loop-at-preserved g c = (
  c.add_line.ensures.countable,
  λ before text so_far.
      rw
      (numbered_get instr_line text c.args.instrs.now c.loop-at.at (Fetch (External 0)) c.loop-at-test.true)
      (c.add_line.ensures.text before _ (c.loop-at.invariant.1 before text so_far)),
)
