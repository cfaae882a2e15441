use Rattle.std.proofs.Common.{rules}
use Rattle.page.proofs.ExplainingLemmas.{never_failed}
use Rattle.page.proofs.SheetLemmas.{ends_on}
use Rattle.page.proofs.explaining.explain_source.Goals as goal

pub returns-in-Warnings : goal.returns-in-Warnings
returns-in-Warnings c = (c.in-Ok.ensures.compiles c.args.source.now (search rules)).compiles

pub returns-in-Turns : goal.returns-in-Turns
returns-in-Turns c = (c.in-Ok.ensures.compiles c.args.source.now (search rules)).compiles

pub explain-note-requires : goal.explain-note-requires
explain-note-requires c =
    rw c.in-Err-Source.field-0-is at (c.in-Err-Source.ensures.fault c.args.source.now (search rules))

pub returns-after-eq : goal.returns-after-eq
returns-after-eq c = record {
  diagnostic = c.in-Err-Source.diagnostic;
  is = rw c.in-Err-Source.field-0-is at (c.in-Err-Source.ensures.fault c.args.source.now (search rules));
  told = ends_on c.in-Err-Source.diagnostic _ _ c.as_str.result.now (rw c.as_str.ensures c.explain-note.ensures)
      c.tell.ensures;
}

pub returns-in-Err-Device : goal.returns-in-Err-Device
returns-in-Err-Device c =
    absurd (never_failed _ (rw c.in-Err-Device.field-0-is at c.in-Err-Device.ensures.counted))

pub returns-in-Err-Memory : goal.returns-in-Err-Memory
returns-in-Err-Memory c = absurd (c.in-Err-Memory.ensures.memory c.in-Err-Memory.field-0-is)
