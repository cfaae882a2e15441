use Rattle.std.proofs.Common.{refl, rules}
use Rattle.series.specs.Pieces.{taken_by_sinks}
use Rattle.command.specs.declared.endings.Ending.TheVariants.{OutOfMemory}
use Rattle.command.specs.Files.{real_files}
use Rattle.command.proofs.WholeLemmas.{ends_without_memory}
use Rattle.command.proofs.process.run_process.Goals as goal

pub returns-in-Ok-clause-read : goal.returns-in-Ok-clause-read
returns-in-Ok-clause-read g c = rw c.in-Ok.is (record {
  ending = OutOfMemory;
  between = taken_by_sinks (g.O.Sink.written c.args.out.now) (g.E.Sink.written c.args.err.now);
  ends = ends_without_memory real_files _ _;
  text_stays = refl;
  front = search rules;
  whole = search rules;
  status = c.conclude.ensures.status;
})
