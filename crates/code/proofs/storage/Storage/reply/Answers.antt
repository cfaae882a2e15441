use Rattle.std.proofs.Common.{◌∙◌, ℤ, [], ◌∷◌, ◌++◌, Some, sym, ap, arith, w32}
use Rattle.std.proofs.lemmas.Int.{to_z-of_z}
use Rattle.code.specs.declared.instr.Instr.{Instr}
use Rattle.code.specs.declared.instr.Instr.TheVariants.{Fcall}
use Rattle.grammar.specs.declared.resolved_names.Callee.TheVariants as callee
use Rattle.code.specs.Machine.{done_with}
use Rattle.code.specs.Registers.{machine_of}
use Rattle.code.proofs.QuietRuns.{asking, asked_frame, asked_room}
use Rattle.code.proofs.Machines.{advances}
use Rattle.code.proofs.storage.Storage.reply.Goals as goal

pub take_reply-requires : goal.take_reply-requires
take_reply-requires c =
    let code = c.args.program.now in
    let m = machine_of c.args.registers c.args.self.now in
    let i = c.instr_at-instr.result.now in
    let asks =
    asking code m i c.requires.asks.0 c.requires.asks.1 c.instr_at-instr.ensures.next.here c.requires.asks.2 in
    let frame = asked_frame code m i asks.1.0 asks.1.1 c.instr_at-instr.ensures.next.ready in
    let room = asked_room code m i asks.1.0 asks.1.1 asks.0 in
    record {
      opened = frame.0;
      there = frame.1;
      room = omega (arith, room, c.instr_at-instr.ensures.room.words);
      within = c.instr_at-instr.ensures.next.within;
    }

pub returns-clause-stands : goal.returns-clause-stands
returns-clause-stands c trace stands =
    let code = c.args.program.now in
    let m = machine_of c.args.registers c.args.self.now in
    let i = c.instr_at-instr.result.now in
    let asks =
    asking code m i c.requires.asks.0 c.requires.asks.1 c.instr_at-instr.ensures.next.here c.requires.asks.2 in
    let done =
    c.take_reply.ensures code asks.1.0
    ∙
    ap (λ (reply : ℤ). done_with code reply m (Some (Fcall (callee.Intrinsic asks.1.0))))
    (to_z-of_z w32 c.args.reply c.ranges.reply)
    ∙ ap (λ (i : Instr). done_with code c.args.reply m (Some i)) (sym asks.1.1)
    in
    advances m (machine_of c.take_reply.result c.take_reply.new.self) code i c.args.reply
    c.instr_at-instr.ensures.next.here asks.0
    done
    trace stands

pub returns-clause-fits : goal.returns-clause-fits
returns-clause-fits c = record {
  trace = c.requires.fits.trace ++ c.args.reply ∷ [];
  stands = returns-clause-stands c c.requires.fits.trace c.requires.fits.stands;
}
