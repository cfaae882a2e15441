use Rattle.std.proofs.Common.{◌+◌, ◌∙◌, ap, arith, sym}
use Rattle.battles.specs.Battle.{last_cycle}
use Rattle.watching.proofs.Playing.{last_within, seats_length}
use Rattle.watching.specs.Searches.{Happens}
use Rattle.watching.proofs.Searching.{found_none, next_none}
use Rattle.watching.proofs.searches.next_in.Goals as goal

pub loop-preserved : goal.loop-preserved
loop-preserved c =
    let codes = c.step-found.ensures.codes ∙ c.loop.invariant.codes in
    record {
      manned = c.step-found.ensures.manned;
      pilots = sym (seats_length c.args.pilots.now c.step-found.new.pilots codes);
      codes = codes;
      limit = c.step-found.ensures.next.limit ∙ c.loop.invariant.limit;
      cycles = c.step-found.ensures.next.cycles ∙ ap (λ n. n + 1) c.loop.invariant.cycles;
      battle = λ robots s are come.
          (rw c.loop.invariant.codes at (c.step-found.ensures.battle robots s)) are
          (c.loop.invariant.battle robots s are come);
      none = λ robots s code are here come.
          found_none (Happens robots code s c.args.robot c.args.sought.now) c.loop.counter c.args.after
          c.step-found.result
          (rw c.loop.invariant.cycles at ((rw c.loop.invariant.codes at (c.step-found.ensures.found robots s code)) are
          here (c.loop.invariant.battle robots s are come)))
          (sym c.is_some.ensures ∙ c.if-is_some.false) (c.loop.invariant.none robots s code are here come);
    }

pub returns : goal.returns
returns c = λ robots s code are here come.
    let most = last_within robots s c.args.limit in
    next_none (Happens robots code s c.args.robot c.args.sought.now) c.args.after c.loop.counter
    (last_cycle robots s c.args.limit) (c.loop.invariant.none robots s code are here come)
    (omega (arith, most, c.loop-test.false, c.loop.auto))
