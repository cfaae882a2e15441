use Rattle.std.proofs.Common.{◌≡◌, ◌%◌, false, arith}
use Rattle.std.specs.Prelude.{nat_eq}
use Rattle.std.proofs.lemmas.Bool.Decides.{nat_tests}
use Rattle.watching.proofs.Playing.{end_due, end_plain}
use Rattle.watching.proofs.Telling.{none_told, sights_due, sights_plain}
use Rattle.watching.proofs.games.update_after.Goals as goal

pub returns-then-cycle-eq0-clause-battle : goal.returns-then-cycle-eq0-clause-battle
returns-then-cycle-eq0-clause-battle g c = λ codes robots s seats n is.
    end_due robots codes seats c.args.arena.now c.decides.new.arena s n c.decides.result
    (rw is at c.if-cycle-eq0.true) c.decides.ensures.stands

pub returns-else-cycle-eq0-clause-battle : goal.returns-else-cycle-eq0-clause-battle
returns-else-cycle-eq0-clause-battle g c = λ codes robots s seats n is.
    let between : nat_eq (c.args.cycle % 15) 0 ≡ false = grind (arith, nat_tests, c.if-cycle-eq0.false) in
    rw between (end_plain robots codes seats c.args.arena.now s n (rw is at c.if-cycle-eq0.false))

pub returns-then-cycle-eq0-clause-told : goal.returns-then-cycle-eq0-clause-told
returns-then-cycle-eq0-clause-told g c = λ f sights stands told.
    rw (sights_due c.args.cycle f c.if-cycle-eq0.true) (c.decides.ensures.told f sights stands told)

pub returns-else-cycle-eq0-clause-told : goal.returns-else-cycle-eq0-clause-told
returns-else-cycle-eq0-clause-told g c = λ f sights stands told.
    rw (sights_plain c.args.cycle f c.if-cycle-eq0.false)
    (none_told (g.W.Watcher.told c.args.watcher.now) sights told)
