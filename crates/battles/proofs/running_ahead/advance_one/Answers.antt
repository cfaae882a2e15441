use Rattle.std.proofs.Common.{◌≤◌, sym, ◌∙◌, ap}
use Rattle.battles.specs.Carrying.{Runner}
use Rattle.battles.proofs.Alone.{dead_runs}
use Rattle.battles.proofs.Passed.{goes_ahead}
use Rattle.battles.proofs.running_ahead.advance_one.Goals as goal

pub returns-then-alive-clause-alone : goal.returns-then-alive-clause-alone
returns-then-alive-clause-alone c = λ exe r f trace is field at.
    let live = sym (c.alive.ensures.stands f field) ∙ c.if-alive.true in
    let most : c.args.cycles ≤ c.args.runner.now.ahead =
    c.requires.ahead (sym c.alive.ensures.lives ∙ c.if-alive.true) in
    let within : c.args.cycles ≤ c.runner.inside.ahead = rw (ap (λ (q : Runner). q.ahead) c.runner.view_is) most in
    goes_ahead (record { machine = c.runner.inside.machine; ahead = c.runner.inside.ahead }) exe r c.args.robot f trace
    c.args.cycles c.args.arena.now
    within live is field (rw c.runner.view_is at)

pub returns-else-alive-clause-alone : goal.returns-else-alive-clause-alone
returns-else-alive-clause-alone c = λ exe r f trace is field at.
    let dead = sym (c.alive.ensures.stands f field) ∙ c.if-alive.false in
    dead_runs ⊥ r c.args.robot f trace c.args.cycles exe c.args.runner.now c.args.arena.now dead field at
