use Rattle.std.proofs.Common.{sym}
use Rattle.watching.proofs.Playing.{plain_robots}
use Rattle.battles.specs.Pairing.{robots_of}
use Rattle.page.proofs.insides.found_in.Goals as goal

pub returns : goal.returns
returns c = λ programs files code same are here.
    let are_robots = rw (sym same) at (plain_robots programs c.args.settings.now.profile files are) in
    rw (c.seed-seed.ensures.value, c.first-number.ensures.value, c.limit-limit.ensures.value) at
    (c.sought_cycle.ensures (robots_of c.args.settings.now.profile files) code are_robots (rw same here))
