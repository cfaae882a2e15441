use Rattle.std.proofs.Common.{sym}
use Rattle.watching.proofs.Playing.{plain_robots}
use Rattle.battles.specs.Pairing.{robots_of}
use Rattle.page.proofs.insides.moment_in.Goals as goal

pub returns-clause-moment : goal.returns-clause-moment
returns-clause-moment c = λ programs files same are.
    let are_robots = rw (sym same) at (plain_robots programs c.args.settings.now.profile files are) in
    rw (c.seed-seed.ensures.value, c.first-number.ensures.value, c.limit-limit.ensures.value) at
    (c.moment_at.ensures.moment (robots_of c.args.settings.now.profile files) are_robots)
