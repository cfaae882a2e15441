use Rattle.std.proofs.Common.{◌≡◌, take, sym}
use Rattle.watching.proofs.Playing.{plain_robots}
use Rattle.battles.specs.Pairing.{paired, robots_of}
use Rattle.watching.specs.Played.{codes_of}
use Rattle.page.proofs.KeptFilms.{same_name, same_stretch}
use Rattle.page.proofs.filming.play_robots.Goals as goal

pub returns-clause-battle : goal.returns-clause-battle
returns-clause-battle c = λ files are.
    let programs = c.args.compiled.now.programs.items in
    let same : codes_of (take c.robots.result c.pilots_of-pilots.result) ≡ paired programs =
    rw c.robots.ensures.robots c.pilots_of-pilots.ensures in
    let are_robots = rw (sym same) at (plain_robots programs c.args.settings.now.profile files are) in
    rw (c.seed-seed.ensures.value, c.first-number.ensures.value, c.limit-limit.ensures.value) at
    (c.play.ensures.battle (robots_of c.args.settings.now.profile files) are_robots)

pub returns-clause-sheet : goal.returns-clause-sheet
returns-clause-sheet c = same_name _ _ _ _ c.play.ensures.kept

pub returns-clause-stretch : goal.returns-clause-stretch
returns-clause-stretch c = same_stretch _ _ _ _ c.play.ensures.kept
