use Rattle.page.proofs.FilmedRobots.{pilots_paired}
use Rattle.page.proofs.pilots.pilots_of.Goals as goal

pub returns : goal.returns
returns c =
    pilots_paired c.args.compiled.now.programs.items c.pilot.result c.pilot-2.result c.pilot-3.result c.pilot-4.result
    c.requires c.pilot.ensures.most c.pilot.ensures.program c.pilot-2.ensures.program c.pilot-3.ensures.program
    c.pilot-4.ensures.program
