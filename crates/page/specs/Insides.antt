-- What is found of a robot in a match.
use Rattle.std.specs.Prelude.{◌≡◌, ◌==◌, ℕ, List, Some, length, slice_get, if◌then◌else◌}
use Rattle.battles.specs.Battle.{first_state, last_cycle}
use Rattle.battles.specs.Pairing.{paired, robots_of}
use Rattle.code.specs.Codes.{AreProgramsOf}
use Rattle.code.specs.Generation.{Program}
use Rattle.grammar.specs.Tree.{File}
use Rattle.settings.specs.Settings.{Settings}
use Rattle.watching.specs.Pilot.{Pilot}
use Rattle.watching.specs.Played.{codes_of}
use Rattle.watching.specs.Searches.{Happens}
use Rattle.watching.specs.declared.searches.SoughtCycle.{SoughtCycle}
use Rattle.watching.specs.declared.searches.SoughtCycle.TheVariants.{After, Before}
use Rattle.watching.specs.declared.sought.Sought.{Sought}
use Rattle.page.specs.declared.targets.Target.{Target}

-- the first cycle after that of a target, or the last one before it
abbrev pub which_of : Target → SoughtCycle
which_of target = if target.backwards == 0 then After target.cycle else Before target.cycle

-- In the first match of these settings, which these pilots play, this is true of the cycles in which what is sought
-- happens to a robot, and of the last cycle.
abbrev pub OfSought : Settings → List Pilot → ℕ → Sought → ((ℕ → Type 0) → ℕ → Type 0) → Type 0
OfSought settings pilots robot sought P = (programs : List Program) (files : List File) (code : Program)
    → codes_of pilots ≡ paired programs → AreProgramsOf programs settings.profile files
    → slice_get (paired programs) robot ≡ Some code
    → P (Happens (robots_of settings.profile files) code
    (first_state (length (robots_of settings.profile files)) settings.seed settings.first) robot sought)
    (last_cycle (robots_of settings.profile files)
    (first_state (length (robots_of settings.profile files)) settings.seed settings.first) settings.limit)
