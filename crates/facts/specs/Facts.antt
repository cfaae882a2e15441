-- What is known of a robot, by the file that its source's bytes are.
use Rattle.std.specs.Prelude.{◌≡◌, ℕ, List, [], map, Option, Some, None, Ok, slice_get}
use Rattle.grammar.specs.Compiled.{compiled}
use Rattle.grammar.specs.Pools.{FunctionNames, Pools, pools_of}
use Rattle.grammar.specs.Profile.{Profile}
use Rattle.grammar.specs.Tree.{File}
use Rattle.room.specs.Bounds.{AreBoundsOf}
use Rattle.cycles.specs.declared.counted.Counted.TheVariants.{Questions}
use Rattle.cycles.specs.declared.loops.Turn.{Turn}
use Rattle.cycles.specs.declared.runs.Run.{Run}
use Rattle.cycles.specs.declared.spans.Span.{Span}
use Rattle.cycles.specs.Files.{run_row, turn_rows}
use Rattle.facts.specs.declared.facts.Facts.{Facts}
use Rattle.facts.specs.declared.facts.Part.{Part}

-- the name of a function
abbrev pub name_found : Option FunctionNames → List ℕ
name_found None = []
name_found (Some function) = function.name

-- that of the function of a number
abbrev pub name_at : Pools → ℕ → List ℕ
name_at names number = name_found (slice_get names.functions number)

-- the cycles of a function or a loop, with the number and the name of the function
pub record Cycles : Type 0 where
  pub function : ℕ
  pub name : List ℕ
  pub cycles : Option Span

abbrev pub cycles_told : Part → Cycles
cycles_told part = record { function = part.number; name = part.name; cycles = part.cycles }

abbrev pub cycles_of : Pools → (function : ℕ) → Option Span → Cycles
cycles_of names function cycles = record { function = function; name = name_at names function; cycles = cycles }

abbrev pub cycles_of_run : Pools → Run → Cycles
cycles_of_run names run = cycles_of names run.function (Some run.cycles)

abbrev pub cycles_of_turn : Pools → Turn → Cycles
cycles_of_turn names turn = cycles_of names turn.function turn.cycles

-- the names of the file that these bytes are
pub record AreNamesOf (profile : Profile) (bytes : List ℕ) (names : Pools) : Type 0 where
  pub file : File
  pub is : compiled profile bytes ≡ Ok file
  pub named : names ≡ pools_of file

-- The functions and the loops of the file that these bytes are, in the order of the source, each with the name of its
-- function and with its cycles.
pub record HasParts (profile : Profile) (bytes : List ℕ) (functions loops : List Part) : Type 0 where
  pub file : File
  pub is : compiled profile bytes ≡ Ok file
  pub runs : map cycles_told functions
      ≡ map (cycles_of_run (pools_of file)) (map (run_row Questions profile file) file.order)
  pub turns : map cycles_told loops
      ≡ map (cycles_of_turn (pools_of file)) (turn_rows Questions profile file file.order)

pub record AreFactsOf (profile : Profile) (bytes : List ℕ) (facts : Facts) : Type 0 where
  pub by : facts.profile ≡ profile
  pub bound : AreBoundsOf profile (Some bytes) facts.bound
  pub parts : HasParts profile bytes facts.functions.items facts.loops.items
