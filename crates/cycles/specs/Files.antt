-- What is reported of a source: a row for each function of its file, and one for each loop.
use Rattle.std.specs.Prelude.{◌≡◌, ℕ, List, [], ◌∷◌, ◌++◌, map, Option, Some, Ok}
use Rattle.grammar.specs.Compiled.{compiled}
use Rattle.grammar.specs.Profile.{Profile}
use Rattle.grammar.specs.Resolved.{IsResolved}
use Rattle.grammar.specs.Tree.{File}
use Rattle.cycles.specs.declared.counted.Counted.{Counted}
use Rattle.cycles.specs.declared.counted.Counted.TheVariants.{Cycles}
use Rattle.cycles.specs.declared.loops.Turn.{Turn}
use Rattle.cycles.specs.declared.runs.Run.{Run}
use Rattle.cycles.specs.declared.sources.SourceSpans.{SourceSpans}
use Rattle.cycles.specs.Loops.{Loop, loops_of}
use Rattle.cycles.specs.Runs.{body_at, run_span}
use Rattle.cycles.specs.Told.{told, told_end}
use Rattle.cycles.specs.Turns.{turn_of}

module _ (asked : Counted) (p : Profile) (file : File) where
  -- of the function of this number
  abbrev pub run_row : ℕ → Run
  run_row k = record {
    function = k;
    cycles = told (run_span Cycles p file k);
    questions = told (run_span asked p file k);
  }

  -- of a loop of it
  abbrev pub turn_row : ℕ → Loop → Turn
  turn_row k l = record {
    function = k;
    cycles = told_end (turn_of Cycles p (run_span Cycles p file) l.test l.statements);
    questions = told_end (turn_of asked p (run_span asked p file) l.test l.statements);
  }

  -- of the loops of these functions
  abbrev pub turn_rows : List ℕ → List Turn
  turn_rows [] = []
  turn_rows (k ∷ ks) = map (turn_row k) (loops_of (body_at file k)) ++ turn_rows ks

-- of all functions of the file and of their loops, in the order of the source
pub record HasRows (asked : Counted) (p : Profile) (file : File) (spans : SourceSpans) : Type 0 where
  pub runs : spans.runs.items ≡ map (run_row asked p file) file.order
  pub turns : spans.turns.items ≡ turn_rows asked p file file.order

-- The rows are a resolved file's. If the device's contents are known, they are that file.
pub record AreSpansOf (asked : Counted) (profile : Profile) (told : Option (List ℕ)) (spans : SourceSpans) : Type 0
  where
    pub file : File
    pub resolved : IsResolved file
    pub rows : HasRows asked profile file spans
    pub is : (bytes : List ℕ) → told ≡ Some bytes → compiled profile bytes ≡ Ok file
