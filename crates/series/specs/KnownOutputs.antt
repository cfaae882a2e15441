-- Known outputs: from the bytes of files to what a run writes.
use Rattle.std.specs.Prelude.{◌≡◌, ℕ, List, [], ◌∷◌, codes, map, ◌++◌}
use Rattle.battles.specs.Battle.{Outcome}
use Rattle.grammar.specs.ProfileNumbers.{first_profile}
use Rattle.series.specs.declared.run_results.Status.TheVariants.{Done, Faulty}
use Rattle.series.specs.Compiling.{SourceFile}
use Rattle.series.specs.DiagnosticLines.{diagnostic_line}
use Rattle.series.specs.Output.{Output, output}
use Rattle.settings.specs.Settings.{Settings}
use Rattle.settings.specs.declared.settings.Mode.{Mode}
use Rattle.settings.specs.declared.settings.Mode.TheVariants.{Listing}
use Rattle.series.specs.RobotNames.{robot_names}
use Rattle.series.specs.Pieces.{Text, Faults}
use Rattle.series.specs.Reports.{report}
use Rattle.sinks.specs.Texts.{file_name, column}
use Rattle.series.specs.Totals.{score_of, totals}

pub record KnownLines : Type 0 where
  pub name_in_folders : file_name (codes "k/robots/b.r") ≡ codes "b.r"
  pub name_alone : file_name (codes "a.r") ≡ codes "a.r"
  pub name_of_a_folder : file_name (codes "k/") ≡ []
  pub one_digit : column 3 7 ≡ codes "  7"
  pub whole_column : column 3 100 ≡ codes "100"
  pub past_the_column : column 3 1999 ≡ codes "1999"
  pub diagnostic : diagnostic_line (codes "c.r") 2 (codes "reserved word") ≡ codes "c.r:2: reserved word\n"

-- settings with the first profile and the seed 1
abbrev asked : Mode → ℕ → ℕ → List SourceFile → Settings
asked mode matches limit sources = record {
  mode = mode;
  matches = matches;
  limit = limit;
  seed = 1;
  profile = first_profile;
  first = 1;
  file_words = map (λ s. s.word) sources;
}

-- what a run writes that lists these files
abbrev listing_output : List SourceFile → Output
listing_output sources = output (asked Listing 1 500000 sources) sources

-- two matches of two robots: the second robot survived the first alone, and both survived the second
abbrev sole_survivor : Outcome
sole_survivor = record { cycles = 90; damages = 100 ∷ 7 ∷ [] }

abbrev two_survivors : Outcome
two_survivors = record { cycles = 500; damages = 99 ∷ 0 ∷ [] }

abbrev two_names : List (List ℕ)
two_names = robot_names (codes "k/a.r" ∷ codes "b.r" ∷ [])

pub record KnownReports : Type 0 where
  pub single_file : robot_names (codes "k/a.r" ∷ []) ≡ codes "a.r" ∷ codes "a.r" ∷ []
  pub dead_and_alive : report 12 two_names sole_survivor
      ≡ codes "Match 12: cycles = 90\n  1) dead  damage 100% a.r\n  2) alive damage   7% b.r\n"
  pub scores : totals 2 two_names (score_of (sole_survivor ∷ two_survivors ∷ []))
      ≡ codes "Totals: 2 matches\n  1) won 0 tied 1 lost 1 a.r\n  2) won 1 tied 1 lost 0 b.r\n"

pub record KnownOutputs : Type 0 where
  pub listed : listing_output (record { word = codes "k/a.r"; bytes = codes "main(){1+2;}" } ∷ [])
      ≡ record {
        pieces = record {
          channel = Text;
          bytes = codes "File a.r\nExternals 0\nFunction 0 main vars 0 at 0\nCode 7\n    0 CONST 1\n    1 CONST 2\n"
              ++ codes "    2 BINOP +\n    3 CHOP\n    4 CONST 0\n    5 RETSUB\n    6 NOP\n";
        } ∷ [];
        status = Done;
      }
  pub faulty : listing_output (record { word = codes "e.r"; bytes = [] }
      ∷ record { word = codes "c.r"; bytes = codes "main(){\nbreak; }" } ∷ [])
      ≡ record {
        pieces = record { channel = Faults; bytes = codes "e.r:1: no main function\n" }
            ∷ record { channel = Faults; bytes = codes "c.r:2: reserved word\n" } ∷ [];
        status = Faulty;
      }
  pub mixed : listing_output
      (record { word = codes "a.r"; bytes = codes "main(){}" }
      ∷ record { word = codes "b.r"; bytes = codes "main(){ f(); }" }
      ∷ record { word = codes "c.r"; bytes = codes "main(){\nbreak; }" } ∷ [])
      ≡ record {
        pieces = record {
          channel = Text;
          bytes = codes "File a.r\nExternals 0\nFunction 0 main vars 0 at 0\nCode 3\n"
              ++ codes "    0 CONST 0\n    1 RETSUB\n    2 NOP\n";
        }
            ∷ record { channel = Faults; bytes = codes "b.r:1: function not defined\n" }
            ∷ record { channel = Faults; bytes = codes "c.r:2: reserved word\n" } ∷ [];
        status = Faulty;
      }
