-- What the words of the command line ask for.
use Rattle.std.specs.Prelude.{List, [], Bool, false, Result, Err, codes, unwrap_or, ◌∷◌}
use Rattle.std.specs.Option.{option_map_or}
use Rattle.std.specs.Str.{bytes_eq}
use Rattle.clap.specs.Words.{Kinds, Row, Text, all_of, fault_of, first_of, matches_of}
use Rattle.settings.specs.declared.faults.UseFault.{UseFault}
use Rattle.settings.specs.declared.faults.UseFault.TheVariants.{Usage}
use Rattle.settings.specs.Given.{Given, settings_given}
use Rattle.settings.specs.Settings.{Settings}
use Rattle.arguments.specs.CommandLine.{crobots_app}

-- the flag is set
abbrev pub is_set : Text → List Row → Bool
is_set id rows = option_map_or (λ text. bytes_eq text (codes "true")) (first_of id rows) false

-- the file words
abbrev pub files_in : List Row → List Text
files_in rows = unwrap_or (all_of (codes "FILE") rows) []

-- what the entries that `clap` makes of the words give
abbrev pub given_by : List Row → Given
given_by rows = record {
  listing = is_set (codes "c") rows;
  matches = first_of (codes "m") rows;
  limit = first_of (codes "l") rows;
  seed = first_of (codes "s") rows;
  profile = first_of (codes "p") rows;
  first = first_of (codes "f") rows;
  file_words = files_in rows;
}

-- the words are wrong usage if `clap` refuses them
abbrev pub unless_refused : Kinds → Result Settings UseFault → Result Settings UseFault
unless_refused [] answer = answer
unless_refused (_ ∷ _) answer = Err Usage

-- what the words ask for
unfoldable pub asked : List Text → Result Settings UseFault
asked words = unless_refused (fault_of crobots_app words) (settings_given (given_by (matches_of crobots_app words)))
