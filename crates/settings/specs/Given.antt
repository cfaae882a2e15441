-- The settings that follow from what the command line gave.
use Rattle.std.specs.Prelude.{ℕ, ◌≤◌, List, Bool, Option, Some, None, Result, Err, length, nat_lt, option_map, ok_or, if◌then◌else◌}
use Rattle.grammar.specs.ProfileNumbers.{IsProfile}
use Rattle.grammar.specs.ProfileNumbers.{most_profile, profile_numbered}
use Rattle.settings.specs.declared.faults.UseFault.{UseFault}
use Rattle.settings.specs.declared.faults.UseFault.TheVariants.{Number, TooMany, NoMode}
use Rattle.settings.specs.declared.settings.Mode.{Mode}
use Rattle.settings.specs.declared.settings.Numbers.{Numbers}
use Rattle.settings.specs.declared.settings.Mode.TheVariants.{Listing, Matches}
use Rattle.settings.specs.SettingsLimits.{most_matches, most_cycles, most_seed, most_first_match, most_files}
use Rattle.settings.specs.Numbers.{value_number}
use Rattle.settings.specs.Settings.{Settings}
use Rattle.settings.specs.Accepted.{settings_of}

abbrev pub matches_default : ℕ
matches_default = 1

abbrev pub cycles_default : ℕ
cycles_default = 500000

abbrev pub seed_default : ℕ
seed_default = 1

abbrev pub profile_default : ℕ
profile_default = 1

abbrev pub first_default : ℕ
first_default = 1

-- whether `-c` was given, the texts of `-m`, `-l`, `-s`, `-p` and `-f`, and the file words
pub record Given : Type 0 where
  pub listing : Bool
  pub matches : Option (List ℕ)
  pub limit : Option (List ℕ)
  pub seed : Option (List ℕ)
  pub profile : Option (List ℕ)
  pub first : Option (List ℕ)
  pub file_words : List (List ℕ)

-- the number of an option, which has a default; there is none if its text is no number within its limits
abbrev pub number_or_default : ℕ → ℕ → ℕ → Option (List ℕ) → Option ℕ
number_or_default least most default None = Some default
number_or_default least most default (Some text) = value_number least most text

-- `-c` asks for listings, and else `-m` for matches
abbrev pub mode_of : Given → Option Mode
mode_of given = if given.listing then Some Listing else option_map (λ _. Matches) given.matches

-- each number is within its limits
pub record AreWithin (numbers : Numbers) : Type 0 where
  pub matches : (1 ≤ numbers.matches) × (numbers.matches ≤ most_matches)
  pub limit : (1 ≤ numbers.limit) × (numbers.limit ≤ most_cycles)
  pub seed : numbers.seed ≤ most_seed
  pub profile : IsProfile numbers.profile
  pub first : (1 ≤ numbers.first) × (numbers.first ≤ most_first_match)

-- goes on with the number of a value, if there is one
abbrev pub with_number : {A : Type 0} → Option ℕ → (ℕ → Option A) → Option A
with_number None next = None
with_number (Some n) next = next n

-- the numbers that are asked for, if each value is one
unfoldable pub numbers_of : Given → Option Numbers
numbers_of given =
    with_number (number_or_default 1 most_matches matches_default given.matches) (λ matches.
    with_number (number_or_default 1 most_cycles cycles_default given.limit) (λ limit.
    with_number (number_or_default 0 most_seed seed_default given.seed) (λ seed.
    with_number (number_or_default 1 most_profile profile_default given.profile) (λ profile.
    with_number (number_or_default 1 most_first_match first_default given.first) (λ first.
    Some (record {
      matches = matches;
      limit = limit;
      seed = seed;
      profile = profile_numbered profile;
      first = first;
    }))))))

-- the settings, with these numbers and this mode, or the first fault: a value, then how many files there are, then the
-- mode
abbrev pub settled_by : List (List ℕ) → Option Numbers → Option Mode → Result Settings UseFault
settled_by files None mode = Err Number
settled_by files (Some numbers) mode = if nat_lt most_files (length files) then Err TooMany else ok_or
    (option_map (λ m. settings_of numbers m files) mode) NoMode

-- the settings that are asked for, or the first fault
abbrev pub settings_given : Given → Result Settings UseFault
settings_given given = settled_by given.file_words (numbers_of given) (mode_of given)
