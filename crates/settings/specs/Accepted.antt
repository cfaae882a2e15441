-- Which settings are accepted.
use Rattle.std.specs.Prelude.{ℕ, ◌≤◌, List, length}
use Rattle.grammar.specs.ProfileNumbers.{IsProfile}
use Rattle.settings.specs.declared.settings.Mode.{Mode}
use Rattle.settings.specs.declared.settings.Numbers.{Numbers}
use Rattle.settings.specs.SettingsLimits.{most_matches, most_cycles, most_seed, most_first_match, most_files}
use Rattle.settings.specs.Settings.{Settings}

-- the parts are within their limits
pub record AreSettings (settings : Settings) : Type 0 where
  pub some_match : 1 ≤ settings.matches
  pub most_matches : settings.matches ≤ most_matches
  pub some_cycle : 1 ≤ settings.limit
  pub most_cycles : settings.limit ≤ most_cycles
  pub seed : settings.seed ≤ most_seed
  pub profile : IsProfile settings.profile
  pub least_first : 1 ≤ settings.first
  pub most_first : settings.first ≤ most_first_match
  pub some_file : 1 ≤ length settings.file_words
  pub most_files : length settings.file_words ≤ most_files

abbrev pub settings_of : Numbers → Mode → List (List ℕ) → Settings
settings_of numbers mode files = record {
  mode = mode;
  matches = numbers.matches;
  limit = numbers.limit;
  seed = numbers.seed;
  profile = numbers.profile;
  first = numbers.first;
  file_words = files;
}
