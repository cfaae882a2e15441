-- What an order asks for.
use Rattle.std.specs.Prelude.{ℕ, ◌≤◌, ◌==◌, List, if◌then◌else◌}
use Rattle.settings.specs.declared.settings.Mode.{Mode}
use Rattle.settings.specs.declared.settings.Mode.TheVariants.{Listing, Matches}
use Rattle.settings.specs.declared.settings.Numbers.{Numbers}
use Rattle.grammar.specs.ProfileNumbers.{most_profile, profile_numbered}
use Rattle.settings.specs.SettingsLimits.{most_matches, most_cycles, most_first_match}
use Rattle.settings.specs.Settings.{Settings}
use Rattle.settings.specs.Accepted as setup
use Rattle.page.specs.declared.orders.Order.{Order}
use Rattle.page.specs.declared.stretches.Stretch.{Stretch}

-- each number is within its limits
pub record AreWithin (order : Order) : Type 0 where
  pub mode : order.mode ≤ 1
  pub some_match : 1 ≤ order.matches
  pub most_matches : order.matches ≤ most_matches
  pub some_cycle : 1 ≤ order.limit
  pub most_cycles : order.limit ≤ most_cycles
  pub least_profile : 1 ≤ order.profile
  pub greatest_profile : order.profile ≤ most_profile
  pub least_first : 1 ≤ order.first
  pub most_first : order.first ≤ most_first_match

abbrev pub mode_by : ℕ → Mode
mode_by n = if n == 0 then Listing else Matches

-- the windows that it asks for
abbrev pub stretch_of : Order → Stretch
stretch_of order = record { from = order.from; windows = order.windows }

abbrev pub numbers_of : Order → Numbers
numbers_of order = record {
  matches = order.matches;
  limit = order.limit;
  seed = order.seed;
  profile = profile_numbered order.profile;
  first = order.first;
}

-- what an order asks for in a mode, of the files that these words name
abbrev pub setup_by : Mode → Order → List (List ℕ) → Settings
setup_by mode order words = setup.settings_of (numbers_of order) mode words

-- and in its own mode
abbrev pub setup_of : Order → List (List ℕ) → Settings
setup_of order words = setup_by (mode_by order.mode) order words
