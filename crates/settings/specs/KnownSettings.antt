-- Known settings and refusals, worked out by hand.
use Rattle.std.specs.Prelude.{◌≡◌, ℕ, List, [], ◌∷◌, true, false, Some, None, Ok, Err, codes}
use Rattle.grammar.specs.ProfileNumbers.{first_profile, second_profile}
use Rattle.settings.specs.declared.faults.UseFault.TheVariants.{Number, TooMany, NoMode}
use Rattle.settings.specs.declared.settings.Mode.{Mode}
use Rattle.settings.specs.declared.settings.Mode.TheVariants.{Listing, Matches}
use Rattle.settings.specs.Given.{Given, settings_given}
use Rattle.settings.specs.Settings.{Settings}

-- one file, and nothing else
abbrev bare : Given
bare = record {
  listing = false;
  matches = None;
  limit = None;
  seed = None;
  profile = None;
  first = None;
  file_words = codes "a.r" ∷ [];
}

-- the settings of one file if nothing else is asked for
abbrev usual : Mode → ℕ → ℕ → Settings
usual mode matches limit = record {
  mode = mode;
  matches = matches;
  limit = limit;
  seed = 1;
  profile = first_profile;
  first = 1;
  file_words = codes "a.r" ∷ [];
}

abbrev five : List (List ℕ)
five = codes "a.r" ∷ codes "b" ∷ codes "c" ∷ codes "d" ∷ codes "e" ∷ []

pub record KnownSettings : Type 0 where
  -- `-c a.r`
  pub listing : settings_given (record bare { listing = true })
      ≡ Ok (usual Listing 1 500000)
  -- `-c -m3 a.r`
  pub listing_beside : settings_given (record bare { listing = true; matches = Some (codes "3") })
      ≡ Ok (usual Listing 3 500000)
  -- `-m0001 -l15 a.r`
  pub zeros : settings_given (record bare { matches = Some (codes "0001"); limit = Some (codes "15") })
      ≡ Ok (usual Matches 1 15)
  -- the greatest values of `-m`, `-l`, `-s` and `-f`, and the second profile
  pub greatest : settings_given (record bare {
    matches = Some (codes "1000000");
    limit = Some (codes "1000000000");
    seed = Some (codes "18446744073709551615");
    profile = Some (codes "2");
    first = Some (codes "1000000");
  }) ≡ Ok (record {
    mode = Matches;
    matches = 1000000;
    limit = 1000000000;
    seed = 18446744073709551615;
    profile = second_profile;
    first = 1000000;
    file_words = codes "a.r" ∷ [];
  })
  -- values that are past their limits, or no numbers
  pub too_many_matches : settings_given (record bare { matches = Some (codes "1000001") }) ≡ Err Number
  pub too_many_cycles : settings_given (record bare { matches = Some (codes "1"); limit = Some (codes "1000000001") })
      ≡ Err Number
  pub too_great_seed : settings_given
      (record bare { matches = Some (codes "1"); seed = Some (codes "18446744073709551616") })
      ≡ Err Number
  pub no_match : settings_given (record bare { matches = Some (codes "0") }) ≡ Err Number
  pub no_match_listed : settings_given (record bare { listing = true; matches = Some (codes "0") }) ≡ Err Number
  pub sign : settings_given (record bare { matches = Some (codes "+1") }) ≡ Err Number
  pub nothing : settings_given (record bare { matches = Some [] }) ≡ Err Number
  pub profile_0 : settings_given (record bare { matches = Some (codes "1"); profile = Some (codes "0") }) ≡ Err Number
  pub profile_3 : settings_given (record bare { matches = Some (codes "1"); profile = Some (codes "3") }) ≡ Err Number
  pub profile_x : settings_given (record bare { matches = Some (codes "1"); profile = Some (codes "x") }) ≡ Err Number
  pub first_0 : settings_given (record bare { matches = Some (codes "1"); first = Some (codes "0") }) ≡ Err Number
  pub first_too_great : settings_given (record bare { matches = Some (codes "1"); first = Some (codes "1000001") })
      ≡ Err Number
  -- the order of the refusals
  pub number_first : settings_given
      (record bare { matches = Some (codes "1"); limit = Some (codes "x"); file_words = five })
      ≡ Err Number
  pub then_files : settings_given (record bare { file_words = five }) ≡ Err TooMany
  pub files_listed : settings_given (record bare { listing = true; file_words = five }) ≡ Err TooMany
  pub then_mode : settings_given (record bare { limit = Some (codes "15") }) ≡ Err NoMode
