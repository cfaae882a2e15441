-- The known settings, by computing.
use Rattle.std.proofs.Common.{refl}
use Rattle.settings.specs.Given.{numbers_of}
use Rattle.settings.specs.KnownSettings.{KnownSettings}

pub known_settings : KnownSettings
unfolding numbers_of
known_settings = record {
  listing = refl;
  listing_beside = refl;
  zeros = refl;
  greatest = refl;
  too_many_matches = refl;
  too_many_cycles = refl;
  too_great_seed = refl;
  no_match = refl;
  no_match_listed = refl;
  sign = refl;
  nothing = refl;
  profile_0 = refl;
  profile_3 = refl;
  profile_x = refl;
  first_0 = refl;
  first_too_great = refl;
  number_first = refl;
  then_files = refl;
  files_listed = refl;
  then_mode = refl;
}
