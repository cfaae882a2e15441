-- Hits that are known, worked out from the definition by the prover.
use Rattle.std.specs.Prelude.{◌≡◌, ℕ, true, false, pos}
use Rattle.grammar.specs.declared.resolved_names.Intrinsic.TheVariants.{Cannon, Drive}
use Rattle.arena.specs.Field.{Field}
use Rattle.arena.specs.Still.{moved_times}
use Rattle.arena.specs.KnownFields.{asked, dead, two}
use Rattle.watching.specs.Hits.{hits}

-- robot 0 fires from (1000, 1000) to the east; the missile flies two updates to (2000, 1000)
abbrev pub fired : ℕ → ℕ → Field
fired x y = asked (two 1000 1000 x y) 0 Cannon (pos 0) (pos 100)

-- the field before the update of its burst, and robot 1 at a place
abbrev pub bursts_near : ℕ → ℕ → Field
bursts_near x y = moved_times 1 (fired x y)

-- robot 0 fires at its own feet
abbrev pub at_its_feet : ℕ → ℕ → Field
at_its_feet x y = asked (two 1000 1000 x y) 0 Cannon (pos 0) (pos 0)

-- robot 1 fires at robot 0, which is dead when that bursts
abbrev pub at_the_dead : Field
at_the_dead = moved_times 2 (asked dead 1 Cannon (pos 180) (pos 150))

pub record KnownHits : Type 0 where
  pub at_40_metres : hits (bursts_near 2400 1000) 0 ≡ true
  pub past_40_metres : hits (bursts_near 2401 1000) 0 ≡ false
  pub still_in_the_air : hits (fired 2400 1000) 0 ≡ false
  pub who_is_hurt_hits_nobody : hits (bursts_near 2400 1000) 1 ≡ false
  pub who_drives_away_is_not_hurt : hits (asked (bursts_near 2400 1000) 1 Drive (pos 0) (pos 100)) 0 ≡ false
  pub itself_alone : hits (at_its_feet 9000 9000) 0 ≡ false
  pub itself_and_another : hits (at_its_feet 1300 1000) 0 ≡ true
  pub the_dead_are_not_hurt : hits at_the_dead 1 ≡ false
  pub missile_of_the_dead : hits dead 0 ≡ true
