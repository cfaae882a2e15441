-- What a film shows of runs that are known, worked out from the definition by the prover.
use Rattle.std.specs.Prelude.{◌≡◌, ℕ, pos, false, true, None, Some}
use Rattle.watching.specs.declared.runs.Run.{Run}
use Rattle.watching.specs.declared.runs.Stance.{Stance}
use Rattle.watching.specs.Runs.{news_of}

-- an update's place of a robot that drives east
abbrev pub at : (cycle x y heading : ℕ) → Stance
at cycle x y heading = record { cycle = cycle; x = x; y = y; heading = heading; speed = 50; damage = 0 }

-- it has come 1 metre in its last update, and a film doesn't have that place
abbrev pub driving : Run
driving = record {
  last = Some (at 15 110 100 0);
  way = Some (record { east = pos 10; north = pos 0 });
  is_told = false;
}

pub record KnownRuns : Type 0 where
  pub the_start : news_of (record { last = None; way = None; is_told = false }) (at 0 100 100 0)
      ≡ record { end = None; begin = Some (at 0 100 100 0) }
  -- places are rounded to a tenth of a metre
  pub straight_on : news_of driving (at 30 121 100 0) ≡ record { end = None; begin = None }
  pub slower : news_of driving (at 30 118 100 0) ≡ record { end = Some (at 15 110 100 0); begin = None }
  pub another_heading : news_of driving (at 30 120 100 90)
      ≡ record { end = Some (at 15 110 100 0); begin = Some (at 30 120 100 90) }
  -- a place that the film has isn't told again
  pub told_already : news_of (record driving { is_told = true }) (at 30 120 100 90)
      ≡ record { end = None; begin = Some (at 30 120 100 90) }
