-- The path of a robot: some of the places that it was at, evenly spaced in time.
use Rattle.std.specs.Prelude.{ℕ, ◌≡◌, ◌+◌, ◌*◌, List, length, slice_get}
use Rattle.watching.specs.declared.places.Place.{Place}

-- each `stride`-th place is kept, and a number of them are dropped before the next one
pub record Path : Type 0 where
  pub places : List Place
  pub stride : ℕ
  pub skip : ℕ

-- of all places, the path keeps each `stride`-th one, from the first on
pub record Keeps (path : Path) (places : List Place) : Type 0 where
  pub each : (n : ℕ) → slice_get path.places n ≡ slice_get places (n * path.stride)
  pub next : length places + path.skip ≡ length path.places * path.stride
