-- What room is enough for, from a depth and a number of open frames.
use Rattle.std.specs.Prelude.{ℕ, ◌+◌, ◌≡◌, Option, Some, None}
use Rattle.std.proofs.Common.{arith}
use Rattle.room.specs.declared.room.Room.{Room}
use Rattle.room.specs.Rooms.{words, both, above, IsWithin}

-- from this depth and these frames on it is within these words and frames
abbrev pub Fits : (words frames deep opened : ℕ) → Option Room → Type 0
Fits words frames deep opened need = IsWithin words frames (above deep opened need)

pub fits_left : (w f d o : ℕ) (a b : Option Room) → Fits w f d o (both a b) → Fits w f d o a
fits_left w f d o None b fits = fits
fits_left w f d o (Some a) None fits = absurd fits
fits_left w f d o (Some a) (Some b) fits =
    (grind (arith, fits.0), grind (arith, fits.1))

pub fits_right : (w f d o : ℕ) (a b : Option Room) → Fits w f d o (both a b) → Fits w f d o b
fits_right w f d o None b fits = absurd fits
fits_right w f d o (Some a) None fits = fits
fits_right w f d o (Some a) (Some b) fits =
    (grind (arith, fits.0), grind (arith, fits.1))

-- further up, if a number of words and frames more are in use
pub fits_above : (w f d o n m e g : ℕ) (a : Option Room) → e ≡ d + n → g ≡ o + m → Fits w f d o (above n m a) →
    Fits w f e g a
fits_above w f d o n m e g None deep opened fits = fits
fits_above w f d o n m e g (Some a) deep opened fits =
    (omega (arith, deep, fits.0), omega (arith, opened, fits.1))
