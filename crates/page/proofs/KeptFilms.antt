-- What a film keeps: its sheet, and its stretch.
use Rattle.std.proofs.Common.{◌≡◌, ℕ, ◌∷◌, Option, Some, None, refl}
use Rattle.page.specs.Asking.{stretch_numbers}
use Rattle.page.specs.declared.stretches.Stretch.{Stretch}

-- what is kept names one sheet, and one stretch
pub same_name : (a b : ℕ) (s t : Option Stretch) → a ∷ stretch_numbers s ≡ b ∷ stretch_numbers t → a ≡ b
same_name a b s t same = cc same

same_fields : (from windows : ℕ) (t : Stretch) → from ≡ t.from → windows ≡ t.windows
    → Some record { from = from; windows = windows } ≡ Some t
same_fields from windows t begin count = rw begin (rw count refl)

pub same_stretch : (a b : ℕ) (s t : Option Stretch) → a ∷ stretch_numbers s ≡ b ∷ stretch_numbers t → s ≡ t
same_stretch a b None None same = refl
same_stretch a b None (Some t) same = absurd (cc same)
same_stretch a b (Some s) None same = absurd (cc same)
same_stretch a b (Some s) (Some t) same =
    let from : s.from ≡ t.from = cc same in
    let windows : s.windows ≡ t.windows = cc same in same_fields s.from s.windows t from windows
