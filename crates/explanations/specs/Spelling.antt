-- Names that are spelled nearly the same.
use Rattle.std.specs.Prelude.{ℕ, ◌∷◌, [], List, Bool, true, false, ◌==◌, ◌&&◌, ◌||◌, if◌then◌else◌}
use Rattle.std.specs.Str.{bytes_eq}

-- the same letters, but for the first two, which are swapped
abbrev pub are_swapped : List ℕ → List ℕ → Bool
are_swapped (a ∷ b ∷ rest) (c ∷ d ∷ other) = (a == d) && (b == c) && bytes_eq rest other
are_swapped _ _ = false

-- at the beginning one letter is another one, is missing, or is swapped with the next one; all others are the same
abbrev pub differ_once : List ℕ → List ℕ → Bool
differ_once (a ∷ rest) (b ∷ other) = bytes_eq rest other || bytes_eq rest (b ∷ other)
    || bytes_eq (a ∷ rest) other || are_swapped (a ∷ rest) (b ∷ other)
differ_once (a ∷ []) [] = true
differ_once [] (b ∷ []) = true
differ_once _ _ = false

-- the same letters, but for one position at which they differ
abbrev pub are_near : List ℕ → List ℕ → Bool
are_near (a ∷ rest) (b ∷ other) = if a == b then are_near rest other else differ_once (a ∷ rest) (b ∷ other)
are_near left [] = differ_once left []
are_near [] right = differ_once [] right
