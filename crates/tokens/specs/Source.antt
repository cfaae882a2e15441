-- The source: the bytes of a file before its first byte 26.
use Rattle.std.specs.Prelude.{ℕ, List, [], ◌∷◌, if◌then◌else◌, ◌==◌}

abbrev pub source : List ℕ → List ℕ
source [] = []
source (b ∷ rest) = if b == 26 then [] else b ∷ source rest
