-- What is known of the source files: the word that names each, and the bytes that its device gives.
use Rattle.std.specs.Prelude.{◌≡◌, ℕ, List, Option, Some, map}
use Rattle.tokens.specs.Device.{Device}
use Rattle.series.specs.Compiling.{SourceFile}

-- the bytes that each feed still has, if they are known
abbrev pub known_to_come : {F : Type 0} → (F → Device) → List F → List (Option (List ℕ))
known_to_come device feeds = map (λ feed. (device feed).to_come) feeds

-- the sources have these words, and their bytes are known
pub record AreSources (sources : List SourceFile) (words : List (List ℕ)) (known : List (Option (List ℕ))) : Type 0
  where
    pub named : map (λ s. s.word) sources ≡ words
    pub bytes : map (λ s. Some s.bytes) sources ≡ known
