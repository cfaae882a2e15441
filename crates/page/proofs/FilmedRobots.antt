-- The robots of a film are those of its files.
use Rattle.std.proofs.Common.{◌≡◌, ◌≤◌, ◌<◌, ◌-◌, ℕ, zero, suc, List, [], ◌∷◌, length, take, Some, arith}
use Rattle.std.specs.Prelude.{min, slice_get}
use Rattle.battles.specs.Pairing.{paired}
use Rattle.code.specs.Generation.{Program}
use Rattle.watching.specs.Pilot.{Pilot}
use Rattle.watching.specs.Played.{codes_of}

-- they are two at least
pub two_paired : {A : Type 0} (l : List A) → 0 < length l → 2 ≤ length (paired l)
two_paired [] some = absurd (omega (arith, some))
two_paired (x ∷ []) some = omega arith
two_paired (x ∷ y ∷ l) some = omega arith

-- a robot's is that of its number, or the last
pub paired_at : {A : Type 0} (l : List A) (i : ℕ) (x : A) → i < length (paired l)
    → slice_get l (min i (length l - 1)) ≡ Some x → slice_get (paired l) i ≡ Some x
paired_at [] i a inside here = absurd (omega (arith, inside))
paired_at (x ∷ []) zero a inside here = here
paired_at (x ∷ []) (suc zero) a inside here = here
paired_at (x ∷ []) (suc (suc i)) a inside here = absurd (omega (arith, inside))
paired_at (x ∷ y ∷ l) i a inside here =
    let same : min i (length (x ∷ y ∷ l) - 1) ≡ i = omega (arith, inside) in rw same at here

-- of four pilots as many as robots
pub pilots_paired : (l : List Program) (a b c d : Pilot) → 0 < length l → length l ≤ 4
    → (0 < length (paired l) → slice_get (paired l) 0 ≡ Some a.code)
    → (1 < length (paired l) → slice_get (paired l) 1 ≡ Some b.code)
    → (2 < length (paired l) → slice_get (paired l) 2 ≡ Some c.code)
    → (3 < length (paired l) → slice_get (paired l) 3 ≡ Some d.code)
    → codes_of (take (length (paired l)) (a ∷ b ∷ c ∷ d ∷ [])) ≡ paired l
pilots_paired [] a b c d some most first second third fourth = absurd (omega (arith, some))
pilots_paired (x ∷ []) a b c d some most first second third fourth = cc (first (omega arith), second (omega arith))
pilots_paired (x ∷ y ∷ []) a b c d some most first second third fourth =
    cc (first (omega arith), second (omega arith))
pilots_paired (x ∷ y ∷ z ∷ []) a b c d some most first second third fourth =
    cc (first (omega arith), second (omega arith), third (omega arith))
pilots_paired (x ∷ y ∷ z ∷ w ∷ []) a b c d some most first second third fourth =
    cc (first (omega arith), second (omega arith), third (omega arith), fourth (omega arith))
pilots_paired (x ∷ y ∷ z ∷ w ∷ v ∷ l) a b c d some most first second third fourth = absurd (omega (arith, most))
