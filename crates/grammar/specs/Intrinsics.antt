-- The intrinsic functions: their names, and how many arguments each uses.
use Rattle.std.specs.Prelude.{ℕ, List, [], ◌∷◌, Bool, Option, codes, is_some}
use Rattle.std.specs.List.{find}
use Rattle.std.specs.Str.{bytes_eq}
use Rattle.grammar.specs.declared.resolved_names.Intrinsic.{Intrinsic}
use Rattle.grammar.specs.declared.resolved_names.Intrinsic.TheVariants.{Scan, Cannon, Drive, Damage, Speed, LocX, LocY, Rand}
use Rattle.grammar.specs.declared.resolved_names.Intrinsic.TheVariants.{Sqrt, Sin, Cos, Tan, Atan}

abbrev pub argument_count : Intrinsic → ℕ
argument_count Scan = 2
argument_count Cannon = 2
argument_count Drive = 2
argument_count Damage = 0
argument_count Speed = 0
argument_count LocX = 0
argument_count LocY = 0
argument_count Rand = 1
argument_count Sqrt = 1
argument_count Sin = 1
argument_count Cos = 1
argument_count Tan = 1
argument_count Atan = 1

unfoldable pub intrinsic_name : Intrinsic → List ℕ
intrinsic_name Scan = codes "scan"
intrinsic_name Cannon = codes "cannon"
intrinsic_name Drive = codes "drive"
intrinsic_name Damage = codes "damage"
intrinsic_name Speed = codes "speed"
intrinsic_name LocX = codes "loc_x"
intrinsic_name LocY = codes "loc_y"
intrinsic_name Rand = codes "rand"
intrinsic_name Sqrt = codes "sqrt"
intrinsic_name Sin = codes "sin"
intrinsic_name Cos = codes "cos"
intrinsic_name Tan = codes "tan"
intrinsic_name Atan = codes "atan"

abbrev pub all_intrinsics : List Intrinsic
all_intrinsics = Scan ∷ Cannon ∷ Drive ∷ Damage ∷ Speed ∷ LocX ∷ LocY ∷ Rand ∷ Sqrt ∷ Sin ∷ Cos ∷ Tan ∷ Atan ∷ []

unfoldable pub intrinsic_named : List ℕ → Option Intrinsic
intrinsic_named name = find (λ i. bytes_eq name (intrinsic_name i)) all_intrinsics

abbrev pub is_intrinsic : List ℕ → Bool
is_intrinsic name = is_some (intrinsic_named name)
