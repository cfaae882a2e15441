-- What is counted of a cycle, and along a run.
use Rattle.std.specs.Prelude.{ℕ, ℤ, ◌+◌, ◌==◌, List, [], ◌∷◌, if◌then◌else◌}
use Rattle.grammar.specs.declared.resolved_names.Intrinsic.{Intrinsic}
use Rattle.grammar.specs.declared.resolved_names.Intrinsic.TheVariants.{Scan, Cannon, Drive, Damage, Speed, LocX, LocY, Rand}
use Rattle.grammar.specs.declared.resolved_names.Intrinsic.TheVariants.{Sqrt, Sin, Cos, Tan, Atan}
use Rattle.code.specs.Meaning.{EvaluationResult, Gives, Awaits}
use Rattle.code.specs.declared.want.Want.{Want}
use Rattle.code.specs.declared.want.Want.TheVariants.{Ask}
use Rattle.cycles.specs.declared.counted.Counted.{Counted}
use Rattle.cycles.specs.declared.counted.Counted.TheVariants.{Cycles, Questions, QuestionsOf}

-- the place of a function among the intrinsic ones
abbrev pub kind_of : Intrinsic → ℕ
kind_of Scan = 0
kind_of Cannon = 1
kind_of Drive = 2
kind_of Damage = 3
kind_of Speed = 4
kind_of LocX = 5
kind_of LocY = 6
kind_of Rand = 7
kind_of Sqrt = 8
kind_of Sin = 9
kind_of Cos = 10
kind_of Tan = 11
kind_of Atan = 12

-- what a cycle counts that asks nothing
abbrev pub quiet : Counted → ℕ
quiet Cycles = 1
quiet Questions = 0
quiet (QuestionsOf kind) = 0

-- what a cycle counts that asks this function
abbrev pub asking : Counted → Intrinsic → ℕ
asking Cycles asked = 1
asking Questions asked = 1
asking (QuestionsOf kind) asked = if kind_of kind == kind_of asked then 1 else 0

-- what a cycle counts that wants this
abbrev pub counted : Counted → Want → ℕ
counted u (Ask asked arguments) = asking u asked
counted u want = quiet u

-- what the cycle counts for which a run waits
abbrev pub counts : {A : Type 0} → Counted → EvaluationResult A → ℕ
counts u (Awaits want) = counted u want
counts u (Gives value vars rest) = quiet u

-- What the cycles of a run count in which it got these replies. A run goes on with each reply.
abbrev pub spent : {A : Type 0} → Counted → (List ℤ → EvaluationResult A) → List ℤ → ℕ
spent u run [] = 0
spent u run (reply ∷ replies) = counts u (run []) + spent u (λ rest. run (reply ∷ rest)) replies
