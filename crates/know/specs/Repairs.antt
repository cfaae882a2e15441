-- What a fix does: with it the source gets further.
use Rattle.std.specs.Prelude.{◌≡◌, ◌⊎◌, ◌++◌, ◌∷◌, ◌+◌, ◌-◌, ℕ, List, Bool, true, false, Err, take, drop, length}
use Rattle.derivations.specs.Compiling.{Compiles}
use Rattle.grammar.specs.Compiled.{compiled}
use Rattle.grammar.specs.Profile.{Profile}
use Rattle.grammar.specs.declared.diagnostics.Code.{Code}
use Rattle.grammar.specs.declared.diagnostics.Code.TheVariants as fault_code
use Rattle.grammar.specs.declared.diagnostics.Diagnostic.{Diagnostic}
use Rattle.know.specs.declared.fixes.Fix.{Fix}

-- a source with a fix
abbrev pub edited : List ℕ → Fix → List ℕ
edited source fix = take fix.start source ++ (fix.text.bytes.items ++ drop fix.end source)

-- a source with the end of a line before its last bytes, which are so many
abbrev pub broken : ℕ → List ℕ → List ℕ
broken left source = take (length source - left) source ++ (10 ∷ drop (length source - left) source)

abbrev pub a_line_down : Diagnostic → Diagnostic
a_line_down fault = record { line = fault.line + 1; code = fault.code }

-- The first fault of a source stands before its last bytes: the end of a line there leaves it on its line.
pub record StandsBefore (profile : Profile) (left : ℕ) (source : List ℕ) (fault : Diagnostic) : Type 0 where
  pub is : compiled profile source ≡ Err fault
  pub stays : compiled profile (broken left source) ≡ Err fault

-- It stands among them: the end of a line there moves it a line down.
pub record StandsAmong (profile : Profile) (left : ℕ) (source : List ℕ) (fault : Diagnostic) : Type 0 where
  pub is : compiled profile source ≡ Err fault
  pub moves : compiled profile (broken left source) ≡ Err (a_line_down fault)

-- a fault of a source each of whose tokens fits: nothing defines a function
abbrev pub lacks_function : Code → Bool
lacks_function fault_code.FunctionNotDefined = true
lacks_function fault_code.NoMainFunction = true
lacks_function code = false

-- The first fault of the other source stands nearer to the end: among its last bytes, which are so many that the fault
-- of this one stands before them. If each token of this one fits, so do the other one's.
pub record IsNearer (profile : Profile) (source : List ℕ) (fault : Diagnostic) (other : List ℕ) : Type 0 where
  pub next : Diagnostic
  pub left : ℕ
  pub before : StandsBefore profile left source fault
  pub among : StandsAmong profile left other next
  pub fits : lacks_function fault.code ≡ true → lacks_function next.code ≡ true

-- Each token of the other source fits, and one of this one doesn't.
pub record Fits (profile : Profile) (fault : Diagnostic) (other : List ℕ) : Type 0 where
  pub next : Diagnostic
  pub is : compiled profile other ≡ Err next
  pub lacks : lacks_function next.code ≡ true
  pub does_not : lacks_function fault.code ≡ false

-- The other source gets further than this one, whose first fault is given.
abbrev pub GetsFurther : Profile → List ℕ → Diagnostic → List ℕ → Type 0
GetsFurther profile source fault other =
    Compiles profile other ⊎ (Fits profile fault other ⊎ IsNearer profile source fault other)

-- with it the source gets further
abbrev pub Repairs : Profile → List ℕ → Diagnostic → Fix → Type 0
Repairs profile source fault fix = GetsFurther profile source fault (edited source fix)

-- with it a source compiles
abbrev pub StillCompiles : Profile → List ℕ → Fix → Type 0
StillCompiles profile source fix = Compiles profile (edited source fix)
