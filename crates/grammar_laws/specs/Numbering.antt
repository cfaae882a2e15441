-- The numbers of names by the rules on names. A source says names one after another. The number of a variable or of a
-- function is the index of its name among the distinct names that were said up to there.
use Rattle.std.specs.Prelude.{◌≡◌, ℕ, ◌+◌, List, [], ◌∷◌, ◌++◌, Bool, true, false, Some, slice_get, if◌then◌else◌}
use Rattle.std.specs.Str.{bytes_eq}
use Rattle.grammar.specs.declared.resolved_names.Callee.{Callee}
use Rattle.grammar.specs.declared.resolved_names.Callee.TheVariants as callee
use Rattle.grammar.specs.declared.resolved_names.Var.{Var}
use Rattle.grammar.specs.declared.resolved_names.Var.TheVariants as var
use Rattle.grammar.specs.Grammar.{Role, Defined, External, Parameter, Local, Called, Mentioned}
use Rattle.grammar.specs.Intrinsics.{intrinsic_named, is_intrinsic}

-- what a source says of names
pub data Saying : Type 0 where
  Says : (role : Role) (name : List ℕ) → Saying  -- a name, and what it is there for
  Ends : Saying  -- the definition of a function ends

-- what was said up to a point, the last first
abbrev pub History : Type 0
History = List Saying

abbrev pub is_among : List ℕ → List (List ℕ) → Bool
is_among name [] = false
is_among name (other ∷ names) = if bytes_eq name other then true else is_among name names

-- the names but for this one
abbrev pub all_but : List ℕ → List (List ℕ) → List (List ℕ)
all_but name [] = []
all_but name (other ∷ names) = if bytes_eq name other then all_but name names else other ∷ all_but name names

-- each name once, at its first occurrence
abbrev pub distinct : List (List ℕ) → List (List ℕ)
distinct [] = []
distinct (name ∷ names) = name ∷ all_but name (distinct names)

-- the number of a name is its index among the distinct names
abbrev pub HasNumber : List (List ℕ) → List ℕ → ℕ → Type 0
HasNumber names name number = slice_get (distinct names) number ≡ Some name

-- the externals that were declared
abbrev pub external_names : History → List (List ℕ)
external_names [] = []
external_names (Says External name ∷ before) = external_names before ++ name ∷ []
external_names (said ∷ before) = external_names before

abbrev pub unless : Bool → List ℕ → List (List ℕ)
unless b name = if b then [] else name ∷ []

-- the variables of the function that is being defined: its parameters, the locals that it declares, and each name that
-- it mentions unless an external of that name was declared before
abbrev pub own_names : History → List (List ℕ)
own_names [] = []
own_names (Ends ∷ before) = []
own_names (Says Defined name ∷ before) = []
own_names (Says Parameter name ∷ before) = own_names before ++ name ∷ []
own_names (Says Local name ∷ before) = own_names before ++ name ∷ []
own_names (Says Mentioned name ∷ before) = own_names before ++ unless (is_among name (external_names before)) name
own_names (said ∷ before) = own_names before

-- how many of them are parameters
abbrev pub parameter_count : History → ℕ
parameter_count [] = 0
parameter_count (Ends ∷ before) = 0
parameter_count (Says Defined name ∷ before) = 0
parameter_count (Says Parameter name ∷ before) =
    if is_among name (own_names before) then parameter_count before else parameter_count before + 1
parameter_count (said ∷ before) = parameter_count before

-- the name of the function that is being defined
abbrev pub defined_name : History → List ℕ
defined_name [] = []
defined_name (Ends ∷ before) = []
defined_name (Says Defined name ∷ before) = name
defined_name (said ∷ before) = defined_name before

-- the functions that were defined or called: the intrinsic functions have no number
abbrev pub function_names : History → List (List ℕ)
function_names [] = []
function_names (Says Defined name ∷ before) = function_names before ++ unless (is_intrinsic name) name
function_names (Says Called name ∷ before) = function_names before ++ unless (is_intrinsic name) name
function_names (said ∷ before) = function_names before

-- what a name means whose mention was said last: a variable of the function, or else an external
abbrev pub IsVariableOf : History → List ℕ → Var → Type 0
IsVariableOf history name (var.Local number) = HasNumber (own_names history) name number
IsVariableOf history name (var.External number) =
    (is_among name (own_names history) ≡ false) × HasNumber (external_names history) name number

-- what a name means whose call was said last: an intrinsic function, or else a function of the file
abbrev pub IsCalleeOf : History → List ℕ → Callee → Type 0
IsCalleeOf history name (callee.Intrinsic i) = intrinsic_named name ≡ Some i
IsCalleeOf history name (callee.Function number) =
    (is_intrinsic name ≡ false) × HasNumber (function_names history) name number
