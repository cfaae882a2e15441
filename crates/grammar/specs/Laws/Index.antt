-- An index of the functions by their names.
use Rattle.std.specs.Prelude.{◌≡◌, ℕ, ◌+◌, ◌-◌, ◌*◌, ◌/◌, ◌%◌, ◌<◌, ◌≤◌, List, [], false, get_or, length}
use Rattle.std.specs.Str.{bytes_eq}
use Rattle.grammar.specs.Pools.{FunctionNames}
use Rattle.grammar.specs.Scope.{only_named}

-- the bucket of a name
unfoldable pub bucket_of : List ℕ → ℕ
bucket_of name = (get_or name (length name - 1) 0 + 16 * get_or name (length name / 2) 0 + length name) % 256

-- the function from which on a name is searched for
abbrev pub start_of : List ℕ → List ℕ → ℕ
start_of name index = get_or index (bucket_of name) 0

-- each function is searched for from itself on, or from one before it
pub record IsIndexed (functions : List FunctionNames) (index : List ℕ) : Type 0 where
  pub starts : (k : ℕ) → k < length functions → start_of (get_or functions k (only_named [])).name index ≤ k

-- the function of this number has this name; others are searched for from no later function than before
pub record Notes (name : List ℕ) (number : ℕ) (old new : List ℕ) : Type 0 where
  pub here : start_of name new ≤ number
  pub others : (other : List ℕ) → start_of other new ≤ start_of other old

-- no function before this number has the name
pub record NoFunctionBefore (number : ℕ) (name : List ℕ) (functions : List FunctionNames) : Type 0 where
  pub none : (k : ℕ) → k < number → k < length functions
      → bytes_eq name (get_or functions k (only_named [])).name ≡ false
