-- The chain of calls that needs most room: from main on, the callee that decides what its caller needs.
use Rattle.std.specs.Prelude.{◌≡◌, ◌<◌, ◌≤◌, ◌&&◌, ◌⊎◌, ◌++◌, map, ℕ, List, [], ◌∷◌, length, Option, Some, None, nat_le, nat_lt, replicate, set}
use Rattle.std.specs.Prelude.{if◌then◌else◌}
use Rattle.grammar.specs.Profile.{Profile}
use Rattle.grammar.specs.Resolved.{IsAmong, AreDistinct, InBody}
use Rattle.trees.specs.Laws.{UnnamedFunction, told_trees, without_names}
use Rattle.trees.specs.Trees.{function_tree}
use Rattle.trees.specs.declared.tree.Function.{Function}
use Rattle.room.specs.declared.chains.Measure.{Measure}
use Rattle.room.specs.declared.chains.Measure.TheVariants.{Words, Frames}
use Rattle.room.specs.declared.constructs.Calls.{Calls}
use Rattle.room.specs.declared.room.Room.{Room}
use Rattle.room.specs.Rooms.{words}
use Rattle.room.specs.Tables.{needs_in, table_within, told_need}

-- the words or the frames of a need
abbrev pub measured : Measure → Option Room → Option ℕ
measured measure None = None
measured Words (Some r) = Some r.words
measured Frames (Some r) = Some r.frames

-- what the profile doesn't give: frames, if only they are too many, and else words
abbrev pub scarce : Profile → Option Room → Measure
scarce p None = Words
scarce p (Some r) = if nat_le r.words p.words && nat_lt p.frames r.frames then Frames else Words

-- what functions need, if all of them needed nothing
abbrev pub unburdened : List (Option Room)
unburdened = replicate 256 (words 0)

-- if all but this one needed nothing
abbrev pub only : ℕ → List (Option Room) → List (Option Room)
only k needs = set unburdened k (needs_in needs k)

-- No call decides what a function needs: if its callees needed nothing, it would need as much.
abbrev pub StandsAlone : Measure → Calls → UnnamedFunction → Type 0
StandsAlone measure calls f =
    measured measure (told_need calls.short (needs_in unburdened) f) ≡
    measured measure (told_need calls.short (needs_in calls.needs) f)

-- This callee decides what a function needs: with it alone, and nothing for its other callees, the function needs as
-- much.
abbrev pub NeedsBy : Measure → Calls → UnnamedFunction → ℕ → Type 0
NeedsBy measure calls f k =
    measured measure (told_need calls.short (needs_in (only k calls.needs)) f) ≡
    measured measure (told_need calls.short (needs_in calls.needs) f)

abbrev pub numbers : List UnnamedFunction → List ℕ
numbers fs = map (λ (f : UnnamedFunction). f.number) fs

-- what these functions call is among them
pub record CallNoOthers (fs : List UnnamedFunction) : Type 0 where
  pub externals : ℕ
  pub count : ℕ
  pub few : count ≤ 256
  pub there : (k : ℕ) → k < count → IsAmong k (numbers fs)
  pub within : (f : UnnamedFunction) → IsAmong f fs → InBody externals f.variables count f.body

-- one of these functions decides by its call what this one needs
abbrev pub Decides : Measure → Calls → List Function → Function → ℕ → Type 0
Decides measure calls functions caller k = IsAmong k (numbers (told_trees functions))
    × NeedsBy measure calls (without_names caller.number (function_tree caller)) k

-- The function of a number, which is one of these, calls the other one, and that decides what it needs: it doesn't
-- stand alone.
pub record IsLink (measure : Measure) (calls : Calls) (fs : List UnnamedFunction) (number other : ℕ) : Type 0 where
  pub caller : UnnamedFunction
  pub among : IsAmong caller fs
  pub numbered : caller.number ≡ number
  pub there : IsAmong other (numbers fs)
  pub needs : NeedsBy measure calls caller other
  pub less : StandsAlone measure calls caller → ⊥

-- each of these numbers and the one after it
abbrev pub AreLinked : Measure → Calls → List UnnamedFunction → List ℕ → Type 0
AreLinked measure calls fs [] = Unit {0}
AreLinked measure calls fs (k ∷ []) = Unit {0}
AreLinked measure calls fs (k ∷ (j ∷ ks)) = IsLink measure calls fs k j × AreLinked measure calls fs (j ∷ ks)

-- the function of a number, which is one of these, stands alone
pub record IsLast (measure : Measure) (calls : Calls) (fs : List UnnamedFunction) (number : ℕ) : Type 0 where
  pub function : UnnamedFunction
  pub among : IsAmong function fs
  pub numbered : function.number ≡ number
  pub alone : StandsAlone measure calls function

-- A function of these isn't linked: it came before, or stands alone. So it is if each function that these call is one
-- of them.
abbrev pub MayEnd : Measure → Calls → List UnnamedFunction → List ℕ → ℕ → Type 0
MayEnd measure calls fs before last = CallNoOthers fs → IsAmong last (numbers fs) →
    IsAmong last before ⊎ IsLast measure calls fs last

-- The functions before the last one are there once. The last one came before, or stands alone.
pub record IsWhole (measure : Measure) (calls : Calls) (fs : List UnnamedFunction) (chain : List ℕ) : Type 0 where
  pub before : List ℕ
  pub last : ℕ
  pub is : chain ≡ before ++ last ∷ []
  pub once : AreDistinct before
  pub ends : IsAmong last before ⊎ IsLast measure calls fs last

abbrev pub Begins : ℕ → List ℕ → Type 0
Begins main [] = ⊥
Begins main (k ∷ ks) = k ≡ main

-- what each function needs, through at most as many calls within one another as there are functions
abbrev pub all_needed : Profile → List UnnamedFunction → Calls
all_needed p fs = record { short = p.short_circuit; needs = table_within p.short_circuit fs (length fs) }

-- functions from main on, each of which needs what it needs by the call of the next one, up to where no call decides
-- it, or to one that came before
pub record IsChain (p : Profile) (fs : List UnnamedFunction) (main : ℕ) (chain : List ℕ) : Type 0 where
  pub begins : Begins main chain
  pub linked : AreLinked (scarce p (needs_in (all_needed p fs).needs main)) (all_needed p fs) fs chain
  pub whole : IsWhole (scarce p (needs_in (all_needed p fs).needs main)) (all_needed p fs) fs chain
