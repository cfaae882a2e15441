-- What an action does to the lists of actions that a builder represents.
use Rattle.std.specs.Prelude.{◌≡◌, ◌+◌, ◌<◌, ◌≤◌, List, [], ◌∷◌, ◌++◌, Some, Result, Ok, Err}
use Rattle.grammar.specs.declared.build.BuildFault.{BuildFault}
use Rattle.grammar.specs.declared.build.BuildFault.TheVariants as build_fault
use Rattle.grammar.specs.declared.actions.Action.{Action}
use Rattle.grammar.specs.declared.actions.Action.TheVariants.{EndFunction}
use Rattle.grammar.specs.Actions.{code_length}
use Rattle.grammar.specs.Beginning.{IsBeginning}
use Rattle.grammar.specs.Following.{Opened, follow_all}
use Rattle.grammar.specs.Profile.{Profile}

-- the profiles that a builder goes by, with the lists of actions that it represents
abbrev pub Representation : Type 1
Representation = Profile → List Action → Type 0

-- a list is represented that the action may follow
pub record MayFollow (before : Representation) (action : Action) : Type 0 where
  pub profile : Profile
  pub acts : List Action
  pub stood : before profile acts
  pub begins : IsBeginning (acts ++ action ∷ [])

-- a list is represented that these actions may follow, one after another
pub record MayFollowAll (before : Representation) (more : List Action) : Type 0 where
  pub profile : Profile
  pub acts : List Action
  pub stood : before profile acts
  pub begins : IsBeginning (acts ++ more)

-- a list is represented that leaves this open
pub record LeavesOpen (before : Representation) (opened : Opened) : Type 0 where
  pub profile : Profile
  pub acts : List Action
  pub stood : before profile acts
  pub opens : follow_all acts [] ≡ Some opened

-- each list represented before, with these actions at its end, is represented after the call
abbrev pub AppendsAll : Representation → Representation → List Action → Type 0
AppendsAll before behind more = (profile : Profile) (acts : List Action) → before profile acts
    → behind profile (acts ++ more)

abbrev pub Appends : Representation → Representation → Action → Type 0
Appends before behind action = AppendsAll before behind (action ∷ [])

-- the code so far and the last NOP are within the profile's limit
abbrev pub FitsWithin : Representation → Type 0
FitsWithin before = (profile : Profile) (acts : List Action) → before profile acts
    → code_length profile acts + 1 ≤ profile.instructions

-- they exceed it
abbrev pub IsOver : Representation → Type 0
IsOver before = (profile : Profile) (acts : List Action) → before profile acts
    → profile.instructions < code_length profile acts + 1

-- the one refusal is of memory, and then memory was refused
abbrev pub Refuses : {A : Type 0} → Result A BuildFault → Type 0 → Type 0
Refuses (Ok x) denied = Unit {0}
Refuses (Err build_fault.Memory) denied = denied
Refuses (Err build_fault.Full) denied = ⊥

-- What the end of a function says of the code so far: `Ok` that it fits with the last NOP, `Full` that it is over the
-- limit, and `Memory` that it fits and memory was refused.
abbrev pub Measures : {A : Type 0} → Result A BuildFault → Type 0 → Representation → Type 0
Measures (Ok x) denied before = FitsWithin before
Measures (Err build_fault.Full) denied before = IsOver before
Measures (Err build_fault.Memory) denied before = denied × FitsWithin before

-- What the answer to an action says: only the end of a function measures the code. Any other action is refused only for
-- want of memory.
abbrev pub Judges : {A : Type 0} → Result A BuildFault → Type 0 → Representation → Action → Type 0
Judges result denied before (EndFunction variables) = Measures result denied before
Judges result denied before action = Refuses result denied
