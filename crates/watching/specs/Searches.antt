-- In which cycle of a match something happens to a robot.
use Rattle.std.specs.Prelude.{◌≡◌, ◌≢◌, ◌<◌, ◌≤◌, ◌+◌, ◌≤ℤ◌, ℕ, ℤ, pos, Bool, ◌&&◌, true, false, if◌then◌else◌, List, get_or, length, Option, Some, None}
use Rattle.arena.specs.Field.{Field, damage_of, is_live_at, robot_at}
use Rattle.arena.specs.Arena.{is_live}
use Rattle.arena.specs.Representing.{RepresentsField}
use Rattle.battles.specs.Battle.{Behaviour, BattleState, is_due, state_after, turns}
use Rattle.code.specs.declared.want.Want.TheVariants.{Ask, Quiet}
use Rattle.code.specs.declared.want.Want.TheVariants as want
use Rattle.grammar.specs.declared.resolved_names.Var.TheVariants.{Local}
use Rattle.code.specs.Generation.{Program}
use Rattle.code.specs.Machine.{Machine, reached, read_variable, started_machine, want_code}
use Rattle.code.specs.ReachedMachines.{IsReached}
use Rattle.watching.specs.Games.{Game}
use Rattle.watching.specs.Pilot.{Pilot}
use Rattle.watching.specs.declared.sought.Glance.{Glance}
use Rattle.watching.specs.declared.sought.Sought.{Sought}
use Rattle.watching.specs.declared.sought.Sought.TheVariants.{Address, Question, Restart, Hurt, Hit, Change, Value, LocalChange, LocalValue}
use Rattle.watching.specs.declared.searches.SoughtCycle.{SoughtCycle}
use Rattle.watching.specs.declared.searches.SoughtCycle.TheVariants.{After, Before}
use Rattle.watching.specs.Hits.{hits}
use Rattle.watching.specs.Moments.{last_of, replies_of, wanted}

-- where a robot's program is at a state
abbrev pub state_at : Program → ℕ → BattleState → Machine
state_at program i state = reached program (started_machine program) (replies_of state i)

-- Two instructions are both marked, in one life of a function's variables: these begin at the same word. A restart of
-- main begins no other life of main's variables: it makes them 0.
abbrev pub IsOneLife : List Bool → (at home at' home' : ℕ) → Type 0
IsOneLife marks at home at' home' = (get_or marks at false ≡ true) × (get_or marks at' false ≡ true) × (home ≡ home')

-- what is sought shows in the cycle of a number, between the states before and after it
abbrev pub Shows : Sought → List Behaviour → Program → (i cycle : ℕ) → (before after : BattleState) → Type 0
Shows (Address marks most) robots program i cycle before after =
    (get_or marks.now (state_at program i after).at false ≡ true) × (length (state_at program i after).frames ≤ most)
Shows (Question function least most) robots program i cycle before after =
    ((arguments : List ℤ) × (wanted robots i before ≡ Ask function arguments))
    × (least ≤ℤ last_of (replies_of after i)) × (last_of (replies_of after i) ≤ℤ most)
Shows Restart robots program i cycle before after = wanted robots i before ≡ want.Restart
Shows Hurt robots program i cycle before after =
    damage_of (robot_at before.field i) < damage_of (robot_at after.field i)
Shows Hit robots program i cycle before after =
    (is_due cycle && hits (turns robots (length robots) before).field i) ≡ true
Shows (Change variable) robots program i cycle before after =
    read_variable (state_at program i after) variable ≢ read_variable (state_at program i before) variable
Shows (Value variable value) robots program i cycle before after =
    read_variable (state_at program i after) variable ≡ value
Shows (LocalChange marks number) robots program i cycle before after =
    IsOneLife marks.now (state_at program i before).at (state_at program i before).home (state_at program i after).at
    (state_at program i after).home
    ×
    (read_variable (state_at program i after) (Local number) ≢
    read_variable (state_at program i before) (Local number))
Shows (LocalValue marks number value) robots program i cycle before after =
    (get_or marks.now (state_at program i after).at false ≡ true)
    × (read_variable (state_at program i after) (Local number) ≡ value)

-- it happens to a robot in the cycle after n: the robot lives to begin it, and it shows
pub record Happens (robots : List Behaviour) (program : Program) (opening : BattleState) (i : ℕ) (sought : Sought)
    (n : ℕ) :
    Type 0 where
  pub lives : is_live_at (state_after robots opening n).field i ≡ true
  pub shows : Shows sought robots program i (n + 1) (state_after robots opening n) (state_after robots opening (n + 1))

-- The least cycle later than one, up to a match's last, in which something happens: `Happens n` is of cycle n + 1.
abbrev pub IsNext : (ℕ → Type 0) → (after last : ℕ) → Option ℕ → Type 0
IsNext H after last None = (n : ℕ) → after ≤ n → n < last → H n → ⊥
IsNext H after last (Some cycle) = (before : ℕ) × (cycle ≡ before + 1) × (after ≤ before) × (before < last) × H before
    × ((n : ℕ) → after ≤ n → n < before → H n → ⊥)

-- the greatest cycle before one
abbrev pub IsLast : (ℕ → Type 0) → (limit last : ℕ) → Option ℕ → Type 0
IsLast H limit last None = (n : ℕ) → n + 1 < limit → n < last → H n → ⊥
IsLast H limit last (Some cycle) = (before : ℕ) × (cycle ≡ before + 1) × (cycle < limit) × (before < last) × H before
    × ((n : ℕ) → before < n → n + 1 < limit → n < last → H n → ⊥)

-- the one of both that is looked for
abbrev pub IsSoughtCycle : SoughtCycle → (ℕ → Type 0) → (last : ℕ) → Option ℕ → Type 0
IsSoughtCycle (After cycle) H last found = IsNext H cycle last found
IsSoughtCycle (Before cycle) H last found = IsLast H cycle last found

-- it happens in the cycle after n, which is later than another one, or isn't found there
abbrev pub IsFound : (ℕ → Type 0) → (n after : ℕ) → Option ℕ → Type 0
IsFound H n after None = after ≤ n → H n → ⊥
IsFound H n after (Some cycle) = (cycle ≡ n + 1) × (after < cycle) × H n

-- the value of the variable that is sought, 0 if none is
abbrev pub value_of : Sought → Machine → ℤ
value_of (Change variable) state = read_variable state variable
value_of (Value variable value) state = read_variable state variable
value_of (LocalChange marks number) state = read_variable state (Local number)
value_of (LocalValue marks number value) state = read_variable state (Local number)
value_of _ state = pos 0

-- what a glance at a robot sees
pub record IsGlanced (game : Game) (seat : Pilot) (i : ℕ) (sought : Sought) (glance : Glance) : Type 0 where
  pub alive : glance.is_alive ≡ is_live game.arena i
  pub wanted : (trace : List ℤ) → IsReached seat.state seat.code trace
      → glance.wanted ≡ (if is_live game.arena i then want_code seat.code trace else Quiet)
  pub word : glance.word ≡ last_of seat.state.words
  pub damage : (f : Field) → RepresentsField game.arena f → glance.damage ≡ damage_of (robot_at f i)
  pub value : glance.value ≡ value_of sought seat.state
  pub address : glance.address ≡ seat.state.at
  pub home : glance.home ≡ seat.state.home
  pub frames : glance.frames ≡ length seat.state.frames

-- what is sought seems to happen between two glances, in a cycle in which the robot hits another one or doesn't
abbrev pub Seems : Sought → (before after : Glance) → (is_hit : Bool) → Type 0
Seems (Address marks most) before after is_hit = (get_or marks.now after.address false ≡ true) × (after.frames ≤ most)
Seems (Question function least most) before after is_hit =
    ((arguments : List ℤ) × (before.wanted ≡ Ask function arguments)) × (least ≤ℤ after.word) × (after.word ≤ℤ most)
Seems Restart before after is_hit = before.wanted ≡ want.Restart
Seems Hurt before after is_hit = before.damage < after.damage
Seems Hit before after is_hit = is_hit ≡ true
Seems (Change variable) before after is_hit = after.value ≢ before.value
Seems (Value variable value) before after is_hit = after.value ≡ value
Seems (LocalChange marks number) before after is_hit =
    IsOneLife marks.now before.address before.home after.address after.home × (after.value ≢ before.value)
Seems (LocalValue marks number value) before after is_hit =
    (get_or marks.now after.address false ≡ true) × (after.value ≡ value)
