-- A battle: robots on the field, cycle by cycle, from the start of a match to its end.
use Rattle.std.specs.Prelude.{ℕ, ℤ, pos, zero, suc, ◌+◌, ◌%◌, ◌==◌, ◌&&◌, Bool, nat_lt, nat_le, if◌then◌else◌, List, [], ◌∷◌, ◌++◌, length, map, replicate, slice_index_or, slice_set}
use Rattle.std.specs.List.{range_with_len}
use Rattle.arena.specs.Answer.{answer}
use Rattle.arena.specs.Field.{Field, damage_of, robot_at, is_live_at, live_count}
use Rattle.arena.specs.Moved.{moved}
use Rattle.arena.specs.Start.{start}
use Rattle.code.specs.declared.want.Want.{Want}
use Rattle.code.specs.declared.want.Want.TheVariants.{Quiet, Ask, Restart}

-- A robot is what it wants next, given its trace: the replies that it got since it began.
abbrev pub Behaviour : Type 0
Behaviour = List ℤ → Want

pub record BattleState : Type 0 where
  pub field : Field
  pub traces : List (List ℤ)

-- What a want of the robot with this index makes of the field and of its trace. If nothing is asked, the reply is 0.
unfoldable pub after_want : Want → ℕ → Field → List ℤ → Field × List ℤ
after_want Quiet i field trace = (field, trace ++ pos 0 ∷ [])
after_want (Ask intrinsic arguments) i field trace =
    let asked = answer field i intrinsic arguments in (asked.1, trace ++ asked.0 ∷ [])
after_want Restart i field trace = (field, [])

-- one cycle of one robot: a dead one does nothing
unfoldable pub robot_turn : Behaviour → ℕ → Field → List ℤ → Field × List ℤ
robot_turn robot i field trace = if is_live_at field i then after_want (robot trace) i field trace else (field, trace)

-- an update of the field follows each cycle whose number is a multiple of this
abbrev pub update_cycles : ℕ
update_cycles = 15

unfoldable pub is_due : ℕ → Bool
is_due number = number % update_cycles == 0

unfoldable pub updated : ℕ → BattleState → BattleState
updated number state = if is_due number then record state { field = moved state.field } else state

-- a battle is over after an update that leaves at most one robot alive
unfoldable pub is_over : ℕ → BattleState → Bool
is_over number state = is_due number && nat_le (live_count state.field) 1

-- the least of the next numbers after n that passes, or the last of them
unfoldable pub first_passing : (ℕ → Bool) → ℕ → ℕ → ℕ
first_passing passes n zero = n
first_passing passes n (suc count) = if passes (n + 1) then n + 1 else first_passing passes (n + 1) count

-- the start of the match of this number: n robots, with no replies yet
unfoldable pub first_state : ℕ → ℕ → ℕ → BattleState
first_state n seed number = record { field = start seed number n; traces = replicate n [] }

-- the damage of each of n robots, in percent
unfoldable pub damages_of : ℕ → Field → List ℕ
damages_of n field = map (λ i. damage_of (robot_at field i)) (range_with_len 0 n)

-- how a battle ends: after how many cycles, and with which damages
pub record Outcome : Type 0 where
  pub cycles : ℕ
  pub damages : List ℕ

unfoldable pub is_survivor : Outcome → ℕ → Bool
is_survivor outcome i = nat_lt (slice_index_or outcome.damages i 100) 100

module _ (robots : List Behaviour) where
  -- past the last robot there is one that asks nothing
  unfoldable pub behaviour_at : ℕ → Behaviour
  behaviour_at i = slice_index_or robots i (λ trace. Quiet)

  -- the turn of one robot, and of the first n
  unfoldable pub turn : ℕ → BattleState → BattleState
  turn i state =
      let stepped = robot_turn (behaviour_at i) i state.field (slice_index_or state.traces i []) in
      record { field = stepped.0; traces = slice_set state.traces i stepped.1 }

  unfoldable pub turns : ℕ → BattleState → BattleState
  turns zero state = state
  turns (suc n) state = turn n (turns n state)

  -- the cycle of this number; the first is 1
  unfoldable pub cycle : ℕ → BattleState → BattleState
  cycle number state = updated number (turns (length robots) state)

  unfoldable pub state_after : BattleState → ℕ → BattleState
  state_after first zero = first
  state_after first (suc n) = cycle (suc n) (state_after first n)

  -- the least cycle after which the battle is over, or its limit
  unfoldable pub last_cycle : BattleState → ℕ → ℕ
  last_cycle first limit = first_passing (λ number. is_over number (state_after first number)) 0 limit

  -- the battle in the match of this number, with this seed and limit of cycles
  unfoldable pub battle : (seed number limit : ℕ) → Outcome
  battle seed number limit =
      let first = first_state (length robots) seed number in
      let cycles = last_cycle first limit in
      record { cycles = cycles; damages = damages_of (length robots) (state_after first cycles).field }
