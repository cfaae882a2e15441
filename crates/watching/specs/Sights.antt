-- Sights: what there is to see of a battle, in the order in which it happens.
use Rattle.std.specs.Prelude.{ℕ, ℤ, zero, suc, if◌then◌else◌, List, [], ◌∷◌, ◌++◌, length, slice_index_or}
use Rattle.grammar.specs.declared.resolved_names.Intrinsic.{Intrinsic}
use Rattle.arena.specs.Answer.{answer}
use Rattle.arena.specs.Field.{Field, is_live_at}
use Rattle.arena.specs.Moved.{moved}
use Rattle.battles.specs.Battle.{Behaviour, BattleState, behaviour_at, is_due, state_after, turns}
use Rattle.code.specs.declared.want.Want.{Want}
use Rattle.code.specs.declared.want.Want.TheVariants as want

pub data Sight : Type 0 where
  Begins : Field → Sight  -- the match begins on this field
  Runs : (cycle robot : ℕ) → List ℤ → Sight  -- a live robot runs a cycle; these are its replies so far
  Asks : (cycle robot : ℕ) → Intrinsic → List ℤ → (reply : ℤ) → Field → Sight  -- it asked, and this is the field then
  Restarts : (cycle robot : ℕ) → Sight
  Updates : (cycle : ℕ) → Field → Sight  -- an update is about to be done
  Updated : (cycle : ℕ) → Field → Sight  -- and is done

-- what a live robot does that wants this
abbrev pub want_sights : (cycle i : ℕ) → Want → Field → List ℤ → List Sight
want_sights cycle i want.Quiet field trace = []
want_sights cycle i (want.Ask intrinsic arguments) field trace =
    let answered = answer field i intrinsic arguments in Asks cycle i intrinsic arguments answered.0 answered.1 ∷ []
want_sights cycle i want.Restart field trace = Restarts cycle i ∷ []

-- the turn of a robot that wants this if it lives: of a dead one there is nothing to see
unfoldable pub turn_sights : (cycle i : ℕ) → Want → Field → List ℤ → List Sight
turn_sights cycle i want field trace =
    if is_live_at field i then Runs cycle i trace ∷ want_sights cycle i want field trace else []

-- the update of a cycle, if it has one
unfoldable pub update_sights : (cycle : ℕ) → Field → List Sight
update_sights cycle field = if is_due cycle then Updates cycle field ∷ Updated cycle (moved field) ∷ [] else []

module _ (robots : List Behaviour) where
  -- the turns of the first n robots, in a cycle that begins at a state
  unfoldable pub turns_sights : (cycle : ℕ) → BattleState → ℕ → List Sight
  turns_sights cycle state zero = []
  turns_sights cycle state (suc n) =
      let before = turns robots n state in
      let replies = slice_index_or before.traces n [] in
      turns_sights cycle state n
      ++ turn_sights cycle n (behaviour_at robots n replies) before.field replies

  unfoldable pub cycle_sights : (cycle : ℕ) → BattleState → List Sight
  cycle_sights cycle state =
      turns_sights cycle state (length robots) ++ update_sights cycle (turns robots (length robots) state).field

  -- the first n cycles of a battle
  unfoldable pub sights_of : BattleState → ℕ → List Sight
  sights_of opening zero = []
  sights_of opening (suc n) = sights_of opening n ++ cycle_sights (suc n) (state_after robots opening n)
