-- What a watcher is told of a turn, a cycle and a battle is what there is to see of it.
use Rattle.std.proofs.Common.{◌≡◌, ℕ, ◌+◌, ◌%◌, ◌≢◌, true, false, ℤ, List, [], ◌∷◌, ◌++◌, length, get_or, refl, sym, subst, arith, add-one, append_assoc, append-nil}
use Rattle.std.specs.Prelude.{nat_eq}
use Rattle.std.proofs.lemmas.Bool.Decides.{nat_tests}
use Rattle.arena.specs.Field.{Field, is_live_at}
use Rattle.arena.specs.Moved.{moved}
use Rattle.battles.specs.Battle.{Behaviour, BattleState, behaviour_at, is_due, state_after, turns}
use Rattle.code.specs.declared.want.Want.{Want}
use Rattle.code.specs.Machine.{want_code}
use Rattle.code.specs.ReachedMachines.{IsReached}
use Rattle.watching.specs.Pilot.{Pilot}
use Rattle.watching.specs.Sights.{Runs, Sight, Updated, Updates, cycle_sights, sights_of, turn_sights, turns_sights, update_sights, want_sights}

-- one sight after another, and none
pub two_told : (P : List Sight → Type 0) (sights first second : List Sight) → P ((sights ++ first) ++ second)
    → P (sights ++ (first ++ second))
two_told P sights first second told = subst P (append_assoc sights first second) told

pub none_told : (P : List Sight → Type 0) (sights : List Sight) → P sights → P (sights ++ [])
none_told P sights told = subst P (sym (append-nil sights)) told

-- a live robot's turn, and a dead one's
pub sights_live : (cycle i : ℕ) (w : Want) (f : Field) (trace : List ℤ) → is_live_at f i ≡ true
    → turn_sights cycle i w f trace ≡ Runs cycle i trace ∷ want_sights cycle i w f trace
unfolding turn_sights
sights_live cycle i w f trace live = rw live refl

pub sights_dead : (cycle i : ℕ) (w : Want) (f : Field) (trace : List ℤ) → is_live_at f i ≡ false
    → turn_sights cycle i w f trace ≡ []
unfolding turn_sights
sights_dead cycle i w f trace dead = rw dead refl

pub live_told : (P : List Sight → Type 0) (sights : List Sight) (cycle i : ℕ) (w v : Want) (f : Field) (trace : List ℤ)
    → is_live_at f i ≡ true → w ≡ v → P ((sights ++ Runs cycle i trace ∷ []) ++ want_sights cycle i w f trace)
    → P (sights ++ turn_sights cycle i v f trace)
live_told P sights cycle i w v f trace live is told =
    rw (← is, sights_live cycle i w f trace live)
    (two_told P sights (Runs cycle i trace ∷ []) (want_sights cycle i w f trace) told)

-- what a pilot wants after the replies that lead to its machine
pub pilot_wants : (p q : Pilot) (w : Want) (trace : List ℤ) → p ≡ q
    → ((trace : List ℤ) → IsReached p.state p.code trace → w ≡ want_code p.code trace)
    → IsReached q.state q.code trace → w ≡ want_code q.code trace
pilot_wants p q w trace same wants at =
    subst
    (λ (pilot : Pilot). (trace : List ℤ) → IsReached pilot.state pilot.code trace → w ≡ want_code pilot.code trace)
    same wants trace at

-- an update that is due, and a cycle without one
pub sights_due : (number : ℕ) (f : Field) → number % 15 ≡ 0
    → update_sights number f ≡ Updates number f ∷ Updated number (moved f) ∷ []
unfolding update_sights is_due
sights_due number f due = rw due refl

pub sights_plain : (number : ℕ) (f : Field) → number % 15 ≢ 0 → update_sights number f ≡ []
unfolding update_sights is_due
sights_plain number f plain =
    let between : nat_eq (number % 15) 0 ≡ false = grind (arith, nat_tests) in rw between refl

-- one more robot's turn
pub none_seen : (robots : List Behaviour) (cycle : ℕ) (s : BattleState) → turns_sights robots cycle s 0 ≡ []
unfolding turns_sights
none_seen robots cycle s = refl

pub turn_seen : (robots : List Behaviour) (cycle : ℕ) (s : BattleState) (i : ℕ)
    → turns_sights robots cycle s (i + 1) ≡ turns_sights robots cycle s i
    ++ turn_sights cycle i (behaviour_at robots i (get_or (turns robots i s).traces i [])) (turns robots i s).field
    (get_or (turns robots i s).traces i [])
unfolding turns_sights
turn_seen robots cycle s i = rw add-one refl

-- one more cycle
pub cycle_is : (robots : List Behaviour) (cycle : ℕ) (s : BattleState)
    → cycle_sights robots cycle s
    ≡ turns_sights robots cycle s (length robots) ++ update_sights cycle (turns robots (length robots) s).field
unfolding cycle_sights
cycle_is robots cycle s = refl

pub none_played : (robots : List Behaviour) (s : BattleState) → sights_of robots s 0 ≡ []
unfolding sights_of
none_played robots s = refl

pub one_played : (robots : List Behaviour) (s : BattleState) (n : ℕ)
    → sights_of robots s (n + 1) ≡ sights_of robots s n ++ cycle_sights robots (n + 1) (state_after robots s n)
unfolding sights_of
one_played robots s n = rw add-one refl

pub cycle_told : (P : List Sight → Type 0) (robots : List Behaviour) (s : BattleState) (sights : List Sight) (n m : ℕ)
    → m ≡ n + 1 → P ((sights ++ sights_of robots s n) ++ cycle_sights robots (n + 1) (state_after robots s n))
    → P (sights ++ sights_of robots s m)
cycle_told P robots s sights n m more told =
    rw (more, one_played robots s n)
    (two_told P sights (sights_of robots s n) (cycle_sights robots (n + 1) (state_after robots s n)) told)
