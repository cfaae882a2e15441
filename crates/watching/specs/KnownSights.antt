-- Sights that are known, worked out from the definition by the prover.
use Rattle.std.specs.Prelude.{◌≡◌, pos, [], ◌∷◌}
use Rattle.grammar.specs.declared.resolved_names.Intrinsic.TheVariants.{Damage}
use Rattle.arena.specs.Field.{Field}
use Rattle.arena.specs.Moved.{moved}
use Rattle.arena.specs.KnownFields.{two, dead}
use Rattle.battles.specs.Battle.{Behaviour, BattleState}
use Rattle.code.specs.declared.want.Want.TheVariants as want
use Rattle.watching.specs.Sights.{Runs, Asks, Restarts, Updates, Updated, cycle_sights, sights_of, update_sights}

-- robots that do nothing, ask for their damage again and again, and restart again and again
abbrev pub idle : Behaviour
idle trace = want.Quiet

abbrev pub asking : Behaviour
asking trace = want.Ask Damage []

abbrev pub restarting : Behaviour
restarting trace = want.Restart

-- a field before the first reply
abbrev pub on : Field → BattleState
on field = record { field = field; traces = [] ∷ [] ∷ [] }

abbrev pub field : Field
field = two 1000 1000 5000 5000

pub record KnownSights : Type 0 where
  pub none : sights_of (idle ∷ asking ∷ []) (on field) 0 ≡ []
  pub two_cycles : sights_of (idle ∷ asking ∷ []) (on field) 2
      ≡ Runs 1 0 [] ∷ Runs 1 1 [] ∷ Asks 1 1 Damage [] (pos 0) field ∷ Runs 2 0 (pos 0 ∷ []) ∷ Runs 2 1 (pos 0 ∷ [])
      ∷ Asks 2 1 Damage [] (pos 0) field ∷ []
  pub restart : sights_of (restarting ∷ idle ∷ []) (on field) 2
      ≡ Runs 1 0 [] ∷ Restarts 1 0 ∷ Runs 1 1 [] ∷ Runs 2 0 [] ∷ Restarts 2 0 ∷ Runs 2 1 (pos 0 ∷ []) ∷ []
  pub update : cycle_sights (idle ∷ idle ∷ []) 15 (on field)
      ≡ Runs 15 0 [] ∷ Runs 15 1 [] ∷ Updates 15 field ∷ Updated 15 (moved field) ∷ []
  pub no_update : update_sights 16 field ≡ []
  pub the_dead : cycle_sights (asking ∷ idle ∷ []) 1 (on dead) ≡ Runs 1 1 [] ∷ []
