-- What is heard of calls and updates that are known, worked out from the definition by the prover.
use Rattle.std.specs.Prelude.{◌≡◌, ℕ, [], ◌∷◌, codes, false, pos, true, None}
use Rattle.grammar.specs.declared.resolved_names.Intrinsic.TheVariants.{Damage, Scan}
use Rattle.arena.specs.Field.{Field}
use Rattle.arena.specs.KnownFields.{two}
use Rattle.watching.specs.declared.events.Field.TheVariants.{Number}
use Rattle.watching.specs.Heard.{Heard, asked_heard, looks_heard, shot_heard, update_heard}
use Rattle.watching.specs.declared.seen.Seen.{Seen}
use Rattle.watching.specs.KnownHits.{bursts_near}

abbrev pub still : Field
still = two 1000 1000 9000 9000

-- of a robot nothing was seen yet
abbrev pub unseen : Seen
unseen = record {
  run = record { last = None; way = None; is_told = false };
  has_scanned = false;
  is_dead = false;
  damage = 0;
}

-- it stands as far to the east as to the north, unhurt
abbrev pub standing : (robot place : ℕ) → Heard
standing robot place = record {
  cycle = 0;
  robot = robot;
  kind = codes "at";
  fields = Number (pos place) ∷ Number (pos place) ∷ Number (pos 0) ∷ Number (pos 0) ∷ Number (pos 0) ∷ [];
}

pub record KnownHeard : Type 0 where
  pub a_shot : shot_heard 7 0 (pos 0 ∷ pos 100 ∷ []) (pos 1) still ≡ record {
    cycle = 7;
    robot = 0;
    kind = codes "shot";
    fields = Number (pos 0) ∷ Number (pos 100) ∷ Number (pos 1000) ∷ Number (pos 1000) ∷ [];
  }
  pub a_refused_shot : shot_heard 7 1 (pos 0 ∷ pos 100 ∷ []) (pos 0) still ≡ record {
    cycle = 7;
    robot = 1;
    kind = codes "refused";
    fields = Number (pos 0) ∷ Number (pos 100) ∷ [];
  }
  pub a_scan : asked_heard 7 1 Scan (pos 0 ∷ pos 10 ∷ []) (pos 500) still true ≡
      record {
        cycle = 7;
        robot = 1;
        kind = codes "scan";
        fields = Number (pos 0) ∷ Number (pos 10) ∷ Number (pos 500) ∷ [];
      }
      ∷ []
  pub a_second_scan : asked_heard 7 1 Scan (pos 0 ∷ pos 10 ∷ []) (pos 500) still false ≡ []
  pub another_question : asked_heard 7 1 Damage (pos 0 ∷ pos 0 ∷ []) (pos 3) still true ≡ []
  -- the start of a match: a film has where its robots stand
  pub the_start : looks_heard 0 (unseen ∷ unseen ∷ []) still (λ _. true) 2 ≡ standing 0 1000 ∷ standing 1 9000 ∷ []
  pub of_no_film : looks_heard 0 (unseen ∷ unseen ∷ []) still (λ _. false) 2 ≡ []
  pub nothing_happens : update_heard 15 still ≡ []
  -- the missile bursts at (2000, 1000), and takes 3 of 100 from a robot 40 metres away
  pub a_burst : update_heard 30 (bursts_near 2400 1000) ≡
      record {
        cycle = 30;
        robot = 0;
        kind = codes "burst";
        fields = Number (pos 2000) ∷ Number (pos 1000) ∷ [];
      }
      ∷ record {
        cycle = 30;
        robot = 1;
        kind = codes "hurt";
        fields = Number (pos 3) ∷ Number (pos 1) ∷ Number (pos 2000) ∷ Number (pos 1000) ∷ [];
      }
      ∷ []
