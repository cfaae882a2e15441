-- Fields that differ in the order of shots alone: no robot can tell.
use Rattle.std.proofs.Common.{◌≡◌, ℕ, ◌+◌, ◌-◌, ◌%◌, ◌<◌, zero, suc, Bool, ℤ, pos, List, [], ◌∷◌, ◌++◌, length, set, get_or, All, inl, inr, refl, sym, ap, ◌∙◌, subst, arith}
use Rattle.std.specs.Prelude.{nat_lt, ◌==◌, ◌&&◌, if◌then◌else◌}
use Rattle.std.proofs.lemmas.Bool.{cases_Bool}
use Rattle.std.proofs.lemmas.List.{append-nil, get_or_append_left, get_or-append_right, length-append}
use Rattle.std.proofs.lemmas.List.Elements.{All-append, filter-append}
use Rattle.grammar.specs.declared.resolved_names.Intrinsic.{Intrinsic}
use Rattle.grammar.specs.declared.resolved_names.Intrinsic.TheVariants.{Cannon}
use Rattle.arith.specs.Degree.{degree_of}
use Rattle.arena.specs.Answer.{answer, argument_at, fired, field_with_wanted, random_number}
use Rattle.arena.specs.Field.{Field, Shot, is_live_at, robot_at}
use Rattle.arena.specs.Arena.{Arena}
use Rattle.arena.specs.Leg.{clamped}
use Rattle.arena.specs.Scan.{scanned}
use Rattle.arena.specs.Shots.{in_air, shot}
use Rattle.arena.specs.Representing.{RepresentsField}
use Rattle.code.specs.declared.want.Want.{Want}
use Rattle.code.specs.declared.want.Want.TheVariants.{Ask}
use Rattle.battles.specs.Battle.{Behaviour, BattleState, after_want, robot_turn, behaviour_at, turn}
use Rattle.battles.specs.Intervals.{SameShots, AreAlike, IsLike, turns_left}

shots_refl : (updates : ℕ) (shots : List Shot) → SameShots updates shots shots
shots_refl updates shots = record { in_air = λ i. refl; owned = λ n all. all }

pub like_refl : (f : Field) → AreAlike f f
like_refl f = record { shots = f.shots; is = refl; same = shots_refl f.updates f.shots }

pub like_trans : (f g h : Field) → AreAlike f g → AreAlike g h → AreAlike f h
like_trans f g h first second =
    let next : SameShots f.updates first.shots second.shots = rw first.is at second.same in
    record {
      shots = second.shots;
      is = second.is ∙ ap (λ (k : Field). record k { shots = second.shots }) first.is;
      same = record {
        in_air = λ i. next.in_air i ∙ first.same.in_air i;
        owned = λ n all. next.owned n (first.same.owned n all);
      };
    }

-- an arena that represents the one represents the other
pub stands_like : (arena : Arena) (f g : Field) → AreAlike f g → RepresentsField arena f → RepresentsField arena g
stands_like arena f g like stands = rw like.is (record {
  updates = stands.updates;
  robots = stands.robots;
  missiles = record {
    owned = like.same.owned (length arena.slots) stands.missiles.owned;
    in_air = λ i inside. stands.missiles.in_air i inside ∙ sym (like.same.in_air i);
  };
  random = stands.random;
})

pub air_append : (updates i : ℕ) (l k : List Shot) →
    in_air updates i (l ++ k) ≡ in_air updates i l ++ in_air updates i k
unfolding in_air
air_append updates i l k = filter-append (λ (s : Shot). (s.owner == i) && nat_lt updates s.burst) l k

pub all_front : (P : Shot → Type 0) (l k : List Shot) → All P (l ++ k) → All P l
all_front P l k all = λ i d inside.
    subst P (get_or_append_left l k d i inside) (all i d (omega (arith, length-append l k)))

pub all_back : (P : Shot → Type 0) (l k : List Shot) → All P (l ++ k) → All P k
all_back P l k all = λ i d inside.
    let sum : length l + i - length l ≡ i = omega arith in
    subst P (get_or-append_right l k (length l) (length l + i) d refl (omega arith) ∙ ap (λ j. get_or k j d) sum)
    (all (length l + i) d (omega (arith, length-append l k)))

-- the same shots more
shots_more : (updates : ℕ) (l k more : List Shot) → SameShots updates l k → SameShots updates (l ++ more) (k ++ more)
shots_more updates l k more same = record {
  in_air =
      λ i. air_append updates i k more ∙ ap (λ air. air ++ in_air updates i more) (same.in_air i) ∙
      sym (air_append updates i l more);
  owned = λ n all.
      let Owned : Shot → Type 0 = λ s. s.owner < n in
      All-append Owned k more (same.owned n (all_front Owned l more all)) (all_back Owned l more all);
}

-- What a robot fires, if it may.
unfoldable pub pushed : Field → (i degree range : ℕ) → List Shot
pushed f i degree range =
    if nat_lt (length (in_air f.updates i f.shots)) 2 then shot f.updates i (robot_at f i).leg degree range ∷ [] else []

-- It may if as many of its own shots are in the air as before.
pub fires : (f : Field) (shots : List Shot) (i degree range : ℕ) → in_air f.updates i shots ≡ in_air f.updates i f.shots
    → fired (record f { shots = shots }) i degree range
    ≡ ((fired f i degree range).0, record f { shots = shots ++ pushed f i degree range })
unfolding fired robot_at pushed
fires f shots i degree range same =
    let alike : nat_lt (length (in_air f.updates i shots)) 2 ≡ nat_lt (length (in_air f.updates i f.shots)) 2 =
    ap (λ (air : List Shot). nat_lt (length air) 2) same in
    elim (cases_Bool (nat_lt (length (in_air f.updates i f.shots)) 2)) [
      | inl may ↦ rw (alike, may) refl
      | inr not ↦ rw (alike, not) (ap (λ l. (pos 0, record f { shots = l })) (sym (append-nil shots)))
    ]

-- So the answers are the same, and the fields after them are alike again.
answer_like : (f : Field) (shots : List Shot) (i : ℕ) (intrinsic : Intrinsic) (a : List ℤ) →
    SameShots f.updates f.shots shots
    → ((answer (record f { shots = shots }) i intrinsic a).0 ≡ (answer f i intrinsic a).0)
    × AreAlike (answer f i intrinsic a).1 (answer (record f { shots = shots }) i intrinsic a).1
unfolding answer field_with_wanted robot_at scanned random_number
answer_like f shots i Cannon a same =
    let degree = degree_of (argument_at a 0) in
    let range = clamped 700 (argument_at a 1) in
    let there = fires f shots i degree range (same.in_air i) in
    let here = fires f f.shots i degree range refl in (
      ap (λ (asked : ℤ × Field). asked.0) there,
      rw (there, here) (record {
        shots = shots ++ pushed f i degree range;
        is = refl;
        same = shots_more f.updates f.shots shots (pushed f i degree range) same;
      }),
    )
answer_like f shots i _ a same = (refl, record { shots = shots; is = refl; same = same })

granted_like : (want : Want) (f : Field) (shots : List Shot) (i : ℕ) (trace : List ℤ) →
    SameShots f.updates f.shots shots
    → ((after_want want i (record f { shots = shots }) trace).1 ≡ (after_want want i f trace).1)
    × AreAlike (after_want want i f trace).0 (after_want want i (record f { shots = shots }) trace).0
unfolding after_want
granted_like (Ask intrinsic a) f shots i trace same =
    let like = answer_like f shots i intrinsic a same in
    (ap (λ reply. trace ++ reply ∷ []) like.0, like.1)
granted_like _ f shots i trace same = (refl, record { shots = shots; is = refl; same = same })

step_like : (robot : Behaviour) (f : Field) (shots : List Shot) (i : ℕ) (trace : List ℤ) →
    SameShots f.updates f.shots shots
    → ((robot_turn robot i (record f { shots = shots }) trace).1 ≡ (robot_turn robot i f trace).1)
    × AreAlike (robot_turn robot i f trace).0 (robot_turn robot i (record f { shots = shots }) trace).0
unfolding robot_turn is_live_at robot_at
step_like robot f shots i trace same = elim (cases_Bool (is_live_at f i)) [
  | inl live ↦ rw live (granted_like (robot trace) f shots i trace same)
  | inr dead ↦ rw dead (refl, record { shots = shots; is = refl; same = same })
]

-- the same of whole states
pub states_refl : (s : BattleState) → IsLike s s
states_refl s = record { field = like_refl s.field; traces = refl }

pub like_same : (s t : BattleState) → s ≡ t → IsLike s t
like_same s t same = rw same (states_refl t)

pub states_trans : (s t u : BattleState) → IsLike s t → IsLike t u → IsLike s u
states_trans s t u first second = record {
  field = like_trans s.field t.field u.field first.field second.field;
  traces = second.traces ∙ first.traces;
}

turn_like : (robots : List Behaviour) (i : ℕ) (s t : BattleState) → IsLike s t →
    IsLike (turn robots i s) (turn robots i t)
unfolding turn
turn_like robots i s t like =
    let stepped = step_like (behaviour_at robots i) s.field like.field.shots i (get_or s.traces i []) like.field.same in
    rw (like.traces, like.field.is) (record {
      field = stepped.1;
      traces = ap (set s.traces i) stepped.0;
    })

pub rest_like : (robots : List Behaviour) (left : ℕ → Bool) (t n : ℕ) (s u : BattleState) → IsLike s u
    → IsLike (turns_left robots left t n s) (turns_left robots left t n u)
unfolding turns_left
rest_like robots left t zero s u like = like
rest_like robots left t (suc n) s u like = elim (cases_Bool (left t)) [
  | inl here ↦ rw here
      (rest_like robots left (t + 1) n (turn robots (t % 4) s) (turn robots (t % 4) u)
      (turn_like robots (t % 4) s u like))
  | inr gone ↦ rw gone (rest_like robots left (t + 1) n s u like)
]
