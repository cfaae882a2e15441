-- What a listener is told is what it should hear.
use Rattle.std.proofs.Common.{◌≡◌, ℕ, ◌+◌, ℤ, pos, Bool, Bool, true, false, zero, suc, ◌<◌, ◌≤◌, List, [], ◌∷◌, ◌++◌, codes, length, map, refl, sym, subst, ap, ◌∙◌, add-one, append_assoc, append-nil, get_or, arith, inl, inr, ◌⊎◌, ◌≢◌, FitsSigned, w32, to_z, of_z}
use Rattle.std.specs.Prelude.{not, ◌&&◌, slice_get, slice_index_or, Option, None, Some}
use Rattle.std.specs.Ordering.{int_eq}
use Rattle.std.proofs.lemmas.Bool.{cases_Bool}
use Rattle.std.proofs.lemmas.Bool.Decides.{Decides-int_eq}
use Rattle.std.proofs.lemmas.Int.{to_z-of_z}
use Rattle.std.proofs.lemmas.Option.{slice_get_past}
use Rattle.arena.specs.Field.{Field, is_live_at, robot_at}
use Rattle.arena.specs.Leg.{place_x, place_y}
use Rattle.watching.specs.declared.events.Event.{Event}
use Rattle.watching.specs.declared.events.Field.TheVariants.{Number}
use Rattle.grammar.specs.declared.resolved_names.Intrinsic.{Intrinsic}
use Rattle.grammar.specs.declared.resolved_names.Intrinsic.TheVariants.{Drive, Damage, Speed, LocX, LocY, Rand, Sqrt, Sin, Cos, Tan, Atan}
use Rattle.watching.specs.Heard.{Heard, asked_heard, death_heard, end_heard, ends_heard, heard_of, is_first_scan, look_heard, looks_heard, loss_heard, losses_heard, news_heard, numbers_heard, place_heard, run_heard, scans_heard, shot_heard, stance_numbers}
use Rattle.watching.specs.declared.runs.News.{News}
use Rattle.watching.specs.declared.runs.Run.{Run}
use Rattle.watching.specs.declared.runs.Stance.{Stance}
use Rattle.watching.specs.Runs.{end_of, news_of, stance_of}
use Rattle.watching.specs.declared.seen.Seen.{Seen}
use Rattle.watching.specs.declared.update_losses.Loss.{Loss}
use Rattle.watching.specs.Losses.{losses_of}

-- the losses of no robot, and of one more
pub none_lost : (P : List Heard → Type 0) (events : List Heard) (cycle : ℕ) (f : Field) → P events
    → P (events ++ losses_heard cycle f 0)
unfolding losses_heard
none_lost P events cycle f heard = subst P (sym (append-nil events)) heard

pub one_lost : (P : List Heard → Type 0) (events : List Heard) (cycle n : ℕ) (f : Field) (losses : List Loss)
    → losses ≡ losses_of f n → P ((events ++ losses_heard cycle f n) ++ map (loss_heard cycle n) losses)
    → P (events ++ losses_heard cycle f (n + 1))
unfolding losses_heard
one_lost P events cycle n f losses are heard =
    rw (add-one, ← are)
    (subst P (append_assoc events (losses_heard cycle f n) (map (loss_heard cycle n) losses)) heard)

-- two arguments
pub both : (arguments : List ℤ) → length arguments ≡ 2
    → get_or arguments 0 (pos 0) ∷ get_or arguments 1 (pos 0) ∷ [] ≡ arguments
both (a ∷ b ∷ []) two = refl
both [] two = absurd (omega (arith, two))
both (a ∷ []) two = absurd (omega (arith, two))
both (a ∷ b ∷ c ∷ rest) two = absurd (omega (arith, two))

pub four : {a b c d x y z w : ℤ} → a ≡ x → b ≡ y → c ≡ z → d ≡ w
    → Number a ∷ Number b ∷ Number c ∷ Number d ∷ [] ≡ Number x ∷ Number y ∷ Number z ∷ Number w ∷ []
four first second third fourth = rw (first, second, third, fourth) refl

pub three : {a b c x y z : ℤ} → a ≡ x → b ≡ y → c ≡ z
    → Number a ∷ Number b ∷ Number c ∷ [] ≡ Number x ∷ Number y ∷ Number z ∷ []
three first second third = rw (first, second, third) refl

-- whether a robot hasn't scanned yet is what is noted of it
pub noted_of : (seen : List Seen) (robot : ℕ) (one : Seen) → robot < length seen → one ≡ slice_index_or seen robot one
    → is_first_scan seen robot ≡ not one.has_scanned
noted_of [] robot one inside at = absurd (omega (arith, inside))
noted_of (seen ∷ rest) zero one inside at = rw at refl
noted_of (seen ∷ rest) (suc robot) one inside at = noted_of rest robot one (omega (arith, inside)) at

pub not_noted : (seen : List Seen) (robot : ℕ) → length seen ≤ robot → is_first_scan seen robot ≡ false
not_noted [] robot outside = refl
not_noted (seen ∷ rest) zero outside = absurd (omega (arith, outside))
not_noted (seen ∷ rest) (suc robot) outside = not_noted rest robot (omega (arith, outside))

-- a scan that isn't told, and one that is
pub silent : (P : List Heard → Type 0) (events : List Heard) (cycle robot : ℕ) (arguments : List ℤ) (reply : ℤ)
    (is_told : Bool) → is_told ≡ false → P events → P (events ++ scans_heard cycle robot arguments reply is_told)
silent P events cycle robot arguments reply is_told none heard = rw none (subst P (sym (append-nil events)) heard)

pub scan_told : (cycle robot : ℕ) (event : Event) (arguments : List ℤ) (reply : ℤ) → event.kind.now ≡ codes "scan"
    → event.fields.items ≡ map Number (arguments ++ reply ∷ [])
    → heard_of cycle robot event ∷ [] ≡ scans_heard cycle robot arguments reply true
scan_told cycle robot event arguments reply kind fields = rw (kind, fields) refl

-- of all other questions nothing is heard
pub nothing_else : (cycle robot : ℕ) (i : Intrinsic) (arguments : List ℤ) (reply : ℤ) (f : Field) (told : Bool)
    →
    (i ≡ Drive) ⊎
    ((i ≡ Damage) ⊎
    ((i ≡ Speed) ⊎
    ((i ≡ LocX) ⊎
    ((i ≡ LocY) ⊎ ((i ≡ Rand) ⊎ ((i ≡ Sqrt) ⊎ ((i ≡ Sin) ⊎ ((i ≡ Cos) ⊎ ((i ≡ Tan) ⊎ ((i ≡ Atan)))))))))))
    → asked_heard cycle robot i arguments reply f told ≡ []
unfolding asked_heard
nothing_else cycle robot i arguments reply f told (inl e) = rw e refl
nothing_else cycle robot i arguments reply f told (inr (inl e)) = rw e refl
nothing_else cycle robot i arguments reply f told (inr (inr (inl e))) = rw e refl
nothing_else cycle robot i arguments reply f told (inr (inr (inr (inl e)))) = rw e refl
nothing_else cycle robot i arguments reply f told (inr (inr (inr (inr (inl e))))) = rw e refl
nothing_else cycle robot i arguments reply f told (inr (inr (inr (inr (inr (inl e)))))) = rw e refl
nothing_else cycle robot i arguments reply f told (inr (inr (inr (inr (inr (inr (inl e))))))) = rw e refl
nothing_else cycle robot i arguments reply f told (inr (inr (inr (inr (inr (inr (inr (inl e)))))))) = rw e refl
nothing_else cycle robot i arguments reply f told (inr (inr (inr (inr (inr (inr (inr (inr (inl e))))))))) = rw e refl
nothing_else cycle robot i arguments reply f told (inr (inr (inr (inr (inr (inr (inr (inr (inr (inl e)))))))))) =
    rw e refl
nothing_else cycle robot i arguments reply f told (inr (inr (inr (inr (inr (inr (inr (inr (inr (inr e)))))))))) =
    rw e refl

-- a reply is nothing exactly if its word is
pub is_nothing : (reply : ℤ) → FitsSigned w32 reply → of_z w32 reply ≡ 0 → int_eq reply (pos 0) ≡ true
is_nothing reply fits nothing =
    (Decides-int_eq reply (pos 0)).1 (sym (to_z-of_z w32 reply fits) ∙ ap (to_z w32) nothing)

pub is_something : (reply : ℤ) → of_z w32 reply ≢ 0 → int_eq reply (pos 0) ≡ false
is_something reply some = elim (cases_Bool (int_eq reply (pos 0))) [
  | inl same ↦ absurd (some (ap (of_z w32) ((Decides-int_eq reply (pos 0)).0 same)))
  | inr other ↦ other
]

-- a refused shot, and one that is fired
pub refused_heard : (cycle robot : ℕ) (event : Event) (arguments : List ℤ) (reply : ℤ) (f : Field)
    → int_eq reply (pos 0) ≡ true → event.kind.now ≡ codes "refused" → event.fields.items ≡ map Number arguments
    → heard_of cycle robot event ≡ shot_heard cycle robot arguments reply f
unfolding shot_heard
refused_heard cycle robot event arguments reply f none kind fields = rw (none, kind, fields) refl

pub fired_heard : (cycle robot : ℕ) (event : Event) (arguments : List ℤ) (reply : ℤ) (f : Field)
    → int_eq reply (pos 0) ≡ false → event.kind.now ≡ codes "shot"
    → event.fields.items
    ≡ map Number (arguments ++ pos (place_x (robot_at f robot).leg) ∷ pos (place_y (robot_at f robot).leg) ∷ [])
    → heard_of cycle robot event ≡ shot_heard cycle robot arguments reply f
unfolding shot_heard
fired_heard cycle robot event arguments reply f none kind fields = rw (none, kind, fields) refl

-- what is heard of no robot of an update, and of one more
pub none_seen : (P : List Heard → Type 0) (events : List Heard) (cycle : ℕ) (seen : List Seen) (f : Field)
    (shows : ℕ → Bool) → P events → P (events ++ looks_heard cycle seen f shows 0)
unfolding looks_heard
none_seen P events cycle seen f shows heard = subst P (sym (append-nil events)) heard

pub one_seen : (P : List Heard → Type 0) (events : List Heard) (cycle n : ℕ) (seen : List Seen) (f : Field)
    (shows : ℕ → Bool)
    → P ((events ++ looks_heard cycle seen f shows n) ++ look_heard cycle n (slice_get seen n) f (shows n))
    → P (events ++ looks_heard cycle seen f shows (n + 1))
unfolding looks_heard
one_seen P events cycle n seen f shows heard =
    rw add-one
    (subst P
    (append_assoc events (looks_heard cycle seen f shows n) (look_heard cycle n (slice_get seen n) f (shows n)))
    heard)

-- and at the end
pub none_ended : (P : List Heard → Type 0) (events : List Heard) (cycle : ℕ) (kind : List ℕ) (seen : List Seen)
    → P events → P (events ++ ends_heard cycle kind seen 0)
unfolding ends_heard
none_ended P events cycle kind seen heard = subst P (sym (append-nil events)) heard

pub one_ended : (P : List Heard → Type 0) (events : List Heard) (cycle n : ℕ) (kind : List ℕ) (seen : List Seen)
    → P ((events ++ ends_heard cycle kind seen n) ++ end_heard cycle n kind (slice_get seen n))
    → P (events ++ ends_heard cycle kind seen (n + 1))
unfolding ends_heard
one_ended P events cycle n kind seen heard =
    rw add-one
    (subst P (append_assoc events (ends_heard cycle kind seen n) (end_heard cycle n kind (slice_get seen n))) heard)

-- a place that a film has, and none
pub at_heard : (P : List Heard → Type 0) (events : List Heard) (robot : ℕ) (event : Event) (at : Stance)
    → event.kind.now ≡ codes "at" → event.fields.items ≡ map Number (stance_numbers at)
    → P (events ++ heard_of at.cycle robot event ∷ []) → P (events ++ place_heard robot (Some at))
at_heard P events robot event at kind fields heard = rw (kind, fields) at heard

pub no_place_heard : (P : List Heard → Type 0) (events : List Heard) (robot : ℕ) → P events
    → P (events ++ place_heard robot None)
no_place_heard P events robot heard = subst P (sym (append-nil events)) heard

-- what is heard of a robot's run: where it ended and where it is, or where it ended alone
pub ended_and_begun : (P : List Heard → Type 0) (events : List Heard) (robot : ℕ) (news : News) (event : Event)
    (at : Stance) → news.begin ≡ Some at → event.kind.now ≡ codes "at"
    → event.fields.items ≡ map Number (stance_numbers at)
    → P ((events ++ place_heard robot news.end) ++ heard_of at.cycle robot event ∷ [])
    → P (events ++ news_heard robot news)
ended_and_begun P events robot news event at begun kind fields heard =
    subst P (append_assoc events (place_heard robot news.end) (place_heard robot news.begin))
    (rw begun (at_heard P (events ++ place_heard robot news.end) robot event at kind fields heard))

pub only_ended : (P : List Heard → Type 0) (events : List Heard) (robot : ℕ) (news : News) → news.begin ≡ None
    → P (events ++ place_heard robot news.end) → P (events ++ news_heard robot news)
only_ended P events robot news none heard =
    subst P (append_assoc events (place_heard robot news.end) (place_heard robot news.begin))
    (rw none (no_place_heard P (events ++ place_heard robot news.end) robot heard))

-- what is heard of a robot after an update: of one that was seen before, and of none
pub looked : (P : List Heard → Type 0) (events : List Heard) (cycle robot : ℕ) (seens : List Seen) (one : Seen)
    (f : Field) (shown died : Bool) → slice_get seens robot ≡ Some one
    → died ≡ (not one.is_dead && not (is_live_at f robot))
    → P ((events ++ death_heard cycle robot died) ++ run_heard cycle robot one f shown)
    → P (events ++ look_heard cycle robot (slice_get seens robot) f shown)
unfolding look_heard
looked P events cycle robot seens one f shown died at is heard =
    rw (at, ← is)
    (subst P (append_assoc events (death_heard cycle robot died) (run_heard cycle robot one f shown)) heard)

pub none_looked : (P : List Heard → Type 0) (events : List Heard) (cycle robot : ℕ) (seens : List Seen) (f : Field)
    (shown : Bool) → length seens ≤ robot → P events
    → P (events ++ look_heard cycle robot (slice_get seens robot) f shown)
unfolding look_heard
none_looked P events cycle robot seens f shown past heard =
    rw (slice_get_past seens robot past) (subst P (sym (append-nil events)) heard)

-- whether its run is heard is what the film shows
pub run_shown : (P : List Heard → Type 0) (events : List Heard) (cycle robot : ℕ) (one : Seen) (f : Field)
    (shown : Bool) (run : Run) (stance : Stance) → shown ≡ true → run ≡ one.run
    → stance ≡ stance_of cycle (robot_at f robot) → P (events ++ news_heard robot (news_of run stance))
    → P (events ++ run_heard cycle robot one f shown)
run_shown P events cycle robot one f shown run stance is same stands heard = rw (is, ← same, ← stands) heard

pub run_hidden : (P : List Heard → Type 0) (events : List Heard) (cycle robot : ℕ) (one : Seen) (f : Field)
    (shown : Bool) → shown ≡ false → P events → P (events ++ run_heard cycle robot one f shown)
run_hidden P events cycle robot one f shown is heard = rw is (subst P (sym (append-nil events)) heard)

-- what is heard of a robot at the end
pub ended_told : (P : List Heard → Type 0) (events : List Heard) (cycle robot : ℕ) (kind : List ℕ) (seens : List Seen)
    (one : Seen) (end : Option Stance) (event : Event) → slice_get seens robot ≡ Some one → end ≡ end_of one.run
    → event.kind.now ≡ kind → event.fields.items ≡ map Number (pos one.damage ∷ [])
    → P ((events ++ place_heard robot end) ++ heard_of cycle robot event ∷ [])
    → P (events ++ end_heard cycle robot kind (slice_get seens robot))
ended_told P events cycle robot kind seens one end event at is named fields heard =
    rw (at, ← is)
    (subst P (append_assoc events (place_heard robot end) (numbers_heard cycle robot kind (pos one.damage ∷ []) ∷ []))
    (rw (named, fields) at heard))
