-- What is told of the robots of a match: events, one after another.
use Rattle.std.specs.Prelude.{ℕ, ℤ, pos, zero, suc, Bool, false, not, ◌&&◌, if◌then◌else◌, List, [], ◌∷◌, ◌++◌, codes, length, map, slice_get, Option, None, Some}
use Rattle.std.specs.Borrow.{Bor}
use Rattle.std.specs.Ordering.{int_eq}
use Rattle.grammar.specs.declared.resolved_names.Intrinsic.{Intrinsic}
use Rattle.grammar.specs.declared.resolved_names.Intrinsic.TheVariants.{Cannon, Scan}
use Rattle.arena.specs.declared.bursts.Burst.{Burst}
use Rattle.arena.specs.Field.{Field, is_live_at, robot_at}
use Rattle.arena.specs.Leg.{place_x, place_y}
use Rattle.arena.specs.Outlook.{due}
use Rattle.watching.specs.declared.events.Event.{Event}
use Rattle.watching.specs.declared.events.Field.TheVariants.{Number, Text}
use Rattle.watching.specs.declared.events.Field as event
use Rattle.watching.specs.declared.runs.News.{News}
use Rattle.watching.specs.declared.runs.Stance.{Stance}
use Rattle.watching.specs.declared.seen.Seen.{Seen}
use Rattle.watching.specs.declared.update_losses.Loss.{Loss}
use Rattle.watching.specs.Losses.{loss_numbers, loss_word, losses_of}
use Rattle.watching.specs.Runs.{end_of, news_of, stance_of}

-- an event of a robot: what happened in which cycle, and what is said of it
pub record Heard : Type 0 where
  pub cycle : ℕ
  pub robot : ℕ
  pub kind : List ℕ
  pub fields : List event.Field

abbrev pub heard_of : (cycle robot : ℕ) → Event → Heard
heard_of cycle robot event = record { cycle = cycle; robot = robot; kind = event.kind.now; fields = event.fields.items }

abbrev pub numbers_heard : (cycle robot : ℕ) → (kind : List ℕ) → List ℤ → Heard
numbers_heard cycle robot kind numbers =
    record { cycle = cycle; robot = robot; kind = kind; fields = map Number numbers }

-- a call of cannon with these arguments and this reply: a shot and where it is fired, or a refused one
unfoldable pub shot_heard : (cycle robot : ℕ) → List ℤ → (reply : ℤ) → Field → Heard
shot_heard cycle robot arguments reply field =
    let leg = (robot_at field robot).leg in
    if int_eq reply (pos 0) then numbers_heard cycle robot (codes "refused") arguments
    else numbers_heard cycle robot (codes "shot") (arguments ++ pos (place_x leg) ∷ pos (place_y leg) ∷ [])

-- whether a robot hasn't scanned since the last update
abbrev pub is_first_scan : List Seen → (robot : ℕ) → Bool
is_first_scan [] robot = false
is_first_scan (seen ∷ rest) zero = not seen.has_scanned
is_first_scan (seen ∷ rest) (suc robot) = is_first_scan rest robot

-- a scan with these arguments and this reply, if it is told
abbrev pub scan_heard : (cycle robot : ℕ) → List ℤ → (reply : ℤ) → Heard
scan_heard cycle robot arguments reply = numbers_heard cycle robot (codes "scan") (arguments ++ reply ∷ [])

abbrev pub scans_heard : (cycle robot : ℕ) → List ℤ → (reply : ℤ) → (is_told : Bool) → List Heard
scans_heard cycle robot arguments reply is_told =
    if is_told then scan_heard cycle robot arguments reply ∷ [] else []

-- a call of an intrinsic function: of the others nothing is heard
unfoldable pub asked_heard : (cycle robot : ℕ) → Intrinsic → List ℤ → (reply : ℤ) → Field → (is_scan_told : Bool) →
    List Heard
asked_heard cycle robot Cannon arguments reply field told = shot_heard cycle robot arguments reply field ∷ []
asked_heard cycle robot Scan arguments reply field told = scans_heard cycle robot arguments reply told
asked_heard cycle robot other arguments reply field told = []

-- a restart: the word of what for, the function and the line
abbrev pub restart_heard : (cycle robot : ℕ) → (cause function : Bor (List ℕ)) → (line : ℕ) → Heard
restart_heard cycle robot cause function line = record {
  cycle = cycle;
  robot = robot;
  kind = codes "restart";
  fields = Text cause ∷ Text function ∷ Number (pos line) ∷ [];
}

-- what an update does: its bursts, and what each robot loses
abbrev pub burst_heard : (cycle : ℕ) → Burst → Heard
burst_heard cycle burst =
    numbers_heard cycle burst.robot (codes "burst") (pos burst.at.x ∷ pos burst.at.y ∷ [])

abbrev pub loss_heard : (cycle robot : ℕ) → Loss → Heard
loss_heard cycle robot loss = numbers_heard cycle robot (loss_word loss.source) (loss_numbers loss)

-- the losses of the first n robots
unfoldable pub losses_heard : (cycle : ℕ) → Field → ℕ → List Heard
losses_heard cycle field zero = []
losses_heard cycle field (suc n) =
    losses_heard cycle field n ++ map (loss_heard cycle n) (losses_of field n)

abbrev pub update_heard : (cycle : ℕ) → Field → List Heard
update_heard cycle field = map (burst_heard cycle) (due field) ++ losses_heard cycle field (length field.robots)

-- a place that a film has of a robot, if there is one
abbrev pub stance_numbers : Stance → List ℤ
stance_numbers at = pos at.x ∷ pos at.y ∷ pos at.heading ∷ pos at.speed ∷ pos at.damage ∷ []

abbrev pub place_heard : (robot : ℕ) → Option Stance → List Heard
place_heard robot None = []
place_heard robot (Some at) = numbers_heard at.cycle robot (codes "at") (stance_numbers at) ∷ []

abbrev pub news_heard : (robot : ℕ) → News → List Heard
news_heard robot news = place_heard robot news.end ++ place_heard robot news.begin

-- what is seen of a robot after the update of a cycle: its death, once, and of a film where its runs end and begin
abbrev pub death_heard : (cycle robot : ℕ) → (died : Bool) → List Heard
death_heard cycle robot died = if died then numbers_heard cycle robot (codes "death") [] ∷ [] else []

abbrev pub run_heard : (cycle robot : ℕ) → Seen → Field → (is_shown : Bool) → List Heard
run_heard cycle robot seen field is_shown =
    if is_shown then news_heard robot (news_of seen.run (stance_of cycle (robot_at field robot))) else []

unfoldable pub look_heard : (cycle robot : ℕ) → Option Seen → Field → (is_shown : Bool) → List Heard
look_heard cycle robot None field is_shown = []
look_heard cycle robot (Some seen) field is_shown =
    death_heard cycle robot (not seen.is_dead && not (is_live_at field robot)) ++
    run_heard cycle robot seen field is_shown

-- of the first n robots
unfoldable pub looks_heard : (cycle : ℕ) → List Seen → Field → (shows : ℕ → Bool) → ℕ → List Heard
looks_heard cycle seen field shows zero = []
looks_heard cycle seen field shows (suc n) =
    looks_heard cycle seen field shows n ++ look_heard cycle n (slice_get seen n) field (shows n)

-- the end of a match or of a film: where the runs of the first n robots end, and their damages
abbrev pub end_heard : (cycle robot : ℕ) → (kind : List ℕ) → Option Seen → List Heard
end_heard cycle robot kind None = []
end_heard cycle robot kind (Some seen) =
    place_heard robot (end_of seen.run) ++ numbers_heard cycle robot kind (pos seen.damage ∷ []) ∷ []

unfoldable pub ends_heard : (cycle : ℕ) → (kind : List ℕ) → List Seen → ℕ → List Heard
ends_heard cycle kind seen zero = []
ends_heard cycle kind seen (suc n) = ends_heard cycle kind seen n ++ end_heard cycle n kind (slice_get seen n)
