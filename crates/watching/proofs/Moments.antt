-- Which question was the last, and what is seen of a robot.
use Rattle.std.proofs.Common.{◌≡◌, ℕ, ◌+◌, ◌<◌, Bool, List, length, get_or, Option, None, refl, sym, ap, ◌∙◌, add-one}
use Rattle.std.proofs.lemmas.Option.{slice_get-get_or}
use Rattle.std.specs.Option.{option_or}
use Rattle.battles.specs.Battle.{Behaviour, BattleState, state_after}
use Rattle.battles.specs.Carrying.{AreRobotsOf}
use Rattle.code.specs.Generation.{Program}
use Rattle.watching.specs.Games.{Game}
use Rattle.watching.specs.Pilot.{Pilot}
use Rattle.watching.specs.Played.{codes_of, exes_of}
use Rattle.watching.proofs.Playing.{lives_are, some_same}
use Rattle.watching.specs.declared.asked.Asked.{Asked}
use Rattle.watching.specs.declared.moment.Moment.{Moment}
use Rattle.watching.specs.Moments.{HasPlayedTo, IsMoment, IsSeen, cause_of, last_question, question_in}
use Rattle.watching.proofs.Asking.{wanted_is}

-- before the first cycle nothing was asked
pub none_asked : (robots : List Behaviour) (i : ℕ) (s : BattleState) → last_question robots i s 0 ≡ None
unfolding last_question
none_asked robots i s = refl

-- and in one cycle more the last question may be another one
pub one_asked : (robots : List Behaviour) (i n : ℕ) (s : BattleState) →
    last_question robots i s (n + 1) ≡ option_or (question_in robots i s n) (last_question robots i s n)
unfolding last_question
one_asked robots i n s = rw add-one refl

-- What is seen of a robot of a match that was played so far is its moment.
pub moment_is : (codes : List Program) (robots : List Behaviour) (s : BattleState) (limit i cycle : ℕ)
    (seats : List Pilot)
    (none : Pilot) (game : Game) (last : Option Asked) (moment : Moment) → AreRobotsOf (exes_of codes) robots
    → codes_of seats ≡ codes → i < length seats → HasPlayedTo robots s limit i cycle codes seats game last
    → IsSeen game (get_or seats i none) i last moment → IsMoment robots s limit i cycle seats moment
moment_is codes robots s limit i cycle seats none game last moment are same inside played seen = record {
  come = rw (seen.now, same) played.come;
  limited = rw seen.now played.limited;
  cycles = rw seen.now played.cycles;
  alive =
      rw seen.now
      (seen.alive
      ∙ lives_are game.arena (state_after robots s game.ending.cycles).field i played.come.played.field);
  next =
      rw seen.now
      (wanted_is codes robots seats game.arena s i none moment.next are same inside game played.come refl seen.next);
  cause = λ seat here.
      let is : get_or seats i none ≡ seat = some_same (sym (slice_get-get_or seats i none inside) ∙ here) in
      seen.cause ∙ ap (λ (alive : Bool). cause_of alive (get_or seats i none)) (sym seen.alive)
      ∙ ap (cause_of moment.is_alive) is;
  asked = rw seen.now (seen.asked ∙ played.asked);
}
