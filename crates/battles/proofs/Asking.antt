-- What a machine asks, and the step that its robot makes of it.
use Rattle.std.proofs.Common.{◌≡◌, ◌≢◌, ℕ, true, ℤ, List, [], ◌∷◌, ◌++◌, refl}
use Rattle.arena.specs.Answer.{answer}
use Rattle.arena.specs.Field.{Field, is_live_at}
use Rattle.grammar.specs.declared.resolved_names.Intrinsic.{Intrinsic}
use Rattle.code.specs.declared.want.Want.{Want}
use Rattle.code.specs.declared.want.Want.TheVariants.{Quiet, Ask, Restart}
use Rattle.battles.specs.Battle.{Behaviour, after_want, robot_turn}

-- something is wanted that isn't a question: a restart
pub restarts : (w : Want) → ((intrinsic : Intrinsic) (words : List ℤ) → w ≡ Ask intrinsic words → ⊥) → w ≢ Quiet →
    w ≡ Restart
restarts Quiet other some = absurd (some refl)
restarts (Ask intrinsic words) other some = absurd (other intrinsic words refl)
restarts Restart other some = refl

-- the step of a live robot that asks, and of one that restarts
pub step_asks : (r : Behaviour) (i : ℕ) (f : Field) (trace : List ℤ) (k : Intrinsic) (words : List ℤ)
    → is_live_at f i ≡ true → r trace ≡ Ask k words
    → robot_turn r i f trace ≡ ((answer f i k words).1, trace ++ (answer f i k words).0 ∷ [])
unfolding robot_turn after_want
step_asks r i f trace k words live asks = rw (live, asks) refl

pub step_restarts : (r : Behaviour) (i : ℕ) (f : Field) (trace : List ℤ) → is_live_at f i ≡ true → r trace ≡ Restart
    → robot_turn r i f trace ≡ (f, [])
unfolding robot_turn after_want
step_restarts r i f trace live restarts = rw (live, restarts) refl
