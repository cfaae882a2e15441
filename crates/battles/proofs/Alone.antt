-- A robot that runs alone: quiet cycles, and turns one after the other.
use Rattle.std.proofs.Common.{◌≡◌, ℕ, ◌+◌, ◌-◌, ◌<◌, ◌≤◌, zero, suc, true, false, ℤ, pos, List, [], ◌∷◌, ◌++◌, replicate, append_assoc, ◌⊎◌, inl, inr, refl, sym, ap, ◌∙◌, arith, add-one}
use Rattle.std.proofs.lemmas.Bool.{cases_lt, false≢true}
use Rattle.std.proofs.lemmas.List.{replicate_more, append-nil}
use Rattle.arena.specs.Field.{Field, is_live_at}
use Rattle.arena.specs.Arena.{Arena}
use Rattle.arena.specs.Representing.{RepresentsField}
use Rattle.code.specs.declared.want.Want.{Want}
use Rattle.code.specs.declared.want.Want.TheVariants.{Quiet}
use Rattle.grammar.specs.Profile.{Profile}
use Rattle.grammar.specs.Resolved.{IsResolved}
use Rattle.grammar.specs.Tree.{File}
use Rattle.code.specs.Codes.{IsProgramOf}
use Rattle.code.specs.Meaning.{want}
use Rattle.engine.specs.declared.engines.Engine.{Engine}
use Rattle.engine.specs.Executables.{Executable}
use Rattle.engine.specs.Engines.{EngineIsReached}
use Rattle.battles.specs.Carrying.{Runner, IsRobotOf, IsAheadOf}
use Rattle.battles.specs.Battle.{Behaviour, after_want, robot_turn}
use Rattle.battles.specs.Intervals.{IsAlone, TurnIsAlone, RunsAlone, RunsTo, HasRunAlone, alone}
use Rattle.battles.proofs.Commuting.{step_lives}
use Rattle.battles.proofs.Running.{Coasts, at_end, at_less, at_more, quiet_less}

-- no step yet, and one more
pub alone_none : (r : Behaviour) (i : ℕ) (f : Field) (trace : List ℤ) → alone r i f trace 0 ≡ (f, trace)
unfolding alone
alone_none r i f trace = refl

pub alone_next : (r : Behaviour) (i : ℕ) (f : Field) (trace : List ℤ) (n : ℕ)
    → alone r i f trace (n + 1) ≡ robot_turn r i (alone r i f trace n).0 (alone r i f trace n).1
unfolding alone
alone_next r i f trace n = rw add-one refl

-- some turns, and some more
alone_plus : (r : Behaviour) (i : ℕ) (f : Field) (trace : List ℤ) (n k : ℕ)
    → alone r i f trace (n + k) ≡ alone r i (alone r i f trace n).0 (alone r i f trace n).1 k
unfolding alone
alone_plus r i f trace n zero = ap (alone r i f trace) (omega arith)
alone_plus r i f trace n (suc k) =
    let more : n + suc k ≡ suc (n + k) = omega arith in
    rw more (ap (λ (t : Field × List ℤ). robot_turn r i t.0 t.1) (alone_plus r i f trace n k))

-- the robot stays as alive as it is
pub alone_lives : (r : Behaviour) (i : ℕ) (f : Field) (trace : List ℤ) (n : ℕ) →
    is_live_at (alone r i f trace n).0 i ≡ is_live_at f i
unfolding alone
alone_lives r i f trace zero = refl
alone_lives r i f trace (suc n) =
    step_lives r i (alone r i f trace n).0 (alone r i f trace n).1 ∙ alone_lives r i f trace n

pub runs_next : (r : Behaviour) (i : ℕ) (f : Field) (trace : List ℤ) (n : ℕ) → RunsAlone r i f trace n
    → TurnIsAlone r i (alone r i f trace n).0 (alone r i f trace n).1 → RunsAlone r i f trace (n + 1)
runs_next r i f trace n runs steps k within = elim (cases_lt k n) [
  | inl before ↦ runs k before
  | inr last ↦ let same : k ≡ n = omega arith in rw same steps
]

pub runs_plus : (r : Behaviour) (i : ℕ) (f : Field) (trace : List ℤ) (n k : ℕ) → RunsAlone r i f trace n
    → RunsAlone r i (alone r i f trace n).0 (alone r i f trace n).1 k → RunsAlone r i f trace (n + k)
runs_plus r i f trace n zero runs more =
    let same : n + 0 ≡ n = omega arith in rw same runs
runs_plus r i f trace n (suc k) runs more =
    let next : n + suc k ≡ n + k + 1 = omega arith in
    let last : TurnIsAlone r i (alone r i f trace (n + k)).0 (alone r i f trace (n + k)).1 =
    rw (alone_plus r i f trace n k) (more k (omega arith)) in
    rw next (runs_next r i f trace (n + k) (runs_plus r i f trace n k runs (λ j low. more j (omega arith))) last)

-- a live robot has quiet cycles
quiet_step : (r : Behaviour) (i : ℕ) (f : Field) (trace : List ℤ) → is_live_at f i ≡ true → r trace ≡ Quiet
    → robot_turn r i f trace ≡ (f, trace ++ pos 0 ∷ [])
unfolding robot_turn after_want
quiet_step r i f trace live quiet = rw (live, quiet) refl

pub quiet_alone : (r : Behaviour) (i : ℕ) (f : Field) (trace : List ℤ) (n : ℕ) → is_live_at f i ≡ true
    → ((k : ℕ) → k < n → r (trace ++ replicate k (pos 0)) ≡ Quiet) →
    alone r i f trace n ≡ (f, trace ++ replicate n (pos 0))
unfolding alone
quiet_alone r i f trace zero live quiet = ap (λ t. (f, t)) (sym (append-nil trace))
quiet_alone r i f trace (suc n) live quiet =
    ap (λ (t : Field × List ℤ). robot_turn r i t.0 t.1)
    (quiet_alone r i f trace n live (λ k low. quiet k (omega arith)))
    ∙ quiet_step r i f (trace ++ replicate n (pos 0)) live (quiet n (omega arith))
    ∙ ap (λ t. (f, t)) (
    append_assoc trace (replicate n (pos 0)) (pos 0 ∷ [])
    ∙ ap (λ zeros. trace ++ zeros) (replicate_more n (pos 0) ∙ ap (λ k. replicate k (pos 0)) (add-one n)))

quiet_is_alone : (want : Want) → want ≡ Quiet → IsAlone want
quiet_is_alone want quiet = rw quiet tt

pub quiet_runs : (r : Behaviour) (i : ℕ) (f : Field) (trace : List ℤ) (n : ℕ) → is_live_at f i ≡ true
    → ((k : ℕ) → k < n → r (trace ++ replicate k (pos 0)) ≡ Quiet) → RunsAlone r i f trace n
quiet_runs r i f trace n live quiet k within is =
    quiet_is_alone (r (alone r i f trace k).1)
    (ap (λ (t : Field × List ℤ). r t.1) (quiet_alone r i f trace k live (λ j low. quiet j (omega arith))) ∙
    quiet k within)

-- a dead robot does nothing
pub dead_step : (r : Behaviour) (i : ℕ) (f : Field) (trace : List ℤ) → is_live_at f i ≡ false →
    robot_turn r i f trace ≡ (f, trace)
unfolding robot_turn
dead_step r i f trace dead = rw dead refl

dead_alone : (r : Behaviour) (i : ℕ) (f : Field) (trace : List ℤ) (n : ℕ) → is_live_at f i ≡ false →
    alone r i f trace n ≡ (f, trace)
unfolding alone
dead_alone r i f trace zero dead = refl
dead_alone r i f trace (suc n) dead =
    ap (λ (t : Field × List ℤ). robot_turn r i t.0 t.1) (dead_alone r i f trace n dead) ∙ dead_step r i f trace dead

pub dead_runs : (free : Type 0) (r : Behaviour) (i : ℕ) (f : Field) (trace : List ℤ) (n : ℕ) (exe : Executable)
    (runner : Runner) (arena : Arena)
    → is_live_at f i ≡ false → RepresentsField arena f → IsAheadOf runner exe trace →
    HasRunAlone free r i f trace n exe runner arena
dead_runs free r i f trace n exe runner arena dead field at = record {
  turns = inl (λ k within live. absurd (false≢true (sym dead ∙ sym (alone_lives r i f trace k) ∙ live)));
  stands = rw (dead_alone r i f trace n dead) field;
  at = rw (dead_alone r i f trace n dead) at;
}

pub to_begin : (free : Type 0) (r : Behaviour) (i : ℕ) (f : Field) (trace : List ℤ) (most : ℕ) (exe : Executable)
    (runner : Runner) (arena : Arena)
    → RepresentsField arena f → IsAheadOf runner exe trace →
    RunsTo free r i f trace runner.ahead most exe runner.machine arena
to_begin free r i f trace most exe runner arena field at =
    let all : runner.ahead - 0 ≡ runner.ahead = omega arith in
    record {
      run = 0;
      within = omega arith;
      below = omega arith;
      ran = record {
        turns = inl (λ k within. absurd (omega arith));
        stands = rw (alone_none r i f trace) field;
        at = rw (alone_none r i f trace, all) at;
      };
    }

-- the machine runs n quiet cycles
pub to_coast : (free : Type 0) (r : Behaviour) (i : ℕ) (f : Field) (trace : List ℤ) (cycle most n : ℕ)
    (exe : Executable) (machine after : Engine) (arena : Arena)
    → Coasts exe machine n after → RunsTo free r i f trace cycle most exe machine arena →
    RunsTo free r i f trace (cycle + n) most exe after arena
to_coast free r i f trace cycle most n exe machine after arena on to =
    let further : cycle + n - to.run ≡ cycle - to.run + n = omega (arith, to.within) in
    record {
      run = to.run;
      within = omega (arith, to.within);
      below = to.below;
      ran = record {
        turns = to.ran.turns;
        stands = to.ran.stands;
        at = rw further (at_more machine after (cycle - to.run) n exe (alone r i f trace to.run).1 to.ran.at on);
      };
    }

-- the robot follows its machine up to a cycle
pub to_cycle : (free : Type 0) (r : Behaviour) (i : ℕ) (f : Field) (trace : List ℤ) (cycle most end : ℕ)
    (exe : Executable) (machine : Engine) (arena : Arena)
    → IsRobotOf exe r → is_live_at f i ≡ true → (to : RunsTo free r i f trace cycle most exe machine arena) →
    to.run ≤ end → end ≤ cycle
    → HasRunAlone free r i f trace end exe (record { machine = machine; ahead = cycle - end }) arena
to_cycle free r i f trace cycle most end exe machine arena is live to from within =
    let n = to.run in
    let k = end - n in
    let field = (alone r i f trace n).0 in
    let replies = (alone r i f trace n).1 in
    let lives : is_live_at field i ≡ true = alone_lives r i f trace n ∙ live in
    let quiet = quiet_less r replies k (cycle - n) (omega arith) (to.ran.at.quiet r is) in
    let sum : n + k ≡ end = omega arith in
    let less : cycle - n - k ≡ cycle - end = omega arith in
    let all : alone r i f trace end ≡ (field, replies ++ replicate k (pos 0)) =
    ap (alone r i f trace) (sym sum) ∙ alone_plus r i f trace n k ∙ quiet_alone r i field replies k lives quiet in
    record {
      turns = elim to.ran.turns as (λ s. RunsAlone r i f trace end ⊎ free) [
        | inl runs ↦ inl (rw sum at (runs_plus r i f trace n k runs (quiet_runs r i field replies k lives quiet)))
        | inr drawn ↦ inr drawn
      ];
      stands = rw all to.ran.stands;
      at = rw (all, sym less)
          (at_less (record { machine = machine; ahead = cycle - n }) k exe replies (omega arith) to.ran.at);
    }

-- up to where the machine is
pub to_stop : (free : Type 0) (r : Behaviour) (i : ℕ) (f : Field) (trace : List ℤ) (cycle most : ℕ) (exe : Executable)
    (machine : Engine) (arena : Arena)
    → IsRobotOf exe r → is_live_at f i ≡ true → RunsTo free r i f trace cycle most exe machine arena
    → HasRunAlone free r i f trace cycle exe (record { machine = machine; ahead = 0 }) arena
to_stop free r i f trace cycle most exe machine arena is live to =
    let none : cycle - cycle ≡ 0 = omega arith in
    rw none at (to_cycle free r i f trace cycle most cycle exe machine arena is live to to.within (omega arith))

-- and takes a turn
pub to_next : (free : Type 0) (r : Behaviour) (i : ℕ) (f : Field) (trace : List ℤ) (cycle most : ℕ) (exe : Executable)
    (machine : Engine) (arena : Arena)
    → cycle < most → RunsAlone r i f trace cycle ⊎ free
    → TurnIsAlone r i (alone r i f trace cycle).0 (alone r i f trace cycle).1 ⊎ free
    → RepresentsField arena (robot_turn r i (alone r i f trace cycle).0 (alone r i f trace cycle).1).0
    → EngineIsReached machine exe (robot_turn r i (alone r i f trace cycle).0 (alone r i f trace cycle).1).1
    → RunsTo free r i f trace (cycle + 1) most exe machine arena
to_next free r i f trace cycle most exe machine arena below runs steps field stands = record {
  run = cycle + 1;
  within = omega arith;
  below = omega arith;
  ran = record {
    turns = elim runs as (λ s. RunsAlone r i f trace (cycle + 1) ⊎ free) [
      | inl before ↦ elim steps as (λ s. RunsAlone r i f trace (cycle + 1) ⊎ free) [
        | inl last ↦ inl (runs_next r i f trace cycle before last)
        | inr drawn ↦ inr drawn
      ]
      | inr drawn ↦ inr drawn
    ];
    stands = rw (alone_next r i f trace cycle) field;
    at = rw (alone_next r i f trace cycle) (at_end machine (cycle + 1 - (cycle + 1)) exe _ (omega arith) stands);
  };
}

pub want_alone : (want other : Want) → want ≡ other → IsAlone other → IsAlone want
want_alone want other same is = rw same is

-- what a machine wants that is at the end of a robot's trace
pub wants_next : (r : Behaviour) (exe : Executable) (trace : List ℤ) (wanted : Want) → IsRobotOf exe r
    → ((p : Profile) (file : File) → IsResolved file → IsProgramOf exe.program p file → wanted ≡ want p file trace) →
    r trace ≡ wanted
wants_next r exe trace wanted is source =
    ap (λ (q : Behaviour). q trace) is.wants ∙ sym (source is.profile is.file is.resolved is.program)
