-- Robots, one by one, of machines and an arena that are manned.
use Rattle.std.proofs.Common.{◌≡◌, ◌≢◌, ℕ, ◌<◌, List, length, set, get_or, Some, inl, inr, sym, subst, ap, ◌∙◌, arith}
use Rattle.std.proofs.lemmas.Bool.{cases_eq}
use Rattle.std.proofs.lemmas.List.{get_or-set_same, get_or-set_other}
use Rattle.std.specs.Prelude.{slice_get}
use Rattle.arena.specs.Arena.{Arena}
use Rattle.engine.specs.declared.engines.Engine.{Engine}
use Rattle.engine.specs.Executables.{Executable}
use Rattle.battles.specs.Carrying.{Runner}
use Rattle.battles.specs.IntervalKeeping.{HaveMachines, CanPlay, HaveFieldRobots, KeepsPlayable}
use Rattle.battles.specs.Intervals.{WaitsToDraw}
use Rattle.battles.proofs.States.{fits_at, fits_length, fits_set}

pub have_field_robots : (exes : List Executable) (runners : List Runner) (arena : Arena) →
    HaveMachines exes runners arena →
    HaveFieldRobots runners arena
have_field_robots exes runners arena manned =
    let same = fits_length runners exes manned.fits in
    record { few = omega (arith, same, manned.few); robots = manned.robots ∙ sym same }

pub can_run : (exes : List Executable) (runners : List Runner) (arena : Arena) (i : ℕ) (exe : Executable)
    (none : Runner)
    → HaveMachines exes runners arena → i < length exes → slice_get exes i ≡ Some exe →
    CanPlay i exe (get_or runners i none).machine arena
can_run exes runners arena i exe none manned inside here = record {
  turn_number = omega (arith, manned.few, inside);
  inside = omega (arith, manned.robots, inside);
  fits = fits_at runners exes i exe none manned.fits here;
}

-- what some turns keep, and then others
pub keeps_on : {exe : Executable} {one other : Engine} {before between after : Arena} →
    KeepsPlayable exe one before between →
    KeepsPlayable exe other between after → KeepsPlayable exe other before after
keeps_on first then = record {
  fits = then.fits;
  robots = then.robots ∙ first.robots;
  updates = then.updates ∙ first.updates;
}

-- after a robot's turns it can run on
pub can_run_on : (i : ℕ) (exe : Executable) (one other : Engine) (before after : Arena) → CanPlay i exe one before →
    KeepsPlayable exe other before after → CanPlay i exe other after
can_run_on i exe one other before after can kept = record {
  turn_number = can.turn_number;
  inside = omega (arith, kept.robots, can.inside);
  fits = kept.fits;
}

-- after a robot's turns all are manned still
pub manned_set : (exes : List Executable) (runners : List Runner) (before after : Arena) (i : ℕ) (exe : Executable)
    (runner : Runner)
    → HaveMachines exes runners before → slice_get exes i ≡ Some exe → KeepsPlayable exe runner.machine before after →
    HaveMachines exes (set runners i runner) after
manned_set exes runners before after i exe runner manned here kept = record {
  few = manned.few;
  fits = fits_set runners exes i runner exe manned.fits here kept.fits;
  robots = kept.robots ∙ manned.robots;
}

same_code : (exes : List Executable) (i j : ℕ) (exe other : Executable) → j ≡ i → slice_get exes i ≡ Some exe →
    slice_get exes j ≡ Some other → exe ≡ other
same_code exes i j exe other same here there =
    let e : slice_get exes j ≡ slice_get exes i = ap (λ k. slice_get exes k) same in cc

-- after a robot's turns each robot that has turns left before an end waits
pub waits_set : (exes : List Executable) (next : List ℕ) (end : ℕ) (runners : List Runner) (i number : ℕ)
    (exe : Executable) (runner : Runner) (j : ℕ) (other : Executable) (none : Runner)
    → i < length next → i < length runners → slice_get exes i ≡ Some exe → slice_get exes j ≡ Some other
    → (number < end → WaitsToDraw exe runner)
    → (j ≢ i → get_or next j 0 < end → WaitsToDraw other (get_or runners j none))
    → get_or (set next i number) j 0 < end → WaitsToDraw other (get_or (set runners i runner) j none)
waits_set exes next end runners i number exe runner j other none inside within here there waits before left =
    elim (cases_eq j i) as (λ s. WaitsToDraw other (get_or (set runners i runner) j none)) [
      | inl same ↦
          let own : get_or (set next i number) j 0 ≡ number =
          ap (λ k. get_or (set next i number) k 0) same ∙ get_or-set_same next i number 0 inside in
          let set_here : get_or (set runners i runner) j none ≡ runner =
          ap (λ k. get_or (set runners i runner) k none) same ∙ get_or-set_same runners i runner none within in
          subst (λ (r : Runner). WaitsToDraw other r) (sym set_here)
          (subst (λ (c : Executable). WaitsToDraw c runner) (same_code exes i j exe other same here there)
          (waits (omega (arith, own, left))))
      | inr distinct ↦
          subst (λ (r : Runner). WaitsToDraw other r) (sym (get_or-set_other runners i j runner none distinct))
          (before distinct (rw (get_or-set_other next i j number 0 distinct) at left))
    ]
