-- The trees' outcome against what the instructions want: if the outcome is a value, the instructions go on after
-- it; if it awaits an event, they want that event.
use Rattle.std.specs.Prelude.{ℕ, ℤ, suc, ◌≡◌, ◌≤◌, List, [], ◌∷◌, Bool, true, false, Option, Some, None, length, if◌then◌else◌}
use Rattle.std.proofs.Common.{refl, ap, ◌∙◌, arith}
use Rattle.code.specs.declared.instr.Instr.{Instr}
use Rattle.code.specs.declared.want.Want.{Want}
use Rattle.code.specs.declared.want.Want.TheVariants.{Restart}
use Rattle.code.specs.Generation.{Program}
use Rattle.code.specs.Machine.{Machine, instr_at, is_ready, is_fitting, event_of, done_with, machine_after, want_next, reached}
use Rattle.code.specs.Meaning.{Vars, EvaluationResult, Gives, Awaits, and_then, tick}

-- how many variables there are
pub record HasSizes (externals locals : ℕ) (vars : Vars) : Type 0 where
  pub externals_are : length vars.externals ≡ externals
  pub locals_are : length vars.locals ≡ locals

-- the instructions go on with these variables and replies
pub record Arrives (e l n : ℕ) (vars : Vars) (rest : List ℤ) (w to : Option Want) : Type 0 where
  pub sizes : HasSizes e l vars
  pub short : length rest ≤ n
  pub same : w ≡ to

abbrev pub Follows : {A : Type 0} (e l n : ℕ) → EvaluationResult A → Option Want → (A → Vars → List ℤ → Option Want) →
    Type 0
Follows e l n (Gives x vars rest) w k = Arrives e l n vars rest w (k x vars rest)
Follows e l n (Awaits event) w k = w ≡ Some event

pub follows_from : {A : Type 0} (e l n : ℕ) (o : EvaluationResult A) (v w : Option Want)
    (k : A → Vars → List ℤ → Option Want)
    → v ≡ w → Follows e l n o w k → Follows e l n o v k
follows_from e l n (Gives x vars rest) v w k same f = record { sizes = f.sizes; short = f.short; same = same ∙ f.same }
follows_from e l n (Awaits event) v w k same f = same ∙ f

-- an evaluation and what comes after it
pub chain : {A B : Type 0} (e l e' l' n : ℕ) (o : EvaluationResult A) (w : Option Want)
    (k : A → Vars → List ℤ → Option Want)
    (go : A → Vars → List ℤ → EvaluationResult B) (k' : B → Vars → List ℤ → Option Want) → Follows e' l' n o w k →
    ((x : A) (vars : Vars) (rest : List ℤ) → HasSizes e' l' vars → length rest ≤ n →
    Follows e l n (go x vars rest) (k x vars rest) k') → Follows e l n (and_then o go) w k'
chain e l e' l' n (Gives x vars rest) w k go k' f next =
    follows_from e l n (go x vars rest) w (k x vars rest) k' f.same (next x vars rest f.sizes f.short)
chain e l e' l' n (Awaits event) w k go k' f next = f

-- the replies left may be more
pub follows_longer : {A : Type 0} (e l n : ℕ) (o : EvaluationResult A) (w : Option Want)
    (k : A → Vars → List ℤ → Option Want)
    → Follows e l n o w k → Follows e l (suc n) o w k
follows_longer e l n (Gives x vars rest) w k f =
    record { sizes = f.sizes; short = omega (arith, f.short); same = f.same }
follows_longer e l n (Awaits event) w k f = f

-- what a state shows: what it wants, or nothing if its instruction lacks what it takes
abbrev pub shown : Program → Machine → Option Want
shown program s = if is_ready program s (instr_at program s.at) then Some (want_next program s) else None

-- what is shown after replies, from a state on
unfoldable pub wants : Program → Machine → List ℤ → Option Want
wants program s trace = shown program (reached program s trace)

module _ (program : Program) (s : Machine) (i : Instr) (here : instr_at program s.at ≡ Some i)
    (ready : is_ready program s (Some i) ≡ true) where
  shown_when : (b : Bool) → is_fitting program s (Some i) ≡ b →
      shown program s ≡ Some (if b then event_of s (Some i) else Restart)
  shown_when b fits =
      ap
      (λ (o : Option Instr). if is_ready program s o then Some
      (if is_fitting program s o then event_of s o else Restart)
      else None) here
      ∙
      ap
      (λ (r : Bool). if r then Some (if is_fitting program s (Some i) then event_of s (Some i) else Restart) else
      None)
      ready
      ∙ ap (λ (c : Bool). Some (if c then event_of s (Some i) else Restart)) fits

  after_when : (b : Bool) → is_fitting program s (Some i) ≡ b → (reply : ℤ) →
      machine_after program reply s ≡ (if b then done_with program reply s (Some i) else s)
  after_when b fits reply =
      ap (λ (o : Option Instr). if is_fitting program s o then done_with program reply s o else s) here
      ∙ ap (λ (c : Bool). if c then done_with program reply s (Some i) else s) fits

  wants_restart : is_fitting program s (Some i) ≡ false → (trace : List ℤ) → wants program s trace ≡ Some Restart
  unfolding wants
  wants_restart unfit [] = shown_when false unfit
  wants_restart unfit (reply ∷ rest) =
      ap (λ (t : Machine). shown program (reached program t rest)) (after_when false unfit reply) ∙
      wants_restart unfit rest

  wants_now : is_fitting program s (Some i) ≡ true → wants program s [] ≡ Some (event_of s (Some i))
  unfolding wants
  wants_now fits = shown_when true fits

  wants_behind : is_fitting program s (Some i) ≡ true → (reply : ℤ) (rest : List ℤ) →
      wants program s (reply ∷ rest) ≡ wants program (done_with program reply s (Some i)) rest
  unfolding wants
  wants_behind fits reply rest =
      ap (λ (t : Machine). shown program (reached program t rest)) (after_when true fits reply)

  -- One instruction is one cycle of the tree.
  pub ticks : {A : Type 0} (e l n : ℕ) (fit : Bool) (event : Want) (trace : List ℤ)
      (go : ℤ → List ℤ → EvaluationResult A)
      (k : A → Vars → List ℤ → Option Want) → is_fitting program s (Some i) ≡ fit → event_of s (Some i) ≡ event →
      ((reply : ℤ) (rest : List ℤ) → suc (length rest) ≡ length trace →
      Follows e l n (go reply rest) (wants program (done_with program reply s (Some i)) rest) k) →
      Follows e l n (tick fit event trace go) (wants program s trace) k
  ticks e l n false event trace go k fits is next = wants_restart fits trace
  ticks e l n true event [] go k fits is next = wants_now fits ∙ ap (λ (w : Want). Some w) is
  ticks e l n true event (reply ∷ rest) go k fits is next =
      follows_from e l n (go reply rest) (wants program s (reply ∷ rest))
      (wants program (done_with program reply s (Some i)) rest) k (wants_behind fits reply rest) (next reply rest refl)

  -- what doesn't fit wants a restart
  pub ticks_not : {A : Type 0} (e l n : ℕ) (event : Want) (trace : List ℤ) (go : ℤ → List ℤ → EvaluationResult A)
      (k : A → Vars → List ℤ → Option Want) → is_fitting program s (Some i) ≡ false →
      Follows e l n (tick false event trace go) (wants program s trace) k
  ticks_not e l n event trace go k unfit = wants_restart unfit trace
