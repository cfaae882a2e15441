-- Code at an address, and what it is for it to evaluate an expression or to have the effect of statements.
use Rattle.std.specs.Prelude.{ℕ, ℤ, pos, suc, ◌+◌, ◌≡◌, ◌<◌, ◌≤◌, List, [], ◌∷◌, ◌++◌, Option, Some, length}
use Rattle.std.proofs.Common.{sym, ap, ◌∙◌, subst, arith, length-append}
use Rattle.code.specs.declared.instr.Instr.{Instr}
use Rattle.code.specs.declared.instr.Instr.TheVariants.{Const, Branch}
use Rattle.code.specs.declared.want.Want.{Want}
use Rattle.code.specs.declared.want.Want.TheVariants.{Restart}
use Rattle.code.specs.Generation.{Program, CodeAt, ◌⨾◌, either}
use Rattle.code.specs.declared.frame.Frame.{Frame}
use Rattle.code.specs.Machine.{instr_at}
use Rattle.code.specs.Meaning.{Vars, EvaluationResult, Completion, Through, Returns}
use Rattle.code.proofs.Follows.{HasSizes, Arrives, Follows, wants}
use Rattle.code.proofs.Instructions.{run, IsDepth, back_with}

-- these instructions are in the code from this address on
abbrev pub StandsAt : Program → ℕ → List Instr → Type 0
StandsAt program at [] = Unit {0}
StandsAt program at (i ∷ is) = (instr_at program at ≡ Some i) × StandsAt program (at + 1) is

-- the two parts of a list that is in the code
pub record StandsBoth (program : Program) (at : ℕ) (xs ys : List Instr) : Type 0 where
  pub first : StandsAt program at xs
  pub second : StandsAt program (at + length xs) ys

pub stands_both : (program : Program) (at : ℕ) (xs ys : List Instr) → StandsAt program at (xs ++ ys) →
    StandsBoth program at xs ys
stands_both program at [] ys s =
    let e : at ≡ at + 0 = omega arith in
    record { first = tt; second = subst (λ (a : ℕ). StandsAt program a ys) e s }
stands_both program at (x ∷ xs) ys s =
    let rest = stands_both program (at + 1) xs ys s.1 in
    let e : at + 1 + length xs ≡ at + suc (length xs) = omega arith in
    record { first = (s.0, rest.first); second = subst (λ (a : ℕ). StandsAt program a ys) e rest.second }

pub stands : (program : Program) (at : ℕ) (a b : CodeAt) → StandsAt program at ((a ⨾ b) at) →
    StandsBoth program at (a at) (b (at + length (a at)))
stands program at a b s = stands_both program at (a at) (b (at + length (a at))) s

-- where a piece and the one after it end
pub ends : (at : ℕ) (a b : CodeAt) → at + length (a at) + length (b (at + length (a at))) ≡ at + length ((a ⨾ b) at)
ends at a b = omega (arith, length-append (a at) (b (at + length (a at))))

-- the last of three pieces stands where the second ends
pub stands_third : (program : Program) (a b c : CodeAt) (at to : ℕ) → StandsAt program at ((a ⨾ b ⨾ c) at) →
    at + length (a at) + length (b (at + length (a at))) ≡ to →
    StandsAt program to (c to) × (to + length (c to) ≡ at + length ((a ⨾ b ⨾ c) at))
stands_third program a b c at to s is =
    let second = at + length (a at) in (
      subst (λ (x : ℕ). StandsAt program x (c x)) is
          (stands program second b c (stands program at a (b ⨾ c) s).second).second,
      ap (λ (x : ℕ). x + length (c x)) (sym is) ∙ ends second b c ∙ ends at a (b ⨾ c),
    )

-- a choice between two pieces
pub record StandsEither (program : Program) (at : ℕ) (s t : CodeAt) (other end : ℕ) : Type 0 where
  pub branch : instr_at program at ≡ Some (Branch other)
  pub first : StandsAt program (at + 1) (s (at + 1))
  pub zero : instr_at program (at + 1 + length (s (at + 1))) ≡ Some (Const (pos 0))
  pub jump : instr_at program (at + 1 + length (s (at + 1)) + 1) ≡ Some (Branch end)
  pub second : StandsAt program other (t other)

abbrev pub other_of : ℕ → CodeAt → ℕ
other_of at s = at + 1 + length (s (at + 1)) + 1 + 1

abbrev pub end_of : ℕ → CodeAt → CodeAt → ℕ
end_of at s t = other_of at s + length (t (other_of at s))

pub stands_either : (program : Program) (at : ℕ) (s t : CodeAt) → StandsAt program at (either s t at) →
    StandsEither program at s t (other_of at s) (end_of at s t)
stands_either program at s t h =
    let both =
    stands_both program (at + 1) (s (at + 1)) (Const (pos 0) ∷ Branch (end_of at s t) ∷ t (other_of at s)) h.1 in
    record { branch = h.0; first = both.first; zero = both.second.0; jump = both.second.1.0; second = both.second.1.1 }

pub ends_either : (at : ℕ) (s t : CodeAt) → end_of at s t ≡ at + length (either s t at)
ends_either at s t =
    omega (arith, length-append (s (at + 1)) (Const (pos 0) ∷ Branch (end_of at s t) ∷ t (other_of at s)))

-- the trees' variables, depth, frames and replies belong to a run
pub record Tied (e l n : ℕ) (below : List ℤ) (fs : List Frame) (vars : Vars) (temps : List ℤ) (depth frames : ℕ)
    (trace : List ℤ) : Type 0 where
  pub sizes : HasSizes e l vars
  pub deep : IsDepth l below temps depth
  pub count : frames ≡ length fs
  pub inside : 0 < length fs
  pub short : length trace ≤ n

-- how an evaluation goes: at these variables, depth, frames, along these replies
abbrev pub Evaluation : Type 0 → Type 0
Evaluation A = Vars → ℕ → ℕ → List ℤ → EvaluationResult A

module _ (program : Program) where
  -- the run of a function goes on after a piece, with its values pushed
  abbrev pub gone_on : ℕ → List ℤ → List Frame → List ℤ → ℤ → Vars → List ℤ → Option Want
  gone_on at below fs temps x vars rest = wants program (run at below fs vars (temps ++ x ∷ [])) rest

  abbrev pub gone_on_with : ℕ → List ℤ → List Frame → List ℤ → List ℤ → Vars → List ℤ → Option Want
  gone_on_with at below fs temps xs vars rest = wants program (run at below fs vars (temps ++ xs)) rest

  -- after statements: the run goes on, or the function has returned, which main never does
  abbrev pub flown : ℕ → List ℤ → Frame → List Frame → Completion → Vars → List ℤ → Option Want
  flown at below f fs Through vars rest = wants program (run at below (f ∷ fs) vars []) rest
  flown at below f [] (Returns x) vars rest = Some Restart
  flown at below f (g ∷ fs) (Returns x) vars rest = wants program (back_with f below (g ∷ fs) vars.externals x) rest

module _ (program : Program) (e l n : ℕ) where
  -- at any address, the piece follows the evaluation and pushes its value
  abbrev pub Evaluates : CodeAt → Evaluation ℤ → Type 0
  Evaluates piece ev =
      (below : List ℤ) (fs : List Frame) (at : ℕ) (vars : Vars) (temps : List ℤ) (depth frames : ℕ) (trace : List ℤ) →
      Tied e l n below fs vars temps depth frames trace → StandsAt program at (piece at) →
      Follows e l n (ev vars depth frames trace) (wants program (run at below fs vars temps) trace)
      (gone_on program (at + length (piece at)) below fs temps)

  abbrev pub EvaluatesAll : CodeAt → Evaluation (List ℤ) → Type 0
  EvaluatesAll piece ev =
      (below : List ℤ) (fs : List Frame) (at : ℕ) (vars : Vars) (temps : List ℤ) (depth frames : ℕ) (trace : List ℤ) →
      Tied e l n below fs vars temps depth frames trace → StandsAt program at (piece at) →
      Follows e l n (ev vars depth frames trace) (wants program (run at below fs vars temps) trace)
      (gone_on_with program (at + length (piece at)) below fs temps)

  -- the same of statements, which leave the stack as it was
  abbrev pub Effects : CodeAt → Evaluation Completion → Type 0
  Effects piece ev =
      (below : List ℤ) (f : Frame) (fs : List Frame) (at : ℕ) (vars : Vars) (depth frames : ℕ) (trace : List ℤ) →
      f.base ≡ length below → Tied e l n below (f ∷ fs) vars [] depth frames trace → StandsAt program at (piece at) →
      Follows e l n (ev vars depth frames trace) (wants program (run at below (f ∷ fs) vars []) trace)
      (flown program (at + length (piece at)) below f fs)

  -- an evaluation is done where the run arrives
  pub arrives : (below : List ℤ) (fs : List Frame) (from to : ℕ) (vars : Vars) (temps : List ℤ) (rest : List ℤ) →
      HasSizes e l vars → length rest ≤ n → from ≡ to →
      Arrives e l n vars rest (wants program (run from below fs vars temps) rest)
      (wants program (run to below fs vars temps) rest)
  arrives below fs from to vars temps rest sizes short same = record {
    sizes = sizes;
    short = short;
    same = ap (λ (at : ℕ). wants program (run at below fs vars temps) rest) same;
  }
