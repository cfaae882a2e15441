-- The steps of a maker: how many instructions each makes, and how many addresses it leaves open.
use Rattle.std.specs.Prelude.{ℕ, ◌+◌, ◌≡◌, List, [], ◌∷◌, ◌++◌, Bool, true, false, length, pos, if◌then◌else◌}
use Rattle.std.proofs.Common.{refl, sym, ap, ◌∙◌, arith, length-append, add-zero, zero-add}
use Rattle.std.proofs.lemmas.List.{length-set}
use Rattle.arith.specs.declared.operators.Op.{Op}
use Rattle.arith.specs.declared.operators.Op.TheVariants as op
use Rattle.grammar.specs.declared.actions.Action.{Action}
use Rattle.grammar.specs.declared.actions.Action.TheVariants.{PushConstant, FetchVariable, StoreVariable, ApplyBinop}
use Rattle.grammar.specs.declared.actions.Action.TheVariants.{LogicMiddle, BeginCall, EndCall, IfTest, ElsePart, EndIf}
use Rattle.grammar.specs.declared.actions.Action.TheVariants.{BeginWhile, WhileTest, EndWhile, GiveBack, Chop}
use Rattle.grammar.specs.declared.actions.Action.TheVariants.{BeginFunction, EndFunction}
use Rattle.grammar.specs.Actions.{instructions, code_length, middle_length, end_length}
use Rattle.grammar.specs.Profile.{Profile}
use Rattle.code.specs.declared.instr.Instr.{Instr}
use Rattle.code.specs.declared.instr.Instr.TheVariants.{Fetch, Store, Const, Binop, Fcall, Retsub, Branch, Truth}
use Rattle.code.specs.declared.instr.Instr.TheVariants as instr
use Rattle.code.specs.Making.{Maker, empty_maker, with_code, with_begun_function, with_branch, with_turn, with_other, with_opened, with_closed, without_open, begun_right, ended_right, last_opened, others_opened, maker_with, maker_from, maker_after}

-- how many addresses a step leaves open goes by how many were open
pub record IsStep (f : Maker → Maker) (n : ℕ) : Type 0 where
  pub grows : (m : Maker) → length (f m).code ≡ length m.code + n
  pub opens : (m o : Maker) → length m.opened ≡ length o.opened → length (f m).opened ≡ length (f o).opened
  pub keeps : (m : Maker) → (f m).profile ≡ m.profile

length-rest : (xs ys : List ℕ) → length xs ≡ length ys → length (others_opened xs) ≡ length (others_opened ys)
length-rest [] [] e = refl
length-rest [] (y ∷ ys) e = absurd (omega (arith, e))
length-rest (x ∷ xs) [] e = absurd (omega (arith, e))
length-rest (x ∷ xs) (y ∷ ys) e = omega (arith, e)

pub none_step : IsStep (λ m. m) 0
none_step = record { grows = λ m. sym (add-zero (length m.code)); opens = λ m o e. e; keeps = λ m. refl }

pub one_step : (i : Instr) → IsStep (λ m. with_code m (i ∷ [])) 1
one_step i = record { grows = λ m. length-append m.code (i ∷ []); opens = λ m o e. e; keeps = λ m. refl }

pub branch_step : IsStep with_branch 1
branch_step =
    record { grows = λ m. length-append m.code (Branch 0 ∷ []); opens = λ m o e. omega (arith, e); keeps = λ m. refl }

pub other_step : IsStep with_other 2
other_step = record {
  grows = λ m.
      length-set (m.code ++ Const (pos 0) ∷ Branch 0 ∷ []) (last_opened m.opened) (Branch (length m.code + 1 + 1))
      ∙ length-append m.code (Const (pos 0) ∷ Branch 0 ∷ []);
  opens = λ m o e. omega (arith, length-rest m.opened o.opened e);
  keeps = λ m. refl;
}

pub closing_step : IsStep with_closed 0
closing_step = record {
  grows = λ m. length-set m.code (last_opened m.opened) (Branch (length m.code)) ∙ sym (add-zero (length m.code));
  opens = λ m o e. length-rest m.opened o.opened e;
  keeps = λ m. refl;
}

pub opening_step : IsStep with_opened 0
opening_step =
    record { grows = λ m. sym (add-zero (length m.code)); opens = λ m o e. omega (arith, e); keeps = λ m. refl }

pub function_step : (n : ℕ) → IsStep (λ m. with_begun_function m n) 0
function_step n = record { grows = λ m. sym (add-zero (length m.code)); opens = λ m o e. e; keeps = λ m. refl }

turn_step : IsStep (λ m. without_open (with_closed (with_turn m))) 2
turn_step = record {
  grows = λ m.
      length-set (with_turn m).code (last_opened m.opened) (Branch (length (with_turn m).code))
      ∙ length-append m.code (Const (pos 0) ∷ Branch (last_opened (others_opened m.opened)) ∷ []);
  opens = λ m o e. length-rest (others_opened m.opened) (others_opened o.opened) (length-rest m.opened o.opened e);
  keeps = λ m. refl;
}

pub both_steps : {f g : Maker → Maker} {n k : ℕ} → IsStep f n → IsStep g k → IsStep (λ m. g (f m)) (n + k)
both_steps {f} {g} {n} {k} first second = record {
  grows = λ m. omega (arith, second.grows (f m), first.grows m);
  opens = λ m o e. second.opens (f m) (f o) (first.opens m o e);
  keeps = λ m. second.keeps (f m) ∙ first.keeps m;
}

pub begun_step : (o : Op) → IsStep (begun_right o) (middle_length o)
begun_step op.And = branch_step
begun_step op.Or = both_steps (both_steps branch_step (one_step (Const (pos 1)))) other_step
begun_step o = none_step

pub ended_step : (o : Op) → IsStep (ended_right o) (end_length o)
ended_step op.And =
    both_steps (both_steps (both_steps (one_step Truth) other_step) (one_step (Const (pos 0)))) closing_step
ended_step op.Or = both_steps (one_step Truth) closing_step
ended_step o = one_step (Binop o)

-- an action of a profile that evaluates both sides, or leaves out the right one
abbrev making_by : Bool → Maker → Action → Maker
making_by short m (ApplyBinop o) = if short then ended_right o m else with_code m (Binop o ∷ [])
making_by short m (LogicMiddle o) = if short then begun_right o m else m
making_by short m a = maker_with m a

abbrev count_by : Bool → Action → ℕ
count_by short (ApplyBinop o) = if short then end_length o else 1
count_by short (LogicMiddle o) = if short then middle_length o else 0
count_by short ElsePart = 2
count_by short EndWhile = 2
count_by short EndIf = 0
count_by short BeginWhile = 0
count_by short (BeginFunction number parameters) = 0
count_by short (EndFunction variables) = 0
count_by short a = 1

step_by : (short : Bool) (a : Action) → IsStep (λ m. making_by short m a) (count_by short a)
step_by true (ApplyBinop o) = ended_step o
step_by false (ApplyBinop o) = one_step (Binop o)
step_by true (LogicMiddle o) = begun_step o
step_by false (LogicMiddle o) = none_step
step_by short (PushConstant value) = one_step (Const value)
step_by short (FetchVariable v) = one_step (Fetch v)
step_by short (StoreVariable v o) = one_step (Store v o)
step_by short BeginCall = one_step instr.Frame
step_by short (EndCall callee) = one_step (Fcall callee)
step_by short IfTest = branch_step
step_by short ElsePart = other_step
step_by short EndIf = closing_step
step_by short BeginWhile = opening_step
step_by short WhileTest = branch_step
step_by short EndWhile = turn_step
step_by short GiveBack = one_step Retsub
step_by short Chop = one_step instr.Chop
step_by short (BeginFunction number parameters) = function_step number
step_by short (EndFunction variables) = none_step

made_by : (m : Maker) (a : Action) → maker_with m a ≡ making_by m.profile.short_circuit m a
made_by m (ApplyBinop o) = refl
made_by m (LogicMiddle o) = refl
made_by m a = refl

counted_by : (p : Profile) (a : Action) → instructions p a ≡ count_by p.short_circuit a
counted_by p (ApplyBinop o) = refl
counted_by p (LogicMiddle o) = refl
counted_by p a = refl

-- each action makes as many instructions as it is said to
pub length-maker_with : (m : Maker) (a : Action) →
    length (maker_with m a).code ≡ length m.code + instructions m.profile a
length-maker_with m a =
    let short = m.profile.short_circuit in
    ap (λ (m : Maker). length m.code) (made_by m a) ∙ (step_by short a).grows m ∙
    ap (λ (n : ℕ). length m.code + n) (sym (counted_by m.profile a))

pub profile_making : (m : Maker) (a : Action) → (maker_with m a).profile ≡ m.profile
profile_making m a = ap (λ (m : Maker). m.profile) (made_by m a) ∙ (step_by m.profile.short_circuit a).keeps m

-- how many addresses an action leaves open goes by how many were open
pub making_opens : (m o : Maker) (a : Action) → m.profile ≡ o.profile → length m.opened ≡ length o.opened →
    length (maker_with m a).opened ≡ length (maker_with o a).opened
making_opens m o a same e =
    let short = m.profile.short_circuit in
    ap (λ (m : Maker). length m.opened) (made_by m a)
    ∙ (step_by short a).opens m o e
    ∙ ap (λ (p : Profile). length (making_by p.short_circuit o a).opened) same
    ∙ sym (ap (λ (m : Maker). length m.opened) (made_by o a))

pub length-maker_from : (m : Maker) (acts : List Action) →
    length (maker_from m acts).code ≡ length m.code + code_length m.profile acts
length-maker_from m [] = sym (add-zero (length m.code))
length-maker_from m (a ∷ acts) =
    let kept = ap (λ (p : Profile). code_length p acts) (profile_making m a) in
    omega (arith, length-maker_with m a, length-maker_from (maker_with m a) acts, kept)

pub profile_made_from : (m : Maker) (acts : List Action) → (maker_from m acts).profile ≡ m.profile
profile_made_from m [] = refl
profile_made_from m (a ∷ acts) = profile_made_from (maker_with m a) acts ∙ profile_making m a

pub length-maker_after : (p : Profile) (acts : List Action) → length (maker_after p acts).code ≡ code_length p acts
length-maker_after p acts = length-maker_from (empty_maker p) acts ∙ zero-add (code_length p acts)

pub profile_made : (p : Profile) (acts : List Action) → (maker_after p acts).profile ≡ p
profile_made p acts = profile_made_from (empty_maker p) acts
