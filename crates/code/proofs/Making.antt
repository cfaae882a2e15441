-- What the actions of trees make is their code, with each branch's target.
use Rattle.std.specs.Prelude.{ℕ, Option, pos, ◌+◌, ◌≡◌, ◌<◌, List, [], ◌∷◌, ◌++◌, Bool, true, false, ◌==◌, length, take, map, slice_set, if◌then◌else◌}
use Rattle.std.proofs.Common.{refl, sym, ap, ◌∙◌, subst, arith, append_assoc, length-append, length-take, zero-add, inl, inr, ◌≢◌, get_or, get_or-set_other, get_or-set_same}
use Rattle.std.proofs.lemmas.Option.{slice_get-get_or}
use Rattle.grammar.specs.Resolved.{IsAmong, AreDistinct, IsResolved}
use Rattle.std.proofs.lemmas.Bool.Decides.{nat_tests}
use Rattle.std.proofs.lemmas.List.{append-nil, length-set, length-map, length-replicate, get_or-take, ext_get_or}
use Rattle.std.proofs.lemmas.List.FromFn.{get_or-map-range_with_len, length-range_with_len}
use Rattle.std.specs.List.{range_with_len}
use Rattle.std.proofs.Math.Seq.{set-append_seam}
use Rattle.arith.specs.declared.operators.Op.{Op}
use Rattle.arith.specs.declared.operators.Op.TheVariants as op
use Rattle.grammar.specs.declared.actions.Action.{Action}
use Rattle.grammar.specs.declared.actions.Action.TheVariants.{StoreVariable, ApplyBinop, LogicMiddle, BeginCall}
use Rattle.grammar.specs.declared.actions.Action.TheVariants.{EndCall, IfTest, ElsePart, EndIf, BeginWhile, WhileTest}
use Rattle.grammar.specs.declared.actions.Action.TheVariants.{EndWhile, GiveBack, Chop, EndFunction}
use Rattle.grammar.specs.Actions.{middle, expr_actions, args_actions, body_actions, function_actions, functions_actions}
use Rattle.grammar.specs.Actions.{numbered_actions, actions, last_return as last_return_actions}
use Rattle.arith.specs.Op.{is_logic}
use Rattle.grammar.specs.Profile.{Profile}
use Rattle.grammar.specs.Tree.{Expr, Constant, Variable, Binary, Assign, Postfix, Call, Args, NoMore, Argument, Body, Done, ExpressionStatement, IfStatement, IfElseStatement, While, Return, Function, File}
use Rattle.code.specs.Functions.{function_at, no_function}
use Rattle.code.specs.declared.instr.Instr.{Instr}
use Rattle.code.specs.declared.instr.Instr.TheVariants.{Fetch, Store, Const, Binop, Fcall, Retsub, Branch, Truth, Nop}
use Rattle.code.specs.declared.instr.Instr.TheVariants as instr
use Rattle.code.specs.Generation.{CodeAt, ◌⨾◌, only, no_code, past, either, loop, both_code, short_code, binary_code, expr_code, args_code, body_code, function_code, functions_code, last_return_code, address_in, code_of}
use Rattle.code.specs.Making.{Maker, empty_maker, maker_after, with_code, with_begun_function, with_branch, with_other, with_turn, with_opened, with_closed, without_open, begun_right, ended_right, maker_with, maker_from}

pub maker_from-append : (m : Maker) (xs ys : List Action) → maker_from m (xs ++ ys) ≡ maker_from (maker_from m xs) ys
maker_from-append m [] ys = refl
maker_from-append m (x ∷ xs) ys = maker_from-append (maker_with m x) xs ys

-- what is held, with another list of instructions
abbrev coded : Maker → List Instr → Maker
coded m code = record { profile = m.profile; code = code; addresses = m.addresses; opened = m.opened }

with_code-append : (m : Maker) (a b : List Instr) → with_code (with_code m a) b ≡ with_code m (a ++ b)
with_code-append m a b = ap (coded m) (append_assoc m.code a b)

-- whatever is made so far by the profile, these actions add the piece
abbrev pub Makes : Profile → List Action → CodeAt → Type 0
Makes p acts piece = (m : Maker) → m.profile ≡ p → maker_from m acts ≡ with_code m (piece (length m.code))

-- code, and then what further actions add
behind : (p : Profile) (m : Maker) → m.profile ≡ p → (front : List Instr) (ys : List Action) (b : CodeAt) →
    Makes p ys b →
    maker_from (with_code m front) ys ≡ with_code m (front ++ b (length m.code + length front))
behind p m e front ys b second =
    second (with_code m front) e
    ∙ with_code-append m front (b (length (m.code ++ front)))
    ∙ ap (λ (at : ℕ). with_code m (front ++ b at)) (length-append m.code front)

pub makes_then : (p : Profile) (xs ys : List Action) (a b : CodeAt) → Makes p xs a → Makes p ys b →
    Makes p (xs ++ ys) (a ⨾ b)
makes_then p xs ys a b first second m e =
    maker_from-append m xs ys ∙ ap (λ (r : Maker). maker_from r ys) (first m e) ∙
    behind p m e (a (length m.code)) ys b second

-- one action that adds these instructions, and then others
pub makes_one : (p : Profile) (x : Action) (ys : List Action) (is : List Instr) (b : CodeAt) →
    ((m : Maker) → maker_with m x ≡ with_code m is) → Makes p ys b → Makes p (x ∷ ys) (only is ⨾ b)
makes_one p x ys is b first second m e = ap (λ (r : Maker). maker_from r ys) (first m) ∙ behind p m e is ys b second

-- the instruction at the seam is written
set_at : (front back : List Instr) (y i : Instr) (k : ℕ) → k ≡ length front →
    slice_set (front ++ y ∷ back) k i ≡ front ++ i ∷ back
set_at front back y i k e =
    ap (λ (n : ℕ). slice_set (front ++ y ∷ back) n i) e ∙ set-append_seam front y back i

-- a branch past a piece
closed_if : (m : Maker) (s : CodeAt) →
    with_closed (with_code (with_branch m) (s (length (with_branch m).code))) ≡ with_code m (past s (length m.code))
closed_if m s =
    let at = length m.code in
    let front = m.code ++ Branch 0 ∷ [] in
    let inner = s (at + 1) in
    let here : length front ≡ at + 1 = length-append m.code (Branch 0 ∷ []) in
    let flat : front ++ inner ≡ m.code ++ Branch 0 ∷ inner = append_assoc m.code (Branch 0 ∷ []) inner in
    let target : length (m.code ++ Branch 0 ∷ inner) ≡ at + 1 + length inner =
    omega (arith, length-append m.code (Branch 0 ∷ inner)) in
    ap (λ (n : ℕ). coded m (slice_set (front ++ s n) at (Branch (length (front ++ s n))))) here
    ∙ ap (λ (l : List Instr). coded m (slice_set l at (Branch (length l)))) flat
    ∙ ap (λ (n : ℕ). coded m (slice_set (m.code ++ Branch 0 ∷ inner) at (Branch n))) target
    ∙ ap (coded m) (set_at m.code inner (Branch 0) (Branch (at + 1 + length inner)) at refl)

pub makes_if : (p : Profile) (xs ys : List Action) (s b : CodeAt) → Makes p xs s → Makes p ys b →
    Makes p (IfTest ∷ (xs ++ EndIf ∷ ys)) (past s ⨾ b)
makes_if p xs ys s b first second m e =
    let m1 = with_branch m in
    maker_from-append m1 xs (EndIf ∷ ys)
    ∙ ap (λ (r : Maker). maker_from (with_closed r) ys) (first m1 e)
    ∙ ap (λ (r : Maker). maker_from r ys) (closed_if m s)
    ∙ behind p m e (past s (length m.code)) ys b second

-- the first part of a choice is made, and a branch without a target after it
abbrev between : Maker → List Instr → Maker
between m inner = record {
  profile = m.profile;
  code = m.code ++ Branch (length m.code + 1 + length inner + 1 + 1) ∷ (inner ++ Const (pos 0) ∷ Branch 0 ∷ []);
  addresses = m.addresses;
  opened = (length m.code + 1 + length inner + 1) ∷ m.opened;
}

begun_else : (m : Maker) (s : CodeAt) →
    with_other (with_code (with_branch m) (s (length (with_branch m).code))) ≡ between m (s (length m.code + 1))
begun_else m s =
    let at = length m.code in
    let front = m.code ++ Branch 0 ∷ [] in
    let inner = s (at + 1) in
    let tail : List Instr = Const (pos 0) ∷ Branch 0 ∷ [] in
    let here : length front ≡ at + 1 = length-append m.code (Branch 0 ∷ []) in
    let flat : front ++ inner ≡ m.code ++ Branch 0 ∷ inner = append_assoc m.code (Branch 0 ∷ []) inner in
    let size : length (m.code ++ Branch 0 ∷ inner) ≡ at + 1 + length inner =
    omega (arith, length-append m.code (Branch 0 ∷ inner)) in
    let step =
    λ (l : List Instr). let r : Maker = record {
      profile = m.profile;
      code = slice_set (l ++ tail) at (Branch (length l + 1 + 1));
      addresses = m.addresses;
      opened = (length l + 1) ∷ m.opened;
    } in r in
    let sized =
    λ (k : ℕ). let r : Maker = record {
      profile = m.profile;
      code = slice_set ((m.code ++ Branch 0 ∷ inner) ++ tail) at (Branch (k + 1 + 1));
      addresses = m.addresses;
      opened = (k + 1) ∷ m.opened;
    } in r in
    let other = at + 1 + length inner + 1 + 1 in
    let last =
    λ (l : List Instr). let r : Maker = record
    { profile = m.profile; code = l; addresses = m.addresses; opened = (at + 1 + length inner + 1) ∷ m.opened } in r
    in
    ap (λ (n : ℕ). step (front ++ s n)) here
    ∙ ap step flat
    ∙ ap sized size
    ∙ ap (λ (l : List Instr). last (slice_set l at (Branch other))) (append_assoc m.code (Branch 0 ∷ inner) tail)
    ∙ ap last (set_at m.code (inner ++ tail) (Branch 0) (Branch other) at refl)

closed_else : (m : Maker) (s t : CodeAt) →
    with_closed (with_code (between m (s (length m.code + 1))) (t (length (between m (s (length m.code + 1))).code))) ≡
    with_code m (either s t (length m.code))
closed_else m s t =
    let at = length m.code in
    let inner = s (at + 1) in
    let other = at + 1 + length inner + 1 + 1 in
    let begun = between m inner in
    let second = t other in
    let front = m.code ++ Branch other ∷ (inner ++ Const (pos 0) ∷ []) in
    let here : length begun.code ≡ other =
    omega (
      arith,
      length-append m.code (Branch other ∷ (inner ++ Const (pos 0) ∷ Branch 0 ∷ [])),
      length-append inner (Const (pos 0) ∷ Branch 0 ∷ []),
    )
    in
    let registers : at + 1 + length inner + 1 ≡ length front =
    omega (
      arith,
      length-append m.code (Branch other ∷ (inner ++ Const (pos 0) ∷ [])),
      length-append inner (Const (pos 0) ∷ []),
    )
    in
    let flat : begun.code ++ second ≡ front ++ Branch 0 ∷ second = simp append_assoc in
    let size : length (front ++ Branch 0 ∷ second) ≡ other + length second =
    omega (arith, length-append front (Branch 0 ∷ second), registers) in
    let step = λ (l : List Instr). coded m (slice_set l (at + 1 + length inner + 1) (Branch (length l))) in
    let end : Instr = Branch (other + length second) in
    let whole : front ++ end ∷ second ≡ m.code ++ either s t at = simp append_assoc in
    ap (λ (n : ℕ). step (begun.code ++ t n)) here
    ∙ ap step flat
    ∙ ap (λ (n : ℕ). coded m (slice_set (front ++ Branch 0 ∷ second) (at + 1 + length inner + 1) (Branch n))) size
    ∙ ap (coded m) (set_at front second (Branch 0) end (at + 1 + length inner + 1) registers)
    ∙ ap (coded m) whole

pub makes_choice : (p : Profile) (xs ys zs : List Action) (s t b : CodeAt) → Makes p xs s → Makes p ys t →
    Makes p zs b →
    Makes p (IfTest ∷ (xs ++ ElsePart ∷ (ys ++ EndIf ∷ zs))) (either s t ⨾ b)
makes_choice p xs ys zs s t b first second third m e =
    let m1 = with_branch m in
    let m2 = between m (s (length m.code + 1)) in
    maker_from-append m1 xs (ElsePart ∷ (ys ++ EndIf ∷ zs))
    ∙ ap (λ (r : Maker). maker_from (with_other r) (ys ++ EndIf ∷ zs)) (first m1 e)
    ∙ ap (λ (r : Maker). maker_from r (ys ++ EndIf ∷ zs)) (begun_else m s)
    ∙ maker_from-append m2 ys (EndIf ∷ zs)
    ∙ ap (λ (r : Maker). maker_from (with_closed r) zs) (second m2 e)
    ∙ ap (λ (r : Maker). maker_from r zs) (closed_else m s t)
    ∙ behind p m e (either s t (length m.code)) zs b third

-- a loop
closed_loop : (m : Maker) (front : List Instr) (s : CodeAt) → let m2 =
    with_branch (with_code (with_opened m) front) in without_open
    (with_closed (with_turn (with_code m2 (s (length m2.code)))))
    ≡
    with_code m
    (front ++ past (s ⨾ only (Const (pos 0) ∷ Branch (length m.code) ∷ [])) (length m.code + length front))
closed_loop m front s =
    let at = length m.code in
    let tail : List Instr = Const (pos 0) ∷ Branch at ∷ [] in
    let test = m.code ++ front in
    let at1 = at + length front in
    let before = test ++ Branch 0 ∷ [] in
    let inner = s (at1 + 1) in
    let test_is : length test ≡ at1 = length-append m.code front in
    let here : length before ≡ at1 + 1 = omega (arith, length-append test (Branch 0 ∷ []), test_is) in
    let flat : (before ++ inner) ++ tail ≡ test ++ Branch 0 ∷ (inner ++ tail) = simp append_assoc in
    let size : length (test ++ Branch 0 ∷ (inner ++ tail)) ≡ at1 + 1 + length (inner ++ tail) =
    omega (arith, length-append test (Branch 0 ∷ (inner ++ tail)), test_is) in
    let step = λ (l : List Instr). coded m (slice_set l (length test) (Branch (length l))) in
    let end : Instr = Branch (at1 + 1 + length (inner ++ tail)) in
    ap (λ (n : ℕ). step ((before ++ s n) ++ tail)) here
    ∙ ap step flat
    ∙ ap (λ (n : ℕ). coded m (slice_set (test ++ Branch 0 ∷ (inner ++ tail)) (length test) (Branch n))) size
    ∙ ap (coded m) (set_at test (inner ++ tail) (Branch 0) end (length test) refl)
    ∙ ap (coded m) (append_assoc m.code front (end ∷ (inner ++ tail)))

pub makes_loop : (p : Profile) (xs ys zs : List Action) (c s b : CodeAt) → Makes p xs c → Makes p ys s →
    Makes p zs b →
    Makes p (BeginWhile ∷ (xs ++ WhileTest ∷ (ys ++ EndWhile ∷ zs))) (loop c s ⨾ b)
makes_loop p xs ys zs c s b first second third m e =
    let m0 = with_opened m in
    let front = c (length m.code) in
    let m2 = with_branch (with_code m0 front) in
    maker_from-append m0 xs (WhileTest ∷ (ys ++ EndWhile ∷ zs))
    ∙ ap (λ (r : Maker). maker_from (with_branch r) (ys ++ EndWhile ∷ zs)) (first m0 e)
    ∙ maker_from-append m2 ys (EndWhile ∷ zs)
    ∙ ap (λ (r : Maker). maker_from (without_open (with_closed (with_turn r))) zs) (second m2 e)
    ∙ ap (λ (r : Maker). maker_from r zs) (closed_loop m front s)
    ∙ behind p m e (loop c s (length m.code)) zs b third

-- an operator after both of its sides
applied : (m : Maker) (o : Op) (short : Bool) → m.profile.short_circuit ≡ short →
    maker_with m (ApplyBinop o) ≡ (if short then ended_right o m else with_code m (Binop o ∷ []))
applied m o short is = ap (λ (c : Bool). if c then ended_right o m else with_code m (Binop o ∷ [])) is

between_sides : (m : Maker) (o : Op) (short : Bool) → m.profile.short_circuit ≡ short →
    maker_with m (LogicMiddle o) ≡ (if short then begun_right o m else m)
between_sides m o short is = ap (λ (c : Bool). if c then begun_right o m else m) is

makes_nothing : (p : Profile) → Makes p [] no_code
makes_nothing p m e = ap (coded m) (sym (append-nil m.code))

-- both sides are evaluated
module _ (p : Profile) (full : p.short_circuit ≡ false) where
  is_full : (m : Maker) → m.profile ≡ p → m.profile.short_circuit ≡ false
  is_full m e = ap (λ (p : Profile). p.short_circuit) e ∙ full

  makes_middle : (o : Op) (ys : List Action) (b : CodeAt) → Makes p ys b → Makes p (middle o ++ ys) b
  makes_middle o ys b second =
      elim (is_logic o) as (λ v. Makes p ((if v then LogicMiddle o ∷ [] else []) ++ ys) b) [
        | true ↦ (λ m e. ap (λ (r : Maker). maker_from r ys) (between_sides m o false (is_full m e)) ∙ second m e)
        | false ↦ second
      ]

  makes_both : (o : Op) (xs ys : List Action) (a b : CodeAt) → Makes p xs a → Makes p ys b →
      Makes p (xs ++ (middle o ++ (ys ++ ApplyBinop o ∷ []))) (both_code o a b)
  makes_both o xs ys a b first second =
      let last : Makes p (ApplyBinop o ∷ []) (only (Binop o ∷ [])) = λ m e. applied m o false (is_full m e) in
      makes_then p xs (middle o ++ (ys ++ ApplyBinop o ∷ [])) a (b ⨾ only (Binop o ∷ [])) first
      (makes_middle o (ys ++ ApplyBinop o ∷ []) (b ⨾ only (Binop o ∷ []))
      (makes_then p ys (ApplyBinop o ∷ []) b (only (Binop o ∷ [])) second last))

-- the right side may be left out
module _ (p : Profile) (leaves : p.short_circuit ≡ true) where
  is_short : (m : Maker) → m.profile ≡ p → m.profile.short_circuit ≡ true
  is_short m e = ap (λ (p : Profile). p.short_circuit) e ∙ leaves

  makes_and : (ys : List Action) (b : CodeAt) → Makes p ys b →
      Makes p (LogicMiddle op.And ∷ (ys ++ ApplyBinop op.And ∷ []))
      (either (b ⨾ only (Truth ∷ [])) (only (Const (pos 0) ∷ [])))
  makes_and ys b second m e =
      let s = b ⨾ only (Truth ∷ []) in
      let t = only (Const (pos 0) ∷ []) in
      let m1 = with_branch m in
      let m2 = with_code m1 (b (length m1.code)) in
      ap (λ (r : Maker). maker_from r (ys ++ ApplyBinop op.And ∷ [])) (between_sides m op.And true (is_short m e))
      ∙ maker_from-append m1 ys (ApplyBinop op.And ∷ [])
      ∙ ap (λ (r : Maker). maker_with r (ApplyBinop op.And)) (second m1 e)
      ∙ applied m2 op.And true (is_short m2 e)
      ∙
      ap (λ (r : Maker). with_closed (with_code (with_other r) (Const (pos 0) ∷ [])))
      (with_code-append m1 (b (length m1.code)) (Truth ∷ []))
      ∙ ap (λ (r : Maker). with_closed (with_code r (Const (pos 0) ∷ []))) (begun_else m s)
      ∙ closed_else m s t

  makes_or : (ys : List Action) (b : CodeAt) → Makes p ys b →
      Makes p (LogicMiddle op.Or ∷ (ys ++ ApplyBinop op.Or ∷ []))
      (either (only (Const (pos 1) ∷ [])) (b ⨾ only (Truth ∷ [])))
  makes_or ys b second m e =
      let s = only (Const (pos 1) ∷ []) in
      let t = b ⨾ only (Truth ∷ []) in
      let m1 = between m (Const (pos 1) ∷ []) in
      let m2 = with_code m1 (b (length m1.code)) in
      ap (λ (r : Maker). maker_from r (ys ++ ApplyBinop op.Or ∷ []))
      (between_sides m op.Or true (is_short m e) ∙ begun_else m s)
      ∙ maker_from-append m1 ys (ApplyBinop op.Or ∷ [])
      ∙ ap (λ (r : Maker). maker_with r (ApplyBinop op.Or)) (second m1 e)
      ∙ applied m2 op.Or true (is_short m2 e)
      ∙ ap with_closed (with_code-append m1 (b (length m1.code)) (Truth ∷ []))
      ∙ closed_else m s t

  makes_plain : (o : Op) (xs ys : List Action) (a b : CodeAt) →
      ((m : Maker) → ended_right o m ≡ with_code m (Binop o ∷ [])) → Makes p xs a → Makes p ys b →
      Makes p (xs ++ (ys ++ ApplyBinop o ∷ [])) (both_code o a b)
  makes_plain o xs ys a b plain first second =
      let last : Makes p (ApplyBinop o ∷ []) (only (Binop o ∷ [])) = λ m e. applied m o true (is_short m e) ∙ plain m in
      makes_then p xs (ys ++ ApplyBinop o ∷ []) a (b ⨾ only (Binop o ∷ [])) first
      (makes_then p ys (ApplyBinop o ∷ []) b (only (Binop o ∷ [])) second last)

  makes_short : (o : Op) (xs ys : List Action) (a b : CodeAt) → Makes p xs a → Makes p ys b →
      Makes p (xs ++ (middle o ++ (ys ++ ApplyBinop o ∷ []))) (short_code o a b)
  makes_short op.And xs ys a b first second =
      makes_then p xs (LogicMiddle op.And ∷ (ys ++ ApplyBinop op.And ∷ [])) a
      (either (b ⨾ only (Truth ∷ [])) (only (Const (pos 0) ∷ []))) first (makes_and ys b second)
  makes_short op.Or xs ys a b first second =
      makes_then p xs (LogicMiddle op.Or ∷ (ys ++ ApplyBinop op.Or ∷ [])) a
      (either (only (Const (pos 1) ∷ [])) (b ⨾ only (Truth ∷ []))) first (makes_or ys b second)
  makes_short o xs ys a b first second = makes_plain o xs ys a b (λ m. refl) first second

-- an operator of either profile
makes_binary : (p : Profile) (o : Op) (xs ys : List Action) (a b : CodeAt) → Makes p xs a → Makes p ys b →
    Makes p (xs ++ (middle o ++ (ys ++ ApplyBinop o ∷ []))) (binary_code p o a b)
makes_binary p o xs ys a b first second = by p.short_circuit refl
  where
    by : (short : Bool) → p.short_circuit ≡ short →
        Makes p (xs ++ (middle o ++ (ys ++ ApplyBinop o ∷ []))) (if short then short_code o a b else both_code o a b)
    by true leaves = makes_short p leaves o xs ys a b first second
    by false full = makes_both p full o xs ys a b first second

-- The actions of trees make their code.
module _ (p : Profile) where
  mutual
    pub makes_expr : (x : Expr) → Makes p (expr_actions x) (expr_code p x)
    makes_expr (Constant value) = λ m e. refl
    makes_expr (Variable v) = λ m e. refl
    makes_expr (Binary o a b) =
        makes_binary p o (expr_actions a) (expr_actions b) (expr_code p a) (expr_code p b) (makes_expr a) (makes_expr b)
    makes_expr (Assign o v a) =
        let last : Makes p (StoreVariable v o ∷ []) (only (Store v o ∷ [])) = λ m e. refl in
        makes_then p (expr_actions a) (StoreVariable v o ∷ []) (expr_code p a) (only (Store v o ∷ [])) (makes_expr a)
        last
    makes_expr (Postfix o v) = λ m e. ap (coded m) (simp append_assoc)
    makes_expr (Call f xs) =
        let last : Makes p (EndCall f ∷ []) (only (Fcall f ∷ [])) = λ m e. refl in
        makes_one p BeginCall (args_actions xs ++ EndCall f ∷ []) (instr.Frame ∷ [])
        (args_code p xs ⨾ only (Fcall f ∷ [])) (λ m. refl)
        (makes_then p (args_actions xs) (EndCall f ∷ []) (args_code p xs) (only (Fcall f ∷ [])) (makes_args xs) last)

    pub makes_args : (xs : Args) → Makes p (args_actions xs) (args_code p xs)
    makes_args NoMore = makes_nothing p
    makes_args (Argument a xs) =
        makes_then p (expr_actions a) (args_actions xs) (expr_code p a) (args_code p xs) (makes_expr a) (makes_args xs)

  pub makes_body : (b : Body) → Makes p (body_actions b) (body_code p b)
  makes_body Done = makes_nothing p
  makes_body (ExpressionStatement a next) =
      makes_then p (expr_actions a) (Chop ∷ body_actions next) (expr_code p a)
      (only (instr.Chop ∷ []) ⨾ body_code p next) (makes_expr a)
      (makes_one p Chop (body_actions next) (instr.Chop ∷ []) (body_code p next) (λ m. refl) (makes_body next))
  makes_body (IfStatement c s next) =
      makes_then p (expr_actions c) (IfTest ∷ (body_actions s ++ EndIf ∷ body_actions next)) (expr_code p c)
      (past (body_code p s) ⨾ body_code p next) (makes_expr c)
      (makes_if p (body_actions s) (body_actions next) (body_code p s) (body_code p next) (makes_body s)
      (makes_body next))
  makes_body (IfElseStatement c s t next) =
      makes_then p (expr_actions c)
      (IfTest ∷ (body_actions s ++ ElsePart ∷ (body_actions t ++ EndIf ∷ body_actions next))) (expr_code p c)
      (either (body_code p s) (body_code p t) ⨾ body_code p next) (makes_expr c)
      (makes_choice p (body_actions s) (body_actions t) (body_actions next) (body_code p s) (body_code p t)
      (body_code p next) (makes_body s) (makes_body t) (makes_body next))
  makes_body (While c s next) =
      makes_loop p (expr_actions c) (body_actions s) (body_actions next) (expr_code p c) (body_code p s)
      (body_code p next) (makes_expr c) (makes_body s) (makes_body next)
  makes_body (Return a next) =
      makes_then p (expr_actions a) (GiveBack ∷ body_actions next) (expr_code p a)
      (only (Retsub ∷ []) ⨾ body_code p next) (makes_expr a)
      (makes_one p GiveBack (body_actions next) (Retsub ∷ []) (body_code p next) (λ m. refl) (makes_body next))

  -- a function: its code, and its address by its number
  made_function : (m : Maker) → m.profile ≡ p → (n : ℕ) (f : Function) (more : List Action) →
      maker_from m (function_actions n f ++ more) ≡
      maker_from (with_code (with_begun_function m n) (function_code p f (length m.code))) more
  made_function m e n f more =
      let acts = body_actions f.body ++ (last_return_actions ++ EndFunction (length f.variables) ∷ []) in
      let ended : Makes p (last_return_actions ++ EndFunction (length f.variables) ∷ []) last_return_code =
      λ m e. ap (coded m) (append_assoc m.code (Const (pos 0) ∷ []) (Retsub ∷ [])) in
      maker_from-append (with_begun_function m n) acts more
      ∙ ap (λ (r : Maker). maker_from r more)
      (makes_then p (body_actions f.body) (last_return_actions ++ EndFunction (length f.variables) ∷ [])
      (body_code p f.body) last_return_code (makes_body f.body) ended (with_begun_function m n) e)

  module _ (file : File) where
    -- one function of the order, and the others
    made_next : (order : List ℕ) (m : Maker) → m.profile ≡ p → (n : ℕ) → n < length file.functions →
        maker_from m (functions_actions file.functions (n ∷ order)) ≡
        maker_from (with_code (with_begun_function m n) (function_code p (function_at file n) (length m.code)))
        (functions_actions file.functions order)
    made_next order m e n known =
        ap (λ (f : Option Function). maker_from m (numbered_actions n f ++ functions_actions file.functions order))
        (slice_get-get_or file.functions n no_function known)
        ∙ made_function m e n (function_at file n) (functions_actions file.functions order)

    abbrev AllKnown : List ℕ → Type 0
    AllKnown order = (k : ℕ) → IsAmong k order → k < length file.functions

    -- the code of functions in this order
    made_code : (order : List ℕ) (m : Maker) → m.profile ≡ p → AllKnown order →
        (maker_from m (functions_actions file.functions order)).code ≡
        m.code ++ functions_code p file order (length m.code)
    made_code [] m e known = sym (append-nil m.code)
    made_code (n ∷ order) m e known =
        let front = function_code p (function_at file n) (length m.code) in
        ap (λ (r : Maker). r.code) (made_next order m e n (known n (inl refl)))
        ∙ made_code order (with_code (with_begun_function m n) front) e (λ k later. known k (inr later))
        ∙ append_assoc m.code front (functions_code p file order (length (m.code ++ front)))
        ∙ ap (λ (at : ℕ). m.code ++ (front ++ functions_code p file order at)) (length-append m.code front)

    -- the addresses of the others stay
    other_addresses : (order : List ℕ) (m : Maker) → m.profile ≡ p → (k : ℕ) → AllKnown order → (IsAmong k order → ⊥) →
        get_or (maker_from m (functions_actions file.functions order)).addresses k 0 ≡ get_or m.addresses k 0
    other_addresses [] m e k known other = refl
    other_addresses (n ∷ order) m e k known other =
        let front = function_code p (function_at file n) (length m.code) in
        let apart : k ≢ n = λ same. other (inl same) in
        ap (λ (r : Maker). get_or r.addresses k 0) (made_next order m e n (known n (inl refl)))
        ∙
        other_addresses order (with_code (with_begun_function m n) front) e k (λ j later. known j (inr later))
        (λ later. other (inr later))
        ∙ get_or-set_other m.addresses n k (length m.code) 0 apart

    length-addresses : (order : List ℕ) (m : Maker) → m.profile ≡ p → AllKnown order →
        length (maker_from m (functions_actions file.functions order)).addresses ≡ length m.addresses
    length-addresses [] m e known = refl
    length-addresses (n ∷ order) m e known =
        ap (λ (r : Maker). length r.addresses) (made_next order m e n (known n (inl refl)))
        ∙
        length-addresses order
        (with_code (with_begun_function m n) (function_code p (function_at file n) (length m.code))) e
        (λ k later. known k (inr later))
        ∙ length-set m.addresses n (length m.code)

    -- a function's own address
    own_if : (k n : ℕ) (order : List ℕ) (m next : Maker) (registers : ℕ) → next.profile ≡ p →
        next.addresses ≡ slice_set m.addresses n (length m.code) → AllKnown order → k < length m.addresses →
        (IsAmong n order → ⊥) → IsAmong k (n ∷ order) →
        (IsAmong k order → get_or (maker_from next (functions_actions file.functions order)).addresses k 0 ≡ registers)
        →
        (b : Bool) → (k == n) ≡ b →
        get_or (maker_from next (functions_actions file.functions order)).addresses k 0 ≡
        (if b then length m.code else registers)
    own_if k n order m next registers e set known within once here later true test =
        let same : n ≡ k = grind (arith, nat_tests, test) in
        let other : IsAmong k order → ⊥ = subst (λ (j : ℕ). IsAmong j order → ⊥) same once in
        other_addresses order next e k known other
        ∙ ap (λ (l : List ℕ). get_or l k 0) set
        ∙ ap (λ (j : ℕ). get_or (slice_set m.addresses j (length m.code)) k 0) same
        ∙ get_or-set_same m.addresses k (length m.code) 0 within
    own_if k n order m next registers e set known within once here later false test =
        later (elim here [ inl same ↦ absurd (grind (arith, nat_tests, test, same)) | inr there ↦ there ])

    own_address : (order : List ℕ) (m : Maker) → m.profile ≡ p → (k : ℕ) → AllKnown order → AreDistinct order →
        IsAmong k order → k < length m.addresses →
        get_or (maker_from m (functions_actions file.functions order)).addresses k 0 ≡
        address_in p file k order (length m.code)
    own_address [] m e k known once here within = absurd here
    own_address (n ∷ order) m e k known once here within =
        let at = length m.code in
        let front = function_code p (function_at file n) at in
        let next = with_code (with_begun_function m n) front in
        let inside : k < length next.addresses = omega (arith, within, length-set m.addresses n at) in
        ap (λ (r : Maker). get_or r.addresses k 0) (made_next order m e n (known n (inl refl)))
        ∙
        own_if k n order m next (address_in p file k order (at + length front)) e refl (λ j later. known j (inr later))
        within once.0 here
        (λ there. own_address order next e k (λ j later. known j (inr later)) once.1 there inside ∙
        ap (λ (a : ℕ). address_in p file k order a) (length-append m.code front))
        (k == n) refl

    -- What the actions of a file make: its code without the NOP, and the addresses of its functions.
    pub made_file_code : IsResolved file →
        (maker_after p (actions file)).code ++ Nop ∷ [] ≡ (code_of p file).instructions
    made_file_code r = ap (λ (code : List Instr). code ++ Nop ∷ []) (made_code file.order (empty_maker p) refl r.only)

    pub made_file_addresses : IsResolved file →
        take (length file.functions) (maker_after p (actions file)).addresses ≡ (code_of p file).addresses
    made_file_addresses r =
        let made_all = (maker_after p (actions file)).addresses in
        let n = length file.functions in
        let size : length made_all ≡ 64 =
        length-addresses file.order (empty_maker p) refl r.only ∙ length-replicate {A = ℕ} 64 0 in
        let registers = λ (k : ℕ). address_in p file k file.order 0 in
        ext_get_or 0 (take n made_all) (map registers (range_with_len 0 n))
        (omega (
          arith,
          length-take n made_all,
          size,
          r.functions,
          length-map (range_with_len 0 n) registers,
          length-range_with_len 0 n,
        ))
        (λ k within.
        let below : k < n = omega (arith, within, length-take n made_all) in
        get_or-take n made_all k 0 below
        ∙
        own_address file.order (empty_maker p) refl k r.only r.once (r.defined k below)
        (omega (arith, below, r.functions, length-replicate {A = ℕ} 64 0))
        ∙ sym (get_or-map-range_with_len registers 0 n k k 0 below (zero-add k)))
