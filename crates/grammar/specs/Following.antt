-- Which actions may follow those reported to a builder: what they leave open, and what each closes.
use Rattle.std.specs.Prelude.{ℕ, ℤ, pos, ◌+◌, List, [], ◌∷◌, Bool, true, false, ◌&&◌, ◌==◌, Option, Some, None, is_some}
use Rattle.std.specs.Prelude.{IsTrue, nat_lt, nat_le, if◌then◌else◌}
use denote.Enum.Bare.{sameb}
use Rattle.arith.specs.contracts.operators.Op as ops
use Rattle.grammar.specs.declared.resolved_names.Callee.{Callee}
use Rattle.grammar.specs.declared.resolved_names.Callee.TheVariants as callee
use Rattle.grammar.specs.declared.resolved_names.Var.{Var}
use Rattle.grammar.specs.declared.resolved_names.Var.TheVariants as var
use Rattle.arith.specs.declared.operators.Op.{Op}
use Rattle.grammar.specs.declared.actions.Action.{Action}
use Rattle.grammar.specs.declared.actions.Action.TheVariants.{PushConstant, FetchVariable, StoreVariable, ApplyBinop}
use Rattle.grammar.specs.declared.actions.Action.TheVariants.{LogicMiddle, BeginCall, EndCall, IfTest, ElsePart, EndIf}
use Rattle.grammar.specs.declared.actions.Action.TheVariants.{BeginWhile, WhileTest, EndWhile, GiveBack, Chop}
use Rattle.grammar.specs.declared.actions.Action.TheVariants.{BeginFunction, EndFunction}
use Rattle.grammar.specs.NameLimits.{most_names}
use Rattle.grammar.specs.Nesting.{most_open}
use Rattle.arith.specs.Op.{is_logic}

-- how a value came about, as far as it matters for what follows
pub data ValueCategory : Type 0 where
  Number : (value : ℤ) → ValueCategory  -- a constant
  Fetched : (v : Var) → ValueCategory  -- a variable's value
  Incremented : (v : Var) → ValueCategory  -- a store of 1 by an operator, as ++ and -- make
  Computed : ValueCategory

-- what is open
pub data Open : Type 0 where
  InFunction : (parameters : ℕ) (returned : Bool) → Open  -- a function; whether its last statement is `return 0;`
  AValue : (origin : ValueCategory) → Open  -- a value that is still to be used
  BeforeRight : (op : Op) → Open  -- && or ||, whose right side is to come
  InCall : Open  -- a call, whose arguments are the values inside of it
  InBranch : Open  -- an if, in its first branch
  InElse : Open  -- an if, in its second branch
  BeforeTest : Open  -- a while, whose condition is to come
  InLoopBody : Open  -- a while, in its body

-- what is open, the innermost first
abbrev pub Opened : Type 0
Opened = List Open

abbrev pub open_weight : Open → ℕ
open_weight (InFunction parameters returned) = 0
open_weight (AValue origin) = 0
open_weight inner = 1

abbrev pub open_count : Opened → ℕ
open_count [] = 0
open_count (inner ∷ opened) = open_weight inner + open_count opened

-- whether a statement may come next
abbrev pub may_take_statement : Opened → Bool
may_take_statement (InFunction parameters returned ∷ opened) = true
may_take_statement (InBranch ∷ opened) = true
may_take_statement (InElse ∷ opened) = true
may_take_statement (InLoopBody ∷ opened) = true
may_take_statement opened = false

abbrev pub only_on : Bool → Opened → Option Opened
only_on b opened = if b then Some opened else None

-- a value, a call or a right side is inside of something
abbrev pub opens_within : Open → Opened → Option Opened
opens_within inner [] = None
opens_within inner (outer ∷ opened) = Some (inner ∷ outer ∷ opened)

-- what is open after a statement, which is `return 0;` or not
abbrev pub statement_done : Bool → Opened → Option Opened
statement_done returned (InFunction parameters before ∷ opened) = Some (InFunction parameters returned ∷ opened)
statement_done returned opened = only_on (may_take_statement opened) opened

abbrev pub call_done : Opened → Option Opened
call_done (AValue origin ∷ opened) = call_done opened
call_done (InCall ∷ opened) = Some (AValue Computed ∷ opened)
call_done opened = None

abbrev pub same_var : Var → Var → Bool
same_var (var.Local m) (var.Local n) = m == n
same_var (var.External m) (var.External n) = m == n
same_var v w = false

abbrev pub is_number : ℕ → ValueCategory → Bool
is_number n (Number (pos m)) = m == n
is_number n origin = false

-- the new value of a variable over its old one, as v++ and v-- leave them
abbrev pub is_increment : ValueCategory → ValueCategory → Bool
is_increment (Incremented v) (Fetched w) = same_var v w
is_increment origin below = false

abbrev pub stored_origin : Var → ValueCategory → ValueCategory
stored_origin v origin = if is_number 1 origin then Incremented v else Computed

abbrev pub is_var_numbered : Var → Bool
is_var_numbered (var.Local n) = nat_lt n most_names
is_var_numbered (var.External n) = nat_lt n most_names

abbrev pub is_callee_numbered : Callee → Bool
is_callee_numbered (callee.Function n) = nat_lt n most_names
is_callee_numbered (callee.Intrinsic i) = true

abbrev pub same_op : Op → Op → Bool
same_op o p = sameb ops.the_type o p

-- what is open after an action, if it may follow
abbrev pub follow : Action → Opened → Option Opened
follow (PushConstant value) opened = opens_within (AValue (Number value)) opened
follow (FetchVariable v) opened = if is_var_numbered v then opens_within (AValue (Fetched v)) opened else None
follow (StoreVariable v op) (AValue origin ∷ opened) =
    only_on (is_var_numbered v) (AValue (stored_origin v origin) ∷ opened)
follow (ApplyBinop op) (AValue right ∷ AValue left ∷ opened) = if is_logic op then None else Some
    (AValue Computed ∷ opened)
follow (ApplyBinop op) (AValue right ∷ BeforeRight o ∷ AValue left ∷ opened) = only_on (same_op op o)
    (AValue Computed ∷ opened)
follow (LogicMiddle op) (AValue left ∷ opened) = only_on (is_logic op) (BeforeRight op ∷ AValue left ∷ opened)
follow BeginCall opened = opens_within InCall opened
follow (EndCall callee) opened = if is_callee_numbered callee then call_done opened else None
follow IfTest (AValue condition ∷ opened) = only_on (may_take_statement opened) (InBranch ∷ opened)
follow ElsePart (InBranch ∷ opened) = Some (InElse ∷ opened)
follow EndIf (InBranch ∷ opened) = statement_done false opened
follow EndIf (InElse ∷ opened) = statement_done false opened
follow BeginWhile opened = only_on (may_take_statement opened) (BeforeTest ∷ opened)
follow WhileTest (AValue condition ∷ BeforeTest ∷ opened) = Some (InLoopBody ∷ opened)
follow EndWhile (InLoopBody ∷ opened) = statement_done false opened
follow GiveBack (AValue origin ∷ opened) = statement_done (is_number 0 origin) opened
follow Chop (AValue origin ∷ AValue below ∷ opened) = only_on (is_increment origin below) (AValue Computed ∷ opened)
follow Chop (AValue origin ∷ opened) = statement_done false opened
follow (BeginFunction number parameters) [] =
    only_on (nat_lt number most_names && nat_le parameters most_names) (InFunction parameters false ∷ [])
follow (EndFunction variables) (InFunction parameters true ∷ []) = only_on
    (nat_le parameters variables && nat_le variables most_names) []
follow action opened = None

-- not too much is open
abbrev pub few_open : Opened → Bool
few_open opened = nat_le (open_count opened) most_open

abbrev pub then_follow : (Opened → Option Opened) → Option Opened → Option Opened
then_follow more None = None
then_follow more (Some opened) = if few_open opened then more opened else None

-- what is open after actions, if each may follow those before it
abbrev pub follow_all : List Action → Opened → Option Opened
follow_all [] opened = Some opened
follow_all (action ∷ acts) opened = then_follow (follow_all acts) (follow action opened)

-- each action may follow those before it
abbrev pub AreInOrder : List Action → Type 0
AreInOrder acts = IsTrue (is_some (follow_all acts []))
