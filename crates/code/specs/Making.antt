-- What a maker holds after a list of actions.
use Rattle.std.specs.Prelude.{ℕ, pos, ◌+◌, List, [], ◌∷◌, ◌++◌, length, replicate, slice_set, if◌then◌else◌}
use Rattle.grammar.specs.declared.actions.Action.{Action}
use Rattle.grammar.specs.declared.actions.Action.TheVariants.{PushConstant, FetchVariable, StoreVariable, ApplyBinop}
use Rattle.grammar.specs.declared.actions.Action.TheVariants.{LogicMiddle, BeginCall, EndCall, IfTest, ElsePart, EndIf}
use Rattle.grammar.specs.declared.actions.Action.TheVariants.{BeginWhile, WhileTest, EndWhile, GiveBack, Chop}
use Rattle.grammar.specs.declared.actions.Action.TheVariants.{BeginFunction, EndFunction}
use Rattle.arith.specs.declared.operators.Op.{Op}
use Rattle.arith.specs.declared.operators.Op.TheVariants as op
use Rattle.grammar.specs.NameLimits.{most_names}
use Rattle.grammar.specs.Profile.{Profile}
use Rattle.code.specs.declared.instr.Instr.{Instr}
use Rattle.code.specs.declared.instr.Instr.TheVariants.{Fetch, Store, Const, Binop, Fcall, Retsub, Branch, Truth}
use Rattle.code.specs.declared.instr.Instr.TheVariants as instr

-- The profile, the instructions so far, the address of each function by number (0 if it didn't begin), and what is
-- open, the last first: the address of a branch that has no target yet, or of a loop's start.
pub record Maker : Type 0 where
  pub profile : Profile
  pub code : List Instr
  pub addresses : List ℕ
  pub opened : List ℕ

abbrev pub empty_maker : Profile → Maker
empty_maker p = record { profile = p; code = []; addresses = replicate most_names 0; opened = [] }

-- more instructions
abbrev pub with_code : Maker → List Instr → Maker
with_code m code = record { profile = m.profile; code = m.code ++ code; addresses = m.addresses; opened = m.opened }

-- the function of this number begins here
abbrev pub with_begun_function : Maker → ℕ → Maker
with_begun_function m number = record {
  profile = m.profile;
  code = m.code;
  addresses = slice_set m.addresses number (length m.code);
  opened = m.opened;
}

abbrev pub last_opened : List ℕ → ℕ
last_opened [] = 0
last_opened (a ∷ rest) = a

abbrev pub others_opened : List ℕ → List ℕ
others_opened [] = []
others_opened (a ∷ rest) = rest

-- an address that is open now
abbrev pub with_opened : Maker → Maker
with_opened m =
    record { profile = m.profile; code = m.code; addresses = m.addresses; opened = length m.code ∷ m.opened }

-- a branch without a target
abbrev pub with_branch : Maker → Maker
with_branch m = record {
  profile = m.profile;
  code = m.code ++ Branch 0 ∷ [];
  addresses = m.addresses;
  opened = length m.code ∷ m.opened;
}

-- the last open branch leads to the next instruction
abbrev pub with_closed : Maker → Maker
with_closed m = record {
  profile = m.profile;
  code = slice_set m.code (last_opened m.opened) (Branch (length m.code));
  addresses = m.addresses;
  opened = others_opened m.opened;
}

-- a branch that is always taken, to an open address
abbrev pub with_turn : Maker → Maker
with_turn m = record {
  profile = m.profile;
  code = m.code ++ Const (pos 0) ∷ Branch (last_opened (others_opened m.opened)) ∷ [];
  addresses = m.addresses;
  opened = m.opened;
}

-- the second part of a choice: a branch over it, which is open then instead of the first one
abbrev pub with_other : Maker → Maker
with_other m = record {
  profile = m.profile;
  code = slice_set (m.code ++ Const (pos 0) ∷ Branch 0 ∷ []) (last_opened m.opened) (Branch (length m.code + 1 + 1));
  addresses = m.addresses;
  opened = (length m.code + 1) ∷ others_opened m.opened;
}

abbrev pub without_open : Maker → Maker
without_open m = record { profile = m.profile; code = m.code; addresses = m.addresses; opened = others_opened m.opened }

-- If the right side may be left out: after the left side of && a branch leads over the right side to the decided
-- value, and after that of || a branch leads over the decided value to the right side.
abbrev pub begun_right : Op → Maker → Maker
begun_right op.And m = with_branch m
begun_right op.Or m = with_other (with_code (with_branch m) (Const (pos 1) ∷ []))
begun_right o m = m

-- after the right side, whose truth is the value
abbrev pub ended_right : Op → Maker → Maker
ended_right op.And m = with_closed (with_code (with_other (with_code m (Truth ∷ []))) (Const (pos 0) ∷ []))
ended_right op.Or m = with_closed (with_code m (Truth ∷ []))
ended_right o m = with_code m (Binop o ∷ [])

abbrev pub maker_with : Maker → Action → Maker
maker_with m (PushConstant value) = with_code m (Const value ∷ [])
maker_with m (FetchVariable v) = with_code m (Fetch v ∷ [])
maker_with m (StoreVariable v o) = with_code m (Store v o ∷ [])
maker_with m (ApplyBinop o) = if m.profile.short_circuit then ended_right o m else with_code m (Binop o ∷ [])
maker_with m (LogicMiddle o) = if m.profile.short_circuit then begun_right o m else m
maker_with m BeginCall = with_code m (instr.Frame ∷ [])
maker_with m (EndCall callee) = with_code m (Fcall callee ∷ [])
maker_with m IfTest = with_branch m
maker_with m ElsePart = with_other m
maker_with m EndIf = with_closed m
maker_with m BeginWhile = with_opened m
maker_with m WhileTest = with_branch m
maker_with m EndWhile = without_open (with_closed (with_turn m))
maker_with m GiveBack = with_code m (Retsub ∷ [])
maker_with m Chop = with_code m (instr.Chop ∷ [])
maker_with m (BeginFunction number parameters) = with_begun_function m number
maker_with m (EndFunction variables) = m

abbrev pub maker_from : Maker → List Action → Maker
maker_from m [] = m
maker_from m (a ∷ acts) = maker_from (maker_with m a) acts

abbrev pub maker_after : Profile → List Action → Maker
maker_after p acts = maker_from (empty_maker p) acts
