-- One call after another: what they keep.
use Rattle.std.proofs.Common.{ℕ, ◌<◌, refl, ◌∙◌, ap, arith, le_refl, List}
use Rattle.std.specs.Prelude.{Option, Result, Ok, Err}
use Rattle.tokens.specs.Window.{TakesBytes}
use Rattle.grammar.specs.declared.diagnostics.ParseFault.{ParseFault}
use Rattle.parser.specs.ScopedCursors.{ScopedCursor, to_go}
use Rattle.tokens.specs.Device.{FailureCount}
use Rattle.parser.specs.Segment.{account_after}
use Rattle.parser.specs.Advancing.{Advances, IsReady, HasStayedOrAdvanced, Stopped, HasAdvanced}

takes_then : (a b c : ℕ) (x y z : Option (List ℕ)) → TakesBytes a b x y → TakesBytes b c y z → TakesBytes a c x z
takes_then a b c x y z h i = record { rest = λ total e. i.rest total (h.rest total e) }

-- a cursor that does nothing
pub stays_ready : (at : ScopedCursor) → IsReady at → HasStayedOrAdvanced at at
stays_ready at ready =
    record { borrows = refl; account = refl; took = record { rest = λ total h. h }; falls = le_refl _; ready = ready }

-- a call that advanced, though it didn't have to
pub on : (a b : ScopedCursor) → HasAdvanced a b → HasStayedOrAdvanced a b
on a b h =
    record { borrows = h.borrows; account = h.account; took = h.took; falls = omega (arith, h.falls); ready = h.ready }

pub kept_then : (a b c : ScopedCursor) → HasStayedOrAdvanced a b → HasStayedOrAdvanced b c → HasStayedOrAdvanced a c
kept_then a b c h i = record {
  borrows = i.borrows ∙ h.borrows;
  account = i.account ∙ h.account;
  took = takes_then _ _ _ _ _ _ h.took i.took;
  falls = omega (arith, h.falls, i.falls);
  ready = i.ready;
}

-- calls of which one advanced
strictly : (a b : ScopedCursor) → to_go b < to_go a → HasStayedOrAdvanced a b → HasAdvanced a b
strictly a b less h =
    record { borrows = h.borrows; account = h.account; took = h.took; falls = less; ready = h.ready }

pub on_then : (a b c : ScopedCursor) → HasAdvanced a b → HasStayedOrAdvanced b c → HasAdvanced a c
on_then a b c h i = strictly a c (omega (arith, h.falls, i.falls)) (kept_then a b c (on a b h) i)

pub kept_on : (a b c : ScopedCursor) → HasStayedOrAdvanced a b → HasAdvanced b c → HasAdvanced a c
kept_on a b c h i = strictly a c (omega (arith, h.falls, i.falls)) (kept_then a b c h (on b c i))

-- a refusal after calls that advanced
pub stopped_then : (f : ParseFault) (a b c : ScopedCursor) → HasStayedOrAdvanced a b → Stopped f b c → Stopped f a c
stopped_then f a b c h i = record {
  borrows = i.borrows ∙ h.borrows;
  account = i.account ∙ ap (λ (a : FailureCount). account_after a f) h.account;
  took = takes_then _ _ _ _ _ _ h.took i.took;
}

-- the last call's answer
pub handed_kept : {A : Type 0} (r : Result A ParseFault) (a b c : ScopedCursor) → HasStayedOrAdvanced a b →
    Advances r b c →
    Advances r a c
handed_kept (Ok x) a b c h i = kept_on a b c h i
handed_kept (Err f) a b c h i = stopped_then f a b c h i
