-- What the value of an expression takes.
use Rattle.std.specs.Prelude.{ℕ, if◌then◌else◌}
use Rattle.arith.specs.declared.operators.Op.{Op}
use Rattle.arith.specs.declared.operators.Op.TheVariants as op
use Rattle.grammar.specs.declared.resolved_names.Callee.{Callee}
use Rattle.grammar.specs.declared.resolved_names.Callee.TheVariants as callee
use Rattle.grammar.specs.Profile.{Profile}
use Rattle.grammar.specs.Tree.{Expr, Constant, Variable, Binary, Assign, Postfix, Call, Args, NoMore, Argument}
use Rattle.cycles.specs.declared.counted.Counted.{Counted}
use Rattle.cycles.specs.declared.spans.Span.{Span}
use Rattle.cycles.specs.Counting.{quiet, asking}
use Rattle.cycles.specs.Spans.{◌⊕◌, either, exactly}

-- a cycle that asks nothing
abbrev pub cycle : Counted → Span
cycle u = exactly (quiet u)

-- and more of them
abbrev pub two_cycles : Counted → Span
two_cycles u = cycle u ⊕ cycle u

abbrev pub three_cycles : Counted → Span
three_cycles u = cycle u ⊕ two_cycles u

abbrev pub four_cycles : Counted → Span
four_cycles u = cycle u ⊕ three_cycles u

-- an operator with both of its sides
abbrev pub full_span : Counted → Span → Span → Span
full_span u left right = left ⊕ (right ⊕ cycle u)

-- An operator that leaves out its right side if the left decides. && tests the left side. If it goes on, it tests
-- the right one and makes 0 or 1 of it, by three cycles; else it is 0. || tests the left side; if it doesn't go on, it
-- is 1, by three cycles, and else the right side is made 0 or 1.
abbrev pub short_span : Counted → Op → Span → Span → Span
short_span u op.And left right =
    left ⊕ (cycle u ⊕ either (right ⊕ three_cycles u) (cycle u))
short_span u op.Or left right =
    left ⊕ (cycle u ⊕ either (three_cycles u) (right ⊕ cycle u))
short_span u o left right = full_span u left right

abbrev pub binary_span : Counted → Profile → Op → Span → Span → Span
binary_span u p o left right = if p.short_circuit then short_span u o left right else full_span u left right

-- with the run of each function by number
module _ (u : Counted) (p : Profile) (runs : ℕ → Span) where
  -- what is called, after its arguments
  abbrev pub callee_span : Callee → Span
  callee_span (callee.Function k) = runs k
  callee_span (callee.Intrinsic i) = exactly (asking u i)

  abbrev mutual
    -- a variable that steps is pushed, then 1, which is added or subtracted, and the new value is dropped
    pub span_of : Expr → Span
    span_of (Constant n) = cycle u
    span_of (Variable v) = cycle u
    span_of (Binary o a b) = binary_span u p o (span_of a) (span_of b)
    span_of (Assign o v e) = span_of e ⊕ cycle u
    span_of (Postfix o v) = four_cycles u
    span_of (Call f arguments) = cycle u ⊕ (arguments_span arguments ⊕ callee_span f)

    -- the values of arguments, in order
    pub arguments_span : Args → Span
    arguments_span NoMore = exactly 0
    arguments_span (Argument e rest) = span_of e ⊕ arguments_span rest
