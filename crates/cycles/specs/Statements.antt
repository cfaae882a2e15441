-- What statements take up to each of their ends.
use Rattle.std.specs.Prelude.{ℕ, Option, Some, None}
use Rattle.grammar.specs.Profile.{Profile}
use Rattle.grammar.specs.Tree.{Expr, Body, Done, ExpressionStatement, IfStatement, IfElseStatement, While, Return}
use Rattle.cycles.specs.declared.counted.Counted.{Counted}
use Rattle.cycles.specs.declared.spans.Span.{Span}
use Rattle.cycles.specs.declared.spans.Ends.{Ends}
use Rattle.cycles.specs.Spans.{◌⊕◌}
use Rattle.cycles.specs.Ends.{after, before, behind, followed, one_branch, passed, repeated}
use Rattle.cycles.specs.Expressions.{cycle, two_cycles, span_of}

-- an if with one branch: its test, and then the branch and the next statements, or these at once
abbrev pub if_ends : Span → Ends → Ends → Ends
if_ends test branch next = after test (one_branch (followed branch next) next)

-- an if with two branches: the end of the first takes two cycles more
abbrev pub choice_ends : Counted → Span → Ends → Ends → Ends → Ends
choice_ends u test first second next =
    after test (one_branch (followed first (after (two_cycles u) next)) (followed second next))

-- A turn up to where its loop begins again: the test, the statements, and two cycles. It has no span if the statements
-- are never passed through.
abbrev pub turn_span : Counted → Span → Ends → Option Span
turn_span u test inside = before test (behind inside.through (Some (two_cycles u)))

-- A loop: any number of such turns, and then its test and the next statements, or its test and what returns from inside
-- of it.
abbrev pub loop_ends : Option Span → Span → Ends → Ends → Ends
loop_ends turn test inside next =
    after (repeated turn) (after test (one_branch (record { through = None; returns = inside.returns }) next))

-- a return: the next statements are never reached
abbrev pub return_ends : Span → Ends
return_ends s = record { through = None; returns = Some s }

-- with the run of each function by number
module _ (u : Counted) (p : Profile) (runs : ℕ → Span) where
  -- an expression, and the cycle that takes its value: of a statement, of a test, of a return
  abbrev pub taken : Expr → Span
  taken e = span_of u p runs e ⊕ cycle u

  abbrev pub ends_of : Body → Ends
  ends_of Done = passed
  ends_of (ExpressionStatement e next) = after (taken e) (ends_of next)
  ends_of (IfStatement c s next) = if_ends (taken c) (ends_of s) (ends_of next)
  ends_of (IfElseStatement c s t next) = choice_ends u (taken c) (ends_of s) (ends_of t) (ends_of next)
  ends_of (While c s next) =
      loop_ends (turn_span u (taken c) (ends_of s)) (taken c) (ends_of s) (ends_of next)
  ends_of (Return e next) = return_ends (taken e)
