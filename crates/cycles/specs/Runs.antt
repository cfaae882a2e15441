-- What a function's run takes, from the call after its arguments to its value.
use Rattle.std.specs.Prelude.{ℕ, zero, suc, length, Some, unwrap_or}
use Rattle.grammar.specs.Profile.{Profile}
use Rattle.grammar.specs.Tree.{Body, File}
use Rattle.code.specs.Functions.{function_at}
use Rattle.cycles.specs.declared.counted.Counted.{Counted}
use Rattle.cycles.specs.declared.spans.Span.{Span}
use Rattle.cycles.specs.declared.spans.Ends.{Ends}
use Rattle.cycles.specs.Spans.{◌⊕◌, anything}
use Rattle.cycles.specs.Ends.{behind, one_of}
use Rattle.cycles.specs.Expressions.{cycle, two_cycles}
use Rattle.cycles.specs.Statements.{ends_of}

-- The call's cycle, and then the statements: up to a return, or through them, and then two cycles return 0. (One of
-- both ends is always reached.)
abbrev pub run_of : Counted → Ends → Span
run_of u ends = cycle u ⊕ unwrap_or (one_of ends.returns (behind ends.through (Some (two_cycles u)))) anything

-- The run of a function, by the statements of each function, if at most n calls are open inside one another. What is
-- called further in may take anything.
abbrev pub run_within : Counted → Profile → (ℕ → Body) → ℕ → ℕ → Span
run_within u p bodies zero k = anything
run_within u p bodies (suc n) k = run_of u (ends_of u p (run_within u p bodies n) (bodies k))

-- the statements of each function of a file
abbrev pub body_at : File → ℕ → Body
body_at file k = (function_at file k).body

-- Each function once inside the others: if a call is still further in, a function has come back to itself, and nobody
-- knows how often it does.
abbrev pub run_span : Counted → Profile → File → ℕ → Span
run_span u p file k = run_within u p (body_at file) (length file.order) k
