-- What expressions, statements, calls and turns take.
use Rattle.std.specs.Prelude.{ℕ, ℤ, pos, zero, suc, ◌+◌, List, [], ◌∷◌, Bool, true, false, length, Option, Some, None, nat_le, nat_lt, if◌then◌else◌, unwrap_or}
use Rattle.arith.specs.Op.{holds, truth, value_of}
use Rattle.arith.specs.declared.operators.Op.{Op}
use Rattle.arith.specs.declared.operators.Op.TheVariants as op
use Rattle.grammar.specs.declared.resolved_names.Callee.{Callee}
use Rattle.grammar.specs.declared.resolved_names.Callee.TheVariants as callee
use Rattle.grammar.specs.Profile.{Profile}
use Rattle.grammar.specs.Tree.{Expr, Constant, Variable, Binary, Assign, Postfix, Call, Args, NoMore, Argument, Body, Done, ExpressionStatement, IfStatement, IfElseStatement, While, Return, Function, File}
use Rattle.code.specs.Functions.{function_at}
use Rattle.code.specs.Meaning.{Vars, EvaluationResult, Gives, Completion, Through, Returns, BodyMeaning, and_on, and_then, assigned, binary, called, end_of_function, effect, effect_within, first_locals, full, on_through, end_of_branch_or_iteration, quiet_cycle, push, returned, short, tick, value, value_of_variable, values}
use Rattle.code.specs.Values.{stored, asked_words}
use Rattle.code.specs.declared.want.Want.TheVariants.{Quiet, Ask, Restart}
use Rattle.cycles.specs.declared.counted.Counted.{Counted}
use Rattle.cycles.specs.declared.spans.Span.{Span}
use Rattle.cycles.specs.declared.spans.Ends.{Ends}
use Rattle.cycles.specs.Counting.{asking}
use Rattle.cycles.specs.Spans.{IsWithin, MayTake, ◌⊕◌, anything, either, exactly}
use Rattle.cycles.specs.Ends.{after, before, behind, end_of, followed, one_branch, one_of, passed}
use Rattle.cycles.specs.Expressions.{arguments_span, binary_span, callee_span, cycle, full_span, short_span, span_of, two_cycles}
use Rattle.cycles.specs.Statements.{ends_of, loop_ends, return_ends, taken, turn_span}
use Rattle.cycles.specs.Runs.{body_at, run_of, run_within}
use Rattle.cycles.proofs.Numbers.{again_takes, anything_takes, before_both, behind_takes, end_after, end_followed, end_of_first, end_of_second, first_takes, second_takes, takes_none, within_all, within_anything, within_exactly, within_first, within_second}
use Rattle.cycles.proofs.Spending.{Spends, spends_both, spends_either, spends_given, spends_never, spends_then, spends_tick, spends_wider}

-- Single cycles.

module _ {A : Type 0} (u : Counted) where
  -- a cycle that asks nothing, and a value
  pub value_after_cycle : (fits : Bool) (x : A) (vars : Vars) →
      Spends u (λ (t : List ℤ). tick fits Quiet t (λ reply rest. Gives x vars rest)) (λ x. Some (cycle u))
  value_after_cycle fits x vars =
      spends_wider u (λ (t : List ℤ). tick fits Quiet t (λ reply rest. Gives x vars rest))
      (λ x. Some (cycle u ⊕ exactly 0)) (λ x. Some (cycle u)) (λ x n h. within_all (cycle u) n h)
      (spends_tick u fits Quiet (λ reply rest. Gives x vars rest) (λ x. Some (exactly 0))
      (λ reply. spends_given u x vars (λ x. Some (exactly 0)) (within_exactly 0)))

  -- a cycle that asks nothing, and what comes after it
  pub behind_cycle : (fits : Bool) (go : List ℤ → EvaluationResult A) (s : A → Option Span) → Spends u go s →
      Spends u (λ (t : List ℤ). tick fits Quiet t (λ reply rest. go rest)) (λ x. before (cycle u) (s x))
  behind_cycle fits go s goes = spends_tick u fits Quiet (λ reply rest. go rest) s (λ reply. goes)

  -- two cycles
  pub behind_two : (first second : Bool) (go : List ℤ → EvaluationResult A) (s : A → Option Span) → Spends u go s →
      Spends u
      (λ (t : List ℤ). tick first Quiet t (λ reply rest. tick second Quiet rest (λ reply rest. go rest)))
      (λ x. before (two_cycles u) (s x))
  behind_two first second go s goes =
      spends_wider u
      (λ (t : List ℤ). tick first Quiet t (λ reply rest. tick second Quiet rest (λ reply rest. go rest)))
      (λ x. before (cycle u) (before (cycle u) (s x))) (λ x. before (two_cycles u) (s x))
      (λ x n h. before_both (cycle u) (cycle u) (s x) n h)
      (behind_cycle first (λ (rest : List ℤ). tick second Quiet rest (λ reply rest. go rest))
      (λ x. before (cycle u) (s x)) (behind_cycle second go s goes))

  -- two cycles, and a value
  pub value_after_two : (first second : Bool) (x : A) (vars : Vars) →
      Spends u
      (λ (t : List ℤ). tick first Quiet t (λ reply rest. tick second Quiet rest (λ reply rest. Gives x vars rest)))
      (λ x. Some (two_cycles u))
  value_after_two first second x vars =
      behind_cycle first (λ (rest : List ℤ). tick second Quiet rest (λ reply rest. Gives x vars rest))
      (λ x. Some (cycle u)) (value_after_cycle second x vars)

module _ {A B : Type 0} (u : Counted) where
  -- a value, the cycle that takes it, and what comes after that
  pub behind_taken : (run : List ℤ → EvaluationResult A) (go : A → Vars → List ℤ → EvaluationResult B) (s : Span)
      (g : B → Option Span) →
      Spends u run (λ x. Some s) → ((x : A) (vars : Vars) → Spends u (λ (t : List ℤ). go x vars t) g) →
      Spends u (λ (t : List ℤ). and_then (run t) (λ x vars rest. quiet_cycle rest (λ rest. go x vars rest)))
      (λ y. before (s ⊕ cycle u) (g y))
  behind_taken run go s g first second =
      spends_wider u (λ (t : List ℤ). and_then (run t) (λ x vars rest. quiet_cycle rest (λ rest. go x vars rest)))
      (λ y. before s (before (cycle u) (g y))) (λ y. before (s ⊕ cycle u) (g y))
      (λ y n h. before_both s (cycle u) (g y) n h)
      (spends_then u run (λ x vars rest. quiet_cycle rest (λ rest. go x vars rest)) s (λ y. before (cycle u) (g y))
      first
      (λ x vars. behind_cycle u true (λ (t : List ℤ). go x vars t) g (second x vars)))

-- Operators.

module _ (u : Counted) (p : Profile) (left : List ℤ → EvaluationResult ℤ)
    (right : Vars → ℕ → List ℤ → EvaluationResult ℤ)
    (s t : Span)
    (first : Spends u left (λ x. Some s))
    (second : (vars : Vars) (depth : ℕ) → Spends u (λ (rest : List ℤ). right vars depth rest) (λ x. Some t)) where
  full_takes : (o : Op) (depth : ℕ) →
      Spends u (λ (trace : List ℤ). full o depth (left trace) right) (λ x. Some (full_span u s t))
  full_takes o depth =
      spends_then u left
      (λ x vars rest. and_then (right vars (depth + 1) rest)
      (λ y vars rest. quiet_cycle rest (λ rest. Gives (value_of o x y) vars rest))) s (λ x. Some (t ⊕ cycle u)) first
      (λ x vars. spends_then u (λ (rest : List ℤ). right vars (depth + 1) rest)
      (λ y vars rest. quiet_cycle rest (λ rest. Gives (value_of o x y) vars rest)) t (λ x. Some (cycle u))
      (second vars (depth + 1)) (λ y vars. value_after_cycle u true (value_of o x y) vars))

  and_takes : (depth : ℕ) →
      Spends u (λ (trace : List ℤ). short p op.And depth (left trace) right) (λ x. Some (short_span u op.And s t))
  and_takes depth =
      let more : Span = t ⊕ (cycle u ⊕ two_cycles u) in
      let on : Vars → List ℤ → EvaluationResult ℤ = λ vars rest. and_then (right vars depth rest)
      (λ y vars rest. quiet_cycle rest (λ rest. push p (depth + 1) rest (λ rest. quiet_cycle rest
      (λ rest. Gives (truth (holds y)) vars rest)))) in
      let off : Vars → List ℤ → EvaluationResult ℤ = λ vars rest. push p depth rest (λ rest. Gives (pos 0) vars rest) in
      spends_then u left (λ x vars rest. quiet_cycle rest (λ rest. if holds x then on vars rest else off vars rest)) s
      (λ x. Some (cycle u ⊕ either more (cycle u))) first
      (λ x vars. behind_cycle u true (λ (rest : List ℤ). if holds x then on vars rest else off vars rest)
      (λ x. Some (either more (cycle u)))
      (spends_either u (holds x) (λ (rest : List ℤ). on vars rest) (λ (rest : List ℤ). off vars rest)
      (λ x. Some (either more (cycle u)))
      (spends_wider u (λ (rest : List ℤ). on vars rest) (λ x. Some more) (λ x. Some (either more (cycle u)))
      (λ x n h. within_first more (cycle u) n h)
      (spends_then u (λ (rest : List ℤ). right vars depth rest)
      (λ y vars rest. quiet_cycle rest (λ rest. push p (depth + 1) rest (λ rest. quiet_cycle rest
      (λ rest. Gives (truth (holds y)) vars rest)))) t (λ x. Some (cycle u ⊕ two_cycles u)) (second vars depth)
      (λ y vars. behind_cycle u true
      (λ (rest : List ℤ). push p (depth + 1) rest
      (λ rest. quiet_cycle rest (λ rest. Gives (truth (holds y)) vars rest)))
      (λ x. Some (two_cycles u)) (value_after_two u (nat_lt (depth + 1) p.words) true (truth (holds y)) vars))))
      (spends_wider u (λ (rest : List ℤ). off vars rest) (λ x. Some (cycle u)) (λ x. Some (either more (cycle u)))
      (λ x n h. within_second more (cycle u) n h)
      (value_after_cycle u (nat_lt depth p.words) (pos 0) vars))))

  or_takes : (depth : ℕ) →
      Spends u (λ (trace : List ℤ). short p op.Or depth (left trace) right) (λ x. Some (short_span u op.Or s t))
  or_takes depth =
      let three : Span = cycle u ⊕ two_cycles u in
      let more : Span = t ⊕ cycle u in
      let on : Vars → List ℤ → EvaluationResult ℤ = λ vars rest. push p depth rest (λ rest. push p (depth + 1) rest
      (λ rest. quiet_cycle rest (λ rest. Gives (pos 1) vars rest))) in
      let off : Vars → List ℤ → EvaluationResult ℤ = λ vars rest. and_then (right vars depth rest)
      (λ y vars rest. quiet_cycle rest (λ rest. Gives (truth (holds y)) vars rest)) in
      spends_then u left (λ x vars rest. quiet_cycle rest (λ rest. if holds x then on vars rest else off vars rest)) s
      (λ x. Some (cycle u ⊕ either three more)) first
      (λ x vars. behind_cycle u true (λ (rest : List ℤ). if holds x then on vars rest else off vars rest)
      (λ x. Some (either three more))
      (spends_either u (holds x) (λ (rest : List ℤ). on vars rest) (λ (rest : List ℤ). off vars rest)
      (λ x. Some (either three more))
      (spends_wider u (λ (rest : List ℤ). on vars rest) (λ x. Some three) (λ x. Some (either three more))
      (λ x n h. within_first three more n h)
      (behind_cycle u (nat_lt depth p.words)
      (λ (rest : List ℤ). push p (depth + 1) rest (λ rest. quiet_cycle rest (λ rest. Gives (pos 1) vars rest)))
      (λ x. Some (two_cycles u)) (value_after_two u (nat_lt (depth + 1) p.words) true (pos 1) vars)))
      (spends_wider u (λ (rest : List ℤ). off vars rest) (λ x. Some more) (λ x. Some (either three more))
      (λ x n h. within_second three more n h)
      (spends_then u (λ (rest : List ℤ). right vars depth rest)
      (λ y vars rest. quiet_cycle rest (λ rest. Gives (truth (holds y)) vars rest)) t (λ x. Some (cycle u))
      (second vars depth) (λ y vars. value_after_cycle u true (truth (holds y)) vars)))))

  short_takes : (o : Op) (depth : ℕ) →
      Spends u (λ (trace : List ℤ). short p o depth (left trace) right) (λ x. Some (short_span u o s t))
  short_takes op.And depth = and_takes depth
  short_takes op.Or depth = or_takes depth
  short_takes o depth = full_takes o depth

  choice_takes : (b : Bool) (o : Op) (depth : ℕ) →
      Spends u
      (λ (trace : List ℤ). if b then short p o depth (left trace) right else full o depth (left trace) right)
      (λ x. Some (if b then short_span u o s t else full_span u s t))
  choice_takes true o depth = short_takes o depth
  choice_takes false o depth = full_takes o depth

  pub binary_takes : (o : Op) (depth : ℕ) →
      Spends u (λ (trace : List ℤ). binary p o depth (left trace) right) (λ x. Some (binary_span u p o s t))
  binary_takes o depth = choice_takes p.short_circuit o depth

-- Statements.

module _ (u : Counted) (ends : Ends) (g h : Completion → Option Span) where
  -- what is next, if it is reached
  on_next : Completion → Completion → Option Span
  on_next Through flow = g flow
  on_next (Returns x) Through = None
  on_next (Returns x) (Returns y) = Some (exactly 0)

  on_goes : (go : Vars → List ℤ → EvaluationResult Completion) →
      ((vars : Vars) → Spends u (λ (t : List ℤ). go vars t) g) →
      (flow : Completion) (vars : Vars) → Spends u (λ (t : List ℤ). on_through flow vars t go) (on_next flow)
  unfolding on_next
  on_goes go second Through vars = second vars
  on_goes go second (Returns x) vars = spends_given u (Returns x) vars (on_next (Returns x)) (within_exactly 0)

  on_fits : ((flow : Completion) (m n : ℕ) → MayTake ends.through m → MayTake (g flow) n → MayTake (h flow) (m + n)) →
      ((x : ℤ) (n : ℕ) → MayTake ends.returns n → MayTake (h (Returns x)) n) →
      (flow last : Completion) (m n : ℕ) → MayTake (end_of ends flow) m → MayTake (on_next flow last) n →
      MayTake (h last) (m + n)
  unfolding on_next
  on_fits through returns Through last m n one other = through last m n one other
  on_fits through returns (Returns x) Through m n one other = absurd other
  on_fits through returns (Returns x) (Returns y) m n one other = takes_none (h (Returns y)) m n (returns y m one) other

  -- what comes after statements that are passed through
  pub behind_on : (run : List ℤ → EvaluationResult Completion) (go : Vars → List ℤ → EvaluationResult Completion) →
      Spends u run (end_of ends) →
      ((vars : Vars) → Spends u (λ (t : List ℤ). go vars t) g) →
      ((flow : Completion) (m n : ℕ) → MayTake ends.through m → MayTake (g flow) n → MayTake (h flow) (m + n)) →
      ((x : ℤ) (n : ℕ) → MayTake ends.returns n → MayTake (h (Returns x)) n) →
      Spends u (λ (t : List ℤ). and_on (run t) go) h
  behind_on run go first second through returns =
      spends_both u run (λ flow vars rest. on_through flow vars rest go) (end_of ends) on_next h first
      (on_goes go second) (on_fits through returns)

-- the next statements
pub next_takes : (u : Counted) (run : List ℤ → EvaluationResult Completion)
    (go : Vars → List ℤ → EvaluationResult Completion)
    (ends next : Ends) → Spends u run (end_of ends) →
    ((vars : Vars) → Spends u (λ (t : List ℤ). go vars t) (end_of next)) →
    Spends u (λ (t : List ℤ). and_on (run t) go) (end_of (followed ends next))
next_takes u run go ends next first second =
    behind_on u ends (end_of next) (end_of (followed ends next)) run go first second
    (λ flow m n one other. end_followed ends next flow m n one other)
    (λ x n h. first_takes ends.returns (behind ends.through next.returns) n h)

-- a test, and then one branch or the other
pub test_takes : (u : Counted) (run : List ℤ → EvaluationResult ℤ)
    (on off : Vars → List ℤ → EvaluationResult Completion) (s : Span)
    (first second : Ends) → Spends u run (λ x. Some s) →
    ((vars : Vars) → Spends u (λ (t : List ℤ). on vars t) (end_of first)) →
    ((vars : Vars) → Spends u (λ (t : List ℤ). off vars t) (end_of second)) →
    Spends u
    (λ (t : List ℤ). and_then (run t)
    (λ x vars rest. quiet_cycle rest (λ rest. if holds x then on vars rest else off vars rest)))
    (end_of (after (s ⊕ cycle u) (one_branch first second)))
test_takes u run on off s first second tested goes leaves =
    spends_wider u
    (λ (t : List ℤ). and_then (run t)
    (λ x vars rest. quiet_cycle rest (λ rest. if holds x then on vars rest else off vars rest)))
    (λ flow. before (s ⊕ cycle u) (end_of (one_branch first second) flow))
    (end_of (after (s ⊕ cycle u) (one_branch first second)))
    (λ flow n h. end_after (s ⊕ cycle u) (one_branch first second) flow n h)
    (behind_taken u run (λ x vars rest. if holds x then on vars rest else off vars rest) s
    (end_of (one_branch first second)) tested
    (λ x vars. spends_either u (holds x) (λ (t : List ℤ). on vars t) (λ (t : List ℤ). off vars t)
    (end_of (one_branch first second))
    (spends_wider u (λ (t : List ℤ). on vars t) (end_of first) (end_of (one_branch first second))
    (λ flow n h. end_of_first first second flow n h) (goes vars))
    (spends_wider u (λ (t : List ℤ). off vars t) (end_of second) (end_of (one_branch first second))
    (λ flow n h. end_of_second first second flow n h) (leaves vars))))

-- the end of a first branch, and of a turn
pub over_takes : (u : Counted) (p : Profile) (depth : ℕ) (go : List ℤ → EvaluationResult Completion) (ends : Ends) →
    Spends u go (end_of ends) →
    Spends u (λ (t : List ℤ). end_of_branch_or_iteration p depth t go) (end_of (after (two_cycles u) ends))
over_takes u p depth go ends goes =
    spends_wider u (λ (t : List ℤ). end_of_branch_or_iteration p depth t go)
    (λ flow. before (two_cycles u) (end_of ends flow))
    (end_of (after (two_cycles u) ends)) (λ flow n h. end_after (two_cycles u) ends flow n h)
    (behind_two u (nat_lt depth p.words) true go (end_of ends) goes)

-- what is left of a loop after its test, if it doesn't begin again
abbrev behind_test : Ends → Ends → Ends
behind_test inside last = one_branch (record { through = None; returns = inside.returns }) last

-- the loop
abbrev whole_loop : Counted → Span → Ends → Ends → Ends
whole_loop u test inside last = loop_ends (turn_span u test inside) test inside last

-- what is left of it after its test: it begins again, or not
abbrev on_test : Counted → Span → Ends → Ends → Completion → Option Span
on_test u test inside last flow =
    one_of (behind inside.through (before (two_cycles u) (end_of (whole_loop u test inside last) flow)))
    (end_of (behind_test inside last) flow)

loop_again : (u : Counted) (test : Span) (inside last : Ends) (flow : Completion) (n : ℕ) →
    MayTake (before test (on_test u test inside last flow)) n → MayTake (end_of (whole_loop u test inside last) flow) n
loop_again u test inside last Through n h = again_takes test (two_cycles u) inside.through last.through n h
loop_again u test inside last (Returns x) n h =
    again_takes test (two_cycles u) inside.through (one_of inside.returns last.returns) n h

again_first : (u : Counted) (test : Span) (inside last : Ends) (flow : Completion) (m n : ℕ) →
    MayTake inside.through m →
    MayTake (before (two_cycles u) (end_of (whole_loop u test inside last) flow)) n →
    MayTake (on_test u test inside last flow) (m + n)
again_first u test inside last flow m n one other =
    let again : Option Span = before (two_cycles u) (end_of (whole_loop u test inside last) flow) in
    first_takes (behind inside.through again) (end_of (behind_test inside last) flow) (m + n)
    (behind_takes inside.through again m n one other)

return_first : (u : Counted) (test : Span) (inside last : Ends) (x : ℤ) (n : ℕ) → MayTake inside.returns n →
    MayTake (on_test u test inside last (Returns x)) n
return_first u test inside last x n h =
    second_takes
    (behind inside.through (before (two_cycles u) (end_of (whole_loop u test inside last) (Returns x))))
    (one_of inside.returns last.returns) n (first_takes inside.returns last.returns n h)

next_last : (u : Counted) (test : Span) (inside last : Ends) (flow : Completion) (n : ℕ) →
    MayTake (end_of last flow) n →
    MayTake (on_test u test inside last flow) n
next_last u test inside last flow n h =
    second_takes (behind inside.through (before (two_cycles u) (end_of (whole_loop u test inside last) flow)))
    (end_of (behind_test inside last) flow) n
    (end_of_second (record { through = None; returns = inside.returns }) last flow n h)

-- a loop, by what it is when it begins again
pub loop_takes : (u : Counted) (p : Profile) (depth : ℕ) (run : List ℤ → EvaluationResult ℤ)
    (body next again : Vars → List ℤ → EvaluationResult Completion) (s : Span) (inside last : Ends) →
    Spends u run (λ x. Some s) →
    ((vars : Vars) → Spends u (λ (t : List ℤ). body vars t) (end_of inside)) →
    ((vars : Vars) → Spends u (λ (t : List ℤ). next vars t) (end_of last)) →
    ((vars : Vars) → Spends u (λ (t : List ℤ). again vars t) (end_of (whole_loop u (s ⊕ cycle u) inside last))) →
    Spends u
    (λ (t : List ℤ). and_then (run t)
    (λ x vars rest. quiet_cycle rest
    (λ rest. if holds x then and_on (body vars rest)
    (λ vars rest. end_of_branch_or_iteration p depth rest (λ rest. again vars rest)) else
    next vars rest)))
    (end_of (whole_loop u (s ⊕ cycle u) inside last))
loop_takes u p depth run body next again s inside last tested goes leaves begins =
    let test : Span = s ⊕ cycle u in
    spends_wider u
    (λ (t : List ℤ). and_then (run t)
    (λ x vars rest. quiet_cycle rest
    (λ rest. if holds x then and_on (body vars rest)
    (λ vars rest. end_of_branch_or_iteration p depth rest (λ rest. again vars rest)) else
    next vars rest)))
    (λ flow. before test (on_test u test inside last flow)) (end_of (whole_loop u test inside last))
    (λ flow n h. loop_again u test inside last flow n h)
    (behind_taken u run
    (λ x vars rest. if holds x then and_on (body vars rest)
    (λ vars rest. end_of_branch_or_iteration p depth rest (λ rest. again vars rest))
    else next vars rest) s (on_test u test inside last) tested
    (λ x vars. spends_either u (holds x)
    (λ (t : List ℤ). and_on (body vars t)
    (λ vars rest. end_of_branch_or_iteration p depth rest (λ rest. again vars rest)))
    (λ (t : List ℤ). next vars t) (on_test u test inside last)
    (behind_on u inside (λ flow. before (two_cycles u) (end_of (whole_loop u test inside last) flow))
    (on_test u test inside last) (λ (t : List ℤ). body vars t)
    (λ vars rest. end_of_branch_or_iteration p depth rest (λ rest. again vars rest)) (goes vars)
    (λ vars. behind_two u (nat_lt depth p.words) true (λ (rest : List ℤ). again vars rest)
    (end_of (whole_loop u test inside last)) (begins vars))
    (λ flow m n one other. again_first u test inside last flow m n one other)
    (λ x n h. return_first u test inside last x n h))
    (spends_wider u (λ (t : List ℤ). next vars t) (end_of last) (on_test u test inside last)
    (λ flow n h. next_last u test inside last flow n h) (leaves vars))))

-- a return
return_now : Completion → Option Span
return_now Through = None
return_now (Returns x) = Some (exactly 0)

return_back : Counted → Completion → Option Span
return_back u Through = None
return_back u (Returns x) = Some (cycle u)

return_whole : (u : Counted) (flow : Completion) (n : ℕ) → MayTake (before (cycle u) (return_now flow)) n →
    MayTake (return_back u flow) n
unfolding return_now return_back
return_whole u Through n h = absurd h
return_whole u (Returns x) n h = within_all (cycle u) n h

return_known : (u : Counted) (s : Span) (flow : Completion) (n : ℕ) → MayTake (before s (return_back u flow)) n →
    MayTake (end_of (return_ends (s ⊕ cycle u)) flow) n
unfolding return_back
return_known u s Through n h = absurd h
return_known u s (Returns x) n h = h

returns_now : (u : Counted) (x : ℤ) (vars : Vars) → Spends u (λ (t : List ℤ). Gives (Returns x) vars t) return_now
unfolding return_now
returns_now u x vars = spends_given u (Returns x) vars return_now (within_exactly 0)

pub return_takes : (u : Counted) (fits : Bool) (run : List ℤ → EvaluationResult ℤ) (s : Span) →
    Spends u run (λ x. Some s) →
    Spends u
    (λ (t : List ℤ). and_then (run t)
    (λ x vars rest. tick fits Quiet rest (λ reply rest. Gives (Returns x) vars rest)))
    (end_of (return_ends (s ⊕ cycle u)))
return_takes u fits run s tested =
    spends_wider u
    (λ (t : List ℤ). and_then (run t)
    (λ x vars rest. tick fits Quiet rest (λ reply rest. Gives (Returns x) vars rest)))
    (λ flow. before s (return_back u flow)) (end_of (return_ends (s ⊕ cycle u))) (return_known u s)
    (spends_then u run (λ x vars rest. tick fits Quiet rest (λ reply rest. Gives (Returns x) vars rest)) s
    (return_back u) tested
    (λ x vars. spends_wider u (λ (t : List ℤ). tick fits Quiet t (λ reply rest. Gives (Returns x) vars rest))
    (λ flow. before (cycle u) (return_now flow)) (return_back u) (return_whole u)
    (behind_cycle u fits (λ (t : List ℤ). Gives (Returns x) vars t) return_now (returns_now u x vars))))

-- Calls, expressions and statements, by what is known of turns and calls.

-- what statements take, with at most n calls inside one another
abbrev pub BodiesTake : Counted → Profile → File → BodyMeaning → Type 0
BodiesTake u p file again = (fuel : ℕ) (b : Body) (vars : Vars) (depth frames : ℕ)
    → Spends u (λ (t : List ℤ). again b vars depth frames t)
    (end_of (ends_of u p (run_within u p (body_at file) fuel) b))

-- the end of a function's run
abbrev ended : Counted → Completion → Option Span
ended u Through = Some (two_cycles u)
ended u (Returns x) = Some (exactly 0)

closed_takes : (u : Counted) (p : Profile) (depth frames : ℕ) (flow : Completion) (inside caller : Vars) →
    Spends u (λ (t : List ℤ). end_of_function p depth frames flow inside t (returned caller)) (λ x. ended u flow)
closed_takes u p depth frames Through inside caller =
    value_after_two u (nat_lt depth p.words) (nat_lt 1 frames) (pos 0)
    (record { externals = inside.externals; locals = caller.locals })
closed_takes u p depth frames (Returns x) inside caller =
    spends_given u x (record { externals = inside.externals; locals = caller.locals }) (λ x. Some (exactly 0))
    (within_exactly 0)

closed_fits : (u : Counted) (ends : Ends) (flow : Completion) (m n : ℕ) → MayTake (end_of ends flow) m →
    MayTake (ended u flow) n →
    IsWithin (unwrap_or (one_of ends.returns (behind ends.through (Some (two_cycles u)))) anything) (m + n)
closed_fits u ends Through m n one other =
    let whole : Option Span = behind ends.through (Some (two_cycles u)) in
    anything_takes (one_of ends.returns whole) (m + n)
    (second_takes ends.returns whole (m + n) (behind_takes ends.through (Some (two_cycles u)) m n one other))
closed_fits u ends (Returns x) m n one other =
    let whole : Option Span = behind ends.through (Some (two_cycles u)) in
    anything_takes (one_of ends.returns whole) (m + n)
    (first_takes ends.returns whole (m + n) (takes_none ends.returns m n one other))

module _ (u : Counted) (p : Profile) (file : File) (again : BodyMeaning) (sooner : BodiesTake u p file again) where
  -- a function's run, with at most n calls inside it
  function_takes : (fuel k : ℕ) (arguments : List ℤ) (vars : Vars) (depth frames : ℕ) →
      Spends u (λ (t : List ℤ). called p file again (callee.Function k) arguments vars depth frames t)
      (λ x. Some (run_of u (ends_of u p (run_within u p (body_at file) fuel) (body_at file k))))
  function_takes fuel k arguments vars depth frames =
      let f : Function = function_at file k in
      let ends : Ends = ends_of u p (run_within u p (body_at file) fuel) (body_at file k) in
      let inside : Vars = record { externals = vars.externals; locals = first_locals f arguments } in
      let below : ℕ = depth + length f.variables in
      let whole : Span = unwrap_or (one_of ends.returns (behind ends.through (Some (two_cycles u)))) anything in
      behind_cycle u (nat_le below p.words)
      (λ (t : List ℤ). and_then (again f.body inside below (frames + 1) t)
      (λ flow after rest. end_of_function p below (frames + 1) flow after rest (returned vars)))
      (λ x. Some whole)
      (spends_both u (λ (t : List ℤ). again f.body inside below (frames + 1) t)
      (λ flow after rest. end_of_function p below (frames + 1) flow after rest (returned vars))
      (end_of ends) (λ flow x. ended u flow) (λ x. Some whole)
      (sooner fuel f.body inside below (frames + 1))
      (λ flow after. closed_takes u p below (frames + 1) flow after vars)
      (λ flow x m n one other. closed_fits u ends flow m n one other))

  pub called_takes : (fuel : ℕ) (f : Callee) (arguments : List ℤ) (vars : Vars) (depth frames : ℕ) →
      Spends u (λ (t : List ℤ). called p file again f arguments vars depth frames t)
      (λ x. Some (callee_span u p (run_within u p (body_at file) fuel) f))
  called_takes fuel (callee.Intrinsic i) arguments vars depth frames =
      spends_wider u (λ (t : List ℤ). called p file again (callee.Intrinsic i) arguments vars depth frames t)
      (λ x. Some (exactly (asking u i) ⊕ exactly 0)) (λ x. Some (exactly (asking u i)))
      (λ x n h. within_all (exactly (asking u i)) n h)
      (spends_tick u (nat_le (depth + 1) p.words) (Ask i (asked_words i arguments))
      (λ reply rest. Gives reply vars rest)
      (λ x. Some (exactly 0)) (λ reply. spends_given u reply vars (λ x. Some (exactly 0)) (within_exactly 0)))
  called_takes zero (callee.Function k) arguments vars depth frames =
      spends_wider u (λ (t : List ℤ). called p file again (callee.Function k) arguments vars depth frames t)
      (λ x. Some (run_of u (ends_of u p (run_within u p (body_at file) zero) (body_at file k)))) (λ x. Some anything)
      (λ x n h. within_anything n) (function_takes zero k arguments vars depth frames)
  called_takes (suc fuel) (callee.Function k) arguments vars depth frames =
      function_takes fuel k arguments vars depth frames

  module _ (fuel : ℕ) where
    abbrev runs : ℕ → Span
    runs = run_within u p (body_at file) fuel

    mutual
      pub value_takes : (e : Expr) (vars : Vars) (depth frames : ℕ) →
          Spends u (λ (t : List ℤ). value p file again e vars depth frames t) (λ x. Some (span_of u p runs e))
      value_takes (Constant n) vars depth frames = value_after_cycle u (nat_lt depth p.words) n vars
      value_takes (Variable v) vars depth frames =
          value_after_cycle u (nat_lt depth p.words) (value_of_variable vars v) vars
      value_takes (Binary o a b) vars depth frames =
          binary_takes u p (λ (t : List ℤ). value p file again a vars depth frames t)
          (λ vars depth rest. value p file again b vars depth frames rest) (span_of u p runs a) (span_of u p runs b)
          (value_takes a vars depth frames) (λ vars depth. value_takes b vars depth frames) o depth
      value_takes (Assign o v e) vars depth frames =
          spends_then u (λ (t : List ℤ). value p file again e vars depth frames t)
          (λ x vars rest. quiet_cycle rest (λ rest. Gives (stored o (value_of_variable vars v) x)
          (assigned vars v (stored o (value_of_variable vars v) x)) rest))
          (span_of u p runs e) (λ x. Some (cycle u)) (value_takes e vars depth frames)
          (λ x vars. value_after_cycle u true (stored o (value_of_variable vars v) x)
          (assigned vars v (stored o (value_of_variable vars v) x)))
      value_takes (Postfix o v) vars depth frames =
          let x : ℤ = value_of_variable vars v in
          let stepped : Vars = assigned vars v (stored o x (pos 1)) in
          behind_cycle u (nat_lt depth p.words)
          (λ (rest : List ℤ). push p (depth + 1) rest (λ rest. quiet_cycle rest (λ rest. quiet_cycle rest
          (λ rest. Gives x stepped rest))))
          (λ x. Some (cycle u ⊕ two_cycles u))
          (behind_cycle u (nat_lt (depth + 1) p.words)
          (λ (rest : List ℤ). quiet_cycle rest (λ rest. quiet_cycle rest (λ rest. Gives x stepped rest)))
          (λ x. Some (two_cycles u)) (value_after_two u true true x stepped))
      value_takes (Call f arguments) vars depth frames =
          behind_cycle u (nat_lt frames p.frames)
          (λ (rest : List ℤ). and_then (values p file again arguments vars depth (frames + 1) rest)
          (λ xs vars rest. called p file again f xs vars depth frames rest))
          (λ x. Some (arguments_span u p runs arguments ⊕ callee_span u p runs f))
          (spends_then u (λ (rest : List ℤ). values p file again arguments vars depth (frames + 1) rest)
          (λ xs vars rest. called p file again f xs vars depth frames rest) (arguments_span u p runs arguments)
          (λ x. Some (callee_span u p runs f)) (values_take arguments vars depth (frames + 1))
          (λ xs vars. called_takes fuel f xs vars depth frames))

      values_take : (arguments : Args) (vars : Vars) (depth frames : ℕ) →
          Spends u (λ (t : List ℤ). values p file again arguments vars depth frames t)
          (λ x. Some (arguments_span u p runs arguments))
      values_take NoMore vars depth frames = spends_given u [] vars (λ x. Some (exactly 0)) (within_exactly 0)
      values_take (Argument e rest) vars depth frames =
          spends_then u (λ (t : List ℤ). value p file again e vars depth frames t)
          (λ x vars t. and_then (values p file again rest vars (depth + 1) frames t)
          (λ xs vars t. Gives (x ∷ xs) vars t)) (span_of u p runs e) (λ x. Some (arguments_span u p runs rest))
          (value_takes e vars depth frames)
          (λ x vars. spends_wider u
          (λ (t : List ℤ). and_then (values p file again rest vars (depth + 1) frames t)
          (λ xs vars t. Gives (x ∷ xs) vars t))
          (λ xs. Some (arguments_span u p runs rest ⊕ exactly 0)) (λ xs. Some (arguments_span u p runs rest))
          (λ xs n h. within_all (arguments_span u p runs rest) n h)
          (spends_then u (λ (t : List ℤ). values p file again rest vars (depth + 1) frames t)
          (λ xs vars t. Gives (x ∷ xs) vars t) (arguments_span u p runs rest) (λ xs. Some (exactly 0))
          (values_take rest vars (depth + 1) frames)
          (λ xs vars. spends_given u (x ∷ xs) vars (λ xs. Some (exactly 0)) (within_exactly 0))))

    pub effect_takes : (b : Body) (vars : Vars) (depth frames : ℕ) →
        Spends u (λ (t : List ℤ). effect p file again b vars depth frames t) (end_of (ends_of u p runs b))
    effect_takes Done vars depth frames = spends_given u Through vars (end_of passed) (within_exactly 0)
    effect_takes (ExpressionStatement e next) vars depth frames =
        spends_wider u (λ (t : List ℤ). effect p file again (ExpressionStatement e next) vars depth frames t)
        (λ flow. before (taken u p runs e) (end_of (ends_of u p runs next) flow))
        (end_of (after (taken u p runs e) (ends_of u p runs next)))
        (λ flow n h. end_after (taken u p runs e) (ends_of u p runs next) flow n h)
        (behind_taken u (λ (t : List ℤ). value p file again e vars depth frames t)
        (λ x vars rest. effect p file again next vars depth frames rest) (span_of u p runs e)
        (end_of (ends_of u p runs next)) (value_takes e vars depth frames)
        (λ x vars. effect_takes next vars depth frames))
    effect_takes (IfStatement c s next) vars depth frames =
        let first : Ends = ends_of u p runs s in
        let last : Ends = ends_of u p runs next in
        test_takes u (λ (t : List ℤ). value p file again c vars depth frames t)
        (λ vars rest. and_on (effect p file again s vars depth frames rest)
        (λ vars rest. effect p file again next vars depth frames rest))
        (λ vars rest. effect p file again next vars depth frames rest)
        (span_of u p runs c) (followed first last) last (value_takes c vars depth frames)
        (λ vars. next_takes u (λ (t : List ℤ). effect p file again s vars depth frames t)
        (λ vars rest. effect p file again next vars depth frames rest) first last
        (effect_takes s vars depth frames) (λ vars. effect_takes next vars depth frames))
        (λ vars. effect_takes next vars depth frames)
    effect_takes (IfElseStatement c s t next) vars depth frames =
        let first : Ends = ends_of u p runs s in
        let second : Ends = ends_of u p runs t in
        let last : Ends = ends_of u p runs next in
        test_takes u (λ (trace : List ℤ). value p file again c vars depth frames trace)
        (λ vars rest. and_on (effect p file again s vars depth frames rest)
        (λ vars rest. end_of_branch_or_iteration p depth rest
        (λ rest. effect p file again next vars depth frames rest)))
        (λ vars rest. and_on (effect p file again t vars depth frames rest)
        (λ vars rest. effect p file again next vars depth frames rest))
        (span_of u p runs c) (followed first (after (two_cycles u) last)) (followed second last)
        (value_takes c vars depth frames)
        (λ vars. next_takes u (λ (trace : List ℤ). effect p file again s vars depth frames trace)
        (λ vars rest. end_of_branch_or_iteration p depth rest (λ rest. effect p file again next vars depth frames rest))
        first
        (after (two_cycles u) last) (effect_takes s vars depth frames)
        (λ vars. over_takes u p depth (λ (rest : List ℤ). effect p file again next vars depth frames rest) last
        (effect_takes next vars depth frames)))
        (λ vars. next_takes u (λ (trace : List ℤ). effect p file again t vars depth frames trace)
        (λ vars rest. effect p file again next vars depth frames rest) second last
        (effect_takes t vars depth frames) (λ vars. effect_takes next vars depth frames))
    effect_takes (While c s next) vars depth frames =
        loop_takes u p depth (λ (t : List ℤ). value p file again c vars depth frames t)
        (λ vars rest. effect p file again s vars depth frames rest)
        (λ vars rest. effect p file again next vars depth frames rest)
        (λ vars rest. again (While c s next) vars depth frames rest)
        (span_of u p runs c) (ends_of u p runs s) (ends_of u p runs next) (value_takes c vars depth frames)
        (λ vars. effect_takes s vars depth frames) (λ vars. effect_takes next vars depth frames)
        (λ vars. sooner fuel (While c s next) vars depth frames)
    effect_takes (Return e next) vars depth frames =
        return_takes u (nat_lt 1 frames) (λ (t : List ℤ). value p file again e vars depth frames t)
        (span_of u p runs e) (value_takes e vars depth frames)

-- all that is known, along as many replies as the bound allows
pub bodies_take : (u : Counted) (p : Profile) (file : File) (n : ℕ) → BodiesTake u p file (effect_within p file n)
bodies_take u p file zero fuel b vars depth frames =
    spends_never u Restart (end_of (ends_of u p (run_within u p (body_at file) fuel) b))
bodies_take u p file (suc n) fuel b vars depth frames =
    effect_takes u p file (effect_within p file n) (bodies_take u p file n) fuel b vars depth frames
