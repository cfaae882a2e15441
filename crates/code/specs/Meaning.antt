-- What a program's trees want along the replies that it got. There are no instructions and no addresses here:
-- only the trees, the variables, the stack's depth, how many frames are open, and the replies.
use Rattle.std.specs.Prelude.{ℕ, ℤ, pos, zero, suc, ◌+◌, List, [], ◌∷◌, Bool, true, false, length, map, replicate, get_or, slice_set, nat_lt, nat_le, if◌then◌else◌}
use Rattle.std.specs.List.{range_with_len}
use Rattle.arith.specs.Op.{holds, truth}
use Rattle.grammar.specs.declared.resolved_names.Callee.{Callee}
use Rattle.grammar.specs.declared.resolved_names.Callee.TheVariants as callee
use Rattle.grammar.specs.declared.resolved_names.Var.{Var}
use Rattle.grammar.specs.declared.resolved_names.Var.TheVariants.{External, Local}
use Rattle.arith.specs.declared.operators.Op.{Op}
use Rattle.arith.specs.declared.operators.Op.TheVariants as op
use Rattle.grammar.specs.Profile.{Profile}
use Rattle.grammar.specs.Tree.{Expr, Constant, Variable, Binary, Assign, Postfix, Call, Args, NoMore, Argument, Body, Done, ExpressionStatement, IfStatement, IfElseStatement, While, Return, Function, File}
use Rattle.code.specs.Functions.{function_at}
use Rattle.code.specs.declared.want.Want.{Want}
use Rattle.code.specs.declared.want.Want.TheVariants.{Quiet, Ask, Restart}
use Rattle.arith.specs.Op.{value_of}
use Rattle.code.specs.Values.{stored, asked_words}

-- the variables that a function can name
pub record Vars : Type 0 where
  pub externals : List ℤ
  pub locals : List ℤ

abbrev pub value_of_variable : Vars → Var → ℤ
value_of_variable vars (External j) = get_or vars.externals j (pos 0)
value_of_variable vars (Local j) = get_or vars.locals j (pos 0)

abbrev pub assigned : Vars → Var → ℤ → Vars
assigned vars (External j) x = record vars { externals = slice_set vars.externals j x }
assigned vars (Local j) x = record vars { locals = slice_set vars.locals j x }

-- an evaluation is done, with the replies left, or wants something
pub data EvaluationResult (A : Type 0) : Type 0 where
  Gives : (value : A) (vars : Vars) (rest : List ℤ) → EvaluationResult A
  Awaits : (want : Want) → EvaluationResult A

-- an evaluation that goes on along replies
abbrev pub Along : Type 0 → Type 0
Along A = List ℤ → EvaluationResult A

-- an evaluation, and what follows it
abbrev pub and_then : {A B : Type 0} → EvaluationResult A → (A → Vars → Along B) → EvaluationResult B
and_then (Gives x vars rest) go = go x vars rest
and_then (Awaits want) go = Awaits want

-- One cycle. What doesn't fit wants a restart; a reply that isn't there yet is awaited.
abbrev pub tick : {A : Type 0} → Bool → Want → List ℤ → (ℤ → Along A) → EvaluationResult A
tick false want trace go = Awaits Restart
tick true want [] go = Awaits want
tick true want (reply ∷ rest) go = go reply rest

abbrev pub quiet_cycle : {A : Type 0} → List ℤ → Along A → EvaluationResult A
quiet_cycle trace go = tick true Quiet trace (λ reply. go)

-- how a body ends: it is passed through, or returns a value
pub data Completion : Type 0 where
  Through : Completion
  Returns : (value : ℤ) → Completion

abbrev pub on_through : Completion → Vars → List ℤ → (Vars → Along Completion) → EvaluationResult Completion
on_through Through vars rest go = go vars rest
on_through (Returns x) vars rest go = Gives (Returns x) vars rest

abbrev pub and_on : EvaluationResult Completion → (Vars → Along Completion) → EvaluationResult Completion
and_on outcome go =
    and_then outcome (λ flow vars rest.
    on_through flow vars rest go)

-- what is evaluated at these variables, this depth and this many frames
abbrev pub Evaluation : Type 0 → Type 0
Evaluation A = Vars → ℕ → ℕ → Along A

abbrev pub BodyMeaning : Type 0
BodyMeaning = Body → Evaluation Completion

-- the variables that a function begins with: a parameter is the argument of its number, and all others are 0
abbrev pub first_locals : Function → List ℤ → List ℤ
first_locals f arguments =
    map (λ j. if nat_lt j f.parameters then get_or arguments j (pos 0) else pos 0)
    (range_with_len 0 (length f.variables))

-- the value of a call, with the caller's locals again
abbrev pub returned : Vars → ℤ → Vars → Along ℤ
returned caller x vars = Gives x (record caller { externals = vars.externals })

-- an operator after both of its sides
abbrev pub full : Op → ℕ → EvaluationResult ℤ → (Vars → ℕ → Along ℤ) → EvaluationResult ℤ
full o depth left right =
    and_then left (λ x vars rest_of_left.
    and_then (right vars (depth + 1) rest_of_left) (λ y vars rest_of_right.
    quiet_cycle rest_of_right (Gives (value_of o x y) vars)))

-- main does not end: when it would return, it wants a restart
abbrev pub wanted : EvaluationResult ℤ → Want
wanted (Awaits want) = want
wanted (Gives x vars rest) = Restart

abbrev pub zeros : ℕ → List ℤ
zeros n = replicate n (pos 0)

module _ (p : Profile) where
  abbrev pub push : {A : Type 0} → ℕ → List ℤ → Along A → EvaluationResult A
  push depth trace go = tick (nat_lt depth p.words) Quiet trace (λ reply. go)

  -- the end of a first branch, and of each iteration: a push of 0, and a cycle that takes it
  abbrev pub end_of_branch_or_iteration : {A : Type 0} → ℕ → List ℤ → Along A → EvaluationResult A
  end_of_branch_or_iteration depth trace go =
      push depth trace (λ rest.
      quiet_cycle rest go)

  -- a body that is passed through returns 0
  abbrev pub end_of_function : {A : Type 0} → ℕ → ℕ → Completion → Vars → List ℤ → (ℤ → Vars → Along A) →
      EvaluationResult A
  end_of_function depth frames (Returns x) vars rest go = go x vars rest
  end_of_function depth frames Through vars rest_of_body go =
      push depth rest_of_body (λ rest_of_push.
      tick (nat_lt 1 frames) Quiet rest_of_push (λ reply.
      go (pos 0) vars))

  -- an operator that leaves out its right side if the left one decides
  abbrev pub short : Op → ℕ → EvaluationResult ℤ → (Vars → ℕ → Along ℤ) → EvaluationResult ℤ
  short op.And depth left right =
      and_then left (λ x vars rest_of_left.
      quiet_cycle rest_of_left (λ rest_of_test.
      if holds x then
      and_then (right vars depth rest_of_test) (λ y vars rest_of_right.
      quiet_cycle rest_of_right (λ rest.
      end_of_branch_or_iteration (depth + 1) rest (Gives (truth (holds y)) vars)))
      else
      push depth rest_of_test (Gives (pos 0) vars)))
  short op.Or depth left right =
      and_then left (λ x vars rest_of_left.
      quiet_cycle rest_of_left (λ rest_of_test.
      if holds x then
      push depth rest_of_test (λ rest.
      end_of_branch_or_iteration (depth + 1) rest (Gives (pos 1) vars))
      else
      and_then (right vars depth rest_of_test) (λ y vars rest_of_right.
      quiet_cycle rest_of_right (Gives (truth (holds y)) vars))))
  short o depth left right = full o depth left right

  abbrev pub binary : Op → ℕ → EvaluationResult ℤ → (Vars → ℕ → Along ℤ) → EvaluationResult ℤ
  binary o depth left right = if p.short_circuit then short o depth left right else full o depth left right

  module _ (file : File) where
    module _ (again : BodyMeaning) where
      -- A call after its arguments, at the depth below them. The function's own depth is after all of its variables, of
      -- which the arguments are the first.
      abbrev pub called : Callee → List ℤ → Evaluation ℤ
      called (callee.Intrinsic i) arguments vars depth frames trace =
          tick (nat_le (depth + 1) p.words) (Ask i (asked_words i arguments)) trace (λ reply.
          Gives reply vars)
      called (callee.Function k) arguments vars depth frames trace =
          let f = function_at file k in
          let own_depth = depth + length f.variables in
          tick (nat_le own_depth p.words) Quiet trace (λ reply rest_of_call.
          and_then
          (again f.body (record vars { locals = first_locals f arguments }) own_depth (frames + 1) rest_of_call)
          (λ flow after rest.
          end_of_function own_depth (frames + 1) flow after rest (returned vars)))

      abbrev mutual
        pub value : Expr → Evaluation ℤ
        value (Constant n) vars depth frames trace = push depth trace (Gives n vars)
        value (Variable v) vars depth frames trace = push depth trace (Gives (value_of_variable vars v) vars)
        value (Binary o a b) vars depth frames trace =
            binary o depth (value a vars depth frames trace) (λ vars depth.
            value b vars depth frames)
        value (Assign o v e) vars depth frames trace =
            and_then (value e vars depth frames trace) (λ x vars rest_of_value.
            let y = stored o (value_of_variable vars v) x in
            quiet_cycle rest_of_value (Gives y (assigned vars v y)))
        value (Postfix o v) vars depth frames trace =
            let x = value_of_variable vars v in
            push depth trace (λ rest_of_push.
            push (depth + 1) rest_of_push (λ rest_of_second_push.
            quiet_cycle rest_of_second_push (λ rest_of_pass.
            quiet_cycle rest_of_pass (Gives x (assigned vars v (stored o x (pos 1)))))))
        value (Call f arguments) vars depth frames trace =
            tick (nat_lt frames p.frames) Quiet trace (λ reply rest_of_frame.
            and_then (values arguments vars depth (frames + 1) rest_of_frame) (λ xs vars.
            called f xs vars depth frames))

        -- The values of arguments, in order. Each is pushed on those before it, so `depth` is that of the argument, and
        -- not of the function called.
        pub values : Args → Evaluation (List ℤ)
        values NoMore vars depth frames trace = Gives [] vars trace
        values (Argument e arguments) vars depth frames trace =
            and_then (value e vars depth frames trace) (λ x vars rest_of_first.
            and_then (values arguments vars (depth + 1) frames rest_of_first) (λ xs vars rest.
            Gives (x ∷ xs) vars rest))

      -- the effect of statements
      abbrev pub effect : BodyMeaning
      effect Done vars depth frames trace = Gives Through vars trace
      effect (ExpressionStatement e next) vars depth frames trace =
          and_then (value e vars depth frames trace) (λ x vars rest_of_value.
          quiet_cycle rest_of_value (effect next vars depth frames))
      effect (IfStatement c s next) vars depth frames trace =
          and_then (value c vars depth frames trace) (λ x vars rest_of_condition.
          quiet_cycle rest_of_condition (λ rest_of_test.
          if holds x then
          and_on (effect s vars depth frames rest_of_test) (λ vars.
          effect next vars depth frames)
          else
          effect next vars depth frames rest_of_test))
      effect (IfElseStatement c s t next) vars depth frames trace =
          and_then (value c vars depth frames trace) (λ x vars rest_of_condition.
          quiet_cycle rest_of_condition (λ rest_of_test.
          if holds x then
          and_on (effect s vars depth frames rest_of_test) (λ vars rest_of_branch.
          end_of_branch_or_iteration depth rest_of_branch (effect next vars depth frames))
          else
          and_on (effect t vars depth frames rest_of_test) (λ vars.
          effect next vars depth frames)))
      effect (While c s next) vars depth frames trace =
          and_then (value c vars depth frames trace) (λ x vars rest_of_condition.
          quiet_cycle rest_of_condition (λ rest_of_test.
          if holds x then
          and_on (effect s vars depth frames rest_of_test) (λ vars rest_of_turn.
          end_of_branch_or_iteration depth rest_of_turn (again (While c s next) vars depth frames))
          else
          effect next vars depth frames rest_of_test))
      effect (Return e next) vars depth frames trace =
          and_then (value e vars depth frames trace) (λ x vars rest_of_value.
          tick (nat_lt 1 frames) Quiet rest_of_value (λ reply.
          Gives (Returns x) vars))

    -- with at most n iterations and calls inside one another
    abbrev pub effect_within : ℕ → BodyMeaning
    effect_within zero body vars depth frames trace = Awaits Restart
    effect_within (suc n) body vars depth frames trace = effect (effect_within n) body vars depth frames trace

    -- what main's run wants, with at most n iterations and calls inside one another
    abbrev pub want_within : ℕ → List ℤ → Want
    want_within n trace =
        let main = function_at file file.main in
        let depth = length main.variables in
        let vars : Vars = record { externals = zeros (length file.externals); locals = zeros depth } in
        wanted (
        and_then (effect_within n main.body vars depth 1 trace) (λ flow vars rest_of_main.
        end_of_function depth 1 flow vars rest_of_main (λ x vars rest.
        Awaits Restart)))

    -- What a file wants along the replies. Each iteration and each call uses up a reply, so a greater bound changes
    -- nothing (the law `MoreIterationsChangeNothing` in `Laws.antt`).
    abbrev pub want : List ℤ → Want
    want trace = want_within (suc (length trace)) trace
