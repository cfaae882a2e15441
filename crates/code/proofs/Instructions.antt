-- One instruction against one cycle of the trees, on the stack of a function's run.
use Rattle.std.specs.Prelude.{ℕ, ℤ, suc, ◌+◌, ◌≡◌, ◌<◌, ◌≤◌, List, [], ◌∷◌, ◌++◌, Bool, true, false, Option, Some, length, take, drop, nat_lt, nat_le, if◌then◌else◌}
use Rattle.std.proofs.Common.{refl, sym, ap, ◌∙◌, subst, arith, length-append}
use Rattle.std.proofs.lemmas.Bool.Decides.{nat_tests}
use Rattle.std.proofs.lemmas.List.{append-nil, length-set}
use Rattle.std.proofs.Math.Seq.{take-append_seam}
use Rattle.arith.specs.Op.{holds, truth}
use Rattle.grammar.specs.declared.resolved_names.Callee.TheVariants as callee
use Rattle.grammar.specs.declared.resolved_names.Intrinsic.{Intrinsic}
use Rattle.grammar.specs.declared.resolved_names.Var.{Var}
use Rattle.grammar.specs.declared.resolved_names.Var.TheVariants.{External, Local}
use Rattle.arith.specs.declared.operators.Op.{Op}
use Rattle.grammar.specs.declared.operators.StoreOp.{StoreOp}
use Rattle.code.specs.declared.instr.Instr.TheVariants.{Fetch, Store, Const, Binop, Fcall, Retsub, Branch, Chop, Truth, Nop}
use Rattle.code.specs.declared.instr.Instr.TheVariants as instr
use Rattle.code.specs.declared.want.Want.{Want}
use Rattle.code.specs.declared.want.Want.TheVariants.{Quiet, Ask}
use Rattle.code.specs.Generation.{Program}
use Rattle.code.specs.declared.frame.Frame.{Frame}
use Rattle.code.specs.Machine.{Machine, instr_at, done_with, has_variable, read_variable, with_value, next_with, nth_word, without, address_at, parameters_at, variables_at, variables_of}
use Rattle.grammar.specs.Resolved.{IsVariable}
use Rattle.code.specs.Meaning.{Vars, EvaluationResult, tick, push, quiet_cycle, value_of_variable, assigned}
use Rattle.arith.specs.Op.{value_of}
use Rattle.code.specs.Values.{stored, asked_words}
use Rattle.code.proofs.Follows.{HasSizes, Follows, follows_from, wants, ticks, ticks_not}
use Rattle.code.proofs.Lists.{words_of, length-words_of, pushed, taken_one, top_one, taken_two, top_two, top_of_two, local_read, local_set, above, beneath}

-- a function's run: what lies below its variables, the frames, the variables, and what it pushed
abbrev pub run : ℕ → List ℤ → List Frame → Vars → List ℤ → Machine
run at below fs vars temps = record {
  at = at;
  home = length below;
  words = words_of below vars.locals temps;
  frames = fs;
  externals = vars.externals;
}

-- the stack's depth in the trees
pub record IsDepth (l : ℕ) (below temps : List ℤ) (depth : ℕ) : Type 0 where
  pub is : depth ≡ length below + (l + length temps)

pub deeper : {l : ℕ} {below temps : List ℤ} {depth : ℕ} (x : ℤ) → IsDepth l below temps depth →
    IsDepth l below (temps ++ x ∷ []) (depth + 1)
deeper {l} {below} {temps} {depth} x d = record { is = omega (arith, d.is, length-append temps (x ∷ [])) }

pub length-words : (e l : ℕ) (below : List ℤ) (vars : Vars) (temps : List ℤ) (depth : ℕ) → HasSizes e l vars →
    IsDepth l below temps depth → length (words_of below vars.locals temps) ≡ depth
length-words e l below vars temps depth sizes d =
    omega (arith, length-words_of below vars.locals temps, sizes.locals_are, d.is)

-- the words and the variables that an instruction takes are there
lt_test : (a b : ℕ) → a < b → nat_lt a b ≡ true
lt_test a b h = grind (arith, nat_tests, h)

le_test : (a b : ℕ) → a ≤ b → nat_le a b ≡ true
le_test a b h = grind (arith, nat_tests, h)

if_both : (a b : Bool) → a ≡ true → b ≡ true → (if a then b else false) ≡ true
if_both a b e f = ap (λ (c : Bool). if c then b else false) e ∙ f

one_word : (below locals temps : List ℤ) (x : ℤ) → nat_lt 0 (length (words_of below locals (temps ++ x ∷ []))) ≡ true
one_word below locals temps x =
    lt_test 0 (length (words_of below locals (temps ++ x ∷ [])))
    (omega (arith, length-words_of below locals (temps ++ x ∷ []), length-append temps (x ∷ [])))

two_words : (below locals temps : List ℤ) (x y : ℤ) →
    nat_lt 1 (length (words_of below locals ((temps ++ x ∷ []) ++ y ∷ []))) ≡ true
two_words below locals temps x y =
    lt_test 1 (length (words_of below locals ((temps ++ x ∷ []) ++ y ∷ [])))
    (omega (
      arith,
      length-words_of below locals ((temps ++ x ∷ []) ++ y ∷ []),
      length-append (temps ++ x ∷ []) (y ∷ []),
      length-append temps (x ∷ []),
    ))

variable_known : (e l at : ℕ) (below : List ℤ) (fs : List Frame) (vars : Vars) (temps : List ℤ) (v : Var) →
    HasSizes e l vars → IsVariable e l v → has_variable (run at below fs vars temps) v ≡ true
variable_known e l at below fs vars temps (External j) sizes h =
    lt_test j (length vars.externals) (omega (arith, h, sizes.externals_are))
variable_known e l at below fs vars temps (Local j) sizes h =
    lt_test (length below + j) (length (words_of below vars.locals temps))
    (omega (arith, h, sizes.locals_are, length-words_of below vars.locals temps))

variable_read : (e l at : ℕ) (below : List ℤ) (fs : List Frame) (vars : Vars) (temps : List ℤ) (v : Var) →
    HasSizes e l vars → IsVariable e l v → read_variable (run at below fs vars temps) v ≡ value_of_variable vars v
variable_read e l at below fs vars temps (External j) sizes h = refl
variable_read e l at below fs vars temps (Local j) sizes h =
    local_read below vars.locals temps j (omega (arith, h, sizes.locals_are))

variable_set : (e l at : ℕ) (below : List ℤ) (fs : List Frame) (vars : Vars) (temps : List ℤ) (v : Var) (x : ℤ) →
    HasSizes e l vars → IsVariable e l v →
    with_value (run at below fs vars temps) v x ≡ run at below fs (assigned vars v x) temps
variable_set e l at below fs vars temps (External j) x sizes h = refl
variable_set e l at below fs vars temps (Local j) x sizes h =
    ap
    (λ (words : List ℤ). let s : Machine = record
    { at = at; home = length below; words = words; frames = fs; externals = vars.externals } in s)
    (local_set below vars.locals temps j x (omega (arith, h, sizes.locals_are)))

pub assigned_sizes : (e l : ℕ) (vars : Vars) (v : Var) (x : ℤ) → HasSizes e l vars → HasSizes e l (assigned vars v x)
assigned_sizes e l vars (External j) x sizes =
    record { externals_are = length-set vars.externals j x ∙ sizes.externals_are; locals_are = sizes.locals_are }
assigned_sizes e l vars (Local j) x sizes =
    record { externals_are = sizes.externals_are; locals_are = length-set vars.locals j x ∙ sizes.locals_are }

-- the next instruction's state with these words is a run with what was pushed
next_run : (at : ℕ) (below : List ℤ) (fs : List Frame) (vars : Vars) (words temps : List ℤ) (before : List ℤ) →
    words ≡ words_of below vars.locals temps →
    next_with (run at below fs vars before) words ≡ run (at + 1) below fs vars temps
next_run at below fs vars words temps before e =
    ap
    (λ (words : List ℤ). let s : Machine = record
    { at = at + 1; home = length below; words = words; frames = fs; externals = vars.externals } in s) e

module _ (program : Program) (e l n : ℕ) (below : List ℤ) (fs : List Frame) {A : Type 0} (at : ℕ)
    (k : A → Vars → List ℤ → Option Want) where
  -- what comes after a cycle
  abbrev Next : List ℤ → (List ℤ → EvaluationResult A) → ℕ → Vars → List ℤ → Type 0
  Next trace go to vars temps =
      (rest : List ℤ) → suc (length rest) ≡ length trace →
      Follows e l n (go rest) (wants program (run to below fs vars temps) rest) k

  moved : (s t : Machine) (o : EvaluationResult A) (rest : List ℤ) → s ≡ t → Follows e l n o (wants program t rest) k →
      Follows e l n o (wants program s rest) k
  moved s t o rest same f =
      follows_from e l n o (wants program s rest) (wants program t rest) k
      (ap (λ (s : Machine). wants program s rest) same) f

  pub on_const : (m : ℕ) (vars : Vars) (temps : List ℤ) (depth : ℕ) (x : ℤ) (trace : List ℤ)
      (go : List ℤ → EvaluationResult A)
      → instr_at program at ≡ Some (Const x) → HasSizes e m vars → IsDepth m below temps depth →
      Next trace go (at + 1) vars (temps ++ x ∷ []) →
      Follows e l n (push program.profile depth trace go) (wants program (run at below fs vars temps) trace) k
  on_const m vars temps depth x trace go here sizes d next =
      let s = run at below fs vars temps in
      ticks program s (Const x) here refl e l n (nat_lt depth program.profile.words) Quiet trace (λ reply rest. go rest)
      k
      (ap (λ (m : ℕ). nat_lt m program.profile.words) (length-words e m below vars temps depth sizes d)) refl
      (λ reply rest shorter.
      moved (done_with program reply s (Some (Const x))) (run (at + 1) below fs vars (temps ++ x ∷ [])) (go rest) rest
      (next_run at below fs vars (s.words ++ x ∷ []) (temps ++ x ∷ []) temps (pushed below vars.locals temps (x ∷ [])))
      (next rest shorter))

  pub on_fetch : (vars : Vars) (temps : List ℤ) (depth : ℕ) (v : Var) (trace : List ℤ)
      (go : List ℤ → EvaluationResult A) →
      instr_at program at ≡ Some (Fetch v) → HasSizes e l vars → IsVariable e l v → IsDepth l below temps depth →
      Next trace go (at + 1) vars (temps ++ value_of_variable vars v ∷ []) →
      Follows e l n (push program.profile depth trace go) (wants program (run at below fs vars temps) trace) k
  on_fetch vars temps depth v trace go here sizes known d next =
      let s = run at below fs vars temps in
      let x = value_of_variable vars v in
      ticks program s (Fetch v) here (variable_known e l at below fs vars temps v sizes known) e l n
      (nat_lt depth program.profile.words) Quiet trace (λ reply rest. go rest) k
      (ap (λ (m : ℕ). nat_lt m program.profile.words) (length-words e l below vars temps depth sizes d)) refl
      (λ reply rest shorter.
      moved (done_with program reply s (Some (Fetch v))) (run (at + 1) below fs vars (temps ++ x ∷ [])) (go rest) rest
      (next_run at below fs vars (s.words ++ read_variable s v ∷ []) (temps ++ x ∷ []) temps
      (ap (λ (y : ℤ). s.words ++ y ∷ []) (variable_read e l at below fs vars temps v sizes known) ∙
      pushed below vars.locals temps (x ∷ [])))
      (next rest shorter))

  pub on_chop : (vars : Vars) (temps : List ℤ) (x : ℤ) (trace : List ℤ) (go : List ℤ → EvaluationResult A) →
      instr_at program at ≡ Some Chop → Next trace go (at + 1) vars temps →
      Follows e l n (quiet_cycle trace go) (wants program (run at below fs vars (temps ++ x ∷ [])) trace) k
  on_chop vars temps x trace go here next =
      let s = run at below fs vars (temps ++ x ∷ []) in
      ticks program s Chop here (one_word below vars.locals temps x) e l n true Quiet trace (λ reply rest. go rest) k
      refl
      refl
      (λ reply rest shorter.
      moved (done_with program reply s (Some Chop)) (run (at + 1) below fs vars temps) (go rest) rest
      (next_run at below fs vars (without 1 s.words) temps (temps ++ x ∷ []) (taken_one below vars.locals temps x))
      (next rest shorter))

  pub on_binop : (vars : Vars) (temps : List ℤ) (o : Op) (x y : ℤ) (trace : List ℤ) (go : List ℤ → EvaluationResult A) →
      instr_at program at ≡ Some (Binop o) → Next trace go (at + 1) vars (temps ++ value_of o x y ∷ []) →
      Follows e l n (quiet_cycle trace go) (wants program (run at below fs vars ((temps ++ x ∷ []) ++ y ∷ [])) trace) k
  on_binop vars temps o x y trace go here next =
      let s = run at below fs vars ((temps ++ x ∷ []) ++ y ∷ []) in
      let z = value_of o x y in
      let words : without 2 s.words ++ value_of o (nth_word s.words 2) (nth_word s.words 1) ∷ [] ≡
      words_of below vars.locals (temps ++ z ∷ []) =
      ap (λ (l : List ℤ). l ++ value_of o (nth_word s.words 2) (nth_word s.words 1) ∷ [])
      (taken_two below vars.locals temps x y)
      ∙
      ap (λ (a : ℤ). words_of below vars.locals temps ++ value_of o a (nth_word s.words 1) ∷ [])
      (top_two below vars.locals temps x y)
      ∙ ap (λ (b : ℤ). words_of below vars.locals temps ++ value_of o x b ∷ []) (top_of_two below vars.locals temps x y)
      ∙ pushed below vars.locals temps (z ∷ [])
      in
      ticks program s (Binop o) here (two_words below vars.locals temps x y) e l n true Quiet trace
      (λ reply rest. go rest)
      k refl refl
      (λ reply rest shorter.
      moved (done_with program reply s (Some (Binop o))) (run (at + 1) below fs vars (temps ++ z ∷ [])) (go rest) rest
      (next_run at below fs vars (without 2 s.words ++ value_of o (nth_word s.words 2) (nth_word s.words 1) ∷ [])
      (temps ++ z ∷ []) ((temps ++ x ∷ []) ++ y ∷ []) words) (next rest shorter))

  pub on_truth : (vars : Vars) (temps : List ℤ) (x : ℤ) (trace : List ℤ) (go : List ℤ → EvaluationResult A) →
      instr_at program at ≡ Some Truth → Next trace go (at + 1) vars (temps ++ truth (holds x) ∷ []) →
      Follows e l n (quiet_cycle trace go) (wants program (run at below fs vars (temps ++ x ∷ [])) trace) k
  on_truth vars temps x trace go here next =
      let s = run at below fs vars (temps ++ x ∷ []) in
      let z = truth (holds x) in
      let words : without 1 s.words ++ truth (holds (nth_word s.words 1)) ∷ [] ≡
      words_of below vars.locals (temps ++ z ∷ []) =
      ap (λ (l : List ℤ). l ++ truth (holds (nth_word s.words 1)) ∷ []) (taken_one below vars.locals temps x)
      ∙ ap (λ (b : ℤ). words_of below vars.locals temps ++ truth (holds b) ∷ []) (top_one below vars.locals temps x)
      ∙ pushed below vars.locals temps (z ∷ [])
      in
      ticks program s Truth here (one_word below vars.locals temps x) e l n true Quiet trace (λ reply rest. go rest) k
      refl
      refl
      (λ reply rest shorter.
      moved (done_with program reply s (Some Truth)) (run (at + 1) below fs vars (temps ++ z ∷ [])) (go rest) rest
      (next_run at below fs vars (without 1 s.words ++ truth (holds (nth_word s.words 1)) ∷ []) (temps ++ z ∷ [])
      (temps ++ x ∷ []) words) (next rest shorter))

  pub on_store : (vars : Vars) (temps : List ℤ) (v : Var) (o : StoreOp) (x : ℤ) (trace : List ℤ)
      (go : List ℤ → EvaluationResult A) → instr_at program at ≡ Some (Store v o) → HasSizes e l vars →
      IsVariable e l v →
      Next trace go (at + 1) (assigned vars v (stored o (value_of_variable vars v) x))
      (temps ++ stored o (value_of_variable vars v) x ∷ []) →
      Follows e l n (quiet_cycle trace go) (wants program (run at below fs vars (temps ++ x ∷ [])) trace) k
  on_store vars temps v o x trace go here sizes known next =
      let s = run at below fs vars (temps ++ x ∷ []) in
      let y = stored o (value_of_variable vars v) x in
      let new : stored o (read_variable s v) (nth_word s.words 1) ≡ y =
      ap (λ (a : ℤ). stored o a (nth_word s.words 1))
      (variable_read e l at below fs vars (temps ++ x ∷ []) v sizes known)
      ∙ ap (λ (b : ℤ). stored o (value_of_variable vars v) b) (top_one below vars.locals temps x)
      in
      let t = run at below fs (assigned vars v y) (temps ++ x ∷ []) in
      let words : without 1 t.words ++ y ∷ [] ≡ words_of below (assigned vars v y).locals (temps ++ y ∷ []) =
      ap (λ (l : List ℤ). l ++ y ∷ []) (taken_one below (assigned vars v y).locals temps x)
      ∙ pushed below (assigned vars v y).locals temps (y ∷ [])
      in
      let target = run (at + 1) below fs (assigned vars v y) (temps ++ y ∷ []) in
      ticks program s (Store v o) here
      (if_both (nat_lt 0 (length s.words)) (has_variable s v) (one_word below vars.locals temps x)
      (variable_known e l at below fs vars (temps ++ x ∷ []) v sizes known)) e l n true Quiet trace
      (λ reply rest. go rest) k refl refl
      (λ reply rest shorter.
      moved (done_with program reply s (Some (Store v o))) target (go rest) rest
      (ap (λ (z : ℤ). next_with (with_value s v z) (without 1 (with_value s v z).words ++ z ∷ [])) new
      ∙
      ap (λ (r : Machine). next_with r (without 1 r.words ++ y ∷ []))
      (variable_set e l at below fs vars (temps ++ x ∷ []) v y sizes known)
      ∙
      next_run at below fs (assigned vars v y) (without 1 t.words ++ y ∷ []) (temps ++ y ∷ []) (temps ++ x ∷ []) words)
      (next rest shorter))

  pub on_branch : (vars : Vars) (temps : List ℤ) (to : ℕ) (x : ℤ) (trace : List ℤ) (go : List ℤ → EvaluationResult A) →
      instr_at program at ≡ Some (Branch to) → Next trace go (if holds x then at + 1 else to) vars temps →
      Follows e l n (quiet_cycle trace go) (wants program (run at below fs vars (temps ++ x ∷ [])) trace) k
  on_branch vars temps to x trace go here next =
      let s = run at below fs vars (temps ++ x ∷ []) in
      let registers = λ (y : ℤ). if holds y then at + 1 else to in
      ticks program s (Branch to) here (one_word below vars.locals temps x) e l n true Quiet trace
      (λ reply rest. go rest)
      k refl refl
      (λ reply rest shorter.
      moved (done_with program reply s (Some (Branch to))) (run (registers x) below fs vars temps) (go rest) rest
      (ap
      (λ (y : ℤ). let t : Machine = record
      { at = registers y; home = length below; words = without 1 s.words; frames = fs; externals = vars.externals } in
      t)
      (top_one below vars.locals temps x)
      ∙
      ap
      (λ (words : List ℤ). let t : Machine = record
      { at = registers x; home = length below; words = words; frames = fs; externals = vars.externals } in t)
      (taken_one below vars.locals temps x))
      (next rest shorter))

-- a frame that was opened at this depth, and one whose function was called
abbrev pub opened : List ℤ → ℕ → Frame
opened below depth = record { base = depth; back = 0; home = length below }

abbrev pub entered : List ℤ → ℕ → ℕ → Frame
entered below depth back = record { base = depth; back = back; home = length below }

-- the state after a return from a function that ran above `below`
abbrev pub back_with : Frame → List ℤ → List Frame → List ℤ → ℤ → Machine
back_with f below fs externals x = record {
  at = f.back;
  home = f.home;
  words = below ++ x ∷ [];
  frames = fs;
  externals = externals;
}

-- a call's arguments lie above the other words
deep_enough : (below locals temps arguments : List ℤ) (depth : ℕ) → depth ≡ length (words_of below locals temps) →
    depth ≤ length (words_of below locals (temps ++ arguments))
deep_enough below locals temps arguments depth is =
    omega (
      arith,
      is,
      length-words_of below locals temps,
      length-words_of below locals (temps ++ arguments),
      length-append temps arguments,
    )

module _ (program : Program) (e l n : ℕ) (below : List ℤ) (fs : List Frame) {A : Type 0} (at : ℕ)
    (k : A → Vars → List ℤ → Option Want) where
  abbrev Reaches : List ℤ → (List ℤ → EvaluationResult A) → Machine → Type 0
  Reaches trace go s =
      (rest : List ℤ) → suc (length rest) ≡ length trace → Follows e l n (go rest) (wants program s rest) k

  moves : (s t : Machine) (o : EvaluationResult A) (rest : List ℤ) → s ≡ t → Follows e l n o (wants program t rest) k →
      Follows e l n o (wants program s rest) k
  moves s t o rest same f =
      follows_from e l n o (wants program s rest) (wants program t rest) k
      (ap (λ (s : Machine). wants program s rest) same) f

  pub on_frame : (vars : Vars) (temps : List ℤ) (depth frames : ℕ) (trace : List ℤ) (go : List ℤ → EvaluationResult A) →
      instr_at program at ≡ Some instr.Frame → HasSizes e l vars → IsDepth l below temps depth → frames ≡ length fs →
      Reaches trace go (run (at + 1) below (opened below depth ∷ fs) vars temps) →
      Follows e l n (tick (nat_lt frames program.profile.frames) Quiet trace (λ reply rest. go rest))
      (wants program (run at below fs vars temps) trace) k
  on_frame vars temps depth frames trace go here sizes d count next =
      let s = run at below fs vars temps in
      let target = run (at + 1) below (opened below depth ∷ fs) vars temps in
      ticks program s instr.Frame here refl e l n (nat_lt frames program.profile.frames) Quiet trace
      (λ reply rest. go rest) k
      (ap (λ (m : ℕ). nat_lt m program.profile.frames) (sym count)) refl
      (λ reply rest shorter.
      moves (done_with program reply s (Some instr.Frame)) target (go rest) rest
      (ap
      (λ (m : ℕ). let t : Machine = record {
        at = at + 1;
        home = length below;
        words = s.words;
        frames = opened below m ∷ fs;
        externals = vars.externals;
      } in t) (length-words e l below vars temps depth sizes d))
      (next rest shorter))

  pub on_ask : (vars : Vars) (temps arguments : List ℤ) (depth : ℕ) (i : Intrinsic) (trace : List ℤ)
      (go : ℤ → List ℤ → EvaluationResult A) → instr_at program at ≡ Some (Fcall (callee.Intrinsic i)) →
      HasSizes e l vars →
      IsDepth l below temps depth →
      ((reply : ℤ) → Reaches trace (go reply) (run (at + 1) below fs vars (temps ++ reply ∷ []))) →
      Follows e l n (tick (nat_le (depth + 1) program.profile.words) (Ask i (asked_words i arguments)) trace go)
      (wants program (run at below (opened below depth ∷ fs) vars (temps ++ arguments)) trace) k
  on_ask vars temps arguments depth i trace go here sizes d next =
      let s = run at below (opened below depth ∷ fs) vars (temps ++ arguments) in
      let is : depth ≡ length (words_of below vars.locals temps) =
      sym (length-words e l below vars temps depth sizes d) in
      ticks program s (Fcall (callee.Intrinsic i)) here (if_both (nat_lt 0 (length s.frames))
      (nat_le depth (length s.words)) (lt_test 0 (length s.frames) (omega arith))
      (le_test depth (length s.words)
      (deep_enough below vars.locals temps arguments depth is))) e l n
      (nat_le (depth + 1) program.profile.words) (Ask i (asked_words i arguments)) trace go k
      refl (ap (λ (xs : List ℤ). Ask i (asked_words i xs)) (above below vars.locals temps arguments depth is))
      (λ reply rest shorter.
      moves (done_with program reply s (Some (Fcall (callee.Intrinsic i))))
      (run (at + 1) below fs vars (temps ++ reply ∷ [])) (go reply rest) rest
      (ap
      (λ (words : List ℤ). let t : Machine = record
      { at = at + 1; home = length below; words = words; frames = fs; externals = vars.externals } in t)
      (ap (λ (words : List ℤ). words ++ reply ∷ []) (beneath below vars.locals temps arguments depth is) ∙
      pushed below vars.locals temps (reply ∷ [])))
      (next reply rest shorter))

  pub on_call : (vars : Vars) (temps arguments : List ℤ) (depth j : ℕ) (trace : List ℤ)
      (go : List ℤ → EvaluationResult A) →
      instr_at program at ≡ Some (Fcall (callee.Function j)) → j < length program.functions → HasSizes e l vars →
      IsDepth l below temps depth →
      Reaches trace go
      (run (address_at program j) (words_of below vars.locals temps) (entered below depth (at + 1) ∷ fs)
      (record {
        externals = vars.externals;
        locals = variables_of (parameters_at program j) (variables_at program j) arguments;
      }) []) →
      Follows e l n
      (tick (nat_le (depth + variables_at program j) program.profile.words) Quiet trace (λ reply rest. go rest))
      (wants program (run at below (opened below depth ∷ fs) vars (temps ++ arguments)) trace) k
  on_call vars temps arguments depth j trace go here there sizes d next =
      let s = run at below (opened below depth ∷ fs) vars (temps ++ arguments) in
      let is : depth ≡ length (words_of below vars.locals temps) =
      sym (length-words e l below vars temps depth sizes d) in
      let own = λ (xs : List ℤ). variables_of (parameters_at program j) (variables_at program j) xs in
      let base = words_of below vars.locals temps in
      let make =
      λ (home : ℕ) (words : List ℤ). let t : Machine = record {
        at = address_at program j;
        home = home;
        words = words;
        frames = entered below depth (at + 1) ∷ fs;
        externals = vars.externals;
      } in t in
      let words : take depth s.words ++ own (drop depth s.words) ≡ base ++ (own arguments ++ []) =
      ap (λ (l : List ℤ). l ++ own (drop depth s.words)) (beneath below vars.locals temps arguments depth is)
      ∙ ap (λ (xs : List ℤ). base ++ own xs) (above below vars.locals temps arguments depth is)
      ∙ ap (λ (xs : List ℤ). base ++ xs) (sym (append-nil (own arguments)))
      in
      ticks program s (Fcall (callee.Function j)) here (if_both (nat_lt j (length program.functions))
      (if nat_lt 0 (length s.frames) then nat_le depth (length s.words) else false)
      (lt_test j (length program.functions) there)
      (if_both (nat_lt 0 (length s.frames)) (nat_le depth (length s.words)) (lt_test 0 (length s.frames) (omega arith))
      (le_test depth (length s.words)
      (deep_enough below vars.locals temps arguments depth is)))) e l n
      (nat_le (depth + variables_at program j) program.profile.words) Quiet trace (λ reply rest. go rest) k
      refl refl
      (λ reply rest shorter.
      moves (done_with program reply s (Some (Fcall (callee.Function j))))
      (make (length base) (base ++ (own arguments ++ []))) (go rest) rest
      (ap (λ (l : List ℤ). make depth l) words ∙ ap (λ (home : ℕ). make home (base ++ (own arguments ++ []))) is)
      (next rest shorter))

  pub on_retsub : (f : Frame) (vars : Vars) (temps : List ℤ) (frames : ℕ) (x : ℤ) (trace : List ℤ)
      (go : List ℤ → EvaluationResult A) → instr_at program at ≡ Some Retsub → f.base ≡ length below →
      frames ≡ length (f ∷ fs) →
      Reaches trace go (back_with f below fs vars.externals x) →
      Follows e l n (tick (nat_lt 1 frames) Quiet trace (λ reply rest. go rest))
      (wants program (run at below (f ∷ fs) vars (temps ++ x ∷ [])) trace) k
  on_retsub f vars temps frames x trace go here base count next =
      let s = run at below (f ∷ fs) vars (temps ++ x ∷ []) in
      let make =
      λ (words : List ℤ). let t : Machine = record
      { at = f.back; home = f.home; words = words; frames = fs; externals = vars.externals } in t in
      ticks program s Retsub here (if_both (nat_lt 0 (length s.frames)) (nat_lt f.base (length s.words))
      (lt_test 0 (length s.frames) (omega arith))
      (lt_test f.base (length s.words)
      (omega (arith, base, length-words_of below vars.locals (temps ++ x ∷ []), length-append temps (x ∷ []))))) e l n
      (nat_lt 1 frames) Quiet trace (λ reply rest. go rest) k
      (ap (λ (m : ℕ). nat_lt 1 m) (sym count)) refl
      (λ reply rest shorter.
      moves (done_with program reply s (Some Retsub)) (back_with f below fs vars.externals x) (go rest) rest
      (ap (λ (y : ℤ). make (take f.base s.words ++ y ∷ [])) (top_one below vars.locals temps x)
      ∙ ap (λ (m : ℕ). make (take m s.words ++ x ∷ [])) base
      ∙ ap (λ (l : List ℤ). make (l ++ x ∷ [])) (take-append_seam below (vars.locals ++ (temps ++ x ∷ []))))
      (next rest shorter))

  -- main does not return
  pub on_retsub_of_main : (f : Frame) (vars : Vars) (temps : List ℤ) (frames : ℕ) (x : ℤ) (trace : List ℤ)
      (go : List ℤ → EvaluationResult A) → instr_at program at ≡ Some Retsub → f.base ≡ length below →
      frames ≡ length (f ∷ []) →
      Follows e l n (tick (nat_lt 1 frames) Quiet trace (λ reply rest. go rest))
      (wants program (run at below (f ∷ []) vars (temps ++ x ∷ [])) trace) k
  on_retsub_of_main f vars temps frames x trace go here base count =
      let s = run at below (f ∷ []) vars (temps ++ x ∷ []) in
      subst (λ (m : ℕ). Follows e l n (tick (nat_lt 1 m) Quiet trace (λ reply rest. go rest)) (wants program s trace) k)
      (sym count)
      (ticks_not program s Retsub here (if_both (nat_lt 0 (length s.frames)) (nat_lt f.base (length s.words))
      (lt_test 0 (length s.frames) (omega arith))
      (lt_test f.base (length s.words)
      (omega (arith, base, length-words_of below vars.locals (temps ++ x ∷ []), length-append temps (x ∷ []))))) e l
      n Quiet trace (λ reply rest. go rest) k refl)
