-- The instructions of a file want what its trees want.
use Rattle.std.specs.Prelude.{ℕ, ℤ, pos, zero, suc, ◌+◌, ◌≡◌, List, [], ◌∷◌, ◌++◌, Bool, true, false, Option, Some, None, length, nat_lt, ◌==◌, slice_get, unwrap_or, ◌<◌, if◌then◌else◌}
use Rattle.std.proofs.Common.{refl, sym, ap, ◌∙◌, subst, arith, inl, inr, length-append, append_assoc, zero-add}
use Rattle.std.proofs.lemmas.List.{length-replicate, length-map, append-nil}
use Rattle.std.proofs.lemmas.List.FromFn.{get_or-map-range_with_len}
use Rattle.std.proofs.lemmas.Option.{slice_get-get_or}
use Rattle.std.proofs.lemmas.Bool.Decides.{nat_tests}
use Rattle.std.proofs.Math.ListN.{get_or-map}
use Rattle.std.proofs.Math.Seq.{get_or-append_seam}
use Rattle.grammar.specs.Pools.{pools_of, names_of_function}
use Rattle.grammar.specs.Profile.{Profile}
use Rattle.grammar.specs.Tree.{Expr, Constant, Variable, Binary, Assign, Postfix, Call, Args, NoMore, Argument, Body, Done, ExpressionStatement, IfStatement, IfElseStatement, While, Return, Function, File}
use Rattle.code.specs.Functions.{function_at, no_function}
use Rattle.code.specs.declared.instr.Instr.{Instr}
use Rattle.code.specs.declared.instr.Instr.TheVariants.{Const, Retsub, Nop}
use Rattle.code.specs.declared.want.Want.{Want}
use Rattle.code.specs.declared.want.Want.TheVariants.{Quiet, Restart}
use Rattle.code.specs.declared.counts.FunctionCounts.{FunctionCounts}
use Rattle.code.specs.Generation.{Program, counts_of, expr_code, args_code, body_code, function_code, functions_code, last_return_code, address_in, code_of}
use Rattle.code.specs.Machine.{Machine, instr_at, address_at, counts_at, first_frame, started_machine, want_next, reached, is_ready, want_code}
use Rattle.code.specs.Meaning.{Vars, EvaluationResult, Gives, Awaits, Completion, Through, Returns, BodyMeaning, and_then, tick, end_of_function, wanted, zeros, value, values, effect, effect_within, want_within, want}
use Rattle.grammar.specs.Resolved.{IsAmong, IsResolved, InExpr, InArgs, InBody}
use Rattle.code.proofs.Follows.{Follows, follows_longer, chain, shown, wants}
use Rattle.code.proofs.Instructions.{run, IsDepth, on_const, on_retsub_of_main}
use Rattle.code.proofs.Pieces.{StandsAt, stands_both, stands, Tied, flown, Evaluates, EvaluatesAll, Effects}
use Rattle.code.proofs.Expressions.{const_law, fetch_law, binary_law, assign_law, postfix_law, no_more_law, argument_law}
use Rattle.code.proofs.Calls.{Holds, Follows_sooner, call_law}
use Rattle.code.proofs.Statements.{done_law, alone_law, when_law, choose_law, while_law, return_law}

module _ (program : Program) (file : File) (n : ℕ) (again : BodyMeaning) (holds : Holds program file)
    (sooner : Follows_sooner program file n again) (l : ℕ) where
  abbrev e : ℕ
  e = length file.externals

  mutual
    value_law : (x : Expr) → InExpr e l (length file.functions) x →
        Evaluates program e l n (expr_code program.profile x)
        (value program.profile file again x)
    value_law (Constant x) r = const_law program e l n x
    value_law (Variable v) r = fetch_law program e l n v r
    value_law (Binary o a b) r =
        binary_law program e l n o (expr_code program.profile a) (expr_code program.profile b)
        (value program.profile file again a) (value program.profile file again b) (value_law a r.0) (value_law b r.1)
    value_law (Assign o v a) r =
        assign_law program e l n o v (expr_code program.profile a)
        (value program.profile file again a) r.0 (value_law a r.1)
    value_law (Postfix o v) r = postfix_law program e l n o v r
    value_law (Call f xs) r =
        call_law program file l n again holds sooner f r.0 (args_code program.profile xs)
        (values program.profile file again xs) (values_law xs r.1)

    values_law : (xs : Args) → InArgs e l (length file.functions) xs →
        EvaluatesAll program e l n (args_code program.profile xs)
        (values program.profile file again xs)
    values_law NoMore r = no_more_law program e l n
    values_law (Argument a xs) r =
        argument_law program e l n (expr_code program.profile a) (args_code program.profile xs)
        (value program.profile file again a) (values program.profile file again xs)
        (value_law a r.0) (values_law xs r.1)

  effect_law : (b : Body) → InBody e l (length file.functions) b →
      Effects program e l n (body_code program.profile b)
      (effect program.profile file again b)
  effect_law Done r = done_law program e l n
  effect_law (ExpressionStatement a next) r =
      alone_law program e l n (expr_code program.profile a) (body_code program.profile next)
      (value program.profile file again a) (effect program.profile file again next) (value_law a r.0)
      (effect_law next r.1)
  effect_law (IfStatement c s next) r =
      when_law program e l n (expr_code program.profile c) (body_code program.profile s)
      (body_code program.profile next) (value program.profile file again c) (effect program.profile file again s)
      (effect program.profile file again next) (value_law c r.0) (effect_law s r.1) (effect_law next r.2)
  effect_law (IfElseStatement c s t next) r =
      choose_law program e l n (expr_code program.profile c) (body_code program.profile s) (body_code program.profile t)
      (body_code program.profile next) (value program.profile file again c) (effect program.profile file again s)
      (effect program.profile file again t) (effect program.profile file again next)
      (value_law c r.0) (effect_law s r.1) (effect_law t r.2) (effect_law next r.3)
  effect_law (While c s next) r =
      while_law program e l n (expr_code program.profile c) (body_code program.profile s)
      (body_code program.profile next) (value program.profile file again c) (effect program.profile file again s)
      (effect program.profile file again next) (again (While c s next))
      (value_law c r.0) (effect_law s r.1) (effect_law next r.2) (sooner l (While c s next) r)
  effect_law (Return a next) r =
      return_law program e l n (expr_code program.profile a) (body_code program.profile next)
      (value program.profile file again a) (value_law a r.0)

-- At each bound, along as many replies as the bound allows.
pub bounded : (program : Program) (file : File) → Holds program file → (n : ℕ) →
    Follows_sooner program file n (effect_within program.profile file n)
bounded program file holds zero l b r below f fs at vars depth frames trace base t short s =
    absurd (omega (arith, short))
bounded program file holds (suc n) l b r below f fs at vars depth frames trace base t short s =
    let e = length file.externals in
    let again = effect_within program.profile file n in
    let tied : Tied e l n below (f ∷ fs) vars [] depth frames trace = record {
      sizes = t.sizes;
      deep = t.deep;
      count = t.count;
      inside = t.inside;
      short = omega (arith, short);
    } in
    follows_longer e l n (effect program.profile file again b vars depth frames trace)
    (wants program (run at below (f ∷ fs) vars []) trace)
    (flown program (at + length (body_code program.profile b at)) below f fs)
    (effect_law program file n again holds (bounded program file holds n) l b r below f fs at vars depth frames trace
    base
    tied s)

-- the part of a list after another part is there
stands_behind : (program : Program) (front xs : List Instr) → program.instructions ≡ front ++ xs →
    StandsAt program (length front) xs
stands_behind program front [] e = tt
stands_behind program front (x ∷ xs) e =
    let whole : program.instructions ≡ (front ++ x ∷ []) ++ xs = e ∙ sym (append_assoc front (x ∷ []) xs) in
    let here : instr_at program (length front) ≡ Some x =
    ap (λ (is : List Instr). slice_get is (length front)) e
    ∙ slice_get-get_or (front ++ x ∷ xs) (length front) x (omega (arith, length-append front (x ∷ xs)))
    ∙ ap (λ (i : Instr). Some i) (get_or-append_seam front x xs x)
    in
    let next : length (front ++ x ∷ []) ≡ length front + 1 = length-append front (x ∷ []) in
    (here, subst (λ (at : ℕ). StandsAt program at xs) next (stands_behind program (front ++ x ∷ []) xs whole))

module _ (p : Profile) (file : File) where
  -- each function of the order is at its address
  abbrev IsPlaced : ℕ → ℕ → Type 0
  IsPlaced k at = StandsAt (code_of p file) at (function_code p (function_at file k) at)

  placed_if : (k n at next : ℕ) → IsPlaced n at → ((k ≡ n → ⊥) → IsPlaced k next) → (b : Bool) → (k == n) ≡ b →
      IsPlaced k (if b then at else next)
  placed_if k n at next first rest true test =
      let same : n ≡ k = grind (arith, nat_tests, test) in
      subst (λ (m : ℕ). StandsAt (code_of p file) at (function_code p (function_at file m) at)) same first
  placed_if k n at next first rest false test = rest (λ same. absurd (grind (arith, nat_tests, test, same)))

  placed_in : (k : ℕ) (order : List ℕ) (at : ℕ) → StandsAt (code_of p file) at (functions_code p file order at) →
      IsAmong k order → IsPlaced k (address_in p file k order at)
  placed_in k [] at s here = absurd here
  placed_in k (n ∷ order) at s here =
      let behind = at + length (function_code p (function_at file n) at) in
      let both = stands (code_of p file) at (function_code p (function_at file n)) (functions_code p file order) s in
      placed_if k n at (address_in p file k order behind) both.first
      (λ other. placed_in k order behind both.second (elim here [ inl same ↦ absurd (other same) | inr later ↦ later ]))
      (k == n) refl

  -- the counts of each function
  counts_of_file : (k : ℕ) → counts_at (code_of p file) k ≡ counts_of (names_of_function (function_at file k))
  counts_of_file k =
      get_or-map counts_of (pools_of file).functions k (names_of_function no_function)
      ∙ ap counts_of (get_or-map names_of_function file.functions k no_function)

  holds : IsResolved file → Holds (code_of p file) file
  holds r = record {
    placed = λ k defined.
        let whole = stands_behind (code_of p file) [] (functions_code p file file.order 0 ++ Nop ∷ []) refl in
        let both = stands_both (code_of p file) 0 (functions_code p file file.order 0) (Nop ∷ []) whole in
        let registers : address_at (code_of p file) k ≡ address_in p file k file.order 0 =
        get_or-map-range_with_len (λ k. address_in p file k file.order 0) 0 (length file.functions) k k 0 defined
        (zero-add k)
        in
        subst (λ (at : ℕ). StandsAt (code_of p file) at (function_code p (function_at file k) at)) (sym registers)
        (placed_in k file.order 0 both.first (r.defined k defined));
    counted = λ k defined. counts_of_file k;
    among =
        λ k defined. omega
        (arith, defined, length-map file.functions names_of_function, length-map (pools_of file).functions counts_of);
    resolved = λ k defined. r.each k (function_at file k) (slice_get-get_or file.functions k no_function defined);
  }

  -- a robot starts in main, with all variables 0
  abbrev main : Function
  main = function_at file file.main

  abbrev first_vars : Vars
  first_vars = record { externals = zeros (length file.externals); locals = zeros (length main.variables) }

  start_is : started_machine (code_of p file) ≡
      run (address_at (code_of p file) file.main) [] (first_frame ∷ []) first_vars []
  start_is =
      let make =
      λ (words : List ℤ). let s : Machine = record {
        at = address_at (code_of p file) file.main;
        home = 0;
        words = words;
        frames = first_frame ∷ [];
        externals = zeros (length file.externals);
      } in s in
      ap (λ (counts : FunctionCounts). make (zeros counts.variables)) (counts_of_file file.main) ∙
      ap make (sym (append-nil (zeros (length main.variables))))

  -- what an evaluation of main wants
  read_off : (e l n : ℕ) (o : EvaluationResult ℤ) (w : Option Want) → Follows e l n o w (λ x vars rest. Some Restart) →
      w ≡ Some (wanted o)
  read_off e l n (Gives x vars rest) w f = f.same
  read_off e l n (Awaits event) w f = f

  -- main does not end
  main_law : (n : ℕ) (o : EvaluationResult Completion) (w : Option Want) (at : ℕ) →
      StandsAt (code_of p file) at (Const (pos 0) ∷ Retsub ∷ []) →
      Follows (length file.externals) (length main.variables) n o w (flown (code_of p file) at [] first_frame []) →
      w ≡
      Some
      (wanted
      (and_then o
      (λ flow vars rest. end_of_function p (length main.variables) 1 flow vars rest (λ x vars rest. Awaits Restart))))
  main_law n o w at s f =
      let program = code_of p file in
      let e = length file.externals in
      let l = length main.variables in
      let k = λ (x : ℤ) (vars : Vars) (rest : List ℤ). Some Restart in
      let deep : IsDepth l [] [] l = record { is = omega arith } in
      let end =
      λ (flow : Completion) (vars : Vars) (rest : List ℤ). end_of_function p {A = ℤ} l 1 flow vars rest
      (λ x vars rest. Awaits Restart) in
      read_off e l n (and_then o end) w
      (chain e l e l n o w (flown program at [] first_frame []) end k f
      (λ flow vars rest sizes short.
      elim flow as
      (λ (flow : Completion). Follows e l n (end flow vars rest)
      (flown program at [] first_frame [] flow vars rest) k) [
        | Through ↦
            on_const program e l n [] (first_frame ∷ []) at k l vars [] l (pos 0) rest
            (λ rest. tick (nat_lt 1 1) Quiet rest (λ reply rest. Awaits Restart)) s.0 sizes deep
            (λ r1 h1. on_retsub_of_main program e l n [] [] (at + 1) k first_frame vars [] 1 (pos 0) r1
            (λ rest. Awaits Restart) s.1.0 refl refl)
        | Returns x ↦ refl
      ]))

-- Along all replies a resolved file's instructions find what they take, and want what its trees want. The bound allows
-- more turns and calls than there are replies.
shown_within : (p : Profile) (file : File) → IsResolved file → (n : ℕ) (trace : List ℤ) → length trace < n →
    wants (code_of p file) (started_machine (code_of p file)) trace ≡ Some (want_within p file n trace)
shown_within p file r n trace enough =
    let program = code_of p file in
    let f = main p file in
    let e = length file.externals in
    let l = length f.variables in
    let start = address_at program file.main in
    let vars = first_vars p file in
    let known = holds p file r in
    let both = stands program start (body_code p f.body) last_return_code (known.placed file.main r.main) in
    let tied : Tied e l n [] (first_frame ∷ []) vars [] l 1 trace = record {
      sizes = record { externals_are = length-replicate e (pos 0); locals_are = length-replicate l (pos 0) };
      deep = record { is = omega arith };
      count = refl;
      inside = omega arith;
      short = omega (arith, enough);
    } in
    ap (λ (s : Machine). wants program s trace) (start_is p file)
    ∙
    main_law p file n (effect_within p file n f.body vars l 1 trace)
    (wants program (run start [] (first_frame ∷ []) vars []) trace) (start + length (body_code p f.body start))
    both.second
    (bounded program file known n l f.body (known.resolved file.main r.main).body [] first_frame [] start vars l 1 trace
    refl tied (omega (arith, enough)) both.first)

pub shown_is_want : (p : Profile) (file : File) → IsResolved file → (trace : List ℤ) →
    wants (code_of p file) (started_machine (code_of p file)) trace ≡ Some (want p file trace)
shown_is_want p file r trace = shown_within p file r (suc (length trace)) trace (omega arith)

-- more turns and calls than there are replies change nothing
pub more_turns : (p : Profile) (file : File) → IsResolved file → (trace : List ℤ) (n : ℕ) → length trace < n →
    want_within p file n trace ≡ want p file trace
more_turns p file r trace n enough =
    ap (λ (shown : Option Want). unwrap_or shown Restart)
    (sym (shown_within p file r n trace enough) ∙ shown_is_want p file r trace)

shown_if : (b : Bool) (v w : Want) → (if b then Some v else None) ≡ Some w → (v ≡ w) × (b ≡ true)
shown_if true v w e = (cc, refl)
shown_if false v w e = (cc, cc)

-- what is shown is wanted, and the instruction is ready
shown_ready : (program : Program) (s : Machine) (w : Want) → shown program s ≡ Some w →
    (want_next program s ≡ w) × (is_ready program s (instr_at program s.at) ≡ true)
shown_ready program s w e = shown_if (is_ready program s (instr_at program s.at)) (want_next program s) w e

pub want_code_is_want : (p : Profile) (file : File) → IsResolved file → (trace : List ℤ) →
    want_code (code_of p file) trace ≡ want p file trace
unfolding wants
want_code_is_want p file r trace =
    (shown_ready (code_of p file) (reached (code_of p file) (started_machine (code_of p file)) trace)
    (want p file trace)
    (shown_is_want p file r trace)).0

-- no instruction lacks what it takes
pub never_stuck : (p : Profile) (file : File) → IsResolved file → (trace : List ℤ) → let s =
    reached (code_of p file) (started_machine (code_of p file)) trace in is_ready (code_of p file) s
    (instr_at (code_of p file) s.at) ≡ true
unfolding wants
never_stuck p file r trace =
    (shown_ready (code_of p file) (reached (code_of p file) (started_machine (code_of p file)) trace)
    (want p file trace)
    (shown_is_want p file r trace)).1
