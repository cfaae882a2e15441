-- If two profiles have room for what trees need, what these want is the same.
use Rattle.std.specs.Prelude.{ℕ, ℤ, zero, suc, pos, ◌+◌, ◌≡◌, ◌<◌, ◌≤◌, List, [], ◌∷◌, Bool, true, false, Option, Some, None}
use Rattle.std.specs.Prelude.{length, nat_lt, nat_le, if◌then◌else◌}
use Rattle.std.proofs.Common.{refl, ap, sym, ◌∙◌, subst, arith}
use Rattle.std.proofs.lemmas.Bool.Decides.{nat_tests}
use Rattle.arith.specs.declared.operators.Op.{Op}
use Rattle.arith.specs.declared.operators.Op.TheVariants as op
use Rattle.arith.specs.Op.{holds, value_of}
use Rattle.grammar.specs.declared.resolved_names.Callee.{Callee}
use Rattle.grammar.specs.declared.resolved_names.Callee.TheVariants as callee
use Rattle.grammar.specs.Profile.{Profile}
use Rattle.grammar.specs.Tree.{Expr, Constant, Variable, Binary, Assign, Postfix, Call, Args, NoMore, Argument, Body}
use Rattle.grammar.specs.Tree.{Done, ExpressionStatement, IfStatement, IfElseStatement, While, Return, File}
use Rattle.code.specs.declared.want.Want.{Want}
use Rattle.code.specs.declared.want.Want.TheVariants.{Quiet, Restart}
use Rattle.code.specs.Functions.{function_at}
use Rattle.code.specs.Meaning.{Vars, EvaluationResult, Gives, Awaits, and_then, tick, Completion, Through, Returns, BodyMeaning}
use Rattle.code.specs.Meaning.{push, quiet_cycle, full, short, on_through, and_on, end_of_branch_or_iteration, end_of_function, returned, called}
use Rattle.code.specs.Meaning.{value, values, effect, effect_within, want, want_within, wanted}
use Rattle.room.specs.declared.room.Room.{Room}
use Rattle.room.specs.Rooms.{words, both, above, IsWithin}
use Rattle.room.specs.Constructs.{may_skip, binary_need, callee_need, expr_need, args_need, body_need}
use Rattle.room.specs.Functions.{function_need, need_of}
use Rattle.room.specs.Laws.{RoomIsEnough}
use Rattle.room.proofs.Fitting.{Fits, fits_left, fits_right, fits_above}

-- Evaluations that are the same.

same_and : {A B : Type 0} (x y : EvaluationResult A) (go on : A → Vars → List ℤ → EvaluationResult B) → x ≡ y →
    ((v : A) (vars : Vars) (rest : List ℤ) → go v vars rest ≡ on v vars rest) → and_then x go ≡ and_then y on
same_and {A = A} {B = B} x y go on same each = ap (λ z. and_then z go) same ∙ behind y
  where
    behind : (z : EvaluationResult A) → and_then z go ≡ and_then z on
    behind (Gives v vars rest) = each v vars rest
    behind (Awaits event) = refl

same_tick : {A : Type 0} (a b : Bool) (event : Want) (trace : List ℤ) (go on : ℤ → List ℤ → EvaluationResult A) →
    a ≡ b →
    ((reply : ℤ) (rest : List ℤ) → go reply rest ≡ on reply rest) → tick a event trace go ≡ tick b event trace on
same_tick {A = A} a b event trace go on same each = ap (λ t. tick t event trace go) same ∙ behind b trace
  where
    behind : (t : Bool) (trace : List ℤ) → tick t event trace go ≡ tick t event trace on
    behind false trace = refl
    behind true [] = refl
    behind true (reply ∷ rest) = each reply rest

same_pass : {A : Type 0} (trace : List ℤ) (go on : List ℤ → EvaluationResult A) →
    ((rest : List ℤ) → go rest ≡ on rest) → quiet_cycle trace go ≡ quiet_cycle trace on
same_pass trace go on each =
    same_tick true true Quiet trace (λ reply rest. go rest) (λ reply rest. on rest) refl (λ reply rest. each rest)

same_if : {A : Type 0} (b : Bool) (x y z w : A) → x ≡ y → z ≡ w → (if b then x else z) ≡ (if b then y else w)
same_if true x y z w first second = first
same_if false x y z w first second = second

same_on : (x y : EvaluationResult Completion) (go on : Vars → List ℤ → EvaluationResult Completion) → x ≡ y →
    ((vars : Vars) (rest : List ℤ) → go vars rest ≡ on vars rest) → and_on x go ≡ and_on y on
same_on x y go on same each =
    same_and x y (λ flow vars rest. on_through flow vars rest go) (λ flow vars rest. on_through flow vars rest on) same
    behind
  where
    behind : (flow : Completion) (vars : Vars) (rest : List ℤ) →
        on_through flow vars rest go ≡ on_through flow vars rest on
    behind Through vars rest = each vars rest
    behind (Returns x) vars rest = refl

same_full : (o : Op) (depth : ℕ) (x y : EvaluationResult ℤ) (go on : Vars → ℕ → List ℤ → EvaluationResult ℤ) → x ≡ y →
    ((vars : Vars) (rest : List ℤ) → go vars (depth + 1) rest ≡ on vars (depth + 1) rest) →
    full o depth x go ≡ full o depth y on
same_full o depth x y go on same each =
    same_and x y
    (λ a vars rest. and_then (go vars (depth + 1) rest)
    (λ b vars rest. quiet_cycle rest (λ rest. Gives (value_of o a b) vars rest)))
    (λ a vars rest. and_then (on vars (depth + 1) rest)
    (λ b vars rest. quiet_cycle rest (λ rest. Gives (value_of o a b) vars rest))) same
    (λ a vars rest. ap
    (λ z. and_then z (λ b vars rest. quiet_cycle rest (λ rest. Gives (value_of o a b) vars rest))) (each vars rest))

lt_test : (a b : ℕ) → a < b → nat_lt a b ≡ true
lt_test a b less = grind (arith, nat_tests)

le_test : (a b : ℕ) → a ≤ b → nat_le a b ≡ true
le_test a b less = grind (arith, nat_tests)

-- the profile gives these words and frames
pub record Grants (words frames : ℕ) (p : Profile) : Type 0 where
  pub words_are : words ≤ p.words
  pub frames_are : frames ≤ p.frames

module _ (w f : ℕ) (p q : Profile) (first : Grants w f p) (second : Grants w f q) where
  same_push : {A : Type 0} (depth : ℕ) (trace : List ℤ) (go on : List ℤ → EvaluationResult A) → depth < w →
      ((rest : List ℤ) → go rest ≡ on rest) → push p depth trace go ≡ push q depth trace on
  same_push depth trace go on deep each =
      same_tick (nat_lt depth p.words) (nat_lt depth q.words) Quiet trace (λ reply rest. go rest)
      (λ reply rest. on rest)
      (lt_test depth p.words (omega (arith, deep, first.words_are)) ∙
      sym (lt_test depth q.words (omega (arith, deep, second.words_are)))) (λ reply rest. each rest)

  same_over : (depth : ℕ) (trace : List ℤ) (go on : List ℤ → EvaluationResult Completion) → depth < w →
      ((rest : List ℤ) → go rest ≡ on rest) →
      end_of_branch_or_iteration p depth trace go ≡ end_of_branch_or_iteration q depth trace on
  same_over depth trace go on deep each =
      same_push depth trace (λ rest. quiet_cycle rest go) (λ rest. quiet_cycle rest on) deep
      (λ rest. same_pass rest go on each)

  same_closed : {A : Type 0} (depth frames : ℕ) (flow : Completion) (vars : Vars) (rest : List ℤ)
      (go : ℤ → Vars → List ℤ → EvaluationResult A) → depth < w →
      end_of_function p depth frames flow vars rest go ≡ end_of_function q depth frames flow vars rest go
  same_closed depth frames (Returns x) vars rest go deep = refl
  same_closed depth frames Through vars rest go deep =
      let last = λ (rest : List ℤ). tick (nat_lt 1 frames) Quiet rest (λ reply rest. go (pos 0) vars rest) in
      same_push depth rest last last deep (λ rest. refl)

  same_short : (o : Op) (depth frames : ℕ) (a b : Option Room) (x y : EvaluationResult ℤ)
      (go on : Vars → ℕ → List ℤ → EvaluationResult ℤ) → Fits w f depth frames (binary_need true o a b) → x ≡ y →
      ((d : ℕ) → Fits w f d frames b → (vars : Vars) (rest : List ℤ) → go vars d rest ≡ on vars d rest) →
      short p o depth x go ≡ short q o depth y on
  same_short op.And depth frames a b x y go on fits same each =
      let sides = fits_right w f depth frames a (both b (words 2)) fits in
      let right : Fits w f depth frames b = fits_left w f depth frames b (words 2) sides in
      let two : Fits w f depth frames (words 2) = fits_right w f depth frames b (words 2) sides in
      same_and x y _ _ same
      (λ v vars rest. same_pass rest _ _
      (λ rest. same_if (holds v) _ _ _ _
      (same_and _ _ _ _ (each depth right vars rest)
      (λ u vars rest. same_pass rest _ _
      (λ rest. same_push (depth + 1) rest _ _ (omega (arith, two.0)) (λ rest. refl))))
      (same_push depth rest _ _ (omega (arith, two.0)) (λ rest. refl))))
  same_short op.Or depth frames a b x y go on fits same each =
      let sides = fits_right w f depth frames a (both b (words 2)) fits in
      let right : Fits w f depth frames b = fits_left w f depth frames b (words 2) sides in
      let two : Fits w f depth frames (words 2) = fits_right w f depth frames b (words 2) sides in
      same_and x y _ _ same
      (λ v vars rest. same_pass rest _ _
      (λ rest. same_if (holds v) _ _ _ _
      (same_push depth rest _ _ (omega (arith, two.0))
      (λ rest. same_push (depth + 1) rest _ _ (omega (arith, two.0)) (λ rest. refl)))
      (same_and _ _ _ _ (each depth right vars rest) (λ u vars rest. refl))))
  same_short o depth frames a b x y go on fits same each =
      same_full o depth x y go on same
      (each (depth + 1)
      (fits_above w f depth frames 1 0 (depth + 1) frames b refl (omega arith)
      (fits_right w f depth frames a (above 1 0 b) fits)))

  same_binary : (o : Op) (s : Bool) (depth frames : ℕ) (a b : Option Room) (x y : EvaluationResult ℤ)
      (go on : Vars → ℕ → List ℤ → EvaluationResult ℤ) → Fits w f depth frames (binary_need s o a b) → x ≡ y →
      ((d : ℕ) → Fits w f d frames b → (vars : Vars) (rest : List ℤ) → go vars d rest ≡ on vars d rest) →
      (if s then short p o depth x go else full o depth x go) ≡ (if s then short q o depth y on else full o depth y on)
  same_binary o true depth frames a b x y go on fits same each =
      same_short o depth frames a b x y go on fits same each
  same_binary o false depth frames a b x y go on fits same each =
      same_full o depth x y go on same
      (each (depth + 1)
      (fits_above w f depth frames 1 0 (depth + 1) frames b refl (omega arith)
      (fits_right w f depth frames a (above 1 0 b) fits)))

  fits_first : (s : Bool) (o : Op) (depth frames : ℕ) (a b : Option Room) →
      Fits w f depth frames (binary_need s o a b) → Fits w f depth frames a
  fits_first s o depth frames a b fits = by (may_skip s o) fits
    where
      by : (t : Bool) → Fits w f depth frames (if t then both a (both b (words 2)) else both a (above 1 0 b)) →
          Fits w f depth frames a
      by true fits = fits_left w f depth frames a (both b (words 2)) fits
      by false fits = fits_left w f depth frames a (above 1 0 b) fits

  open_frame : (depth frames : ℕ) (a : Option Room) → Fits w f depth frames (above 0 1 a) → frames < f
  open_frame depth frames None fits = absurd fits
  open_frame depth frames (Some a) fits = omega (arith, fits.1)

  -- Trees whose profiles leave out right sides alike, if calls and further turns want the same.
  module _ (file : File) (s : Bool) (left : p.short_circuit ≡ s) (right : q.short_circuit ≡ s)
      (calls : ℕ → Option Room) (again more : BodyMeaning)
      (same_call : (k : ℕ) (arguments : List ℤ) (vars : Vars) (depth frames : ℕ) (trace : List ℤ) →
      Fits w f depth frames (calls k) →
      called p file again (callee.Function k) arguments vars depth frames trace ≡
      called q file more (callee.Function k) arguments vars depth frames trace)
      (same_again : (body : Body) (vars : Vars) (depth frames : ℕ) (trace : List ℤ) →
      Fits w f depth frames (body_need s calls body) →
      again body vars depth frames trace ≡ more body vars depth frames trace) where
    same_called : (g : Callee) (arguments : List ℤ) (vars : Vars) (depth frames : ℕ) (trace : List ℤ) →
        Fits w f depth frames (callee_need calls g) →
        called p file again g arguments vars depth frames trace ≡ called q file more g arguments vars depth frames trace
    same_called (callee.Function k) arguments vars depth frames trace fits =
        same_call k arguments vars depth frames trace fits
    same_called (callee.Intrinsic i) arguments vars depth frames trace fits =
        same_tick (nat_le (depth + 1) p.words) (nat_le (depth + 1) q.words) _ trace
        (λ reply rest. Gives reply vars rest)
        (λ reply rest. Gives reply vars rest)
        (le_test (depth + 1) p.words (omega (arith, fits.0, first.words_are)) ∙
        sym (le_test (depth + 1) q.words (omega (arith, fits.0, second.words_are)))) (λ reply rest. refl)

    mutual
      same_value : (e : Expr) (vars : Vars) (depth frames : ℕ) (trace : List ℤ) →
          Fits w f depth frames (expr_need s calls e) →
          value p file again e vars depth frames trace ≡ value q file more e vars depth frames trace
      same_value (Constant n) vars depth frames trace fits =
          same_push depth trace (λ rest. Gives n vars rest) (λ rest. Gives n vars rest) (omega (arith, fits.0))
          (λ rest. refl)
      same_value (Variable v) vars depth frames trace fits =
          same_push depth trace _ _ (omega (arith, fits.0)) (λ rest. refl)
      same_value (Binary o a b) vars depth frames trace fits =
          let go = λ (vars : Vars) (d : ℕ) (rest : List ℤ). value p file again b vars d frames rest in
          let on = λ (vars : Vars) (d : ℕ) (rest : List ℤ). value q file more b vars d frames rest in
          let x = value p file again a vars depth frames trace in
          let y = value q file more a vars depth frames trace in
          let need = fits_first s o depth frames (expr_need s calls a) (expr_need s calls b) fits in
          ap (λ (t : Bool). if t then short p o depth x go else full o depth x go) left
          ∙
          same_binary o s depth frames (expr_need s calls a) (expr_need s calls b) x y go on fits
          (same_value a vars depth frames trace need)
          (λ d fits vars rest. same_value b vars d frames rest fits)
          ∙ ap (λ (t : Bool). if t then short q o depth y on else full o depth y on) (sym right)
      same_value (Assign o v e) vars depth frames trace fits =
          same_and _ _ _ _ (same_value e vars depth frames trace fits) (λ x vars rest. refl)
      same_value (Postfix o v) vars depth frames trace fits =
          same_push depth trace _ _ (omega (arith, fits.0))
          (λ rest. same_push (depth + 1) rest _ _ (omega (arith, fits.0)) (λ rest. refl))
      same_value (Call g arguments) vars depth frames trace fits =
          let inside =
          fits_left w f depth frames (above 0 1 (args_need s calls arguments)) (callee_need calls g) fits in
          let room_left = open_frame depth frames (args_need s calls arguments) inside in
          same_tick (nat_lt frames p.frames) (nat_lt frames q.frames) Quiet trace _ _
          (lt_test frames p.frames (omega (arith, room_left, first.frames_are)) ∙
          sym (lt_test frames q.frames (omega (arith, room_left, second.frames_are))))
          (λ reply rest. same_and _ _ _ _
          (same_values arguments vars depth (frames + 1) rest
          (fits_above w f depth frames 0 1 depth (frames + 1) (args_need s calls arguments) (omega arith) refl inside))
          (λ xs vars rest. same_called g xs vars depth frames rest
          (fits_right w f depth frames (above 0 1 (args_need s calls arguments)) (callee_need calls g) fits)))

      same_values : (arguments : Args) (vars : Vars) (depth frames : ℕ) (trace : List ℤ) →
          Fits w f depth frames (args_need s calls arguments) →
          values p file again arguments vars depth frames trace ≡ values q file more arguments vars depth frames trace
      same_values NoMore vars depth frames trace fits = refl
      same_values (Argument e rest) vars depth frames trace fits =
          same_and _ _ _ _
          (same_value e vars depth frames trace
          (fits_left w f depth frames (expr_need s calls e) (above 1 0 (args_need s calls rest)) fits))
          (λ x vars later. same_and _ _ _ _
          (same_values rest vars (depth + 1) frames later
          (fits_above w f depth frames 1 0 (depth + 1) frames (args_need s calls rest) refl (omega arith)
          (fits_right w f depth frames (expr_need s calls e) (above 1 0 (args_need s calls rest)) fits)))
          (λ xs vars rest. refl))

    same_effect : (body : Body) (vars : Vars) (depth frames : ℕ) (trace : List ℤ) →
        Fits w f depth frames (body_need s calls body) →
        effect p file again body vars depth frames trace ≡ effect q file more body vars depth frames trace
    same_effect Done vars depth frames trace fits = refl
    same_effect (ExpressionStatement e next) vars depth frames trace fits =
        let here = fits_left w f depth frames (expr_need s calls e) (body_need s calls next) fits in
        let behind = fits_right w f depth frames (expr_need s calls e) (body_need s calls next) fits in
        same_and _ _ _ _ (same_value e vars depth frames trace here)
        (λ x vars rest. same_pass rest _ _ (λ rest. same_effect next vars depth frames rest behind))
    same_effect (IfStatement c t next) vars depth frames trace fits =
        let here = fits_left w f depth frames (expr_need s calls c)
        (both (body_need s calls t) (body_need s calls next)) fits in
        let parts = fits_right w f depth frames (expr_need s calls c)
        (both (body_need s calls t) (body_need s calls next)) fits in
        let branch = fits_left w f depth frames (body_need s calls t) (body_need s calls next) parts in
        let behind = fits_right w f depth frames (body_need s calls t) (body_need s calls next) parts in
        same_and _ _ _ _ (same_value c vars depth frames trace here)
        (λ x vars rest. same_pass rest _ _
        (λ rest. same_if (holds x) _ _ _ _
        (same_on _ _ _ _ (same_effect t vars depth frames rest branch)
        (λ vars rest. same_effect next vars depth frames rest behind))
        (same_effect next vars depth frames rest behind)))
    same_effect (IfElseStatement c t u next) vars depth frames trace fits =
        let one = both (body_need s calls t) (words 1) in
        let other = both (body_need s calls u) (body_need s calls next) in
        let here = fits_left w f depth frames (expr_need s calls c) (both one other) fits in
        let parts = fits_right w f depth frames (expr_need s calls c) (both one other) fits in
        let first_part = fits_left w f depth frames one other parts in
        let second_part = fits_right w f depth frames one other parts in
        let branch = fits_left w f depth frames (body_need s calls t) (words 1) first_part in
        let end : Fits w f depth frames (words 1) =
        fits_right w f depth frames (body_need s calls t) (words 1) first_part in
        let second_branch = fits_left w f depth frames (body_need s calls u) (body_need s calls next) second_part in
        let behind = fits_right w f depth frames (body_need s calls u) (body_need s calls next) second_part in
        same_and _ _ _ _ (same_value c vars depth frames trace here)
        (λ x vars rest. same_pass rest _ _
        (λ rest. same_if (holds x) _ _ _ _
        (same_on _ _ _ _ (same_effect t vars depth frames rest branch)
        (λ vars rest. same_over depth rest _ _ (omega (arith, end.0))
        (λ rest. same_effect next vars depth frames rest behind)))
        (same_on _ _ _ _ (same_effect u vars depth frames rest second_branch)
        (λ vars rest. same_effect next vars depth frames rest behind))))
    same_effect (While c t next) vars depth frames trace fits =
        let one = both (body_need s calls t) (words 1) in
        let here = fits_left w f depth frames (expr_need s calls c) (both one (body_need s calls next)) fits in
        let parts = fits_right w f depth frames (expr_need s calls c) (both one (body_need s calls next)) fits in
        let first_part = fits_left w f depth frames one (body_need s calls next) parts in
        let behind = fits_right w f depth frames one (body_need s calls next) parts in
        let turn = fits_left w f depth frames (body_need s calls t) (words 1) first_part in
        let end : Fits w f depth frames (words 1) =
        fits_right w f depth frames (body_need s calls t) (words 1) first_part in
        same_and _ _ _ _ (same_value c vars depth frames trace here)
        (λ x vars rest. same_pass rest _ _
        (λ rest. same_if (holds x) _ _ _ _
        (same_on _ _ _ _ (same_effect t vars depth frames rest turn)
        (λ vars rest. same_over depth rest _ _ (omega (arith, end.0))
        (λ rest. same_again (While c t next) vars depth frames rest fits)))
        (same_effect next vars depth frames rest behind)))
    same_effect (Return e next) vars depth frames trace fits =
        same_and _ _ _ _ (same_value e vars depth frames trace fits) (λ x vars rest. refl)

  -- a call of a function, if its body wants the same within any bound of calls
  same_function : (file : File) (s : Bool) (again more : BodyMeaning) →
      ((m : ℕ) (body : Body) (vars : Vars) (depth frames : ℕ) (trace : List ℤ) →
      Fits w f depth frames (body_need s (function_need s file m) body) →
      again body vars depth frames trace ≡ more body vars depth frames trace) →
      (m k : ℕ) (arguments : List ℤ) (vars : Vars) (depth frames : ℕ) (trace : List ℤ) →
      Fits w f depth frames (function_need s file m k) →
      called p file again (callee.Function k) arguments vars depth frames trace ≡
      called q file more (callee.Function k) arguments vars depth frames trace
  same_function file s again more same zero k arguments vars depth frames trace fits = absurd fits
  same_function file s again more same (suc m) k arguments vars depth frames trace fits =
      let g = function_at file k in
      let v = length g.variables in
      let body = body_need s (function_need s file m) g.body in
      let inside = fits_above w f depth frames v 1 (depth + v) (frames + 1) (both (words 1) body) refl refl fits in
      let one : Fits w f (depth + v) (frames + 1) (words 1) =
      fits_left w f (depth + v) (frames + 1) (words 1) body inside in
      let in_body = fits_right w f (depth + v) (frames + 1) (words 1) body inside in
      same_tick (nat_le (depth + v) p.words) (nat_le (depth + v) q.words) Quiet trace _ _
      (le_test (depth + v) p.words (omega (arith, one.0, first.words_are)) ∙
      sym (le_test (depth + v) q.words (omega (arith, one.0, second.words_are))))
      (λ reply rest. same_and _ _ _ _ (same m g.body _ (depth + v) (frames + 1) rest in_body)
      (λ flow after rest. same_closed (depth + v) (frames + 1) flow after rest (returned vars) (omega (arith, one.0))))

  -- with at most n turns and calls inside one another, and functions within any bound of calls
  same_within : (file : File) (s : Bool) → p.short_circuit ≡ s → q.short_circuit ≡ s →
      (n m : ℕ) (body : Body) (vars : Vars) (depth frames : ℕ) (trace : List ℤ) →
      Fits w f depth frames (body_need s (function_need s file m) body) →
      effect_within p file n body vars depth frames trace ≡ effect_within q file n body vars depth frames trace
  same_within file s left right zero m body vars depth frames trace fits = refl
  same_within file s left right (suc n) m body vars depth frames trace fits =
      same_effect file s left right (function_need s file m) (effect_within p file n) (effect_within q file n)
      (same_function file s (effect_within p file n) (effect_within q file n) (same_within file s left right n) m)
      (same_within file s left right n m) body vars depth frames trace fits

  same_run : (file : File) (s : Bool) → p.short_circuit ≡ s → q.short_circuit ≡ s → (n m : ℕ) (trace : List ℤ) →
      Fits w f 0 0 (function_need s file m file.main) → want_within p file n trace ≡ want_within q file n trace
  same_run file s left right n zero trace fits = absurd fits
  same_run file s left right n (suc m) trace fits =
      let g = function_at file file.main in
      let v = length g.variables in
      let body = body_need s (function_need s file m) g.body in
      let inside = fits_above w f 0 0 v 1 v 1 (both (words 1) body) (omega arith) refl fits in
      let one : Fits w f v 1 (words 1) = fits_left w f v 1 (words 1) body inside in
      let in_body = fits_right w f v 1 (words 1) body inside in
      ap wanted
      (same_and _ _ _ _ (same_within file s left right n m g.body _ v 1 trace in_body)
      (λ flow vars rest. same_closed v 1 flow vars rest (λ x vars rest. Awaits Restart) (omega (arith, one.0))))

-- a file that has room in both wants the same in both
pub room_is_enough : RoomIsEnough
room_is_enough p q file alike first second trace = by (need_of p file) refl first in_second
  where
    in_second : IsWithin q.words q.frames (need_of p file)
    in_second =
        subst (λ (s : Bool). IsWithin q.words q.frames (function_need s file (length file.order) file.main)) (sym alike)
        second

    by : (need : Option Room) → need_of p file ≡ need → IsWithin p.words p.frames need →
        IsWithin q.words q.frames need → want p file trace ≡ want q file trace
    by None is in_p in_q = absurd in_p
    by (Some r) is in_p in_q =
        same_run r.words r.frames p q (record { words_are = in_p.0; frames_are = in_p.1 })
        (record { words_are = in_q.0; frames_are = in_q.1 }) file p.short_circuit refl (sym alike)
        (suc (length trace)) (length file.order) trace
        (subst (λ (a : Option Room). IsWithin r.words r.frames (above 0 0 a)) (sym is) (omega arith, omega arith))
