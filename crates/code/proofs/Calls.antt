-- Calls follow their meaning, if the body of the function called does.
use Rattle.std.specs.Prelude.{ℕ, ℤ, pos, suc, ◌+◌, ◌-◌, ◌≡◌, ◌<◌, ◌≤◌, List, [], ◌∷◌, ◌++◌, Bool, true, false, Option, Some, length, map, take, replicate, get_or, nat_lt, nat_le, if◌then◌else◌}
use Rattle.std.proofs.Common.{refl, sym, ap, ◌∙◌, subst, arith, min, zero-add, length-append, length-take}
use Rattle.std.proofs.lemmas.Bool.Decides.{nat_tests}
use Rattle.std.proofs.lemmas.List.{length-replicate, get_or-replicate, get_or_past, get_or-take, ext_get_or}
use Rattle.std.proofs.lemmas.List.FromFn.{get_or-map-range_with_len, length-map-range_with_len}
use Rattle.std.proofs.Math.ListN.{get_or-append}
use Rattle.std.proofs.Math.Seq.{get_or-append_right}
use Rattle.std.specs.List.{range_with_len}
use Rattle.grammar.specs.declared.resolved_names.Callee.{Callee}
use Rattle.grammar.specs.declared.resolved_names.Callee.TheVariants as callee
use Rattle.grammar.specs.Pools.{names_of_function}
use Rattle.grammar.specs.Tree.{Body, Function, File}
use Rattle.code.specs.Functions.{function_at}
use Rattle.code.specs.declared.counts.FunctionCounts.{FunctionCounts}
use Rattle.code.specs.declared.instr.Instr.TheVariants.{Fcall, Const, Retsub}
use Rattle.code.specs.declared.instr.Instr.TheVariants as instr
use Rattle.code.specs.declared.want.Want.{Want}
use Rattle.code.specs.declared.want.Want.TheVariants.{Quiet}
use Rattle.code.specs.Generation.{Program, CodeAt, ◌⨾◌, only, body_code, counts_of, function_code, last_return_code}
use Rattle.code.specs.declared.frame.Frame.{Frame}
use Rattle.code.specs.Machine.{instr_at, address_at, counts_at, parameters_at, variables_at, variables_of}
use Rattle.code.specs.Meaning.{Vars, EvaluationResult, Gives, Completion, Through, Returns, BodyMeaning, and_then, tick, end_of_function, returned, called, first_locals}
use Rattle.grammar.specs.Resolved.{IsCallable, InBody, FitsFile}
use Rattle.code.proofs.Follows.{HasSizes, Follows, chain, follows_from, wants}
use Rattle.code.proofs.Instructions.{run, IsDepth, opened, entered, back_with, on_const, on_frame, on_ask, on_call, on_retsub, length-words}
use Rattle.code.proofs.Lists.{words_of, pushed}
use Rattle.code.proofs.Pieces.{StandsAt, stands, ends, Tied, Evaluation, gone_on, gone_on_with, flown, Evaluates, EvaluatesAll, arrives}

-- what is known of the functions of a file in its code
pub record Holds (program : Program) (file : File) : Type 0 where
  pub placed : (k : ℕ) → k < length file.functions →
      StandsAt program (address_at program k)
      (function_code program.profile (function_at file k) (address_at program k))
  pub counted : (k : ℕ) → k < length file.functions →
      counts_at program k ≡ counts_of (names_of_function (function_at file k))
  pub among : (k : ℕ) → k < length file.functions → k < length program.functions
  pub resolved : (k : ℕ) → k < length file.functions →
      FitsFile (length file.externals) (length file.functions) (function_at file k)

-- bodies follow their meaning along fewer than n replies
abbrev pub Follows_sooner : Program → File → ℕ → BodyMeaning → Type 0
Follows_sooner program file n again =
    (l : ℕ) (b : Body) → InBody (length file.externals) l (length file.functions) b →
    (below : List ℤ) (f : Frame) (fs : List Frame) (at : ℕ) (vars : Vars) (depth frames : ℕ) (trace : List ℤ) →
    f.base ≡ length below → Tied (length file.externals) l n below (f ∷ fs) vars [] depth frames trace →
    length trace < n → StandsAt program at (body_code program.profile b at) →
    Follows (length file.externals) l n (again b vars depth frames trace)
    (wants program (run at below (f ∷ fs) vars []) trace)
    (flown program (at + length (body_code program.profile b at)) below f fs)

-- a variable by its index: the argument there, or 0
variable_at : (parameters variables : ℕ) (arguments : List ℤ) (j : ℕ) → parameters ≤ variables → j < variables →
    (b : Bool) → nat_lt j parameters ≡ b →
    get_or (variables_of parameters variables arguments) j (pos 0) ≡ (if b then get_or arguments j (pos 0) else pos 0)
variable_at parameters variables arguments j h within b is = by (nat_lt j (length given)) refl
  where
    given : List ℤ
    given = take parameters arguments

    count : length given ≡ min parameters (length arguments)
    count = length-take parameters arguments

    rest : List ℤ
    rest = replicate (variables - length given) (pos 0)

    -- past what was given
    past : length given ≤ j → (b : Bool) → nat_lt j parameters ≡ b →
        pos 0 ≡ (if b then get_or arguments j (pos 0) else pos 0)
    past out true is =
        let low : j < parameters = grind (arith, nat_tests, is) in
        sym (get_or_past arguments j (pos 0) (omega (arith, out, count, low)))
    past out false is = refl

    here : j < length given → (b : Bool) → nat_lt j parameters ≡ b →
        get_or arguments j (pos 0) ≡ (if b then get_or arguments j (pos 0) else pos 0)
    here low true is = refl
    here low false is =
        let high : parameters ≤ j = grind (arith, nat_tests, is) in absurd (omega (arith, low, high, count))

    by : (inside : Bool) → nat_lt j (length given) ≡ inside →
        get_or (given ++ rest) j (pos 0) ≡ (if b then get_or arguments j (pos 0) else pos 0)
    by true t =
        let low : j < length given = grind (arith, nat_tests, t) in
        get_or-append given rest (pos 0) j low ∙
        get_or-take parameters arguments j (pos 0) (omega (arith, low, count)) ∙ here low b is
    by false t =
        let out : length given ≤ j = grind (arith, nat_tests, t) in
        get_or-append_right given rest j (pos 0) out
        ∙ get_or-replicate (variables - length given) (j - length given) (pos 0) (pos 0) (omega (arith, out, within))
        ∙ past out b is

-- what a call leaves on the stack are the variables by their indices
first_is : (f : Function) (arguments : List ℤ) → f.parameters ≤ length f.variables →
    variables_of f.parameters (length f.variables) arguments ≡ first_locals f arguments
first_is f arguments h =
    let v = length f.variables in
    let registers = λ (j : ℕ). if nat_lt j f.parameters then get_or arguments j (pos 0) else pos 0 in
    let given = take f.parameters arguments in
    let size : length (variables_of f.parameters v arguments) ≡ v =
    omega (
      arith,
      h,
      length-append given (replicate (v - length given) (pos 0)),
      length-replicate (v - length given) (pos 0),
      length-take f.parameters arguments,
    )
    in
    ext_get_or (pos 0) (variables_of f.parameters v arguments) (map registers (range_with_len 0 v))
    (size ∙ sym (length-map-range_with_len registers 0 v))
    (λ j below.
    let within : j < v = omega (arith, below, size) in
    variable_at f.parameters v arguments j h within (nat_lt j f.parameters) refl
    ∙ sym (get_or-map-range_with_len registers 0 v j j (pos 0) within (zero-add j)))

-- the variables that a function begins with are as many as it has
first_sizes : (f : Function) (arguments : List ℤ) → length (first_locals f arguments) ≡ length f.variables
first_sizes f arguments =
    length-map-range_with_len (λ (j : ℕ). if nat_lt j f.parameters then get_or arguments j (pos 0) else pos 0) 0
    (length f.variables)

module _ (program : Program) (e l n : ℕ) {A : Type 0} where
  -- the end of a function's run
  pub closed_law : (v : ℕ) (below : List ℤ) (f g : Frame) (fs : List Frame) (at : ℕ) (depth frames : ℕ)
      (go : ℤ → Vars → List ℤ → EvaluationResult A) (k : A → Vars → List ℤ → Option Want) → f.base ≡ length below →
      IsDepth v below [] depth → frames ≡ length (f ∷ g ∷ fs) → StandsAt program at (Const (pos 0) ∷ Retsub ∷ []) →
      ((x : ℤ) (vars : Vars) (rest : List ℤ) → HasSizes e v vars → length rest ≤ n →
      Follows e l n (go x vars rest) (wants program (back_with f below (g ∷ fs) vars.externals x) rest) k) →
      (flow : Completion) (vars : Vars) (rest : List ℤ) → HasSizes e v vars → length rest ≤ n →
      Follows e l n (end_of_function program.profile depth frames flow vars rest go)
      (flown program at below f (g ∷ fs) flow vars rest)
      k
  closed_law v below f g fs at depth frames go k base deep count s next (Returns x) vars rest sizes short =
      next x vars rest sizes short
  closed_law v below f g fs at depth frames go k base deep count s next Through vars rest sizes short =
      on_const program e l n below (f ∷ g ∷ fs) at k v vars [] depth (pos 0) rest
      (λ rest. tick (nat_lt 1 frames) Quiet rest (λ reply rest. go (pos 0) vars rest)) s.0 sizes deep
      (λ r1 h1.
      on_retsub program e l n below (g ∷ fs) (at + 1) k f vars [] frames (pos 0) r1 (λ rest. go (pos 0) vars rest) s.1.0
      base count
      (λ r2 h2. next (pos 0) vars r2 sizes (omega (arith, short, h1, h2))))

module _ (program : Program) (file : File) (l n : ℕ) (again : BodyMeaning) (holds : Holds program file)
    (sooner : Follows_sooner program file n again) where
  abbrev e : ℕ
  e = length file.externals

  -- a call after its arguments
  called_law : (f : Callee) → IsCallable (length file.functions) f →
      (xs : List ℤ) (below : List ℤ) (fs : List Frame) (at : ℕ) (vars : Vars) (temps : List ℤ) (depth frames : ℕ)
      (rest : List ℤ) → HasSizes e l vars → IsDepth l below temps depth → frames ≡ length fs → 0 < length fs →
      length rest ≤ n → instr_at program at ≡ Some (Fcall f) →
      Follows e l n (called program.profile file again f xs vars depth frames rest)
      (wants program (run at below (opened below depth ∷ fs) vars (temps ++ xs)) rest)
      (gone_on program (at + 1) below fs temps)
  called_law (callee.Intrinsic i) callable xs below fs at vars temps depth frames rest sizes deep count inside short
      here =
      on_ask program e l n below fs at (gone_on program (at + 1) below fs temps) vars temps xs depth i rest
      (λ reply rest. Gives reply vars rest) here sizes deep
      (λ reply last shorter. arrives program e l n below fs (at + 1) (at + 1) vars (temps ++ reply ∷ []) last sizes
      (omega (arith, shorter, short)) refl)
  called_law (callee.Function j) callable xs below [] at vars temps depth frames rest sizes deep count inside short here
      =
      absurd (omega (arith, inside))
  called_law (callee.Function j) callable xs below (g ∷ fs) at vars temps depth frames rest sizes deep count inside
      short here =
      let f = function_at file j in
      let v = length f.variables in
      let start = address_at program j in
      let known = holds.resolved j callable in
      let sb = stands program start (body_code program.profile f.body) last_return_code (holds.placed j callable) in
      let base = words_of below vars.locals temps in
      let frame = entered below depth (at + 1) in
      let first : Vars = record { externals = vars.externals; locals = first_locals f xs } in
      let k = gone_on program (at + 1) below (g ∷ fs) temps in
      let go = λ (rest : List ℤ).
      and_then (again f.body first (depth + v) (frames + 1) rest) (λ flow after rest.
      end_of_function program.profile (depth + v) (frames + 1) flow after rest (returned vars))
      in
      let whole = wants program (run at below (opened below depth ∷ g ∷ fs) vars (temps ++ xs)) rest in
      let base_is : depth ≡ length base = sym (length-words e l below vars temps depth sizes deep) in
      let deep_inside : IsDepth v base [] (depth + v) = record { is = omega (arith, base_is) } in
      let count_inside : frames + 1 ≡ length (frame ∷ g ∷ fs) = omega (arith, count) in
      let next : (x : ℤ) (after : Vars) (last : List ℤ) → HasSizes e v after → length last ≤ n →
      Follows e l n (returned vars x after last) (wants program (back_with frame base (g ∷ fs) after.externals x) last)
      k =
      λ x after last sizes_inside short_inside. record {
        sizes = record { externals_are = sizes_inside.externals_are; locals_are = sizes.locals_are };
        short = short_inside;
        same =
            ap
            (λ (words : List ℤ). wants program
            (record
            { at = at + 1; home = length below; words = words; frames = g ∷ fs; externals = after.externals }) last)
            (pushed below vars.locals temps (x ∷ []));
      }
      in
      let body : (r1 : List ℤ) → suc (length r1) ≡ length rest →
      Follows e l n (go r1) (wants program (run start base (frame ∷ g ∷ fs) first []) r1) k =
      λ r1 h1.
      let tied : Tied e v n base (frame ∷ g ∷ fs) first [] (depth + v) (frames + 1) r1 = record {
        sizes = record { externals_are = sizes.externals_are; locals_are = first_sizes f xs };
        deep = deep_inside;
        count = count_inside;
        inside = omega arith;
        short = omega (arith, h1, short);
      } in
      chain e l e v n (again f.body first (depth + v) (frames + 1) r1)
      (wants program (run start base (frame ∷ g ∷ fs) first []) r1)
      (flown program (start + length (body_code program.profile f.body start)) base frame (g ∷ fs))
      (λ flow after rest. end_of_function program.profile (depth + v) (frames + 1) flow after rest (returned vars)) k
      (sooner v f.body known.body base frame (g ∷ fs) start first (depth + v) (frames + 1) r1 base_is tied
      (omega (arith, h1, short)) sb.first)
      (closed_law program e l n v base frame g fs (start + length (body_code program.profile f.body start)) (depth + v)
      (frames + 1) (returned vars) k base_is deep_inside count_inside sb.second next)
      in
      subst
      (λ (counts : FunctionCounts). Follows e l n
      (tick (nat_le (depth + counts.variables) program.profile.words) Quiet rest (λ reply rest. go rest)) whole k)
      (holds.counted j callable)
      (on_call program e l n below (g ∷ fs) at k vars temps xs depth j rest go here (holds.among j callable) sizes deep
      (λ r1 h1.
      follows_from e l n (go r1)
      (wants program
      (run start base (frame ∷ g ∷ fs)
      (record
      { externals = vars.externals; locals = variables_of (parameters_at program j) (variables_at program j) xs }) [])
      r1)
      (wants program (run start base (frame ∷ g ∷ fs) first []) r1) k
      (ap
      (λ (counts : FunctionCounts). wants program
      (run start base (frame ∷ g ∷ fs)
      (record { externals = vars.externals; locals = variables_of counts.parameters counts.variables xs }) []) r1)
      (holds.counted j callable)
      ∙
      ap
      (λ (locals : List ℤ). wants program
      (run start base (frame ∷ g ∷ fs) (record { externals = vars.externals; locals = locals }) []) r1)
      (first_is f xs known.parameters))
      (body r1 h1)))

  -- the whole call: a frame, the arguments, and the call
  pub call_law : (f : Callee) → IsCallable (length file.functions) f → (b : CodeAt) (ev : Evaluation (List ℤ)) →
      EvaluatesAll program e l n b ev →
      Evaluates program e l n (only (instr.Frame ∷ []) ⨾ b ⨾ only (Fcall f ∷ []))
      (λ vars depth frames trace. tick (nat_lt frames program.profile.frames) Quiet trace
      (λ reply rest. and_then (ev vars depth (frames + 1) rest)
      (λ xs vars rest. called program.profile file again f xs vars depth frames rest)))
  call_law f callable b ev B below fs at vars temps depth frames trace t s =
      let tail = only (Fcall f ∷ []) in
      let sb = stands program (at + 1) b tail s.1 in
      let at1 = at + 1 + length (b (at + 1)) in
      let end = at + length ((only (instr.Frame ∷ []) ⨾ b ⨾ tail) at) in
      let end_is : at1 + 1 ≡ end = omega (arith, ends (at + 1) b tail) in
      let k = gone_on program end below fs temps in
      let frame = opened below depth in
      on_frame program e l n below fs at k vars temps depth frames trace
      (λ rest. and_then (ev vars depth (frames + 1) rest)
      (λ xs vars rest. called program.profile file again f xs vars depth frames rest)) s.0 t.sizes t.deep t.count
      (λ r1 h1.
      let tied : Tied e l n below (frame ∷ fs) vars temps depth (frames + 1) r1 = record {
        sizes = t.sizes;
        deep = t.deep;
        count = omega (arith, t.count);
        inside = omega arith;
        short = omega (arith, h1, t.short);
      } in
      chain e l e l n (ev vars depth (frames + 1) r1) (wants program (run (at + 1) below (frame ∷ fs) vars temps) r1)
      (gone_on_with program at1 below (frame ∷ fs) temps)
      (λ xs vars rest. called program.profile file again f xs vars depth frames rest) k
      (B below (frame ∷ fs) (at + 1) vars temps depth (frames + 1) r1 tied sb.first)
      (λ xs vars r2 sizes short.
      subst
      (λ (a : ℕ). Follows e l n (called program.profile file again f xs vars depth frames r2)
      (wants program (run at1 below (frame ∷ fs) vars (temps ++ xs)) r2) (gone_on program a below fs temps)) end_is
      (called_law f callable xs below fs at1 vars temps depth frames r2 sizes t.deep t.count t.inside short
      sb.second.0)))
