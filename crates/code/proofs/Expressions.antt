-- The pieces of expressions follow their evaluations.
use Rattle.std.specs.Prelude.{ℕ, ℤ, pos, ◌+◌, ◌≡◌, ◌<◌, ◌≤◌, List, [], ◌∷◌, ◌++◌, Bool, true, false, Some, length, if◌then◌else◌}
use Rattle.std.proofs.Common.{refl, sym, ap, ◌∙◌, subst, arith, append_assoc}
use Rattle.std.proofs.lemmas.List.{append-nil}
use Rattle.arith.specs.Op.{holds, truth}
use Rattle.grammar.specs.declared.resolved_names.Var.{Var}
use Rattle.arith.specs.declared.operators.Op.{Op}
use Rattle.arith.specs.declared.operators.Op.TheVariants as op
use Rattle.grammar.specs.declared.operators.StoreOp.{StoreOp}
use Rattle.code.specs.declared.instr.Instr.TheVariants.{Fetch, Store, Const, Binop, Chop, Truth, Branch}
use Rattle.code.specs.Generation.{Program, CodeAt, ◌⨾◌, only, either, both_code, short_code, binary_code, no_code}
use Rattle.code.specs.declared.frame.Frame.{Frame}
use Rattle.code.specs.Machine.{instr_at}
use Rattle.code.specs.Meaning.{Vars, Gives, and_then, push, quiet_cycle, full, short, binary, value_of_variable, assigned}
use Rattle.grammar.specs.Resolved.{IsVariable}
use Rattle.arith.specs.Op.{value_of}
use Rattle.code.specs.Values.{stored}
use Rattle.code.proofs.Follows.{HasSizes, Follows, chain, wants}
use Rattle.code.proofs.Instructions.{run, IsDepth, deeper, on_const, on_fetch, on_chop, on_binop, on_truth, on_store, on_branch, assigned_sizes}
use Rattle.code.proofs.Pieces.{stands, ends, other_of, end_of, stands_either, ends_either, Tied, Evaluation, gone_on, gone_on_with, Evaluates, EvaluatesAll, arrives}

module _ (program : Program) (e l n : ℕ) where
  -- the tie after a value that was pushed
  tied_behind : (below : List ℤ) (fs : List Frame) (temps : List ℤ) (depth frames : ℕ) (vars : Vars) (rest : List ℤ)
      (x : ℤ) → IsDepth l below temps depth → frames ≡ length fs → 0 < length fs → HasSizes e l vars → length rest ≤ n →
      Tied e l n below fs vars (temps ++ x ∷ []) (depth + 1) frames rest
  tied_behind below fs temps depth frames vars rest x deep count inside sizes short = record {
    sizes = sizes;
    deep = deeper x deep;
    count = count;
    inside = inside;
    short = short;
  }

  pub const_law : (x : ℤ) →
      Evaluates program e l n (only (Const x ∷ []))
      (λ vars depth frames trace. push program.profile depth trace (λ rest. Gives x vars rest))
  const_law x below fs at vars temps depth frames trace t s =
      on_const program e l n below fs at (gone_on program (at + 1) below fs temps) l vars temps depth x trace
      (λ rest. Gives x vars rest) s.0 t.sizes t.deep
      (λ rest shorter. arrives program e l n below fs (at + 1) (at + 1) vars (temps ++ x ∷ []) rest t.sizes
      (omega (arith, shorter, t.short)) refl)

  pub fetch_law : (v : Var) → IsVariable e l v →
      Evaluates program e l n (only (Fetch v ∷ []))
      (λ vars depth frames trace. push program.profile depth trace (λ rest. Gives (value_of_variable vars v) vars rest))
  fetch_law v known below fs at vars temps depth frames trace t s =
      let x = value_of_variable vars v in
      on_fetch program e l n below fs at (gone_on program (at + 1) below fs temps) vars temps depth v trace
      (λ rest. Gives x vars rest) s.0 t.sizes known t.deep
      (λ rest shorter. arrives program e l n below fs (at + 1) (at + 1) vars (temps ++ x ∷ []) rest t.sizes
      (omega (arith, shorter, t.short)) refl)

  pub full_law : (o : Op) (a b : CodeAt) (ev_a ev_b : Evaluation ℤ) → Evaluates program e l n a ev_a →
      Evaluates program e l n b ev_b →
      Evaluates program e l n (both_code o a b)
      (λ vars depth frames trace. full o depth (ev_a vars depth frames trace)
      (λ vars depth rest. ev_b vars depth frames rest))
  full_law o a b ev_a ev_b A B below fs at vars temps depth frames trace t s =
      let tail = only (Binop o ∷ []) in
      let sa = stands program at a (b ⨾ tail) s in
      let at1 = at + length (a at) in
      let sb = stands program at1 b tail sa.second in
      let at2 = at1 + length (b at1) in
      let end = at + length (both_code o a b at) in
      let end_is : at2 + 1 ≡ end = omega (arith, ends at a (b ⨾ tail), ends at1 b tail) in
      let k = gone_on program end below fs temps in
      chain e l e l n (ev_a vars depth frames trace) (wants program (run at below fs vars temps) trace)
      (gone_on program at1 below fs temps)
      (λ x vars rest. and_then (ev_b vars (depth + 1) frames rest)
      (λ y vars rest. quiet_cycle rest (λ rest. Gives (value_of o x y) vars rest))) k
      (A below fs at vars temps depth frames trace t sa.first)
      (λ x vars rest sizes short.
      chain e l e l n (ev_b vars (depth + 1) frames rest) (wants program (run at1 below fs vars (temps ++ x ∷ [])) rest)
      (gone_on program at2 below fs (temps ++ x ∷ []))
      (λ y vars rest. quiet_cycle rest (λ rest. Gives (value_of o x y) vars rest)) k
      (B below fs at1 vars (temps ++ x ∷ []) (depth + 1) frames rest
      (tied_behind below fs temps depth frames vars rest x t.deep t.count t.inside sizes short) sb.first)
      (λ y vars rest sizes short.
      on_binop program e l n below fs at2 k vars temps o x y rest (λ rest. Gives (value_of o x y) vars rest) sb.second.0
      (λ last shorter. arrives program e l n below fs (at2 + 1) end vars (temps ++ value_of o x y ∷ []) last sizes
      (omega (arith, shorter, short)) end_is)))

  pub assign_law : (o : StoreOp) (v : Var) (a : CodeAt) (ev : Evaluation ℤ) → IsVariable e l v →
      Evaluates program e l n a ev →
      Evaluates program e l n (a ⨾ only (Store v o ∷ []))
      (λ vars depth frames trace. and_then (ev vars depth frames trace)
      (λ x vars rest. quiet_cycle rest
      (λ rest. let y = stored o (value_of_variable vars v) x in Gives y (assigned vars v y) rest)))
  assign_law o v a ev known A below fs at vars temps depth frames trace t s =
      let tail = only (Store v o ∷ []) in
      let sa = stands program at a tail s in
      let at1 = at + length (a at) in
      let end = at + length ((a ⨾ tail) at) in
      let end_is : at1 + 1 ≡ end = ends at a tail in
      let k = gone_on program end below fs temps in
      chain e l e l n (ev vars depth frames trace) (wants program (run at below fs vars temps) trace)
      (gone_on program at1 below fs temps)
      (λ x vars rest. quiet_cycle rest
      (λ rest. let y = stored o (value_of_variable vars v) x in Gives y (assigned vars v y) rest)) k
      (A below fs at vars temps depth frames trace t sa.first)
      (λ x vars rest sizes short.
      let y = stored o (value_of_variable vars v) x in
      on_store program e l n below fs at1 k vars temps v o x rest (λ rest. Gives y (assigned vars v y) rest) sa.second.0
      sizes known
      (λ last shorter. arrives program e l n below fs (at1 + 1) end (assigned vars v y) (temps ++ y ∷ []) last
      (assigned_sizes e l vars v y sizes) (omega (arith, shorter, short)) end_is))

  pub postfix_law : (o : StoreOp) (v : Var) → IsVariable e l v →
      Evaluates program e l n (only (Fetch v ∷ Const (pos 1) ∷ Store v o ∷ Chop ∷ []))
      (λ vars depth frames trace. push program.profile depth trace
      (λ rest. let x = value_of_variable vars v in push program.profile (depth + 1) rest
      (λ rest. quiet_cycle rest
      (λ rest. quiet_cycle rest (λ rest. Gives x (assigned vars v (stored o x (pos 1))) rest)))))
  postfix_law o v known below fs at vars temps depth frames trace t s =
      let x = value_of_variable vars v in
      let y = stored o x (pos 1) in
      let end = at + 4 in
      let k = gone_on program end below fs temps in
      let last_of = λ (rest : List ℤ). Gives x (assigned vars v y) rest in
      on_fetch program e l n below fs at k vars temps depth v trace
      (λ rest. push program.profile (depth + 1) rest (λ rest. quiet_cycle rest (λ rest. quiet_cycle rest last_of))) s.0
      t.sizes known
      t.deep
      (λ r1 h1.
      on_const program e l n below fs (at + 1) k l vars (temps ++ x ∷ []) (depth + 1) (pos 1) r1
      (λ rest. quiet_cycle rest (λ rest. quiet_cycle rest last_of)) s.1.0 t.sizes (deeper x t.deep)
      (λ r2 h2.
      on_store program e l n below fs (at + 1 + 1) k vars (temps ++ x ∷ []) v o (pos 1) r2
      (λ rest. quiet_cycle rest last_of)
      s.1.1.0 t.sizes known
      (λ r3 h3.
      on_chop program e l n below fs (at + 1 + 1 + 1) k (assigned vars v y) (temps ++ x ∷ []) y r3 last_of s.1.1.1.0
      (λ r4 h4. arrives program e l n below fs (at + 1 + 1 + 1 + 1) end (assigned vars v y) (temps ++ x ∷ []) r4
      (assigned_sizes e l vars v y t.sizes) (omega (arith, h1, h2, h3, h4, t.short)) (omega arith)))))

  -- the left side decides, or the right side's truth is the value
  and_law : (a b : CodeAt) (ev_a ev_b : Evaluation ℤ) → Evaluates program e l n a ev_a →
      Evaluates program e l n b ev_b →
      Evaluates program e l n (short_code op.And a b)
      (λ vars depth frames trace. short program.profile op.And depth (ev_a vars depth frames trace)
      (λ vars depth rest. ev_b vars depth frames rest))
  and_law a b ev_a ev_b A B below fs at vars temps depth frames trace t s =
      let yes = b ⨾ only (Truth ∷ []) in
      let no = only (Const (pos 0) ∷ []) in
      let sa = stands program at a (either yes no) s in
      let at1 = at + length (a at) in
      let se = stands_either program at1 yes no sa.second in
      let sb = stands program (at1 + 1) b (only (Truth ∷ [])) se.first in
      let at2 = at1 + 1 + length (b (at1 + 1)) in
      let other = other_of at1 yes in
      let end = at + length (short_code op.And a b at) in
      let end_is : end_of at1 yes no ≡ end = ends_either at1 yes no ∙ ends at a (either yes no) in
      let zero_at : at2 + 1 ≡ at1 + 1 + length (yes (at1 + 1)) = ends (at1 + 1) b (only (Truth ∷ [])) in
      let k = gone_on program end below fs temps in
      let right = λ (vars : Vars) (rest : List ℤ).
      and_then (ev_b vars depth frames rest)
      (λ y vars rest. quiet_cycle rest
      (λ rest. push program.profile (depth + 1) rest
      (λ rest. quiet_cycle rest (λ rest. Gives (truth (holds y)) vars rest))))
      in
      let left = λ (vars : Vars) (rest : List ℤ). push program.profile depth rest (λ rest. Gives (pos 0) vars rest) in
      chain e l e l n (ev_a vars depth frames trace) (wants program (run at below fs vars temps) trace)
      (gone_on program at1 below fs temps)
      (λ x vars rest. quiet_cycle rest (λ rest. if holds x then right vars rest else left vars rest)) k
      (A below fs at vars temps depth frames trace t sa.first)
      (λ x vars rest sizes short.
      on_branch program e l n below fs at1 k vars temps other x rest
      (λ rest. if holds x then right vars rest else left vars rest) se.branch
      (λ r1 h1.
      let tied : Tied e l n below fs vars temps depth frames r1 =
      record { sizes = sizes; deep = t.deep; count = t.count; inside = t.inside; short = omega (arith, h1, short) } in
      elim (holds x) as
      (λ (d : Bool). Follows e l n (if d then right vars r1 else left vars r1)
      (wants program (run (if d then at1 + 1 else other) below fs vars temps) r1) k) [
        | true ↦
            chain e l e l n (ev_b vars depth frames r1) (wants program (run (at1 + 1) below fs vars temps) r1)
            (gone_on program at2 below fs temps)
            (λ y vars rest. quiet_cycle rest
            (λ rest. push program.profile (depth + 1) rest
            (λ rest. quiet_cycle rest (λ rest. Gives (truth (holds y)) vars rest)))) k
            (B below fs (at1 + 1) vars temps depth frames r1 tied sb.first)
            (λ y vars r2 sizes short.
            let z = truth (holds y) in
            on_truth program e l n below fs at2 k vars temps y r2
            (λ rest. push program.profile (depth + 1) rest (λ rest. quiet_cycle rest (λ rest. Gives z vars rest)))
            sb.second.0
            (λ r3 h3.
            on_const program e l n below fs (at2 + 1) k l vars (temps ++ z ∷ []) (depth + 1) (pos 0) r3
            (λ rest. quiet_cycle rest (λ rest. Gives z vars rest))
            (subst (λ (m : ℕ). instr_at program m ≡ Some (Const (pos 0))) (sym zero_at) se.zero) sizes (deeper z t.deep)
            (λ r4 h4.
            on_branch program e l n below fs (at2 + 1 + 1) k vars (temps ++ z ∷ []) (end_of at1 yes no) (pos 0) r4
            (λ rest. Gives z vars rest)
            (subst (λ (m : ℕ). instr_at program (m + 1) ≡ Some (Branch (end_of at1 yes no))) (sym zero_at) se.jump)
            (λ r5 h5. arrives program e l n below fs (end_of at1 yes no) end vars (temps ++ z ∷ []) r5 sizes
            (omega (arith, short, h3, h4, h5)) end_is))))
        | false ↦
            on_const program e l n below fs other k l vars temps depth (pos 0) r1 (λ rest. Gives (pos 0) vars rest)
            se.second.0 sizes t.deep
            (λ r2 h2. arrives program e l n below fs (other + 1) end vars (temps ++ pos 0 ∷ []) r2 sizes
            (omega (arith, h1, h2, short)) end_is)
      ]))

  or_law : (a b : CodeAt) (ev_a ev_b : Evaluation ℤ) → Evaluates program e l n a ev_a → Evaluates program e l n b ev_b →
      Evaluates program e l n (short_code op.Or a b)
      (λ vars depth frames trace. short program.profile op.Or depth (ev_a vars depth frames trace)
      (λ vars depth rest. ev_b vars depth frames rest))
  or_law a b ev_a ev_b A B below fs at vars temps depth frames trace t s =
      let yes = only (Const (pos 1) ∷ []) in
      let no = b ⨾ only (Truth ∷ []) in
      let sa = stands program at a (either yes no) s in
      let at1 = at + length (a at) in
      let se = stands_either program at1 yes no sa.second in
      let other = other_of at1 yes in
      let sb = stands program other b (only (Truth ∷ [])) se.second in
      let at2 = other + length (b other) in
      let end = at + length (short_code op.Or a b at) in
      let end_is : end_of at1 yes no ≡ end = ends_either at1 yes no ∙ ends at a (either yes no) in
      let last_is : at2 + 1 ≡ end_of at1 yes no = ends other b (only (Truth ∷ [])) in
      let k = gone_on program end below fs temps in
      let right = λ (vars : Vars) (rest : List ℤ).
      and_then (ev_b vars depth frames rest)
      (λ y vars rest. quiet_cycle rest (λ rest. Gives (truth (holds y)) vars rest))
      in
      let left =
      λ (vars : Vars) (rest : List ℤ). push program.profile depth rest
      (λ rest. push program.profile (depth + 1) rest (λ rest. quiet_cycle rest (λ rest. Gives (pos 1) vars rest))) in
      chain e l e l n (ev_a vars depth frames trace) (wants program (run at below fs vars temps) trace)
      (gone_on program at1 below fs temps)
      (λ x vars rest. quiet_cycle rest (λ rest. if holds x then left vars rest else right vars rest)) k
      (A below fs at vars temps depth frames trace t sa.first)
      (λ x vars rest sizes short.
      on_branch program e l n below fs at1 k vars temps other x rest
      (λ rest. if holds x then left vars rest else right vars rest) se.branch
      (λ r1 h1.
      let tied : Tied e l n below fs vars temps depth frames r1 =
      record { sizes = sizes; deep = t.deep; count = t.count; inside = t.inside; short = omega (arith, h1, short) } in
      elim (holds x) as
      (λ (d : Bool). Follows e l n (if d then left vars r1 else right vars r1)
      (wants program (run (if d then at1 + 1 else other) below fs vars temps) r1) k) [
        | true ↦
            on_const program e l n below fs (at1 + 1) k l vars temps depth (pos 1) r1
            (λ rest. push program.profile (depth + 1) rest (λ rest. quiet_cycle rest (λ rest. Gives (pos 1) vars rest)))
            se.first.0 sizes t.deep
            (λ r2 h2.
            on_const program e l n below fs (at1 + 1 + 1) k l vars (temps ++ pos 1 ∷ []) (depth + 1) (pos 0) r2
            (λ rest. quiet_cycle rest (λ rest. Gives (pos 1) vars rest)) se.zero sizes (deeper (pos 1) t.deep)
            (λ r3 h3.
            on_branch program e l n below fs (at1 + 1 + 1 + 1) k vars (temps ++ pos 1 ∷ []) (end_of at1 yes no) (pos 0)
            r3
            (λ rest. Gives (pos 1) vars rest) se.jump
            (λ r4 h4. arrives program e l n below fs (end_of at1 yes no) end vars (temps ++ pos 1 ∷ []) r4 sizes
            (omega (arith, short, h1, h2, h3, h4)) end_is)))
        | false ↦
            chain e l e l n (ev_b vars depth frames r1) (wants program (run other below fs vars temps) r1)
            (gone_on program at2 below fs temps)
            (λ y vars rest. quiet_cycle rest (λ rest. Gives (truth (holds y)) vars rest)) k
            (B below fs other vars temps depth frames r1 tied sb.first)
            (λ y vars r2 sizes short.
            let z = truth (holds y) in
            on_truth program e l n below fs at2 k vars temps y r2 (λ rest. Gives z vars rest) sb.second.0
            (λ r3 h3. arrives program e l n below fs (at2 + 1) end vars (temps ++ z ∷ []) r3 sizes
            (omega (arith, short, h3)) (last_is ∙ end_is)))
      ]))

  -- an operator of either profile
  short_law : (o : Op) (a b : CodeAt) (ev_a ev_b : Evaluation ℤ) → Evaluates program e l n a ev_a →
      Evaluates program e l n b ev_b →
      Evaluates program e l n (short_code o a b)
      (λ vars depth frames trace. short program.profile o depth (ev_a vars depth frames trace)
      (λ vars depth rest. ev_b vars depth frames rest))
  short_law op.And a b ev_a ev_b A B = and_law a b ev_a ev_b A B
  short_law op.Or a b ev_a ev_b A B = or_law a b ev_a ev_b A B
  short_law o a b ev_a ev_b A B = full_law o a b ev_a ev_b A B

  pub binary_law : (o : Op) (a b : CodeAt) (ev_a ev_b : Evaluation ℤ) → Evaluates program e l n a ev_a →
      Evaluates program e l n b ev_b →
      Evaluates program e l n (binary_code program.profile o a b)
      (λ vars depth frames trace. binary program.profile o depth (ev_a vars depth frames trace)
      (λ vars depth rest. ev_b vars depth frames rest))
  binary_law o a b ev_a ev_b A B =
      elim program.profile.short_circuit as
      (λ (c : Bool). Evaluates program e l n (if c then short_code o a b else both_code o a b)
      (λ vars depth frames trace. if c then short program.profile o depth (ev_a vars depth frames trace)
      (λ vars depth rest. ev_b vars depth frames rest) else full o depth (ev_a vars depth frames trace)
      (λ vars depth rest. ev_b vars depth frames rest))) [
        | true ↦ short_law o a b ev_a ev_b A B
        | false ↦ full_law o a b ev_a ev_b A B
      ]

  -- arguments, each pushed on those before it
  pub no_more_law : EvaluatesAll program e l n no_code (λ vars depth frames trace. Gives [] vars trace)
  no_more_law below fs at vars temps depth frames trace t s = record {
    sizes = t.sizes;
    short = t.short;
    same =
        ap (λ (l : List ℤ). wants program (run at below fs vars l) trace) (sym (append-nil temps))
        ∙ ap (λ (a : ℕ). wants program (run a below fs vars (temps ++ [])) trace) (omega arith);
  }

  pub argument_law : (a b : CodeAt) (ev_a : Evaluation ℤ) (ev_b : Evaluation (List ℤ)) →
      Evaluates program e l n a ev_a →
      EvaluatesAll program e l n b ev_b →
      EvaluatesAll program e l n (a ⨾ b)
      (λ vars depth frames trace. and_then (ev_a vars depth frames trace)
      (λ x vars rest. and_then (ev_b vars (depth + 1) frames rest) (λ xs vars rest. Gives (x ∷ xs) vars rest)))
  argument_law a b ev_a ev_b A B below fs at vars temps depth frames trace t s =
      let sa = stands program at a b s in
      let at1 = at + length (a at) in
      let at2 = at1 + length (b at1) in
      let end = at + length ((a ⨾ b) at) in
      let k = gone_on_with program end below fs temps in
      chain e l e l n (ev_a vars depth frames trace) (wants program (run at below fs vars temps) trace)
      (gone_on program at1 below fs temps)
      (λ x vars rest. and_then (ev_b vars (depth + 1) frames rest) (λ xs vars rest. Gives (x ∷ xs) vars rest)) k
      (A below fs at vars temps depth frames trace t sa.first)
      (λ x vars rest sizes short.
      chain e l e l n (ev_b vars (depth + 1) frames rest) (wants program (run at1 below fs vars (temps ++ x ∷ [])) rest)
      (gone_on_with program at2 below fs (temps ++ x ∷ []))
      (λ xs vars rest. Gives (x ∷ xs) vars rest) k
      (B below fs at1 vars (temps ++ x ∷ []) (depth + 1) frames rest
      (tied_behind below fs temps depth frames vars rest x t.deep t.count t.inside sizes short) sa.second)
      (λ xs vars rest sizes short. record {
        sizes = sizes;
        short = short;
        same =
            ap (λ (l : List ℤ). wants program (run at2 below fs vars l) rest) (append_assoc temps (x ∷ []) xs)
            ∙ ap (λ (a : ℕ). wants program (run a below fs vars (temps ++ x ∷ xs)) rest) (ends at a b);
      }))
