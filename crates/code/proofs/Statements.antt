-- The pieces of statements have their effects.
use Rattle.std.specs.Prelude.{ℕ, ℤ, pos, ◌+◌, ◌≡◌, ◌<◌, ◌≤◌, List, [], ◌∷◌, Bool, true, false, Option, Some, length, nat_lt, if◌then◌else◌}
use Rattle.std.proofs.Common.{refl, sym, ap, ◌∙◌, subst, arith}
use Rattle.arith.specs.Op.{holds}
use Rattle.code.specs.declared.instr.Instr.TheVariants.{Const, Branch, Chop, Retsub}
use Rattle.code.specs.declared.want.Want.{Want}
use Rattle.code.specs.declared.want.Want.TheVariants.{Quiet}
use Rattle.code.specs.Generation.{Program, CodeAt, ◌⨾◌, only, no_code, past, either, loop}
use Rattle.code.specs.declared.frame.Frame.{Frame}
use Rattle.code.specs.Machine.{instr_at}
use Rattle.code.specs.Meaning.{Vars, EvaluationResult, Gives, Completion, Through, Returns, and_then, tick, quiet_cycle, on_through, and_on, end_of_branch_or_iteration}
use Rattle.code.proofs.Follows.{HasSizes, Follows, chain, wants}
use Rattle.code.proofs.Instructions.{run, IsDepth, on_const, on_chop, on_branch, on_retsub, on_retsub_of_main}
use Rattle.code.proofs.Pieces.{StandsAt, stands, stands_third, ends, other_of, end_of, stands_either, ends_either, Tied, Evaluation, gone_on, flown, Evaluates, Effects}

module _ (program : Program) (e l n : ℕ) where
  -- where a function returns to doesn't depend on where it was
  same_return : (a b : ℕ) (below : List ℤ) (f : Frame) (fs : List Frame) (x : ℤ) (vars : Vars) (rest : List ℤ) →
      flown program a below f fs (Returns x) vars rest ≡ flown program b below f fs (Returns x) vars rest
  same_return a b below f [] x vars rest = refl
  same_return a b below f (g ∷ fs) x vars rest = refl

  -- statements and what comes after them
  flow_chain : (o : EvaluationResult Completion) (w : Option Want) (at1 at2 : ℕ) (below : List ℤ) (f : Frame)
      (fs : List Frame)
      (go : Vars → List ℤ → EvaluationResult Completion) → Follows e l n o w (flown program at1 below f fs) →
      ((vars : Vars) (rest : List ℤ) → HasSizes e l vars → length rest ≤ n →
      Follows e l n (go vars rest) (wants program (run at1 below (f ∷ fs) vars []) rest) (flown program at2 below f fs))
      →
      Follows e l n (and_on o go) w (flown program at2 below f fs)
  flow_chain o w at1 at2 below f fs go first next =
      chain e l e l n o w (flown program at1 below f fs) (λ flow vars rest. on_through flow vars rest go)
      (flown program at2 below f fs) first
      (λ flow vars rest sizes short.
      elim flow as
      (λ (flow : Completion). Follows e l n (on_through flow vars rest go) (flown program at1 below f fs flow vars rest)
      (flown program at2 below f fs)) [
        | Through ↦ next vars rest sizes short
        | Returns x ↦ record { sizes = sizes; short = short; same = same_return at1 at2 below f fs x vars rest }
      ])

  -- the same effect at an address that is given otherwise
  ends_at : (from to : ℕ) (below : List ℤ) (f : Frame) (fs : List Frame) (o : EvaluationResult Completion)
      (w : Option Want) →
      from ≡ to → Follows e l n o w (flown program from below f fs) → Follows e l n o w (flown program to below f fs)
  ends_at from to below f fs o w same h = subst (λ (a : ℕ). Follows e l n o w (flown program a below f fs)) same h

  -- the tie along fewer replies
  tied_on : (below : List ℤ) (fs : List Frame) (vars after : Vars) (depth frames : ℕ) (trace rest : List ℤ) →
      Tied e l n below fs vars [] depth frames trace → HasSizes e l after → length rest ≤ n →
      Tied e l n below fs after [] depth frames rest
  tied_on below fs vars after depth frames trace rest t sizes short = record {
    sizes = sizes;
    deep = t.deep;
    count = t.count;
    inside = t.inside;
    short = short;
  }

  pub done_law : Effects program e l n no_code (λ vars depth frames trace. Gives Through vars trace)
  done_law below f fs at vars depth frames trace base t s = record {
    sizes = t.sizes;
    short = t.short;
    same = ap (λ (a : ℕ). wants program (run a below (f ∷ fs) vars []) trace) (omega arith);
  }

  pub alone_law : (a b : CodeAt) (ev : Evaluation ℤ) (ef : Evaluation Completion) → Evaluates program e l n a ev →
      Effects program e l n b ef →
      Effects program e l n (a ⨾ only (Chop ∷ []) ⨾ b)
      (λ vars depth frames trace. and_then (ev vars depth frames trace)
      (λ x vars rest. quiet_cycle rest (λ rest. ef vars depth frames rest)))
  alone_law a b ev ef A B below f fs at vars depth frames trace base t s =
      let tail = only (Chop ∷ []) ⨾ b in
      let sa = stands program at a tail s in
      let at1 = at + length (a at) in
      let end = at + length ((a ⨾ tail) at) in
      let end_is : at1 + 1 + length (b (at1 + 1)) ≡ end = omega (arith, ends at a tail) in
      chain e l e l n (ev vars depth frames trace) (wants program (run at below (f ∷ fs) vars []) trace)
      (gone_on program at1 below (f ∷ fs) [])
      (λ x vars rest. quiet_cycle rest (λ rest. ef vars depth frames rest)) (flown program end below f fs)
      (A below (f ∷ fs) at vars [] depth frames trace t sa.first)
      (λ x after rest sizes short.
      on_chop program e l n below (f ∷ fs) at1 (flown program end below f fs) after [] x rest
      (λ rest. ef after depth frames rest) sa.second.0
      (λ r1 h1.
      ends_at (at1 + 1 + length (b (at1 + 1))) end below f fs (ef after depth frames r1)
      (wants program (run (at1 + 1) below (f ∷ fs) after []) r1) end_is
      (B below f fs (at1 + 1) after depth frames r1 base
      (tied_on below (f ∷ fs) vars after depth frames trace r1 t sizes (omega (arith, h1, short))) sa.second.1)))

  -- the statements behind others
  goes_behind : (b : CodeAt) (ef : Evaluation Completion) → Effects program e l n b ef → (to end : ℕ) (below : List ℤ)
      (f : Frame) (fs : List Frame) (vars : Vars) (depth frames : ℕ) (trace : List ℤ) → f.base ≡ length below →
      Tied e l n below (f ∷ fs) vars [] depth frames trace →
      StandsAt program to (b to) × (to + length (b to) ≡ end) → (after : Vars) (r : List ℤ) →
      HasSizes e l after → length r ≤ n →
      Follows e l n (ef after depth frames r) (wants program (run to below (f ∷ fs) after []) r)
      (flown program end below f fs)
  goes_behind b ef B to end below f fs vars depth frames trace base t there after r sizes short =
      ends_at (to + length (b to)) end below f fs (ef after depth frames r)
      (wants program (run to below (f ∷ fs) after []) r) there.1
      (B below f fs to after depth frames r base (tied_on below (f ∷ fs) vars after depth frames trace r t sizes short)
      there.0)

  pub when_law : (c s b : CodeAt) (ev : Evaluation ℤ) (ef_s ef_b : Evaluation Completion) →
      Evaluates program e l n c ev →
      Effects program e l n s ef_s → Effects program e l n b ef_b →
      Effects program e l n (c ⨾ past s ⨾ b)
      (λ vars depth frames trace. and_then (ev vars depth frames trace)
      (λ x vars rest. quiet_cycle rest
      (λ rest. if holds x then and_on (ef_s vars depth frames rest) (λ vars rest. ef_b vars depth frames rest)
      else ef_b vars depth frames rest)))
  when_law c s b ev ef_s ef_b C S B below f fs at vars depth frames trace base t st =
      let sc = stands program at c (past s ⨾ b) st in
      let at1 = at + length (c at) in
      let sp = stands program at1 (past s) b sc.second in
      let to = at1 + 1 + length (s (at1 + 1)) in
      let end = at + length ((c ⨾ past s ⨾ b) at) in
      let k = flown program end below f fs in
      let behind =
      goes_behind b ef_b B to end below f fs vars depth frames trace base t
      (stands_third program c (past s) b at to st (omega arith)) in
      chain e l e l n (ev vars depth frames trace) (wants program (run at below (f ∷ fs) vars []) trace)
      (gone_on program at1 below (f ∷ fs) [])
      (λ x vars rest. quiet_cycle rest
      (λ rest. if holds x then and_on (ef_s vars depth frames rest) (λ vars rest. ef_b vars depth frames rest) else
      ef_b vars depth frames rest)) k
      (C below (f ∷ fs) at vars [] depth frames trace t sc.first)
      (λ x after rest sizes short.
      on_branch program e l n below (f ∷ fs) at1 k after [] to x rest
      (λ rest. if holds x then and_on (ef_s after depth frames rest) (λ vars rest. ef_b vars depth frames rest) else
      ef_b after depth frames rest) sp.first.0
      (λ r1 h1.
      elim (holds x) as
      (λ (d : Bool). Follows e l n
      (if d then and_on (ef_s after depth frames r1) (λ vars rest. ef_b vars depth frames rest) else ef_b after
      depth frames r1) (wants program (run (if d then at1 + 1 else to) below (f ∷ fs) after []) r1) k) [
        | true ↦
            flow_chain (ef_s after depth frames r1) (wants program (run (at1 + 1) below (f ∷ fs) after []) r1) to end
            below
            f fs (λ vars rest. ef_b vars depth frames rest)
            (S below f fs (at1 + 1) after depth frames r1 base
            (tied_on below (f ∷ fs) vars after depth frames trace r1 t sizes (omega (arith, h1, short))) sp.first.1)
            behind
        | false ↦ behind after r1 sizes (omega (arith, h1, short))
      ]))

  -- the end of a first branch, or of a turn: a push of 0, and a branch that is taken
  over_law : (at to : ℕ) (below : List ℤ) (fs : List Frame) (vars : Vars) (depth frames : ℕ) (rest : List ℤ)
      (go : List ℤ → EvaluationResult Completion) (k : Completion → Vars → List ℤ → Option Want) → HasSizes e l vars →
      IsDepth l below [] depth → instr_at program at ≡ Some (Const (pos 0)) →
      instr_at program (at + 1) ≡ Some (Branch to) →
      ((r : List ℤ) → length r < length rest → Follows e l n (go r) (wants program (run to below fs vars []) r) k) →
      Follows e l n (end_of_branch_or_iteration program.profile depth rest go)
      (wants program (run at below fs vars []) rest) k
  over_law at to below fs vars depth frames rest go k sizes deep zero_at jump next =
      on_const program e l n below fs at k l vars [] depth (pos 0) rest (λ rest. quiet_cycle rest go) zero_at sizes deep
      (λ r1 h1.
      on_branch program e l n below fs (at + 1) k vars [] to (pos 0) r1 go jump
      (λ r2 h2. next r2 (omega (arith, h1, h2))))

  pub choose_law : (c s t b : CodeAt) (ev : Evaluation ℤ) (ef_s ef_t ef_b : Evaluation Completion) →
      Evaluates program e l n c ev → Effects program e l n s ef_s → Effects program e l n t ef_t →
      Effects program e l n b ef_b →
      Effects program e l n (c ⨾ either s t ⨾ b)
      (λ vars depth frames trace. and_then (ev vars depth frames trace)
      (λ x vars rest. quiet_cycle rest
      (λ rest. if holds x then and_on (ef_s vars depth frames rest)
      (λ vars rest. end_of_branch_or_iteration program.profile depth rest (λ rest. ef_b vars depth frames rest)) else
      and_on
      (ef_t vars depth frames rest) (λ vars rest. ef_b vars depth frames rest))))
  choose_law c s t b ev ef_s ef_t ef_b C S T B below f fs at vars depth frames trace base tied st =
      let sc = stands program at c (either s t ⨾ b) st in
      let at1 = at + length (c at) in
      let sp = stands program at1 (either s t) b sc.second in
      let se = stands_either program at1 s t sp.first in
      let other = other_of at1 s in
      let to = end_of at1 s t in
      let end = at + length ((c ⨾ either s t ⨾ b) at) in
      let k = flown program end below f fs in
      let behind =
      goes_behind b ef_b B to end below f fs vars depth frames trace base tied
      (stands_third program c (either s t) b at to st (sym (ends_either at1 s t))) in
      let first =
      λ (vars : Vars) (rest : List ℤ). and_on (ef_s vars depth frames rest)
      (λ vars rest. end_of_branch_or_iteration program.profile depth rest (λ rest. ef_b vars depth frames rest)) in
      let second =
      λ (vars : Vars) (rest : List ℤ). and_on (ef_t vars depth frames rest) (λ vars rest. ef_b vars depth frames rest)
      in
      chain e l e l n (ev vars depth frames trace) (wants program (run at below (f ∷ fs) vars []) trace)
      (gone_on program at1 below (f ∷ fs) [])
      (λ x vars rest. quiet_cycle rest (λ rest. if holds x then first vars rest else second vars rest)) k
      (C below (f ∷ fs) at vars [] depth frames trace tied sc.first)
      (λ x after rest sizes short.
      on_branch program e l n below (f ∷ fs) at1 k after [] other x rest
      (λ rest. if holds x then first after rest else second after rest) se.branch
      (λ r1 h1.
      let here = tied_on below (f ∷ fs) vars after depth frames trace r1 tied sizes (omega (arith, h1, short)) in
      elim (holds x) as
      (λ (d : Bool). Follows e l n (if d then first after r1 else second after r1)
      (wants program (run (if d then at1 + 1 else other) below (f ∷ fs) after []) r1) k) [
        | true ↦
            flow_chain (ef_s after depth frames r1) (wants program (run (at1 + 1) below (f ∷ fs) after []) r1)
            (at1 + 1 + length (s (at1 + 1))) end below f fs
            (λ vars rest. end_of_branch_or_iteration program.profile depth rest (λ rest. ef_b vars depth frames rest))
            (S below f fs (at1 + 1) after depth frames r1 base here se.first)
            (λ last r2 sizes short.
            over_law (at1 + 1 + length (s (at1 + 1))) to below (f ∷ fs) last depth frames r2
            (λ rest. ef_b last depth frames rest) k sizes tied.deep se.zero se.jump
            (λ r3 h3. behind last r3 sizes (omega (arith, short, h3))))
        | false ↦
            flow_chain (ef_t after depth frames r1) (wants program (run other below (f ∷ fs) after []) r1) to end below
            f
            fs (λ vars rest. ef_b vars depth frames rest)
            (T below f fs other after depth frames r1 base here se.second)
            behind
      ]))

  -- what the piece does along fewer than n replies
  abbrev pub Effects_sooner : CodeAt → Evaluation Completion → Type 0
  Effects_sooner piece ev =
      (below : List ℤ) (f : Frame) (fs : List Frame) (at : ℕ) (vars : Vars) (depth frames : ℕ) (trace : List ℤ) →
      f.base ≡ length below → Tied e l n below (f ∷ fs) vars [] depth frames trace → length trace < n →
      StandsAt program at (piece at) →
      Follows e l n (ev vars depth frames trace) (wants program (run at below (f ∷ fs) vars []) trace)
      (flown program (at + length (piece at)) below f fs)

  pub while_law : (c s b : CodeAt) (ev : Evaluation ℤ) (ef_s ef_b turn : Evaluation Completion) →
      Evaluates program e l n c ev →
      Effects program e l n s ef_s → Effects program e l n b ef_b → Effects_sooner (loop c s ⨾ b) turn →
      Effects program e l n (loop c s ⨾ b)
      (λ vars depth frames trace. and_then (ev vars depth frames trace)
      (λ x vars rest. quiet_cycle rest
      (λ rest. if holds x then and_on (ef_s vars depth frames rest)
      (λ vars rest. end_of_branch_or_iteration program.profile depth rest (λ rest. turn vars depth frames rest)) else
      ef_b vars depth
      frames rest)))
  while_law c s b ev ef_s ef_b turn C S B again below f fs at vars depth frames trace base tied st =
      let back = only (Const (pos 0) ∷ Branch at ∷ []) in
      let sl = stands program at (loop c s) b st in
      let sc = stands program at c (past (s ⨾ back)) sl.first in
      let at1 = at + length (c at) in
      let ss = stands program (at1 + 1) s back sc.second.1 in
      let at2 = at1 + 1 + length (s (at1 + 1)) in
      let to = at1 + 1 + length ((s ⨾ back) (at1 + 1)) in
      let to_is : at + length (loop c s at) ≡ to = sym (ends at c (past (s ⨾ back))) ∙ omega arith in
      let sb : StandsAt program to (b to) = subst (λ (a : ℕ). StandsAt program a (b a)) to_is sl.second in
      let end = at + length ((loop c s ⨾ b) at) in
      let end_is : to + length (b to) ≡ end = ap (λ (a : ℕ). a + length (b a)) (sym to_is) ∙ ends at (loop c s) b in
      let k = flown program end below f fs in
      let first =
      λ (vars : Vars) (rest : List ℤ). and_on (ef_s vars depth frames rest)
      (λ vars rest. end_of_branch_or_iteration program.profile depth rest (λ rest. turn vars depth frames rest)) in
      chain e l e l n (ev vars depth frames trace) (wants program (run at below (f ∷ fs) vars []) trace)
      (gone_on program at1 below (f ∷ fs) [])
      (λ x vars rest. quiet_cycle rest (λ rest. if holds x then first vars rest else ef_b vars depth frames rest)) k
      (C below (f ∷ fs) at vars [] depth frames trace tied sc.first)
      (λ x after rest sizes short.
      on_branch program e l n below (f ∷ fs) at1 k after [] to x rest
      (λ rest. if holds x then first after rest else ef_b after depth frames rest) sc.second.0
      (λ r1 h1.
      let here = tied_on below (f ∷ fs) vars after depth frames trace r1 tied sizes (omega (arith, h1, short)) in
      elim (holds x) as
      (λ (d : Bool). Follows e l n (if d then first after r1 else ef_b after depth frames r1)
      (wants program (run (if d then at1 + 1 else to) below (f ∷ fs) after []) r1) k) [
        | true ↦
            flow_chain (ef_s after depth frames r1) (wants program (run (at1 + 1) below (f ∷ fs) after []) r1) at2 end
            below f fs
            (λ vars rest. end_of_branch_or_iteration program.profile depth rest (λ rest. turn vars depth frames rest))
            (S below f fs (at1 + 1) after depth frames r1 base here ss.first)
            (λ last r2 sizes short.
            over_law at2 at below (f ∷ fs) last depth frames r2 (λ rest. turn last depth frames rest) k sizes tied.deep
            ss.second.0 ss.second.1.0
            (λ r3 h3.
            again below f fs at last depth frames r3 base
            (tied_on below (f ∷ fs) vars last depth frames trace r3 tied sizes (omega (arith, short, h3)))
            (omega (arith, short, h3)) st))
        | false ↦
            ends_at (to + length (b to)) end below f fs (ef_b after depth frames r1)
            (wants program (run to below (f ∷ fs) after []) r1) end_is
            (B below f fs to after depth frames r1 base here sb)
      ]))

  -- a return, from main or from a call
  returns : (end at : ℕ) (below : List ℤ) (f : Frame) (fs : List Frame) (vars : Vars) (frames : ℕ) (x : ℤ)
      (rest : List ℤ) → f.base ≡ length below → frames ≡ length (f ∷ fs) → HasSizes e l vars → length rest ≤ n →
      instr_at program at ≡ Some Retsub →
      Follows e l n (tick (nat_lt 1 frames) Quiet rest (λ reply rest. Gives (Returns x) vars rest))
      (wants program (run at below (f ∷ fs) vars (x ∷ [])) rest) (flown program end below f fs)
  returns end at below f [] vars frames x rest base count sizes short here =
      on_retsub_of_main program e l n below [] at (flown program end below f []) f vars [] frames x rest
      (λ rest. Gives (Returns x) vars rest) here base count
  returns end at below f (g ∷ fs) vars frames x rest base count sizes short here =
      on_retsub program e l n below (g ∷ fs) at (flown program end below f (g ∷ fs)) f vars [] frames x rest
      (λ rest. Gives (Returns x) vars rest) here base count
      (λ r1 h1. record { sizes = sizes; short = omega (arith, h1, short); same = refl })

  pub return_law : (a b : CodeAt) (ev : Evaluation ℤ) → Evaluates program e l n a ev →
      Effects program e l n (a ⨾ only (Retsub ∷ []) ⨾ b)
      (λ vars depth frames trace. and_then (ev vars depth frames trace)
      (λ x vars rest. tick (nat_lt 1 frames) Quiet rest (λ reply rest. Gives (Returns x) vars rest)))
  return_law a b ev A below f fs at vars depth frames trace base t s =
      let tail = only (Retsub ∷ []) ⨾ b in
      let sa = stands program at a tail s in
      let at1 = at + length (a at) in
      let end = at + length ((a ⨾ tail) at) in
      chain e l e l n (ev vars depth frames trace) (wants program (run at below (f ∷ fs) vars []) trace)
      (gone_on program at1 below (f ∷ fs) [])
      (λ x vars rest. tick (nat_lt 1 frames) Quiet rest (λ reply rest. Gives (Returns x) vars rest))
      (flown program end below f fs)
      (A below (f ∷ fs) at vars [] depth frames trace t sa.first)
      (λ x after rest sizes short. returns end at1 below f fs after frames x rest base t.count sizes short sa.second.0)
