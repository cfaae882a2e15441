use Rattle.std.proofs.Common.{ℤ, [], ◌∷◌, refl, sym, subst, w32, arith}
use Rattle.std.proofs.lemmas.Int.{to_z_pos}
use Rattle.grammar.specs.declared.actions.Action.TheVariants.{PushConstant}
use Rattle.grammar.specs.Building.{Appends, MayFollow}
use Rattle.grammar.specs.Grammar.{AConstant}
use Rattle.parser.proofs.Passing.{passed_on}
use Rattle.parser.proofs.AutomatonLaws.{operand_done, refuses}
use Rattle.parser.proofs.OperandForms.{constant_stops}
use Rattle.parser.proofs.OperandSteps.{constant_path}
use Rattle.parser.proofs.PathLaws.{constant_past, falls, may, told_more, out_of_memory}
use Rattle.parser.proofs.automaton.Automaton.constant.Goals as goal

pub returns-in_err-advance-clause-moves : goal.returns-in_err-advance-clause-moves
returns-in_err-advance-clause-moves g c =
    rw (passed_on c.from_residual.result c.from_residual.ensures.1) (λ o h.
    falls (AConstant ∷ []) _ c.in_err-advance.field-0.0 (constant_path c.args.value c.requires.starts.is h.path) h.told
    c.in_err-advance.ensures.kept
    (constant_stops _ _ c.args.value _ c.requires.starts.is c.in_err-advance.ensures.consumes))

pub act-requires : goal.act-requires
act-requires g c =
    let h = c.requires.at.is in
    record {
      follows = subst (λ (v : ℤ). MayFollow (g.B.Build.stands c.args.self.now.builder.now) (PushConstant v))
          (sym (to_z_pos w32 c.args.value (let fits = c.requires.starts.fits in omega arith)))
          (may h.acts h.told h.new (constant_past c.args.value c.requires.starts.is c.in_ok-advance.ensures.consumes
          c.in_ok-advance.ensures.kept
          (constant_path c.args.value c.requires.starts.is h.path)));
    }

pub returns-in_err-act-clause-moves : goal.returns-in_err-act-clause-moves
returns-in_err-act-clause-moves g c =
    rw (passed_on c.from_residual-in_err-act.result c.from_residual-in_err-act.ensures.1) (λ o h.
    out_of_memory
    (constant_past c.args.value c.requires.starts.is c.in_ok-advance.ensures.consumes c.in_ok-advance.ensures.kept
    (constant_path c.args.value c.requires.starts.is h.path))
    (refuses c.in_err-act.field-0.0 _ c.in_err-act.ensures.judged))

pub returns-clause-moves : goal.returns-clause-moves
returns-clause-moves g c = λ o h.
    operand_done c.args.floor h
    (constant_past c.args.value c.requires.starts.is c.in_ok-advance.ensures.consumes c.in_ok-advance.ensures.kept
    (constant_path c.args.value c.requires.starts.is h.path))
    (told_more _ _ (subst (λ (v : ℤ). Appends (g.B.Build.stands c.args.self.now.builder.now)
    (g.B.Build.stands c.act.new.self) (PushConstant v))
    (to_z_pos w32 c.args.value (let fits = c.requires.starts.fits in omega arith)) c.in_ok-act.ensures.ok) h.told)
    refl refl
