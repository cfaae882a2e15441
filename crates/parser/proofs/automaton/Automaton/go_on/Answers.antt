use Rattle.std.proofs.Common.{◌∙◌, arith}
use Rattle.parser.specs.FrameSteps.{rule_of, terminal_items}
use Rattle.parser.proofs.Passing.{passed_on}
use Rattle.parser.proofs.AutomatonLaws.{may_report, refuses, told_all}
use Rattle.parser.proofs.FrameSteps.{acted, can_close, counted, goes_to, has_place, left_behind, stepped}
use Rattle.parser.proofs.PathLaws.{falls, out_of_memory}
use Rattle.parser.proofs.automaton.Automaton.go_on.Goals as goal

pub returns-in_err-pass-clause-moves : goal.returns-in_err-pass-clause-moves
returns-in_err-pass-clause-moves g c =
    rw (passed_on c.from_residual.result c.from_residual.ensures.1) (λ o h.
    falls (terminal_items c.args.first) _ c.in_err-pass.field-0.0 (stepped c.requires.step _ h.path) h.told
    c.in_err-pass.ensures.kept c.in_err-pass.ensures.matches)

pub returns-in_err-pass-2-clause-moves : goal.returns-in_err-pass-2-clause-moves
returns-in_err-pass-2-clause-moves g c =
    rw (passed_on c.from_residual-in_err-pass-2.result c.from_residual-in_err-pass-2.ensures.1) (λ o h.
    falls (terminal_items c.args.second) _ c.in_err-pass-2.field-0.0
    (c.in_ok-pass.ensures.passes _ _ _ _ (stepped c.requires.step _ h.path)) h.told c.in_err-pass-2.ensures.kept
    c.in_err-pass-2.ensures.matches)

pub report-requires : goal.report-requires
report-requires g c =
    let h = c.requires.at.is in
    record {
      inner = c.requires.step.inner;
      follow = may_report h.acts _ h.told h.new (acted c.args.action (rule_of c.args.frame) (c.requires.step.emits _)
          (c.in_ok-pass-2.ensures.passes _ _ _ _
          (c.in_ok-pass.ensures.passes _ _ _ _ (stepped c.requires.step _ h.path))));
    }

pub returns-in_err-report-clause-moves : goal.returns-in_err-report-clause-moves
returns-in_err-report-clause-moves g c =
    rw (passed_on c.from_residual-in_err-report.result c.from_residual-in_err-report.ensures.1) (λ o h.
    out_of_memory (c.in_ok-pass-2.ensures.passes _ _ _ _
    (c.in_ok-pass.ensures.passes _ _ _ _ (stepped c.requires.step _ h.path)))
    (refuses c.in_err-report.field-0.0 _ c.in_err-report.ensures.memory))

pub derive-requires : goal.derive-requires
derive-requires g c =
    let h = c.requires.at.is in
    let count = counted c.requires.step _ ∙ h.depth in
    record {
      place = has_place c.args.next _ _ (c.requires.step.within _ _ h.fits.takes) count h.few;
      closes = can_close c.args.next _ _ count;
    }

pub returns-clause-moves : goal.returns-clause-moves
returns-clause-moves g c = λ o h.
    rw c.derive.ensures.front (goes_to c.args.next _ _ h c.derive.ensures.frames c.derive.ensures.depth
    (acted c.args.action (rule_of c.args.frame) (c.requires.step.emits _) (c.in_ok-pass-2.ensures.passes _ _ _ _
    (c.in_ok-pass.ensures.passes _ _ _ _ (stepped c.requires.step _ h.path))))
    (told_all _ _ _ c.in_ok-report.ensures.reported h.told) (counted c.requires.step _ ∙ h.depth) h.few
    (c.requires.step.within _ _ h.fits.takes)
    (c.requires.step.waits _ (c.requires.step.within _ _ h.fits.takes)))

pub returns-clause-falls : goal.returns-clause-falls
returns-clause-falls g c =
    rw (c.derive.ensures.front, c.derive.ensures.frames)
    (omega (
      arith,
      left_behind c.args.next c.args.self.now.frames,
      c.in_ok-pass.ensures.kept.falls,
      c.in_ok-pass-2.ensures.kept.falls,
    ))
