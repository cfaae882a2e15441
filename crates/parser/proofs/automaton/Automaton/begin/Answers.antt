use Rattle.std.proofs.Common.{◌∙◌, ap, ◌+◌, arith}
use Rattle.grammar.specs.Grammar.{AKeyword}
use Rattle.parser.specs.FrameSteps.{terminal_items}
use Rattle.parser.proofs.Passing.{passed_on}
use Rattle.parser.proofs.AutomatonLaws.{may_report, refuses, told_all}
use Rattle.parser.proofs.FrameSteps.{begun, can_close, goes_to, has_place, left_behind, word_nests, word_path}
use Rattle.parser.proofs.PathLaws.{falls, out_of_memory, token_falls, token_past}
use Rattle.parser.proofs.automaton.Automaton.begin.Goals as goal

pub returns-in_err-check_nesting-clause-moves : goal.returns-in_err-check_nesting-clause-moves
returns-in_err-check_nesting-clause-moves g c =
    word_nests c.requires.begins _ _ c.from_residual.result c.from_residual.ensures.1
    c.in_err-check_nesting.ensures.refused c.requires.starts

pub report-requires : goal.report-requires
report-requires g c =
    let h = c.requires.at.is in
    record {
      inner = c.requires.begins.inner;
      follow = may_report h.acts _ h.told h.new
          (word_path c.requires.begins c.requires.starts (rw h.depth c.in_ok-check_nesting.ensures.ok) h.path);
    }

pub returns-in_err-report-clause-moves : goal.returns-in_err-report-clause-moves
returns-in_err-report-clause-moves g c =
    rw (passed_on c.from_residual-in_err-report.result c.from_residual-in_err-report.ensures.1) (λ o h.
    out_of_memory h.path (refuses c.in_err-report.field-0.0 _ c.in_err-report.ensures.memory))

pub returns-in_err-advance-clause-moves : goal.returns-in_err-advance-clause-moves
returns-in_err-advance-clause-moves g c =
    rw (passed_on c.from_residual-in_err-advance.result c.from_residual-in_err-advance.ensures.1) (λ o h.
    token_falls (AKeyword c.args.word) c.requires.starts (told_all _ _ _ c.in_ok-report.ensures.reported h.told)
    c.in_err-advance.ensures.kept c.in_err-advance.ensures.consumes
    (word_path c.requires.begins c.requires.starts (rw h.depth c.in_ok-check_nesting.ensures.ok) h.path))

pub returns-in_err-pass-clause-moves : goal.returns-in_err-pass-clause-moves
returns-in_err-pass-clause-moves g c =
    rw (passed_on c.from_residual-in_err-pass.result c.from_residual-in_err-pass.ensures.1) (λ o h.
    falls (terminal_items c.args.token) _ c.in_err-pass.field-0.0
    (token_past (AKeyword c.args.word) c.requires.starts c.in_ok-advance.ensures.consumes c.in_ok-advance.ensures.kept
    (word_path c.requires.begins c.requires.starts (rw h.depth c.in_ok-check_nesting.ensures.ok) h.path))
    (told_all _ _ _ c.in_ok-report.ensures.reported h.told) c.in_err-pass.ensures.kept c.in_err-pass.ensures.matches)

pub derive-requires : goal.derive-requires
derive-requires g c =
    let h = c.requires.at.is in
    let count = c.requires.begins.nested _ ∙ ap (λ n. n + 1) h.depth in
    record {
      place = has_place c.args.next _ _ h.fits count (omega (arith, c.in_ok-check_nesting.ensures.ok));
      closes = can_close c.args.next _ _ count;
    }

pub returns-clause-moves : goal.returns-clause-moves
returns-clause-moves g c = λ o h.
    rw c.derive.ensures.front (goes_to c.args.next _ _ h c.derive.ensures.frames c.derive.ensures.depth
    (begun c.args.next _ (c.requires.begins.silent _) (c.in_ok-pass.ensures.passes _ _ _ _
    (token_past (AKeyword c.args.word) c.requires.starts c.in_ok-advance.ensures.consumes c.in_ok-advance.ensures.kept
    (word_path c.requires.begins c.requires.starts (rw h.depth c.in_ok-check_nesting.ensures.ok) h.path))))
    (told_all _ _ _ c.in_ok-report.ensures.reported h.told) (c.requires.begins.nested _ ∙ ap (λ n. n + 1) h.depth)
    (omega (arith, c.in_ok-check_nesting.ensures.ok)) h.fits (c.requires.begins.waits _ h.fits))

pub returns-clause-falls : goal.returns-clause-falls
returns-clause-falls g c =
    rw (c.derive.ensures.front, c.derive.ensures.frames)
    (omega (
      arith,
      left_behind c.args.next c.args.self.now.frames,
      c.in_ok-advance.ensures.kept.falls,
      c.in_ok-pass.ensures.kept.falls,
    ))
