use Rattle.std.proofs.Common.{◌≡◌, ◌+◌, ◌-◌, ◌∙◌, refl, arith}
use Rattle.std.specs.Prelude.{Some, None}
use Rattle.grammar.specs.Actions.{middle}
use Rattle.grammar.specs.Laws.Climbing.{operator_from}
use Rattle.grammar.specs.Grammar.{Exactly}
use Rattle.parser.specs.Automata.{stack_of}
use Rattle.parser.specs.ScopedCursors.{token_of}
use Rattle.parser.proofs.Passing.{passed_on}
use Rattle.parser.proofs.AutomatonLaws.{comes_to, has_place, may_report, moves_from, nested_tails, refuses, told_all}
use Rattle.parser.proofs.ExpressionSteps.{operand_path, operator_path}
use Rattle.parser.proofs.Operators.{at_its_own, found, looser_than_unary, spells}
use Rattle.parser.proofs.PathLaws.{out_of_memory, token_falls, token_past}
use Rattle.parser.proofs.TreeLaws.{ends_at}
use Rattle.parser.proofs.automaton.Automaton.operators.Goals as goal

pub enclosing-requires : goal.enclosing-requires
enclosing-requires g c =
    let none : operator_from c.args.floor (token_of c.args.self.now.tokens) ≡ None = cc in
    let h = c.requires.at.is in
    record {
      at = record {
        start = c.requires.at.start;
        is = comes_to h (rw none at h.path) h.told h.depth h.few
            (record {
              level = c.args.floor;
              takes = h.fits.takes;
              ends = ends_at _ _ _ c.args.floor h.fits.least none h.fits.trees;
            });
      };
    }

pub returns-in_default-clause-moves : goal.returns-in_default-clause-moves
returns-in_default-clause-moves g c =
    let none : operator_from c.args.floor (token_of c.args.self.now.tokens) ≡ None = cc in
    moves_from _ _ _ _ _ _ _ c.enclosing.result
    (λ o h. comes_to h (rw none at h.path) h.told h.depth h.few
    (record {
      level = c.args.floor;
      takes = h.fits.takes;
      ends = ends_at _ _ _ c.args.floor h.fits.least none h.fits.trees;
    }))
    c.enclosing.ensures.moves

pub report_middle-requires : goal.report_middle-requires
report_middle-requires g c =
    let h = c.requires.at.is in
    let is : operator_from c.args.floor (token_of c.args.self.now.tokens) ≡ Some c.in-Some.binary = cc in
    let s =
    spells c.in-Some.binary.level c.in-Some.binary.op _
    (at_its_own _ c.in-Some.binary (found c.args.floor _ c.in-Some.binary is).0) in
    record {
      follow =
          may_report h.acts (middle c.in-Some.binary.op) h.told h.new
          (operator_path _ c.in-Some.binary c.args.floor s is h.path);
    }

pub returns-in_err-report_middle-clause-moves : goal.returns-in_err-report_middle-clause-moves
returns-in_err-report_middle-clause-moves g c =
    rw (passed_on c.from_residual.result c.from_residual.ensures.1) (λ o h.
    out_of_memory h.path (refuses c.in_err-report_middle.field-0.0 _ c.in_err-report_middle.ensures.memory))

pub advance-requires : goal.advance-requires
advance-requires g c =
    let is : operator_from c.args.floor (token_of c.args.self.now.tokens) ≡ Some c.in-Some.binary = cc in
    let s =
    spells c.in-Some.binary.level c.in-Some.binary.op _
    (at_its_own _ c.in-Some.binary (found c.args.floor _ c.in-Some.binary is).0) in
    record { more = rw s.is refl; ready = c.requires.at.is.path.ready }

pub returns-in_err-advance-clause-moves : goal.returns-in_err-advance-clause-moves
returns-in_err-advance-clause-moves g c =
    let is : operator_from c.args.floor (token_of c.args.self.now.tokens) ≡ Some c.in-Some.binary = cc in
    let s =
    spells c.in-Some.binary.level c.in-Some.binary.op _
    (at_its_own _ c.in-Some.binary (found c.args.floor _ c.in-Some.binary is).0) in
    rw (passed_on c.from_residual-in_err-advance.result c.from_residual-in_err-advance.ensures.1) (λ o h.
    token_falls (Exactly s.m) s.fits
    (told_all _ _ (middle c.in-Some.binary.op) c.in_ok-report_middle.ensures.reported h.told)
    c.in_err-advance.ensures.kept c.in_err-advance.ensures.consumes
    (operator_path _ c.in-Some.binary c.args.floor s is h.path))

pub overflow_add-result : goal.overflow_add-result
overflow_add-result g c =
    let is : operator_from c.args.floor (token_of c.args.self.now.tokens) ≡ Some c.in-Some.binary = cc in
    omega (arith, (looser_than_unary _ c.in-Some.binary (found c.args.floor _ c.in-Some.binary is).0))

pub push-requires : goal.push-requires
push-requires g c =
    let is : operator_from c.args.floor (token_of c.args.self.now.tokens) ≡ Some c.in-Some.binary = cc in
    let h = c.requires.at.is in
    has_place _ c.args.floor
    (omega (
      arith,
      (found c.args.floor _ c.in-Some.binary is).1,
      (looser_than_unary _ c.in-Some.binary (found c.args.floor _ c.in-Some.binary is).0),
    )) h.fits.takes
    (rw h.depth h.few)

pub returns-clause-moves : goal.returns-clause-moves
returns-clause-moves g c =
    let is : operator_from c.args.floor (token_of c.args.self.now.tokens) ≡ Some c.in-Some.binary = cc in
    let s =
    spells c.in-Some.binary.level c.in-Some.binary.op _
    (at_its_own _ c.in-Some.binary (found c.args.floor _ c.in-Some.binary is).0) in
    let most = looser_than_unary _ c.in-Some.binary (found c.args.floor _ c.in-Some.binary is).0 in
    let order = (found c.args.floor _ c.in-Some.binary is).1 in
    λ o h.
    rw c.push.ensures (comes_to h
    (operand_path (c.in-Some.binary.level + 1) (omega (arith, most))
    (token_past (Exactly s.m) s.fits c.in_ok-advance.ensures.consumes c.in_ok-advance.ensures.kept
    (operator_path _ c.in-Some.binary c.args.floor s is h.path)))
    (told_all _ _ (middle c.in-Some.binary.op) c.in_ok-report_middle.ensures.reported h.told)
    (nested_tails (c.in-Some.binary.level + 1 - c.args.floor) c.args.floor (stack_of c.args.self.now.frames) ∙ h.depth)
    h.few
    (record {
      least = omega arith;
      most = omega (arith, most);
      takes = (refl, h.fits.least, order, omega (arith, most), h.fits.takes);
      trees = h.fits.trees;
    }))
