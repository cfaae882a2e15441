use Rattle.std.proofs.Common.{◌≡◌, ◌+◌, ◌-◌, ◌≤◌, ◌++◌, refl, true, false, arith}
use Rattle.tokens.specs.declared.located_tokens.Punctuator.TheVariants as punctuator
use Rattle.grammar.specs.Grammar.{AddArgument, Exactly, is_punctuator}
use Rattle.grammar.specs.Faults.{nested_count}
use Rattle.grammar.specs.declared.operators.TheConstants.{UNARY_LEVEL}
use Rattle.parser.specs.Automata.{all_tails, stack_of}
use Rattle.parser.specs.ScopedCursors.{token_of}
use Rattle.parser.proofs.Passing.{passed_on}
use Rattle.parser.proofs.AutomatonLaws.{awaits, closes, comes_to, has_room, moves_from, nested_tails}
use Rattle.parser.proofs.OperandSteps.{last_argument_path, next_argument_path}
use Rattle.parser.proofs.PathLaws.{made, token_falls, token_past}
use Rattle.parser.proofs.TreeLaws.{done_at, has_call, has_expr, on_both, valued}
use Rattle.parser.proofs.automaton.Automaton.argument.Goals as goal

pub end_call-requires : goal.end_call-requires
end_call-requires g c =
    let other : is_punctuator punctuator.Comma (token_of c.args.self.now.tokens) ≡ false = cc in
    let h = c.requires.at.is in
    let x = has_expr _ h.values (done_at 0 h.fits h.fits.takes.0).1 in
    let y = has_call c.args.callee _ x.rest x.below in
    record {
      at = record {
        start = c.requires.at.start;
        is = comes_to h (last_argument_path other (made AddArgument tt (valued (on_both x.is y.is) h.path))) h.told
            (closes c.args.floor _ c.args.self.now.frames h.depth) (omega (arith, h.few))
            (record { least = h.fits.takes.1; most = h.fits.takes.2; takes = h.fits.takes.3; trees = (refl, y.below) });
      };
    }

pub returns-then-not-is_punctuator-clause-moves : goal.returns-then-not-is_punctuator-clause-moves
returns-then-not-is_punctuator-clause-moves g c =
    let other : is_punctuator punctuator.Comma (token_of c.args.self.now.tokens) ≡ false = cc in
    moves_from _ _ _ _ _ _ _ c.end_call.result
    (λ o h.
    let x = has_expr _ h.values (done_at 0 h.fits h.fits.takes.0).1 in
    let y = has_call c.args.callee _ x.rest x.below in
    comes_to h (last_argument_path other (made AddArgument tt (valued (on_both x.is y.is) h.path))) h.told
    (closes c.args.floor _ c.args.self.now.frames h.depth) (omega (arith, h.few))
    (record { least = h.fits.takes.1; most = h.fits.takes.2; takes = h.fits.takes.3; trees = (refl, y.below) }))
    c.end_call.ensures.moves

pub returns-in_err-advance-clause-moves : goal.returns-in_err-advance-clause-moves
returns-in_err-advance-clause-moves g c =
    let is : is_punctuator punctuator.Comma (token_of c.args.self.now.tokens) ≡ true = cc in
    rw (passed_on c.from_residual.result c.from_residual.ensures.1) (λ o h.
    let x = has_expr _ h.values (done_at 0 h.fits h.fits.takes.0).1 in
    let y = has_call c.args.callee _ x.rest x.below in
    token_falls (Exactly punctuator.Comma) is h.told c.in_err-advance.ensures.kept c.in_err-advance.ensures.consumes
    (next_argument_path is (made AddArgument tt (valued (on_both x.is y.is) h.path))))

pub push-requires : goal.push-requires
push-requires g c =
    let h = c.requires.at.is in
    has_room _ c.args.floor h.fits.takes.2 h.fits.takes.3
    (let few : nested_count (all_tails c.args.floor ++ stack_of c.args.self.now.frames) + 1 ≡ c.args.self.now.depth =
    h.depth in
    omega (arith, few, h.few, nested_tails (UNARY_LEVEL - c.args.floor) c.args.floor (stack_of c.args.self.now.frames)))

pub returns-clause-moves : goal.returns-clause-moves
returns-clause-moves g c =
    let is : is_punctuator punctuator.Comma (token_of c.args.self.now.tokens) ≡ true = cc in
    λ o h.
    let x = has_expr _ h.values (done_at 0 h.fits h.fits.takes.0).1 in
    let y = has_call c.args.callee _ x.rest x.below in
    rw c.push.ensures (comes_to h
    (token_past (Exactly punctuator.Comma) is c.in_ok-advance.ensures.consumes c.in_ok-advance.ensures.kept
    (next_argument_path is (made AddArgument tt (valued (on_both x.is y.is) h.path)))) h.told h.depth h.few
    (awaits (refl, h.fits.takes.1, h.fits.takes.2, h.fits.takes.3) (refl, y.below)))
