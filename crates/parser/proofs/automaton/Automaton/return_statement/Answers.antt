use Rattle.std.proofs.Common.{◌≡◌, refl, true, false}
use Rattle.std.specs.Prelude.{None}
use Rattle.tokens.specs.declared.located_tokens.Punctuator.TheVariants as punctuator
use Rattle.tokens.specs.declared.located_tokens.Keyword.TheVariants as keyword
use Rattle.grammar.specs.Grammar.{AKeyword, Zero, is_punctuator}
use Rattle.grammar.specs.Laws.Climbing.{operator_from}
use Rattle.parser.specs.ScopedCursors.{token_of}
use Rattle.parser.proofs.Passing.{passed_on}
use Rattle.parser.proofs.AutomatonLaws.{awaits, comes_to, refuses}
use Rattle.parser.proofs.Parts.{punctuator_is}
use Rattle.parser.proofs.PathLaws.{made, may, out_of_memory, token_falls, token_past, told_more}
use Rattle.parser.proofs.StatementSteps.{return_path, value_path, zero_path}
use Rattle.parser.proofs.automaton.Automaton.return_statement.Goals as goal

pub returns-in_err-advance-clause-moves : goal.returns-in_err-advance-clause-moves
returns-in_err-advance-clause-moves g c =
    rw (passed_on c.from_residual.result c.from_residual.ensures.1) (λ o h.
    token_falls (AKeyword keyword.Return) c.requires.starts h.told c.in_err-advance.ensures.kept
    c.in_err-advance.ensures.consumes
    (return_path c.requires.starts h.path))

pub act-requires : goal.act-requires
act-requires g c =
    let h = c.requires.at.is in
    let is : is_punctuator punctuator.Semicolon (token_of c.advance.new.self) ≡ true = cc in
    record {
      follows =
          may h.acts h.told h.new (made Zero tt (zero_path is (token_past (AKeyword keyword.Return) c.requires.starts
          c.in_ok-advance.ensures.consumes c.in_ok-advance.ensures.kept (return_path c.requires.starts h.path))));
    }

pub returns-in_err-act-clause-moves : goal.returns-in_err-act-clause-moves
returns-in_err-act-clause-moves g c =
    rw (passed_on c.from_residual-in_err-act.result c.from_residual-in_err-act.ensures.1) (λ o h.
    out_of_memory
    (token_past (AKeyword keyword.Return) c.requires.starts c.in_ok-advance.ensures.consumes
    c.in_ok-advance.ensures.kept
    (return_path c.requires.starts h.path)) (refuses c.in_err-act.field-0.0 _ c.in_err-act.ensures.judged))

pub returns-then-is_punctuator-clause-moves : goal.returns-then-is_punctuator-clause-moves
returns-then-is_punctuator-clause-moves g c =
    let is : is_punctuator punctuator.Semicolon (token_of c.advance.new.self) ≡ true = cc in
    let none : operator_from 1 (token_of c.advance.new.self) ≡ None =
    rw (punctuator_is punctuator.Semicolon (token_of c.advance.new.self) is) refl in
    λ o h.
    rw c.push.ensures (comes_to h
    (made Zero tt (zero_path is (token_past (AKeyword keyword.Return) c.requires.starts c.in_ok-advance.ensures.consumes
    c.in_ok-advance.ensures.kept (return_path c.requires.starts h.path))))
    (told_more _ _ c.in_ok-act.ensures.ok h.told) h.depth h.few
    (record { level = 1; takes = (refl, h.fits); ends = (none, tt) }))

pub returns-clause-moves : goal.returns-clause-moves
returns-clause-moves g c =
    let other : is_punctuator punctuator.Semicolon (token_of c.advance.new.self) ≡ false = cc in
    λ o h.
    rw c.push.ensures (comes_to h (value_path other (token_past (AKeyword keyword.Return) c.requires.starts
    c.in_ok-advance.ensures.consumes c.in_ok-advance.ensures.kept (return_path c.requires.starts h.path))) h.told
    h.depth h.few (awaits (refl, h.fits) tt))
