use Rattle.std.proofs.Common.{◌≡◌, ◌+◌, [], ◌∷◌, refl, ap, sym, true, false, arith}
use Rattle.tokens.specs.declared.located_tokens.Punctuator.TheVariants as punctuator
use Rattle.grammar.specs.Grammar.{Declarations, Empty, Exactly, Part, is_punctuator}
use Rattle.parser.specs.Declarations.{header_items}
use Rattle.parser.specs.ScopedCursors.{token_of}
use Rattle.parser.proofs.Passing.{passed_on}
use Rattle.parser.proofs.AutomatonLaws.{comes_to}
use Rattle.parser.proofs.PathLaws.{falls, made, may, out_of_memory, token_falls, token_past, told_more}
use Rattle.parser.proofs.AutomatonLaws.{refuses}
use Rattle.parser.proofs.SourceSteps.{block_misfits, function_block_path}
use Rattle.parser.proofs.automaton.Automaton.definition.Goals as goal

pub returns-in_err-number-clause-moves : goal.returns-in_err-number-clause-moves
returns-in_err-number-clause-moves g c =
    rw (passed_on c.from_residual.result c.from_residual.ensures.1) (λ o h.
    falls header_items _ c.in_err-number.field-0.0 h.path h.told c.in_err-number.ensures.kept
    c.in_err-number.ensures.matches)

pub returns-then-not-is_punctuator-clause-moves : goal.returns-then-not-is_punctuator-clause-moves
returns-then-not-is_punctuator-clause-moves g c =
    let other : is_punctuator punctuator.OpenCurly (token_of c.function_header.new.parser) ≡ false = cc in
    λ o h.
    rw c.unexpected_token.ensures (block_misfits other (c.in_ok-number.ensures.passes _ _ _ _ h.path))

pub act-requires : goal.act-requires
act-requires g c =
    let is : is_punctuator punctuator.OpenCurly (token_of c.function_header.new.parser) ≡ true = cc in
    let h = c.requires.at.is in
    record {
      follows =
          (rw (c.in_ok-number.ensures.begun.is, sym c.parameter_count.ensures.count) at
          (may h.acts h.told h.new
          (function_block_path is (rw h.fits.0 (omega arith)) (c.in_ok-number.ensures.passes _ _ _ _ h.path))));
    }

pub returns-in_err-act-clause-moves : goal.returns-in_err-act-clause-moves
returns-in_err-act-clause-moves g c =
    rw (passed_on c.from_residual-in_err-act.result c.from_residual-in_err-act.ensures.1) (λ o h.
    out_of_memory (c.in_ok-number.ensures.passes _ _ _ _ h.path)
    (refuses c.in_err-act.field-0.0 _ c.in_err-act.ensures.judged))

pub returns-in_err-advance-clause-moves : goal.returns-in_err-advance-clause-moves
returns-in_err-advance-clause-moves g c =
    let is : is_punctuator punctuator.OpenCurly (token_of c.function_header.new.parser) ≡ true = cc in
    let added = rw (sym c.in_ok-number.ensures.begun.is, c.parameter_count.ensures.count) at c.in_ok-act.ensures.ok in
    rw (passed_on c.from_residual-in_err-advance.result c.from_residual-in_err-advance.ensures.1) (λ o h.
    token_falls (Exactly punctuator.OpenCurly) is (told_more _ _ added h.told) c.in_err-advance.ensures.kept
    c.in_err-advance.ensures.consumes
    (function_block_path is (rw h.fits.0 (omega arith)) (c.in_ok-number.ensures.passes _ _ _ _ h.path)))

pub returns-in_err-declarations-clause-moves : goal.returns-in_err-declarations-clause-moves
returns-in_err-declarations-clause-moves g c =
    let is : is_punctuator punctuator.OpenCurly (token_of c.function_header.new.parser) ≡ true = cc in
    let added = rw (sym c.in_ok-number.ensures.begun.is, c.parameter_count.ensures.count) at c.in_ok-act.ensures.ok in
    rw (passed_on c.from_residual-in_err-declarations.result c.from_residual-in_err-declarations.ensures.1) (λ o h.
    falls (Part Declarations ∷ []) _ c.in_err-declarations.field-0.0 (made Empty tt (token_past
    (Exactly punctuator.OpenCurly) is c.in_ok-advance.ensures.consumes c.in_ok-advance.ensures.kept
    (function_block_path is (rw h.fits.0 (omega arith)) (c.in_ok-number.ensures.passes _ _ _ _ h.path))))
    (told_more _ _ added h.told) c.in_err-declarations.ensures.kept
    c.in_err-declarations.ensures.matches)

pub push-requires : goal.push-requires
push-requires g c = rw c.requires.at.is.fits.0 (omega arith)

pub returns-clause-moves : goal.returns-clause-moves
returns-clause-moves g c =
    let is : is_punctuator punctuator.OpenCurly (token_of c.function_header.new.parser) ≡ true = cc in
    let added = rw (sym c.in_ok-number.ensures.begun.is, c.parameter_count.ensures.count) at c.in_ok-act.ensures.ok in
    λ o h.
    rw c.push.ensures (comes_to h (c.in_ok-declarations.ensures.passes _ _ _ _ (made Empty tt (token_past
    (Exactly punctuator.OpenCurly) is c.in_ok-advance.ensures.consumes c.in_ok-advance.ensures.kept
    (function_block_path is (rw h.fits.0 (omega arith)) (c.in_ok-number.ensures.passes _ _ _ _ h.path)))))
    (told_more _ _ added h.told) (ap (λ n. n + 1) h.depth)
    (rw (sym h.depth, h.fits.0) (omega arith)) (record { level = 0; takes = (refl, h.fits.0); ends = tt }))
