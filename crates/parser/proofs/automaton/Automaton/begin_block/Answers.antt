use Rattle.std.proofs.Common.{◌+◌, [], ◌∷◌, refl, ap, arith}
use Rattle.tokens.specs.declared.located_tokens.Punctuator.TheVariants as punctuator
use Rattle.grammar.specs.Grammar.{Block, Declarations, Exactly, Part}
use Rattle.parser.specs.ScopedCursors.{token_of}
use Rattle.parser.proofs.Passing.{passed_on}
use Rattle.parser.proofs.AutomatonLaws.{comes_to, nests}
use Rattle.parser.proofs.Forms.{begins_block, in_braces}
use Rattle.parser.proofs.Productions.{chooses_any, token_too_deep}
use Rattle.parser.proofs.PathLaws.{falls, token_falls, token_past}
use Rattle.parser.proofs.StatementSteps.{block_path, braces_path}
use Rattle.parser.proofs.automaton.Automaton.begin_block.Goals as goal

pub returns-in_err-check_nesting-clause-moves : goal.returns-in_err-check_nesting-clause-moves
returns-in_err-check_nesting-clause-moves g c =
    let b = begins_block (token_of c.args.self.now.tokens) c.requires.starts in
    rw (passed_on c.from_residual.result c.from_residual.ensures.1) (λ o h.
    nests (block_path c.requires.starts h.path) h.depth c.in_err-check_nesting.ensures.refused (λ depth.
    token_too_deep _ _ h.path.ready.near depth Block (Exactly punctuator.OpenCurly) in_braces
    (chooses_any h.path.ready.sound b.chosen) (λ after more. b.opened after) c.requires.starts))

pub returns-in_err-advance-clause-moves : goal.returns-in_err-advance-clause-moves
returns-in_err-advance-clause-moves g c =
    rw (passed_on c.from_residual-in_err-advance.result c.from_residual-in_err-advance.ensures.1) (λ o h.
    token_falls (Exactly punctuator.OpenCurly) c.requires.starts h.told c.in_err-advance.ensures.kept
    c.in_err-advance.ensures.consumes (braces_path c.requires.starts (rw h.depth c.in_ok-check_nesting.ensures.ok)
    (block_path c.requires.starts h.path)))

pub returns-in_err-declarations-clause-moves : goal.returns-in_err-declarations-clause-moves
returns-in_err-declarations-clause-moves g c =
    rw (passed_on c.from_residual-in_err-declarations.result c.from_residual-in_err-declarations.ensures.1) (λ o h.
    falls (Part Declarations ∷ []) _ c.in_err-declarations.field-0.0
    (token_past (Exactly punctuator.OpenCurly) c.requires.starts c.in_ok-advance.ensures.consumes
    c.in_ok-advance.ensures.kept (braces_path c.requires.starts (rw h.depth c.in_ok-check_nesting.ensures.ok)
    (block_path c.requires.starts h.path))) h.told c.in_err-declarations.ensures.kept
    c.in_err-declarations.ensures.matches)

pub returns-clause-moves : goal.returns-clause-moves
returns-clause-moves g c = λ o h.
    rw c.push.ensures (comes_to h
    (c.in_ok-declarations.ensures.passes _ _ _ _
    (token_past (Exactly punctuator.OpenCurly) c.requires.starts c.in_ok-advance.ensures.consumes
    c.in_ok-advance.ensures.kept (braces_path c.requires.starts (rw h.depth c.in_ok-check_nesting.ensures.ok)
    (block_path c.requires.starts h.path)))) h.told (ap (λ n. n + 1) h.depth)
    (omega (arith, c.in_ok-check_nesting.ensures.ok)) (record { level = 0; takes = (refl, h.fits); ends = tt }))
