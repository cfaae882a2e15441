use Rattle.std.proofs.Common.{◌≡◌, ◌+◌, [], ◌∷◌, refl, ap, true, false, arith}
use Rattle.tokens.specs.declared.located_tokens.Punctuator.TheVariants as punctuator
use Rattle.grammar.specs.Grammar.{AName, Arguments, Called, Close, Exactly, Invoke, Make, Part, Primary, is_punctuator}
use Rattle.parser.specs.ScopedCursors.{token_of}
use Rattle.parser.proofs.Passing.{passed_on}
use Rattle.parser.proofs.AutomatonLaws.{awaits, comes_to, has_room, nests, refuses, shallow, under_tails}
use Rattle.parser.proofs.NameLaws.{is_named, named_found}
use Rattle.parser.proofs.OperandForms.{call_chooses, call_enters}
use Rattle.parser.proofs.OperandSteps.{call_path, first_argument_path, named_path, no_arguments_path}
use Rattle.parser.proofs.PathLaws.{falls, may, told_more, out_of_memory}
use Rattle.parser.proofs.Productions.{name_too_deep}
use Rattle.parser.proofs.automaton.Automaton.call.Goals as goal

pub returns-in_err-check_nesting-clause-moves : goal.returns-in_err-check_nesting-clause-moves
returns-in_err-check_nesting-clause-moves g c =
    rw (passed_on c.from_residual.result c.from_residual.ensures.1) (λ o h.
    nests (named_path (is_named _ c.requires.starts.named) h.path)
    (under_tails c.args.floor _ c.args.self.now.frames h.depth) c.in_err-check_nesting.ensures.refused
    (λ depth. name_too_deep c.args.self.now.tokens.position _ h.path.ready.near depth Primary Called _
    (Exactly punctuator.OpenRound ∷ Part Arguments ∷ Exactly punctuator.CloseRound ∷ Make Invoke ∷ Close ∷ [])
    (call_chooses c.args.self.now.tokens.position (is_named _ c.requires.starts.named) c.requires.starts.is)
    (call_enters c.args.self.now.tokens.position (is_named _ c.requires.starts.named) c.requires.starts.is)
    (named_found _ (is_named _ c.requires.starts.named))))

pub returns-in_err-callee-clause-moves : goal.returns-in_err-callee-clause-moves
returns-in_err-callee-clause-moves g c =
    rw (passed_on c.from_residual-in_err-callee.result c.from_residual-in_err-callee.ensures.1) (λ o h.
    falls (AName Called ∷ []) _ c.in_err-callee.field-0.0
    (call_path c.requires.starts
    (shallow c.args.floor _ c.args.self.now.frames h.depth c.in_ok-check_nesting.ensures.ok) h.path) h.told
    c.in_err-callee.ensures.kept
    c.in_err-callee.ensures.matches)

pub act-requires : goal.act-requires
act-requires g c =
    let h = c.requires.at.is in
    record {
      follows =
          may h.acts h.told h.new
          (c.in_ok-callee.ensures.passes _ _ _ _
          (call_path c.requires.starts
          (shallow c.args.floor _ c.args.self.now.frames h.depth c.in_ok-check_nesting.ensures.ok) h.path));
    }

pub returns-in_err-act-clause-moves : goal.returns-in_err-act-clause-moves
returns-in_err-act-clause-moves g c =
    rw (passed_on c.from_residual-in_err-act.result c.from_residual-in_err-act.ensures.1) (λ o h.
    out_of_memory
    (c.in_ok-callee.ensures.passes _ _ _ _
    (call_path c.requires.starts
    (shallow c.args.floor _ c.args.self.now.frames h.depth c.in_ok-check_nesting.ensures.ok) h.path))
    (refuses c.in_err-act.field-0.0 _ c.in_err-act.ensures.judged))

pub returns-in_err-expect-clause-moves : goal.returns-in_err-expect-clause-moves
returns-in_err-expect-clause-moves g c =
    rw (passed_on c.from_residual-in_err-expect.result c.from_residual-in_err-expect.ensures.1) (λ o h.
    falls (Exactly punctuator.OpenRound ∷ []) _ c.in_err-expect.field-0.0
    (c.in_ok-callee.ensures.passes _ _ _ _
    (call_path c.requires.starts
    (shallow c.args.floor _ c.args.self.now.frames h.depth c.in_ok-check_nesting.ensures.ok) h.path))
    (told_more _ _ c.in_ok-act.ensures.ok h.told) c.in_err-expect.ensures.kept
    c.in_err-expect.ensures.matches)

pub returns-then-is_punctuator-clause-moves : goal.returns-then-is_punctuator-clause-moves
returns-then-is_punctuator-clause-moves g c =
    let is : is_punctuator punctuator.CloseRound (token_of c.expect.new.self) ≡ true = cc in
    λ o h.
    comes_to h
    (no_arguments_path is
    (c.in_ok-expect.ensures.passes _ _ _ _
    (c.in_ok-callee.ensures.passes _ _ _ _
    (call_path c.requires.starts
    (shallow c.args.floor _ c.args.self.now.frames h.depth c.in_ok-check_nesting.ensures.ok) h.path))))
    (told_more _ _ c.in_ok-act.ensures.ok h.told) h.depth h.few
    (record { least = h.fits.least; most = h.fits.most; takes = h.fits.takes; trees = (refl, h.fits.trees) })

pub push-requires : goal.push-requires
push-requires g c =
    let h = c.requires.at.is in
    has_room _ c.args.floor h.fits.most h.fits.takes (rw h.depth c.in_ok-check_nesting.ensures.ok)

pub returns-clause-moves : goal.returns-clause-moves
returns-clause-moves g c =
    let other : is_punctuator punctuator.CloseRound (token_of c.expect.new.self) ≡ false = cc in
    λ o h.
    rw c.push.ensures (comes_to h
    (first_argument_path other
    (c.in_ok-expect.ensures.passes _ _ _ _
    (c.in_ok-callee.ensures.passes _ _ _ _
    (call_path c.requires.starts
    (shallow c.args.floor _ c.args.self.now.frames h.depth c.in_ok-check_nesting.ensures.ok) h.path))))
    (told_more _ _ c.in_ok-act.ensures.ok h.told)
    (ap (λ n. n + 1) (under_tails c.args.floor _ c.args.self.now.frames h.depth))
    (omega (arith, c.in_ok-check_nesting.ensures.ok))
    (awaits (refl, h.fits.least, h.fits.most, h.fits.takes) (refl, h.fits.trees)))
