use Rattle.std.proofs.Common.{◌≡◌, false}
use Rattle.tokens.specs.declared.located_tokens.Punctuator.TheVariants as punctuator
use Rattle.grammar.specs.Grammar.{is_punctuator}
use Rattle.parser.specs.ScopedCursors.{token_of}
use Rattle.parser.proofs.OperandForms.{only_punctuator}
use Rattle.parser.proofs.OperandSteps.{operand_misfits}
use Rattle.parser.proofs.automaton.Automaton.operand_from_punctuator.Goals as goal

pub returns-clause-moves : goal.returns-clause-moves
returns-clause-moves g c =
    let other : is_punctuator punctuator.OpenRound (token_of c.args.self.now.tokens) ≡ false = cc in
    λ o h.
    rw c.unexpected_token.ensures (operand_misfits
    (record {
      sound = h.path.ready.sound;
      signs = λ s. rw c.peek.ensures.value at (c.in_default.ensures.none s);
      increments = λ s. rw c.peek-2.ensures.value at (c.in_default-increment_op_of.ensures.none s);
    }) (only_punctuator _ c.requires.starts.m c.requires.starts.is other) h.path)
