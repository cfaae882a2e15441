use Rattle.std.proofs.Common.{◌∙◌, ap, sym}
use Rattle.tokens.specs.declared.located_tokens.LocatedToken.{LocatedToken}
use Rattle.tokens.specs.declared.located_tokens.Punctuator.TheVariants as punctuator
use Rattle.parser.proofs.OperandForms.{no_punctuator, plain_operand}
use Rattle.parser.proofs.OperandSteps.{operand_misfits}
use Rattle.parser.proofs.automaton.Automaton.operand.Goals as goal

pub returns-in_default-clause-moves : goal.returns-in_default-clause-moves
returns-in_default-clause-moves g c = λ o h.
    rw c.unexpected_token.ensures (operand_misfits
    (plain_operand _ h.path.ready.sound
    (λ m same. c.in_default.not-Punctuator m (ap (λ (l : LocatedToken). l.token) c.peek.ensures.value ∙ same)))
    (record {
      constant =
          λ value same. c.in_default.not-Constant value
          (ap (λ (l : LocatedToken). l.token) c.peek.ensures.value ∙ same);
      name = λ name same. c.in_default.not-Name name (ap (λ (l : LocatedToken). l.token) c.peek.ensures.value ∙ same);
      bracket = no_punctuator punctuator.OpenRound _
          (λ m same. c.in_default.not-Punctuator m (ap (λ (l : LocatedToken). l.token) c.peek.ensures.value ∙ same));
    }) h.path)

pub operand_from_punctuator-requires : goal.operand_from_punctuator-requires
operand_from_punctuator-requires g c = record {
  at = c.requires.at;
  starts = record {
    m = c.in-Punctuator.field-0;
    is = ap (λ (l : LocatedToken). l.token) (sym c.peek.ensures.value) ∙ c.in-Punctuator.is;
  };
}
