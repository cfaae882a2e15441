use Rattle.derivations.proofs.choices.choice.Goals as goal
use Rattle.derivations.proofs.choices.choice.Goals.{in-Types, in-More, in-Parameters, in-ParameterTypes, in-Declarations, in-Statements, in-Statement, in-ElsePart, in-Back, in-Expression, in-Level, in-Tail, in-Unary, in-Arguments, in-MoreArguments}

pub returns : goal.returns
returns c = elim c.match-symbol.branch [
  | in-Types w ↦ rw w.in-Types.is (rw w.production-is (w.types-production.ensures c.args.after.now))
  | in-More w ↦ rw w.in-More.is (rw w.production-is (w.more-production.ensures c.args.after.now))
  | in-Parameters w ↦ rw w.in-Parameters.is (rw w.production-is (w.parameters-production.ensures c.args.after.now))
  | in-ParameterTypes w ↦ rw w.in-ParameterTypes.is
      (rw w.production-is (w.parameter_types-production.ensures c.args.after.now))
  | in-Declarations w ↦ rw w.in-Declarations.is
      (rw w.production-is (w.declarations-production.ensures c.args.after.now))
  | in-Statements w ↦ rw w.in-Statements.is (rw w.production-is (w.statements-production.ensures c.args.after.now))
  | in-Statement w ↦ rw w.in-Statement.is (rw w.production-is (w.statement-production.ensures c.args.after.now))
  | in-ElsePart w ↦ rw w.in-ElsePart.is (rw w.production-is (w.else_part-production.ensures c.args.after.now))
  | in-Back w ↦ rw w.in-Back.is (rw w.production-is (w.back-production.ensures c.args.after.now))
  | in-Expression w ↦ rw w.in-Expression.is (rw w.production-is w.expression-production.ensures)
  | in-Level w ↦ rw w.in-Level.is (rw w.production-is (w.operators-production.ensures c.args.next.now c.args.after.now))
  | in-Tail w ↦ rw w.in-Tail.is (rw w.production-is (w.tail-production.ensures c.args.after.now))
  | in-Unary w ↦ rw w.in-Unary.is (rw w.production-is (w.unary-production.ensures c.args.after.now))
  | in-Arguments w ↦ rw w.in-Arguments.is (rw w.production-is (w.arguments-production.ensures c.args.after.now))
  | in-MoreArguments w ↦ rw w.in-MoreArguments.is
      (rw w.production-is (w.more_arguments-production.ensures c.args.after.now))
]
