use Rattle.tokens.proofs.AtHandLemmas.{constant-in_line, constant-at_hand}
use Rattle.tokens.proofs.TakenLemmas.{found-here}
use Rattle.tokens.proofs.lexer.Lexer.read_constant.Goals as goal

pub skip_in_line-requires-clause-in_line : goal.skip_in_line-requires-clause-in_line
skip_in_line-requires-clause-in_line g c =
    constant-in_line c.args.first c.in-Some.value c.in-Some.count c.at_hand.result.now c.args.self.now.window
    c.at_hand.ensures.value c.in-Some.ensures

pub returns-in-Some-clause-finds : goal.returns-in-Some-clause-finds
returns-in-Some-clause-finds g c = record {
  tokens =
      constant-at_hand c.args.first c.in-Some.value c.in-Some.count c.at_hand.result.now c.token_ending_here.result
      c.args.self.now.window c.skip_in_line.new.self _ c.at_hand.ensures.value c.in-Some.ensures
      c.skip_in_line.ensures.value c.token_ending_here.ensures;
  found = found-here _ _ _ c.token_ending_here.ensures c.in-Some.ensures.fits;
}
