use Rattle.tokens.proofs.AtHandLemmas.{name-in_line, name-at_hand}
use Rattle.tokens.proofs.TakenLemmas.{name-found}
use Rattle.tokens.proofs.lexer.Lexer.read_longer_name.Goals as goal

pub skip_in_line-requires-clause-in_line : goal.skip_in_line-requires-clause-in_line
skip_in_line-requires-clause-in_line g c =
    name-in_line c.args.first c.len.result c.at_hand.result.now c.take_bytes.new.self c.args.self.now.window
    c.at_hand.ensures.value c.len.ensures.value (c.take_bytes.ensures c.if-take_bytes.true)

pub returns-then-take_bytes-clause-finds : goal.returns-then-take_bytes-clause-finds
returns-then-take_bytes-clause-finds g c = record {
  tokens =
      name-at_hand c.args.first c.len.result c.at_hand.result.now c.take_bytes.new.self c.put_name_token.new.here
      c.args.self.now.window c.skip_in_line.new.self _ c.at_hand.ensures.value c.len.ensures.value
      (c.take_bytes.ensures c.if-take_bytes.true) c.skip_in_line.ensures.value c.put_name_token.ensures.value;
  found = name-found _ _ _ c.put_name_token.ensures.value c.put_name_token.ensures.fits;
}
