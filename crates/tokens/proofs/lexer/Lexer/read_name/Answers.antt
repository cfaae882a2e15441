use Rattle.std.proofs.Common.{◌∙◌, [], sym, ap, subst, refl, false}
use Rattle.tokens.specs.Characters.{is_name_byte}
use Rattle.tokens.specs.Lexing.{to_read, in_name, name_going_on}
use Rattle.tokens.proofs.ToRead.{is-at_hand}
use Rattle.tokens.proofs.TokenLemmas.{token_span-stops, StopsAt}
use Rattle.tokens.proofs.TakenLemmas.{name-found}
use Rattle.tokens.proofs.lexer.Lexer.read_name.Goals as goal

pub returns-in-Some-clause-finds : goal.returns-in-Some-clause-finds
returns-in-Some-clause-finds g c =
    let here = c.args.self.now.window in
    let to_come = (g.F.Feed.device c.args.feed.now).to_come in
    let name = c.from_byte.result in
    let stops : StopsAt is_name_byte c.first_at_hand.result =
    subst (StopsAt is_name_byte) (sym c.in-Some.is) (sym c.if-not-is_name_byte.ensures) in
    record {
      tokens =
          token_span-stops is_name_byte (name_going_on name false) c.put_name_token.new.here
          (name_going_on name false []) here
          to_come
          c.first_at_hand.result
          (is-at_hand here c.in-Some.b (sym c.in-Some.is ∙ c.first_at_hand.ensures.value)) c.first_at_hand.ensures.value
          stops
          (λ _. c.put_name_token.ensures.value) refl
          ∙ ap (λ name. to_read (in_name name false) here to_come) c.from_byte.ensures;
      found = name-found _ _ _ c.put_name_token.ensures.value c.put_name_token.ensures.fits;
    }
