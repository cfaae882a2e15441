use Rattle.std.proofs.Common.{◌≡◌, ◌∙◌, refl, ap, sym, false}
use Rattle.tokens.specs.declared.located_tokens.Keyword.TheVariants as keyword
use Rattle.tokens.specs.declared.located_tokens.LocatedToken.{LocatedToken}
use Rattle.tokens.specs.declared.located_tokens.Token.TheVariants as token
use Rattle.grammar.specs.Grammar.{is_keyword}
use Rattle.parser.specs.ScopedCursors.{token_of}
use Rattle.parser.proofs.AutomatonLaws.{comes_to}
use Rattle.parser.proofs.SourceSteps.{definition_path, end_path, source_misfits}
use Rattle.parser.proofs.automaton.Automaton.source.Goals as goal

pub returns-in-End-clause-moves : goal.returns-in-End-clause-moves
returns-in-End-clause-moves g c =
    let is : token_of c.args.self.now.tokens ≡ token.End =
    ap (λ (l : LocatedToken). l.token) (sym c.peek-2.ensures.value) ∙ c.in-End.is in
    λ o h.
    comes_to h (end_path is h.path) h.told h.depth h.few (h.fits.0, h.fits.1, is)

pub returns-in-Name-clause-moves : goal.returns-in-Name-clause-moves
returns-in-Name-clause-moves g c = λ o h.
    comes_to h
    (definition_path c.in-Name.field-0
    (ap (λ (l : LocatedToken). l.token) (sym c.peek-2.ensures.value) ∙ c.in-Name.is) h.path) h.told h.depth h.few
    h.fits

pub returns-in_default : goal.returns-in_default
returns-in_default g c =
    let other : is_keyword keyword.Type (token_of c.args.self.now.tokens) ≡ false = cc in
    record {
      moves = λ o h.
          rw c.unexpected_token.ensures (source_misfits
          (λ same. c.in_default.not-End (ap (λ (l : LocatedToken). l.token) c.peek-2.ensures.value ∙ same)) other
          (λ name same. c.in_default.not-Name name (ap (λ (l : LocatedToken). l.token) c.peek-2.ensures.value ∙ same))
          h.path);
      falls = tt;
      builder = refl;
    }
