use Rattle.std.proofs.Common.{◌≡◌, ◌∙◌, refl, ap, sym, true, false}
use Rattle.tokens.specs.declared.located_tokens.LocatedToken.{LocatedToken}
use Rattle.tokens.specs.declared.located_tokens.Punctuator.TheVariants as punctuator
use Rattle.grammar.specs.Grammar.{is_punctuator}
use Rattle.parser.specs.declared.roles.Declared.TheVariants as kind
use Rattle.parser.specs.Declarations.{names_items}
use Rattle.parser.specs.ScopedCursors.{token_after}
use Rattle.parser.proofs.Passing.{passed_on}
use Rattle.parser.proofs.AutomatonLaws.{comes_to}
use Rattle.parser.proofs.PathLaws.{falls}
use Rattle.parser.proofs.SourceSteps.{external_path, head_definition_path, head_misfits}
use Rattle.parser.proofs.automaton.Automaton.head.Goals as goal

pub returns-in-Name-clause-moves : goal.returns-in-Name-clause-moves
returns-in-Name-clause-moves g c =
    let is : is_punctuator punctuator.OpenRound (token_after c.args.self.now.tokens) ≡ true = cc in
    λ o h.
    comes_to h
    (head_definition_path c.in-Name.field-0
    (ap (λ (l : LocatedToken). l.token) (sym c.peek.ensures.value) ∙ c.in-Name.is) is h.path) h.told h.depth h.few
    h.fits

pub returns-in_err-external_declaration-in-Name-2-clause-moves :
    goal.returns-in_err-external_declaration-in-Name-2-clause-moves
returns-in_err-external_declaration-in-Name-2-clause-moves g c =
    let other : is_punctuator punctuator.OpenRound (token_after c.args.self.now.tokens) ≡ false = cc in
    rw (passed_on c.from_residual.result c.from_residual.ensures.1) (λ o h.
    falls (names_items kind.Externals) _ c.in_err-external_declaration-in-Name-2.field-0.0
    (external_path c.in-Name-2.field-0
    (ap (λ (l : LocatedToken). l.token) (sym c.peek.ensures.value) ∙ c.in-Name-2.is) other h.path) h.told
    c.in_err-external_declaration-in-Name-2.ensures.kept
    c.in_err-external_declaration-in-Name-2.ensures.matches)

pub returns-in_ok-external_declaration-in-Name-2-clause-moves :
    goal.returns-in_ok-external_declaration-in-Name-2-clause-moves
returns-in_ok-external_declaration-in-Name-2-clause-moves g c =
    let other : is_punctuator punctuator.OpenRound (token_after c.args.self.now.tokens) ≡ false = cc in
    λ o h.
    comes_to h
    (c.in_ok-external_declaration-in-Name-2.ensures.passes _ _ _ _
    (external_path c.in-Name-2.field-0
    (ap (λ (l : LocatedToken). l.token) (sym c.peek.ensures.value) ∙ c.in-Name-2.is) other h.path)) h.told
    h.depth h.few h.fits

pub returns-in_default : goal.returns-in_default
returns-in_default g c = record {
  moves = λ o h.
      rw c.unexpected_token.ensures
      (head_misfits
      (λ name same. c.in_default.not-Name name (ap (λ (l : LocatedToken). l.token) c.peek.ensures.value ∙ same))
      h.path);
  falls = tt;
  builder = refl;
}
