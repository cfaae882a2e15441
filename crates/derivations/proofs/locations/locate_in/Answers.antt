use Rattle.std.proofs.Common.{◌≡◌, ◌∙◌, List, ap, rules, sym, false}
use Rattle.std.specs.Prelude.{OnOk, Option, Some, Result, Ok, Err, drop, is_err, option_map}
use Rattle.std.proofs.lemmas.List.{drop-drop}
use Rattle.tokens.specs.Tokens.{tokens}
use Rattle.tokens.specs.declared.located_tokens.LocatedToken.{LocatedToken}
use Rattle.derivations.proofs.locations.locate_in.Goals as goal

no_error : {A E : Type 0} (r : Result A E) (P : Type 0) → is_err r ≡ false → OnOk r P → P
no_error (Ok x) P e h = h
no_error (Err x) P e h = absurd cc

pub loop-token-preserved : goal.loop-token-preserved
loop-token-preserved c =
    let all : List LocatedToken = tokens c.args.source.now in
    let on = no_error c.advance.result _ (sym c.is_err.ensures.value ∙ c.if-is_err.false) c.advance.ensures.advances in
    record {
      failures = search rules;
      known = search rules;
      shows = on.tokens ∙ ap (λ (o : Option (List LocatedToken)). option_map (drop 1) o) c.loop-token.invariant.shows
          ∙ ap (λ (l : List LocatedToken). Some l) (drop-drop 1 c.loop-token._token all);
    }
