use Rattle.std.proofs.Common.{◌≡◌, ◌+◌, ◌<◌, List, ℕ, true, false, arith, ap, rules, subst, sym, ◌∙◌}
use Rattle.std.specs.Prelude.{◌^◌, Some}
use Rattle.tokens.specs.Tokens.{is_last, tokens}
use Rattle.tokens.specs.declared.located_tokens.LocatedToken.{LocatedToken}
use Rattle.derivations.proofs.Proceeding.{all_found, located_first, located_here, located_next, opens, proceeds}
use Rattle.derivations.proofs.RunningShort.{end_has_place}
use Rattle.derivations.specs.Columns.{token_positions}
use Rattle.derivations.specs.Positions.{ArePositions}
use Rattle.derivations.specs.Walks.{Passes}
use Rattle.derivations.specs.declared.addresses.SourcePosition.{SourcePosition}
use Rattle.derivations.specs.declared.locations.Located.{Located}
use Rattle.derivations.proofs.addresses.lines.Goals as goal

pub loop-token-init : goal.loop-token-init
loop-token-init c =
    let first = located_first c.args.source.now c.new-finder.result.source.now c.new-finder.result.end
    c.in-Ok.cursor.next c.place-next.result c.new-finder.ensures.source c.new-finder.ensures.end
    (located_here c.new-finder.result.source.now c.new-finder.result.end c.peek.result.now c.in-Ok.cursor.next
    c.place-next.result c.peek.ensures.value c.place-next.ensures.token c.place-next.ensures.line
    c.place-next.ensures.column) in
    record {
      known = search rules;
      left = omega (arith, c.in-Ok.ensures.opens.bounded);
      source = cc;
      end = cc;
      proceeds = opens c.args.profile c.args.source.now c.in-Ok.cursor c.open.new.feed.rest.now c.place-next.result
          c.start-automaton.result
          (c.in-Ok.ensures.opens.tokens ∙ ap (λ (l : List ℕ). Some (tokens l)) c.new-feed.ensures.bytes) first
          c.start-automaton.ensures.items c.start-automaton.ensures.marks
          c.start-automaton.ensures.place c.start-automaton.ensures.passed c.new.result.items c.new.ensures;
    }

pub returns-then-push-clause-positions : goal.returns-then-push-clause-positions
returns-then-push-clause-positions c =
    let l = c.loop-token in
    let last : is_last l.cursor.next.token ≡ true = cc in
    let few : l._token + 1 < 2 ^ 64 = omega arith in
    let passes = subst (λ (after : Located). Passes c.args.profile l.automaton l.found l.next after
    c.pass.new.automaton c.pass.new.self) (c.token_after-after.ensures.last last)
    (c.pass.ensures.passes c.if-not-pass.false) in
    subst (λ (found : List SourcePosition). ArePositions c.args.profile (tokens c.args.source.now)
    (token_positions c.args.source.now) found)
    (sym (c.push.ensures.pushed c.if-push.true))
    (all_found c.args.profile c.args.source.now l._token l.cursor l.feed.rest.now l.next l.automaton
    c.pass.new.automaton l.found c.pass.new.self c.place_of.result l.invariant.proceeds last passes few
    c.place_of.ensures)

pub returns-else-push-clause-some : goal.returns-else-push-clause-some
returns-else-push-clause-some c =
    let l = c.loop-token in
    let last : is_last l.cursor.next.token ≡ true = cc in
    let few : l._token + 1 < 2 ^ 64 = omega arith in
    let passes = subst (λ (after : Located). Passes c.args.profile l.automaton l.found l.next after
    c.pass.new.automaton c.pass.new.self) (c.token_after-after.ensures.last last)
    (c.pass.ensures.passes c.if-not-pass.false) in
    λ room none. end_has_place c.args.profile c.args.source.now l._token l.cursor l.feed.rest.now l.next l.automaton
    l.found l.invariant.proceeds few room c.pass.new.automaton c.pass.new.self last passes
    (c.push.ensures.full c.if-push.false)

pub loop-token-preserved : goal.loop-token-preserved
loop-token-preserved c =
    let l = c.loop-token in
    let other : is_last l.cursor.next.token ≡ false = cc in
    let few : l._token + 1 < 2 ^ 64 = omega arith in
    let located = located_next c.args.source.now l.finder.source.now l.finder.end l.cursor.next l.cursor.after
    c.token_after-after.result l.invariant.source l.invariant.end (c.token_after-after.ensures.other other) in
    record {
      known = search rules;
      left = omega (arith, l.invariant.left, c.in-Ok-advance.ensures.advances.progress);
      source = cc;
      end = c.token_after-after.ensures.end other ∙ sym (ap (λ (t : LocatedToken). t.end) c.advance.ensures.next);
      proceeds = proceeds c.args.profile c.args.source.now l._token l.cursor c.advance.new.self
          l.feed.rest.now c.advance.new.feed.rest.now l.next c.token_after-after.result l.automaton
          c.pass.new.automaton l.found c.pass.new.self l.invariant.proceeds other
          located (c.pass.ensures.passes c.if-not-pass.false) few
          c.advance.ensures.next c.in-Ok-advance.ensures.advances.tokens;
    }
