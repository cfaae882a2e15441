use Rattle.std.proofs.Common.{◌≡◌, ◌∙◌, ◌+◌, ◌*◌, ◌-◌, min, sym, arith, ap, subst}
use Rattle.tokens.specs.Characters.{is_digit}
use Rattle.tokens.specs.Lexing.{to_read, in_constant, constant_going_on}
use Rattle.tokens.proofs.ToRead.{to_read-pass, to_read-seen}
use Rattle.tokens.proofs.TokenLemmas.{constant-takes, token_span-stops, StopsAt}
use Rattle.tokens.proofs.TakenLemmas.{asks-in-vain, found-here, in_token_span-ends, constant-undecided, HasGoneOn-skip, HasGoneOn-then, then-fails}
use Rattle.tokens.proofs.lexer.Lexer.read_constant_bytewise.Goals as goal
use Rattle.tokens.proofs.lexer.Lexer.read_constant_bytewise.Goals.{in_default-via-in-Some+else-is_digit, in_default-via-in_default}

pub loop-b-preserved : goal.loop-b-preserved
loop-b-preserved g c =
    let now = in_constant c.loop-b.value in
    let seen = c.in_ok-b.ensures in
    let value : c.min-value.result ≡ min (10 * c.loop-b.value + (c.in-Some.b - 48)) 2147483648 =
    c.min-value.ensures ∙ ap (λ d. min (10 * c.loop-b.value + d) 2147483648) c.from.ensures in
    record {
      tokens = ap (λ v. to_read (in_constant v) c.skip_byte.new.self (g.F.Feed.device c.peek.new.feed).to_come) value
          ∙
          to_read-pass _ now _ _ _ _ c.in-Some.b c.skip_byte.ensures.value seen.next.first c.in-Some.is
          (constant-takes c.loop-b.value c.in-Some.b (sym c.if-is_digit.ensures))
          ∙ to_read-seen now _ _ _ _ seen.seen ∙ c.loop-b.invariant.tokens;
      bounded = omega (arith, value);
      here = c.loop-b.invariant.here;
      kept = HasGoneOn-skip c.skip_byte.ensures.kept (HasGoneOn-then seen.kept c.loop-b.invariant.kept);
    }

pub returns-in_default-clause-finds : goal.returns-in_default-clause-finds
returns-in_default-clause-finds g c =
    let now = in_constant c.loop-b.value in
    let seen = c.in_ok-b.ensures in
    let stops : StopsAt is_digit c.in_ok-b.field-0 = elim c.in_default.branch [
      | in_default-via-in-Some+else-is_digit w ↦ subst (StopsAt is_digit) (sym w.in-Some.is) (sym w.if-is_digit.ensures)
      | in_default-via-in_default w ↦ subst (StopsAt is_digit) (sym w.in_default.is) tt
    ] in
    record {
      tokens =
          token_span-stops is_digit (constant_going_on c.loop-b.value) c.token_ending_here.result
          c.constant_token.result
          _ _ _
          seen.next.ready
          seen.next.first stops (λ _. c.token_ending_here.ensures) c.constant_token.ensures.token
          ∙ to_read-seen now _ _ _ _ seen.seen ∙ c.loop-b.invariant.tokens
          ∙
          ap (λ v. to_read (in_constant v) c.args.self.now.window (g.F.Feed.device c.args.feed.now).to_come)
          c.from-value.ensures;
      found = found-here _ _ _ c.token_ending_here.ensures c.constant_token.ensures.fits;
    }

pub returns-in_err-b-clause-finds : goal.returns-in_err-b-clause-finds
returns-in_err-b-clause-finds g c =
    let seen = c.in_err-b.ensures in
    asks-in-vain c.from_residual.result _ c.from_residual.ensures.1 _ _
    (in_token_span-ends is_digit _ (constant-undecided c.loop-b.value)) _ c.loop-b.self.window _
    (g.F.Feed.device c.args.feed.now) (g.F.Feed.device c.loop-b.feed) _ _ _
    (c.loop-b.invariant.tokens ∙
    ap (λ v. to_read (in_constant v) c.args.self.now.window (g.F.Feed.device c.args.feed.now).to_come)
    c.from-value.ensures)
    seen.failed seen.offset.offset c.loop-b.invariant.here

pub returns-in_err-b-clause-kept : goal.returns-in_err-b-clause-kept
returns-in_err-b-clause-kept g c =
    then-fails c.from_residual.result _ c.from_residual.ensures.1 c.loop-b.invariant.kept c.in_err-b.ensures.kept
