use Rattle.std.proofs.Common.{◌≡◌, ◌∙◌, ◌++◌, ◌∷◌, sym, false, [], ap, refl, subst}
use Rattle.tokens.specs.Characters.{is_name_byte}
use Rattle.tokens.specs.Lexing.{to_read, in_name, name_going_on}
use Rattle.tokens.proofs.ToRead.{to_read-pass, to_read-seen}
use Rattle.tokens.proofs.TokenLemmas.{name-takes, name-overflows, token_span-stops, StopsAt}
use Rattle.tokens.proofs.TakenLemmas.{asks-in-vain, name-found, in_token_span-ends, name-undecided, HasGoneOn-skip, HasGoneOn-then, then-fails}
use Rattle.tokens.proofs.lexer.Lexer.read_name_bytewise.Goals as goal
use Rattle.tokens.proofs.lexer.Lexer.read_name_bytewise.Goals.{then-is_full, else-is_full, in_default-via-in-Some+else-is_name_byte, in_default-via-in_default}

pub loop-b-preserved : goal.loop-b-preserved
loop-b-preserved g c =
    let now = in_name c.loop-b.name c.loop-b.too_long in
    let passes = sym c.if-is_name_byte.ensures in
    let seen = c.in_ok-b.ensures in
    let step =
    elim c.if-is_full.branch as
    (λ w.
    to_read (in_name c.if-is_full.name c.if-is_full.too_long) c.skip_byte.new.self
    (g.F.Feed.device c.peek.new.feed).to_come
    ≡ to_read now c.peek.new.self (g.F.Feed.device c.peek.new.feed).to_come) [
      | then-is_full w ↦ rw (w.name-is, w.too_long-is)
          (to_read-pass _ now _ _ _ _ c.in-Some.b c.skip_byte.ensures.value seen.next.first c.in-Some.is
          (name-overflows c.loop-b.name c.loop-b.too_long c.in-Some.b (w.if-is_full.ensures.0 refl) passes))
      | else-is_full w ↦ rw (w.name-is, w.too_long-is, w.push-else-is_full.ensures)
          (to_read-pass _ now _ _ _ _ c.in-Some.b c.skip_byte.ensures.value seen.next.first c.in-Some.is
          (name-takes c.loop-b.name c.loop-b.too_long c.in-Some.b passes))
    ] in
    record {
      tokens = step ∙ to_read-seen now _ _ _ _ seen.seen ∙ c.loop-b.invariant.tokens;
      here = c.loop-b.invariant.here;
      kept = HasGoneOn-skip c.skip_byte.ensures.kept (HasGoneOn-then seen.kept c.loop-b.invariant.kept);
    }

pub returns-in_default-clause-finds : goal.returns-in_default-clause-finds
returns-in_default-clause-finds g c =
    let now = in_name c.loop-b.name c.loop-b.too_long in
    let seen = c.in_ok-b.ensures in
    let stops : StopsAt is_name_byte c.in_ok-b.field-0 = elim c.in_default.branch [
      | in_default-via-in-Some+else-is_name_byte w ↦ subst (StopsAt is_name_byte) (sym w.in-Some.is)
          (sym w.if-is_name_byte.ensures)
      | in_default-via-in_default w ↦ subst (StopsAt is_name_byte) (sym w.in_default.is) tt
    ] in
    record {
      tokens =
          token_span-stops is_name_byte (name_going_on c.loop-b.name c.loop-b.too_long) c.put_name_token.new.here
          (name_going_on c.loop-b.name c.loop-b.too_long []) _ _ _ seen.next.ready seen.next.first stops
          (λ _. c.put_name_token.ensures.value) refl
          ∙ to_read-seen now _ _ _ _ seen.seen ∙ c.loop-b.invariant.tokens
          ∙
          ap (λ name. to_read (in_name name false) c.args.self.now.window (g.F.Feed.device c.args.feed.now).to_come)
          (c.push.ensures ∙ ap (λ name. name ++ c.args.first ∷ []) c.new-name.ensures);
      found = name-found _ _ _ c.put_name_token.ensures.value c.put_name_token.ensures.fits;
    }

pub returns-in_err-b-clause-finds : goal.returns-in_err-b-clause-finds
returns-in_err-b-clause-finds g c =
    let seen = c.in_err-b.ensures in
    asks-in-vain c.from_residual.result _ c.from_residual.ensures.1 _ _
    (in_token_span-ends is_name_byte _ (name-undecided c.loop-b.name c.loop-b.too_long)) _ c.loop-b.self.window _
    (g.F.Feed.device c.args.feed.now) (g.F.Feed.device c.loop-b.feed) _ _ _
    (c.loop-b.invariant.tokens ∙
    ap (λ name. to_read (in_name name false) c.args.self.now.window (g.F.Feed.device c.args.feed.now).to_come)
    (c.push.ensures ∙ ap (λ name. name ++ c.args.first ∷ []) c.new-name.ensures))
    seen.failed seen.offset.offset c.loop-b.invariant.here

pub returns-in_err-b-clause-kept : goal.returns-in_err-b-clause-kept
returns-in_err-b-clause-kept g c =
    then-fails c.from_residual.result _ c.from_residual.ensures.1 c.loop-b.invariant.kept c.in_err-b.ensures.kept
