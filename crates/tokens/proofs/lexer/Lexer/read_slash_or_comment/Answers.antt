use Rattle.std.proofs.Common.{◌≡◌, ◌∙◌, ℕ, [], List, Option, Some, sym, ap, refl, true, false, eqb}
use Rattle.std.specs.Option.{option_eq}
use Rattle.std.specs.Prelude.{slice_get}
use Rattle.tokens.specs.Tokens.{located_tokens}
use Rattle.tokens.specs.Lexing.{to_read, followed, in_punctuator, in_comment, after_comment, after_slash}
use Rattle.tokens.specs.Window.{Window, ahead, seen, window_after_byte}
use Rattle.tokens.specs.declared.located_tokens.Punctuator.TheVariants.{Slash}
use Rattle.tokens.specs.declared.located_tokens.LexicalError.TheVariants.{CommentNotClosed}
use Rattle.tokens.specs.declared.located_tokens.Token.TheVariants as variant
use Rattle.tokens.proofs.ToRead.{byte-found, to_read-pass, to_read-pass_line, to_read-seen, to_read-here}
use Rattle.tokens.proofs.BeginLemmas.{in_slash, slash-begins, star-begins, slash-stays, not_true, not_false, last-followed, last-fits}
use Rattle.tokens.proofs.TakenLemmas.{on_err-from, stops, stops-from, fails-from, in_slash-ends, then-fails, HasGoneOn-first, HasGoneOn-skip, HasGoneOn-then}
use Rattle.tokens.proofs.lexer.Lexer.read_slash_or_comment.Goals as goal

-- a `/` was passed
slash-passed : (line : ℕ) (new old : Window) (to_come : Option (List ℕ)) → new ≡ window_after_byte old →
    slice_get old.at_hand 0 ≡ Some 47 → line ≡ old.line →
    to_read (in_slash line) new to_come ≡ to_read located_tokens old to_come
slash-passed line new old to_come past slash is =
    to_read-pass_line (in_slash line) located_tokens new old to_come 47 line past slash is (slash-begins line)

-- and the byte after it was looked for
slash-seen : (line : ℕ) (new mid old : Window) (to_come to_come' : Option (List ℕ)) →
    seen new to_come' ≡ seen mid to_come →
    mid ≡ window_after_byte old → slice_get old.at_hand 0 ≡ Some 47 → line ≡ old.line →
    to_read (in_slash line) new to_come' ≡ to_read located_tokens old to_come
slash-seen line new mid old to_come to_come' looks past slash is =
    to_read-seen (in_slash line) new mid to_come' to_come looks ∙ slash-passed line mid old to_come past slash is

-- a `*` after it was passed too
star-passed : (line : ℕ) (new mid old : Window) (to_come to_come' : Option (List ℕ)) (first : Option ℕ) →
    new ≡ window_after_byte mid → first ≡ slice_get mid.at_hand 0 → option_eq eqb first (Some 42) ≡ true →
    to_read (in_slash line) mid to_come' ≡ to_read located_tokens old to_come →
    to_read (in_comment line) new to_come' ≡ to_read located_tokens old to_come
star-passed line new mid old to_come to_come' first past is star same =
    to_read-pass (in_comment line) (in_slash line) new mid to_come' first 42 past is (byte-found 42 first star)
    (star-begins line)
    ∙ same

pub returns-then-ne-clause-past : goal.returns-then-ne-clause-past
returns-then-ne-clause-past g c =
    let line = c.line-line.result in
    let looks = c.in_ok-peek.ensures in
    record {
      tokens =
          c.in_ok-read_punctuator.ensures.finds.tokens ∙
          slash-stays line _ _ _ looks.next.ready looks.next.first (not_true _ c.if-ne.ensures)
          ∙ slash-seen line _ _ _ _ _ looks.seen c.skip_byte.ensures.value c.requires.slash c.line-line.ensures;
      token = λ _. c.in_ok-read_punctuator.ensures.finds.found;
      unread = λ e. absurd cc;
    }

pub returns-then-branch-clause-past : goal.returns-then-branch-clause-past
returns-then-branch-clause-past g c =
    let line = c.line-line.result in
    let looks = c.in_ok-peek.ensures in
    record {
      tokens =
          to_read-here (after_slash false c.args.here.now) (after_comment true line) c.skip_comment.new.self.window _
          (λ to_come. refl)
          ∙
          ap
          (λ closed. to_read (after_comment closed line) c.skip_comment.new.self.window
          (g.F.Feed.device c.skip_comment.new.feed).to_come) (sym c.if-branch.true)
          ∙ c.in_ok-skip_comment.ensures.tokens line
          ∙
          star-passed line _ _ _ _ _ _ c.skip_byte-2.ensures.value looks.next.first (not_false _ c.if-ne.ensures)
          (slash-seen line _ _ _ _ _ looks.seen c.skip_byte.ensures.value c.requires.slash c.line-line.ensures);
      token = λ e. absurd cc;
      unread = λ _. refl;
    }

pub returns-else-branch-clause-past : goal.returns-else-branch-clause-past
returns-else-branch-clause-past g c =
    let line = c.line-line.result in
    let looks = c.in_ok-peek.ensures in
    record {
      tokens =
          to_read-here (after_slash true c.put_unclosed_comment.new.here) (after_comment false line)
          c.skip_comment.new.self.window _ (λ to_come.
          let a = ahead c.skip_comment.new.self.window to_come in
          ap (λ x. followed x a) (c.put_unclosed_comment.ensures.value to_come) ∙
          last-followed (variant.Fault CommentNotClosed) line a refl)
          ∙
          ap
          (λ closed. to_read (after_comment closed line) c.skip_comment.new.self.window
          (g.F.Feed.device c.skip_comment.new.feed).to_come) (sym c.if-branch.false)
          ∙ c.in_ok-skip_comment.ensures.tokens line
          ∙
          star-passed line _ _ _ _ _ _ c.skip_byte-2.ensures.value looks.next.first (not_false _ c.if-ne.ensures)
          (slash-seen line _ _ _ _ _ looks.seen c.skip_byte.ensures.value c.requires.slash c.line-line.ensures);
      token = λ _. record {
        reached = c.put_unclosed_comment.ensures.reached;
        fits = rw (c.put_unclosed_comment.ensures.value [])
            (last-fits (variant.Fault CommentNotClosed) line (ahead c.skip_comment.new.self.window []) tt);
      };
      unread = λ e. absurd cc;
    }

pub returns-in_err-peek-clause-stopped : goal.returns-in_err-peek-clause-stopped
returns-in_err-peek-clause-stopped g c =
    let line = c.line-line.result in
    let looks = c.in_err-peek.ensures in
    on_err-from c.from_residual.result (record {
      within = stops-from (in_slash line) located_tokens _ _ c.peek.new.self _ _
          (slash-passed line _ _ _ c.skip_byte.ensures.value c.requires.slash c.line-line.ensures)
          (stops (in_slash line) (in_slash-ends line) c.skip_byte.new.self c.peek.new.self _ looks.failed
          looks.offset.offset);
      unread = refl;
    })

pub returns-in_err-read_punctuator-clause-stopped : goal.returns-in_err-read_punctuator-clause-stopped
returns-in_err-read_punctuator-clause-stopped g c =
    let line = c.line-line.result in
    let looks = c.in_ok-peek.ensures in
    on_err-from c.from_residual-in_err-read_punctuator.result (fails-from (in_punctuator Slash) located_tokens _ _
    c.read_punctuator.new.self.window _ _
    (slash-stays line _ _ _ looks.next.ready looks.next.first (not_true _ c.if-ne.ensures)
    ∙ slash-seen line _ _ _ _ _ looks.seen c.skip_byte.ensures.value c.requires.slash c.line-line.ensures)
    refl c.in_err-read_punctuator.ensures.finds)

pub returns-in_err-skip_comment-clause-stopped : goal.returns-in_err-skip_comment-clause-stopped
returns-in_err-skip_comment-clause-stopped g c =
    let line = c.line-line.result in
    let looks = c.in_ok-peek.ensures in
    on_err-from c.from_residual-in_err-skip_comment.result (record {
      within = stops-from (in_comment line) located_tokens _ _ c.skip_comment.new.self.window _ _
          (star-passed line _ _ _ _ _ _ c.skip_byte-2.ensures.value looks.next.first (not_false _ c.if-ne.ensures)
          (slash-seen line _ _ _ _ _ looks.seen c.skip_byte.ensures.value c.requires.slash c.line-line.ensures))
          (c.in_err-skip_comment.ensures.stopped line);
      unread = refl;
    })

pub returns-in_err-read_punctuator-clause-kept : goal.returns-in_err-read_punctuator-clause-kept
returns-in_err-read_punctuator-clause-kept g c =
    then-fails c.from_residual-in_err-read_punctuator.result _ c.from_residual-in_err-read_punctuator.ensures.1
    (HasGoneOn-then c.in_ok-peek.ensures.kept (HasGoneOn-first c.skip_byte.ensures.kept c.requires.ready.known))
    c.in_err-read_punctuator.ensures.kept

pub returns-in_err-skip_comment-clause-kept : goal.returns-in_err-skip_comment-clause-kept
returns-in_err-skip_comment-clause-kept g c =
    then-fails c.from_residual-in_err-skip_comment.result _ c.from_residual-in_err-skip_comment.ensures.1
    (HasGoneOn-skip c.skip_byte-2.ensures.kept
    (HasGoneOn-then c.in_ok-peek.ensures.kept (HasGoneOn-first c.skip_byte.ensures.kept c.requires.ready.known)))
    c.in_err-skip_comment.ensures.kept
