use Rattle.tokens.proofs.CommentLemmas.{ended-beyond}
use Rattle.std.proofs.Common.{◌≡◌, ◌∙◌, sym, ap, refl, [], true, false, arith}
use Rattle.tokens.specs.Tokens.{is_last, located_tokens}
use Rattle.tokens.specs.Window.{ahead}
use Rattle.tokens.specs.Lexing.{to_read, followed, after_slash}
use Rattle.tokens.specs.declared.located_tokens.Token.TheVariants as token
use Rattle.tokens.proofs.ToRead.{to_read-here, none-ahead}
use Rattle.tokens.proofs.TokenLemmas.{nothing-left}
use Rattle.tokens.proofs.BeginLemmas.{last-is_last, last-fits}
use Rattle.tokens.proofs.TakenLemmas.{HasGoneOn-then, fails-from, fails-reads, found-reads, stops-from, then-fails, then-asks, then-reads}
use Rattle.tokens.proofs.lexer.Lexer.read_after_blanks.Goals as goal

pub returns-in-None-clause-reads : goal.returns-in-None-clause-reads
returns-in-None-clause-reads g c =
    let here = c.skip_blanks.new.self.window in
    let blanks = c.in_ok-skip_blanks.ensures in
    let end = c.put_source_end.ensures in
    let last : is_last c.put_source_end.new.here.token ≡ true =
    ap (λ x. is_last x.token) (end.value []) ∙ last-is_last token.End here.line (ahead here []) refl in
    record {
      tokens =
          to_read-here (followed c.put_source_end.new.here) located_tokens here _ (λ to_come.
          let a = ahead here to_come in
          ap (λ x. followed x a) (end.value to_come)
          ∙ nothing-left a (none-ahead here to_come blanks.next.ready (sym blanks.next.first ∙ c.in-None.is)))
          ∙ blanks.tokens ∙ c.loop-self.invariant.tokens;
      read = record {
        progress = λ e. absurd cc;
        reached = end.reached;
        fits = rw (end.value []) (last-fits token.End here.line (ahead here []) tt);
      };
    }

pub returns-then-branch-clause-reads : goal.returns-then-branch-clause-reads
returns-then-branch-clause-reads g c =
    let now = c.loop-self.invariant in
    let blanks = c.in_ok-skip_blanks.ensures in
    let slash = c.in_ok-read_slash_or_comment-in-Some-eq47.ensures in
    let here = c.read_slash_or_comment.new.here in
    let window = c.read_slash_or_comment.new.self.window in
    record {
      tokens =
          to_read-here (followed here) (after_slash true here) window _ (λ to_come. refl)
          ∙
          ap
          (λ found. to_read (after_slash found here) window (g.F.Feed.device c.read_slash_or_comment.new.feed).to_come)
          (sym c.if-branch.true)
          ∙ slash.past.tokens ∙ blanks.tokens ∙ now.tokens;
      read = found-reads here _ window (omega (arith, now.kept.forward, blanks.kept.forward, slash.forward))
          (slash.past.token c.if-branch.true);
    }

pub loop-self-preserved : goal.loop-self-preserved
loop-self-preserved g c =
    let blanks = c.in_ok-skip_blanks.ensures in
    let slash = c.in_ok-read_slash_or_comment-in-Some-eq47.ensures in
    record {
      tokens =
          to_read-here located_tokens (after_slash false c.read_slash_or_comment.new.here)
          c.read_slash_or_comment.new.self.window _ (λ to_come. refl)
          ∙
          ap
          (λ found. to_read (after_slash found c.read_slash_or_comment.new.here) c.read_slash_or_comment.new.self.window
          (g.F.Feed.device c.read_slash_or_comment.new.feed).to_come) (sym c.if-branch.false)
          ∙ slash.past.tokens ∙ blanks.tokens ∙ c.loop-self.invariant.tokens;
      here = slash.past.unread c.if-branch.false ∙ c.loop-self.invariant.here;
      kept = HasGoneOn-then slash.kept (HasGoneOn-then blanks.kept c.loop-self.invariant.kept);
    }

pub returns-in_err-skip_blanks-clause-kept : goal.returns-in_err-skip_blanks-clause-kept
returns-in_err-skip_blanks-clause-kept g c =
    then-fails c.from_residual.result _ c.from_residual.ensures.1 c.loop-self.invariant.kept
    c.in_err-skip_blanks.ensures.kept

pub put_source_end-requires : goal.put_source_end-requires
put_source_end-requires g c =
    let next = c.in_ok-skip_blanks.ensures.next in
    ended-beyond c.skip_blanks.new.self.window _ next.ready next.first c.in-None.is

pub returns-in_err-read_slash_or_comment-in-Some-eq47-clause-kept :
    goal.returns-in_err-read_slash_or_comment-in-Some-eq47-clause-kept
returns-in_err-read_slash_or_comment-in-Some-eq47-clause-kept g c =
    then-fails c.from_residual-in_err-read_slash_or_comment-in-Some-eq47.result _
    c.from_residual-in_err-read_slash_or_comment-in-Some-eq47.ensures.1
    (HasGoneOn-then c.in_ok-skip_blanks.ensures.kept c.loop-self.invariant.kept)
    c.in_err-read_slash_or_comment-in-Some-eq47.ensures.kept

pub returns-in-Some-clause-kept : goal.returns-in-Some-clause-kept
returns-in-Some-clause-kept g c =
    then-asks c.read_begun_token.result _ _ _ _
    (HasGoneOn-then c.in_ok-skip_blanks.ensures.kept c.loop-self.invariant.kept) c.read_begun_token.ensures.kept

pub returns-in_err-skip_blanks-clause-reads : goal.returns-in_err-skip_blanks-clause-reads
returns-in_err-skip_blanks-clause-reads g c =
    let now = c.loop-self.invariant in
    fails-reads c.from_residual.result _ c.from_residual.ensures.1 _ _ (g.F.Feed.device c.args.feed.now)
    (g.F.Feed.device c.skip_blanks.new.feed) _ _ (record {
      within = stops-from located_tokens located_tokens _ _ c.skip_blanks.new.self.window _ _ now.tokens
          c.in_err-skip_blanks.ensures.stopped;
      unread = now.here;
    })

pub returns-in_err-read_slash_or_comment-in-Some-eq47-clause-reads :
    goal.returns-in_err-read_slash_or_comment-in-Some-eq47-clause-reads
returns-in_err-read_slash_or_comment-in-Some-eq47-clause-reads g c =
    let now = c.loop-self.invariant in
    fails-reads c.from_residual-in_err-read_slash_or_comment-in-Some-eq47.result _
    c.from_residual-in_err-read_slash_or_comment-in-Some-eq47.ensures.1 _ _ (g.F.Feed.device c.args.feed.now)
    (g.F.Feed.device c.read_slash_or_comment.new.feed) _ _
    (fails-from located_tokens located_tokens _ _ c.read_slash_or_comment.new.self.window _ _
    (c.in_ok-skip_blanks.ensures.tokens ∙ now.tokens) now.here
    c.in_err-read_slash_or_comment-in-Some-eq47.ensures.stopped)

pub returns-in-Some-clause-reads : goal.returns-in-Some-clause-reads
returns-in-Some-clause-reads g c =
    let now = c.loop-self.invariant in
    let blanks = c.in_ok-skip_blanks.ensures in
    then-reads c.read_begun_token.result c.args.self.now.window c.skip_blanks.new.self.window
    c.read_begun_token.new.self.window (g.F.Feed.device c.args.feed.now) (g.F.Feed.device c.skip_blanks.new.feed) _ _ _
    _
    (blanks.tokens ∙ now.tokens) (omega (arith, now.kept.forward, blanks.kept.forward)) now.here
    c.read_begun_token.ensures.reads
