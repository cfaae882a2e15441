use Rattle.std.proofs.Common.{◌≡◌, ◌∙◌, sym, ap, Some, drop, rules}
use Rattle.std.specs.Option.{option_map}
use Rattle.tokens.specs.Tokens.{located_tokens, tokens}
use Rattle.tokens.specs.Lexing.{followed, to_read}
use Rattle.tokens.specs.Window.{untouched}
use Rattle.tokens.proofs.ReadingLemmas.{shown-read, shown-last, shown-opened, most_left-bounded, opened-stopped, second-stopped}
use Rattle.tokens.proofs.TakenLemmas.{on_err-from, TakesBytes-then}
use Rattle.tokens.proofs.cursors.Cursor.begin.Goals.{In_ok-read_token}
use Rattle.tokens.proofs.cursors.Cursor.begin.Goals as goal

-- the first token was read
first : (g : _) (c : In_ok-read_token g) →
    to_read (followed c.read_token.new.here) c.read_token.new.self.window
    (g.F.Feed.device c.read_token.new.feed).to_come ≡
    option_map tokens (g.F.Feed.device c.args.feed.now).to_come
first g c =
    c.in_ok-read_token.ensures.reads.tokens ∙
    ap (λ h. to_read located_tokens h (g.F.Feed.device c.args.feed.now).to_come)
    (ap (λ r. r.window) c.self.view_is ∙ c.requires.new) ∙
    shown-opened (g.F.Feed.device c.args.feed.now).to_come

pub returns-in_ok-read_token-2-clause-opens : goal.returns-in_ok-read_token-2-clause-opens
returns-in_ok-read_token-2-clause-opens g c =
    let new : c.self.inside.lexer.window ≡ untouched = ap (λ r. r.window) c.self.view_is ∙ c.requires.new in
    record {
      tokens =
          shown-read c.read_token.new.here c.read_token-then-not-is_last.new.here _ _ _ _
          c.in_ok-read_token-2.ensures.reads.tokens ∙
          first g (goal.at.returns-in_ok-read_token-2-clause-opens g c).In_ok-read_token;
      bounded = most_left-bounded _;
      took = search rules;
      near = search rules;
      limited = search rules;
      known = search rules;
    }

pub returns-else-not-is_last-clause-opens : goal.returns-else-not-is_last-clause-opens
returns-else-not-is_last-clause-opens g c =
    let new : c.self.inside.lexer.window ≡ untouched = ap (λ r. r.window) c.self.view_is ∙ c.requires.new in
    record {
      tokens = shown-last c.read_token.new.here c.read_token.new.here _ _ (sym c.if-not-is_last.ensures) ∙
          first g (goal.at.returns-else-not-is_last-clause-opens g c).In_ok-read_token;
      bounded = most_left-bounded _;
      took = search rules;
      near = search rules;
      limited = search rules;
      known = search rules;
    }

pub returns-in_err-read_token-clause-stopped : goal.returns-in_err-read_token-clause-stopped
returns-in_err-read_token-clause-stopped g c = on_err-from c.from_residual.result (λ bytes e.
    let new : c.self.inside.lexer.window ≡ untouched = ap (λ r. r.window) c.self.view_is ∙ c.requires.new in
    let read = c.in_err-read_token.ensures in (
      c.read_token.new.self.window.taken,
      read.kept.took.rest (Some bytes) (e ∙ ap (λ h. option_map (drop h.taken) (Some bytes)) (sym new)),
      opened-stopped bytes c.read_token.new.self.window.taken c.self.inside.lexer.window _ new e read.reads.within,
    ))

pub returns-in_err-read_token-2-clause-stopped : goal.returns-in_err-read_token-2-clause-stopped
returns-in_err-read_token-2-clause-stopped g c = on_err-from c.from_residual-in_err-read_token-2.result (λ bytes e.
    let new : c.self.inside.lexer.window ≡ untouched = ap (λ r. r.window) c.self.view_is ∙ c.requires.new in
    let first = c.in_ok-read_token.ensures in
    let read = c.in_err-read_token-2.ensures in (
      c.read_token-then-not-is_last.new.self.window.taken,
      (TakesBytes-then first.kept.took read.kept.took).rest (Some bytes)
          (e ∙ ap (λ h. option_map (drop h.taken) (Some bytes)) (sym new)),
      second-stopped bytes c.read_token-then-not-is_last.new.self.window.taken c.read_token.new.here
          c.self.inside.lexer.window c.read_token.new.self.window _ _ new e (sym c.if-not-is_last.ensures)
          first.reads.tokens read.reads.within,
    ))
