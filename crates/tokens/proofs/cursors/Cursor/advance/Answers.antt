use Rattle.std.proofs.Common.{◌≡◌, ◌∙◌, sym, ap, false, rules}
use Rattle.tokens.specs.Tokens.{is_last}
use Rattle.tokens.proofs.ReadingLemmas.{shown-advanced, most_left-advanced, most_left-ended, advanced-stopped}
use Rattle.tokens.proofs.TakenLemmas.{on_err-from}
use Rattle.tokens.proofs.cursors.Cursor.advance.Goals as goal

pub returns-in_ok-read_token-clause-advances : goal.returns-in_ok-read_token-clause-advances
returns-in_ok-read_token-clause-advances g c =
    let s = c.self.inside in
    let not_last : is_last s.next.token ≡ false = ap (λ r. is_last r.next.token) c.self.view_is ∙ c.requires.not_last in
    let read = c.in_ok-read_token.ensures in
    rw (← c.self.view_is) (record {
      tokens =
          shown-advanced s.next s.after c.read_token.new.here c.read_token.new.self.window s.lexer.window _ _ not_last
          read.reads.tokens;
      progress =
          most_left-advanced s.next s.after c.read_token.new.here c.read_token.new.self.window s.lexer.window not_last
          (sym c.if-not-is_last.ensures) read.reads.read.progress read.kept.within;
      near = search rules;
    })

pub returns-else-not-is_last-clause-advances : goal.returns-else-not-is_last-clause-advances
returns-else-not-is_last-clause-advances g c =
    let s = c.self.inside in
    let not_last : is_last s.next.token ≡ false = ap (λ r. is_last r.next.token) c.self.view_is ∙ c.requires.not_last in
    rw (← c.self.view_is) (record {
      tokens = search rules;
      progress = most_left-ended s.next s.after s.after s.lexer.window s.lexer.window not_last
          (sym c.if-not-is_last.ensures);
      near = search rules;
    })

pub returns-in_err-read_token-clause-stopped : goal.returns-in_err-read_token-clause-stopped
returns-in_err-read_token-clause-stopped g c =
    let s = c.self.inside in
    let not_last : is_last s.next.token ≡ false = ap (λ r. is_last r.next.token) c.self.view_is ∙ c.requires.not_last in
    on_err-from c.from_residual.result
    (rw (← c.self.view_is)
    (advanced-stopped c.read_token.new.self.window.taken s.next s.after s.lexer.window _ not_last
    (sym c.if-not-is_last.ensures) c.in_err-read_token.ensures.reads.within))
