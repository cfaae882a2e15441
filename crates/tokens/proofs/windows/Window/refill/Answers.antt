use Rattle.std.proofs.Common.{◌≡◌, ◌+◌, ◌∙◌, ap, arith, rules, [], refl}
use Rattle.std.proofs.lemmas.List.{take-append-le}
use Rattle.std.specs.List.{between}
use Rattle.tokens.specs.declared.windows.Beyond.TheVariants.{Unread}
use Rattle.tokens.proofs.WindowLemmas.{refilled, empty-range}
use Rattle.tokens.proofs.windows.Window.refill.Goals as goal

pub returns-clause-shows : goal.returns-clause-shows
returns-clause-shows g c =
    let s = c.self.inside in
    let unread : s.beyond ≡ Unread = search rules in
    let empty : between s.next s.filled s.bytes ≡ [] = ap (λ h. h.at_hand) c.self.view_is ∙ c.requires.empty in
    let at_end = empty-range s.bytes s.next s.filled (omega arith) c.self.invariant.ordered empty in
    let offset : s.start + s.filled + 0 ≡ s.start + s.next = omega arith in
    record {
      seen = rw (← c.self.view_is, unread)
          (refilled _ _ _ _ c.fill.new.buf _ _ _ _ _ c.in_ok-count.count _ empty offset c.split_source-kept.ensures
          (take-append-le _ c.fill.new.buf _ (omega (arith, c.in_ok-count.ensures.reads.within)))
          c.in_ok-count.ensures.reads.bytes);
      ready = search rules;
    }

pub returns-clause-offset : goal.returns-clause-offset
returns-clause-offset g c =
    let s = c.self.inside in
    let empty : between s.next s.filled s.bytes ≡ [] = ap (λ h. h.at_hand) c.self.view_is ∙ c.requires.empty in
    let at_end = empty-range s.bytes s.next s.filled (omega arith) c.self.invariant.ordered empty in
    rw (← c.self.view_is) (record { line = refl; offset = omega arith })
