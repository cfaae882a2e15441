use Rattle.std.proofs.Common.{◌≡◌, ◌<◌, ◌++◌, [], ◌∷◌, length, List, ℕ, Err, false, ap, arith}
use Rattle.std.specs.Borrow.{Bor}
use Rattle.std.proofs.lemmas.List.{take-map}
use Rattle.std.proofs.lemmas.List.Elements.{All-push}
use Rattle.command.proofs.FilesLemmas.{all_more, each_more, told_more, word_at}
use Rattle.command.proofs.running.open_files.Goals as goal

pub returns-in-Err-Refused-clause-refused : goal.returns-in-Err-Refused-clause-refused
returns-in-Err-Refused-clause-refused g c =
    let within : c.loop-word.word-index < length c.args.words.now =
    omega (arith, c.loop-word-test.true, c.loop-word.auto.word-index-end) in
    record {
      index = c.loop-word.word-index;
      here = word_at c.args.words.now c.loop-word.word-index _ within;
      refused = c.in-Err-Refused.ensures.refused (ap Err c.in-Err-Refused.field-0-is);
      opened = rw (take-map (λ (word : Bor (List ℕ)). word.now) c.loop-word.word-index c.args.words.now)
          c.loop-word.invariant.4;
    }

pub loop-word-preserved : goal.loop-word-preserved
loop-word-preserved g c =
    let within : c.loop-word.word-index < length c.args.words.now =
    omega (arith, c.loop-word-test.true, c.loop-word.auto.word-index-end) in
    let items : c.push.new.self.items ≡ c.loop-word.feeds.items ++ c.in-Ok.file ∷ [] =
    rw c.if-is_err.ensures.negation at c.push.ensures.items in (
      rw items (told_more g.D.File.Feed.device (g.D.Opener.files c.args.disk.now).fails
          (λ feed. (g.D.File.Feed.device feed).to_come)
          (g.D.Opener.files c.args.disk.now).holds c.args.words.now
          c.loop-word.feeds.items c.loop-word.word-index _ c.in-Ok.file within c.loop-word.invariant.0
          c.in-Ok.ensures.contents),
      rw items
          (All-push (λ feed. (g.D.File.Feed.device feed).account.failures ≡ 0) c.loop-word.feeds.items c.in-Ok.file
          c.loop-word.invariant.1 c.in-Ok.ensures.never_failed),
      rw items
          (All-push (λ feed. (g.D.File.Feed.device feed).ended ≡ false) c.loop-word.feeds.items c.in-Ok.file
          c.loop-word.invariant.2 c.in-Ok.ensures.not_ended),
      rw items (each_more g.D.File.Feed.device (g.D.Opener.files c.args.disk.now).fails c.args.words.now
          c.loop-word.feeds.items c.loop-word.word-index _ c.in-Ok.file
          within c.loop-word.invariant.3 c.in-Ok.ensures.shows),
      all_more (g.D.Opener.files c.args.disk.now).opens c.args.words.now c.loop-word.word-index _ within
          c.loop-word.invariant.4 c.in-Ok.ensures.opened,
    )
