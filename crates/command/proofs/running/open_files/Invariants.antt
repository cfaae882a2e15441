use Rattle.std.proofs.Common.{◌≡◌, false, map, take}
use Rattle.std.specs.Prelude.{All}
use Rattle.command.specs.Files.{EachShows}
use Rattle.series.specs.SourceContents.{known_to_come}
use Rattle.command.proofs.running.open_files.Given as goal

-- a file for each word so far, of which nothing is read and which has neither failed nor ended
abbrev pub invariant-loop-word : goal.invariant-loop-word
invariant-loop-word g l =
    (known_to_come g.D.File.Feed.device l.feeds.items ≡
    map (λ word. (g.D.Opener.files l.disk).holds word.now) (take l.word-index l.words))
    × All (λ feed. (g.D.File.Feed.device feed).account.failures ≡ 0) l.feeds.items
    × All (λ feed. (g.D.File.Feed.device feed).ended ≡ false) l.feeds.items
    ×
    EachShows g.D.File.Feed.device (g.D.Opener.files l.disk).fails
    (map (λ word. word.now) (take l.word-index l.words))
    l.feeds.items
    × All (g.D.Opener.files l.disk).opens (map (λ word. word.now) (take l.word-index l.words))
