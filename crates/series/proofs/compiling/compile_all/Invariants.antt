use Rattle.std.proofs.Common.{◌≡◌, List, drop, take}
use Rattle.std.specs.Prelude.{IfSome}
use Rattle.battles.specs.Programs.{AreOfProfile}
use Rattle.series.specs.Compiling.{SourceFile, compiling, files_of, compile_status}
use Rattle.series.specs.CompiledFiles.{programs_of}
use Rattle.series.specs.Failures.{failures}
use Rattle.series.specs.Pieces.{taken_by_sinks, Writes}
use Rattle.series.specs.SourceReading.{TakesOfFirst}
use Rattle.series.specs.ProgramKeeping.{kept_by}
use Rattle.series.specs.SourceContents.{AreSources, known_to_come}
use Rattle.series.proofs.CompilingLemmas.{IsManned}
use Rattle.series.proofs.compiling.compile_all.Given as goal

-- The feeds of the files to come are as they were, nothing failed, there is a program for each file so far unless one
-- was faulty, the files so far are compiled and the status is theirs, of each no more is taken than decides it and a
-- window, and all programs are of the profile asked for.
abbrev pub invariant-loop-file : goal.invariant-loop-file
invariant-loop-file g l =
    (drop l.file l.feeds ≡ drop l.file l.fn.feeds)
    × (failures g.F.Feed.device l.feeds (g.O.Sink.written l.out) (g.E.Sink.written l.err)
    ≡ failures g.F.Feed.device l.fn.feeds (g.O.Sink.written l.fn.out) (g.E.Sink.written l.fn.err))
    × (g.K.TakesPrograms.mode l.keeper ≡ l.settings.mode)
    × IfSome (g.K.TakesPrograms.kept l.keeper) (λ kept. IsManned l.status l.file kept)
    × ((sources : List SourceFile) → AreSources sources l.settings.file_words (known_to_come g.F.Feed.device l.fn.feeds)
    →
    Writes (taken_by_sinks (g.O.Sink.written l.fn.out) (g.E.Sink.written l.fn.err))
    (taken_by_sinks (g.O.Sink.written l.out) (g.E.Sink.written l.err))
    (compiling l.settings.mode l.settings.profile (take l.file sources))
    × (l.status ≡ compile_status (files_of l.settings.profile (take l.file sources)))
    ×
    IfSome (g.K.TakesPrograms.kept l.keeper)
    (λ kept. kept_by l.status kept ≡ programs_of l.settings.profile (take l.file sources)))
    ×
    TakesOfFirst l.settings.profile (known_to_come g.F.Feed.device l.fn.feeds)
    (known_to_come g.F.Feed.device l.feeds) l.file
    × IfSome (g.K.TakesPrograms.kept l.keeper) (λ kept. AreOfProfile l.settings.profile kept)
