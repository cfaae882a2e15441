use Rattle.std.proofs.Common.{◌≡◌, ◌∙◌, List, ℕ, Option, map, ap, sym, Bor}
use Rattle.std.proofs.lemmas.Simd.{map-map}
use Rattle.command.specs.Files.{EachShows}
use Rattle.command.proofs.FilesLemmas.{shown}
use Rattle.command.proofs.WholeLemmas.{ends_by_run}
use Rattle.series.specs.SourceContents.{known_to_come}
use Rattle.command.proofs.running.run_to_ending.Goals as goal

pub returns-clause-ends : goal.returns-clause-ends
returns-clause-ends g c =
    let holds : List ℕ → Option (List ℕ) = (g.D.Opener.files c.args.disk.now).holds in
    let fails : List ℕ → Type 0 = (g.D.Opener.files c.args.disk.now).fails in
    let known : known_to_come g.D.File.Feed.device c.as_mut_slice.result.now ≡ map holds c.in-Ok.settings.file_words =
    ap (map (λ feed. (g.D.File.Feed.device feed).to_come)) c.as_mut_slice.ensures.value
    ∙ (c.in-Ok-open_files.ensures.contents
    ∙
    (sym (map-map holds (λ (word : Bor (List ℕ)). word.now) c.file_words.result.now) ∙
    ap (map holds) c.file_words.ensures.value)) in
    let each : EachShows g.D.File.Feed.device fails c.in-Ok.settings.file_words c.as_mut_slice.result.now =
    rw (c.as_mut_slice.ensures.value, sym c.file_words.ensures.value) c.in-Ok-open_files.ensures.shows in
    ends_by_run (g.D.Opener.files c.args.disk.now) _
    c.in-Ok.settings _ _ c.run_files.result _ _ _ _
    c.in-Ok.ensures.answer known
    (λ word. shown g.D.File.Feed.device fails c.in-Ok.settings.file_words c.as_mut_slice.result.now _ word each)
    c.run_files.ensures.ran
