-- What a series writes, report by report.
use Rattle.std.proofs.Common.{Result, Ok, Err, ◌≡◌, ℕ, ◌+◌, ◌<◌, List, [], ◌∷◌, ◌++◌, take, drop, refl, sym, ap, ◌∙◌, inl, arith, append_assoc}
use Rattle.std.proofs.lemmas.List.{take-append-drop}
use Rattle.std.proofs.lemmas.List.FromFn.{map-range_with_len_more, take-map-range_with_len}
use Rattle.grammar.specs.Tree.{File}
use Rattle.settings.specs.Settings.{Settings}
use Rattle.series.specs.Pieces.{Piece, Taken, on_both, Writes, Begins}
use Rattle.series.specs.Outcomes.{report_text, totals_text}
use Rattle.series.specs.Playing.{playing, reports, text_piece}
use Rattle.sinks.specs.Portions.{Portions, SinkState, Takes, TakesPrefix}
use Rattle.sinks.specs.Puts.{Puts}
use Rattle.series.specs.CompiledFiles.{PutsPieces}
use Rattle.series.proofs.PiecesLemmas.{writes_then, begins_then, begins_more}

-- one report more
reports_more : (settings : Settings) (files : List File) (count : ℕ)
    → reports settings files (count + 1)
    ≡ reports settings files count ++ text_piece (report_text settings files (settings.first + count)) ∷ []
reports_more settings files count =
    map-range_with_len_more (λ k. text_piece (report_text settings files k)) settings.first count _ refl

-- one report more was written
pub report_written : (settings : Settings) (files : List File) (count : ℕ) (before : Taken)
    (now after faults : Portions)
    → Writes before (on_both now faults) (reports settings files count)
    → Takes now after (report_text settings files (settings.first + count))
    → Writes before (on_both after faults) (reports settings files (count + 1))
report_written settings files count before now after faults so_far takes =
    rw (reports_more settings files count)
    (writes_then before (on_both now faults) (on_both after faults) _ _ so_far
    (on_both after faults, (takes, refl), refl))

-- the next report was cut
pub report_cut : (settings : Settings) (files : List File) (count : ℕ) (before : Taken) (now after faults : Portions)
    → count < settings.matches → Writes before (on_both now faults) (reports settings files count)
    → TakesPrefix now after (report_text settings files (settings.first + count))
    → Begins before (on_both after faults) (playing settings files)
unfolding playing
report_cut settings files count before now after faults left so_far front =
    let all : List Piece = reports settings files settings.matches in
    let first : take (count + 1) all ≡ reports settings files (count + 1) =
    take-map-range_with_len (λ k. text_piece (report_text settings files k)) settings.first settings.matches (count + 1)
    (omega arith) in
    let split : all ≡ reports settings files (count + 1) ++ drop (count + 1) all =
    sym (take-append-drop (count + 1) all) ∙ ap (λ l. l ++ drop (count + 1) all) first in
    let last : List Piece = text_piece (totals_text settings files) ∷ [] in
    let whole : all ++ last ≡ (reports settings files count
    ++ text_piece (report_text settings files (settings.first + count)) ∷ []) ++ (drop (count + 1) all ++ last) =
    ap (λ l. l ++ last) split ∙ append_assoc (reports settings files (count + 1)) (drop (count + 1) all) last
    ∙ ap (λ l. l ++ (drop (count + 1) all ++ last)) (reports_more settings files count) in
    rw whole
    (begins_more before (on_both after faults) _ _
    (begins_then before (on_both now faults) (on_both after faults) _ _ so_far (inl (front, refl))))

-- the totals were put, and so all
pub totals_put : {T E : Type 0} (settings : Settings) (files : List File) (before : Taken) (now after : SinkState)
    (faults : Portions) (result : Result T E)
    → Writes before (on_both now.portions faults) (reports settings files settings.matches)
    → Puts result now after (totals_text settings files)
    → PutsPieces result before (on_both after.portions faults) (playing settings files)
unfolding playing
totals_put settings files before now after faults (Ok done) so_far (takes, calm) =
    writes_then before (on_both now.portions faults) (on_both after.portions faults) _ _ so_far
    (on_both after.portions faults, (takes, refl), refl)
totals_put settings files before now after faults (Err stopped) so_far (front, more) =
    begins_then before (on_both now.portions faults) (on_both after.portions faults) _ _ so_far
    (inl (front, refl))
