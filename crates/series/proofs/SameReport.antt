-- The report of a match is the same in each series that contains it.
use Rattle.std.proofs.Common.{◌≡◌, ℕ, ◌+◌, ◌-◌, ◌<◌, zero, suc, List, [], ◌∷◌, ◌++◌, length, map, Option, Some, None, Ok, refl, sym, ap, ◌∙◌, arith}
use Rattle.std.specs.Prelude.{slice_get}
use Rattle.std.specs.List.{range_with_len}
use Rattle.std.proofs.lemmas.List.FromFn.{length-map-range_with_len}
use Rattle.grammar.specs.Compiled.{compiled}
use Rattle.grammar.specs.Profile.{Profile}
use Rattle.grammar.specs.Tree.{File}
use Rattle.settings.specs.declared.settings.Mode.TheVariants.{Matches}
use Rattle.settings.specs.Settings.{Settings}
use Rattle.series.specs.declared.run_results.Status.TheVariants.{Done}
use Rattle.series.specs.Compiling.{SourceFile, compiling, files_of, compile_status}
use Rattle.series.specs.Output.{output, played}
use Rattle.series.specs.Pieces.{Piece}
use Rattle.series.specs.Outcomes.{outcome_of, report_text, totals_text}
use Rattle.series.specs.Playing.{playing, reports, text_piece}
use Rattle.series.specs.SameReport.{Contains, report_in, SameReport, with_matches}
use Rattle.series.proofs.OutputLemmas.{each_compiles}

-- if all files are good, compiling them for matches writes nothing
nothing_listed : (profile : Profile) (sources : List SourceFile) (files : List File)
    → map (λ source. compiled profile source.bytes) sources ≡ map (λ file. Ok file) files
    → compiling Matches profile sources ≡ []
nothing_listed profile [] files same = refl
nothing_listed profile (source ∷ sources) [] same = absurd (cc same)
nothing_listed profile (source ∷ sources) (file ∷ files) same =
    let here : compiled profile source.bytes ≡ Ok file = cc same in
    rw here (nothing_listed profile sources files (cc same))

-- the files of a run that is done
done_files : (files : Option (List File)) → compile_status files ≡ Done → (good : List File) × (files ≡ Some good)
done_files (Some files) done = (files, refl)
done_files None done = cc

-- an item of the front
in_front : {A : Type 0} (xs ys : List A) (i : ℕ) → i < length xs → slice_get (xs ++ ys) i ≡ slice_get xs i
in_front [] ys i below = absurd (omega arith)
in_front (x ∷ xs) ys zero below = refl
in_front (x ∷ xs) ys (suc i) below = in_front xs ys i (omega arith)

-- the report at an index
report_at : (f : ℕ → Piece) (a n i : ℕ) → i < n → slice_get (map f (range_with_len a n)) i ≡ Some (f (a + i))
report_at f a zero i below = absurd (omega arith)
report_at f a (suc n) zero below = ap (λ k. Some (f k)) (omega arith)
report_at f a (suc n) (suc i) below =
    report_at f (a + 1) n i (omega arith) ∙ ap (λ k. Some (f k)) (omega arith)

-- the report of a match that the series contains
report_is : (settings : Settings) (sources : List SourceFile) (files : List File) (k : ℕ) → settings.mode ≡ Matches →
    files_of settings.profile sources ≡ Some files
    → Contains settings k → report_in settings sources k ≡ Some (text_piece (report_text settings files k))
unfolding playing
report_is settings sources files k matches good contains =
    let Report : ℕ → Piece = λ k. text_piece (report_text settings files k) in
    let none : compiling settings.mode settings.profile sources ≡ [] =
    let (rest, are, each) = each_compiles settings.profile sources [] files good in
    rw matches (nothing_listed settings.profile sources rest each) in
    let all : played settings settings.mode (files_of settings.profile sources) ≡ playing settings files =
    rw (matches, good) refl in
    let whole : (output settings sources).pieces ≡ playing settings files =
    ap (λ l. l ++ played settings settings.mode (files_of settings.profile sources)) none ∙ all in
    let within : k - settings.first < settings.matches = omega (arith, contains.least, contains.most) in
    let number : settings.first + (k - settings.first) ≡ k = omega (arith, contains.least) in
    ap (λ l. slice_get l (k - settings.first)) whole
    ∙
    in_front (reports settings files settings.matches) (text_piece (totals_text settings files) ∷ [])
    (k - settings.first)
    (omega (arith, length-map-range_with_len Report settings.first settings.matches))
    ∙ report_at Report settings.first settings.matches (k - settings.first) within
    ∙ ap (λ n. Some (Report n)) number

-- whatever the other matches are
same_text : (settings : Settings) (files : List File) (first matches k : ℕ) →
    report_text settings files k ≡ report_text (with_matches settings first matches) files k
unfolding outcome_of
same_text settings files first matches k = refl

pub same_report : SameReport
same_report settings sources first matches k is done here there =
    let found = done_files (files_of settings.profile sources) done in
    report_is settings sources found.0 k is found.1 here
    ∙ ap (λ text. Some (text_piece text)) (same_text settings found.0 first matches k)
    ∙ sym (report_is (with_matches settings first matches) sources found.0 k is found.1 there)
