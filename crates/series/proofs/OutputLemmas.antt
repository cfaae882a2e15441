-- The whole output, from what compiling and playing write.
use Rattle.std.proofs.Common.{◌≡◌, ℕ, List, [], ◌∷◌, ◌++◌, map, Option, Some, None, Result, Ok, Err, refl, sym, ◌∙◌, append_assoc, arith, zero, suc}
use Rattle.std.specs.Prelude.{All, option_map}
use Rattle.std.specs.List.{fold}
use Rattle.std.proofs.lemmas.List.{append-nil}
use Rattle.tokens.specs.Tokens.{tokens}
use Rattle.grammar.specs.Compiled.{compiled}
use Rattle.grammar.specs.declared.diagnostics.Diagnostic.{Diagnostic}
use Rattle.grammar.specs.Laws.{CompiledIsResolved}
use Rattle.grammar.specs.Profile.{Profile}
use Rattle.grammar.specs.Resolved.{IsResolved}
use Rattle.grammar.specs.Tree.{File}
use Rattle.code.specs.Codes.{AreProgramsOf}
use Rattle.code.specs.Generation.{Program, code_of}
use Rattle.settings.specs.declared.settings.Mode.{Mode}
use Rattle.settings.specs.declared.settings.Mode.TheVariants.{Listing, Matches}
use Rattle.settings.specs.Settings.{Settings}
use Rattle.series.specs.declared.run_results.RunFault.{RunFault}
use Rattle.series.specs.declared.run_results.RunFault.TheVariants as run_fault
use Rattle.series.specs.declared.run_results.Status.{Status}
use Rattle.series.specs.declared.run_results.Status.TheVariants.{Done, Faulty}
use Rattle.series.specs.Compiling.{SourceFile, and_file, compiling, files_of, compile_status}
use Rattle.series.specs.CompiledFiles.{CompilesTo, programs_of}
use Rattle.series.specs.Output.{output, played, Runs, StopsRun}
use Rattle.series.specs.Pieces.{Taken, Writes, Begins}
use Rattle.series.specs.Outcomes.{outcome_of}
use Rattle.series.specs.Playing.{playing}
use Rattle.series.proofs.PiecesLemmas.{writes_then, begins_then, begins_more}

-- with a faulty file nothing is played
faulty_plays : (settings : Settings) (mode : Mode) (files : Option (List File)) →
    None ≡ option_map (λ files. map (code_of settings.profile) files) files
    → (played settings mode files ≡ []) × (Faulty ≡ compile_status files)
faulty_plays settings mode (Some files) none = cc
faulty_plays settings Listing None none = (refl, refl)
faulty_plays settings Matches None none = (refl, refl)

pub faulty_run : (settings : Settings) (sources : List SourceFile) (before after : Taken)
    → Writes before after (compiling settings.mode settings.profile sources) →
    None ≡ programs_of settings.profile sources
    → Writes before after (output settings sources).pieces × (Faulty ≡ (output settings sources).status)
faulty_run settings sources before after writes none =
    let ends = faulty_plays settings settings.mode (files_of settings.profile sources) none in
    (rw (ends.0, append-nil (compiling settings.mode settings.profile sources)) writes, ends.1)

-- the files of the programs that were kept
kept_files : (profile : Profile) (kept : List Program) (files : Option (List File)) →
    Some kept ≡ option_map (λ files. map (code_of profile) files) files
    → (good : List File) × (files ≡ Some good) × (kept ≡ map (code_of profile) good)
kept_files profile kept (Some files) some = (files, refl, cc)
kept_files profile kept None some = cc

-- a file that compiles is resolved
resolved_here : CompiledIsResolved → (profile : Profile) (bytes : List ℕ) (file : File) →
    compiled profile bytes ≡ Ok file → IsResolved file
unfolding compiled
resolved_here law profile bytes file is = law profile (tokens bytes) file is

-- if no file has a fault, each source compiles to its own
pub each_compiles : (profile : Profile) (sources : List SourceFile) (so_far files : List File)
    → fold (λ files source. and_file files (compiled profile source.bytes)) (Some so_far) sources ≡ Some files
    → (rest : List File) × (files ≡ so_far ++ rest)
    × (map (λ source. compiled profile source.bytes) sources ≡ map (λ file. Ok file) rest)
each_compiles profile [] so_far files is = let same : files ≡ so_far = cc in ([], same ∙ sym (append-nil so_far), refl)
each_compiles profile (source ∷ sources) so_far files is =
    by_verdict (compiled profile source.bytes) refl is
    (λ file. each_compiles profile sources (so_far ++ file ∷ []) files)
  where
    none_later : (sources : List SourceFile) →
        fold (λ files source. and_file files (compiled profile source.bytes)) None sources ≡ None
    none_later [] = refl
    none_later (s ∷ sources) = none_later sources

    by_verdict : (verdict : Result File Diagnostic) → compiled profile source.bytes ≡ verdict
        → fold (λ files source. and_file files (compiled profile source.bytes)) (and_file (Some so_far) verdict) sources
        ≡ Some files
        → ((file : File)
        → fold (λ files source. and_file files (compiled profile source.bytes)) (Some (so_far ++ file ∷ [])) sources
        ≡ Some files
        → (rest : List File) × (files ≡ (so_far ++ file ∷ []) ++ rest)
        × (map (λ source. compiled profile source.bytes) sources ≡ map (λ file. Ok file) rest))
        → (rest : List File) × (files ≡ so_far ++ rest)
        × (map (λ source. compiled profile source.bytes) (source ∷ sources) ≡ map (λ file. Ok file) rest)
    by_verdict (Ok file) here is more =
        let (rest, are, each) = more file is in
        (file ∷ rest, are ∙ append_assoc so_far (file ∷ []) rest, rw (here, each) refl)
    by_verdict (Err d) here is more = let none = none_later sources in cc

-- so each file is resolved
all_resolved : CompiledIsResolved → (profile : Profile) (sources : List SourceFile) (files : List File)
    → map (λ source. compiled profile source.bytes) sources ≡ map (λ file. Ok file) files → All IsResolved files
all_resolved law profile sources [] same k d below = absurd (omega arith)
all_resolved law profile [] (file ∷ files) same k d below = absurd (cc same)
all_resolved law profile (source ∷ sources) (file ∷ files) same zero d below =
    resolved_here law profile source.bytes file (cc same)
all_resolved law profile (source ∷ sources) (file ∷ files) same (suc k) d below =
    all_resolved law profile sources files (cc same) k d (omega arith)

-- the programs that were kept are those of the files, each resolved
pub kept_codes : CompiledIsResolved → (profile : Profile) (sources : List SourceFile) (kept : List Program) →
    Some kept ≡ programs_of profile sources
    → (files : List File) × (files_of profile sources ≡ Some files) × AreProgramsOf kept profile files
kept_codes law profile sources kept some =
    let (files, are, kept_are) = kept_files profile kept (files_of profile sources) some in
    let (rest, same, each) = each_compiles profile sources [] files are in
    (files, are, record { are = kept_are; resolved = rw same (all_resolved law profile sources rest each) })

-- all matches were played
pub played_run : (settings : Settings) (sources : List SourceFile) (files : List File) (before now after : Taken) →
    settings.mode ≡ Matches
    → files_of settings.profile sources ≡ Some files →
    Writes before now (compiling settings.mode settings.profile sources) →
    Writes now after (playing settings files)
    → Writes before after (output settings sources).pieces × (Done ≡ (output settings sources).status)
unfolding playing outcome_of
played_run settings sources files before now after matches good first second =
    (rw (matches, good) (writes_then before now after _ _ (rw matches at first) second), rw good refl)

-- a write failed while they were played
pub played_stop : (settings : Settings) (sources : List SourceFile) (files : List File) (before now after : Taken) →
    settings.mode ≡ Matches
    → files_of settings.profile sources ≡ Some files →
    Writes before now (compiling settings.mode settings.profile sources) →
    Begins now after (playing settings files)
    → Begins before after (output settings sources).pieces
unfolding playing outcome_of
played_stop settings sources files before now after matches good first second =
    rw (matches, good) (begins_then before now after _ _ (rw matches at first) second)

-- compiling was stopped
pub stops_run : (settings : Settings) (sources : List SourceFile) (stopped : RunFault) (before after : Taken) →
    StopsRun settings sources (compiling settings.mode settings.profile sources) stopped before after
    → StopsRun settings sources (output settings sources).pieces stopped before after
stops_run settings sources (run_fault.Read file) before after writes = writes
stops_run settings sources run_fault.Write before after begins =
    begins_more before after (compiling settings.mode settings.profile sources)
    (played settings settings.mode (files_of settings.profile sources)) begins
stops_run settings sources run_fault.Memory before after never = never

-- what listing left: nothing was played
pub lists_run : (settings : Settings) (sources : List SourceFile) (result : Result Status RunFault)
    (before after : Taken) → settings.mode ≡ Listing
    → CompilesTo (compile_status (files_of settings.profile sources)) settings sources result before after
    → Runs settings sources result before after
lists_run settings sources (Ok status) before after listing (writes, is) =
    let none : played settings settings.mode (files_of settings.profile sources) ≡ [] = rw listing refl in
    (rw (none, append-nil (compiling settings.mode settings.profile sources)) writes, is)
lists_run settings sources (Err stopped) before after listing stops =
    stops_run settings sources stopped before after stops
