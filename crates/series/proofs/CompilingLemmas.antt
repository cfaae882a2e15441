-- What compiling gives and writes, file by file.
use Rattle.std.proofs.Common.{◌≡◌, ℕ, ◌+◌, ◌<◌, ◌≤◌, List, [], ◌∷◌, ◌++◌, length, take, drop, get_or, map, Option, Some, None, Result, Ok, Err, refl, sym, ap, ◌∙◌, subst, arith}
use Rattle.std.specs.Prelude.{option_map, IfSome}
use Rattle.std.proofs.lemmas.List.Sums.{fold-append}
use Rattle.std.proofs.lemmas.List.{take_all, take_more, map-append, take-append-drop, append-nil}
use Rattle.std.proofs.lemmas.Grind.{flat_map-append}
use Rattle.grammar.specs.Profile.{Profile}
use Rattle.grammar.specs.declared.diagnostics.Diagnostic.{Diagnostic}
use Rattle.grammar.specs.Compiled.{compiled}
use Rattle.grammar.specs.Tree.{File}
use Rattle.code.specs.Generation.{Program, code_of}
use Rattle.settings.specs.declared.settings.Mode.{Mode}
use Rattle.settings.specs.Settings.{Settings}
use Rattle.series.specs.Compiling.{SourceFile, and_file, files_of, source_pieces, compile_status, compiling}
use Rattle.series.specs.CompiledFiles.{programs_of, program_or_fault, compiled_program}
use Rattle.series.specs.Pieces.{Taken, Writes, Begins}
use Rattle.series.specs.ProgramKeeping.{and_program_of_file, and_compiled, worse_status, count_of, kept_by, KeepsMore, status_by}
use Rattle.series.specs.CompiledFiles.{CompilesAll}
use Rattle.series.specs.declared.run_results.Status.{Status}
use Rattle.series.specs.declared.run_results.Status.TheVariants.{Done, Faulty}
use Rattle.series.proofs.PiecesLemmas.{writes_then, begins_then, begins_more}
use Rattle.series.proofs.RunsLemmas.{no_source}

-- one more file is one more program
codes_and_file : (profile : Profile) (files : Option (List File)) (verdict : Result File Diagnostic)
    → option_map (λ files. map (code_of profile) files) (and_file files verdict)
    ≡ and_program_of_file (option_map (λ files. map (code_of profile) files) files) (program_or_fault profile verdict)
codes_and_file profile (Some files) (Ok file) =
    ap (λ (l : List Program). Some l) (map-append (code_of profile) files (file ∷ []))
codes_and_file profile (Some files) (Err d) = refl
codes_and_file profile None (Ok file) = refl
codes_and_file profile None (Err d) = refl

-- the files with one source more
files_more : (profile : Profile) (sources : List SourceFile) (file : ℕ) → file < length sources
    →
    files_of profile (take (file + 1) sources) ≡
    and_file (files_of profile (take file sources)) (compiled profile (get_or sources file no_source).bytes)
files_more profile sources file within =
    rw (take_more sources file no_source within)
    (fold-append (λ files source. and_file files (compiled profile source.bytes)) (Some []) (take file sources)
    (get_or sources file no_source ∷ []))

-- the status of the files with one more
both_of : (profile : Profile) (files : Option (List File)) (verdict : Result File Diagnostic)
    →
    worse_status (compile_status files) (status_by (program_or_fault profile verdict)) ≡
    compile_status (and_file files verdict)
both_of profile (Some files) (Ok file) = refl
both_of profile (Some files) (Err d) = refl
both_of profile None (Ok file) = refl
both_of profile None (Err d) = refl

-- the status of the files so far, with one source more
pub status_more : (profile : Profile) (sources : List SourceFile) (file : ℕ) (so_far one : Status) →
    file < length sources
    → so_far ≡ compile_status (files_of profile (take file sources)) →
    one ≡ status_by (compiled_program profile (get_or sources file no_source).bytes)
    → worse_status so_far one ≡ compile_status (files_of profile (take (file + 1) sources))
status_more profile sources file so_far one within is one_is = rw (files_more profile sources file within, is, one_is)
    (both_of profile (files_of profile (take file sources)) (compiled profile (get_or sources file no_source).bytes))

-- the programs with one source more
kept_more : (profile : Profile) (sources : List SourceFile) (file : ℕ) → file < length sources
    → and_program_of_file (programs_of profile (take file sources))
    (compiled_program profile (get_or sources file no_source).bytes)
    ≡ programs_of profile (take (file + 1) sources)
kept_more profile sources file within =
    rw (files_more profile sources file within) (sym (codes_and_file profile (files_of profile (take file sources)) _))

-- the programs kept of the files so far, with what is kept of one more
kept_of : (so_far : Status) (kept codes : Option (List Program)) (code : Result Program Diagnostic) →
    IfSome kept (λ k. kept_by so_far k ≡ codes)
    →
    IfSome (and_compiled kept code)
    (λ k. kept_by (worse_status so_far (status_by code)) k ≡ and_program_of_file codes code)
kept_of so_far None codes (Ok code) are = tt
kept_of so_far None codes (Err d) are = tt
kept_of Done (Some kept) codes (Ok code) are = ap (λ c. and_program_of_file c (Ok code)) are
kept_of Done (Some kept) codes (Err d) are = ap (λ c. and_program_of_file c (Err d)) are
kept_of Faulty (Some kept) codes (Ok code) are = ap (λ c. and_program_of_file c (Ok code)) are
kept_of Faulty (Some kept) codes (Err d) are = ap (λ c. and_program_of_file c (Err d)) are

-- those with one source more
pub kept_with : (profile : Profile) (sources : List SourceFile) (file : ℕ) (so_far one : Status)
    (kept after : Option (List Program)) → file < length sources
    → IfSome kept (λ k. kept_by so_far k ≡ programs_of profile (take file sources))
    → one ≡ status_by (compiled_program profile (get_or sources file no_source).bytes)
    → after ≡ and_compiled kept (compiled_program profile (get_or sources file no_source).bytes)
    → IfSome after (λ k. kept_by (worse_status so_far one) k ≡ programs_of profile (take (file + 1) sources))
kept_with profile sources file so_far one kept after within are is adds =
    let P : Option (List Program) → Type 0 = λ codes. IfSome after (λ k. kept_by (worse_status so_far one) k ≡ codes) in
    subst P (kept_more profile sources file within) (rw (is, adds) (kept_of so_far kept _ _ are))

-- how many they are
pub manned_more : (so_far one : Status) (file kept after : ℕ) → after ≡ kept + count_of one → kept ≤ file →
    (so_far ≡ Done → kept ≡ file)
    → (after ≤ file + 1) × (worse_status so_far one ≡ Done → after ≡ file + 1)
manned_more Done Done file kept after is most all = (omega (arith, is, most), λ done. omega (arith, is, all refl))
manned_more Done Faulty file kept after is most all = (omega (arith, is, most), λ done. cc)
manned_more Faulty Done file kept after is most all = (omega (arith, is, most), λ done. cc)
manned_more Faulty Faulty file kept after is most all = (omega (arith, is, most), λ done. cc)

-- of the files so far one program each is kept, unless one was faulty
abbrev pub IsManned : Status → ℕ → List Program → Type 0
IsManned so_far file kept = (length kept ≤ file) × (so_far ≡ Done → length kept ≡ file)

pub manned_with : (so_far one : Status) (file : ℕ) (kept after : Option (List Program)) → KeepsMore one kept after
    → IfSome kept (λ k. IsManned so_far file k) → IfSome after (λ k. IsManned (worse_status so_far one) (file + 1) k)
manned_with so_far one file kept None more are = tt
manned_with so_far one file None (Some after) more are = absurd cc
manned_with so_far one file (Some kept) (Some after) more are =
    let is : length after ≡ length kept + count_of one = cc in
    manned_more so_far one file (length kept) (length after) is are.0 are.1

-- what is so of each list of programs is so of those that are kept
pub so_kept : (P Q : List Program → Type 0) (kept : Option (List Program)) → ((k : List Program) → P k → Q k)
    → IfSome kept (λ k. P k) → IfSome kept (λ k. Q k)
so_kept P Q None so are = tt
so_kept P Q (Some kept) so are = so kept are

-- the pieces of one source more
compiling_more : (mode : Mode) (profile : Profile) (sources : List SourceFile) (file : ℕ) → file < length sources
    → compiling mode profile (take (file + 1) sources)
    ≡ compiling mode profile (take file sources) ++ source_pieces mode profile (get_or sources file no_source)
compiling_more mode profile sources file within =
    rw (take_more sources file no_source within)
    (flat_map-append (source_pieces mode profile) (take file sources) (get_or sources file no_source ∷ [])
    ∙
    ap (λ l. compiling mode profile (take file sources) ++ l)
    (append-nil (source_pieces mode profile (get_or sources file no_source))))

-- one file's pieces more
pub pieces_more : (mode : Mode) (profile : Profile) (sources : List SourceFile) (file : ℕ) (before now after : Taken)
    → file < length sources → Writes before now (compiling mode profile (take file sources))
    → Writes now after (source_pieces mode profile (get_or sources file no_source))
    → Writes before after (compiling mode profile (take (file + 1) sources))
pieces_more mode profile sources file before now after within so_far writes =
    rw (compiling_more mode profile sources file within) (writes_then before now after _ _ so_far writes)

-- the next file's pieces were cut
pub pieces_cut : (mode : Mode) (profile : Profile) (sources : List SourceFile) (file : ℕ) (before now after : Taken)
    → file < length sources → Writes before now (compiling mode profile (take file sources))
    → Begins now after (source_pieces mode profile (get_or sources file no_source))
    → Begins before after (compiling mode profile sources)
pieces_cut mode profile sources file before now after within so_far begins =
    let split : compiling mode profile sources ≡
    compiling mode profile (take (file + 1) sources) ++ compiling mode profile (drop (file + 1) sources) =
    sym (ap (λ l. compiling mode profile l) (take-append-drop (file + 1) sources))
    ∙ flat_map-append (source_pieces mode profile) (take (file + 1) sources) (drop (file + 1) sources) in
    rw (split, compiling_more mode profile sources file within)
    (begins_more before after _ _ (begins_then before now after _ _ so_far begins))

-- all files are compiled
pub all_compiled : (settings : Settings) (sources : List SourceFile) (file : ℕ) (so_far : Status)
    (kept : Option (List Program)) (before after : Taken)
    → length sources ≤ file
    → Writes before after (compiling settings.mode settings.profile (take file sources))
    × (so_far ≡ compile_status (files_of settings.profile (take file sources)))
    × IfSome kept (λ k. kept_by so_far k ≡ programs_of settings.profile (take file sources))
    → CompilesAll settings sources (Ok so_far) kept before after
all_compiled settings sources file so_far kept before after past are =
    let P : List SourceFile → Type 0 = λ l. Writes before after (compiling settings.mode settings.profile l)
    × (so_far ≡ compile_status (files_of settings.profile l))
    × IfSome kept (λ k. kept_by so_far k ≡ programs_of settings.profile l) in
    let (writes, status, codes) = subst P (take_all file sources past) are in
    record { output = (writes, status); programs = codes }
