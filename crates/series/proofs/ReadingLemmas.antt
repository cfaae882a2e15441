-- How much was read, file by file.
use Rattle.std.proofs.Common.{◌≡◌, ◌≢◌, ℕ, ◌+◌, ◌-◌, ◌<◌, List, ◌++◌, Option, None, length, take, drop, get_or, map, set, sym, ap, ◌∙◌, subst, arith, below_more, get_or-set_other, get_or-set_same}
use Rattle.std.proofs.lemmas.List.{get_or-map, drop-map, length-drop, length-map, map-set, take-append-drop}
use Rattle.std.proofs.lemmas.Grind.{flat_map-append}
use Rattle.grammar.specs.Profile.{Profile}
use Rattle.settings.specs.declared.settings.Mode.{Mode}
use Rattle.series.specs.Compiling.{SourceFile, compiling, source_pieces}
use Rattle.series.specs.Pieces.{Begins, Piece, Taken, Writes}
use Rattle.series.specs.SourceReading.{FailsToRead, MayLeaveUndecided, ReadsFirst, TakesOf, TakesOfFirst, TakesPast}
use Rattle.series.proofs.PiecesLemmas.{begins_then, writes_split}
use Rattle.series.proofs.RunsLemmas.{feed_here, rest_more}

module _ {X : Type 0} where
  -- what a feed tells, and what it told at the start
  told_there : (tells : X → Option (List ℕ)) (start feeds : List X) (file : ℕ) (x : X) → file < length start →
      drop file feeds ≡ drop file start
      → get_or (map tells start) file None ≡ tells (get_or feeds file x)
  told_there tells start feeds file x within same =
      get_or-map tells start file x None within ∙ ap tells (sym (feed_here start feeds file x same))

  pub same_length : (start feeds : List X) (file : ℕ) → file < length start → drop file feeds ≡ drop file start →
      file < length feeds
  same_length start feeds file within same =
      let rests : length feeds - file ≡ length start - file =
      sym (length-drop file feeds) ∙ ap length same ∙ length-drop file start in
      omega (arith, rests)

  -- what the file that was read tells then
  told_then : (tells : X → Option (List ℕ)) (feeds : List X) (file : ℕ) (y : X) → file < length feeds
      → get_or (map tells (set feeds file y)) file None ≡ tells y
  told_then tells feeds file y within =
      let inside : file < length (map tells feeds) = rw (length-map feeds tells) within in
      ap (λ l. get_or l file None) (map-set tells feeds file y) ∙
      get_or-set_same (map tells feeds) file (tells y) None inside

  told_others : (tells : X → Option (List ℕ)) (feeds : List X) (file i : ℕ) (y : X) → i ≢ file
      → get_or (map tells (set feeds file y)) i None ≡ get_or (map tells feeds) i None
  told_others tells feeds file i y other =
      ap (λ l. get_or l i None) (map-set tells feeds file y) ∙
      get_or-set_other (map tells feeds) file i (tells y) None other

  -- the files before the one that was read
  pub reads_before : (tells : X → Option (List ℕ)) (profile : Profile) (start feeds : List X) (file : ℕ) (y : X)
      → TakesOfFirst profile (map tells start) (map tells feeds) file →
      TakesOfFirst profile (map tells start) (map tells (set feeds file y)) file
  reads_before tells profile start feeds file y read i below =
      let Takes : Option (List ℕ) → Type 0 = λ later. TakesOf profile (get_or (map tells start) i None) later 4096 in
      let other : i ≢ file = omega arith in
      subst Takes (sym (told_others tells feeds file i y other)) (read i below)

  -- the file that was read
  pub reads_here : (Takes : (contents later : Option (List ℕ)) → Type 0) (tells : X → Option (List ℕ))
      (start feeds : List X) (file : ℕ) (x y : X) → file < length start
      → drop file feeds ≡ drop file start → Takes (tells (get_or feeds file x)) (tells y)
      → Takes (get_or (map tells start) file None) (get_or (map tells (set feeds file y)) file None)
  reads_here Takes tells start feeds file x y within same takes =
      rw (
        told_there tells start feeds file x within same,
        told_then tells feeds file y (same_length start feeds file within same),
      ) takes

  -- one file more was read
  pub reads_more : (tells : X → Option (List ℕ)) (profile : Profile) (start feeds : List X) (file : ℕ) (x y : X) →
      file < length start
      → drop file feeds ≡ drop file start → TakesOfFirst profile (map tells start) (map tells feeds) file
      → TakesOf profile (tells (get_or feeds file x)) (tells y) 4096
      → TakesOfFirst profile (map tells start) (map tells (set feeds file y)) (file + 1)
  reads_more tells profile start feeds file x y within same read takes =
      below_more _ _ (reads_before tells profile start feeds file y read)
      (reads_here (λ contents later. TakesOf profile contents later 4096) tells start feeds file x y within same takes)

  unread_of : (tells : X → Option (List ℕ)) (start feeds : List X) (count : ℕ) → drop count feeds ≡ drop count start
      → drop count (map tells feeds) ≡ drop count (map tells start)
  unread_of tells start feeds count same =
      drop-map tells count feeds ∙ ap (map tells) same ∙ sym (drop-map tells count start)

  -- n files were read
  pub reads_first : (tells : X → Option (List ℕ)) (profile : Profile) (start feeds : List X) (count : ℕ) →
      drop count feeds ≡ drop count start
      → TakesOfFirst profile (map tells start) (map tells feeds) count →
      ReadsFirst profile (map tells start) (map tells feeds) count
  reads_first tells profile start feeds count same read =
      record { read = read; unread = unread_of tells start feeds count same }

  -- all files were read
  pub reads_all : (tells : X → Option (List ℕ)) (profile : Profile) (start feeds : List X) (file : ℕ) →
      file ≡ length start
      → drop file feeds ≡ drop file start → TakesOfFirst profile (map tells start) (map tells feeds) file →
      ReadsFirst profile (map tells start) (map tells feeds) (length (map tells start))
  reads_all tells profile start feeds file end same read =
      let P : ℕ → Type 0 = λ n. ReadsFirst profile (map tells start) (map tells feeds) n in
      subst P (end ∙ sym (length-map start tells)) (reads_first tells profile start feeds file same read)

  -- the read of a file failed
  pub fails_at : (tells : X → Option (List ℕ)) (profile : Profile) (start feeds : List X) (file : ℕ) (x y : X) →
      file < length start
      → drop file feeds ≡ drop file start → TakesOfFirst profile (map tells start) (map tells feeds) file
      → MayLeaveUndecided profile (tells (get_or feeds file x)) (tells y)
      → FailsToRead profile (map tells start) (map tells (set feeds file y)) file
  fails_at tells profile start feeds file x y within same read takes = record {
    before = reads_before tells profile start feeds file y read;
    here = reads_here (MayLeaveUndecided profile) tells start feeds file x y within same takes;
    unread = unread_of tells start (set feeds file y) (file + 1) (rest_more start feeds file y same);
  }

-- a write of this file's pieces failed
pub cut_at : (mode : Mode) (profile : Profile) (sources : List SourceFile) (file : ℕ) (before now after : Taken)
    (pieces : List Piece)
    → Writes before now (compiling mode profile (take file sources)) → Begins now after pieces
    → TakesPast before after (compiling mode profile (take (file + 1 - 1) sources))
cut_at mode profile sources file before now after pieces so_far begins =
    let same : file + 1 - 1 ≡ file = omega arith in rw same (now, so_far, (pieces, begins))

-- a write failed after all files were compiled
pub cut_behind : (mode : Mode) (profile : Profile) (sources : List SourceFile) (count : ℕ) (before now after : Taken)
    (pieces : List Piece)
    → Writes before now (compiling mode profile sources) → Begins now after pieces
    → TakesPast before after (compiling mode profile (take count sources))
cut_behind mode profile sources count before now after pieces writes begins =
    let first : List Piece = compiling mode profile (take count sources) in
    let rest : List Piece = compiling mode profile (drop count sources) in
    let split : compiling mode profile sources ≡ first ++ rest =
    sym (ap (λ l. compiling mode profile l) (take-append-drop count sources))
    ∙ flat_map-append (source_pieces mode profile) (take count sources) (drop count sources) in
    let (between, front, back) = writes_split before now first rest (rw split at writes) in
    (between, front, (rest ++ pieces, begins_then between now after rest pieces back begins))
