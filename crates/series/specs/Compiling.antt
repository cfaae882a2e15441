-- What compiling source files gives and writes.
use Rattle.std.specs.Prelude.{ℕ, List, [], ◌∷◌, ◌++◌, Option, Some, None, Result, Ok, Err, fold, flat_map}
use Rattle.grammar.specs.declared.diagnostics.Diagnostic.{Diagnostic}
use Rattle.grammar.specs.Compiled.{compiled}
use Rattle.grammar.specs.Pools.{Pools, pools_of}
use Rattle.grammar.specs.Profile.{Profile}
use Rattle.grammar.specs.DiagnosticTexts.{text_of}
use Rattle.grammar.specs.Tree.{File}
use Rattle.code.specs.Generation.{Program, code_of}
use Rattle.listings.specs.Listing.{listing_of}
use Rattle.settings.specs.declared.settings.Mode.{Mode}
use Rattle.settings.specs.declared.settings.Mode.TheVariants.{Listing, Matches}
use Rattle.series.specs.declared.run_results.Status.{Status}
use Rattle.series.specs.declared.run_results.Status.TheVariants.{Done, Faulty}
use Rattle.series.specs.DiagnosticLines.{diagnostic_line}
use Rattle.series.specs.Pieces.{Piece, Text, Faults}
use Rattle.sinks.specs.Texts.{file_name}

-- a source file: the word that names it, and its bytes
pub record SourceFile : Type 0 where
  pub word : List ℕ
  pub bytes : List ℕ

-- the files so far with one more; a faulty one leaves none
abbrev pub and_file : Option (List File) → Result File Diagnostic → Option (List File)
and_file (Some files) (Ok file) = Some (files ++ file ∷ [])
and_file _ _ = None

-- the file of each source in order, if none has a fault
abbrev pub files_of : Profile → List SourceFile → Option (List File)
files_of profile sources = fold (λ files source. and_file files (compiled profile source.bytes)) (Some []) sources

abbrev pub compile_status : Option (List File) → Status
compile_status (Some files) = Done
compile_status None = Faulty

abbrev pub listing_piece : List ℕ → Pools → Program → Piece
listing_piece name names code = record { channel = Text; bytes = listing_of name names code }

abbrev pub diagnostic_piece : List ℕ → Diagnostic → Piece
diagnostic_piece name d = record { channel = Faults; bytes = diagnostic_line name d.line (text_of d.code) }

-- listings are written only if they are asked for
abbrev pub listed : Mode → Piece → List Piece
listed Listing listing = listing ∷ []
listed Matches listing = []

module _ (mode : Mode) (profile : Profile) where
  -- what is written of one file, by its name and what it compiles to
  abbrev pub pieces_of : List ℕ → Result File Diagnostic → List Piece
  pieces_of name (Ok file) = listed mode (listing_piece name (pools_of file) (code_of profile file))
  pieces_of name (Err d) = diagnostic_piece name d ∷ []

  abbrev pub source_pieces : SourceFile → List Piece
  source_pieces source = pieces_of (file_name source.word) (compiled profile source.bytes)

  abbrev pub compiling : List SourceFile → List Piece
  compiling sources = flat_map source_pieces sources
