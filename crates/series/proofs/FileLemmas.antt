-- What compiling one file writes.
use Rattle.std.specs.Prelude.{IfSome}
use Rattle.std.proofs.Common.{◌≡◌, ℕ, List, [], ◌∷◌, Option, Some, None, Ok, refl, length-append}
use Rattle.std.proofs.lemmas.List.Elements.{All-push}
use Rattle.battles.specs.Programs.{AreOfProfile}
use Rattle.grammar.specs.Profile.{Profile}
use Rattle.grammar.specs.Compiled.{compiled}
use Rattle.grammar.specs.Pools.{Pools, pools_of}
use Rattle.grammar.specs.Tree.{File}
use Rattle.code.specs.Finishing.{MakerRepresentsFile}
use Rattle.code.specs.Generation.{Program, code_of}
use Rattle.code.specs.Making.{Maker}
use Rattle.code.specs.Reported.{MakerRepresents}
use Rattle.parser.specs.ParsedFiles.{ParsesToFile}
use Rattle.settings.specs.declared.settings.Mode.{Mode}
use Rattle.series.specs.Compiling.{listed, listing_piece, pieces_of}
use Rattle.series.specs.ProgramKeeping.{and_program, KeepsMore}
use Rattle.series.specs.declared.run_results.Status.TheVariants.{Done}

-- a parsed file, whose bytes may be known: it was reported to the maker, and these are its names
pub record IsGood (maker : Maker) (profile : Profile) (bytes_told : Option (List ℕ)) (names : Pools) : Type 0 where
  pub file : File
  pub reported : MakerRepresentsFile maker profile names file
  pub is : (bytes : List ℕ) → bytes_told ≡ Some bytes → compiled profile bytes ≡ Ok file

-- what was reported of a file to a new maker
pub good_file : (before after : Maker) (profile : Profile) (bytes_told : Option (List ℕ)) (names : Pools) →
    MakerRepresents before profile [] →
    ParsesToFile (λ p acts. MakerRepresents before p acts) (λ p acts. MakerRepresents after p acts) bytes_told names →
    IsGood after profile bytes_told names
good_file before after profile bytes_told names new f = record {
  file = f.file;
  reported = record { resolved = f.resolved; stands = f.built profile new; named = f.named; main = f.main };
  is = λ bytes are. f.is bytes are profile new;
}

-- the pieces of a good file
pub good_pieces : (mode : Mode) (profile : Profile) (name bytes : List ℕ) (file : File) (names : Pools)
    → compiled profile bytes ≡ Ok file → names ≡ pools_of file
    → listed mode (listing_piece name names (code_of profile file))
    ≡ pieces_of mode profile name (compiled profile bytes)
good_pieces mode profile name bytes file names is named = rw (is, named) refl

-- one program more
pub good_more : (program : Program) (kept after : Option (List Program)) → after ≡ and_program kept program →
    KeepsMore Done kept after
good_more program None after adds = rw adds refl
good_more program (Some kept) after adds = rw (adds, length-append kept (program ∷ [])) refl

-- with a good file's program those that are kept are of its profile
pub alike_more : (profile : Profile) (file : File) (kept after : Option (List Program))
    → IfSome kept (λ k. AreOfProfile profile k) → after ≡ and_program kept (code_of profile file) →
    IfSome after (λ k. AreOfProfile profile k)
alike_more profile file None after each adds = rw adds tt
alike_more profile file (Some kept) after each adds =
    rw adds (All-push (λ (c : Program). c.profile ≡ profile) kept (code_of profile file) each refl)
