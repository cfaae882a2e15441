-- The parts of a robot, as their lists grow.
use Rattle.std.specs.Prelude.{ℕ, ◌+◌, ◌≡◌, ◌<◌, ◌≤◌, List, [], ◌∷◌, ◌++◌, Ok, Some, length, map, set, slice_index_or, take}
use Rattle.std.proofs.Common.{ap, refl, sym, ◌∙◌}
use Rattle.std.proofs.lemmas.List.{get_or-map, map-append, map-set, set-get_or, take_all, take_more}
use Rattle.cycles.specs.declared.counted.Counted.TheVariants.{Questions}
use Rattle.cycles.specs.declared.sources.SourceSpans.{SourceSpans}
use Rattle.cycles.specs.Files.{AreSpansOf}
use Rattle.grammar.specs.Building.{Representation}
use Rattle.grammar.specs.Compiled.{compiled}
use Rattle.grammar.specs.Pools.{Pools, pools_of}
use Rattle.grammar.specs.Profile.{Profile}
use Rattle.grammar.specs.Tree.{File}
use Rattle.parser.specs.ParsedFiles.{ParsesToFile}
use Rattle.facts.specs.declared.facts.Part.{Part}
use Rattle.facts.specs.Facts.{AreNamesOf, Cycles, HasParts, cycles_of_run, cycles_of_turn, cycles_told}

module _ {X : Type 0} (of : X → Cycles) where
  -- one more
  pub listed_more : (parts more : List Part) (told : List X) (i : ℕ) (x : X) (part : Part) → more ≡ parts ++ part ∷ [] →
      i < length told → x ≡ slice_index_or told i x → cycles_told part ≡ of x →
      map cycles_told parts ≡ map of (take i told) → map cycles_told more ≡ map of (take (i + 1) told)
  listed_more parts more told i x part added less is same before =
      ap (map cycles_told) added ∙ map-append cycles_told parts (part ∷ [])
      ∙ ap (λ (cs : List Cycles). cs ++ cycles_told part ∷ []) before
      ∙ ap (λ (c : Cycles). map of (take i told) ++ c ∷ []) (same ∙ ap of is)
      ∙ sym (map-append of (take i told) (slice_index_or told i x ∷ []))
      ∙ ap (map of) (sym (take_more told i x less))

  -- all
  pub listed_all : (parts : List Part) (told : List X) (i : ℕ) → length told ≤ i →
      map cycles_told parts ≡ map of (take i told) → map cycles_told parts ≡ map of told
  listed_all parts told i past before = before ∙ ap (map of) (take_all i told past)

-- another part of the same cycles in the same place
pub same_cycles : (parts old : List Part) (i : ℕ) (part other : Part) → i < length parts →
    part ≡ slice_index_or parts i part → cycles_told other ≡ cycles_told part →
    map cycles_told parts ≡ map cycles_told old → map cycles_told (set parts i other) ≡ map cycles_told old
same_cycles parts old i part other less is same before =
    map-set cycles_told parts i other
    ∙ ap (set (map cycles_told parts) i)
    (same ∙ ap cycles_told is ∙ sym (get_or-map cycles_told parts i part (cycles_told part) less))
    ∙ set-get_or (map cycles_told parts) i (cycles_told part) ∙ before

-- a file's bytes are of no other file
same_file : (p : Profile) (bytes : List ℕ) (one other : File) → compiled p bytes ≡ Ok one → compiled p bytes ≡ Ok other
    → one ≡ other
same_file p bytes one other is same = cc (is, same)

-- the parts of a file, by what is told of it
pub has_parts : (p : Profile) (bytes : List ℕ) (names : Pools) (spans : SourceSpans) (functions loops : List Part) →
    AreNamesOf p bytes names → AreSpansOf Questions p (Some bytes) spans →
    map cycles_told functions ≡ map (cycles_of_run names) spans.runs.items →
    map cycles_told loops ≡ map (cycles_of_turn names) spans.turns.items → HasParts p bytes functions loops
has_parts p bytes names spans functions loops called are runs turns =
    let file = same_file p bytes called.file are.file called.is (are.is bytes refl) in
    let named : names ≡ pools_of are.file = called.named ∙ ap pools_of file in
    record {
      file = are.file;
      is = are.is bytes refl;
      runs = rw named at (runs ∙ ap (map (cycles_of_run names)) are.rows.runs);
      turns = rw named at (turns ∙ ap (map (cycles_of_turn names)) are.rows.turns);
    }

-- the names that a parse of them finds
pub are_names : (p : Profile) (bytes : List ℕ) (names : Pools) (before after : Representation) → before p [] →
    ParsesToFile before after (Some bytes) names → AreNamesOf p bytes names
are_names p bytes names before after begun parsed = record {
  file = parsed.file;
  is = parsed.is bytes refl p begun;
  named = parsed.named;
}
