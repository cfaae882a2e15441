-- How programs are kept, and looked up.
use Rattle.std.proofs.Common.{◌≡◌, ℕ, ◌<◌, ◌+◌, zero, suc, List, [], ◌∷◌, ◌++◌, length, map, take, Option, Some, None, get_or, arith, refl, sym, ap, subst, ◌∙◌}
use Rattle.std.proofs.lemmas.List.{length-map, map-append, take_more}
use Rattle.std.proofs.lemmas.Grind.{flat_map-append}
use Rattle.std.proofs.lemmas.Option.{get_or_from_slice_get, slice_get_within}
use Rattle.std.specs.Prelude.{slice_get, flat_map}
use Rattle.std.specs.Option.{option_to_list}
use Rattle.code.specs.Generation.{Program}
use Rattle.operations.specs.declared.labels.Operations.{Operations}
use Rattle.operations.specs.Filling.{translated}
use Rattle.engine.specs.Executables.{Executable, IsTranslated, executable_of}
use Rattle.battles.specs.Programs.{AllSome}
use Rattle.battles.specs.Translated.{AreTranslated}

-- what is kept at an index is the program of that index
pub kept_here : {A : Type 0} (items : List A) (index : ℕ) (d : Option A) → index < length items
    → get_or (map (λ (x : A). Some x) items) index d ≡ slice_get items index
kept_here [] index d within = absurd (omega arith)
kept_here (x ∷ items) zero d within = refl
kept_here (x ∷ items) (suc index) d within = kept_here items index d (omega arith)

-- so something is
pub kept_some : {A : Type 0} (items : List A) (index : ℕ) → index < length items → slice_get items index ≡ None → ⊥
kept_some [] index within none = absurd (omega arith)
kept_some (x ∷ items) zero within none = cc
kept_some (x ∷ items) (suc index) within none = kept_some items index (omega arith) none

-- what is found at an index is the program of that index
pub kept_at : {A : Type 0} (kept shelf : List (Option A)) (items : List A) (index : ℕ) (found : Option A)
    → AllSome kept → flat_map option_to_list kept ≡ items → shelf ≡ kept → index < length items →
    found ≡ get_or shelf index found
    → slice_get items index ≡ found
kept_at {A} kept shelf items index found all are same within here =
    let each : shelf ≡ map (λ (x : A). Some x) items = same ∙ all ∙ ap (λ l. map (λ (x : A). Some x) l) are in
    sym (kept_here items index found within) ∙ ap (λ l. get_or l index found) (sym each) ∙ sym here

-- one more is kept
pub list_more : {A : Type 0} (kept : List (Option A)) (x : A) →
    flat_map option_to_list (kept ++ Some x ∷ []) ≡ flat_map option_to_list kept ++ x ∷ []
list_more kept x = flat_map-append option_to_list kept (Some x ∷ [])

pub kept_more : {A : Type 0} (kept : List (Option A)) (x : A) → AllSome kept → AllSome (kept ++ Some x ∷ [])
kept_more {A} kept x all =
    ap (λ l. l ++ Some x ∷ []) all
    ∙ sym (map-append (λ (x : A). Some x) (flat_map option_to_list kept) (x ∷ []))
    ∙ ap (λ l. map (λ (x : A). Some x) l) (sym (list_more kept x))

-- as many are kept as there are
pub kept_length : {A : Type 0} (kept : List (Option A)) (items : List A) → AllSome kept →
    flat_map option_to_list kept ≡ items → length kept ≡ length items
kept_length {A} kept items all are =
    ap (λ l. length l) all ∙ length-map (flat_map option_to_list kept) (λ (x : A). Some x) ∙ ap (λ l. length l) are

-- one more program, with its operations
pub translated_more : (codes : List Program) (kept : List Operations) (program : Program) (o : Operations) →
    AreTranslated codes kept → IsTranslated (executable_of program (translated o)) →
    AreTranslated (codes ++ program ∷ []) (kept ++ o ∷ [])
translated_more [] [] program o are one = (one, tt)
translated_more [] (p ∷ others) program o are one = absurd are
translated_more (c ∷ codes) [] program o are one = absurd are
translated_more (c ∷ codes) (p ∷ others) program o are one = (are.0, translated_more codes others program o are.1 one)

pub translated_length : (codes : List Program) (kept : List Operations) → AreTranslated codes kept →
    length kept ≡ length codes
translated_length [] [] are = refl
translated_length [] (p ∷ others) are = absurd are
translated_length (c ∷ codes) [] are = absurd are
translated_length (c ∷ codes) (p ∷ others) are = ap suc (translated_length codes others are.1)

-- those of one program are its translation
pub translated_at : (codes : List Program) (kept : List Operations) (index : ℕ) (program : Program) (o : Operations) →
    AreTranslated codes kept → slice_get codes index ≡ Some program → o ≡ get_or kept index o →
    IsTranslated (executable_of program (translated o))
translated_at [] kept index program o are here there = absurd (cc)
translated_at (c ∷ codes) [] index program o are here there = absurd are
translated_at (c ∷ codes) (p ∷ others) zero program o are here there =
    let same : c ≡ program = cc in
    subst (λ (o : Operations). IsTranslated (executable_of program (translated o))) (sym there)
    (subst (λ (c : Program). IsTranslated (executable_of c (translated p))) same are.0)
translated_at (c ∷ codes) (p ∷ others) (suc index) program o are here there =
    translated_at codes others index program o are.1 here there

-- one more is looked up
pub looked_up : (exes : List Executable) (codes : List Program) (n : ℕ) (exe : Executable)
    → map (λ (e : Executable). e.program) exes ≡ take n codes → slice_get codes n ≡ Some exe.program
    → map (λ (e : Executable). e.program) (exes ++ exe ∷ []) ≡ take (n + 1) codes
looked_up exes codes n exe same here =
    map-append (λ (e : Executable). e.program) exes (exe ∷ [])
    ∙ ap (λ front. front ++ exe.program ∷ []) same
    ∙ sym (
    take_more codes n exe.program (slice_get_within codes n exe.program here)
    ∙ ap (λ y. take n codes ++ y ∷ [])
    (get_or_from_slice_get codes n exe.program exe.program here))
