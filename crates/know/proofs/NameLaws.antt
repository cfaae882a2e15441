-- The names of lists of tokens, as the lists grow.
use Rattle.std.specs.Prelude.{ℕ, ◌+◌, ◌≡◌, ◌<◌, List, [], ◌∷◌, ◌++◌, None, Option, length, slice_index_or, take}
use Rattle.std.specs.List.{cons_option}
use Rattle.std.proofs.Common.{ap, sym, ◌∙◌}
use Rattle.std.proofs.lemmas.List.{append-nil, take_more}
use Rattle.std.proofs.lemmas.List.Elements.{filter_map-append}
use Rattle.derivations.specs.declared.locations.Located.{Located}
use Rattle.know.specs.Names.{name_of, names_of}

-- one more token
pub names_joined : (list : List Located) (located : Located) →
    names_of (list ++ located ∷ []) ≡ names_of list ++ names_of (located ∷ [])
names_joined list located = filter_map-append (λ (it : Located). name_of it.token) list (located ∷ [])

-- one more of some tokens
pub names_more : (tokens : List Located) (i : ℕ) (located : Located) → i < length tokens →
    located ≡ slice_index_or tokens i located →
    names_of (take (i + 1) tokens) ≡ names_of (take i tokens) ++ names_of (located ∷ [])
names_more tokens i located less is =
    ap names_of (take_more tokens i located less)
    ∙ names_joined (take i tokens) (slice_index_or tokens i located)
    ∙ ap (λ (it : Located). names_of (take i tokens) ++ names_of (it ∷ [])) (sym is)

-- a token that is no name adds none
pub names_kept : (list : List Located) (located : Located) → name_of located.token ≡ None →
    names_of (list ++ located ∷ []) ≡ names_of list
names_kept list located none =
    names_joined list located
    ∙ ap (λ (o : Option (List ℕ)). names_of list ++ cons_option o []) none
    ∙ append-nil (names_of list)

-- the names of a list that grows with some tokens
pub names_grown : (tokens old new : List Located) (i : ℕ) (located : Located) → i < length tokens →
    located ≡ slice_index_or tokens i located → names_of old ≡ names_of (take i tokens) →
    names_of new ≡ names_of old ++ names_of (located ∷ []) → names_of new ≡ names_of (take (i + 1) tokens)
names_grown tokens old new i located less is before grown =
    grown ∙ ap (λ (ns : List (List ℕ)). ns ++ names_of (located ∷ [])) before
    ∙ sym (names_more tokens i located less is)
