-- What opening files one after the other gives, and what a failed read shows.
use Rattle.std.proofs.Common.{◌≡◌, ◌<◌, ◌+◌, ℕ, zero, suc, List, [], ◌∷◌, ◌++◌, Option, Some, drop, take, get_or, length, map, ap, refl, subst, arith, Bor}
use Rattle.std.specs.Prelude.{All, slice_get, slice_index_or, slice_set}
use Rattle.std.proofs.lemmas.List.{map_more, map_push}
use Rattle.std.proofs.lemmas.List.Elements.{All-push}
use Rattle.tokens.specs.Feed.{failed_again}
use Rattle.tokens.specs.Device.{FailureCount, Device}
use Rattle.series.specs.Failures.{accounts, no_device}
use Rattle.command.specs.Files.{EachShows, HasFailed, ShowsFailure}

module _ {F : Type 0} (device : F → Device) (fails : List ℕ → Type 0) where
  -- one more file was opened
  pub each_pushed : (words : List (List ℕ)) (files : List F) (word : List ℕ) (file : F) →
      EachShows device fails words files
      → ShowsFailure device file (fails word) → EachShows device fails (words ++ word ∷ []) (files ++ file ∷ [])
  each_pushed [] [] word file each shows = (shows, tt)
  each_pushed [] (other ∷ files) word file each shows = absurd each
  each_pushed (first ∷ words) [] word file each shows = absurd each
  each_pushed (first ∷ words) (other ∷ files) word file each shows =
      (each.0, each_pushed words files word file each.1 shows)

  -- the file at this index has failed once more
  shown_at : (words : List (List ℕ)) (olds news : List F) (word : List ℕ) (index : ℕ) →
      EachShows device fails words olds
      → slice_get words index ≡ Some word → index < length (accounts device olds)
      →
      accounts device news ≡
      slice_set (accounts device olds) index (failed_again (slice_index_or (accounts device olds) index no_device))
      → fails word
  shown_at [] [] news word index each here within is = absurd (omega (arith, within))
  shown_at [] (old ∷ olds) news word index each here within is = absurd each
  shown_at (first ∷ words) [] news word index each here within is = absurd each
  shown_at (first ∷ words) (old ∷ olds) [] word zero each here within is = absurd (cc is)
  shown_at (first ∷ words) (old ∷ olds) [] word (suc index) each here within is = absurd (cc is)
  shown_at (first ∷ words) (old ∷ olds) (new ∷ news) word zero each here within is =
      let same : first ≡ word = cc here in
      subst fails same (each.0 new (ap (λ (l : List FailureCount). slice_index_or l 0 no_device) is))
  shown_at (first ∷ words) (old ∷ olds) (new ∷ news) word (suc index) each here within is =
      shown_at words olds news word index each.1 here (omega (arith, within))
      (ap (λ (l : List FailureCount). drop 1 l) is)

  pub shown : (words : List (List ℕ)) (olds news : List F) (word : List ℕ) → EachShows device fails words olds
      → HasFailed words (accounts device olds) (accounts device news) word → fails word
  shown words olds news word each failed =
      shown_at words olds news word failed.index each failed.here failed.within failed.is

  -- one more word and its file
  pub each_more : (words : List (Bor (List ℕ))) (files : List F) (i : ℕ) (d : Bor (List ℕ)) (file : F) →
      i < length words
      → EachShows device fails (map (λ (w : Bor (List ℕ)). w.now) (take i words)) files
      → ShowsFailure device file (fails (get_or words i d).now)
      → EachShows device fails (map (λ (w : Bor (List ℕ)). w.now) (take (i + 1) words)) (files ++ file ∷ [])
  each_more words files i d file within each shows =
      rw (map_more (λ (w : Bor (List ℕ)). w.now) words i d within)
      (each_pushed (map (λ (w : Bor (List ℕ)). w.now) (take i words)) files (get_or words i d).now file each shows)

  -- and its contents
  pub told_more : (tells : F → Option (List ℕ)) (holds : List ℕ → Option (List ℕ)) (words : List (Bor (List ℕ)))
      (files : List F) (i : ℕ)
      (d : Bor (List ℕ)) (file : F) → i < length words →
      map tells files ≡ map (λ (w : Bor (List ℕ)). holds w.now) (take i words)
      → tells file ≡ holds (get_or words i d).now
      → map tells (files ++ file ∷ []) ≡ map (λ (w : Bor (List ℕ)). holds w.now) (take (i + 1) words)
  told_more tells holds words files i d file within same one =
      rw (map_more (λ (w : Bor (List ℕ)). holds w.now) words i d within, map_push tells files file, same, one) refl

-- and from what is true of the words so far to one more
pub all_more : (P : List ℕ → Type 0) (words : List (Bor (List ℕ))) (i : ℕ) (d : Bor (List ℕ)) → i < length words
    → All P (map (λ (w : Bor (List ℕ)). w.now) (take i words)) → P (get_or words i d).now
    → All P (map (λ (w : Bor (List ℕ)). w.now) (take (i + 1) words))
all_more P words i d within each one =
    rw (map_more (λ (w : Bor (List ℕ)). w.now) words i d within)
    (All-push P (map (λ (w : Bor (List ℕ)). w.now) (take i words)) (get_or words i d).now each one)

-- the word at an index
pub word_at : (words : List (Bor (List ℕ))) (index : ℕ) (d : Bor (List ℕ)) → index < length words
    → slice_get (map (λ (w : Bor (List ℕ)). w.now) words) index ≡ Some (get_or words index d).now
word_at [] index d within = absurd (omega (arith, within))
word_at (word ∷ words) zero d within = refl
word_at (word ∷ words) (suc index) d within = word_at words index d (omega (arith, within))
