-- A run's feeds and sources, file by file.
use Rattle.std.proofs.Common.{◌≡◌, ◌⊎◌, ℕ, ◌+◌, ◌<◌, List, [], ◌∷◌, length, drop, get_or, map, Option, Some, refl, sym, ap, ◌∙◌, subst, inl, inr, add-zero, add-one, set, zero, suc, arith}
use Rattle.std.specs.Prelude.{All}
use Rattle.std.proofs.lemmas.List.Elements.{All-push}
use Rattle.std.proofs.lemmas.List.{get_or-map, get_or-drop, drop-set-lt, length-map, map-set}
use Rattle.std.proofs.Math.Seq.{map-set_same}
use Rattle.series.specs.Compiling.{SourceFile}
use Rattle.tokens.specs.Feed.{failed_again}
use Rattle.tokens.specs.Device.{FailureCount}
use Rattle.series.specs.Failures.{Failures, failing, feed_failed, no_device, SinkFailed}
use Rattle.series.specs.SourceContents.{AreSources}
use Rattle.sinks.specs.Texts.{file_name}

-- no source at all
abbrev pub no_source : SourceFile
no_source = record { word = []; bytes = [] }

-- each word has its source
pub length_sources : (sources : List SourceFile) (words : List (List ℕ)) (contents : List (Option (List ℕ))) →
    AreSources sources words contents
    → length sources ≡ length words
length_sources sources words contents are = sym (length-map sources (λ (s : SourceFile). s.word)) ∙ ap length are.named

-- what is told of a file's contents is the bytes of its source, and this is its name
pub record IsHere (sources : List SourceFile) (file : ℕ) (told : Option (List ℕ)) (name : List ℕ) : Type 0 where
  pub within : file < length sources
  pub bytes : told ≡ Some (get_or sources file no_source).bytes
  pub named : name ≡ file_name (get_or sources file no_source).word

module _ {X : Type 0} where
  -- what is true of one is true of all
  pub all_of_one : (P : X → Type 0) (x : X) → P x → All P (x ∷ [])
  all_of_one P x one = All-push P [] x (λ k d below. absurd (omega (arith, below))) one

  -- a feed that is not yet read
  pub feed_here : (start feeds : List X) (file : ℕ) (x : X) → drop file feeds ≡ drop file start →
      get_or feeds file x ≡ get_or start file x
  feed_here start feeds file x same =
      let first : (l : List X) → get_or (drop file l) 0 x ≡ get_or l file x =
      λ l. get_or-drop file l 0 x ∙ ap (λ n. get_or l n x) (add-zero file) in
      sym (first feeds) ∙ ap (λ l. get_or l 0 x) same ∙ first start

  -- so the source of the next file is known
  pub source_here : {Y : Type 0} (tells : X → Option (List ℕ)) (start feeds : List X) (file : ℕ) (x : X)
      (sources : List SourceFile) (bytes : Y → List ℕ) (given : List Y) (y : Y) (words : List (List ℕ)) (word : List ℕ)
      → AreSources sources words (map tells start) → length start ≡ length words → file < length start
      → drop file feeds ≡ drop file start → map bytes given ≡ words → word ≡ bytes (get_or given file y)
      → IsHere sources file (tells (get_or feeds file x)) (file_name word)
  source_here tells start feeds file x sources bytes given y words word are same within rest is_given is =
      let in_sources : file < length sources =
      omega (arith, length_sources sources words (map tells start) are, same, within) in
      let in_given : file < length given = omega (arith, length-map given bytes, ap length is_given, same, within) in
      record {
        within = in_sources;
        bytes = ap tells (feed_here start feeds file x rest)
            ∙ sym (get_or-map tells start file x (tells x) within)
            ∙ ap (λ l. get_or l file (tells x)) (sym are.bytes)
            ∙ get_or-map (λ (s : SourceFile). Some s.bytes) sources file no_source (tells x) in_sources;
        named = ap file_name (is ∙ sym (get_or-map bytes given file y [] in_given)
            ∙ ap (λ l. get_or l file []) (is_given ∙ sym are.named)
            ∙ get_or-map (λ (s : SourceFile). s.word) sources file no_source [] in_sources);
      }

  -- a feed that was read without a failure
  pub none_failed : (fails : X → FailureCount) (feeds : List X) (file : ℕ) (x y : X) →
      fails y ≡ fails (get_or feeds file x)
      → map fails (set feeds file y) ≡ map fails feeds
  none_failed fails feeds file x y same = map-set_same fails feeds file y x same

  -- a feed failed
  pub read_failed : (fails : X → FailureCount) (start feeds : List X) (file text faults first_text first_faults : ℕ)
      (x y : X)
      → failing (map fails feeds) text faults ≡ failing (map fails start) first_text first_faults
      → file < length feeds → fails y ≡ failed_again (fails (get_or feeds file x))
      →
      failing (map fails (set feeds file y)) text faults ≡
      feed_failed (failing (map fails start) first_text first_faults) file
  read_failed fails start feeds file text faults first_text first_faults x y before within more =
      let here : get_or (map fails feeds) file no_device ≡ fails (get_or feeds file x) =
      get_or-map fails feeds file x no_device within in
      let later : fails y ≡ failed_again (get_or (map fails feeds) file no_device) =
      more ∙ ap failed_again (sym here) in
      let P : Failures → Type 0 = λ f. failing (map fails (set feeds file y)) text faults ≡ feed_failed f file in
      subst P before
      (ap (λ l. failing l text faults) (map-set fails feeds file y ∙ ap (λ a. set (map fails feeds) file a) later))

  -- a sink failed
  pub write_failed : (fails : X → FailureCount) (start feeds : List X)
      (file text faults first_text first_faults later_text later_faults : ℕ) (x y : X)
      → failing (map fails feeds) text faults ≡ failing (map fails start) first_text first_faults
      → fails y ≡ fails (get_or feeds file x)
      → ((later_text ≡ text + 1) × (later_faults ≡ faults)) ⊎ ((later_text ≡ text) × (later_faults ≡ faults + 1))
      →
      SinkFailed (failing (map fails start) first_text first_faults)
      (failing (map fails (set feeds file y)) later_text later_faults)
  write_failed fails start feeds file text faults first_text first_faults later_text later_faults x y before same one =
      let P : Failures → Type 0 = λ f. SinkFailed f (failing (map fails (set feeds file y)) later_text later_faults) in
      subst P before (rw (none_failed fails feeds file x y same) (which one))
    where
      which : ((later_text ≡ text + 1) × (later_faults ≡ faults)) ⊎ ((later_text ≡ text) × (later_faults ≡ faults + 1))
          → SinkFailed (failing (map fails feeds) text faults) (failing (map fails feeds) later_text later_faults)
      which (inl (more, as_before)) = inl (rw (more, as_before))
      which (inr (as_before, more)) = inr (rw (more, as_before))

  drop_once : (l : List X) (n : ℕ) → drop (suc n) l ≡ drop 1 (drop n l)
  drop_once l zero = refl
  drop_once [] (suc n) = refl
  drop_once (x ∷ l) (suc n) = drop_once l n

  -- the feeds after one that was read
  pub rest_more : (start feeds : List X) (file : ℕ) (y : X) → drop file feeds ≡ drop file start
      → drop (file + 1) (set feeds file y) ≡ drop (file + 1) start
  rest_more start feeds file y same =
      let behind : (l : List X) → drop (file + 1) l ≡ drop 1 (drop file l) = λ l. rw add-one (drop_once l file) in
      drop-set-lt (file + 1) feeds file y (omega arith) ∙ behind feeds ∙ ap (λ l. drop 1 l) same ∙ sym (behind start)
