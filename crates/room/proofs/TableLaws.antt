-- What the tables of needs say of a file's functions.
use Rattle.std.specs.Prelude.{ℕ, zero, suc, ◌+◌, ◌≡◌, ◌<◌, ◌≤◌, ◌⊎◌, Bool, List, [], ◌∷◌, ◌++◌, length, map, Option, None}
use Rattle.std.specs.Prelude.{drop, set, slice_index_or}
use Rattle.std.proofs.Common.{refl, ap, sym, ◌∙◌, subst, arith, inl, inr}
use Rattle.std.proofs.lemmas.List.{drop_all, drop_more, get_or-set_same, get_or-set_other, get_or-replicate, length-map, length-set, length-replicate}
use Rattle.std.proofs.lemmas.Option.{slice_get-get_or}
use Rattle.std.proofs.lemmas.Bool.{cases_eq}
use Rattle.grammar.specs.Profile.{Profile}
use Rattle.grammar.specs.Resolved.{InBody, IsAmong, IsResolved, FitsFile}
use Rattle.grammar.specs.Tree.{File}
use Rattle.grammar.specs.Tree as tree
use Rattle.code.specs.Functions.{function_at, no_function}
use Rattle.trees.specs.Laws.{UnnamedFunction, without_names, told_numbered, told_functions, told_trees}
use Rattle.trees.specs.Trees.{function_tree}
use Rattle.trees.specs.declared.tree.Function.{Function}
use Rattle.room.specs.declared.room.Room.{Room}
use Rattle.room.specs.Chains.{CallNoOthers, numbers}
use Rattle.room.specs.Constructs.{body_need}
use Rattle.room.specs.Counting.{counted, CountsAs}
use Rattle.room.specs.Functions.{function_need, need_of}
use Rattle.room.specs.Tables.{needs_in, told_need, entered, blank, table_within}
use Rattle.room.proofs.Counting.{counted_twice, counts_body, counts_function}

-- what is told of functions that there are
abbrev pub told_at : File → ℕ → UnnamedFunction
told_at file k = without_names k (function_at file k)

told_there : (file : File) (ks : List ℕ) → ((k : ℕ) → IsAmong k ks → k < length file.functions) →
    told_functions file.functions ks ≡ map (told_at file) ks
told_there file [] there = refl
told_there file (k ∷ ks) there =
    ap (λ (f : Option tree.Function). told_numbered k f ++ told_functions file.functions ks)
    (slice_get-get_or file.functions k no_function (there k (inl refl)))
    ∙ ap (λ later. told_at file k ∷ later) (told_there file ks (λ j among. there j (inr among)))

pub length-blank : length blank ≡ 256
unfolding blank
length-blank = length-replicate {A = Option Room} 256 None

none_in_blank : (k : ℕ) → k < 256 → needs_in blank k ≡ None
unfolding blank
none_in_blank k few = get_or-replicate {A = Option Room} 256 k None None few

module _ (s : Bool) (file : File) (calls : ℕ → Option Room) where
  abbrev here : ℕ → Option Room
  here k = told_need s calls (told_at file k)

  in_table : (ks : List ℕ) (table : List (Option Room)) (k : ℕ) → k < length table →
      IsAmong k ks ⊎ (needs_in table k ≡ here k) →
      needs_in (entered s calls (map (told_at file) ks) table) k ≡ here k
  in_table [] table k few (inl among) = absurd among
  in_table [] table k few (inr is) = is
  in_table (j ∷ ks) table k few there =
      let longer : k < length (set table j (here j)) = omega (arith, few, length-set table j (here j)) in
      in_table ks (set table j (here j)) k longer
      (elim (cases_eq k j) [ inl same ↦ inr (now same) | inr other ↦ later other there ])
    where
      now : k ≡ j → needs_in (set table j (here j)) k ≡ here k
      now same =
          subst (λ (i : ℕ). needs_in (set table i (here i)) k ≡ here k) same
          (get_or-set_same table k (here k) None few)

      later : (k ≡ j → ⊥) → IsAmong k (j ∷ ks) ⊎ (needs_in table k ≡ here k) →
          IsAmong k ks ⊎ (needs_in (set table j (here j)) k ≡ here k)
      later other (inl (inl same)) = absurd (other same)
      later other (inl (inr among)) = inl among
      later other (inr is) = inr (get_or-set_other table j k (here j) None other ∙ is)

module _ (s : Bool) (file : File) (resolved : IsResolved file) where
  abbrev all_told : List UnnamedFunction
  all_told = map (told_at file) file.order

  within_is : (n k : ℕ) → k < length file.functions →
      needs_in (table_within s all_told n) k ≡ counted (function_need s file n k)
  within_is zero k there = none_in_blank k (omega (arith, there, resolved.functions))
  within_is (suc n) k there =
      let table = table_within s all_told n in
      let few : k < length blank = omega (arith, there, resolved.functions, length-blank) in
      let f = function_at file k in
      let inside : FitsFile (length file.externals) (length file.functions) f =
      resolved.each k f (slice_get-get_or file.functions k no_function there) in
      let same : (j : ℕ) → j < length file.functions → CountsAs (needs_in table j) (function_need s file n j) =
      λ j there. ap counted (within_is n j there) ∙ counted_twice (function_need s file n j) in
      in_table s file (needs_in table) file.order blank k few (inl (resolved.defined k there))
      ∙
      counts_function (length f.variables) (body_need s (needs_in table) f.body)
      (body_need s (function_need s file n) f.body)
      (counts_body s (length file.externals) (length f.variables) (length file.functions) (needs_in table)
      (function_need s file n) same f.body inside.body)

-- What a file's functions call is among them.

numbers_told : (file : File) (ks : List ℕ) (k : ℕ) → IsAmong k ks → IsAmong k (numbers (map (told_at file) ks))
numbers_told file [] k among = absurd among
numbers_told file (j ∷ ks) k (inl is) = inl is
numbers_told file (j ∷ ks) k (inr among) = inr (numbers_told file ks k among)

pub is_numbered : (file : File) → IsResolved file → (k : ℕ) → k < length file.functions →
    IsAmong k (numbers (told_functions file.functions file.order))
is_numbered file resolved k there =
    subst (λ (ts : List UnnamedFunction). IsAmong k (numbers ts)) (sym (told_there file file.order resolved.only))
    (numbers_told file file.order k (resolved.defined k there))

abbrev InFile : File → UnnamedFunction → Type 0
InFile file f = InBody (length file.externals) f.variables (length file.functions) f.body

body_within : (file : File) → IsResolved file → (ks : List ℕ) → ((k : ℕ) → IsAmong k ks → k < length file.functions) →
    (f : UnnamedFunction) → IsAmong f (map (told_at file) ks) → InFile file f
body_within file resolved [] there f among = absurd among
body_within file resolved (k ∷ ks) there f (inl is) =
    let inside : FitsFile (length file.externals) (length file.functions) (function_at file k) =
    resolved.each k (function_at file k) (slice_get-get_or file.functions k no_function (there k (inl refl))) in
    subst (λ (g : UnnamedFunction). InFile file g) (sym is) inside.body
body_within file resolved (k ∷ ks) there f (inr among) =
    body_within file resolved ks (λ j is. there j (inr is)) f among

pub calls_no_others : (file : File) → IsResolved file → CallNoOthers (told_functions file.functions file.order)
calls_no_others file resolved = record {
  externals = length file.externals;
  count = length file.functions;
  few = omega (arith, resolved.functions);
  there = is_numbered file resolved;
  within = λ f among.
      body_within file resolved file.order resolved.only f
      (subst (λ (ts : List UnnamedFunction). IsAmong f ts) (told_there file file.order resolved.only) among);
}

-- what was made is what is told of the file's functions, and as many
module _ (file : File) (resolved : IsResolved file) (made : List Function)
    (same : told_functions file.functions file.order ≡ told_trees made) where
  pub told_are : told_trees made ≡ map (told_at file) file.order
  told_are = sym same ∙ told_there file file.order resolved.only

  pub as_many : length made ≡ length file.order
  as_many =
      let one = length-map made (λ (f : Function). without_names f.number (function_tree f)) in
      let other = length-map file.order (told_at file) in
      sym one ∙ ap (λ (ts : List UnnamedFunction). length ts) told_are ∙ other

-- the last table says what main needs
pub need_is : (p : Profile) (file : File) (made : List Function) → IsResolved file →
    told_functions file.functions file.order ≡ told_trees made →
    needs_in (table_within p.short_circuit (told_trees made) (length made)) file.main ≡ counted (need_of p file)
need_is p file made resolved same =
    ap (λ (ts : List UnnamedFunction). needs_in (table_within p.short_circuit ts (length made)) file.main)
    (told_are file resolved made same)
    ∙
    ap (λ (n : ℕ). needs_in (table_within p.short_circuit (map (told_at file) file.order) n) file.main)
    (as_many file resolved made same)
    ∙ within_is p.short_circuit file resolved (length file.order) file.main resolved.main

-- one function more is entered
pub entered_more : (s : Bool) (calls : ℕ → Option Room) (fs : List Function) (i : ℕ) (f : Function)
    (table target : List (Option Room)) (need : Option Room) → i < length fs → f ≡ slice_index_or fs i f →
    need ≡ told_need s calls (without_names f.number (function_tree f)) →
    entered s calls (told_trees (drop i fs)) table ≡ target →
    entered s calls (told_trees (drop (i + 1) fs)) (set table f.number need) ≡ target
entered_more s calls fs i f table target need less is needs before =
    let at : drop i fs ≡ f ∷ drop (i + 1) fs = drop_more fs i f less ∙ ap (λ y. y ∷ drop (i + 1) fs) (sym is) in
    ap (λ (x : Option Room). entered s calls (told_trees (drop (i + 1) fs)) (set table f.number x)) needs
    ∙ sym (ap (λ (fs : List Function). entered s calls (told_trees fs) table) at) ∙ before

-- all are
pub entered_all : (s : Bool) (calls : ℕ → Option Room) (fs : List Function) (i : ℕ)
    (table target : List (Option Room)) → length fs ≤ i →
    entered s calls (told_trees (drop i fs)) table ≡ target → table ≡ target
entered_all s calls fs i table target past before =
    sym (ap (λ (fs : List Function). entered s calls (told_trees fs) table) (drop_all i fs past)) ∙ before
