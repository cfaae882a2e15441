-- Names that are there once, and their indices.
use Rattle.std.proofs.Common.{◌≡◌, ℕ, zero, suc, ◌+◌, ◌<◌, ◌⊎◌, List, [], ◌∷◌, ◌++◌, refl, sym, ap, ◌∙◌, subst, inl, inr, Bool, true, false, arith, length, cond, lt-ltb}
use Rattle.std.proofs.lemmas.Bool.{false≢true}
use Rattle.std.proofs.lemmas.Bool.Decides.{nat_tests}
use Rattle.std.proofs.lemmas.List.{map-append}
use Rattle.std.specs.Cmp.Lexicographic.{bytes_decides}
use Rattle.std.specs.Prelude.{Option, Some, None, if◌then◌else◌, map, nat_lt, is_none, slice_get, set, ◌==◌}
use Rattle.std.specs.List.{position_or_len}
use Rattle.std.specs.Option.{option_map, option_or}
use Rattle.std.specs.Str.{bytes_eq}
use Rattle.grammar.specs.declared.resolved_names.Var.TheVariants as var
use Rattle.grammar.specs.Compiled.{defined_as}
use Rattle.grammar.specs.Derivation.{Definition}
use Rattle.grammar.specs.Tree.{Function}
use Rattle.grammar.specs.Intrinsics.{is_intrinsic}
use Rattle.grammar.specs.Pools.{FunctionNames}
use Rattle.grammar.specs.Resolved.{IsAmong, AreDistinct}
use Rattle.grammar.specs.Scope.{Scope, number_of_name, function_number, is_variable_new, is_local_new, is_external_new, is_function_new, only_named}
use Rattle.grammar.proofs.Indices.{get_append, some_same}

-- What is there once.

pub among_append : {A : Type 0} (k n : A) (ns : List A) → IsAmong k (ns ++ n ∷ []) → IsAmong k ns ⊎ (k ≡ n)
among_append k n [] (inl e) = inr e
among_append k n [] (inr h) = absurd h
among_append k n (x ∷ ns) (inl e) = inl (inl e)
among_append k n (x ∷ ns) (inr h) = further (among_append k n ns h)
  where
    further : IsAmong k ns ⊎ (k ≡ n) → IsAmong k (x ∷ ns) ⊎ (k ≡ n)
    further (inl i) = inl (inr i)
    further (inr e) = inr e

pub distinct_append : {A : Type 0} (ns : List A) (n : A) → AreDistinct ns → (IsAmong n ns → ⊥) →
    AreDistinct (ns ++ n ∷ [])
distinct_append [] n h new = (λ no. no, tt)
distinct_append (x ∷ ns) n h new = (λ i. apart (among_append x n ns i), distinct_append ns n h.1 (λ i. new (inr i)))
  where
    apart : IsAmong x ns ⊎ (x ≡ n) → ⊥
    apart (inl i) = h.0 i
    apart (inr e) = new (inl (sym e))

pub distinct_front : (ns : List ℕ) (n : ℕ) → AreDistinct (ns ++ n ∷ []) → AreDistinct ns
distinct_front [] n h = tt
distinct_front (x ∷ ns) n h = (λ i. h.0 (among_front x n ns i), distinct_front ns n h.1)
  where
    among_front : (k m : ℕ) (xs : List ℕ) → IsAmong k xs → IsAmong k (xs ++ m ∷ [])
    among_front k m [] i = absurd i
    among_front k m (y ∷ xs) (inl e) = inl e
    among_front k m (y ∷ xs) (inr i) = inr (among_front k m xs i)

-- Indices of names.

pub less_of : (n m : ℕ) → nat_lt n m ≡ true → n < m
less_of n m h = grind (arith, nat_tests)

-- the function's name, among those of all functions
abbrev pub names : List FunctionNames → List (List ℕ)
names functions = map (λ (f : FunctionNames). f.name) functions

-- what is there has an index
has_index : (name : List ℕ) (all : List (List ℕ)) → IsAmong name all → position_or_len (bytes_eq name) all < length all
has_index name [] i = absurd i
has_index name (x ∷ all) i = at (λ among. has_index name all among) (bytes_eq name x) refl i
  where
    at : (IsAmong name all → position_or_len (bytes_eq name) all < length all) → (b : Bool) → bytes_eq name x ≡ b →
        IsAmong name (x ∷ all)
        → position_or_len (bytes_eq name) (x ∷ all) < length (x ∷ all)
    at later true is i = rw is (omega arith)
    at later false is (inl same) = absurd (false≢true (sym is ∙ (bytes_decides name x).1 same))
    at later false is (inr i) = let further = later i in rw is (omega (arith, further))

-- a name without a number isn't there
pub not_named : (name : List ℕ) (all : List (List ℕ)) → number_of_name name all ≡ None → IsAmong name all → ⊥
not_named name all none i =
    absurd (at (rw (lt-ltb (position_or_len (bytes_eq name) all) (length all) (has_index name all i)) at none))
  where
    at : Some (position_or_len (bytes_eq name) all) ≡ None → ⊥
    at e = cc

-- the name is at its index
stands_there : (name : List ℕ) (all : List (List ℕ)) → position_or_len (bytes_eq name) all < length all
    → slice_get all (position_or_len (bytes_eq name) all) ≡ Some name
stands_there name [] h = absurd (omega (arith, h))
stands_there name (x ∷ all) h = at (λ less. stands_there name all less) (bytes_eq name x) refl
  where
    at :
        (position_or_len (bytes_eq name) all < length all →
        slice_get all (position_or_len (bytes_eq name) all) ≡ Some name) → (b : Bool) → bytes_eq name x ≡ b
        → slice_get (x ∷ all) (position_or_len (bytes_eq name) (x ∷ all)) ≡ Some name
    at later true is = rw is (ap (λ (l : List ℕ). Some l) (sym ((bytes_decides name x).0 is)))
    at later false is =
        let within = rw is at h in
        let one_behind : (n : ℕ) → suc n ≡ 1 + n = λ n. omega arith in
        rw is
        (subst (λ (n : ℕ). slice_get (x ∷ all) n ≡ Some name) (one_behind (position_or_len (bytes_eq name) all))
        (later (omega (arith, within))))

pub named_there : (name : List ℕ) (all : List (List ℕ)) (k : ℕ) → number_of_name name all ≡ Some k →
    slice_get all k ≡ Some name
named_there name all k e = at (nat_lt (position_or_len (bytes_eq name) all) (length all)) refl e
  where
    at : (b : Bool) → nat_lt (position_or_len (bytes_eq name) all) (length all) ≡ b →
        cond b (Some (position_or_len (bytes_eq name) all)) None ≡ Some k → slice_get all k ≡ Some name
    at true less e =
        let same : position_or_len (bytes_eq name) all ≡ k = cc in
        subst (λ (n : ℕ). slice_get all n ≡ Some name) same (stands_there name all (less_of _ _ less))
    at false less e = absurd (cc)

none_of : {A : Type 0} (o : Option A) → is_none o ≡ true → o ≡ None
none_of None h = refl
none_of (Some x) h = absurd (cc)

-- a name that is new has no number
pub local_free : (name : List ℕ) (scope : Scope) → is_local_new name scope ≡ true →
    IsAmong name scope.current.variables → ⊥
local_free name scope new = not_named name scope.current.variables (none_of _ new)

pub external_free : (name : List ℕ) (scope : Scope) → is_external_new name scope ≡ true → IsAmong name scope.externals →
    ⊥
external_free name scope new = not_named name scope.externals (none_of _ new)

pub variable_free : (name : List ℕ) (scope : Scope) → is_variable_new name scope ≡ true →
    IsAmong name scope.current.variables → ⊥
variable_free name scope new =
    not_named name scope.current.variables
    (first_none (number_of_name name scope.current.variables) (number_of_name name scope.externals) new)
  where
    first_none : (p q : Option ℕ) → is_none (option_or (option_map var.Local p) (option_map var.External q)) ≡ true →
        p ≡ None
    first_none None q h = refl
    first_none (Some k) q h = absurd (cc)

pub function_free : (name : List ℕ) (scope : Scope) → is_function_new name scope ≡ true →
    IsAmong name (names scope.functions) → ⊥
function_free name scope new = not_named name (names scope.functions) (none_of _ (own (is_intrinsic name) new))
  where
    own : (b : Bool) → (if b then false else is_none (function_number name scope)) ≡ true →
        is_none (function_number name scope) ≡ true
    own true h = absurd (cc)
    own false h = h

-- one function more, which has a name alone
pub names_more : (functions : List FunctionNames) (name : List ℕ) →
    names (functions ++ only_named name ∷ []) ≡ names functions ++ name ∷ []
names_more functions name = map-append (λ (f : FunctionNames). f.name) functions (only_named name ∷ [])

-- a function that keeps its name changes none
pub names_kept : (functions : List FunctionNames) (number : ℕ) (f : FunctionNames) →
    slice_get (names functions) number ≡ Some f.name
    → names (set functions number f) ≡ names functions
names_kept [] number f is = refl
names_kept (g ∷ functions) zero f is = ap (λ (n : List ℕ). n ∷ names functions) (sym (some_same g.name f.name is))
names_kept (g ∷ functions) (suc number) f is = ap (λ (l : List (List ℕ)). g.name ∷ l) (names_kept functions number f is)

-- what each function that was defined has is at its number
abbrev pub AreAt : {A : Type 0} → (Function → A) → List A → List Definition → Type 0
AreAt part all [] = Unit {0}
AreAt part all (d ∷ ds) = (slice_get all d.number ≡ Some (part d.function)) × AreAt part all ds

pub at_wider : {A : Type 0} (part : Function → A) (all more : List A) (ds : List Definition) → AreAt part all ds →
    AreAt part (all ++ more) ds
at_wider part all more [] h = tt
at_wider part all more (d ∷ ds) h =
    (get_append all more d.number (part d.function) h.0, at_wider part all more ds h.1)

pub at_append : {A : Type 0} (part : Function → A) (all : List A) (ds : List Definition) (d : Definition) →
    AreAt part all ds → slice_get all d.number ≡ Some (part d.function) → AreAt part all (ds ++ d ∷ [])
at_append part all [] d h e = (e, tt)
at_append part all (x ∷ ds) d h e = (h.0, at_append part all ds d h.1 e)

-- what the function of a number has
pub part_at : {A : Type 0} (part : Function → A) (all : List A) (k : ℕ) (f : Function) (ds : List Definition) →
    AreAt part all ds → defined_as k ds ≡ Some f → slice_get all k ≡ Some (part f)
part_at part all k f [] h is = absurd (cc)
part_at part all k f (d ∷ ds) h is = at_test (λ g. part_at part all k f ds h.1 g) (d.number == k) refl is
  where
    same_number : (m n : ℕ) → (m == n) ≡ true → m ≡ n
    same_number m n e = grind (arith, nat_tests)

    at_test : (defined_as k ds ≡ Some f → slice_get all k ≡ Some (part f)) → (b : Bool) → (d.number == k) ≡ b →
        (if b then Some d.function else defined_as k ds) ≡ Some f → slice_get all k ≡ Some (part f)
    at_test again true e g =
        ap (slice_get all) (sym (same_number d.number k e)) ∙ h.0 ∙
        ap (λ (x : Function). Some (part x)) (some_same d.function f g)
    at_test again false e g = again g

-- its name
abbrev pub HaveNames : List (List ℕ) → List Definition → Type 0
HaveNames all ds = AreAt (λ (f : Function). f.name) all ds
