-- What a name in a role does, by what is in scope.
use Rattle.std.proofs.Common.{◌≡◌, ℕ, zero, suc, ◌+◌, ◌<◌, ◌≤◌, List, [], ◌∷◌, ◌++◌, refl, sym, ap, ◌∙◌, Bool, true, false, arith, length, map, Option, Some, None, cond, drop, not, ap₂, lt-ltb, le-ltb, eqb, ◌||◌}
use Rattle.std.proofs.lemmas.Bool.{or_parts}
use Rattle.std.proofs.lemmas.List.Folds.{list_any-append}
use Rattle.std.proofs.lemmas.Map.Steps.{length-le_from_distinct_below}
use Rattle.std.proofs.lemmas.Bool.Decides.{nat_tests}
use Rattle.std.proofs.lemmas.List.{drop_more, length-map, length-append}
use Rattle.std.proofs.lemmas.List.Sums.{position_or_len_is}
use Rattle.std.proofs.Math.Seq.{take-set-lt}
use Rattle.std.specs.List.{AllByRecursion, IsDistinct, list_any, position, position_or_len}
use Rattle.std.specs.Str.{bytes_eq}
use Rattle.std.specs.Prelude.{nat_le, nat_lt, slice_index_or, ◌==◌}
use Rattle.tokens.specs.declared.located_tokens.LocatedToken.{LocatedToken}
use Rattle.grammar.specs.declared.diagnostics.Code.{Code}
use Rattle.grammar.specs.declared.diagnostics.Code.TheVariants as fault_code
use Rattle.grammar.specs.Faults.{fault, no_room, parameter_faults}
use Rattle.grammar.specs.Grammar.{Called}
use Rattle.grammar.specs.Intrinsics.{intrinsic_named}
use Rattle.grammar.specs.Laws.Index.{NoFunctionBefore}
use Rattle.grammar.specs.Laws.Naming.{IsScopeKept, LearnsName, line_of_undefined}
use Rattle.grammar.specs.Pools.{FunctionNames}
use Rattle.grammar.specs.Scope.{Scope, is_local_new, is_function_new, function_number, number_of_name, only_named, with_new_function}
use Rattle.grammar.specs.NameLimits.{most_names}

position_or_len_of_map : {A B : Type 0} (p : B → Bool) (f : A → B) (xs : List A) →
    position_or_len p (map f xs) ≡ position_or_len (λ x. p (f x)) xs
position_or_len_of_map p f [] = refl
position_or_len_of_map p f (x ∷ xs) = ap (λ n. cond (not (p (f x))) (1 + n) 0) (position_or_len_of_map p f xs)

pub position_of_map : {A B : Type 0} (p : B → Bool) (f : A → B) (xs : List A) →
    position p (map f xs) ≡ position (λ x. p (f x)) xs
position_of_map p f xs = ap₂ (λ n m. cond (nat_lt n m) (Some n) None) (position_or_len_of_map p f xs) (length-map xs f)

-- a new name that finds room
pub room : (new : Bool) (n : ℕ) (c : Code) (rest : List LocatedToken) → nat_le most_names n ≡ false →
    no_room new n c rest ≡ []
room false n c rest small = refl
room true n c rest small = rw small refl

-- and one that finds none
pub full : (new : Bool) (n : ℕ) (c : Code) (rest : List LocatedToken) → new ≡ true → nat_le most_names n ≡ true →
    no_room new n c rest ≡ fault rest c ∷ []
full new n c rest is large = rw (is, large) refl

-- a name that isn't new
pub not_new : (new : Bool) (n : ℕ) (c : Code) (rest : List LocatedToken) → new ≡ false → no_room new n c rest ≡ []
not_new new n c rest is = rw is refl

pub below_most : (n : ℕ) → nat_le most_names n ≡ false → n < most_names
below_most n h = grind (arith, nat_tests)

pub parameter_full : (name : List ℕ) (scope : Scope) (rest : List LocatedToken) → is_local_new name scope ≡ true →
    nat_le most_names (length scope.current.variables) ≡ true →
    parameter_faults name scope rest ≡ fault rest fault_code.TooManyVariables ∷ []
parameter_full name scope rest new large =
    rw new (full true (length scope.current.variables) fault_code.TooManyVariables rest refl large)

-- a name that none of the functions has
pub not_there : (name : List ℕ) (fs : List FunctionNames) →
    ((k : ℕ) → k < length fs → bytes_eq name (slice_index_or fs k (only_named [])).name ≡ false) →
    None ≡ number_of_name name (map (λ f. f.name) fs)
not_there name fs none =
    sym
    (position_of_map (bytes_eq name) (λ f. f.name) fs ∙
    at
    (position_or_len_is (λ f. bytes_eq name f.name) fs (length fs) (only_named []) (omega arith) none
    (λ h. absurd (omega (arith, h)))))
  where
    at : {n : ℕ} → n ≡ length fs → cond (nat_lt n (length fs)) (Some n) None ≡ None
    at e = rw e (rw (le-ltb (length fs) (length fs) (omega arith)) refl)

pub nowhere : (name : List ℕ) (fs : List FunctionNames) (n : ℕ) → NoFunctionBefore n name fs → length fs ≤ n →
    None ≡ number_of_name name (map (λ f. f.name) fs)
nowhere name fs n none past = not_there name fs (λ k h. none.none k (omega (arith, h, past)) h)

-- within a list the default counts for nothing
any_default : {A : Type 0} (xs : List A) (n : ℕ) (d e : A) → n < length xs →
    slice_index_or xs n d ≡ slice_index_or xs n e
any_default [] n d e h = absurd (omega (arith, h))
any_default (x ∷ xs) zero d e h = refl
any_default (x ∷ xs) (suc n) d e h = any_default xs n d e (omega (arith, h))

-- the first function that has it
pub there : (name : List ℕ) (fs : List FunctionNames) (n : ℕ) (f : FunctionNames) → n < length fs →
    ((k : ℕ) → k < n → bytes_eq name (slice_index_or fs k (only_named [])).name ≡ false)
    → f ≡ slice_index_or fs n f → bytes_eq name f.name ≡ true → Some n ≡ number_of_name name (map (λ f. f.name) fs)
there name fs n f h none here is = sym (position_of_map (bytes_eq name) (λ f. f.name) fs
    ∙
    at
    (position_or_len_is (λ f. bytes_eq name f.name) fs n (only_named []) (omega (arith, h)) none
    (λ l. ap (λ f. bytes_eq name f.name) (sym (here ∙ any_default fs n f (only_named []) h)) ∙ is)))
  where
    at : {m : ℕ} → m ≡ n → cond (nat_lt m (length fs)) (Some m) None ≡ Some n
    at e = rw e (rw (lt-ltb n (length fs) h) refl)

pub first_there : (name : List ℕ) (fs : List FunctionNames) (n : ℕ) (f : FunctionNames) → n < length fs →
    NoFunctionBefore n name fs → f ≡ slice_index_or fs n f → bytes_eq name f.name ≡ true →
    Some n ≡ number_of_name name (map (λ f. f.name) fs)
first_there name fs n f h none here is = there name fs n f h (λ k l. none.none k l (omega (arith, h, l))) here is

pub function_new : (name : List ℕ) (scope : Scope) → intrinsic_named name ≡ None → function_number name scope ≡ None →
    is_function_new name scope ≡ true
function_new name scope own unknown = rw (own, unknown) refl

-- one function too many is called
pub called_full : (name : List ℕ) (scope : Scope) (rest : List LocatedToken) → intrinsic_named name ≡ None →
    function_number name scope ≡ None → nat_le most_names (length scope.functions) ≡ true →
    no_room (is_function_new name scope) (length scope.functions) fault_code.TooManyFunctions rest ≡
    fault rest fault_code.TooManyFunctions ∷ []
called_full name scope rest own unknown large =
    full (is_function_new name scope) (length scope.functions) fault_code.TooManyFunctions rest
    (function_new name scope own unknown) large

-- a function is called for the first time
pub called_new : (name : List ℕ) (line : ℕ) (scope new : Scope) → intrinsic_named name ≡ None →
    function_number name scope ≡ None → nat_le most_names (length scope.functions) ≡ false →
    new ≡ with_new_function name line scope → LearnsName Called name line scope new
called_new name line scope new own unknown small e = rw e (record {
  clean = λ rest. room (is_function_new name scope) (length scope.functions) fault_code.TooManyFunctions rest small;
  behind = rw (function_new name scope own unknown) refl;
})

pub kept_nothing : {F : Type 0} (functions : List F) (lines begun : List ℕ) → functions ≡ [] → lines ≡ [] → begun ≡ [] →
    IsScopeKept functions lines begun
unfolding IsDistinct
kept_nothing functions lines begun p q r =
    rw (p, q, r) (record { few = omega arith; lined = refl; once = tt; within = λ k h. absurd (cc) })

all_snoc : {A : Type 0} (P : A → Type 0) (xs : List A) (x : A) → AllByRecursion P xs → P x →
    AllByRecursion P (xs ++ x ∷ [])
all_snoc P [] x h p = (p, tt)
all_snoc P (y ∷ ys) x h p = (h.0, all_snoc P ys x h.1 p)

distinct_snoc : (xs : List ℕ) (n : ℕ) → IsDistinct eqb xs → list_any (λ k. eqb k n) xs ≡ false →
    IsDistinct eqb (xs ++ n ∷ [])
unfolding IsDistinct
distinct_snoc [] n d f = (tt, tt)
distinct_snoc (x ∷ xs) n d f = (
  all_snoc (λ y. eqb x y ≡ false) xs n d.0 (or_parts (eqb x n) (list_any (λ k. eqb k n) xs) f).0,
  distinct_snoc xs n d.1 (or_parts (eqb x n) (list_any (λ k. eqb k n) xs) f).1,
)

-- one more definition begins
pub kept_begun : {F : Type 0} (functions : List F) (lines begun : List ℕ) (n : ℕ) → IsScopeKept functions lines begun →
    n < length functions → list_any (λ k. eqb k n) begun ≡ false
    → IsScopeKept functions lines (begun ++ n ∷ [])
kept_begun functions lines begun n kept within new = record {
  few = kept.few;
  lined = kept.lined;
  once = distinct_snoc begun n kept.once new;
  within = λ q h. by q (eqb q n) refl (sym (list_any-append (eqb q) begun (n ∷ [])) ∙ h);
}
  where
    by : (q : ℕ) (b : Bool) → eqb q n ≡ b → (list_any (eqb q) begun || (eqb q n || false)) ≡ true → q < length functions
    by q true e h = grind (arith, nat_tests)
    by q false e h = kept.within q (alone (list_any (eqb q) begun) (rw e at h))
      where
        alone : (b : Bool) → (b || (false || false)) ≡ true → b ≡ true
        alone true a = refl
        alone false a = a

-- and there is room for it
pub room_begun : {F : Type 0} (functions : List F) (lines begun : List ℕ) (n : ℕ) → IsScopeKept functions lines begun →
    n < length functions → list_any (λ k. eqb k n) begun ≡ false
    → length begun < most_names
room_begun functions lines begun n kept within new =
    let more = kept_begun functions lines begun n kept within new in
    let most = length-le_from_distinct_below (begun ++ n ∷ []) (length functions) more.once more.within in
    omega (arith, most, kept.few, length-append begun (n ∷ []))

eqb_swapped : (a b : ℕ) → eqb a b ≡ eqb b a
eqb_swapped a b = grind (arith, nat_tests)

any_swapped : (q : ℕ) (xs : List ℕ) → list_any (λ k. eqb k q) xs ≡ list_any (eqb q) xs
any_swapped q [] = refl
any_swapped q (x ∷ xs) = ap₂ (λ a b. a || b) (eqb_swapped x q) (any_swapped q xs)

-- a function that wasn't mentioned has no definition
pub not_begun : {F : Type 0} (functions : List F) (lines begun : List ℕ) → IsScopeKept functions lines begun →
    false ≡ list_any (λ k. eqb k (length functions)) begun
not_begun functions lines begun kept = by (list_any (λ k. eqb k (length functions)) begun) refl
  where
    by : (b : Bool) → list_any (λ k. eqb k (length functions)) begun ≡ b →
        false ≡ list_any (λ k. eqb k (length functions)) begun
    by true e =
        let less = kept.within (length functions) (sym (any_swapped (length functions) begun) ∙ e) in
        absurd (omega (arith, less))
    by false e = sym e

-- a function of the pools changes in place
pub ruleset in_place = (take-set-lt)

pub ruleset beginnings = (kept_begun, room_begun)

pub ruleset names = (room, full, not_new, below_most, parameter_full)

pub ruleset calls = (called_full, called_new, below_most)

-- the first function whose definition didn't begin
pub undefined_here : (lines begun : List ℕ) (n : ℕ) (first : Option ℕ) →
    first ≡ line_of_undefined n (drop n lines) begun → n < length lines → list_any (λ k. k == n) begun ≡ false →
    Some (slice_index_or lines n 0) ≡ first
undefined_here lines begun n first e within none = sym (e ∙ rw (drop_more lines n 0 within, none) refl)
