-- The file of a derivation that matched all tokens.
use Rattle.std.proofs.Common.{◌≡◌, ℕ, zero, suc, ◌+◌, ◌<◌, List, [], ◌∷◌, ◌++◌, refl, sym, ap, ap₂, ◌∙◌, subst, inl, inr, Bool, true, false, arith, length}
use Rattle.std.proofs.lemmas.Bool.Decides.{nat_tests}
use Rattle.std.proofs.lemmas.Option.{slice_get_within}
use Rattle.std.specs.List.{list_any}
use Rattle.std.specs.Option.{is_some}
use Rattle.std.specs.Prelude.{Option, Some, None, Ok, Err, if◌then◌else◌, slice_get, ◌==◌, ◌||◌, map}
use Rattle.tokens.specs.declared.located_tokens.LocatedToken.{LocatedToken}
use Rattle.grammar.specs.declared.diagnostics.Code.TheVariants as fault_code
use Rattle.grammar.specs.Actions.{numbered_actions, functions_actions}
use Rattle.grammar.specs.Compiled.{compiled_tokens, diagnostic, last_line, defined_as, in_front, all_defined, file_of, main_name, order_of, resolved}
use Rattle.grammar.specs.Derivation.{State, Definition}
use Rattle.grammar.specs.Laws.StateParts.{state}
use Rattle.grammar.specs.Beginning.{definitions_actions}
use Rattle.grammar.specs.Laws.Naming.{line_of_undefined}
use Rattle.grammar.specs.Pools.{FunctionNames, pools_of, names_of_function}
use Rattle.grammar.specs.Profile.{Profile}
use Rattle.grammar.specs.Resolved.{IsAmong, AreDistinct}
use Rattle.grammar.specs.Scope.{Scope, function_number}
use Rattle.grammar.specs.Tree.{Function, File}
use Rattle.grammar.proofs.ResolvedLaws.{Sound, compiled_is_resolved, order_below}
use Rattle.grammar.proofs.Verdicts.{clean_verdict}
use Rattle.grammar.specs.Laws.Finished.{PassesAll, Finished, Undefined, WithoutMain, names_in_scope}
use Rattle.grammar.proofs.NamedFunctions.{AreNamed, sound_of_passes, named_of_passes}
use Rattle.grammar.proofs.DistinctNames.{part_at}
use Rattle.grammar.proofs.Indices.{map_by_index, some_same}

-- Functions by number.

-- a number that was begun is that of a function defined
any_defined : (number : ℕ) (ds : List Definition) →
    list_any (λ k. k == number) (order_of ds) ≡ is_some (defined_as number ds)
any_defined number [] = refl
any_defined number (d ∷ ds) = at_test (any_defined number ds) (d.number == number)
  where
    at_test : list_any (λ k. k == number) (order_of ds) ≡ is_some (defined_as number ds) → (b : Bool) →
        (b || list_any (λ k. k == number) (order_of ds)) ≡ is_some (if b then Some d.function else defined_as number ds)
    at_test again true = refl
    at_test again false = again

-- the functions of a file, each by its number
record AreAll (number : ℕ) (lines : List ℕ) (ds : List Definition) : Type 0 where
  functions : List Function
  are : all_defined number lines ds ≡ Ok functions
  count : length functions ≡ length lines
  each : (k : ℕ) → k < length lines → slice_get functions k ≡ defined_as (number + k) ds

none_mentioned : (number : ℕ) (ds : List Definition) → AreAll number [] ds
none_mentioned number ds = record { functions = []; are = refl; count = refl; each = λ k h. absurd (omega arith) }

one_more : (number line : ℕ) (lines : List ℕ) (ds : List Definition) (f : Function) → defined_as number ds ≡ Some f →
    AreAll (number + 1) lines ds → AreAll number (line ∷ lines) ds
one_more number line lines ds f here more = record {
  functions = f ∷ more.functions;
  are = rw (here, more.are) refl;
  count = omega (arith, more.count);
  each = each;
}
  where
    each : (k : ℕ) → k < length (line ∷ lines) → slice_get (f ∷ more.functions) k ≡ defined_as (number + k) ds
    each zero h = let at : number + 0 ≡ number = omega arith in sym here ∙ ap (λ n. defined_as n ds) (sym at)
    each (suc k) h =
        let at : number + suc k ≡ number + 1 + k = omega arith in
        more.each k (omega arith) ∙ ap (λ n. defined_as n ds) (sym at)

-- each function that was mentioned is defined
all_are : (number : ℕ) (lines : List ℕ) (ds : List Definition) → line_of_undefined number lines (order_of ds) ≡ None →
    AreAll number lines ds
all_are number [] ds e = none_mentioned number ds
all_are number (line ∷ lines) ds e =
    by_number (λ h. all_are (number + 1) lines ds h) (defined_as number ds) refl (rw (any_defined number ds) at e)
  where
    by_number : (line_of_undefined (number + 1) lines (order_of ds) ≡ None → AreAll (number + 1) lines ds) →
        (o : Option Function) → defined_as number ds ≡ o →
        (if is_some o then line_of_undefined (number + 1) lines (order_of ds) else Some line) ≡ None →
        AreAll number (line ∷ lines) ds
    by_number again None is h = absurd (cc)
    by_number again (Some f) is h = one_more number line lines ds f is (again h)

-- one isn't
one_is_not : (number : ℕ) (lines : List ℕ) (ds : List Definition) (line : ℕ) →
    line_of_undefined number lines (order_of ds) ≡ Some line → all_defined number lines ds ≡ Err line
one_is_not number [] ds line e = absurd (cc)
one_is_not number (first ∷ lines) ds line e =
    by_number (λ h. one_is_not (number + 1) lines ds line h) (defined_as number ds) (rw (any_defined number ds) at e)
  where
    by_number :
        (line_of_undefined (number + 1) lines (order_of ds) ≡ Some line → all_defined (number + 1) lines ds ≡ Err line)
        → (o : Option Function) →
        (if is_some o then line_of_undefined (number + 1) lines (order_of ds) else Some first) ≡ Some line →
        in_front o first (all_defined (number + 1) lines ds) ≡ Err line
    by_number again None h = ap Err (some_same first line h)
    by_number again (Some f) h = rw (again h) refl

-- The actions of a file.

-- a function is at the number of its definition
abbrev pub AreThere : List Function → List Definition → Type 0
AreThere functions [] = Unit {0}
AreThere functions (d ∷ ds) = (slice_get functions d.number ≡ Some d.function) × AreThere functions ds

pub there : (functions : List Function) (ds : List Definition) → AreDistinct (order_of ds) →
    ((k : ℕ) → IsAmong k (order_of ds) → slice_get functions k ≡ defined_as k ds) → AreThere functions ds
there functions [] distinct each = tt
there functions (d ∷ ds) distinct each = (
  each d.number (inl refl) ∙ at_itself d.number,
  there functions ds distinct.1 (λ k i. each k (inr i) ∙ at_other k i (d.number == k) refl),
)
  where
    same : (n : ℕ) → (n == n) ≡ true
    same n = grind (arith, nat_tests)

    equal : (n k : ℕ) → (n == k) ≡ true → n ≡ k
    equal n k e = grind (arith, nat_tests)

    at_itself : (n : ℕ) → (if n == n then Some d.function else defined_as n ds) ≡ Some d.function
    at_itself n = rw (same n) refl

    at_other : (k : ℕ) → IsAmong k (order_of ds) → (b : Bool) → (d.number == k) ≡ b →
        (if d.number == k then Some d.function else defined_as k ds) ≡ defined_as k ds
    at_other k i true e = absurd (distinct.0 (subst (λ (n : ℕ). IsAmong n (order_of ds)) (sym (equal d.number k e)) i))
    at_other k i false e = rw e refl

pub actions_there : (functions : List Function) (ds : List Definition) → AreThere functions ds →
    functions_actions functions (order_of ds) ≡ definitions_actions ds
actions_there functions [] h = refl
actions_there functions (d ∷ ds) h =
    ap₂ (λ a b. a ++ b) (ap (numbered_actions d.number) h.0) (actions_there functions ds h.1)

-- The names of a file.

pub named_at : (functions : List FunctionNames) (k : ℕ) (f : Function) (ds : List Definition) → AreNamed functions ds →
    defined_as k ds ≡ Some f → slice_get functions k ≡ Some (names_of_function f)
named_at functions k f ds h is = part_at names_of_function functions k f ds h is

-- The end of a derivation.

abbrev at_end : Scope → List Definition → State
at_end scope ds = state [] [] [] scope ds

-- the numbers begun are those of the functions defined
begun_at_end : (scope : Scope) (ds : List Definition) → Sound (at_end scope ds) → scope.begun ≡ order_of ds
begun_at_end scope ds s = s.tied.begun

verdict_at_end : (profile : Profile) (located_tokens : List LocatedToken) (scope : Scope) (ds : List Definition) →
    PassesAll profile located_tokens scope ds →
    compiled_tokens profile located_tokens ≡ resolved located_tokens scope ds
verdict_at_end profile located_tokens scope ds p = clean_verdict profile located_tokens (at_end scope ds) p refl refl

module _ (scope : Scope) (ds : List Definition) (s : Sound (at_end scope ds)) (a : AreAll 0 scope.lines ds) where
  each_at : (k : ℕ) → k < length scope.functions → slice_get a.functions k ≡ defined_as k ds
  each_at k less =
      let at : 0 + k ≡ k = omega arith in a.each k (omega (arith, s.scoped.lines)) ∙ ap (λ n. defined_as n ds) at

  reported_at : functions_actions a.functions (order_of ds) ≡ definitions_actions ds
  reported_at =
      actions_there a.functions ds (there a.functions ds
      (subst (λ (ns : List ℕ). AreDistinct ns) (begun_at_end scope ds s) s.scoped.begun)
      (λ k i. each_at k (order_below _ _ k ds s.scoped.definitions i)))

  names_at : AreNamed scope.functions ds → map names_of_function a.functions ≡ scope.functions
  names_at h = map_by_index names_of_function a.functions scope.functions (a.count ∙ s.scoped.lines)
      (λ k f e. named_at scope.functions k f ds h (sym (each_at k (below k f e)) ∙ e))
    where
      below : (k : ℕ) (f : Function) → slice_get a.functions k ≡ Some f → k < length scope.functions
      below k f e = omega (arith, slice_get_within a.functions k f e, a.count, s.scoped.lines)

abbrev file_at : Scope → List Definition → List Function → ℕ → File
file_at scope ds functions main =
    record { externals = scope.externals; functions = functions; order = order_of ds; main = main }

-- if each function is defined, and main is one of them, there is the file
resolved_at : (located_tokens : List LocatedToken) (scope : Scope) (ds : List Definition) (functions : List Function)
    (main : ℕ) → all_defined 0 scope.lines ds ≡ Ok functions →
    function_number main_name scope ≡ Some main →
    resolved located_tokens scope ds ≡ Ok (file_at scope ds functions main)
resolved_at located_tokens scope ds functions main all named = rw (all, named) refl

without_main_at : (located_tokens : List LocatedToken) (scope : Scope) (ds : List Definition)
    (functions : List Function) → all_defined 0 scope.lines ds ≡ Ok functions →
    function_number main_name scope ≡ None →
    resolved located_tokens scope ds ≡ Err (diagnostic (last_line located_tokens) fault_code.NoMainFunction)
without_main_at located_tokens scope ds functions all named = rw (all, named) refl

names_same : (scope : Scope) (ds : List Definition) (functions : List Function) (main : ℕ) →
    map names_of_function functions ≡ scope.functions →
    names_in_scope scope ≡ pools_of (file_at scope ds functions main)
names_same scope ds functions main e = rw e refl

-- main has a number or hasn't
record IsSome (o : Option ℕ) : Type 0 where
  value : ℕ
  is : o ≡ Some value

is_some_value : (o : Option ℕ) → is_some o ≡ true → IsSome o
is_some_value None e = absurd (cc)
is_some_value (Some n) e = record { value = n; is = refl }

is_none_value : (o : Option ℕ) → is_some o ≡ false → o ≡ None
is_none_value None e = refl
is_none_value (Some n) e = absurd (cc)

all_at_end : (profile : Profile) (located_tokens : List LocatedToken) (scope : Scope) (ds : List Definition) →
    PassesAll profile located_tokens scope ds → line_of_undefined 0 scope.lines scope.begun ≡ None →
    AreAll 0 scope.lines ds
all_at_end profile located_tokens scope ds p e =
    all_are 0 scope.lines ds
    (subst (λ (ns : List ℕ). line_of_undefined 0 scope.lines ns ≡ None)
    (begun_at_end scope ds (sound_of_passes profile located_tokens (at_end scope ds) p)) e)

pub finished : Finished
finished profile located_tokens scope ds p e has =
    let s : Sound (at_end scope ds) = sound_of_passes profile located_tokens (at_end scope ds) p in
    let a : AreAll 0 scope.lines ds = all_at_end profile located_tokens scope ds p e in
    let main : IsSome (function_number main_name scope) = is_some_value (function_number main_name scope) has in
    let compiled : compiled_tokens profile located_tokens ≡ Ok (file_at scope ds a.functions main.value) =
    verdict_at_end profile located_tokens scope ds p ∙
    resolved_at located_tokens scope ds a.functions main.value a.are main.is in
    record {
      file = file_at scope ds a.functions main.value;
      compiled = compiled;
      resolved = compiled_is_resolved profile located_tokens (file_at scope ds a.functions main.value) compiled;
      named = names_same scope ds a.functions main.value
          (names_at scope ds s a (named_of_passes profile located_tokens (at_end scope ds) p));
      main = main.is;
      reported = reported_at scope ds s a;
    }

pub undefined : Undefined
undefined profile located_tokens scope ds line p e =
    verdict_at_end profile located_tokens scope ds p
    ∙
    ap (λ all. file_of (last_line located_tokens) scope (order_of ds) all (function_number main_name scope)) (one_is_not
    0 scope.lines ds line
    (subst (λ (ns : List ℕ). line_of_undefined 0 scope.lines ns ≡ Some line)
    (begun_at_end scope ds (sound_of_passes profile located_tokens (at_end scope ds) p)) e))

pub without_main : WithoutMain
without_main profile located_tokens scope ds p e has =
    let a : AreAll 0 scope.lines ds = all_at_end profile located_tokens scope ds p e in
    verdict_at_end profile located_tokens scope ds p ∙
    without_main_at located_tokens scope ds a.functions a.are (is_none_value (function_number main_name scope) has)
