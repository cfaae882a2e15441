-- The program of `main(){}` is that of a file.
use Rattle.std.specs.Prelude.{ℕ, zero, suc, ◌≡◌, ◌<◌, [], ◌∷◌, Some, slice_get}
use Rattle.std.proofs.Common.{refl, subst, arith, inl, inr}
use Rattle.grammar.specs.KnownSources.{file_of_main, main_of}
use Rattle.grammar.specs.ProfileNumbers.{first_profile}
use Rattle.grammar.specs.Resolved.{FitsFile, IsAmong, IsResolved}
use Rattle.grammar.specs.Tree.{Done, File, Function}
use Rattle.code.specs.Finishing.{IsOfSomeFile}
use Rattle.code.specs.Generation.{code_of}

-- main(){}
abbrev pub shortest_file : File
shortest_file = file_of_main [] Done

each : (k : ℕ) (f : Function) → slice_get shortest_file.functions k ≡ Some f → FitsFile 0 1 f
each zero f here =
    let same : main_of [] Done ≡ f = cc in
    subst (λ (f : Function). FitsFile 0 1 f) same
    (record { parameters = omega arith; variables = omega arith; distinct = tt; body = tt })
each (suc k) f here = absurd (cc)

only : (k : ℕ) → IsAmong k (0 ∷ []) → k < 1
only k (inl e) = omega (arith, e)
only k (inr none) = absurd none

resolved : IsResolved shortest_file
resolved = record {
  externals = omega arith;
  functions = omega arith;
  distinct_externals = tt;
  distinct_functions = (λ h. h, tt);
  each = each;
  defined = λ k low. inl (omega (arith, low));
  only = only;
  once = (λ h. h, tt);
  main = omega arith;
}

pub shortest : IsOfSomeFile (code_of first_profile shortest_file)
unfolding first_profile
shortest = record { file = shortest_file; resolved = resolved; is = refl; limit = omega arith; main = refl }
