-- Of a program: its addresses are as many as its functions, and main is one of them.
use Rattle.std.specs.Prelude.{ℕ, zero, suc, ◌≡◌, ◌<◌, List, [], ◌∷◌, length, map, get_or}
use Rattle.std.specs.List.{range_with_len}
use Rattle.std.proofs.Common.{sym, ap, ◌∙◌, arith}
use Rattle.std.proofs.lemmas.List.{length-map}
use Rattle.std.proofs.lemmas.List.FromFn.{length-range_with_len}
use Rattle.grammar.specs.Pools.{pools_of, names_of_function}
use Rattle.grammar.specs.Tree.{File}
use Rattle.code.specs.declared.counts.FunctionCounts.{FunctionCounts}
use Rattle.code.specs.Finishing.{IsOfSomeFile}
use Rattle.code.specs.Generation.{Program, counts_of, address_in}
use Rattle.code.specs.Machine.{no_counts}

-- there are counts of each function of a file
counted : (file : File) → length (map counts_of (pools_of file).functions) ≡ length file.functions
counted file = length-map (pools_of file).functions counts_of ∙ length-map file.functions names_of_function

pub addresses_of_file : (program : Program) → IsOfSomeFile program → length program.addresses ≡ length program.functions
addresses_of_file program of =
    let n = length of.file.functions in
    ap (λ (c : Program). length c.addresses) of.is
    ∙ length-map (range_with_len 0 n) (λ k. address_in program.profile of.file k of.file.order 0)
    ∙ length-range_with_len 0 n
    ∙ sym (counted of.file)
    ∙ sym (ap (λ (c : Program). length c.functions) of.is)

-- the counts of a function that there is, whatever is answered for one that isn't
pub counts_is : (fs : List FunctionCounts) (k : ℕ) (f : FunctionCounts) → f ≡ get_or fs k f → k < length fs →
    f ≡ get_or fs k no_counts
counts_is [] k f e h = absurd (omega (arith, h))
counts_is (g ∷ fs) zero f e h = e
counts_is (g ∷ fs) (suc k) f e h = counts_is fs k f e (omega (arith, h))

-- main is one of the functions
pub main_is_known : (program : Program) → IsOfSomeFile program → program.main < length program.functions
main_is_known program of =
    let known = of.resolved.main in
    let main = ap (λ (c : Program). c.main) of.is in
    let functions = ap (λ (c : Program). length c.functions) of.is in
    omega (arith, known, counted of.file, main, functions)
