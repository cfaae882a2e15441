-- Tables of runs.
use Rattle.std.specs.Prelude.{◌≡◌, ℕ, zero, suc, ◌+◌, List, [], ◌∷◌, drop, length, replicate, get_or}
use Rattle.std.proofs.Common.{refl, ◌∙◌, arith, subst}
use Rattle.grammar.specs.Profile.{Profile}
use Rattle.grammar.specs.Tree.{Body}
use Rattle.trees.specs.declared.tree.Function.{Function}
use Rattle.cycles.specs.declared.counted.Counted.{Counted}
use Rattle.cycles.specs.declared.runs.Runs.{Runs}
use Rattle.cycles.specs.declared.spans.Span.{Span}
use Rattle.cycles.specs.Ends.{passed}
use Rattle.cycles.specs.Spans.{anything}
use Rattle.cycles.specs.Statements.{ends_of}
use Rattle.cycles.specs.Runs.{run_of, run_within}
use Rattle.cycles.specs.Tables.{HasRuns, first_numbered}
use Rattle.cycles.specs.Told.{told}

-- a table that has the same for each number
pub same_for_each : (n k : ℕ) (s : Span) → get_or (replicate n s) k s ≡ s
same_for_each zero zero s = refl
same_for_each zero (suc k) s = refl
same_for_each (suc n) zero s = refl
same_for_each (suc n) (suc k) s = same_for_each n k s

pub nothing_known : (n k : ℕ) (s : Span) → s ≡ anything → get_or (replicate n s) k s ≡ told anything
nothing_known n k s is = same_for_each n k s ∙ is

-- after the last function there is none of any number
pub none_numbered : (u : Counted) (p : Profile) (runs : ℕ → Span) (fs : List Function) (k : ℕ) →
    told (run_of u passed) ≡ told (run_of u (ends_of u p runs (first_numbered (drop (length fs) fs) k)))
none_numbered u p runs [] k = refl
none_numbered u p runs (f ∷ fs) k = none_numbered u p runs fs k

-- one round more
pub one_round : (table : Runs) (u v : Counted) (p q : Profile) (bodies : ℕ → Body) (n : ℕ) → u ≡ v → p ≡ q →
    HasRuns table (λ k. run_of u (ends_of u p (run_within v q bodies n) (bodies k))) →
    HasRuns table (run_within v q bodies (n + 1))
one_round table u v p q bodies n counted profile known =
    let more : suc n ≡ n + 1 = omega arith in
    subst (λ (m : ℕ). HasRuns table (run_within v q bodies m)) more
    (subst (λ (r : Profile). HasRuns table (λ k. run_of v (ends_of v r (run_within v q bodies n) (bodies k)))) profile
    (subst (λ (w : Counted). HasRuns table (λ k. run_of w (ends_of w p (run_within v q bodies n) (bodies k)))) counted
    known))
