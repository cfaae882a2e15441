-- No source gets further than itself.
use Rattle.std.proofs.Common.{◌≡◌, ◌⊎◌, inl, inr, arith}
use Rattle.std.specs.Prelude.{ℕ, ◌+◌, List, Err}
use Rattle.grammar.specs.Compiled.{compiled}
use Rattle.grammar.specs.Profile.{Profile}
use Rattle.grammar.specs.declared.diagnostics.Diagnostic.{Diagnostic}
use Rattle.know.specs.Repairs.{GetsFurther, broken, a_line_down, lacks_function}

pub unchanged : (p : Profile) (s : List ℕ) (f : Diagnostic) → compiled p s ≡ Err f → GetsFurther p s f s → ⊥
unchanged p s f is (inl compiles) = let file = compiles.is in cc (file, is)
unchanged p s f is (inr (inl fits)) =
    let next = fits.is in
    let lacks = fits.lacks in
    let not = fits.does_not in
    cc (next, is, lacks, not)
unchanged p s f is (inr (inr nearer)) =
    let stays = nearer.before.stays in
    let first = nearer.among.is in
    let moves = nearer.among.moves in
    let same : nearer.next ≡ f = cc (first, is) in
    let down : f ≡ a_line_down nearer.next = cc (stays, moves) in
    grind (arith)
