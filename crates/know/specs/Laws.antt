-- Laws of what fixes do.
use Rattle.std.specs.Prelude.{◌≡◌, ℕ, List, Err}
use Rattle.grammar.specs.Compiled.{compiled}
use Rattle.grammar.specs.Profile.{Profile}
use Rattle.grammar.specs.declared.diagnostics.Diagnostic.{Diagnostic}
use Rattle.know.specs.Repairs.{GetsFurther}

-- No source gets further than itself, so a fix isn't one that leaves all as it is.
abbrev pub NothingUnchangedGetsFurther : Type 0
NothingUnchangedGetsFurther = (profile : Profile) (source : List ℕ) (fault : Diagnostic)
    → compiled profile source ≡ Err fault → GetsFurther profile source fault source → ⊥
