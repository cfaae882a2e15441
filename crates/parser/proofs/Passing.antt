-- What a `?` passes on.
use Rattle.std.proofs.Common.{◌≡◌, ◌∙◌, ap}
use Rattle.std.proofs.lemmas.Result.{err_from_is_err_and}
use Rattle.std.specs.Prelude.{Result, Err, IsErrAnd}
use Rattle.grammar.specs.declared.diagnostics.ParseFault.{ParseFault}

-- where it got a fault, its result is this fault
pub passed_on : {T : Type 0} {fault : ParseFault} (result : Result T ParseFault) → IsErrAnd result (λ e. e ≡ fault) →
    result ≡ Err fault
passed_on result h = let p = err_from_is_err_and result h in p.1 ∙ ap Err p.2
