use Rattle.std.proofs.Common.{◌≡◌, rules}
use Rattle.derivations.specs.Compiling.{IsFirstFault}
use Rattle.grammar.specs.declared.diagnostics.ParseFault.TheVariants.{Source}
use Rattle.know.proofs.tell.Goals as goal

pub tell_faulty-requires : goal.tell_faulty-requires
tell_faulty-requires c =
    let fault : IsFirstFault c.args.profile c.args.source.now c.in-Err-Source.field-0 =
    c.in-Err-Source.ensures.fault c.args.source.now (search rules) in
    let is : c.in-Err-Source.field-0 ≡ Source c.in-Err-Source.fault = search rules in
    rw is at fault
