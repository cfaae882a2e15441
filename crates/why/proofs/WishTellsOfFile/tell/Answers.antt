use Rattle.std.proofs.Common.{◌≡◌, rules}
use Rattle.derivations.specs.Compiling.{IsFirstFault}
use Rattle.grammar.specs.declared.diagnostics.ParseFault.TheVariants.{Source}
use Rattle.why.proofs.WishTellsOfFile.tell.Goals as goal

pub tell_fault-requires : goal.tell_fault-requires
tell_fault-requires c =
    let fault : IsFirstFault c.args.self.now.profile c.as_slice-2.result.now c.in-Err-Source.field-0 =
    c.in-Err-Source.ensures.fault c.as_slice-2.result.now (search rules) in
    let is : c.in-Err-Source.field-0 ≡ Source c.in-Err-Source.diagnostic = search rules in
    rw is at fault
