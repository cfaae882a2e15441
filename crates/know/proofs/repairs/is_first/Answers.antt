use Rattle.std.proofs.Common.{◌≡◌, rules}
use Rattle.std.specs.Prelude.{Err}
use Rattle.derivations.specs.Compiling.{IsFirstFault}
use Rattle.grammar.specs.Compiled.{compiled}
use Rattle.grammar.specs.declared.diagnostics.ParseFault.TheVariants.{Source}
use Rattle.know.proofs.repairs.is_first.Goals as goal

pub returns-in-Err-Source : goal.returns-in-Err-Source
returns-in-Err-Source c same =
    let fault : IsFirstFault c.args.profile c.args.source.now c.in-Err-Source.field-0 =
    c.in-Err-Source.ensures.fault c.args.source.now (search rules) in
    let is : c.in-Err-Source.field-0 ≡ Source c.in-Err-Source.first = search rules in
    let first : compiled c.args.profile c.args.source.now ≡ Err c.in-Err-Source.first = rw is at fault in
    let equal : c.in-Err-Source.first ≡ c.args.fault.now = c.is_same.ensures same in
    rw equal at first
