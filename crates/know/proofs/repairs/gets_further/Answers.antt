use Rattle.std.proofs.Common.{◌≡◌, inl, inr, refl, rules}
use Rattle.std.specs.Prelude.{Err}
use Rattle.derivations.specs.Compiling.{IsFirstFault}
use Rattle.grammar.specs.Compiled.{compiled}
use Rattle.grammar.specs.declared.diagnostics.ParseFault.TheVariants.{Source}
use Rattle.know.proofs.repairs.gets_further.Goals as goal

pub returns-in-Ok : goal.returns-in-Ok
returns-in-Ok c = λ _. inl (c.in-Ok.ensures.compiles c.args.other.now (search rules)).compiles

pub returns-then-fits_now : goal.returns-then-fits_now
returns-then-fits_now c = λ _.
    let fault : IsFirstFault c.args.faulty.now.profile c.args.other.now c.in-Err-Source.field-0 =
    c.in-Err-Source.ensures.fault c.args.other.now (search rules) in
    let is : c.in-Err-Source.field-0 ≡ Source c.in-Err-Source.next = search rules in
    inr (inl (record {
      next = c.in-Err-Source.next;
      is = rw is at fault;
      lacks = c.if-fits_now.ensures.lacks refl;
      does_not = c.if-fits_now.ensures.does_not refl;
    }))

pub returns-in_ok-is_nearer-in-Err-Source : goal.returns-in_ok-is_nearer-in-Err-Source
returns-in_ok-is_nearer-in-Err-Source c = λ nearer.
    let fault : IsFirstFault c.args.faulty.now.profile c.args.other.now c.in-Err-Source.field-0 =
    c.in-Err-Source.ensures.fault c.args.other.now (search rules) in
    let is : c.in-Err-Source.field-0 ≡ Source c.in-Err-Source.next = search rules in
    let first : compiled c.args.faulty.now.profile c.args.other.now ≡ Err c.in-Err-Source.next = rw is at fault in
    inr (inr (c.in_ok-is_nearer-in-Err-Source.ensures nearer first))
