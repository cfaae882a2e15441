use Rattle.std.proofs.Common.{List, length, take, sym, ap, subst, ◌∙◌, arith}
use Rattle.std.proofs.lemmas.List.{get_or-take}
use Rattle.code.specs.Generation.{Program}
use Rattle.operations.specs.declared.labels.Operations.{Operations}
use Rattle.operations.specs.Filling.{translated}
use Rattle.engine.specs.Executables.{IsTranslated, executable_of}
use Rattle.std.specs.Prelude.{flat_map, slice_get}
use Rattle.std.specs.Option.{option_to_list}
use Rattle.battles.proofs.ProgramsLemmas.{kept_length, translated_at}
use Rattle.battles.proofs.programs.Programs.translation.Goals as goal

pub returns : goal.returns
returns c code here =
    let kept = c.self.inside.programs.items in
    subst (λ (o : Operations). IsTranslated (executable_of code (translated o))) c.index-self-file.is
    (translated_at (flat_map option_to_list kept) (take (length kept) c.self.inside.operations) c.args.file code
    c.index-self-file.result c.self.invariant.1
    (ap (λ (l : List Program). slice_get l c.args.file) c.self.view_is ∙ here)
    (c.index-self-file.is
    ∙ sym (get_or-take (length kept) c.self.inside.operations c.args.file c.index-self-file.result (omega (
      arith,
      c.requires,
      kept_length kept c.args.self.now c.self.invariant.0 c.self.view_is,
    )))))
