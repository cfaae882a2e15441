use Rattle.std.proofs.Common.{◌≡◌, ℕ, ◌+◌, List, [], ◌∷◌, ◌++◌, Option, Some, length, set, take, sym, ap, subst, ◌∙◌, arith, rules}
use Rattle.std.proofs.lemmas.List.{length-append, take_more_set}
use Rattle.std.specs.Prelude.{flat_map}
use Rattle.std.specs.Option.{option_to_list}
use Rattle.code.specs.Generation.{Program}
use Rattle.operations.specs.declared.labels.Operations.{Operations}
use Rattle.battles.specs.Programs.{AllSome}
use Rattle.battles.specs.Translated.{AreTranslated}
use Rattle.battles.proofs.ProgramsLemmas.{kept_length, kept_more, list_more, translated_more}
use Rattle.battles.proofs.programs.Programs.add_translated.Goals as goal

pub translate_in_place-requires : goal.translate_in_place-requires
translate_in_place-requires c =
    omega (
      arith,
      c.requires.room,
      kept_length c.self.inside.programs.items c.args.self.now c.self.invariant.0 c.self.view_is,
    )

pub invariant_of-self : goal.invariant_of-self
invariant_of-self c =
    let kept = c.self.inside.programs.items in
    let ops = c.self.inside.operations in
    let codes = flat_map option_to_list kept in
    let n = length kept in
    let index : c.len-file.result ≡ n = search rules in
    let all : AllSome c.translate_in_place.new.programs.items =
    subst (λ (l : List (Option Program)). AllSome l) (sym c.translate_in_place.ensures.kept)
    (kept_more kept c.args.program c.self.invariant.0) in
    let are : AreTranslated (codes ++ c.args.program ∷ []) (take n ops ++ c.translate_in_place.new.operations ∷ []) =
    translated_more codes (take n ops) c.args.program c.translate_in_place.new.operations c.self.invariant.1
    c.translate_in_place.ensures.translated in
    let count : length c.translate_in_place.new.programs.items ≡ n + 1 =
    ap (λ (l : List (Option Program)). length l) c.translate_in_place.ensures.kept ∙
    length-append kept (Some c.args.program ∷ [])
    in
    let put : take (length c.translate_in_place.new.programs.items)
    (set ops c.len-file.result c.translate_in_place.new.operations)
    ≡ take n ops ++ c.translate_in_place.new.operations ∷ [] =
    ap
    (λ (k : ℕ). take (length c.translate_in_place.new.programs.items) (set ops k c.translate_in_place.new.operations))
    index
    ∙ ap (λ (k : ℕ). take k (set ops n c.translate_in_place.new.operations)) count
    ∙ take_more_set ops n c.translate_in_place.new.operations (omega (
      arith,
      c.requires.room,
      kept_length c.self.inside.programs.items c.args.self.now c.self.invariant.0 c.self.view_is,
    ))
    in (
      all,
      subst (λ (l : List Operations). AreTranslated (flat_map option_to_list c.translate_in_place.new.programs.items) l)
          (sym put)
          (subst (λ (l : List Program). AreTranslated l (take n ops ++ c.translate_in_place.new.operations ∷ []))
          (sym (ap (flat_map option_to_list) c.translate_in_place.ensures.kept ∙ list_more kept c.args.program)) are),
    )
