use Rattle.std.proofs.Common.{◌∙◌, ap, ap₂, refl, sym, inl, inr}
use Rattle.clap.specs.Words.{fault_of, is_simple, is_simple_and_free, matches_of}
use Rattle.arguments.proofs.CommandLemmas.{free, simple, some_kind}
use Rattle.arguments.proofs.FilesLemmas.{files_given}
use Rattle.arguments.proofs.commands.clap_matches.Goals as goal

pub returns-in-Ok-try_get_matches_from_mut-clause-rows :
    goal.returns-in-Ok-try_get_matches_from_mut-clause-rows
returns-in-Ok-try_get_matches_from_mut-clause-rows c =
    (c.in-Ok-try_get_matches_from_mut.ensures.ok.2 (ap is_simple c.in-Ok.ensures ∙ simple)).0 ∙
    ap₂ matches_of c.in-Ok.ensures refl

pub returns-in-Ok-try_get_matches_from_mut-clause-ok :
    goal.returns-in-Ok-try_get_matches_from_mut-clause-ok
returns-in-Ok-try_get_matches_from_mut-clause-ok c =
    ap₂ fault_of (sym c.in-Ok.ensures) refl ∙
    c.in-Ok-try_get_matches_from_mut.ensures.kinds (ap is_simple_and_free c.in-Ok.ensures ∙ free)

pub returns-in-Ok-try_get_matches_from_mut-clause-files :
    goal.returns-in-Ok-try_get_matches_from_mut-clause-files
returns-in-Ok-try_get_matches_from_mut-clause-files c =
    let done = c.in-Ok-try_get_matches_from_mut.ensures in
    let m = c.in-Ok-try_get_matches_from_mut.matches in
    elim done.after [
      | inl broken ↦ absurd (done.fails broken)
      | inr built ↦ files_given c.in-Ok.command _ m c.in-Ok.ensures built.0 done.ok.1 built.2
    ]

pub returns-clause-refused : goal.returns-clause-refused
returns-clause-refused c =
    let kinds = c.in-Err.ensures.kinds (ap is_simple_and_free c.in-Ok.ensures ∙ free) in
    elim c.fault_by.ensures.either [
      | inl memory ↦ inl memory
      | inr usage ↦ inr
          (usage.0, λ none. some_kind _ c.in-Err.error kinds usage.1 (ap₂ fault_of c.in-Ok.ensures refl ∙ none))
    ]
