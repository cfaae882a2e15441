-- The opened files ran, and so the program ends as the definition says.
use Rattle.std.proofs.Common.{◌≡◌, ◌⊎◌, List, ℕ, Option, Result, Ok, Err, map, refl, subst, inl, inr}
use Rattle.series.specs.declared.run_results.RunFault.{RunFault}
use Rattle.series.specs.declared.run_results.RunFault.TheVariants as run_fault
use Rattle.series.specs.declared.run_results.Status.{Status}
use Rattle.series.specs.declared.run_results.Status.TheVariants as status
use Rattle.series.specs.Pieces.{Taken}
use Rattle.series.specs.Failures.{Failures}
use Rattle.settings.specs.declared.faults.UseFault.{UseFault}
use Rattle.settings.specs.declared.faults.UseFault.TheVariants.{Memory}
use Rattle.settings.specs.Settings.{Settings}
use Rattle.command.specs.declared.endings.Ending.{Ending}
use Rattle.command.specs.declared.endings.Ending.TheVariants.{OutOfMemory}
use Rattle.command.specs.Files.{Files}
use Rattle.command.specs.Whole.{Ends, IsEndingOf, RunsTo}

-- what a failed read shows, shows more
ending_of : (fails more : List ℕ → Type 0) (words : List (List ℕ)) (answer : Result Status RunFault) (ending : Ending)
    → ((word : List ℕ) → fails word → more word) → IsEndingOf fails words answer ending →
    IsEndingOf more words answer ending
ending_of fails more words (Ok status.Done) ending so is = is
ending_of fails more words (Ok status.Faulty) ending so is = is
ending_of fails more words (Err (run_fault.Read index)) ending so (word, is, here, failed) =
    (word, is, here, so word.now failed)
ending_of fails more words (Err run_fault.Write) ending so is = is
ending_of fails more words (Err run_fault.Memory) ending so is = is

pub ends_by_run : (files : Files) (asked : Result Settings UseFault) (settings : Settings) (fails : List ℕ → Type 0)
    (known : List (Option (List ℕ))) (ending : Ending) (before after : Taken) (failed failed_after : Failures)
    → (◌≡◌ {A = Result Settings UseFault} (Ok settings) (Err Memory)) ⊎ (Ok settings ≡ asked) →
    known ≡ map files.holds settings.file_words
    → ((word : List ℕ) → fails word → files.fails word)
    → RunsTo fails settings known ending before after failed failed_after → Ends files asked ending before after
ends_by_run files asked settings fails known ending before after failed failed_after (inl memory) same so ran =
    absurd (cc memory)
ends_by_run files asked settings fails known ending before after failed failed_after (inr is) same so ran =
    let over : RunsTo files.fails settings known ending before after failed failed_after = record {
      answer = ran.answer;
      ends = ending_of fails files.fails settings.file_words ran.answer ending so ran.ends;
      output = ran.output;
      devices = ran.devices;
    } in
    let contents : RunsTo files.fails settings (map files.holds settings.file_words) ending before after failed
    failed_after
    =
    subst (λ contents. RunsTo files.fails settings contents ending before after failed failed_after) same over in
    subst (λ answer. Ends files answer ending before after) is (inr (failed, failed_after, contents))

-- it may end for want of memory whatever its words ask for
pub ends_without_memory : (files : Files) (asked : Result Settings UseFault) (before : Taken) →
    Ends files asked OutOfMemory before before
ends_without_memory files (Ok settings) before = inl (tt, refl)
ends_without_memory files (Err fault) before = (inr refl, refl)
