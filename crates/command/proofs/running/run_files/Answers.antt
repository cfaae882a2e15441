use Rattle.std.proofs.Common.{◌<◌, Ok, Err, [], List, ℕ, Bor, length, refl, ap, inl, inr, arith}
use Rattle.std.proofs.lemmas.List.{length-map}
use Rattle.series.specs.declared.run_results.RunFault.TheVariants as run_fault
use Rattle.series.specs.declared.run_results.Status.TheVariants as status
use Rattle.series.specs.Failures.{Failures}
use Rattle.command.proofs.FilesLemmas.{word_at}
use Rattle.command.proofs.running.run_files.Goals as goal

pub returns-in-Ok-Done-clause-ran : goal.returns-in-Ok-Done-clause-ran
returns-in-Ok-Done-clause-ran g c = record {
  answer = Ok status.Done;
  ends = refl;
  output = rw c.in-Ok-Done.field-0-is at c.in-Ok-Done.ensures.output;
  devices = c.in-Ok-Done.ensures.failures;
}

pub returns-in-Ok-Done-clause-failures : goal.returns-in-Ok-Done-clause-failures
returns-in-Ok-Done-clause-failures g c = (
  ap (λ (f : Failures). f.text) c.in-Ok-Done.ensures.failures,
  ap (λ (f : Failures). f.faults) c.in-Ok-Done.ensures.failures,
)

pub returns-in-Ok-Faulty-clause-ran : goal.returns-in-Ok-Faulty-clause-ran
returns-in-Ok-Faulty-clause-ran g c = record {
  answer = Ok status.Faulty;
  ends = refl;
  output = rw c.in-Ok-Faulty.field-0-is at c.in-Ok-Faulty.ensures.output;
  devices = c.in-Ok-Faulty.ensures.failures;
}

pub returns-in-Ok-Faulty-clause-failures : goal.returns-in-Ok-Faulty-clause-failures
returns-in-Ok-Faulty-clause-failures g c = (
  ap (λ (f : Failures). f.text) c.in-Ok-Faulty.ensures.failures,
  ap (λ (f : Failures). f.faults) c.in-Ok-Faulty.ensures.failures,
)

pub returns-in-Err-Read-clause-ran : goal.returns-in-Err-Read-clause-ran
returns-in-Err-Read-clause-ran g c =
    let e = rw c.in-Err-Read.field-0-is at c.in-Err-Read.ensures.failures in
    let inside : c.in-Err-Read.file < length c.file_words.result.now =
    omega (
      arith,
      e.0,
      c.requires.ready.files,
      length-map c.args.feeds.now (λ feed. (g.F.Feed.device feed).account),
      ap length c.file_words.ensures.value,
      length-map c.file_words.result.now (λ (word : Bor (List ℕ)). word.now),
    ) in
    let none : Bor (List ℕ) = record { ref_ptr = (0, 0); now = [] } in
    let here = rw c.file_words.ensures.value at (word_at c.file_words.result.now c.in-Err-Read.file none inside) in
    record {
      answer = Err (run_fault.Read c.in-Err-Read.file);
      ends = (
        _,
        refl,
        here,
        record { index = c.in-Err-Read.file; here = here; within = e.0; is = ap (λ (f : Failures). f.feeds) e.1 },
      );
      output = rw c.in-Err-Read.field-0-is at c.in-Err-Read.ensures.output;
      devices = e;
    }

pub returns-in-Err-Read-clause-failures : goal.returns-in-Err-Read-clause-failures
returns-in-Err-Read-clause-failures g c =
    let e = rw c.in-Err-Read.field-0-is at c.in-Err-Read.ensures.failures in
    (ap (λ (f : Failures). f.text) e.1, ap (λ (f : Failures). f.faults) e.1)

pub returns-in-Err-Write-clause-ran : goal.returns-in-Err-Write-clause-ran
returns-in-Err-Write-clause-ran g c = record {
  answer = Err run_fault.Write;
  ends = refl;
  output = rw c.in-Err-Write.field-0-is at c.in-Err-Write.ensures.output;
  devices = rw c.in-Err-Write.field-0-is at c.in-Err-Write.ensures.failures;
}

pub returns-in-Err-Write-clause-failures : goal.returns-in-Err-Write-clause-failures
returns-in-Err-Write-clause-failures g c =
    elim (rw c.in-Err-Write.field-0-is at c.in-Err-Write.ensures.failures) [
      | inl text ↦ inl (ap (λ (f : Failures). f.text) text, ap (λ (f : Failures). f.faults) text)
      | inr faults ↦ inr (ap (λ (f : Failures). f.text) faults, ap (λ (f : Failures). f.faults) faults)
    ]
