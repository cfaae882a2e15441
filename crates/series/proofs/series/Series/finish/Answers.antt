use Rattle.std.proofs.Common.{◌≡◌, List, Ok, Err, ap, subst, map, true, arith, ℕ}
use Rattle.code.specs.Codes.{AreProgramsOf}
use Rattle.grammar.specs.Tree.{File}
use Rattle.series.specs.SeriesSteps.{Series}
use Rattle.series.specs.RobotNames.{robot_names}
use Rattle.series.specs.Outcomes.{totals_text}
use Rattle.sinks.specs.Puts.{Puts}
use Rattle.series.proofs.SeriesLemmas.{totals_are}
use Rattle.series.proofs.series.Series.finish.Goals as goal

pub returns-in-Ok-clause-text : goal.returns-in-Ok-clause-text
returns-in-Ok-clause-text g c = λ going.
    let Text : Series → Type 0 =
    λ s. s.played ≡ s.settings.matches → (files : List File) → AreProgramsOf s.programs s.settings.profile files
    → Puts {E = ℕ} (Ok c.in-Ok.field-0) (g.S.Sink.written c.args.out.now) (g.S.Sink.written c.put_totals.new.sink)
    (totals_text s.settings files) in
    let within = c.file_words.ensures.within in
    subst Text c.self.view_is (λ all files are.
    rw (totals_are c.self.inside.settings.now files c.self.inside.tally
    (robot_names (map (λ word. word.now) c.file_words.result.now))
    (omega (arith, within.some_file)) (omega (arith, within.most_files)) all (ap robot_names c.file_words.ensures.value)
    (rw all at (c.self.invariant.3 files are)))
    at c.in-Ok.ensures) c.requires.over

pub returns-in-Err-clause-text : goal.returns-in-Err-clause-text
returns-in-Err-clause-text g c = λ going.
    let Text : Series → Type 0 =
    λ s. s.played ≡ s.settings.matches → (files : List File) → AreProgramsOf s.programs s.settings.profile files
    → Puts {T = ℕ} {E = ℕ} (Err 0) (g.S.Sink.written c.args.out.now) (g.S.Sink.written c.put_totals.new.sink)
    (totals_text s.settings files) in
    let within = c.file_words.ensures.within in
    subst Text c.self.view_is (λ all files are.
    rw (totals_are c.self.inside.settings.now files c.self.inside.tally
    (robot_names (map (λ word. word.now) c.file_words.result.now))
    (omega (arith, within.some_file)) (omega (arith, within.most_files)) all (ap robot_names c.file_words.ensures.value)
    (rw all at (c.self.invariant.3 files are)))
    at c.in-Err.ensures) c.requires.over

pub invariant_of-self : goal.invariant_of-self
invariant_of-self g c = c.self.invariant

pub returns-in-Err-clause-after : goal.returns-in-Err-clause-after
returns-in-Err-clause-after g c = ap (λ (s : Series). record s { failed = true }) c.self.view_is
