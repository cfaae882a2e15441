use Rattle.std.proofs.Common.{◌≡◌, ◌∙◌, ◌+◌, ℕ, List, Ok, Err, ap, sym, subst, length, map, true, arith}
use Rattle.std.proofs.lemmas.List.FromFn.{map-range_with_len_more}
use Rattle.std.proofs.lemmas.List.{length-map}
use Rattle.std.specs.Prelude.{nat_eq}
use Rattle.grammar.specs.Tree.{File}
use Rattle.code.specs.Codes.{AreProgramsOf}
use Rattle.settings.specs.Settings.{Settings}
use Rattle.series.specs.SeriesSteps.{Series, next_text, next_step}
use Rattle.series.specs.Reports.{report}
use Rattle.series.specs.RobotNames.{robot_names}
use Rattle.series.specs.Outcomes.{outcome_of, outcomes}
use Rattle.sinks.specs.Puts.{Puts}
use Rattle.series.proofs.SeriesLemmas.{IsNext, is_left, next_match, outcome_is, report_is}
use Rattle.series.proofs.TextsLemmas.{length_paired}
use Rattle.series.proofs.series.Series.next.Given.{Over}
use Rattle.series.proofs.series.Series.next.Goals.{After-put_report}
use Rattle.series.proofs.series.Series.next.Goals as goal

pub invariant_of-self : goal.invariant_of-self
invariant_of-self g c =
    let settings : Settings = c.self.inside.settings.now in
    let number : ℕ = c.first.result + c.matches.result in
    let left = is_left _ _ c.self.invariant.2 (ap (λ (s : Series). nat_eq s.played s.settings.matches) c.self.view_is
    ∙ sym c.is_over.ensures ∙ c.if-is_over.false) in (
      c.self.invariant.0,
      c.self.invariant.1,
      omega (arith, left),
      λ files are.
          let ended =
          outcome_is settings files number c.battle-outcome.result
          (rw (c.seed-seed.ensures.value, c.limit-limit.ensures.value) at
          (c.battle-outcome.ensures.battle settings.profile files are))
          in
          rw (
            c.count_match.ensures.matches,
            map-range_with_len_more (outcome_of settings files) settings.first c.self.inside.tally.matches number
                (omega arith),
            ← ended,
          )
          (c.count_match.ensures.tally (outcomes settings files c.self.inside.tally.matches)
          (c.self.invariant.3 files are)),
    )

-- the next match
next_is : (g : Over) (c : After-put_report g)
    → IsNext c.self.inside.settings.now c.self.inside.tally.matches (c.first.result + c.matches.result)
next_is g c = next_match _ _ _ (is_left _ _ c.self.invariant.2
    (ap (λ (s : Series). nat_eq s.played s.settings.matches) c.self.view_is ∙ sym c.is_over.ensures ∙
    c.if-is_over.false))
    (omega arith)

-- the report is that one's
report_is_next : (g : Over) (c : After-put_report g) (files : List File)
    → AreProgramsOf c.self.inside.programs.now c.self.inside.settings.now.profile files
    → report (c.first.result + c.matches.result) (robot_names (map (λ word. word.now) c.file_words.result.now))
    c.battle-outcome.result
    ≡ next_text c.self.inside.settings.now files c.self.inside.tally.matches
report_is_next g c files are =
    let settings : Settings = c.self.inside.settings.now in
    report_is settings files _ _ c.battle-outcome.result _ (next_is g c) (ap robot_names c.file_words.ensures.value)
    (outcome_is settings files _ c.battle-outcome.result
    (rw (c.seed-seed.ensures.value, c.limit-limit.ensures.value) at
    (c.battle-outcome.ensures.battle settings.profile files are)))

pub returns-in-Ok-clause-text : goal.returns-in-Ok-clause-text
returns-in-Ok-clause-text g c = λ going.
    let Text : Series → Type 0 = λ s. (files : List File) → AreProgramsOf s.programs s.settings.profile files
    → Puts {E = ℕ} (Ok c.in-Ok.field-0) (g.S.Sink.written c.args.out.now) (g.S.Sink.written c.put_report.new.sink)
    (next_text s.settings files s.played) in
    subst Text c.self.view_is (λ files are.
    rw (report_is_next g (goal.at.returns-in-Ok-clause-text g c).After-put_report files are) at c.in-Ok.ensures)

pub returns-in-Err-clause-text : goal.returns-in-Err-clause-text
returns-in-Err-clause-text g c = λ going.
    let Text : Series → Type 0 = λ s. (files : List File) → AreProgramsOf s.programs s.settings.profile files
    → Puts {T = ℕ} {E = ℕ} (Err 0) (g.S.Sink.written c.args.out.now) (g.S.Sink.written c.put_report.new.sink)
    (next_text s.settings files s.played) in
    subst Text c.self.view_is (λ files are.
    rw (report_is_next g (goal.at.returns-in-Err-clause-text g c).After-put_report files are) at c.in-Err.ensures)

pub invariant_of-self-in-Err : goal.invariant_of-self-in-Err
invariant_of-self-in-Err g c = c.self.invariant

pub returns-in-Err-clause-after : goal.returns-in-Err-clause-after
returns-in-Err-clause-after g c = ap (λ (s : Series). record s { failed = true }) c.self.view_is

pub returns-in-Ok-clause-step : goal.returns-in-Ok-clause-step
returns-in-Ok-clause-step g c =
    (next_is g (goal.at.returns-in-Ok-clause-step g c).After-put_report).step
    ∙ ap (λ (s : Series). next_step s.settings s.played) c.self.view_is

pub put_report-requires-clause-named : goal.put_report-requires-clause-named
put_report-requires-clause-named g c =
    c.battle-outcome.ensures.manned
    ∙
    length_paired c.self.inside.programs.now c.file_words.result.now
    (c.self.invariant.0 ∙ sym (ap length c.file_words.ensures.value) ∙
    length-map c.file_words.result.now (λ word. word.now))
