use Rattle.std.proofs.Common.{◌≡◌, ◌+◌, ◌<◌, ◌∙◌, refl, sym, arith}
use Rattle.std.proofs.lemmas.Result.{err_from_is_err_and}
use Rattle.settings.specs.Settings.{Settings}
use Rattle.series.specs.declared.run_results.Step.TheVariants.{Played}
use Rattle.series.proofs.SeriesLemmas.{next_match}
use Rattle.series.proofs.PlayingLemmas.{report_written, report_cut, totals_put}
use Rattle.series.proofs.runs.play_all.Goals as goal

pub loop-preserved : goal.loop-preserved
loop-preserved g c =
    let settings : Settings = c.args.settings.now in
    let standing = c.loop.invariant.standing in
    let next = next_match settings c.loop.counter (settings.first + c.loop.counter)
    (omega (arith, c.matches-end.ensures.value)) refl in
    let plays : c.in_ok-next.field-0 ≡ Played (settings.first + c.loop.counter) =
    (rw standing at c.in_ok-next.ensures.step) ∙ sym next.step in
    record {
      standing = rw (standing, plays) at c.in_ok-next.ensures.after;
      calm = (rw standing at c.in_ok-next.ensures.fails) ∙ c.loop.invariant.calm;
      writes = λ files faults are.
          report_written settings files c.loop.counter _ _ _ faults.portions
          (c.loop.invariant.writes files faults are)
          (rw (← (next.text files)) at ((rw standing at c.in_ok-next.ensures.text) refl files are)).0;
    }

pub returns-in_err-next-clause-output : goal.returns-in_err-next-clause-output
returns-in_err-next-clause-output g c = λ files faults are.
    let settings : Settings = c.args.settings.now in
    let left : c.loop.counter < settings.matches = omega (arith, c.matches-end.ensures.value) in
    let next = next_match settings c.loop.counter (settings.first + c.loop.counter) left refl in
    rw (err_from_is_err_and c.from_residual.result c.from_residual.ensures.1).1
    (report_cut settings files c.loop.counter _ _ _ faults.portions left (c.loop.invariant.writes files faults are)
    (rw (← (next.text files)) at ((rw c.loop.invariant.standing at c.in_err-next.ensures.text) refl files are)).0)

pub returns-clause-output : goal.returns-clause-output
returns-clause-output g c = λ files faults are.
    let settings : Settings = c.args.settings.now in
    let all : c.loop.counter ≡ settings.matches = omega (arith, c.matches-end.ensures.value, c.loop.auto.counter-end) in
    totals_put settings files _ _ _ faults.portions c.finish.result
    (rw all at (c.loop.invariant.writes files faults are))
    ((rw c.loop.invariant.standing at c.finish.ensures.text) refl files are)
