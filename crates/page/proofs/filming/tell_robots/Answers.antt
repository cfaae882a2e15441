use Rattle.std.proofs.Common.{List, Err, Some, inl, map, refl}
use Rattle.series.specs.Compiling.{SourceFile}
use Rattle.series.specs.CompiledFiles.{CompilesAll}
use Rattle.series.specs.Pieces.{Taken}
use Rattle.series.specs.declared.run_results.Status.{Status}
use Rattle.series.specs.declared.run_results.Status.TheVariants as status
use Rattle.settings.specs.Settings.{Settings}
use Rattle.settings.specs.declared.settings.Mode.TheVariants.{Matches}
use Rattle.page.specs.Films.{stretch_in}
use Rattle.page.specs.Orders.{setup_by}
use Rattle.page.specs.Robots.{name_bytes, source_of}
use Rattle.page.specs.Running.{blank, taken_by}
use Rattle.page.proofs.FilmLemmas.{codes_good, has_compiled, has_shown}
use Rattle.page.proofs.RunningLemmas.{by_robots, only_full}
use Rattle.page.proofs.filming.tell_robots.Goals.{After-compile_all}
use Rattle.page.proofs.filming.tell_robots.Goals as goal

-- the robots were compiled on blank sheets
compiles : (c : After-compile_all)
    → CompilesAll (setup_by Matches c.args.order.now (map name_bytes c.args.robots.now))
    (map source_of c.args.robots.now) c.compile_all.result (Some c.compile_all.new.keeper.programs.items) blank
    (taken_by c.compile_all.new.out c.compile_all.new.err)
compiles c =
    by_robots
    (λ (setup : Settings) (sources : List SourceFile) (before : Taken).
    CompilesAll setup sources c.compile_all.result (Some c.compile_all.new.keeper.programs.items) before
    (taken_by c.compile_all.new.out c.compile_all.new.err)) Matches c.args.order.now c.args.robots.now
    c.in-Some.settings _ c.clear.new.self c.clear-2.new.self c.in-Some.ensures.value
    (rw c.as_mut_slice.ensures.value c.feeds_of-feeds.ensures.bytes)
    c.clear.ensures.text c.clear-2.ensures.text c.compile_all.ensures.over.output

pub returns-else-is_full : goal.returns-else-is_full
returns-else-is_full c =
    let order = c.args.order.now in
    let robots = c.args.robots.now in
    let made =
    rw (c.in-Ok-Done.is, c.in-Ok-Done.field-0-is) at (compiles (goal.at.returns-else-is_full c).After-compile_all) in
    has_shown order robots (stretch_in c.args.subject.now) c.tell_subject-ending.result c.tell_subject-ending.new.sheet
    c.compile_all.new.err
    (has_compiled order robots status.Done c.compile_all.new.out c.compile_all.new.err (c.in-Some.ensures.refused refl)
    made.output)
    c.tell_subject-ending.ensures.may_end c.tell_subject-ending.ensures.full (c.is_full.ensures.room c.if-is_full.false)
    (λ files good.
    let are = codes_good c.resolved_files.ensures order robots _ files made.programs good in
    rw c.in-Some.ensures.value at (c.tell_subject-ending.ensures.shows files (rw c.in-Some.ensures.value are)))

pub returns-then-is_full : goal.returns-then-is_full
returns-then-is_full c = (c.in-Some.ensures.refused refl, inl (c.is_full.ensures.full c.if-is_full.true))

pub returns-in-Ok-Faulty : goal.returns-in-Ok-Faulty
returns-in-Ok-Faulty c =
    let made =
    rw (c.in-Ok-Faulty.is, c.in-Ok-Faulty.field-0-is) at (compiles (goal.at.returns-in-Ok-Faulty c).After-compile_all)
    in
    has_compiled c.args.order.now c.args.robots.now status.Faulty c.compile_all.new.out c.compile_all.new.err
    (c.in-Some.ensures.refused refl) made.output

pub returns-in-Err : goal.returns-in-Err
returns-in-Err c = (
  c.in-Some.ensures.refused refl,
  (only_full {A = Status} c.as_mut_slice.result.now c.compile_all.new.feeds (Err _) _ _ c.compile_all.new.out
      c.compile_all.new.err
      c.in-Err.ensures.over.failures).1,
)
