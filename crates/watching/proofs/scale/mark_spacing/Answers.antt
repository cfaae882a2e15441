use Rattle.std.proofs.Common.{rules, ◌≡◌, ◌+◌, ◌*◌, ◌/◌, ◌<◌, ◌≤◌, None, arith}
use Rattle.watching.proofs.Rounding.{AreSmall, fits, is_round, least_of_all, none_left, ten_times, three_more}
use Rattle.watching.proofs.scale.mark_spacing.Goals as goal

pub returns-in-Some-clause-least : goal.returns-in-Some-clause-least
returns-in-Some-clause-least c =
    let within : c.loop.counter ≤ 9 = omega (arith, c.loop-test.true) in
    least_of_all c.args.cycles c.args.most c.loop.power c.in-Some.spacing c.loop.counter within
    (c.loop.invariant.power (omega (arith, within))) c.loop.invariant.small c.in-Some.ensures.first

pub returns-in-Some-clause-round : goal.returns-in-Some-clause-round
returns-in-Some-clause-round c = λ short.
    let within : c.loop.counter ≤ 9 = omega (arith, c.loop-test.true) in
    is_round c.args.cycles c.args.most c.loop.power c.in-Some.spacing c.loop.counter c.requires short within
    (c.loop.invariant.power (omega (arith, within))) c.in-Some.ensures.first

pub loop-preserved : goal.loop-preserved
loop-preserved c =
    let within : c.loop.counter ≤ 9 = omega (arith, c.loop-test.true) in
    let is = c.loop.invariant.power (omega (arith, within)) in
    let none : c.round_spacing.result ≡ None = search rules in
    record {
      some = omega (arith, c.loop.invariant.some, c.saturating_mul-power.ensures);
      power = λ more.
          omega (
            arith,
            c.saturating_mul-power.ensures,
            is,
            fits c.loop.counter within,
            fits (c.loop.counter + 1) (omega (arith, more)),
            ten_times c.loop.counter,
          );
      small =
          three_more c.args.cycles c.args.most c.loop.power c.loop.counter c.requires (omega arith) within is
          c.loop.invariant.small (c.round_spacing.ensures.none none);
    }

pub returns-clause-least : goal.returns-clause-least
returns-clause-least c =
    let all : 3 * c.loop.counter ≡ 30 = omega (arith, c.loop-test.false, c.loop.auto) in
    let small : AreSmall c.args.cycles c.args.most 30 = rw all at c.loop.invariant.small in
    none_left c.args.cycles c.args.most c.max.result (omega (arith, c.max.ensures)) small

pub returns-clause-round : goal.returns-clause-round
returns-clause-round c = λ short.
    let all : 3 * c.loop.counter ≡ 30 = omega (arith, c.loop-test.false, c.loop.auto) in
    let small : AreSmall c.args.cycles c.args.most 30 = rw all at c.loop.invariant.small in
    let tenth : c.args.most < c.args.cycles / 1000000000 = small 27 (omega arith) in
    absurd (omega (arith, tenth, short, c.requires))
