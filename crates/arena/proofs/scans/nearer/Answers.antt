use Rattle.std.proofs.Common.{◌≡◌, true, false, sym, ◌∙◌, ap, refl, nat_lt}
use Rattle.arena.specs.Field.{is_alive}
use Rattle.arena.specs.Arena.{Robot, robot_of}
use Rattle.arena.proofs.Sight.{dead_unseen, beside_unseen, seen_so_far, seen_leads}
use Rattle.arena.proofs.scans.nearer.Goals as goal

off : true ≡ false → ⊥
off e = cc

pub returns-then-not-is_alive-clause-value : goal.returns-then-not-is_alive-clause-value
unfolding is_alive robot_of
returns-then-not-is_alive-clause-value c = λ a b at is.
    let arc = c.args.arc.now in
    let dead : is_alive b ≡ false =
    sym (c.is_alive.ensures ∙ ap (λ (x : Robot). nat_lt x.damage 100) is) ∙ c.if-not-is_alive.true in
    rw (dead_unseen a arc.degree arc.resolution b dead) refl

pub returns-then-surely_excludes-clause-value : goal.returns-then-surely_excludes-clause-value
returns-then-surely_excludes-clause-value c = λ a b at is.
    let arc = c.args.arc.now in
    let way = c.way_to-way.ensures in
    let beside =
    rw (way.east a b at is, way.north a b at is) at (c.surely_excludes.ensures c.if-surely_excludes.true) in
    rw (beside_unseen a arc.degree arc.resolution b beside) refl

pub returns-clause-value : goal.returns-clause-value
unfolding is_alive robot_of
returns-clause-value c = λ a b at is.
    let arc = c.args.arc.now in
    let way = c.way_to-way.ensures in
    let live : is_alive b ≡ true =
    sym (c.is_alive.ensures ∙ ap (λ (x : Robot). nat_lt x.damage 100) is) ∙ c.if-not-is_alive.false in
    let shorter = rw (way.east a b at is, way.north a b at is) at c.shorter.ensures.value in
    shorter ∙ sym (seen_so_far a arc.degree arc.resolution b c.args.so_far live)

pub returns-then-not-is_alive-clause-seen : goal.returns-then-not-is_alive-clause-seen
unfolding is_alive robot_of
returns-then-not-is_alive-clause-seen c = λ a b at is seen.
    let arc = c.args.arc.now in
    let dead : is_alive b ≡ false =
    sym (c.is_alive.ensures ∙ ap (λ (x : Robot). nat_lt x.damage 100) is) ∙ c.if-not-is_alive.true in
    absurd (off (sym seen ∙ dead_unseen a arc.degree arc.resolution b dead))

pub returns-then-surely_excludes-clause-seen : goal.returns-then-surely_excludes-clause-seen
returns-then-surely_excludes-clause-seen c = λ a b at is seen.
    let arc = c.args.arc.now in
    let way = c.way_to-way.ensures in
    let beside =
    rw (way.east a b at is, way.north a b at is) at (c.surely_excludes.ensures c.if-surely_excludes.true) in
    absurd (off (sym seen ∙ beside_unseen a arc.degree arc.resolution b beside))

pub returns-clause-seen : goal.returns-clause-seen
unfolding is_alive robot_of
returns-clause-seen c = λ a b at is seen.
    let arc = c.args.arc.now in
    let way = c.way_to-way.ensures in
    let leads =
    rw (sym (way.east a b at is), sym (way.north a b at is)) at (seen_leads a b arc.degree arc.resolution seen) in
    c.shorter.ensures.seen leads
