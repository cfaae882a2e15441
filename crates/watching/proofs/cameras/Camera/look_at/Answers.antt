use Rattle.std.proofs.Common.{rules, ◌≡◌, ◌∙◌, ◌<◌, ◌≤◌, ℕ, Bool, true, false, length, get_or, ap, sym, arith}
use Rattle.std.specs.Prelude.{◌&&◌, not, slice_get, Some}
use Rattle.std.proofs.lemmas.Option.{slice_get-get_or}
use Rattle.grammar.proofs.Indices.{get_set_other, get_set_same}
use Rattle.watching.specs.KnownHeard.{unseen}
use Rattle.watching.proofs.Hearing.{looked, none_looked, run_hidden, run_shown}
use Rattle.watching.proofs.cameras.Camera.look_at.Goals as goal

pub returns-then-robot-ge-MOST_ROBOTS-clause-heard : goal.returns-then-robot-ge-MOST_ROBOTS-clause-heard
returns-then-robot-ge-MOST_ROBOTS-clause-heard g c = λ events f stands heard.
    let past : length c.args.self.now.seen ≤ c.args.robot = search rules in
    none_looked (g.R.Listener.heard c.args.self.now.rows) events c.args.cycle c.args.robot c.args.self.now.seen f _ past
    heard

pub returns-then-follows-clause-heard : goal.returns-then-follows-clause-heard
returns-then-follows-clause-heard g c = λ events f stands heard.
    let seens = c.args.self.now.seen in
    let robot = c.args.robot in
    let inside : robot < length seens = search rules in
    let one = get_or seens robot unseen in
    let shown : g.R.Listener.shows c.args.self.now.rows c.args.cycle robot ≡ true =
    sym (ap (λ (shows : ℕ → ℕ → Bool). shows c.args.cycle robot) c.tell_death.ensures.shown)
    ∙ sym c.follows.ensures
    ∙ c.if-follows.true in
    let at : slice_get c.tell_death.new.self.seen robot ≡ Some c.look-died.new.self =
    rw c.tell_death.ensures.rest (get_set_same seens robot c.look-died.new.self inside) in
    let P = g.R.Listener.heard c.follow.new.self.rows in
    looked P events c.args.cycle robot seens one f _ c.look-died.result (slice_get-get_or seens robot unseen inside)
    (c.look-died.ensures.died ∙ ap (λ (alive : Bool). not one.is_dead && not alive) (c.alive.ensures.stands f stands))
    (run_shown P _ c.args.cycle robot one f _ c.look-died.new.self.run c.of.result shown c.look-died.ensures.run
    (c.of.ensures.stands f stands)
    (c.follow.ensures.heard _ c.look-died.new.self at (c.tell_death.ensures.heard events heard)))

pub returns-then-follows-clause-others : goal.returns-then-follows-clause-others
returns-then-follows-clause-others g c = λ other not.
    c.follow.ensures.others other not
    ∙ rw c.tell_death.ensures.rest (get_set_other c.args.self.now.seen c.args.robot other c.look-died.new.self not)

pub returns-else-follows-clause-heard : goal.returns-else-follows-clause-heard
returns-else-follows-clause-heard g c = λ events f stands heard.
    let seens = c.args.self.now.seen in
    let robot = c.args.robot in
    let inside : robot < length seens = search rules in
    let one = get_or seens robot unseen in
    let hidden : g.R.Listener.shows c.args.self.now.rows c.args.cycle robot ≡ false =
    sym (ap (λ (shows : ℕ → ℕ → Bool). shows c.args.cycle robot) c.tell_death.ensures.shown)
    ∙ sym c.follows.ensures
    ∙ c.if-follows.false in
    let P = g.R.Listener.heard c.tell_death.new.self.rows in
    looked P events c.args.cycle robot seens one f _ c.look-died.result (slice_get-get_or seens robot unseen inside)
    (c.look-died.ensures.died ∙ ap (λ (alive : Bool). not one.is_dead && not alive) (c.alive.ensures.stands f stands))
    (run_hidden P _ c.args.cycle robot one f _ hidden (c.tell_death.ensures.heard events heard))

pub returns-else-follows-clause-others : goal.returns-else-follows-clause-others
returns-else-follows-clause-others g c = λ other not.
    rw c.tell_death.ensures.rest (get_set_other c.args.self.now.seen c.args.robot other c.look-died.new.self not)
