use Rattle.std.proofs.Common.{ap, ◌∙◌, nat_lt}
use Rattle.std.specs.List.{count_by}
use Rattle.arena.specs.Field.{live_count}
use Rattle.arena.specs.Arena.{Arena, Robot}
use Rattle.arena.proofs.Represents.{living}
use Rattle.arena.proofs.arenas.Arena.live_count.Goals as goal

pub returns : goal.returns
unfolding live_count
returns c = λ f s.
    c.live_robots.ensures ∙
    ap (count_by (λ (b : Robot). nat_lt b.damage 100))
    (c.as_slice.ensures.value ∙ ap (λ (g : Arena). g.robots) c.self.view_is ∙ s.robots) ∙ living f.robots
