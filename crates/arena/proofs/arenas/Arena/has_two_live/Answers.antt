use Rattle.std.proofs.Common.{ap, ◌∙◌, List, nat_lt}
use Rattle.std.specs.List.{count_by}
use Rattle.arena.specs.Field.{live_count}
use Rattle.arena.specs.Arena.{Arena, Robot}
use Rattle.arena.proofs.Represents.{living}
use Rattle.arena.proofs.arenas.Arena.has_two_live.Goals as goal

pub returns : goal.returns
unfolding live_count
returns c = λ f s.
    let robots = c.as_slice.ensures.value ∙ ap (λ (g : Arena). g.robots) c.self.view_is ∙ s.robots in
    c.two_are_live.ensures ∙
    ap (λ (bs : List Robot). nat_lt 1 (count_by (λ (b : Robot). nat_lt b.damage 100) bs)) robots ∙
    ap (nat_lt 1) (living f.robots)
