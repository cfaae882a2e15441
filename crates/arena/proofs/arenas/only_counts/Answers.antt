use Rattle.arena.proofs.arenas.only_counts.Goals as goal

pub returns-then-all_stay : goal.returns-then-all_stay
returns-then-all_stay c =
    λ e. record { stay = c.all_stay.ensures c.if-all_stay.true; none_flies = c.none_flies.ensures e }
