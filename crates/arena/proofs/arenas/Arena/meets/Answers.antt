use Rattle.std.proofs.Common.{◌≡◌, not, ◌&&◌, ◌==◌, sym, ap, ◌∙◌, true}
use Rattle.std.proofs.lemmas.Bool.{ne_eqb, eq-eqb}
use Rattle.arena.specs.Field.{robot_at}
use Rattle.arena.specs.Collisions.{attempted_move, collides}
use Rattle.arena.specs.Outlook.{collides_with}
use Rattle.arena.proofs.arenas.Arena.meets.Goals as goal

pub returns-then-a-b : goal.returns-then-a-b
unfolding collides_with
returns-then-a-b c = λ f s.
    let a = c.attempted_move.ensures (robot_at f c.args.a) (c.robot.ensures.stands f s) in
    let b = c.attempted_move-then-a-b.ensures (robot_at f c.args.b) (c.robot-then-a-b.ensures.stands f s) in
    c.collides.ensures ∙ ap (λ m. collides m c.attempted_move-then-a-b.result) a ∙
    ap (λ m. collides (attempted_move (robot_at f c.args.a)) m) b
    ∙
    sym
    (ap (λ t. not t && collides (attempted_move (robot_at f c.args.a)) (attempted_move (robot_at f c.args.b)))
    (ne_eqb c.args.a c.args.b c.if-a-b.true))

pub returns-else-a-b : goal.returns-else-a-b
unfolding collides_with
returns-else-a-b c = λ f s.
    let same : (c.args.a == c.args.b) ≡ true = eq-eqb c.args.a c.args.b c.if-a-b.false in
    ap not same ∙
    sym
    (ap (λ t. not t && collides (attempted_move (robot_at f c.args.a)) (attempted_move (robot_at f c.args.b)))
    same)
