use Rattle.std.proofs.Common.{◌≡◌, ◌∙◌, length, sym, ap}
use Rattle.std.proofs.lemmas.List.{length-map}
use Rattle.battles.specs.Battle.{first_state}
use Rattle.battles.proofs.Beginnings.{opening_reached}
use Rattle.battles.proofs.Cycles.{state_none}
use Rattle.watching.specs.Played.{codes_of, exes_of, plainly, runners_of}
use Rattle.watching.proofs.Playing.{codes_length, ends_begun}
use Rattle.watching.proofs.games.Game.new.Goals as goal

pub returns-clause-battle : goal.returns-clause-battle
returns-clause-battle c = λ robots are.
    let codes = codes_of c.args.pilots.now in
    let s = first_state (length robots) c.args.seed c.args.number in
    let all : length c.begin.new.pilots ≡ length (exes_of codes) =
    sym (codes_length c.begin.new.pilots) ∙ ap length c.begin.ensures.codes ∙ sym (length-map codes plainly) in
    let reached =
    opening_reached (runners_of c.begin.new.pilots) (exes_of codes) c.new.result robots (length c.begin.new.pilots)
    c.args.seed c.args.number are all (rw c.from.ensures at c.new.ensures.stands)
    (rw (length-map codes plainly, codes_length c.args.pilots.now) c.begin.ensures.begun) in
    record { played = rw (state_none robots s) reached; ends = ends_begun robots s c.args.limit }
