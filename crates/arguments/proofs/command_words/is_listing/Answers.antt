use Rattle.std.proofs.Common.{codes, refl}
use Rattle.clap.specs.Words.{found_of}
use Rattle.clap.proofs.WalkLemmas.{first_value-rows}
use Rattle.arguments.proofs.command_words.is_listing.Goals as goal

pub returns-in-Some : goal.returns-in-Some
returns-in-Some c = rw (← first_value-rows (found_of c.args.matches.now) (codes "c"), ← c.in-Some.ensures) c.eq.ensures

pub returns-in-None : goal.returns-in-None
returns-in-None c = rw (← first_value-rows (found_of c.args.matches.now) (codes "c"), ← c.in-None.ensures) refl
