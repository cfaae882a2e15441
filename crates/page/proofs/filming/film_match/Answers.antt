use Rattle.page.proofs.filming.film_match.Goals as goal

pub returns-clause-shows : goal.returns-clause-shows
returns-clause-shows c = λ files are. c.ending_of-ending.ensures.shows _ (c.play_robots-end.ensures.battle files are)
