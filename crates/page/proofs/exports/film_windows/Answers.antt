use Rattle.page.proofs.exports.film_windows.Goals as goal

pub returns : goal.returns
returns c = rw c.stretch.ensures at c.tell.ensures
