mod ExplainingLemmas
mod SheetLemmas
mod RunningLemmas
mod FilmLemmas
mod FilmedRobots
mod KeptFilms
