-- Which robots fight: those of the files in their order. A single file is two robots.
use Rattle.std.specs.Prelude.{List, [], ◌∷◌, map}
use Rattle.grammar.specs.Profile.{Profile}
use Rattle.grammar.specs.Tree.{File}
use Rattle.code.specs.Meaning.{want}
use Rattle.battles.specs.Battle.{Behaviour}

abbrev pub paired : {A : Type 0} → List A → List A
paired (x ∷ []) = x ∷ x ∷ []
paired items = items

-- each robot wants what the trees of its file want
abbrev pub robots_of : Profile → List File → List Behaviour
robots_of p files = map (want p) (paired files)
