-- The stretches on the ways through a piece of a program, by the laws of spans.
use Rattle.std.specs.Prelude.{◌≡◌, Option, Some, None}
use Rattle.cycles.specs.declared.spans.Span.{Span}
use Rattle.cycles.specs.Ends.{behind, one_of, repeated}
use Rattle.cycles.specs.Told.{told_end}
use Rattle.facts.specs.declared.ways.Stretch.{Stretch}
use Rattle.facts.specs.declared.ways.Stretches.{Stretches}

-- the cycles of a stretch, if there is one
abbrev pub cycles_of : Option Stretch → Option Span
cycles_of None = None
cycles_of (Some stretch) = Some stretch.cycles

-- The cycles of each kind of stretch; none of a kind that no way has.
pub record Between : Type 0 where
  pub quiet : Option Span  -- of a way on which none begins
  pub first : Option Span  -- from the beginning to a question
  pub last : Option Span  -- from a question to the end
  pub inner : Option Span  -- from one question to another

-- a way, and then another: a stretch lies on one of them, or goes from the first over to the second
abbrev pub then_between : Between → Between → Between
then_between a b = record {
  quiet = behind a.quiet b.quiet;
  first = one_of a.first (behind a.quiet b.first);
  last = one_of b.last (behind a.last b.quiet);
  inner = one_of (one_of a.inner b.inner) (behind a.last b.first);
}

-- one way or the other
abbrev pub either_between : Between → Between → Between
either_between a b = record {
  quiet = one_of a.quiet b.quiet;
  first = one_of a.first b.first;
  last = one_of a.last b.last;
  inner = one_of a.inner b.inner;
}

-- any number of ways: between two stretches there may be any number of quiet ones
abbrev pub any_between : Between → Between
any_between a =
    let quiet = Some (repeated a.quiet) in
    record {
      quiet = quiet;
      first = behind quiet a.first;
      last = behind a.last quiet;
      inner = one_of a.inner (behind (behind a.last quiet) a.first);
    }

-- the stretches have these cycles, as they are told
pub record AreTold (stretches : Stretches) (between : Between) : Type 0 where
  pub quiet : cycles_of stretches.quiet ≡ told_end between.quiet
  pub first : cycles_of stretches.first ≡ told_end between.first
  pub last : cycles_of stretches.last ≡ told_end between.last
  pub inner : cycles_of stretches.inner ≡ told_end between.inner
