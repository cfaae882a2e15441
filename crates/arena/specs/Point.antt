-- A point of the field: east and north, in tenths of a metre.
pub use Rattle.arena.specs.declared.points.Point.TheInside.{Inside as Point}
