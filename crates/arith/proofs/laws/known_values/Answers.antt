-- The definitions compute to these values.
use Rattle.std.proofs.Common.{rules}
use Rattle.std.specs.Int.{int_wrap}
use Rattle.arith.specs.Op.{value_of}
use Rattle.arith.specs.Degree.{degree_of}
use Rattle.arith.specs.Table.{sines, tangents}
use Rattle.arith.specs.Circle.{sine_at, cosine_at, sine_of}
use Rattle.arith.specs.Tangent.{tangent_at, tangent_of}
use Rattle.arith.specs.Arctangent.{bound_of, quarter, degrees_reached, arctangent_of}
use Rattle.arith.specs.Root.{root_by_quarters, root_of}
use Rattle.arith.specs.Bearing.{projection_of, first_greatest, projections, bearing_of}
use Rattle.arith.proofs.laws.known_values.Goals as goal

pub returns-clause-each : goal.returns-clause-each
unfolding value_of int_wrap
returns-clause-each c = search rules

pub returns-clause-operators : goal.returns-clause-operators
unfolding value_of int_wrap
returns-clause-operators c = search rules

pub returns-clause-degrees : goal.returns-clause-degrees
unfolding degree_of sines tangents sine_at sine_of tangent_at tangent_of bound_of quarter degrees_reached arctangent_of
returns-clause-degrees c = search rules

pub returns-clause-roots : goal.returns-clause-roots
unfolding root_by_quarters root_of
returns-clause-roots c = search rules

pub returns-clause-bearings : goal.returns-clause-bearings
unfolding sines sine_at cosine_at projection_of first_greatest projections bearing_of
returns-clause-bearings c = search rules
