use Rattle.std.proofs.Common.{◌∙◌, ap, map}
use Rattle.std.specs.Prelude.{List}
use Rattle.grammar.specs.Compiled.{main_name}
use Rattle.grammar.specs.Pools.{FunctionNames}
use Rattle.grammar.specs.Scope.{number_of_name}
use Rattle.room.proofs.BoundLaws.{bounds_are}
use Rattle.room.proofs.bounding.bounds.Goals as goal

pub returns-clause-bounds : goal.returns-clause-bounds
returns-clause-bounds g c =
    bounds_are c.args.profile _ c.new-maker.result c.parse.new.build c.in_ok-names.names c.main_number.result
    c.unwrap_or-main.result c.need-need.result c.is_within-has_room.result c.new-maker.ensures
    c.is_within-has_room.ensures.known c.in_ok-names.ensures.file
    (c.main_number.ensures
    ∙
    ap (λ (fs : List FunctionNames). number_of_name main_name (map (λ (f : FunctionNames). f.name) fs))
    c.functions.ensures.names)
    c.unwrap_or-main.ensures c.need-need.ensures c.is_within-has_room.ensures.within c.is_within-has_room.ensures.enough
