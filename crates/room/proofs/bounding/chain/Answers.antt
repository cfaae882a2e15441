use Rattle.std.proofs.Common.{◌∙◌, ap, map}
use Rattle.std.specs.Prelude.{List}
use Rattle.grammar.specs.Compiled.{main_name}
use Rattle.grammar.specs.Pools.{FunctionNames}
use Rattle.grammar.specs.Scope.{number_of_name}
use Rattle.room.proofs.BoundLaws.{chain_are}
use Rattle.room.proofs.bounding.chain.Goals as goal

pub returns-in-Ok-clause-chain : goal.returns-in-Ok-clause-chain
returns-in-Ok-clause-chain g c =
    chain_are c.args.profile _ c.new-maker.result c.parse.new.build c.in_ok-names.names c.main_number.result
    c.unwrap_or-main.result c.in-Ok.chain.items c.new-maker.ensures c.in_ok-names.ensures.file
    (c.main_number.ensures
    ∙
    ap (λ (fs : List FunctionNames). number_of_name main_name (map (λ (f : FunctionNames). f.name) fs))
    c.functions.ensures.names)
    c.unwrap_or-main.ensures c.in-Ok.ensures
