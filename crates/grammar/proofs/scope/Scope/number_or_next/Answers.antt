use Rattle.std.proofs.Common.{rules, ◌≡◌, length, false, nat_le, None}
use Rattle.grammar.specs.Scope.{function_number}
use Rattle.grammar.specs.NameLimits.{most_names}
use Rattle.grammar.proofs.ScopeLaws.{called_new}
use Rattle.grammar.proofs.scope.Scope.number_or_next.Goals as goal

pub returns-clause-learned : goal.returns-clause-learned
returns-clause-learned c =
    called_new c.args.name.now c.args.line c.args.self.now c.add_function.new.self c.requires.own unknown small
    c.add_function.ensures.names
  where
    unknown : function_number c.args.name.now c.args.self.now ≡ None
    unknown = search rules

    small : nat_le most_names (length c.args.self.now.functions) ≡ false
    small = search rules
