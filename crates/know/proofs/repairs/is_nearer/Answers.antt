use Rattle.std.proofs.Common.{◌≡◌, rules}
use Rattle.std.specs.Prelude.{Err}
use Rattle.grammar.specs.Compiled.{compiled}
use Rattle.know.specs.Repairs.{a_line_down, broken}
use Rattle.know.proofs.repairs.is_nearer.Goals as goal

pub returns-then-is_moved : goal.returns-then-is_moved
returns-then-is_moved c = λ stands is. record {
  next = c.args.next.now;
  left = c.args.faulty.now.left;
  before = c.in_ok-stands_before.ensures stands;
  among = record { is = is; moves = search rules };
  fits = search rules;
}
