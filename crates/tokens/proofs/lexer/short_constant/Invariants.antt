use Rattle.std.proofs.Common.{◌≡◌, ◌+◌, ◌*◌, ◌-◌, ◌≤◌, fold, take, drop}
use Rattle.std.specs.List.{prefix_len}
use Rattle.tokens.specs.Characters.{is_digit}
use Rattle.tokens.proofs.lexer.short_constant.Given as goal

abbrev pub invariant-loop-i : goal.invariant-loop-i
invariant-loop-i l = record {
  value : l.value ≡ fold (λ value digit. 10 * value + (digit - 48)) (l.first - 48) (take l.i l.rest);
  small : l.value ≤ 999999999;
  count : prefix_len is_digit l.rest ≡ l.i + prefix_len is_digit (drop l.i l.rest);
}
