use Rattle.std.proofs.Common.{◌≡◌, ◌∙◌, sym, arith, length}
use Rattle.std.proofs.lemmas.List.{take_all}
use Rattle.std.proofs.lemmas.Slice.Eq.{bytes_eq-Decides}
use Rattle.tokens.proofs.keywords.spells.Goals as goal

pub returns : goal.returns
returns c =
    let name = c.args.name.now in
    let word = c.args.word.now in
    let long : length name ≡ length word = c.if-name-word.false in
    let whole =
    sym (take_all c.loop-i.i name (omega (arith, long, c.loop-i-test.false))) ∙ c.loop-i.invariant ∙
    take_all c.loop-i.i word (omega (arith, c.loop-i-test.false)) in
    sym ((bytes_eq-Decides name word).1 whole)
