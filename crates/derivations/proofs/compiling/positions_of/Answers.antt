use Rattle.std.proofs.Common.{◌≡◌, List, ap, arith, length, refl}
use Rattle.code.specs.declared.instr.Instr.{Instr}
use Rattle.derivations.proofs.CompiledRoom.{counted, found}
use Rattle.derivations.proofs.compiling.positions_of.Goals as goal

pub returns-in_err-positions-clause-found : goal.returns-in_err-positions-clause-found
returns-in_err-positions-clause-found c =
    λ from none. c.in_err-positions.ensures.some
    (found c.args.program.now c.args.source.now c.instructions-count.result.now c.profile.result from
    c.instructions-count.ensures.code c.instructions-count.ensures.most c.profile.ensures.profile) refl

pub returns-else-len-count-clause-found : goal.returns-else-len-count-clause-found
returns-else-len-count-clause-found c =
    λ from none.
    let many : length c.in_ok-positions.positions ≡ length c.args.program.now.instructions =
    counted c.args.program.now c.args.source.now c.profile.result c.in_ok-positions.positions from
    c.profile.ensures.profile c.in_ok-positions.ensures.positions in
    let all : length c.instructions-count.result.now ≡ length c.args.program.now.instructions =
    ap (λ (l : List Instr). length l) c.instructions-count.ensures.code in
    omega (arith, many, all, c.len.ensures, c.if-len-count.false)
