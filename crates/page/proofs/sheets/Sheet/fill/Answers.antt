use Rattle.std.proofs.Common.{◌≡◌, ◌<◌, ◌+◌, ◌-◌, arith, length}
use Rattle.page.proofs.SheetLemmas.{last_filled}
use Rattle.page.proofs.sheets.Sheet.fill.Goals as goal

pub returns-clause-filled : goal.returns-clause-filled
returns-clause-filled c = λ yes.
    let s = c.args.self.now in
    let last : s.used ≡ s.used - 1 + 1 = omega arith in
    let inside : s.used - 1 < length s.frames = omega (arith, c.well_formed) in
    last_filled s.frames s.used (s.used - 1) c.add.new.self _ c.args.bytes.now last inside (c.add.ensures.added yes)
