use Rattle.std.proofs.Common.{◌≡◌, ◌<◌, ◌≤◌, ◌∙◌, arith, length, take_all}
use Rattle.page.proofs.SheetLemmas.{next_put}
use Rattle.page.proofs.sheets.Sheet.put_frame.Goals as goal

pub returns-clause-whole : goal.returns-clause-whole
returns-clause-whole c = λ few.
    let s = c.args.self.now in
    let inside : s.used < length s.frames = omega (arith, c.well_formed) in
    let all : length c.args.bytes.now ≤ c.min-size.result = omega (arith, c.min-size.ensures) in
    next_put s.frames s.used c.hold.new.self c.args.bytes.now inside
    (c.hold.ensures ∙ take_all c.min-size.result c.args.bytes.now all)
