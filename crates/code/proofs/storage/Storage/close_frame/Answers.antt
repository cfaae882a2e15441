use Rattle.std.proofs.Common.{◌≡◌, ◌<◌, ◌≤◌, ap, sym, ◌∙◌, arith, length, take, w32, to_z, of_z}
use Rattle.std.proofs.lemmas.Int.{to_z-of_z}
use Rattle.code.specs.declared.frame.Frame.{Frame}
use Rattle.code.specs.Machine.{frame_of}
use Rattle.code.specs.Registers.{Storage}
use Rattle.code.proofs.Closing.{closed_at}
use Rattle.code.proofs.Frames.{count_is}
use Rattle.code.proofs.storage.Storage.close_frame.Goals as goal

pub returns : goal.returns
returns c =
    let base = c.last_frame-base.result.base in
    let bottom : base ≡ (frame_of c.args.self.now.frames).base = ap (λ (f : Frame). f.base) c.last_frame-base.ensures in
    let room : c.self.inside.opened ≤ length c.self.inside.frames = c.self.invariant.2 in
    let count : length c.args.self.now.frames ≡ c.self.inside.opened =
    ap (λ (c : Storage). length c.frames) (sym c.self.view_is) ∙
    count_is c.self.inside.opened c.self.inside.frames room in
    let some : 0 < c.self.inside.opened = omega (arith, count, c.requires.opened) in
    let inside : base < length c.self.inside.words = omega (arith, bottom, c.requires.room, c.self.invariant.0) in
    let size : length (take c.args.registers.depth c.args.self.now.words) ≡
    length (take c.args.registers.depth c.self.inside.words) =
    ap (λ (s : Storage). length (take c.args.registers.depth s.words)) (sym c.self.view_is) in
    let above : base ≤ length (take c.args.registers.depth c.self.inside.words) =
    omega (arith, bottom, size, c.requires.there) in
    closed_at c.args.self.now c.new.result c.self.inside.words c.self.inside.opened c.self.inside.frames
    c.self.inside.externals.items
    base c.args.registers.depth c.args.at c.args.home c.args.word (to_z w32 (of_z w32 c.args.word)) (sym c.self.view_is)
    c.new.ensures bottom inside above some room
    (to_z-of_z w32 c.args.word c.ranges.word)
