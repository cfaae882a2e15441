use Rattle.std.proofs.Common.{◌≡◌, ◌<◌, ◌≤◌, ◌+◌, min, ap, sym, ◌∙◌, arith, length, take, length-take}
use Rattle.code.specs.declared.frame.Frame.{Frame}
use Rattle.code.specs.Machine.{frame_of}
use Rattle.code.specs.Registers.{Registers, Storage}
use Rattle.code.proofs.Closing.{begun_frame}
use Rattle.code.proofs.Frames.{count_is}
use Rattle.code.proofs.storage.Storage.make_variables.Goals as goal

pub returns : goal.returns
returns c =
    let f = c.last_frame-frame.result in
    let top : f ≡ frame_of c.args.self.now.frames = c.last_frame-frame.ensures in
    let bottom : f.base ≡ (frame_of c.args.self.now.frames).base = ap (λ (f : Frame). f.base) top in
    let room : c.self.inside.opened ≤ length c.self.inside.frames = c.self.invariant.2 in
    let count : length c.args.self.now.frames ≡ c.self.inside.opened =
    ap (λ (c : Storage). length c.frames) (sym c.self.view_is) ∙
    count_is c.self.inside.opened c.self.inside.frames room in
    let some : 0 < c.self.inside.opened = omega (arith, count, c.requires.opened) in
    let deep : c.registers.inside.depth ≡ c.args.registers.depth =
    ap (λ (p : Registers). p.depth) c.registers.view_is in
    let most : c.args.registers.depth ≤ length c.self.inside.words =
    omega (arith, deep, c.registers.invariant.1, c.self.invariant.0) in
    let size : length (take c.args.registers.depth c.args.self.now.words) ≡
    length (take c.args.registers.depth c.self.inside.words) =
    ap (λ (s : Storage). length (take c.args.registers.depth s.words)) (sym c.self.view_is) in
    let above : f.base ≤ c.args.registers.depth =
    omega (arith, bottom, size, length-take c.args.registers.depth c.self.inside.words, c.requires.there) in
    let kept : c.min-kept.result ≡ min c.args.registers.depth (f.base + c.args.parameters) =
    c.min-kept.ensures ∙ ap (λ n. min n (f.base + c.args.parameters)) deep in
    begun_frame c.args.self.now c.new.result c.self.inside.words c.zero_words.new.words c.self.inside.opened
    c.self.inside.frames
    f c.registers.inside.at c.args.registers.at c.self.inside.externals.items c.args.registers.depth c.args.at
    c.min-kept.result
    c.max-depth.result c.args.parameters c.args.variables
    (sym c.self.view_is) c.new.ensures top most above some room kept c.max-depth.ensures
    (ap (λ (p : Registers). p.at) c.registers.view_is) c.zero_words.ensures.zeros
