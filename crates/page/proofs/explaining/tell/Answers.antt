use Rattle.std.proofs.Common.{◌≡◌, ◌+◌, ◌≤◌, ◌++◌, ◌∙◌, List, ℕ, ap, append_assoc, arith, length, take, take-append-drop}
use Rattle.page.proofs.SheetLemmas.{adds_both}
use Rattle.page.proofs.explaining.tell.Goals as goal

pub loop-piece-preserved : goal.loop-piece-preserved
loop-piece-preserved c =
    let (fewer, (done, parts, adds)) = c.loop-piece.invariant in
    let part = c.split_at.result.0.now in
    let behind = c.split_at.result.1.now in
    let mid = c.min.result in
    let rest = c.loop-piece.rest.now in
    let both : part ++ behind ≡ rest =
    ap (λ (l : List ℕ). l ++ behind) c.split_at.ensures.front
    ∙ ap (λ (l : List ℕ). take mid rest ++ l) c.split_at.ensures.back ∙ take-append-drop mid rest in
    let left : length behind + (c.loop-piece._piece + 1) ≤ length c.args.text.now =
    omega (arith, fewer, c.split_at.ensures.back_len, c.min.ensures, c.loop-piece-test.true) in (
      left,
      (
        done ++ part,
        append_assoc done part behind ∙ ap (λ (l : List ℕ). done ++ l) both ∙ parts,
        adds_both c.args.sheet.now c.loop-piece.sheet c.add.new.self done part adds
            (c.add.ensures (omega (arith, c.split_at.ensures.front_len, c.min.ensures))),
      ),
    )
