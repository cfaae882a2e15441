use Rattle.std.proofs.Common.{◌+◌, ◌<◌, ◌≤◌, ◌≡◌, ◌∙◌, length, refl, sym, ap, arith}
use Rattle.std.proofs.lemmas.List.Sums.{prefix_len-drop_yes}
use Rattle.tokens.specs.Characters.{is_name_byte}
use Rattle.tokens.proofs.NameLemmas.{begun-more, begun-ends, begun-padded}
use Rattle.tokens.proofs.names.Name.take_bytes.Goals as goal

pub returns-then-not-is_name_byte : goal.returns-then-not-is_name_byte
returns-then-not-is_name_byte c =
    let begun = c.loop-i.invariant in
    let within : c.loop-i.i < length c.args.rest.now = omega (arith, c.loop-i-test.true, c.min-most.ensures) in
    λ _. begun-ends c.args.first c.loop-i.i c.args.rest.now c.loop-i.self-inside.bytes within begun.bytes begun.count
    (sym c.if-not-is_name_byte.ensures)

pub loop-i-preserved : goal.loop-i-preserved
loop-i-preserved c =
    let begun = c.loop-i.invariant in
    let within : c.loop-i.i < length c.args.rest.now = omega (arith, c.loop-i-test.true, c.min-most.ensures) in
    let room : c.loop-i.i + 1 < 31 = omega (arith, c.loop-i-test.true, c.min-most.ensures) in
    let more =
    prefix_len-drop_yes is_name_byte c.args.rest.now c.loop-i.i 0 within (sym c.if-not-is_name_byte.ensures) in
    record {
      bytes = begun-more c.args.first c.loop-i.i c.args.rest.now c.loop-i.self-inside.bytes within room begun.bytes;
      count = begun.count ∙ ap (λ n. c.loop-i.i + n) more ∙ omega arith;
    }

pub invariant_of-self : goal.invariant_of-self
invariant_of-self c =
    let within : c.loop-i.i ≤ length c.args.rest.now = omega (arith, c.loop-i-test.true, c.min-most.ensures) in
    let room : c.loop-i.i + 1 ≤ 31 = omega (arith, c.loop-i-test.true, c.min-most.ensures) in
    begun-padded c.args.first c.loop-i.i (c.loop-i.i + 1) c.args.rest.now c.loop-i.self-inside.bytes within refl room
    c.loop-i.invariant.bytes

pub invariant_of-self-2 : goal.invariant_of-self-2
invariant_of-self-2 c =
    let most = c.min-most.result in
    let within : c.loop-i.i ≤ length c.args.rest.now = omega (arith, c.loop-i.auto.i-end, c.min-most.ensures) in
    let all : most + 1 ≡ c.loop-i.i + 1 = omega (arith, c.loop-i-test.false, c.loop-i.auto.i-end) in
    let room : most + 1 ≤ 31 = omega (arith, c.min-most.ensures) in
    begun-padded c.args.first c.loop-i.i (most + 1) c.args.rest.now c.loop-i.self-inside.bytes within all room
    c.loop-i.invariant.bytes
