use Rattle.std.proofs.Common.{◌≡◌, ◌∙◌, ◌<◌, Some, None, codes, map, refl, arith}
use Rattle.std.specs.Option.{option_map}
use Rattle.clap.specs.Words.{all_of, first_of, found_of, rows_of}
use Rattle.clap.proofs.WalkLemmas.{first_value-rows, raw_values-rows}
use Rattle.arguments.proofs.command_words.given.Goals as goal

pub unreachable-requires : goal.unreachable-requires
unreachable-requires c =
    let f = found_of c.args.matches.now in
    let none : None ≡ all_of (codes "FILE") (rows_of f) = c.in_default.ensures ∙ raw_values-rows f (codes "FILE") in
    let some : 0 < 0 = rw (← none) at c.requires in
    omega arith

pub returns : goal.returns
returns c =
    let f = found_of c.args.matches.now in
    let m : option_map (λ text. text.now) c.get_str.result ≡ first_of (codes "m") (rows_of f) =
    c.get_str.ensures ∙ first_value-rows f (codes "m") in
    let l : option_map (λ text. text.now) c.get_str-2.result ≡ first_of (codes "l") (rows_of f) =
    c.get_str-2.ensures ∙ first_value-rows f (codes "l") in
    let s : option_map (λ text. text.now) c.get_str-3.result ≡ first_of (codes "s") (rows_of f) =
    c.get_str-3.ensures ∙ first_value-rows f (codes "s") in
    let p : option_map (λ text. text.now) c.get_str-4.result ≡ first_of (codes "p") (rows_of f) =
    c.get_str-4.ensures ∙ first_value-rows f (codes "p") in
    let n : option_map (λ text. text.now) c.get_str-5.result ≡ first_of (codes "f") (rows_of f) =
    c.get_str-5.ensures ∙ first_value-rows f (codes "f") in
    let files : Some (map (λ w. w.now) c.in-Some.files.now) ≡ all_of (codes "FILE") (rows_of f) =
    c.in-Some.ensures ∙ raw_values-rows f (codes "FILE") in
    rw (c.is_listing.ensures, m, l, s, p, n, ← files) refl
