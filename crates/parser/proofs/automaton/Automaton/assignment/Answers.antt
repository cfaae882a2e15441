use Rattle.std.proofs.Common.{◌+◌, [], ◌∷◌, refl, ap, arith}
use Rattle.grammar.specs.Grammar.{AName, Close, Exactly, Expression, Make, Mentioned, Part, Store}
use Rattle.parser.proofs.Passing.{passed_on}
use Rattle.parser.proofs.AssignmentForms.{sign_fits, sign_goes_on, sign_of, store_chooses, store_is_nested}
use Rattle.parser.proofs.AutomatonLaws.{awaits, comes_to, has_room, nests}
use Rattle.parser.proofs.ExpressionSteps.{assigned, store_path}
use Rattle.parser.proofs.NameLaws.{named_found}
use Rattle.parser.proofs.PathLaws.{falls, token_falls, token_past}
use Rattle.parser.proofs.Productions.{name_too_deep}
use Rattle.parser.proofs.automaton.Automaton.assignment.Goals as goal

pub returns-in_err-check_nesting-clause-moves : goal.returns-in_err-check_nesting-clause-moves
returns-in_err-check_nesting-clause-moves g c =
    let a = assigned c.args.op c.requires.starts in
    let s = sign_of _ c.args.op a in
    rw (passed_on c.from_residual.result c.from_residual.ensures.1) (λ o h.
    nests h.path h.depth c.in_err-check_nesting.ensures.refused (λ depth.
    name_too_deep c.args.self.now.tokens.position _ h.path.ready.near depth Expression Mentioned a.named.name
    (Exactly s.m ∷ Part Expression ∷ Make (Store c.args.op) ∷ Close ∷ []) (store_chooses _ c.args.op a s)
    (store_is_nested _ c.args.op a s) (named_found _ a.named)))

pub returns-in_err-var-clause-moves : goal.returns-in_err-var-clause-moves
returns-in_err-var-clause-moves g c =
    let a = assigned c.args.op c.requires.starts in
    let s = sign_of _ c.args.op a in
    rw (passed_on c.from_residual-in_err-var.result c.from_residual-in_err-var.ensures.1) (λ o h.
    falls (AName Mentioned ∷ []) _ c.in_err-var.field-0.0
    (store_path c.args.op a s (rw h.depth c.in_ok-check_nesting.ensures.ok) h.path) h.told c.in_err-var.ensures.kept
    c.in_err-var.ensures.matches)

pub advance-requires : goal.advance-requires
advance-requires g c =
    record {
      more = sign_goes_on _ _ c.args.op c.in_ok-var.var (assigned c.args.op c.requires.starts)
          c.in_ok-var.ensures.matches;
      ready = c.in_ok-var.ensures.kept.ready;
    }

pub returns-in_err-advance-clause-moves : goal.returns-in_err-advance-clause-moves
returns-in_err-advance-clause-moves g c =
    let a = assigned c.args.op c.requires.starts in
    let s = sign_of _ c.args.op a in
    rw (passed_on c.from_residual-in_err-advance.result c.from_residual-in_err-advance.ensures.1) (λ o h.
    token_falls (Exactly s.m) (sign_fits _ _ c.args.op c.in_ok-var.var a c.in_ok-var.ensures.matches s) h.told
    c.in_err-advance.ensures.kept c.in_err-advance.ensures.consumes
    (c.in_ok-var.ensures.passes _ _ _ _
    (store_path c.args.op a s (rw h.depth c.in_ok-check_nesting.ensures.ok) h.path)))

pub push-requires : goal.push-requires
push-requires g c =
    let h = c.requires.at.is in has_room _ 1 (omega arith) h.fits.takes (rw h.depth c.in_ok-check_nesting.ensures.ok)

pub returns-clause-moves : goal.returns-clause-moves
returns-clause-moves g c =
    let a = assigned c.args.op c.requires.starts in
    let s = sign_of _ c.args.op a in
    λ o h.
    rw c.push.ensures (comes_to h
    (token_past (Exactly s.m) (sign_fits _ _ c.args.op c.in_ok-var.var a c.in_ok-var.ensures.matches s)
    c.in_ok-advance.ensures.consumes c.in_ok-advance.ensures.kept (c.in_ok-var.ensures.passes _ _ _ _
    (store_path c.args.op a s (rw h.depth c.in_ok-check_nesting.ensures.ok) h.path))) h.told
    (ap (λ n. n + 1) h.depth) (omega (arith, c.in_ok-check_nesting.ensures.ok))
    (awaits (refl, h.fits.takes) (refl, h.fits.trees)))
