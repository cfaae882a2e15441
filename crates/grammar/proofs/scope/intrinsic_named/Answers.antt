use Rattle.std.proofs.Common.{◌≡◌, ℕ, List, [], ◌∷◌, ◌∙◌, Bool, true, false, Option, Some, None, refl, cond, ap₂}
use Rattle.std.specs.List.{slice_get}
use Rattle.std.specs.Option.{option_or}
use Rattle.std.specs.Prelude.{codes, if◌then◌else◌}
use Rattle.std.specs.Str.{bytes_eq}
use Rattle.grammar.specs.Intrinsics.{intrinsic_named, intrinsic_name}
use Rattle.grammar.specs.declared.resolved_names.Intrinsic.{Intrinsic}
use Rattle.grammar.specs.declared.resolved_names.Intrinsic.TheVariants.{Scan, Cannon, Drive, Damage, Speed, LocX, LocY, Sqrt, Sin, Cos}
use Rattle.grammar.proofs.scope.intrinsic_named.Goals as goal

-- the intrinsic function, if the name is its
abbrev named : List ℕ → Intrinsic → Option Intrinsic
named name i = if bytes_eq name (intrinsic_name i) then Some i else None

-- the first of two functions that has the name
or_two : (a b : Bool) (i j : Intrinsic) →
    option_or (if a then Some i else None) (if b then Some j else None) ≡ cond a (Some i) (cond b (Some j) None)
or_two true b i j = refl
or_two false true i j = refl
or_two false false i j = refl

-- names that begin with one byte, with which two functions begin
with_two : (first : ℕ) (i j : Intrinsic) →
    ((xs : List ℕ) → intrinsic_named (first ∷ xs) ≡
    cond (bytes_eq (first ∷ xs) (intrinsic_name i)) (Some i)
    (cond (bytes_eq (first ∷ xs) (intrinsic_name j)) (Some j) None)) →
    (name : List ℕ) → slice_get name 0 ≡ Some first → option_or (named name i) (named name j) ≡ intrinsic_named name
with_two first i j is [] h = absurd (cc)
with_two first i j is (x ∷ xs) h = let e : x ≡ first = cc in rw (e, is xs) (or_two _ _ i j)

with_s : (name : List ℕ) → slice_get name 0 ≡ Some 115
    →
    option_or (option_or (option_or (named name Scan) (named name Speed)) (named name Sqrt)) (named name Sin) ≡
    intrinsic_named name
unfolding intrinsic_named intrinsic_name
with_s [] h = absurd (cc)
with_s (x ∷ xs) h = let e : x ≡ 115 = cc in rw e
    (by (bytes_eq (115 ∷ xs) (codes "scan")) (bytes_eq (115 ∷ xs) (codes "speed")) (bytes_eq (115 ∷ xs) (codes "sqrt"))
    (bytes_eq (115 ∷ xs) (codes "sin")))
  where
    by : (a b c d : Bool) →
        option_or
        (option_or (option_or (if a then Some Scan else None) (if b then Some Speed else None))
        (if c then Some Sqrt else None)) (if d then Some Sin else None)
        ≡ cond a (Some Scan) (cond b (Some Speed) (cond c (Some Sqrt) (cond d (Some Sin) None)))
    by true b c d = refl
    by false true c d = refl
    by false false true d = refl
    by false false false true = refl
    by false false false false = refl

pub returns-in-99 : goal.returns-in-99
unfolding intrinsic_named intrinsic_name
returns-in-99 c =
    c.or.ensures ∙ ap₂ option_or c.if_named-in-99.ensures c.if_named-in-99-2.ensures ∙
    with_two 99 Cannon Cos (λ xs. refl)
    c.args.name.now (cc (c.in_ok-first.ensures.value, c.as_bytes.ensures.value, c.in-99.is))

pub returns-in-100 : goal.returns-in-100
unfolding intrinsic_named intrinsic_name
returns-in-100 c =
    c.or-in-100.ensures ∙ ap₂ option_or c.if_named-in-100.ensures c.if_named-in-100-2.ensures ∙
    with_two 100 Drive Damage (λ xs. refl)
    c.args.name.now (cc (c.in_ok-first.ensures.value, c.as_bytes.ensures.value, c.in-100.is))

pub returns-in-108 : goal.returns-in-108
unfolding intrinsic_named intrinsic_name
returns-in-108 c =
    c.or-in-108.ensures ∙ ap₂ option_or c.if_named-in-108.ensures c.if_named-in-108-2.ensures ∙
    with_two 108 LocX LocY (λ xs. refl)
    c.args.name.now (cc (c.in_ok-first.ensures.value, c.as_bytes.ensures.value, c.in-108.is))

pub returns-in-115 : goal.returns-in-115
returns-in-115 c = c.or-in-115-3.ensures
    ∙
    ap₂ option_or
    (c.or-in-115-2.ensures ∙
    ap₂ option_or (c.or-in-115.ensures ∙ ap₂ option_or c.if_named-in-115.ensures c.if_named-in-115-2.ensures)
    c.if_named-in-115-3.ensures) c.if_named-in-115-4.ensures
    ∙ with_s c.args.name.now first
  where
    first : slice_get c.args.name.now 0 ≡ Some 115
    first = cc (c.in_ok-first.ensures.value, c.as_bytes.ensures.value, c.in-115.is)
