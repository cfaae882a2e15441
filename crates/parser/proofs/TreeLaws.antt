-- The trees that were made for the frames of an expression.
use Rattle.std.proofs.Common.{◌≡◌, ℕ, zero, suc, ◌≤◌, List, [], ◌∷◌, refl, ap, ◌∙◌, subst}
use Rattle.std.specs.Prelude.{None}
use Rattle.tokens.specs.declared.located_tokens.Token.{Token}
use Rattle.grammar.specs.declared.actions.Action.{Action}
use Rattle.grammar.specs.declared.resolved_names.Callee.{Callee}
use Rattle.grammar.specs.declared.resolved_names.Var.{Var}
use Rattle.grammar.specs.Derivation.{PartialTree, AnExpr, AVariable, ACall, ABody}
use Rattle.grammar.specs.Grammar.{Item}
use Rattle.grammar.specs.Laws.Climbing.{operator_from}
use Rattle.grammar.specs.Tree.{Args, Expr}
use Rattle.parser.specs.declared.frames.Frame.{Frame}
use Rattle.parser.specs.Automata.{Ends, IsDone, OnCall, OnExpr, OnVariable, Trees}
use Rattle.parser.specs.Paths.{Origin, Path}
use Rattle.parser.specs.ScopedCursors.{ScopedCursor}

-- what an expression's frame waited for is done
pub done_at : {frames : List Frame} {next : Token} {values : List PartialTree} (n : ℕ)
    (h : IsDone frames next values) → h.level ≡ suc n →
    (operator_from (suc n) next ≡ None) × OnExpr (Trees frames) values
done_at {frames} {next} {values} n h is = subst (λ (k : ℕ). Ends k frames next values) is h.ends

pub ends_at : (frames : List Frame) (next : Token) (values : List PartialTree) (floor : ℕ) → 1 ≤ floor →
    operator_from floor next ≡ None → OnExpr (Trees frames) values → Ends floor frames next values
ends_at frames next values zero least none trees = tt
ends_at frames next values (suc n) least none trees = (none, trees)

-- the same path, by what its trees are
pub valued : {o : Origin} {stack : List Item} {values known : List PartialTree} {acts : List Action}
    {at : ScopedCursor} → values ≡ known → Path o stack values acts at → Path o stack known acts at
valued {o} {stack} {values} {known} {acts} {at} is h =
    subst (λ (vs : List PartialTree). Path o stack vs acts at) is h

-- The trees made last.

pub record HasExpr (holds : List PartialTree → Type 0) (values : List PartialTree) : Type 0 where
  pub e : Expr
  pub rest : List PartialTree
  pub is : values ≡ AnExpr e ∷ rest
  pub below : holds rest

pub has_expr : (holds : List PartialTree → Type 0) (values : List PartialTree) → OnExpr holds values →
    HasExpr holds values
has_expr holds (AnExpr e ∷ values) h = record { e = e; rest = values; is = refl; below = h }
has_expr holds (AVariable v ∷ values) h = absurd h
has_expr holds (ACall c args ∷ values) h = absurd h
has_expr holds (ABody b ∷ values) h = absurd h
has_expr holds [] h = absurd h

pub record HasVariable (var : Var) (holds : List PartialTree → Type 0) (values : List PartialTree) : Type 0 where
  pub rest : List PartialTree
  pub is : values ≡ AVariable var ∷ rest
  pub below : holds rest

pub has_variable : (var : Var) (holds : List PartialTree → Type 0) (values : List PartialTree) →
    OnVariable var holds values → HasVariable var holds values
has_variable var holds (AVariable v ∷ values) h =
    record { rest = values; is = ap (λ (w : Var). AVariable w ∷ values) h.0; below = h.1 }
has_variable var holds (AnExpr e ∷ values) h = absurd h
has_variable var holds (ACall c args ∷ values) h = absurd h
has_variable var holds (ABody b ∷ values) h = absurd h
has_variable var holds [] h = absurd h

pub record HasCall (callee : Callee) (holds : List PartialTree → Type 0) (values : List PartialTree) : Type 0 where
  pub args : Args
  pub rest : List PartialTree
  pub is : values ≡ ACall callee args ∷ rest
  pub below : holds rest

pub has_call : (callee : Callee) (holds : List PartialTree → Type 0) (values : List PartialTree) →
    OnCall callee holds values → HasCall callee holds values
has_call callee holds (ACall c args ∷ values) h =
    record { args = args; rest = values; is = ap (λ (d : Callee). ACall d args ∷ values) h.0; below = h.1 }
has_call callee holds (AnExpr e ∷ values) h = absurd h
has_call callee holds (AVariable v ∷ values) h = absurd h
has_call callee holds (ABody b ∷ values) h = absurd h
has_call callee holds [] h = absurd h

-- an expression, and what is below it
pub on_both : {e : Expr} {rest values known : List PartialTree} → values ≡ AnExpr e ∷ rest → rest ≡ known →
    values ≡ AnExpr e ∷ known
on_both {e} is same = is ∙ ap (λ (vs : List PartialTree). AnExpr e ∷ vs) same
