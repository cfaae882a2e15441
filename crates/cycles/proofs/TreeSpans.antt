-- The spans of each kind of tree that the code goes through.
use Rattle.std.proofs.Common.{◌≡◌, ℕ, ◌∙◌, Global, Vec, ap, map}
use Rattle.grammar.specs.declared.resolved_names.Callee.{Callee}
use Rattle.grammar.specs.Profile.{Profile}
use Rattle.grammar.specs.Tree.{Body}
use Rattle.trees.specs.Trees.{arguments, body_tree, expr_tree, statement_tree}
use Rattle.trees.specs.declared.tree.Expr.{Expr}
use Rattle.trees.specs.declared.tree.Expr.TheVariants as expr
use Rattle.trees.specs.declared.tree.Statement.{Statement}
use Rattle.trees.specs.declared.tree.Statement.TheVariants as statement
use Rattle.trees.proofs.TreeLaws.{tree-Call, tree-IfElseStatement, tree-IfStatement, tree-Return}
use Rattle.cycles.specs.declared.counted.Counted.{Counted}
use Rattle.cycles.specs.declared.spans.Span.{Span}
use Rattle.cycles.specs.Spans.{◌⊕◌}
use Rattle.cycles.specs.Expressions.{arguments_span, callee_span, cycle, span_of}
use Rattle.cycles.specs.Statements.{choice_ends, ends_of, if_ends, return_ends, taken}

module _ (u : Counted) (p : Profile) (runs : ℕ → Span) where
  pub span-Call : (e : Expr) (f : Callee) (es : Vec Expr Global) → e ≡ expr.Call f es →
      span_of u p runs (expr_tree e) ≡
      cycle u ⊕ (arguments_span u p runs (arguments (map expr_tree es.items)) ⊕ callee_span u p runs f)
  span-Call e f es is =
      ap (λ (e : Expr). span_of u p runs (expr_tree e)) is ∙ ap (span_of u p runs) (tree-Call f es)

  pub ends-IfStatement : (s : Statement) (c : Expr) (t : Vec Statement Global) (rest : Body) →
      s ≡ statement.IfStatement c t →
      ends_of u p runs (statement_tree s rest) ≡
      if_ends (taken u p runs (expr_tree c)) (ends_of u p runs (body_tree t.items)) (ends_of u p runs rest)
  ends-IfStatement s c t rest is =
      ap (λ (s : Statement). ends_of u p runs (statement_tree s rest)) is ∙
      ap (λ (f : Body → Body). ends_of u p runs (f rest)) (tree-IfStatement c t)

  pub ends-IfElseStatement : (s : Statement) (c : Expr) (t v : Vec Statement Global) (rest : Body) →
      s ≡ statement.IfElseStatement c t v →
      ends_of u p runs (statement_tree s rest) ≡
      choice_ends u (taken u p runs (expr_tree c)) (ends_of u p runs (body_tree t.items))
      (ends_of u p runs (body_tree v.items)) (ends_of u p runs rest)
  ends-IfElseStatement s c t v rest is =
      ap (λ (s : Statement). ends_of u p runs (statement_tree s rest)) is ∙
      ap (λ (f : Body → Body). ends_of u p runs (f rest)) (tree-IfElseStatement c t v)

  pub ends-Return : (s : Statement) (e : Expr) (rest : Body) → s ≡ statement.Return e →
      ends_of u p runs (statement_tree s rest) ≡ return_ends (taken u p runs (expr_tree e))
  ends-Return s e rest is =
      ap (λ (s : Statement). ends_of u p runs (statement_tree s rest)) is ∙
      ap (λ (f : Body → Body). ends_of u p runs (f rest)) (tree-Return e)
