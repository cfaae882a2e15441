-- The needs of each kind of expression and statement, by those of its parts, as they are counted.
use Rattle.std.proofs.Common.{◌≡◌, ◌<◌, ◌+◌, ℕ, List, ◌∷◌, Bool, map, drop, length, get_or, Vec, Box, Global, sym, ap, ◌∙◌, refl}
use Rattle.std.specs.Prelude.{Option}
use Rattle.std.proofs.lemmas.List.{drop_more}
use Rattle.arith.specs.declared.operators.Op.{Op}
use Rattle.grammar.specs.declared.resolved_names.Callee.{Callee}
use Rattle.grammar.specs.declared.resolved_names.Var.{Var}
use Rattle.grammar.specs.declared.operators.StoreOp.{StoreOp}
use Rattle.grammar.specs.Tree.{Body}
use Rattle.grammar.specs.Tree as tree
use Rattle.trees.specs.Trees.{arguments, expr_tree, statement_tree, body_tree}
use Rattle.trees.specs.declared.tree.Expr.{Expr}
use Rattle.trees.specs.declared.tree.Expr.TheVariants as expr
use Rattle.trees.specs.declared.tree.Statement.{Statement}
use Rattle.trees.specs.declared.tree.Statement.TheVariants as statement
use Rattle.trees.proofs.TreeLaws.{tree-Binary, tree-Assign, tree-Postfix, tree-Call, tree-ExpressionStatement, tree-IfStatement, tree-IfElseStatement, tree-While, tree-Return}
use Rattle.room.specs.declared.room.Room.{Room}
use Rattle.room.specs.Rooms.{words, both, above}
use Rattle.room.specs.Constructs.{binary_need, callee_need, expr_need, args_need, body_need}
use Rattle.room.specs.Counting.{counted, CountsAs}
use Rattle.room.proofs.Counting.{counts_above, counts_both, counts_sides}

module _ (s : Bool) (calls : ℕ → Option Room) where
  -- a need that counts as that of a tree counts as that of the expression with this tree
  of_expr : (r : Option Room) (e : Expr) (t : tree.Expr) → expr_tree e ≡ t → CountsAs r (expr_need s calls t) →
      CountsAs r (expr_need s calls (expr_tree e))
  of_expr r e t is counts = counts ∙ sym (ap (λ t. counted (expr_need s calls t)) is)

  of_statement : (r : Option Room) (st : Statement) (behind : Body) (f : Body → Body) → statement_tree st ≡ f →
      CountsAs r (body_need s calls (f behind)) → CountsAs r (body_need s calls (statement_tree st behind))
  of_statement r st behind f is counts = counts ∙ sym (ap (λ f. counted (body_need s calls (f behind))) is)

  pub need-Binary : (r x y : Option Room) (e : Expr) (op : Op) (a b : Box Expr Global) → e ≡ expr.Binary op a b →
      CountsAs x (expr_need s calls (expr_tree a.value)) → CountsAs y (expr_need s calls (expr_tree b.value)) →
      CountsAs r (binary_need s op x y) → CountsAs r (expr_need s calls (expr_tree e))
  need-Binary r x y e op a b is one other counts =
      of_expr r e (tree.Binary op (expr_tree a.value) (expr_tree b.value)) (ap expr_tree is ∙ tree-Binary op a b)
      (counts ∙
      counts_sides s op x y (expr_need s calls (expr_tree a.value)) (expr_need s calls (expr_tree b.value)) one
      other)

  pub need-Assign : (r : Option Room) (e : Expr) (op : StoreOp) (v : Var) (a : Box Expr Global) →
      e ≡ expr.Assign op v a → CountsAs r (expr_need s calls (expr_tree a.value)) →
      CountsAs r (expr_need s calls (expr_tree e))
  need-Assign r e op v a is counts =
      of_expr r e (tree.Assign op v (expr_tree a.value)) (ap expr_tree is ∙ tree-Assign op v a) counts

  pub need-Postfix : (e : Expr) (op : StoreOp) (v : Var) → e ≡ expr.Postfix op v →
      CountsAs (words 2) (expr_need s calls (expr_tree e))
  need-Postfix e op v is = of_expr (words 2) e (tree.Postfix op v) (ap expr_tree is ∙ tree-Postfix op v) refl

  pub need-Call : (r x y : Option Room) (e : Expr) (f : Callee) (es : Vec Expr Global) → e ≡ expr.Call f es →
      CountsAs x (args_need s calls (arguments (map expr_tree es.items))) → y ≡ callee_need calls f →
      r ≡ both (counted (above 0 1 x)) y → CountsAs r (expr_need s calls (expr_tree e))
  need-Call r x y e f es is inside callee made =
      let a = args_need s calls (arguments (map expr_tree es.items)) in
      of_expr r e (tree.Call f (arguments (map expr_tree es.items))) (ap expr_tree is ∙ tree-Call f es)
      (ap counted made
      ∙
      counts_both (counted (above 0 1 x)) y (above 0 1 a) (callee_need calls f) (counts_above 0 1 x a inside)
      (ap counted callee))

  pub args_more : (r x y : Option Room) (es : List Expr) (n : ℕ) (e : Expr) → n < length es → e ≡ get_or es n e →
      CountsAs x (expr_need s calls (expr_tree e)) →
      CountsAs y (args_need s calls (arguments (map expr_tree (drop (n + 1) es)))) →
      r ≡ both x (counted (above 1 0 y)) → CountsAs r (args_need s calls (arguments (map expr_tree (drop n es))))
  args_more r x y es n e less is one others made =
      let at : drop n es ≡ e ∷ drop (n + 1) es =
      drop_more es n e less ∙ ap (λ y. y ∷ drop (n + 1) es) (sym is) in
      let rest = args_need s calls (arguments (map expr_tree (drop (n + 1) es))) in
      ap counted made
      ∙
      counts_both x (counted (above 1 0 y)) (expr_need s calls (expr_tree e)) (above 1 0 rest) one
      (counts_above 1 0 y rest others)
      ∙ sym (ap (λ es. counted (args_need s calls (arguments (map expr_tree es)))) at)

  pub body_more : (r : Option Room) (ss : List Statement) (n : ℕ) (st : Statement) → n < length ss →
      st ≡ get_or ss n st → CountsAs r (body_need s calls (statement_tree st (body_tree (drop (n + 1) ss)))) →
      CountsAs r (body_need s calls (body_tree (drop n ss)))
  body_more r ss n st less is counts =
      let at : drop n ss ≡ st ∷ drop (n + 1) ss =
      drop_more ss n st less ∙ ap (λ y. y ∷ drop (n + 1) ss) (sym is) in
      counts ∙ sym (ap (λ ss. counted (body_need s calls (body_tree ss))) at)

  module _ (rest : Option Room) (behind : Body) (later : CountsAs rest (body_need s calls behind)) where
    pub need-ExpressionStatement : (r x : Option Room) (st : Statement) (e : Expr) →
        st ≡ statement.ExpressionStatement e → CountsAs x (expr_need s calls (expr_tree e)) → r ≡ both x rest →
        CountsAs r (body_need s calls (statement_tree st behind))
    need-ExpressionStatement r x st e is one made =
        of_statement r st behind _ (ap statement_tree is ∙ tree-ExpressionStatement e)
        (ap counted made ∙ counts_both x rest (expr_need s calls (expr_tree e)) (body_need s calls behind) one later)

    pub need-IfStatement : (r x y : Option Room) (st : Statement) (c : Expr) (t : Vec Statement Global) →
        st ≡ statement.IfStatement c t → CountsAs x (expr_need s calls (expr_tree c)) →
        CountsAs y (body_need s calls (body_tree t.items)) → r ≡ both x (both y rest) →
        CountsAs r (body_need s calls (statement_tree st behind))
    need-IfStatement r x y st c t is one two made =
        let b = body_need s calls (body_tree t.items) in
        let d = body_need s calls behind in
        of_statement r st behind _ (ap statement_tree is ∙ tree-IfStatement c t)
        (ap counted made
        ∙ counts_both x (both y rest) (expr_need s calls (expr_tree c)) (both b d) one
        (counts_both y rest b d two later))

    pub need-IfElseStatement : (r x y z : Option Room) (st : Statement) (c : Expr) (t u : Vec Statement Global) →
        st ≡ statement.IfElseStatement c t u → CountsAs x (expr_need s calls (expr_tree c)) →
        CountsAs y (body_need s calls (body_tree t.items)) → CountsAs z (body_need s calls (body_tree u.items)) →
        r ≡ both x (both (both y (words 1)) (both z rest)) →
        CountsAs r (body_need s calls (statement_tree st behind))
    need-IfElseStatement r x y z st c t u is one two three made =
        let b = body_need s calls (body_tree t.items) in
        let g = body_need s calls (body_tree u.items) in
        let d = body_need s calls behind in
        of_statement r st behind _ (ap statement_tree is ∙ tree-IfElseStatement c t u)
        (ap counted made
        ∙
        counts_both x (both (both y (words 1)) (both z rest)) (expr_need s calls (expr_tree c))
        (both (both b (words 1)) (both g d)) one
        (counts_both (both y (words 1)) (both z rest) (both b (words 1)) (both g d)
        (counts_both y (words 1) b (words 1) two refl) (counts_both z rest g d three later)))

    pub need-While : (r x y : Option Room) (st : Statement) (c : Expr) (t : Vec Statement Global) →
        st ≡ statement.While c t → CountsAs x (expr_need s calls (expr_tree c)) →
        CountsAs y (body_need s calls (body_tree t.items)) → r ≡ both x (both (both y (words 1)) rest) →
        CountsAs r (body_need s calls (statement_tree st behind))
    need-While r x y st c t is one two made =
        let b = body_need s calls (body_tree t.items) in
        let d = body_need s calls behind in
        of_statement r st behind _ (ap statement_tree is ∙ tree-While c t)
        (ap counted made
        ∙
        counts_both x (both (both y (words 1)) rest) (expr_need s calls (expr_tree c)) (both (both b (words 1)) d) one
        (counts_both (both y (words 1)) rest (both b (words 1)) d (counts_both y (words 1) b (words 1) two refl) later))

  pub need-Return : (r : Option Room) (st : Statement) (behind : Body) (e : Expr) → st ≡ statement.Return e →
      CountsAs r (expr_need s calls (expr_tree e)) → CountsAs r (body_need s calls (statement_tree st behind))
  need-Return r st behind e is counts =
      of_statement r st behind _ (ap statement_tree is ∙ tree-Return e) counts
