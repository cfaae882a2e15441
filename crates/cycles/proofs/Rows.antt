-- Rows of loops.
use Rattle.std.proofs.Common.{◌≡◌, ℕ, ◌+◌, ◌<◌, List, [], ◌∷◌, ◌++◌, Vec, Global, length, get_or, map, take, ap, sym, refl, ◌∙◌, append-nil, append_assoc}
use Rattle.std.proofs.lemmas.List.{map-append, take_more}
use Rattle.grammar.specs.Tree.{Body, Done}
use Rattle.trees.specs.Trees.{body_tree, expr_tree, statement_node, statement_tree}
use Rattle.trees.specs.declared.tree.Expr.{Expr}
use Rattle.trees.specs.declared.tree.Function.{Function}
use Rattle.trees.specs.declared.tree.Statement.{Statement, Statement-F, fold_out-Statement, map-Statement, out-Statement}
use Rattle.trees.specs.declared.tree.Statement.TheVariants as statement
use Rattle.trees.proofs.TreeLaws.{tree-ExpressionStatement, tree-IfElseStatement, tree-IfStatement, tree-Return, tree-While}
use Rattle.cycles.specs.declared.runs.Runs.{Runs}
use Rattle.cycles.specs.declared.spans.Span.{Span}
use Rattle.cycles.specs.declared.loops.Turn.{Turn}
use Rattle.cycles.specs.declared.runs.Run.{Run}
use Rattle.cycles.specs.Loops.{Loop, all_rows, loops_of, row_of, rows_of}
use Rattle.cycles.specs.Tables.{row_in, rows_in, run_in}

-- The loops of a statement come first.

node_loops : (x : Statement-F (Body → Body)) (rest : Body) →
    loops_of (statement_node x rest) ≡ loops_of (statement_node x Done) ++ loops_of rest
node_loops (Statement-F.ExpressionStatement e) rest = refl
node_loops (Statement-F.IfStatement c s) rest = simp append_assoc refl
node_loops (Statement-F.IfElseStatement c s t) rest = simp append_assoc refl
node_loops (Statement-F.While c s) rest = simp append_assoc refl
node_loops (Statement-F.Return e) rest = refl

loops_by : (f : Body → Body) (x : Statement-F (Body → Body)) → f ≡ statement_node x → (rest : Body) →
    loops_of (f rest) ≡ loops_of (f Done) ++ loops_of rest
loops_by f x is rest =
    ap (λ (f : Body → Body). loops_of (f rest)) is ∙ node_loops x rest ∙
    ap (λ (f : Body → Body). loops_of (f Done) ++ loops_of rest) (sym is)

loops_first : (s : Statement) (rest : Body) →
    loops_of (statement_tree s rest) ≡ loops_of (statement_tree s Done) ++ loops_of rest
loops_first s rest =
    loops_by (statement_tree s) (map-Statement Statement (Body → Body) statement_tree (out-Statement s))
    (fold_out-Statement (Body → Body) statement_node s) rest

loops_last : (ss : List Statement) (s : Statement) →
    loops_of (body_tree (ss ++ s ∷ [])) ≡ loops_of (body_tree ss) ++ loops_of (statement_tree s Done)
loops_last [] s = refl
loops_last (t ∷ ss) s =
    loops_first t (body_tree (ss ++ s ∷ [])) ∙
    ap (λ ls. loops_of (statement_tree t Done) ++ ls) (loops_last ss s) ∙
    sym (append_assoc (loops_of (statement_tree t Done)) (loops_of (body_tree ss)) (loops_of (statement_tree s Done)))
    ∙ ap (λ ls. ls ++ loops_of (statement_tree s Done)) (sym (loops_first t (body_tree ss)))

module _ (c q : Runs) (cycles questions : ℕ → Span) (number : ℕ) where
  abbrev row : Loop → Turn
  row = row_of c q cycles questions number

  abbrev rows : Body → List Turn
  rows = rows_of c q cycles questions number

  -- the rows of one statement more
  pub rows_more : (old now new : List Turn) (ss : List Statement) (i : ℕ) (s : Statement) → i < length ss →
      s ≡ get_or ss i s → now ≡ old ++ rows (body_tree (take i ss)) → new ≡ now ++ rows (statement_tree s Done) →
      new ≡ old ++ rows (body_tree (take (i + 1) ss))
  rows_more old now new ss i s below is before added =
      let first : List Loop = loops_of (body_tree (take i ss)) in
      let last : List Loop = loops_of (statement_tree s Done) in
      let longer : take (i + 1) ss ≡ take i ss ++ s ∷ [] =
      take_more ss i s below ∙ ap (λ s. take i ss ++ s ∷ []) (sym is) in
      let all : loops_of (body_tree (take (i + 1) ss)) ≡ first ++ last =
      ap (λ ss. loops_of (body_tree ss)) longer ∙ loops_last (take i ss) s in
      added ∙ ap (λ ts. ts ++ map row last) before ∙ append_assoc old (map row first) (map row last) ∙
      ap (λ ts. old ++ ts) (sym (map-append row first last)) ∙ ap (λ ls. old ++ map row ls) (sym all)

  nothing_behind : (old new : List Turn) (ls : List Loop) → new ≡ old ++ map row ls → new ≡ old ++ map row (ls ++ [])
  nothing_behind old new ls added = added ∙ ap (λ ls. old ++ map row ls) (sym (append-nil ls))

  -- the rows of each kind of statement
  pub while_rows : (s : Statement) (test : Expr) (body : Vec Statement Global) (old now new : List Turn) (t : Turn) →
      s ≡ statement.While test body →
      t ≡ row (record { test = expr_tree test; statements = body_tree body.items }) → now ≡ old ++ t ∷ [] →
      new ≡ now ++ rows (body_tree body.items) → new ≡ old ++ rows (statement_tree s Done)
  while_rows s test body old now new t is told pushed added =
      let l : Loop = record { test = expr_tree test; statements = body_tree body.items } in
      let inside : List Loop = loops_of (body_tree body.items) in
      added ∙ ap (λ ts. ts ++ map row inside) pushed ∙ append_assoc old (t ∷ []) (map row inside) ∙
      ap (λ t. old ++ t ∷ map row inside) told ∙
      ap (λ ls. old ++ map row (l ∷ ls)) (sym (append-nil inside)) ∙
      sym (ap (λ s. old ++ rows (statement_tree s Done)) is ∙ ap (λ f. old ++ rows (f Done)) (tree-While test body))

  pub if_rows : (s : Statement) (test : Expr) (body : Vec Statement Global) (old new : List Turn) →
      s ≡ statement.IfStatement test body → new ≡ old ++ rows (body_tree body.items) →
      new ≡ old ++ rows (statement_tree s Done)
  if_rows s test body old new is added =
      nothing_behind old new (loops_of (body_tree body.items)) added ∙
      sym
      (ap (λ s. old ++ rows (statement_tree s Done)) is ∙ ap (λ f. old ++ rows (f Done)) (tree-IfStatement test body))

  pub choice_rows : (s : Statement) (test : Expr) (first second : Vec Statement Global) (old now new : List Turn) →
      s ≡ statement.IfElseStatement test first second → now ≡ old ++ rows (body_tree first.items) →
      new ≡ now ++ rows (body_tree second.items) → new ≡ old ++ rows (statement_tree s Done)
  choice_rows s test first second old now new is one other =
      let a : List Loop = loops_of (body_tree first.items) in
      let b : List Loop = loops_of (body_tree second.items) in
      other ∙ ap (λ ts. ts ++ map row b) one ∙ append_assoc old (map row a) (map row b) ∙
      ap (λ ts. old ++ ts) (sym (map-append row a b)) ∙
      ap (λ ls. old ++ map row (a ++ ls)) (sym (append-nil b)) ∙
      sym
      (ap (λ s. old ++ rows (statement_tree s Done)) is ∙
      ap (λ f. old ++ rows (f Done)) (tree-IfElseStatement test first second))

  pub expression_rows : (s : Statement) (e : Expr) (old : List Turn) → s ≡ statement.ExpressionStatement e →
      old ≡ old ++ rows (statement_tree s Done)
  expression_rows s e old is =
      sym
      (ap (λ s. old ++ rows (statement_tree s Done)) is ∙ ap (λ f. old ++ rows (f Done)) (tree-ExpressionStatement e) ∙
      append-nil old)

  pub return_rows : (s : Statement) (e : Expr) (old : List Turn) → s ≡ statement.Return e →
      old ≡ old ++ rows (statement_tree s Done)
  return_rows s e old is =
      sym
      (ap (λ s. old ++ rows (statement_tree s Done)) is ∙ ap (λ f. old ++ rows (f Done)) (tree-Return e) ∙
      append-nil old)

-- The rows of functions.

module _ (c q : Runs) (cycles questions : ℕ → Span) where
  abbrev all : List Function → List Turn
  all = all_rows c q cycles questions

  all_last : (fs : List Function) (f : Function) →
      all (fs ++ f ∷ []) ≡ all fs ++ rows_of c q cycles questions f.number (body_tree f.body.items)
  all_last [] f = append-nil (rows_of c q cycles questions f.number (body_tree f.body.items))
  all_last (g ∷ fs) f =
      ap (λ ts. rows_of c q cycles questions g.number (body_tree g.body.items) ++ ts) (all_last fs f) ∙
      sym
      (append_assoc (rows_of c q cycles questions g.number (body_tree g.body.items)) (all fs)
      (rows_of c q cycles questions f.number (body_tree f.body.items)))

  pub all_more : (now new : List Turn) (fs : List Function) (i : ℕ) (f : Function) → i < length fs →
      f ≡ get_or fs i f → now ≡ all (take i fs) →
      new ≡ now ++ rows_of c q cycles questions f.number (body_tree f.body.items) → new ≡ all (take (i + 1) fs)
  all_more now new fs i f below is before added =
      added ∙ ap (λ ts. ts ++ rows_of c q cycles questions f.number (body_tree f.body.items)) before ∙
      sym
      (ap all (take_more fs i f below ∙ ap (λ f. take i fs ++ f ∷ []) (sym is)) ∙ all_last (take i fs) f)

-- the row of one function more
pub runs_more : (c q : Runs) (old new : List Run) (fs : List Function) (i : ℕ) (f : Function) (one other : Span) →
    i < length fs → f ≡ get_or fs i f → one ≡ run_in c f.number → other ≡ run_in q f.number →
    old ≡ rows_in c q (take i fs) →
    new ≡ old ++ record { function = f.number; cycles = one; questions = other } ∷ [] →
    new ≡ rows_in c q (take (i + 1) fs)
runs_more c q old new fs i f one other below is first second before added =
    let longer : take (i + 1) fs ≡ take i fs ++ f ∷ [] =
    take_more fs i f below ∙ ap (λ f. take i fs ++ f ∷ []) (sym is) in
    let row : record { function = f.number; cycles = one; questions = other } ≡ row_in c q f =
    λ j. record { function = f.number; cycles = first j; questions = second j } in
    added ∙ ap (λ rows. rows ++ record { function = f.number; cycles = one; questions = other } ∷ []) before ∙
    ap (λ row. rows_in c q (take i fs) ++ row ∷ []) row ∙ sym (map-append (row_in c q) (take i fs) (f ∷ [])) ∙
    ap (rows_in c q) (sym longer)
