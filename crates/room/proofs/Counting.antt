-- What is counted the same.
use Rattle.std.specs.Prelude.{ℕ, ◌+◌, ◌≡◌, ◌<◌, min, max, Bool, true, false, Option, Some, None, if◌then◌else◌}
use Rattle.std.proofs.Common.{refl, ap, sym, ◌∙◌, arith}
use Rattle.arith.specs.declared.operators.Op.{Op}
use Rattle.grammar.specs.declared.resolved_names.Callee.{Callee}
use Rattle.grammar.specs.declared.resolved_names.Callee.TheVariants as callee
use Rattle.grammar.specs.Resolved.{IsCallable, InExpr, InArgs, InBody}
use Rattle.grammar.specs.Tree.{Expr, Constant, Variable, Binary, Assign, Postfix, Call, Args, NoMore, Argument, Body}
use Rattle.grammar.specs.Tree.{Done, ExpressionStatement, IfStatement, IfElseStatement, While, Return}
use Rattle.room.specs.declared.room.Room.{Room}
use Rattle.room.specs.Rooms.{room, words, both, above}
use Rattle.room.specs.Constructs.{may_skip, binary_need, callee_need, expr_need, args_need, body_need}
use Rattle.room.specs.Counting.{counted, CountsAs}

both_stop : (a b : ℕ) → min (max a b) 65535 ≡ max (min a 65535) (min b 65535)
both_stop a b = grind arith

sum_stops : (n a : ℕ) → min (n + min a 65535) 65535 ≡ min (n + a) 65535
sum_stops n a = grind arith

stops_twice : (a : ℕ) → min (min a 65535) 65535 ≡ min a 65535
stops_twice a = grind arith

counted_both : (a b : Option Room) → counted (both a b) ≡ both (counted a) (counted b)
counted_both None b = refl
counted_both (Some a) None = refl
counted_both (Some a) (Some b) =
    let w = both_stop a.words b.words in
    let f = both_stop a.frames b.frames in
    ap (λ n. room n (min (max a.frames b.frames) 65535)) w
    ∙ ap (λ n. room (max (min a.words 65535) (min b.words 65535)) n) f

pub counted_twice : (a : Option Room) → counted (counted a) ≡ counted a
counted_twice None = refl
counted_twice (Some a) =
    ap (λ n. room n (min (min a.frames 65535) 65535)) (stops_twice a.words)
    ∙ ap (λ n. room (min a.words 65535) n) (stops_twice a.frames)

counted_above : (w f : ℕ) (a : Option Room) → counted (above w f (counted a)) ≡ counted (above w f a)
counted_above w f None = refl
counted_above w f (Some a) =
    ap (λ n. room n (min (f + min a.frames 65535) 65535)) (sum_stops w a.words)
    ∙ ap (λ n. room (min (w + a.words) 65535) n) (sum_stops f a.frames)

pub counts_both : (x y a b : Option Room) → CountsAs x a → CountsAs y b → CountsAs (both x y) (both a b)
counts_both x y a b one other =
    counted_both x y ∙ ap (λ z. both z (counted y)) one ∙ ap (λ z. both (counted a) z) other ∙ sym (counted_both a b)

-- a sum that was counted
pub counts_above : (w f : ℕ) (x a : Option Room) → CountsAs x a → CountsAs (counted (above w f x)) (above w f a)
counts_above w f x a same =
    counted_twice (above w f x) ∙ sym (counted_above w f x) ∙ ap (λ z. counted (above w f z)) same ∙ counted_above w f a

-- one that wasn't
counts_higher : (w f : ℕ) (x a : Option Room) → CountsAs x a → CountsAs (above w f x) (above w f a)
counts_higher w f x a same =
    sym (counted_above w f x) ∙ ap (λ z. counted (above w f z)) same ∙ counted_above w f a

pub counts_sides : (s : Bool) (o : Op) (x y a b : Option Room) → CountsAs x a → CountsAs y b →
    CountsAs (binary_need s o x y) (binary_need s o a b)
counts_sides s o x y a b one other = by (may_skip s o)
  where
    by : (t : Bool) → CountsAs (if t then both x (both y (words 2)) else both x (above 1 0 y))
        (if t then both a (both b (words 2)) else both a (above 1 0 b))
    by true =
        counts_both x (both y (words 2)) a (both b (words 2)) one (counts_both y (words 2) b (words 2) other refl)
    by false = counts_both x (above 1 0 y) a (above 1 0 b) one (counts_higher 1 0 y b other)

-- a function's need, by its body's
pub counts_function : (v : ℕ) (x a : Option Room) → CountsAs x a →
    counted (above v 1 (both (words 1) x)) ≡ counted (above v 1 (both (words 1) a))
counts_function v x a same =
    counts_higher v 1 (both (words 1) x) (both (words 1) a) (counts_both (words 1) x (words 1) a refl same)

-- What constructs need, by functions that need what is counted the same.
module _ (s : Bool) (x l n : ℕ) (c d : ℕ → Option Room) (same : (k : ℕ) → k < n → CountsAs (c k) (d k)) where
  counts_callee : (f : Callee) → IsCallable n f → CountsAs (callee_need c f) (callee_need d f)
  counts_callee (callee.Function k) there = same k there
  counts_callee (callee.Intrinsic i) there = refl

  mutual
    counts_expr : (e : Expr) → InExpr x l n e → CountsAs (expr_need s c e) (expr_need s d e)
    counts_expr (Constant v) there = refl
    counts_expr (Variable v) there = refl
    counts_expr (Binary o a b) there =
        counts_sides s o (expr_need s c a) (expr_need s c b) (expr_need s d a) (expr_need s d b)
        (counts_expr a there.0) (counts_expr b there.1)
    counts_expr (Assign o v e) there = counts_expr e there.1
    counts_expr (Postfix o v) there = refl
    counts_expr (Call f arguments) there =
        counts_both (above 0 1 (args_need s c arguments)) (callee_need c f) (above 0 1 (args_need s d arguments))
        (callee_need d f)
        (counts_higher 0 1 (args_need s c arguments) (args_need s d arguments) (counts_args arguments there.1))
        (counts_callee f there.0)

    counts_args : (arguments : Args) → InArgs x l n arguments →
        CountsAs (args_need s c arguments) (args_need s d arguments)
    counts_args NoMore there = refl
    counts_args (Argument e rest) there =
        counts_both (expr_need s c e) (above 1 0 (args_need s c rest)) (expr_need s d e)
        (above 1 0 (args_need s d rest))
        (counts_expr e there.0)
        (counts_higher 1 0 (args_need s c rest) (args_need s d rest) (counts_args rest there.1))

  pub counts_body : (b : Body) → InBody x l n b → CountsAs (body_need s c b) (body_need s d b)
  counts_body Done there = refl
  counts_body (ExpressionStatement e rest) there =
      counts_both (expr_need s c e) (body_need s c rest) (expr_need s d e) (body_need s d rest)
      (counts_expr e there.0) (counts_body rest there.1)
  counts_body (IfStatement e t rest) there =
      counts_both (expr_need s c e) (both (body_need s c t) (body_need s c rest)) (expr_need s d e)
      (both (body_need s d t) (body_need s d rest)) (counts_expr e there.0)
      (counts_both (body_need s c t) (body_need s c rest) (body_need s d t) (body_need s d rest)
      (counts_body t there.1) (counts_body rest there.2))
  counts_body (IfElseStatement e t u rest) there =
      counts_both (expr_need s c e) _ (expr_need s d e) _ (counts_expr e there.0)
      (counts_both (both (body_need s c t) (words 1)) (both (body_need s c u) (body_need s c rest))
      (both (body_need s d t) (words 1)) (both (body_need s d u) (body_need s d rest))
      (counts_both (body_need s c t) (words 1) (body_need s d t) (words 1) (counts_body t there.1) refl)
      (counts_both (body_need s c u) (body_need s c rest) (body_need s d u) (body_need s d rest)
      (counts_body u there.2) (counts_body rest there.3)))
  counts_body (While e t rest) there =
      counts_both (expr_need s c e) _ (expr_need s d e) _ (counts_expr e there.0)
      (counts_both (both (body_need s c t) (words 1)) (body_need s c rest) (both (body_need s d t) (words 1))
      (body_need s d rest)
      (counts_both (body_need s c t) (words 1) (body_need s d t) (words 1) (counts_body t there.1) refl)
      (counts_body rest there.2))
  counts_body (Return e rest) there = counts_expr e there.0
