-- What a function needs, by one measure, is decided by one of its callees, or by none.
use Rattle.std.specs.Prelude.{ℕ, ◌+◌, ◌≡◌, ◌<◌, ◌≤◌, ◌⊎◌, max, min, Bool, true, false, Option, Some, None, IfSome, if◌then◌else◌}
use Rattle.std.specs.Prelude.{List}
use Rattle.std.proofs.Common.{refl, ap, sym, ◌∙◌, subst, arith, inl, inr}
use Rattle.std.proofs.lemmas.Bool.{cases_eq}
use Rattle.std.proofs.lemmas.List.{get_or-set_same, get_or-set_other, get_or-replicate, length-replicate}
use Rattle.arith.specs.declared.operators.Op.{Op}
use Rattle.grammar.specs.declared.resolved_names.Callee.{Callee}
use Rattle.grammar.specs.declared.resolved_names.Callee.TheVariants as callee
use Rattle.grammar.specs.Resolved.{IsCallable, InExpr, InArgs, InBody}
use Rattle.grammar.specs.Tree.{Expr, Constant, Variable, Binary, Assign, Postfix, Call, Args, NoMore, Argument, Body}
use Rattle.grammar.specs.Tree.{Done, ExpressionStatement, IfStatement, IfElseStatement, While, Return}
use Rattle.trees.specs.Laws.{UnnamedFunction}
use Rattle.room.specs.declared.chains.Measure.{Measure}
use Rattle.room.specs.declared.chains.Measure.TheVariants.{Words, Frames}
use Rattle.room.specs.declared.constructs.Calls.{Calls}
use Rattle.room.specs.declared.room.Room.{Room}
use Rattle.room.specs.Chains.{NeedsBy, StandsAlone, measured, only, unburdened}
use Rattle.room.specs.Constructs.{may_skip, binary_need, callee_need, expr_need, args_need, body_need}
use Rattle.room.specs.Counting.{counted}
use Rattle.room.specs.Rooms.{words, both, above}
use Rattle.room.specs.Tables.{needs_in, told_need}

-- Measured needs: none is the greatest.

abbrev AtMost : Option ℕ → Option ℕ → Type 0
AtMost a None = Unit {0}
AtMost None (Some b) = ⊥
AtMost (Some a) (Some b) = a ≤ b

abbrev greatest : Option ℕ → Option ℕ → Option ℕ
greatest None b = None
greatest (Some a) None = None
greatest (Some a) (Some b) = Some (max a b)

abbrev raised : ℕ → Option ℕ → Option ℕ
raised n None = None
raised n (Some a) = Some (n + a)

abbrev capped : Option ℕ → Option ℕ
capped None = None
capped (Some a) = Some (min a 65535)

either_at_most : (a b : Option ℕ) → AtMost b a ⊎ AtMost a b
either_at_most None b = inl tt
either_at_most (Some a) None = inr tt
either_at_most (Some a) (Some b) = by (nat_le_total a b)
  where
    nat_le_total : (x y : ℕ) → (y ≤ x) ⊎ (x ≤ y)
    nat_le_total x y = grind arith

    by : (b ≤ a) ⊎ (a ≤ b) → AtMost (Some b) (Some a) ⊎ AtMost (Some a) (Some b)
    by (inl less) = inl less
    by (inr less) = inr less

at_most_itself : (a : Option ℕ) → AtMost a a
at_most_itself None = tt
at_most_itself (Some a) = omega arith

-- what is at most a lesser one changes nothing of the greater one
absorbs : (a b c : Option ℕ) → AtMost b a → AtMost c b → greatest a c ≡ greatest a b
absorbs None b c less lesser = refl
absorbs (Some a) None c less lesser = absurd less
absorbs (Some a) (Some b) None less lesser = absurd lesser
absorbs (Some a) (Some b) (Some c) less lesser = ap (λ (n : ℕ). Some n) (grind (arith, less, lesser))

absorbs_first : (a b c : Option ℕ) → AtMost a b → AtMost c a → greatest c b ≡ greatest a b
absorbs_first None None c less lesser = both_none c
  where
    both_none : (c : Option ℕ) → greatest c None ≡ None
    both_none None = refl
    both_none (Some c) = refl
absorbs_first None (Some b) c less lesser = absurd less
absorbs_first (Some a) None None less lesser = absurd lesser
absorbs_first (Some a) None (Some c) less lesser = refl
absorbs_first (Some a) (Some b) None less lesser = absurd lesser
absorbs_first (Some a) (Some b) (Some c) less lesser = ap (λ (n : ℕ). Some n) (grind (arith, less, lesser))

greatest_rises : (a b c d : Option ℕ) → AtMost a c → AtMost b d → AtMost (greatest a b) (greatest c d)
greatest_rises a b None d one other = tt
greatest_rises a b (Some c) None one other = tt
greatest_rises None b (Some c) (Some d) one other = absurd one
greatest_rises (Some a) None (Some c) (Some d) one other = absurd other
greatest_rises (Some a) (Some b) (Some c) (Some d) one other = grind (arith, one, other)

raised_rises : (n : ℕ) (a b : Option ℕ) → AtMost a b → AtMost (raised n a) (raised n b)
raised_rises n a None less = tt
raised_rises n None (Some b) less = absurd less
raised_rises n (Some a) (Some b) less = omega (arith, less)

capped_rises : (a b : Option ℕ) → AtMost a b → AtMost (capped a) (capped b)
capped_rises a None less = tt
capped_rises None (Some b) less = absurd less
capped_rises (Some a) (Some b) less = grind (arith, less)

-- What is measured of sums and of greater ones.

measured_both : (m : Measure) (a b : Option Room) →
    measured m (both a b) ≡ greatest (measured m a) (measured m b)
measured_both m None b = refl
measured_both Words (Some a) None = refl
measured_both Frames (Some a) None = refl
measured_both Words (Some a) (Some b) = refl
measured_both Frames (Some a) (Some b) = refl

abbrev share : Measure → ℕ → ℕ → ℕ
share Words w f = w
share Frames w f = f

measured_above : (m : Measure) (w f : ℕ) (a : Option Room) →
    measured m (above w f a) ≡ raised (share m w f) (measured m a)
measured_above m w f None = refl
measured_above Words w f (Some a) = refl
measured_above Frames w f (Some a) = refl

measured_counted : (m : Measure) (a : Option Room) → measured m (counted a) ≡ capped (measured m a)
measured_counted m None = refl
measured_counted Words (Some a) = refl
measured_counted Frames (Some a) = refl

-- Needs by tables, and what decides them.

module _ (m : Measure) (n : ℕ) (c : ℕ → Option Room) where
  -- a table of needs that are at most those
  abbrev pub IsBelow : (ℕ → Option Room) → Type 0
  IsBelow d = (k : ℕ) → k < n → AtMost (measured m (d k)) (measured m (c k))

  -- and this function's is the same
  abbrev pub Keeps : Option ℕ → (ℕ → Option Room) → Type 0
  Keeps None d = Unit {0}
  Keeps (Some k) d = d k ≡ c k

  pub record IsDecided (need : (ℕ → Option Room) → Option Room) : Type 0 where
    pub by : Option ℕ
    pub there : IfSome by (λ k. k < n)
    pub below : (d : ℕ → Option Room) → IsBelow d → AtMost (measured m (need d)) (measured m (need c))
    pub decides : (d : ℕ → Option Room) → IsBelow d → Keeps by d → measured m (need d) ≡ measured m (need c)

  decided_constant : (r : Option Room) → IsDecided (λ d. r)
  decided_constant r = record {
    by = None;
    there = tt;
    below = λ d is. at_most_itself (measured m r);
    decides = λ d is keeps. refl;
  }

  decided_call : (k : ℕ) → k < n → IsDecided (λ d. d k)
  decided_call k less = record {
    by = Some k;
    there = less;
    below = λ d is. is k less;
    decides = λ d is keeps. ap (measured m) keeps;
  }

  decided_above : (w f : ℕ) (need : (ℕ → Option Room) → Option Room) → IsDecided need →
      IsDecided (λ d. above w f (need d))
  decided_above w f need is = record {
    by = is.by;
    there = is.there;
    below = λ d under.
        subst (λ (x : Option ℕ). AtMost x (measured m (above w f (need c)))) (sym (measured_above m w f (need d)))
        (subst (λ (x : Option ℕ). AtMost (raised (share m w f) (measured m (need d))) x)
        (sym (measured_above m w f (need c)))
        (raised_rises (share m w f) (measured m (need d)) (measured m (need c)) (is.below d under)));
    decides = λ d under keeps.
        measured_above m w f (need d) ∙ ap (raised (share m w f)) (is.decides d under keeps)
        ∙ sym (measured_above m w f (need c));
  }

  decided_counted : (need : (ℕ → Option Room) → Option Room) → IsDecided need → IsDecided (λ d. counted (need d))
  decided_counted need is = record {
    by = is.by;
    there = is.there;
    below = λ d under.
        subst (λ (x : Option ℕ). AtMost x (measured m (counted (need c)))) (sym (measured_counted m (need d)))
        (subst (λ (x : Option ℕ). AtMost (capped (measured m (need d))) x) (sym (measured_counted m (need c)))
        (capped_rises (measured m (need d)) (measured m (need c)) (is.below d under)));
    decides = λ d under keeps.
        measured_counted m (need d) ∙ ap capped (is.decides d under keeps) ∙ sym (measured_counted m (need c));
  }

  decided_both : (one other : (ℕ → Option Room) → Option Room) → IsDecided one → IsDecided other →
      IsDecided (λ d. both (one d) (other d))
  decided_both one other is also = by (either_at_most (measured m (one c)) (measured m (other c)))
    where
      rises : (d : ℕ → Option Room) → IsBelow d →
          AtMost (measured m (both (one d) (other d))) (measured m (both (one c) (other c)))
      rises d under =
          subst (λ (x : Option ℕ). AtMost x (measured m (both (one c) (other c))))
          (sym (measured_both m (one d) (other d)))
          (subst (λ (x : Option ℕ). AtMost (greatest (measured m (one d)) (measured m (other d))) x)
          (sym (measured_both m (one c) (other c)))
          (greatest_rises (measured m (one d)) (measured m (other d)) (measured m (one c)) (measured m (other c))
          (is.below d under) (also.below d under)))

      by : AtMost (measured m (other c)) (measured m (one c)) ⊎ AtMost (measured m (one c)) (measured m (other c)) →
          IsDecided (λ d. both (one d) (other d))
      by (inl less) = record {
        by = is.by;
        there = is.there;
        below = rises;
        decides = λ d under keeps.
            measured_both m (one d) (other d)
            ∙ ap (λ (x : Option ℕ). greatest x (measured m (other d))) (is.decides d under keeps)
            ∙ absorbs (measured m (one c)) (measured m (other c)) (measured m (other d)) less (also.below d under)
            ∙ sym (measured_both m (one c) (other c));
      }
      by (inr less) = record {
        by = also.by;
        there = also.there;
        below = rises;
        decides = λ d under keeps.
            measured_both m (one d) (other d)
            ∙ ap (λ (x : Option ℕ). greatest (measured m (one d)) x) (also.decides d under keeps)
            ∙ absorbs_first (measured m (one c)) (measured m (other c)) (measured m (one d)) less (is.below d under)
            ∙ sym (measured_both m (one c) (other c));
      }

  module _ (s : Bool) (x l : ℕ) where
    decided_sides : (o : Op) (one other : (ℕ → Option Room) → Option Room) → IsDecided one → IsDecided other →
        IsDecided (λ d. binary_need s o (one d) (other d))
    decided_sides o one other is also = by (may_skip s o)
      where
        by : (t : Bool) → IsDecided (λ d. if t then both (one d) (both (other d) (words 2)) else both (one d)
            (above 1 0 (other d)))
        by true =
            decided_both one (λ d. both (other d) (words 2)) is
            (decided_both other (λ d. words 2) also (decided_constant (words 2)))
        by false = decided_both one (λ d. above 1 0 (other d)) is (decided_above 1 0 other also)

    decided_callee : (f : Callee) → IsCallable n f → IsDecided (λ d. callee_need d f)
    decided_callee (callee.Function k) there = decided_call k there
    decided_callee (callee.Intrinsic i) there = decided_constant (words 1)

    mutual
      decided_expr : (e : Expr) → InExpr x l n e → IsDecided (λ d. expr_need s d e)
      decided_expr (Constant v) there = decided_constant (words 1)
      decided_expr (Variable v) there = decided_constant (words 1)
      decided_expr (Binary o a b) there =
          decided_sides o (λ d. expr_need s d a) (λ d. expr_need s d b) (decided_expr a there.0)
          (decided_expr b there.1)
      decided_expr (Assign o v e) there = decided_expr e there.1
      decided_expr (Postfix o v) there = decided_constant (words 2)
      decided_expr (Call f arguments) there =
          decided_both (λ d. above 0 1 (args_need s d arguments)) (λ d. callee_need d f)
          (decided_above 0 1 (λ d. args_need s d arguments) (decided_args arguments there.1))
          (decided_callee f there.0)

      decided_args : (arguments : Args) → InArgs x l n arguments → IsDecided (λ d. args_need s d arguments)
      decided_args NoMore there = decided_constant (words 0)
      decided_args (Argument e rest) there =
          decided_both (λ d. expr_need s d e) (λ d. above 1 0 (args_need s d rest)) (decided_expr e there.0)
          (decided_above 1 0 (λ d. args_need s d rest) (decided_args rest there.1))

    -- a branch, at whose end a word is pushed
    with_word : (need : (ℕ → Option Room) → Option Room) → IsDecided need → IsDecided (λ d. both (need d) (words 1))
    with_word need is = decided_both need (λ d. words 1) is (decided_constant (words 1))

    pub decided_body : (b : Body) → InBody x l n b → IsDecided (λ d. body_need s d b)
    decided_body Done there = decided_constant (words 0)
    decided_body (ExpressionStatement e rest) there =
        decided_both (λ d. expr_need s d e) (λ d. body_need s d rest) (decided_expr e there.0)
        (decided_body rest there.1)
    decided_body (IfStatement e t rest) there =
        decided_both (λ d. expr_need s d e) (λ d. both (body_need s d t) (body_need s d rest)) (decided_expr e there.0)
        (decided_both (λ d. body_need s d t) (λ d. body_need s d rest) (decided_body t there.1)
        (decided_body rest there.2))
    decided_body (IfElseStatement e t u rest) there =
        decided_both (λ d. expr_need s d e)
        (λ d. both (both (body_need s d t) (words 1)) (both (body_need s d u) (body_need s d rest)))
        (decided_expr e there.0)
        (decided_both (λ d. both (body_need s d t) (words 1)) (λ d. both (body_need s d u) (body_need s d rest))
        (with_word (λ d. body_need s d t) (decided_body t there.1))
        (decided_both (λ d. body_need s d u) (λ d. body_need s d rest) (decided_body u there.2)
        (decided_body rest there.3)))
    decided_body (While e t rest) there =
        decided_both (λ d. expr_need s d e) (λ d. both (both (body_need s d t) (words 1)) (body_need s d rest))
        (decided_expr e there.0)
        (decided_both (λ d. both (body_need s d t) (words 1)) (λ d. body_need s d rest)
        (with_word (λ d. body_need s d t) (decided_body t there.1)) (decided_body rest there.2))
    decided_body (Return e rest) there = decided_expr e there.0

    decided_function : (f : UnnamedFunction) → InBody x l n f.body → IsDecided (λ d. told_need s d f)
    decided_function f there =
        decided_counted (λ d. above f.variables 1 (both (words 1) (body_need s d f.body)))
        (decided_above f.variables 1 (λ d. both (words 1) (body_need s d f.body))
        (decided_both (λ d. words 1) (λ d. body_need s d f.body) (decided_constant (words 1))
        (decided_body f.body there)))

-- Functions that need nothing, or all but one of them.

nothing_there : (k : ℕ) → k < 256 → needs_in unburdened k ≡ words 0
nothing_there k few = get_or-replicate {A = Option Room} 256 k (words 0) None few

least : (m : Measure) (a : Option Room) (b : Option ℕ) → a ≡ words 0 → AtMost (measured m a) b
least m a None is = tt
least Words a (Some b) is = subst (λ (r : Option Room). AtMost (measured Words r) (Some b)) (sym is) (omega arith)
least Frames a (Some b) is = subst (λ (r : Option Room). AtMost (measured Frames r) (Some b)) (sym is) (omega arith)

none_below : (m : Measure) (n : ℕ) (c : ℕ → Option Room) → n ≤ 256 → IsBelow m n c (needs_in unburdened)
none_below m n c few = λ k less.
    least m (needs_in unburdened k) (measured m (c k)) (nothing_there k (omega (arith, few, less)))

one_kept : (needs : List (Option Room)) (k : ℕ) → k < 256 → needs_in (only k needs) k ≡ needs_in needs k
one_kept needs k few =
    get_or-set_same unburdened k (needs_in needs k) None
    (omega (arith, few, length-replicate {A = Option Room} 256 (words 0)))

one_below : (m : Measure) (n : ℕ) (needs : List (Option Room)) (j : ℕ) → n ≤ 256 → j < n →
    IsBelow m n (needs_in needs) (needs_in (only j needs))
one_below m n needs j few there = λ k less. by k less (cases_eq k j)
  where
    by : (k : ℕ) → k < n → (k ≡ j) ⊎ (k ≡ j → ⊥) →
        AtMost (measured m (needs_in (only j needs) k)) (measured m (needs_in needs k))
    by k less (inl same) =
        subst (λ (i : ℕ). AtMost (measured m (needs_in (only j needs) i)) (measured m (needs_in needs i))) (sym same)
        (subst (λ (r : Option Room). AtMost (measured m r) (measured m (needs_in needs j)))
        (sym (one_kept needs j (omega (arith, few, there)))) (at_most_itself (measured m (needs_in needs j))))
    by k less (inr other) =
        least m (needs_in (only j needs) k) (measured m (needs_in needs k))
        (get_or-set_other unburdened j k (needs_in needs j) None other
        ∙ nothing_there k (omega (arith, few, less)))

-- A function stands alone, or the call of one of those that it may call decides what it needs.
pub decider : (m : Measure) (calls : Calls) (x l n : ℕ) (f : UnnamedFunction) → n ≤ 256 → InBody x l n f.body →
    StandsAlone m calls f ⊎ ((k : ℕ) × (k < n) × NeedsBy m calls f k)
decider m calls x l n f few there =
    by (decided_function m n (needs_in calls.needs) calls.short x l f there)
  where
    by : IsDecided m n (needs_in calls.needs) (λ d. told_need calls.short d f) →
        StandsAlone m calls f ⊎ ((k : ℕ) × (k < n) × NeedsBy m calls f k)
    by is = at is.by is.there is.decides
      where
        at : (w : Option ℕ) → IfSome w (λ k. k < n) → ((d : ℕ → Option Room) → IsBelow m n (needs_in calls.needs) d →
            Keeps m n (needs_in calls.needs) w d →
            measured m (told_need calls.short d f) ≡ measured m (told_need calls.short (needs_in calls.needs) f)) →
            StandsAlone m calls f ⊎ ((k : ℕ) × (k < n) × NeedsBy m calls f k)
        at None below decides =
            inl (decides (needs_in unburdened) (none_below m n (needs_in calls.needs) few) tt)
        at (Some k) below decides =
            inr (
              k,
              below,
              decides (needs_in (only k calls.needs)) (one_below m n calls.needs k few below)
                  (one_kept calls.needs k (omega (arith, few, below))),
            )
