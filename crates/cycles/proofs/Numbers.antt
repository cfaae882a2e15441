-- Numbers within spans.
use Rattle.std.specs.Prelude.{◌≡◌, ℕ, zero, suc, ◌+◌, ◌≤◌, Option, Some, None, IfSome, unwrap_or}
use Rattle.std.proofs.Common.{arith, refl, subst}
use Rattle.code.specs.Meaning.{Completion, Through, Returns}
use Rattle.cycles.specs.declared.spans.Span.{Span}
use Rattle.cycles.specs.declared.spans.Ends.{Ends}
use Rattle.cycles.specs.Spans.{IsWithin, MayTake, ◌⊕◌, anything, either, exactly, most_of_any, most_of_both, most_of_either}
use Rattle.cycles.specs.Ends.{after, before, behind, end_of, followed, one_branch, one_of, repeated}

-- One after the other.

most_of_sum : (a b : Option ℕ) (m n : ℕ) → IfSome a (λ k. m ≤ k) → IfSome b (λ k. n ≤ k) →
    IfSome (most_of_both a b) (λ k. m + n ≤ k)
most_of_sum (Some j) (Some k) m n first second = omega (arith, first, second)
most_of_sum (Some j) None m n first second = tt
most_of_sum None b m n first second = tt

pub within_sum : (s t : Span) (m n : ℕ) → IsWithin s m → IsWithin t n → IsWithin (s ⊕ t) (m + n)
within_sum s t m n first second = record {
  least = omega (arith, first.least, second.least);
  most = most_of_sum s.most t.most m n first.most second.most;
}

pub before_takes : (s : Span) (o : Option Span) (m n : ℕ) → IsWithin s m → MayTake o n → MayTake (before s o) (m + n)
before_takes s None m n first second = absurd second
before_takes s (Some t) m n first second = within_sum s t m n first second

pub behind_takes : (a o : Option Span) (m n : ℕ) → MayTake a m → MayTake o n → MayTake (behind a o) (m + n)
behind_takes None o m n first second = absurd first
behind_takes (Some s) o m n first second = before_takes s o m n first second

-- nothing more
pub within_none : (n : ℕ) → n ≡ 0 → IsWithin (exactly 0) n
within_none n none = record { least = omega (arith, none); most = omega (arith, none) }

pub takes_none : (o : Option Span) (m n : ℕ) → MayTake o m → IsWithin (exactly 0) n → MayTake o (m + n)
takes_none o m n first second =
    let same : m ≡ m + n = omega (arith, second.most) in
    subst (λ (k : ℕ). MayTake o k) same first

pub within_exactly : (n : ℕ) → IsWithin (exactly n) n
within_exactly n = record { least = omega arith; most = omega arith }

-- three, one after the other
most_of_three : (a b c : Option ℕ) (n : ℕ) → IfSome (most_of_both a (most_of_both b c)) (λ k. n ≤ k) →
    IfSome (most_of_both (most_of_both a b) c) (λ k. n ≤ k)
most_of_three (Some i) (Some j) (Some k) n h = omega (arith, h)
most_of_three (Some i) (Some j) None n h = tt
most_of_three (Some i) None c n h = tt
most_of_three None b c n h = tt

within_three : (s t r : Span) (n : ℕ) → IsWithin (s ⊕ (t ⊕ r)) n → IsWithin ((s ⊕ t) ⊕ r) n
within_three s t r n h =
    record { least = omega (arith, h.least); most = most_of_three s.most t.most r.most n h.most }

pub before_both : (s t : Span) (o : Option Span) (n : ℕ) → MayTake (before s (before t o)) n →
    MayTake (before (s ⊕ t) o) n
before_both s t None n h = absurd h
before_both s t (Some r) n h = within_three s t r n h

-- One or the other.

most_of_first : (a b : Option ℕ) (n : ℕ) → IfSome a (λ k. n ≤ k) → IfSome (most_of_either a b) (λ k. n ≤ k)
most_of_first (Some j) (Some k) n h = omega (arith, h)
most_of_first (Some j) None n h = tt
most_of_first None b n h = tt

most_of_second : (a b : Option ℕ) (n : ℕ) → IfSome b (λ k. n ≤ k) → IfSome (most_of_either a b) (λ k. n ≤ k)
most_of_second (Some j) (Some k) n h = omega (arith, h)
most_of_second (Some j) None n h = tt
most_of_second None b n h = tt

pub within_first : (s t : Span) (n : ℕ) → IsWithin s n → IsWithin (either s t) n
within_first s t n h =
    record { least = omega (arith, h.least); most = most_of_first s.most t.most n h.most }

pub within_second : (s t : Span) (n : ℕ) → IsWithin t n → IsWithin (either s t) n
within_second s t n h =
    record { least = omega (arith, h.least); most = most_of_second s.most t.most n h.most }

pub first_takes : (a b : Option Span) (n : ℕ) → MayTake a n → MayTake (one_of a b) n
first_takes None b n h = absurd h
first_takes (Some s) None n h = h
first_takes (Some s) (Some t) n h = within_first s t n h

pub second_takes : (a b : Option Span) (n : ℕ) → MayTake b n → MayTake (one_of a b) n
second_takes None b n h = h
second_takes (Some s) None n h = absurd h
second_takes (Some s) (Some t) n h = within_second s t n h

pub anything_takes : (o : Option Span) (n : ℕ) → MayTake o n → IsWithin (unwrap_or o anything) n
anything_takes None n h = absurd h
anything_takes (Some s) n h = h

pub within_anything : (n : ℕ) → IsWithin anything n
within_anything n = record { least = omega arith; most = tt }

-- with nothing after it
most_of_all : (a : Option ℕ) (n : ℕ) → IfSome (most_of_both a (Some 0)) (λ k. n ≤ k) → IfSome a (λ k. n ≤ k)
most_of_all (Some j) n h = omega (arith, h)
most_of_all None n h = tt

pub within_all : (s : Span) (n : ℕ) → IsWithin (s ⊕ exactly 0) n → IsWithin s n
within_all s n h = record { least = omega (arith, h.least); most = most_of_all s.most n h.most }

-- The ends of statements.

pub end_after : (s : Span) (ends : Ends) (flow : Completion) (n : ℕ) → MayTake (before s (end_of ends flow)) n →
    MayTake (end_of (after s ends) flow) n
end_after s ends Through n h = h
end_after s ends (Returns x) n h = h

pub end_before : (s : Span) (ends : Ends) (flow : Completion) (n : ℕ) → MayTake (end_of (after s ends) flow) n →
    MayTake (before s (end_of ends flow)) n
end_before s ends Through n h = h
end_before s ends (Returns x) n h = h

pub end_followed : (ends next : Ends) (flow : Completion) (m n : ℕ) → MayTake ends.through m →
    MayTake (end_of next flow) n →
    MayTake (end_of (followed ends next) flow) (m + n)
end_followed ends next Through m n first second = behind_takes ends.through next.through m n first second
end_followed ends next (Returns x) m n first second =
    second_takes ends.returns (behind ends.through next.returns) (m + n)
    (behind_takes ends.through next.returns m n first second)

pub end_of_first : (first second : Ends) (flow : Completion) (n : ℕ) → MayTake (end_of first flow) n →
    MayTake (end_of (one_branch first second) flow) n
end_of_first first second Through n h = first_takes first.through second.through n h
end_of_first first second (Returns x) n h = first_takes first.returns second.returns n h

pub end_of_second : (first second : Ends) (flow : Completion) (n : ℕ) → MayTake (end_of second flow) n →
    MayTake (end_of (one_branch first second) flow) n
end_of_second first second Through n h = second_takes first.through second.through n h
end_of_second first second (Returns x) n h = second_takes first.returns second.returns n h

-- Any number of turns.

most_of_no_turn : (a : Option ℕ) → IfSome (most_of_any a) (λ k. 0 ≤ k)
most_of_no_turn (Some zero) = omega arith
most_of_no_turn (Some (suc n)) = tt
most_of_no_turn None = tt

within_no_turn : (turn : Option Span) → IsWithin (repeated turn) 0
within_no_turn None = within_exactly 0
within_no_turn (Some s) = record { least = omega arith; most = most_of_no_turn s.most }

-- no turn before it
pub no_turn_takes : (turn o : Option Span) (n : ℕ) → MayTake o n → MayTake (before (repeated turn) o) n
no_turn_takes turn o n h =
    let all : 0 + n ≡ n = omega arith in
    subst (λ (k : ℕ). MayTake (before (repeated turn) o) k) all
    (before_takes (repeated turn) o 0 n (within_no_turn turn) h)

-- what is left of a loop after the test of a turn: its end and the loop again, or the loop's end
most_by_turn : (t b w turn : ℕ) (r : Option ℕ) (n : ℕ) → turn ≡ t + (b + w) →
    IfSome (most_of_both (Some t)
    (most_of_either
    (most_of_both (Some b) (most_of_both (Some w) (most_of_both (most_of_any (Some turn)) (most_of_both (Some t) r))))
    r)) (λ k. n ≤ k) →
    IfSome (most_of_both (most_of_any (Some turn)) (most_of_both (Some t) r)) (λ k. n ≤ k)
most_by_turn t b w (suc turn) r n is h = tt
most_by_turn t b w zero None n is h = tt
most_by_turn t b w zero (Some r) n is h = omega (arith, is, h)

most_again : (t b w r : Option ℕ) (n : ℕ) →
    IfSome (most_of_both t
    (most_of_either
    (most_of_both b (most_of_both w
    (most_of_both (most_of_any (most_of_both t (most_of_both b w))) (most_of_both t r)))) r)) (λ k. n ≤ k) →
    IfSome (most_of_both (most_of_any (most_of_both t (most_of_both b w))) (most_of_both t r)) (λ k. n ≤ k)
most_again None b w r n h = tt
most_again (Some t) None w r n h = tt
most_again (Some t) (Some b) None r n h = tt
most_again (Some t) (Some b) (Some w) r n h = most_by_turn t b w (t + (b + w)) r n refl h

within_again : (test b two r : Span) (n : ℕ) →
    IsWithin (test ⊕ either (b ⊕ (two ⊕ (repeated (Some (test ⊕ (b ⊕ two))) ⊕ (test ⊕ r)))) r) n →
    IsWithin (repeated (Some (test ⊕ (b ⊕ two))) ⊕ (test ⊕ r)) n
within_again test b two r n h = record {
  least = omega (arith, h.least);
  most = most_again test.most b.most two.most r.most n h.most;
}

pub again_takes : (test two : Span) (through o : Option Span) (n : ℕ) →
    MayTake (before test
    (one_of
    (behind through (before two (before (repeated (before test (behind through (Some two)))) (before test o)))) o)) n →
    MayTake (before (repeated (before test (behind through (Some two)))) (before test o)) n
again_takes test two None o n h = no_turn_takes None (before test o) n h
again_takes test two (Some b) None n h = absurd h
again_takes test two (Some b) (Some r) n h = within_again test b two r n h
