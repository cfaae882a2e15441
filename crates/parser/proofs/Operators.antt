-- The levels of binary operators, and which of their productions a token chooses.
use Rattle.std.proofs.Common.{◌≡◌, ℕ, ◌+◌, ◌<◌, ◌≤◌, [], ◌∷◌, refl, subst, Bool, true, false, arith}
use Rattle.std.proofs.lemmas.Bool.Decides.{nat_tests}
use Rattle.std.specs.Prelude.{Option, Some, None, nat_le, nat_lt, ◌==◌, if◌then◌else◌}
use Rattle.tokens.specs.declared.located_tokens.Punctuator.{Punctuator}
use Rattle.tokens.specs.declared.located_tokens.Punctuator.TheVariants as punctuator
use Rattle.tokens.specs.declared.located_tokens.Token.{Token}
use Rattle.tokens.specs.declared.located_tokens.Token.TheVariants as token
use Rattle.grammar.specs.declared.operators.BinaryOperator.{BinaryOperator as AnOperator}
use Rattle.arith.specs.declared.operators.Op.{Op}
use Rattle.grammar.specs.Grammar.{Exactly, Level, Make, Operate, Part, Tail, Unary, choice, is_punctuator}
use Rattle.grammar.specs.Operators.{binary_of, if_at, operator_at}
use Rattle.grammar.specs.Laws.OperatorTokens.{operator_of}
use Rattle.grammar.specs.Laws.Climbing.{if_from, operator_from}
use Rattle.grammar.specs.declared.operators.TheConstants.{UNARY_LEVEL}
use Rattle.parser.proofs.Productions.{same_self}

abbrev is_within : Option AnOperator → Bool
is_within None = true
is_within (Some b) = nat_lt b.level UNARY_LEVEL

all_within : (m : Punctuator) → is_within (binary_of m) ≡ true
all_within punctuator.OrOr = refl
all_within m = refl

-- all are looser than the unary ones
pub looser_than_unary : (t : Token) (b : AnOperator) → operator_of t ≡ Some b → b.level < UNARY_LEVEL
looser_than_unary (token.Punctuator m) b is =
    let within : nat_lt b.level UNARY_LEVEL ≡ true =
    subst (λ (o : Option AnOperator). is_within o ≡ true) is (all_within m) in
    grind (arith, nat_tests)
looser_than_unary t b is = absurd (cc)

same_level : (n : ℕ) → (n == n) ≡ true
same_level n = grind (arith, nat_tests)

other_level : (k n : ℕ) → k < n → (k == n) ≡ false
other_level k n less = grind (arith, nat_tests)

looser : (n k : ℕ) → k < n → nat_le n k ≡ false
looser n k less = grind (arith, nat_tests)

is_at : (n k : ℕ) → nat_le n k ≡ true → n ≤ k
is_at n k e = grind (arith, nat_tests)

is_below : (n k : ℕ) → nat_le n k ≡ false → k < n
is_below n k e = grind (arith, nat_tests)

-- an operator is one of its own level
pub at_its_own : (t : Token) (b : AnOperator) → operator_of t ≡ Some b → operator_at b.level t ≡ Some b.op
at_its_own (token.Punctuator m) b is =
    let spelled : binary_of m ≡ Some b = is in rw spelled (rw (same_level b.level) refl)
at_its_own t b is = absurd (cc)

-- the operator found from a level on is the token's, and of that level or a tighter one
pub found : (n : ℕ) (t : Token) (b : AnOperator) → operator_from n t ≡ Some b → (operator_of t ≡ Some b) × (n ≤ b.level)
found n t b is = by (operator_of t) is
  where
    tested : (c : AnOperator) (test : Bool) → nat_le n c.level ≡ test → (if test then Some c else None) ≡ Some b →
        (Some c ≡ Some b) × (n ≤ b.level)
    tested c true e h =
        let same : c ≡ b = cc in
        let fits : n ≤ c.level = is_at n c.level e in (h, subst (λ (d : AnOperator). n ≤ d.level) same fits)
    tested c false e h = absurd (cc)

    by : (o : Option AnOperator) → if_from n o ≡ Some b → (o ≡ Some b) × (n ≤ b.level)
    by None h = absurd (cc)
    by (Some c) h = tested c (nat_le n c.level) refl h

-- if none is found from a level on, the token's is of a looser level
pub all_looser : (n : ℕ) (t : Token) (b : AnOperator) → operator_from n t ≡ None → operator_of t ≡ Some b → b.level < n
all_looser n t b none is = by (operator_of t) none is
  where
    tested : (test : Bool) → nat_le n b.level ≡ test → (if test then Some b else None) ≡ None → b.level < n
    tested true e h = absurd (cc)
    tested false e h = is_below n b.level e

    by : (o : Option AnOperator) → if_from n o ≡ None → o ≡ Some b → b.level < n
    by None h same = absurd (cc)
    by (Some c) h same =
        let it : c ≡ b = cc in
        tested (nat_le n b.level) refl
        (subst (λ (d : AnOperator). (if nat_le n d.level then Some d else None) ≡ None) it h)

-- none is of the level of unary operators, or past it
pub none_past : (n : ℕ) (t : Token) → UNARY_LEVEL ≤ n → operator_from n t ≡ None
none_past n t past = by (operator_of t) (looser_than_unary t)
  where
    by : (o : Option AnOperator) → ((b : AnOperator) → o ≡ Some b → b.level < UNARY_LEVEL) → if_from n o ≡ None
    by None most = refl
    by (Some b) most =
        let level : b.level < UNARY_LEVEL = most b refl in
        let less : b.level < n = omega arith in rw (looser n b.level less) refl

-- if none is found from a level on, there is none of any tighter level
pub none_at : (n l : ℕ) (t : Token) → operator_from n t ≡ None → n ≤ l → operator_at l t ≡ None
none_at n l (token.Punctuator m) none tighter = by (binary_of m) (λ b is. all_looser n (token.Punctuator m) b none is)
  where
    by : (o : Option AnOperator) → ((b : AnOperator) → o ≡ Some b → b.level < n) → if_at l o ≡ None
    by None looser_ = refl
    by (Some b) looser_ =
        let less : b.level < n = looser_ b refl in
        let far : b.level < l = omega arith in rw (other_level b.level l far) refl
none_at n l t none tighter = refl

-- What the levels are replaced by.

pub level_choice : (n : ℕ) (t after : Token) → n < UNARY_LEVEL →
    choice (Level n) t after ≡ Some (Part (Level (n + 1)) ∷ Part (Tail n) ∷ [])
level_choice n t after small = let test : nat_lt n UNARY_LEVEL ≡ true = below n small in rw test refl
  where
    below : (n : ℕ) → n < UNARY_LEVEL → nat_lt n UNARY_LEVEL ≡ true
    below n small = grind (arith, nat_tests)

pub last_choice : (n : ℕ) (t after : Token) → UNARY_LEVEL ≤ n → choice (Level n) t after ≡ Some (Part Unary ∷ [])
last_choice n t after last = let test : nat_lt n UNARY_LEVEL ≡ false = above n last in rw test refl
  where
    above : (n : ℕ) → UNARY_LEVEL ≤ n → nat_lt n UNARY_LEVEL ≡ false
    above n last = grind (arith, nat_tests)

pub no_operator : (n : ℕ) (t after : Token) → operator_at n t ≡ None → choice (Tail n) t after ≡ Some []
no_operator n (token.Punctuator m) after none = rw none refl
no_operator n t after none = refl

pub record SpellsOperator (n : ℕ) (o : Op) (t : Token) : Type 0 where
  pub m : Punctuator
  pub is : t ≡ token.Punctuator m
  pub choice_is : (after : Token) →
      choice (Tail n) t after ≡ Some (Exactly m ∷ Part (Level (n + 1)) ∷ Make (Operate o) ∷ Part (Tail n) ∷ [])
  pub fits : is_punctuator m t ≡ true

pub spells : (n : ℕ) (o : Op) (t : Token) → operator_at n t ≡ Some o → SpellsOperator n o t
spells n o (token.Punctuator m) is = record { m = m; is = refl; choice_is = λ after. rw is refl; fits = same_self m }
spells n o t is = absurd (cc)
