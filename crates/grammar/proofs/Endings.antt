-- A derivation ends: each step makes it lighter.
use Rattle.std.proofs.Common.{◌≡◌, ℕ, zero, suc, ◌+◌, ◌<◌, ◌≤◌, List, [], ◌∷◌, ◌++◌, refl, sym, subst, Bool, true, false, arith, lt-ltb}
use Rattle.std.proofs.lemmas.Bool.Decides.{nat_tests}
use Rattle.std.specs.Prelude.{Option, Some, None, nat_lt, nat_le, if◌then◌else◌, ◌*◌, ◌-◌}
use Rattle.tokens.specs.declared.located_tokens.LocatedToken.{LocatedToken}
use Rattle.tokens.specs.declared.located_tokens.Punctuator.{Punctuator}
use Rattle.tokens.specs.declared.located_tokens.Punctuator.TheVariants as punctuator
use Rattle.tokens.specs.declared.located_tokens.Token.{Token}
use Rattle.tokens.specs.declared.located_tokens.Token.TheVariants as token
use Rattle.tokens.specs.declared.located_tokens.Keyword.TheVariants as keyword
use Rattle.arith.specs.declared.operators.Op.{Op}
use Rattle.grammar.specs.declared.operators.StoreOp.{StoreOp}
use Rattle.grammar.specs.Derivation.{State, PartialTree, Definition, step, stack_step, stepped, derived, next_token, token_after_next}
use Rattle.grammar.specs.Laws.StateParts.{state}
use Rattle.grammar.specs.Grammar.{Symbol, Source, Head, Expression, Level, Tail, Unary, Primary, Item, Exactly, AKeyword, AName, AConstant, AnEnd, Part, Make, Close, Production, choice, assignment_or, tail_production, is_lexical_error, unary_level}
use Rattle.grammar.specs.Operators.{operator_at, store_of}
use Rattle.grammar.specs.Scope.{Scope}
use Rattle.grammar.proofs.AfterSteps.{IfStepped, if_matched, if_named, if_constant, if_replaced, if_sound}
use Rattle.grammar.proofs.Runs.{stays}
use Rattle.grammar.proofs.Weight.{cost, costs, credit_of, credit, weight}

abbrev load : List Item → ℕ
load stack = costs stack + credit stack

symbol_small : (symbol : Symbol) → credit_of symbol ≤ 40
symbol_small Source = omega arith
symbol_small symbol = omega arith

credit_small : (stack : List Item) → credit stack ≤ 40
credit_small [] = omega arith
credit_small (Part symbol ∷ stack) = symbol_small symbol
credit_small (item ∷ stack) = omega arith

-- a production is lighter than its symbol; one that is empty is that of a symbol with the most credit
abbrev is_lighter : Symbol → Production → Bool
is_lighter symbol None = true
is_lighter symbol (Some []) = nat_le 40 (credit_of symbol)
is_lighter symbol (Some (item ∷ items)) =
    nat_lt (costs (item ∷ items) + credit (item ∷ items)) (cost (Part symbol) + credit_of symbol)

tail_lighter : (n : ℕ) (o : Option Op) (m : Punctuator) → is_lighter (Tail n) (Some (tail_production n o m)) ≡ true
tail_lighter n None m = refl
tail_lighter n (Some op) m = refl

assignment_lighter : (o : Option StoreOp) (m : Punctuator) →
    is_lighter Expression (Some (assignment_or o m)) ≡ true
assignment_lighter None m = refl
assignment_lighter (Some op) m = refl

less : (m n : ℕ) → nat_lt m n ≡ true → m < n
less m n e = grind (arith, nat_tests)

most : (m n : ℕ) → nat_le m n ≡ true → m ≤ n
most m n e = grind (arith, nat_tests)

level_lighter : (n : ℕ) (b : Bool) → nat_lt n unary_level ≡ b →
    is_lighter (Level n) (if b then Some (Part (Level (n + 1)) ∷ Part (Tail n) ∷ []) else Some (Part Unary ∷ [])) ≡ true
level_lighter n true e =
    let small : n < unary_level = less n unary_level e in
    lt-ltb (2 + (10 + 2 * (unary_level - (n + 1)))) (1 + (10 + 2 * (unary_level - n))) (omega arith)
level_lighter n false e = lt-ltb 10 (1 + (10 + 2 * (unary_level - n))) (omega arith)

head_lighter : (t after : Token) → is_lighter Head (choice Head t after) ≡ true
head_lighter (token.Name name) (token.Punctuator punctuator.OpenRound) = refl
head_lighter t after = refl

primary_lighter : (t after : Token) → is_lighter Primary (choice Primary t after) ≡ true
primary_lighter (token.Name name) (token.Punctuator punctuator.OpenRound) = refl
primary_lighter (token.Punctuator punctuator.OpenRound) after = refl
primary_lighter t after = refl

lighter : (symbol : Symbol) (t after : Token) → is_lighter symbol (choice symbol t after) ≡ true
lighter Head t after = head_lighter t after
lighter Expression (token.Name name) (token.Punctuator m) = assignment_lighter (store_of m) m
lighter Expression t after = refl
lighter (Level n) t after = level_lighter n (nat_lt n unary_level) refl
lighter (Tail n) (token.Punctuator m) after = tail_lighter n (operator_at n (token.Punctuator m)) m
lighter (Tail n) t after = refl
lighter Primary t after = primary_lighter t after
lighter symbol (token.Punctuator punctuator.Plus) after = refl
lighter symbol (token.Keyword keyword.Type) after = refl
lighter symbol t after = refl

costs-append : (items stack : List Item) → costs (items ++ stack) ≡ costs items + costs stack
costs-append [] stack = omega arith
costs-append (item ∷ items) stack = omega (arith, costs-append items stack)

credit_front : (item : Item) (items stack : List Item) → credit (item ∷ (items ++ stack)) ≡ credit (item ∷ items)
credit_front (Part symbol) items stack = refl
credit_front item items stack = refl

cost_least : (symbol : Symbol) → 1 ≤ cost (Part symbol)
cost_least Source = omega arith
cost_least symbol = omega arith

replaced_lighter : (symbol : Symbol) (items stack : List Item) → is_lighter symbol (Some items) ≡ true →
    load (items ++ stack) < load (Part symbol ∷ stack)
replaced_lighter symbol [] stack h =
    let full : 40 ≤ credit_of symbol = most 40 (credit_of symbol) h in
    omega (arith, full, credit_small stack, cost_least symbol)
replaced_lighter symbol (item ∷ items) stack h =
    let lower : costs (item ∷ items) + credit (item ∷ items) < cost (Part symbol) + credit_of symbol =
    less (costs (item ∷ items) + credit (item ∷ items)) (cost (Part symbol) + credit_of symbol) h in
    omega (arith, lower, costs-append items stack, credit_front item items stack)

abbrev Falls : ℕ → State → Type 0
Falls n t = weight t < n

-- the item that was matched is gone, and so is its token
falls_of : (stack : List Item) (rest : List LocatedToken) (values : List PartialTree) (scope : Scope)
    (functions : List Definition) →
    IfStepped (Falls (weight (state stack rest values scope functions)))
    (stack_step stack (state stack rest values scope functions))
falls_of [] rest values scope functions = tt
falls_of (Exactly m ∷ stack) [] values scope functions = tt
falls_of (Exactly m ∷ stack) (next ∷ rest) values scope functions =
    if_matched (Falls _) _ stack (state stack (next ∷ rest) values scope functions)
    (λ e. omega (arith, credit_small stack))
falls_of (AKeyword w ∷ stack) [] values scope functions = tt
falls_of (AKeyword w ∷ stack) (next ∷ rest) values scope functions =
    if_matched (Falls _) _ stack (state stack (next ∷ rest) values scope functions)
    (λ e. omega (arith, credit_small stack))
falls_of (AName role ∷ stack) [] values scope functions = tt
falls_of (AName role ∷ stack) (next ∷ rest) values scope functions =
    if_named (Falls _) role _ stack (state stack (next ∷ rest) values scope functions)
    (λ n e. omega (arith, credit_small stack))
falls_of (AnEnd ∷ stack) [] values scope functions = omega (arith, credit_small stack)
falls_of (AnEnd ∷ stack) (next ∷ rest) values scope functions =
    if_matched (Falls _) _ stack (state stack (next ∷ rest) values scope functions)
    (λ e. omega (arith, credit_small stack))
falls_of (AConstant ∷ stack) [] values scope functions = tt
falls_of (AConstant ∷ stack) (next ∷ rest) values scope functions =
    if_constant (Falls _) _ stack (state stack (next ∷ rest) values scope functions)
    (λ n e. omega (arith, credit_small stack))
falls_of (Part symbol ∷ stack) rest values scope functions =
    if_replaced (Falls _) _ stack (state stack rest values scope functions)
    (λ items e. omega (
      arith,
      replaced_lighter symbol items stack
          (subst (λ (p : Production). is_lighter symbol p ≡ true) e
          (lighter symbol (next_token rest) (token_after_next rest))),
    ))
falls_of (Make rule ∷ stack) rest values scope functions = omega (arith, credit_small stack)
falls_of (Close ∷ stack) rest values scope functions = omega (arith, credit_small stack)

pub falls : (s : State) → IfStepped (Falls (weight s)) (step s)
falls s =
    if_sound (Falls (weight s)) (is_lexical_error (next_token s.rest)) _
    (falls_of s.stack s.rest s.values s.scope s.functions)

-- a state from which no step leads on
abbrev pub IsFinal : State → Type 0
IsFinal s = step s ≡ None

pub final_stays : (s : State) → IsFinal s → stepped s ≡ s
final_stays s e = rw e refl

pub stays_final : (n : ℕ) (s : State) → IsFinal s → derived n s ≡ s
stays_final n s e = stays n s (final_stays s e)

-- as many steps as the weight lead to the end
ends_at : (n : ℕ) (s : State) (o : Option State) → step s ≡ o → weight s ≤ n → IfStepped (Falls (weight s)) o →
    ((t : State) (m : ℕ) → suc m ≡ n → weight t ≤ m → IsFinal (derived m t)) → IsFinal (derived n s)
ends_at n s None e small h again = subst (λ (t : State). IsFinal t) (sym (stays_final n s e)) e
ends_at zero s (Some t) e small h again = absurd (omega arith)
ends_at (suc n) s (Some t) e small h again =
    let there : stepped s ≡ t = rw e refl in
    subst (λ (u : State). IsFinal (derived n u)) (sym there) (again t n refl (omega arith))

pub ends : (n : ℕ) (s : State) → weight s ≤ n → IsFinal (derived n s)
ends zero s small = ends_at zero s (step s) refl small (falls s) (λ t m e h. absurd (omega arith))
ends (suc n) s small =
    ends_at (suc n) s (step s) refl small (falls s)
    (λ t m e h. subst (λ (k : ℕ). IsFinal (derived k t)) (sym (pred_same m n e)) (ends n t (omega arith)))
  where
    pred_same : (m n : ℕ) → suc m ≡ suc n → m ≡ n
    pred_same m n e = omega arith
