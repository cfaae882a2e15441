-- A source without faults has few items pending at once: its nested productions are few, and each has few of its own.
use Rattle.std.proofs.Common.{◌≡◌, ℕ, zero, suc, ◌+◌, ◌*◌, ◌<◌, ◌≤◌, List, [], ◌∷◌, ◌++◌, refl, subst, Bool, true, false, arith, length, length-append, lt-ltb}
use Rattle.std.proofs.lemmas.Bool.Decides.{nat_tests}
use Rattle.std.specs.Prelude.{Option, Some, None, ◌-◌, ◌&&◌, nat_le, nat_lt, if◌then◌else◌}
use Rattle.tokens.specs.declared.located_tokens.LocatedToken.{LocatedToken}
use Rattle.tokens.specs.declared.located_tokens.Punctuator.{Punctuator}
use Rattle.tokens.specs.declared.located_tokens.Punctuator.TheVariants as punctuator
use Rattle.tokens.specs.declared.located_tokens.Token.{Token}
use Rattle.tokens.specs.declared.located_tokens.Token.TheVariants as token
use Rattle.tokens.specs.declared.located_tokens.Keyword.TheVariants as keyword
use Rattle.arith.specs.declared.operators.Op.{Op}
use Rattle.grammar.specs.declared.operators.StoreOp.{StoreOp}
use Rattle.grammar.specs.declared.diagnostics.Code.TheVariants as fault_code
use Rattle.grammar.specs.Derivation.{State, initial_state, derived, stack_step, stepped, next_token, token_after_next}
use Rattle.grammar.specs.Faults.{fault, faults_at, faults_in, nested_count, nesting_faults, only_if, stack_faults, unexpected_token, unexpected_tokens}
use Rattle.grammar.specs.Grammar.{Symbol, Source, Types, Head, More, Parameters, ParameterTypes, FunctionBlock, Block, Declarations, Statements, Statement, ElsePart, Back, Expression, Level, Tail, Unary, Primary, Arguments, MoreArguments, Item, Exactly, AKeyword, AName, AConstant, AnEnd, Part, Make, Close, Production, choice, enters, assignment_or, tail_production, is_lexical_error, unary_level}
use Rattle.grammar.specs.NameLimits.{most_nested}
use Rattle.grammar.specs.Operators.{operator_at, store_of}
use Rattle.grammar.specs.Profile.{Profile}
use Rattle.grammar.proofs.AfterSteps.{IfStepped, if_matched, if_named, if_constant, if_replaced, after_step}
use Rattle.grammar.proofs.Runs.{append_empty}
use Rattle.grammar_laws.proofs.ClosedNesting.{nested_close}
use Rattle.grammar_laws.specs.ClosedNesting.{closes, nested_entered}

-- how many items are pending at most for a symbol, before a nested production is chosen
abbrev height : Symbol → ℕ
height Source = 8
height Types = 2
height Head = 7
height (More role) = 3
height Parameters = 3
height ParameterTypes = 6
height FunctionBlock = 1
height Block = 1
height Declarations = 6
height Statements = 26
height Statement = 25
height ElsePart = 26
height Back = 23
height Expression = 23
height (Level n) = 3 + 2 * (unary_level - n)
height (Tail n) = 5 + 2 * (unary_level - (n + 1))
height Unary = 3
height Primary = 3
height Arguments = 25
height MoreArguments = 25

abbrev height_of : Item → ℕ
height_of (Part symbol) = height symbol
height_of item = 1

-- the items of a production of this height are no higher, but for those inside of a nested one
abbrev is_low : ℕ → List Item → Bool
is_low h [] = true
is_low h (item ∷ rest) = nat_lt (height_of item + length rest) (h + 30 * nested_count rest + 1) && is_low h rest

abbrev is_low_made : Symbol → Production → Bool
is_low_made symbol None = true
is_low_made symbol (Some items) = is_low (height symbol) items

both : (a b : Bool) → a ≡ true → b ≡ true → (a && (b && true)) ≡ true
both true true e f = refl
both true false e f = absurd cc
both false b e f = absurd cc

less : (m n : ℕ) → nat_lt m n ≡ true → m < n
less m n e = grind (arith, nat_tests)

level_low : (n : ℕ) (b : Bool) → nat_lt n unary_level ≡ b →
    is_low_made (Level n) (if b then Some (Part (Level (n + 1)) ∷ Part (Tail n) ∷ []) else Some (Part Unary ∷ []))
    ≡ true
level_low n true e =
    let small : n < unary_level = less n unary_level e in
    both _ _
    (lt-ltb (3 + 2 * (unary_level - (n + 1)) + 1) (3 + 2 * (unary_level - n) + 30 * 0 + 1) (omega (arith, small)))
    (lt-ltb (5 + 2 * (unary_level - (n + 1)) + 0) (3 + 2 * (unary_level - n) + 30 * 0 + 1) (omega (arith, small)))
level_low n false e = one _ (lt-ltb (3 + 0) (3 + 2 * (unary_level - n) + 30 * 0 + 1) (omega arith))
  where
    one : (a : Bool) → a ≡ true → (a && true) ≡ true
    one true e = refl
    one false e = absurd cc

four : (a b c d : Bool) → a ≡ true → b ≡ true → c ≡ true → d ≡ true → (a && (b && (c && (d && true)))) ≡ true
four true true true true e f g h = refl
four a b c false e f g h = absurd cc
four a b false d e f g h = absurd cc
four a false c d e f g h = absurd cc
four false b c d e f g h = absurd cc

tail_low : (n : ℕ) (o : Option Op) (m : Punctuator) → is_low_made (Tail n) (Some (tail_production n o m)) ≡ true
tail_low n None m = refl
tail_low n (Some op) m =
    let h : ℕ = 5 + 2 * (unary_level - (n + 1)) in
    four _ _ _ _
    (lt-ltb (1 + 3) (h + 30 * 0 + 1) (omega arith))
    (lt-ltb (3 + 2 * (unary_level - (n + 1)) + 2) (h + 30 * 0 + 1) (omega arith))
    (lt-ltb (1 + 1) (h + 30 * 0 + 1) (omega arith))
    (lt-ltb (h + 0) (h + 30 * 0 + 1) (omega arith))

assignment_low : (o : Option StoreOp) (m : Punctuator) → is_low_made Expression (Some (assignment_or o m)) ≡ true
assignment_low None m = refl
assignment_low (Some op) m = refl

head_low : (next after : Token) → is_low_made Head (choice Head next after) ≡ true
head_low (token.Name name) (token.Punctuator punctuator.OpenRound) = refl
head_low next after = refl

primary_low : (next after : Token) → is_low_made Primary (choice Primary next after) ≡ true
primary_low (token.Name name) (token.Punctuator punctuator.OpenRound) = refl
primary_low (token.Punctuator punctuator.OpenRound) after = refl
primary_low next after = refl

choice_low : (symbol : Symbol) (next after : Token) → is_low_made symbol (choice symbol next after) ≡ true
choice_low Head next after = head_low next after
choice_low Expression (token.Name name) (token.Punctuator m) = assignment_low (store_of m) m
choice_low Expression next after = refl
choice_low (Level n) next after = level_low n (nat_lt n unary_level) refl
choice_low (Tail n) (token.Punctuator m) after = tail_low n (operator_at n (token.Punctuator m)) m
choice_low (Tail n) next after = refl
choice_low Primary next after = primary_low next after
choice_low symbol (token.Punctuator punctuator.Plus) after = refl
choice_low symbol (token.Keyword keyword.Type) after = refl
choice_low symbol next after = refl

-- the items pending are no more than 30 for each nested production, and for the file
abbrev Within : List Item → Type 0
Within [] = Unit {0}
Within (item ∷ stack) = (height_of item + length stack ≤ 30 * (nested_count stack + 1)) × Within stack

nested_count-append : (items stack : List Item) →
    nested_count (items ++ stack) ≡ nested_count items + nested_count stack
nested_count-append [] stack = omega arith
nested_count-append (Close ∷ items) stack = omega (arith, nested_count-append items stack)
nested_count-append (item ∷ items) stack = nested_count-append items stack

and_left : (a b : Bool) → (a && b) ≡ true → a ≡ true
and_left true b e = refl
and_left false b e = absurd cc

and_right : (a b : Bool) → (a && b) ≡ true → b ≡ true
and_right true b e = e
and_right false b e = absurd cc

within_more : (h : ℕ) (items stack : List Item) → is_low h items ≡ true →
    h + length stack ≤ 30 * (nested_count stack + 1) → Within stack → Within (items ++ stack)
within_more h [] stack low most within = within
within_more h (item ∷ items) stack low most within =
    let own : height_of item + length items < h + 30 * nested_count items + 1 =
    less (height_of item + length items) (h + 30 * nested_count items + 1)
    (and_left (nat_lt (height_of item + length items) (h + 30 * nested_count items + 1)) (is_low h items) low) in (
      omega (arith, own, most, length-append items stack, nested_count-append items stack),
      within_more h items stack
          (and_right (nat_lt (height_of item + length items) (h + 30 * nested_count items + 1)) (is_low h items) low)
          most within,
    )

pub record IsLow (s : State) : Type 0 where
  within : Within s.stack
  pub nested : nested_count s.stack ≤ 64

-- a nested production was allowed: fewer are open
allowed : (symbol : Symbol) (s : State) (b : Bool) → enters symbol (next_token s.rest) (token_after_next s.rest) ≡ b →
    nesting_faults symbol s ≡ [] → nested_count s.stack ≤ 64 → nested_entered b + nested_count s.stack ≤ 64
unfolding most_nested
allowed symbol s false e clean most = omega (arith, most)
allowed symbol s true e clean most = by (nat_le most_nested (nested_count s.stack)) refl quiet
  where
    quiet : only_if (nat_le most_nested (nested_count s.stack)) (fault s.rest fault_code.NestedTooDeeply ∷ []) ≡ []
    quiet = subst (λ (b : Bool). only_if b
        (only_if (nat_le most_nested (nested_count s.stack)) (fault s.rest fault_code.NestedTooDeeply ∷ [])) ≡ []) e
        clean

    by : (b : Bool) → nat_le most_nested (nested_count s.stack) ≡ b →
        only_if b (fault s.rest fault_code.NestedTooDeeply ∷ []) ≡ [] → nested_entered true + nested_count s.stack ≤ 64
    by true f none = absurd cc
    by false f none =
        let limit : most_nested ≡ 64 = refl in
        let fewer : nested_count s.stack < most_nested = grind (arith, nat_tests) in omega (arith, fewer, limit)

module _ (profile : Profile) where
  low_step : (stack : List Item) (s : State) → stack_faults profile stack s ≡ [] → Within stack →
      nested_count stack ≤ 64 → IfStepped IsLow (stack_step stack s)
  low_step [] s clean within nested = tt
  low_step (Exactly m ∷ stack) s clean within nested =
      if_matched IsLow _ stack s (λ e. record { within = within.1; nested = nested })
  low_step (AKeyword w ∷ stack) s clean within nested =
      if_matched IsLow _ stack s (λ e. record { within = within.1; nested = nested })
  low_step (AName role ∷ stack) s clean within nested =
      if_named IsLow role _ stack s (λ n e. record { within = within.1; nested = nested })
  low_step (AConstant ∷ stack) s clean within nested =
      if_constant IsLow _ stack s (λ n e. record { within = within.1; nested = nested })
  low_step (AnEnd ∷ stack) s clean within nested =
      if_matched IsLow _ stack s (λ e. record { within = within.1; nested = nested })
  low_step (Part symbol ∷ stack) s clean within nested =
      if_replaced IsLow _ stack s
      (λ items e. record {
        within = within_more (height symbol) items stack
            (subst (λ (p : Production). is_low_made symbol p ≡ true) e
            (choice_low symbol (next_token s.rest) (token_after_next s.rest)))
            within.0 within.1;
        nested =
            let own : nested_count items ≡ nested_entered (enters symbol (next_token s.rest) (token_after_next s.rest))
            = subst (λ (p : Production). closes p
            ≡ nested_entered (enters symbol (next_token s.rest) (token_after_next s.rest))) e
            (nested_close symbol (next_token s.rest) (token_after_next s.rest)) in
            omega (
              arith,
              own,
              nested_count-append items stack,
              allowed symbol (record s { stack = stack }) _ refl clean nested,
            );
      })
  low_step (Make rule ∷ stack) s clean within nested = record { within = within.1; nested = nested }
  low_step (Close ∷ stack) s clean within nested = record { within = within.1; nested = omega (arith, nested) }

  -- no fault of a state is one of its first item
  clean_stack : (s : State) (b : Bool) → is_lexical_error (next_token s.rest) ≡ b → faults_at profile s ≡ [] →
      stack_faults profile s.stack s ≡ []
  clean_stack s true e clean = absurd (
      let no : unexpected_token s.rest ≡ [] =
      subst (λ (b : Bool). (if b then unexpected_token s.rest else stack_faults profile s.stack s
      ++ unexpected_tokens s.stack s.rest (stack_step s.stack s)) ≡ []) e clean in cc)
  clean_stack s false e clean =
      (append_empty (stack_faults profile s.stack s) (unexpected_tokens s.stack s.rest (stack_step s.stack s))
      (subst (λ (b : Bool). (if b then unexpected_token s.rest else stack_faults profile s.stack s
      ++ unexpected_tokens s.stack s.rest (stack_step s.stack s)) ≡ []) e clean)).0

  stays_low : (n : ℕ) (s : State) → faults_in profile n s ≡ [] → IsLow s → IsLow (derived n s)
  stays_low zero s clean low = low
  stays_low (suc n) s clean low =
      let parts = append_empty (faults_at profile s) (faults_in profile n (stepped s)) clean in
      stays_low n (stepped s) parts.1
      (after_step IsLow s
      (low_step s.stack s (clean_stack s (is_lexical_error (next_token s.rest)) refl parts.0) low.within low.nested)
      low)

  few_items : (stack : List Item) → Within stack → nested_count stack ≤ 64 → length stack ≤ 2048
  few_items [] within nested = omega arith
  few_items (Close ∷ stack) within nested = omega (arith, within.0, nested)
  few_items (item ∷ stack) within nested = omega (arith, within.0, nested, some item)
    where
      some : (item : Item) → 1 ≤ height_of item
      some (Part symbol) = by symbol
        where
          by : (symbol : Symbol) → 1 ≤ height symbol
          by Source = omega arith
          by symbol = omega arith
      some item = omega arith

  -- after some steps without a fault
  pub few_pending : (n : ℕ) (located_tokens : List LocatedToken) →
      faults_in profile n (initial_state located_tokens) ≡ [] →
      length (derived n (initial_state located_tokens)).stack ≤ 2048
  few_pending n located_tokens clean =
      let low : IsLow (derived n (initial_state located_tokens)) =
      stays_low n (initial_state located_tokens) clean
      (record { within = (omega arith, tt); nested = omega arith }) in
      few_items (derived n (initial_state located_tokens)).stack low.within low.nested
