-- The end is the last item of a derivation: if no tokens are left, nothing is left to derive.
use Rattle.std.proofs.Common.{◌≡◌, ℕ, zero, suc, ◌+◌, ◌<◌, List, [], ◌∷◌, ◌++◌, refl, subst, sym, Bool, true, false, arith, length, drop, append-nil}
use Rattle.std.specs.Prelude.{Option, Some, None, nat_lt, if◌then◌else◌}
use Rattle.tokens.specs.Tokens.{is_last}
use Rattle.tokens.specs.declared.located_tokens.LocatedToken.{LocatedToken}
use Rattle.tokens.specs.declared.located_tokens.Punctuator.{Punctuator}
use Rattle.tokens.specs.declared.located_tokens.Punctuator.TheVariants as punctuator
use Rattle.tokens.specs.declared.located_tokens.Token.{Token}
use Rattle.tokens.specs.declared.located_tokens.Token.TheVariants as token
use Rattle.tokens.specs.declared.located_tokens.Keyword.{Keyword}
use Rattle.tokens.specs.declared.located_tokens.Keyword.TheVariants as keyword
use Rattle.arith.specs.declared.operators.Op.{Op}
use Rattle.grammar.specs.declared.operators.StoreOp.{StoreOp}
use Rattle.grammar.specs.Derivation.{State, PartialTree, Definition, initial_state, stack_step, stepped, derived, next_token, token_after_next, name_of_token, constant_value}
use Rattle.grammar.specs.Laws.StateParts.{state}
use Rattle.grammar.specs.Faults.{Fault, faults_at}
use Rattle.grammar.specs.Grammar.{Symbol, Source, Head, Expression, Level, Tail, Unary, Primary, Item, Exactly, AKeyword, AName, AConstant, AnEnd, Part, Make, Close, Production, choice, assignment_or, tail_production, is_punctuator, is_keyword, unary_level}
use Rattle.grammar.specs.Operators.{operator_at, store_of}
use Rattle.grammar.specs.Laws.Parsing.{IsIn}
use Rattle.grammar.specs.Profile.{Profile}
use Rattle.grammar.specs.Scope.{Scope}
use Rattle.grammar.proofs.AfterSteps.{IfStepped, if_matched, if_named, if_constant, if_replaced, after_step}
use Rattle.grammar.proofs.LastTokens.{EndsWithLast}

-- the end, and what leads to it
abbrev is_bottom : Item → Bool
is_bottom AnEnd = true
is_bottom (Part Source) = true
is_bottom item = false

abbrev is_nothing : List Item → Bool
is_nothing [] = true
is_nothing (item ∷ stack) = false

-- each of these is at the bottom
abbrev at_bottom : List Item → Bool
at_bottom [] = true
at_bottom (item ∷ stack) = if is_bottom item then is_nothing stack else at_bottom stack

-- none of these is here
abbrev has_none : List Item → Bool
has_none [] = true
has_none (item ∷ items) = if is_bottom item then false else has_none items

-- a production has one at its bottom if it is that of a source, and none otherwise
abbrev fits : Bool → Production → Bool
fits bottom None = true
fits true (Some items) = at_bottom items
fits false (Some items) = has_none items

level_fits : (n : ℕ) (b : Bool) →
    fits false (if b then Some (Part (Level (n + 1)) ∷ Part (Tail n) ∷ []) else Some (Part Unary ∷ [])) ≡ true
level_fits n true = refl
level_fits n false = refl

tail_fits : (n : ℕ) (o : Option Op) (m : Punctuator) → fits false (Some (tail_production n o m)) ≡ true
tail_fits n None m = refl
tail_fits n (Some op) m = refl

assignment_fits : (o : Option StoreOp) (m : Punctuator) → fits false (Some (assignment_or o m)) ≡ true
assignment_fits None m = refl
assignment_fits (Some op) m = refl

expression_fits : (next after : Token) → fits false (choice Expression next after) ≡ true
expression_fits (token.Name name) (token.Punctuator m) = assignment_fits (store_of m) m
expression_fits next after = refl

primary_fits : (next after : Token) → fits false (choice Primary next after) ≡ true
primary_fits (token.Name name) (token.Punctuator punctuator.OpenRound) = refl
primary_fits (token.Punctuator punctuator.OpenRound) after = refl
primary_fits next after = refl

head_fits : (next after : Token) → fits false (choice Head next after) ≡ true
head_fits (token.Name name) (token.Punctuator punctuator.OpenRound) = refl
head_fits next after = refl

choice_fits : (symbol : Symbol) (next after : Token) → fits (is_bottom (Part symbol)) (choice symbol next after) ≡ true
choice_fits Head next after = head_fits next after
choice_fits Expression next after = expression_fits next after
choice_fits (Level n) next after = level_fits n (nat_lt n unary_level)
choice_fits (Tail n) (token.Punctuator m) after = tail_fits n (operator_at n (token.Punctuator m)) m
choice_fits (Tail n) next after = refl
choice_fits Primary next after = primary_fits next after
choice_fits symbol (token.Punctuator punctuator.Plus) after = refl
choice_fits symbol (token.Keyword keyword.Type) after = refl
choice_fits symbol next after = refl

no_true : false ≡ true → ⊥
no_true e = cc

none_above : (items stack : List Item) → has_none items ≡ true → at_bottom stack ≡ true →
    at_bottom (items ++ stack) ≡ true
none_above [] stack none h = h
none_above (item ∷ items) stack none h = by (is_bottom item) none (λ e. none_above items stack e h)
  where
    by : (b : Bool) → (if b then false else has_none items) ≡ true →
        (has_none items ≡ true → at_bottom (items ++ stack) ≡ true) →
        (if b then is_nothing (items ++ stack) else at_bottom (items ++ stack)) ≡ true
    by true none each = absurd (no_true none)
    by false none each = each none

items_above : (b : Bool) (items stack : List Item) → fits b (Some items) ≡ true →
    (if b then is_nothing stack else at_bottom stack) ≡ true → at_bottom (items ++ stack) ≡ true
items_above true items [] fit h = subst (λ xs. at_bottom xs ≡ true) (sym (append-nil items)) fit
items_above true items (item ∷ stack) fit h = absurd cc
items_above false items stack fit h = none_above items stack fit h

-- if no tokens are left, there is nothing left to derive; else they end with one that is the last
abbrev Left : List Item → List LocatedToken → Type 0
Left stack [] = stack ≡ []
Left stack (located_token ∷ rest) = EndsWithLast (located_token ∷ rest)

record IsGrounded (stack : List Item) (rest : List LocatedToken) : Type 0 where
  bottom : at_bottom stack ≡ true
  left : Left stack rest

abbrev Grounded : State → Type 0
Grounded s = IsGrounded s.stack s.rest

punctuator_is_not_last : (m : Punctuator) (t : Token) → is_punctuator m t ≡ true → is_last t ≡ false
punctuator_is_not_last m token.End h = absurd cc
punctuator_is_not_last m (token.Fault lexical_error) h = absurd cc
punctuator_is_not_last m t h = refl

word_is_not_last : (w : Keyword) (t : Token) → is_keyword w t ≡ true → is_last t ≡ false
word_is_not_last w token.End h = absurd cc
word_is_not_last w (token.Fault lexical_error) h = absurd cc
word_is_not_last w t h = refl

name_is_not_last : (t : Token) (name : List ℕ) → name_of_token t ≡ Some name → is_last t ≡ false
name_is_not_last token.End name h = absurd cc
name_is_not_last (token.Fault lexical_error) name h = absurd cc
name_is_not_last t name h = refl

constant_is_not_last : (t : Token) (value : ℕ) → constant_value t ≡ Some value → is_last t ≡ false
constant_is_not_last token.End value h = absurd cc
constant_is_not_last (token.Fault lexical_error) value h = absurd cc
constant_is_not_last t value h = refl

-- after a token that isn't the last there is another
left_behind : (item : Item) (stack : List Item) (rest : List LocatedToken) → is_last (next_token rest) ≡ false →
    Left (item ∷ stack) rest → Left stack (drop 1 rest)
left_behind item stack [] other h = absurd cc
left_behind item stack (located_token ∷ []) other h = absurd cc
left_behind item stack (located_token ∷ next ∷ rest) other h = h

left_at_end : (rest : List LocatedToken) (item : Item) → Left (item ∷ []) rest → Left [] (drop 1 rest)
left_at_end [] item h = refl
left_at_end (located_token ∷ []) item h = refl
left_at_end (located_token ∷ next ∷ rest) item h = h

token_leads : (item : Item) (stack : List Item) (rest : List LocatedToken) → at_bottom stack ≡ true →
    Left (item ∷ stack) rest → is_last (next_token rest) ≡ false → IsGrounded stack (drop 1 rest)
token_leads item stack rest bottom h other = record { bottom = bottom; left = left_behind item stack rest other h }

end_leads : (stack : List Item) (rest : List LocatedToken) → is_nothing stack ≡ true → Left (AnEnd ∷ stack) rest →
    IsGrounded stack (drop 1 rest)
end_leads [] rest bottom h = record { bottom = refl; left = left_at_end rest AnEnd h }
end_leads (item ∷ stack) rest bottom h = absurd cc

-- if an item is left to derive, tokens are left, whatever the items are
left_same : (item : Item) (stack items : List Item) (rest : List LocatedToken) → Left (item ∷ stack) rest →
    Left items rest
left_same item stack items [] h = absurd cc
left_same item stack items (located_token ∷ rest) h = h

step_leads : (stack : List Item) (s : State) → IsGrounded stack s.rest → IfStepped Grounded (stack_step stack s)
step_leads [] s h = tt
step_leads (Exactly m ∷ stack) s h =
    if_matched Grounded _ stack s
    (λ e. token_leads (Exactly m) stack s.rest h.bottom h.left (punctuator_is_not_last m (next_token s.rest) e))
step_leads (AKeyword w ∷ stack) s h =
    if_matched Grounded _ stack s
    (λ e. token_leads (AKeyword w) stack s.rest h.bottom h.left (word_is_not_last w (next_token s.rest) e))
step_leads (AName role ∷ stack) s h =
    if_named Grounded role _ stack s
    (λ n e. token_leads (AName role) stack s.rest h.bottom h.left (name_is_not_last (next_token s.rest) n e))
step_leads (AConstant ∷ stack) s h =
    if_constant Grounded _ stack s
    (λ n e. token_leads AConstant stack s.rest h.bottom h.left (constant_is_not_last (next_token s.rest) n e))
step_leads (AnEnd ∷ stack) s h = if_matched Grounded _ stack s (λ e. end_leads stack s.rest h.bottom h.left)
step_leads (Part symbol ∷ stack) s h =
    if_replaced Grounded _ stack s
    (λ items e. record {
      bottom = items_above (is_bottom (Part symbol)) items stack
          (subst (λ (p : Production). fits (is_bottom (Part symbol)) p ≡ true) e
          (choice_fits symbol (next_token s.rest) (token_after_next s.rest)))
          h.bottom;
      left = left_same (Part symbol) stack (items ++ stack) s.rest h.left;
    })
step_leads (Make rule ∷ stack) s h =
    record { bottom = h.bottom; left = left_same (Make rule) stack stack s.rest h.left }
step_leads (Close ∷ stack) s h = record { bottom = h.bottom; left = left_same Close stack stack s.rest h.left }

run_grounded : (n : ℕ) (s : State) → Grounded s → Grounded (derived n s)
run_grounded zero s h = h
run_grounded (suc n) s h = run_grounded n (stepped s) (after_step Grounded s (step_leads s.stack s h) h)

start_left : (located_tokens : List LocatedToken) → EndsWithLast located_tokens → Left (Part Source ∷ []) located_tokens
start_left [] h = absurd h
start_left (located_token ∷ rest) h = h

some_left : (profile : Profile) (f : Fault) (stack : List Item) (rest : List LocatedToken) (values : List PartialTree)
    (scope : Scope) (functions : List Definition) →
    Left stack rest → IsIn f (faults_at profile (state stack rest values scope functions)) → 0 < length rest
some_left profile f [] [] values scope functions left h = absurd h
some_left profile f (item ∷ stack) [] values scope functions left h = absurd cc
some_left profile f stack (located_token ∷ rest) values scope functions left h = omega arith

-- a fault is at a token
pub fault_at_token : (profile : Profile) (located_tokens : List LocatedToken) (n : ℕ) (f : Fault) →
    EndsWithLast located_tokens →
    IsIn f (faults_at profile (derived n (initial_state located_tokens))) →
    0 < length (derived n (initial_state located_tokens)).rest
fault_at_token profile located_tokens n f ends h =
    let s : State = derived n (initial_state located_tokens) in
    let grounded : IsGrounded s.stack s.rest =
    run_grounded n (initial_state located_tokens) (record { bottom = refl; left = start_left located_tokens ends }) in
    some_left profile f s.stack s.rest s.values s.scope s.functions grounded.left h
