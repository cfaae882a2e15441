-- A derivation that is done has passed all tokens of its source, and the other way round; and how many these are.
use Rattle.std.proofs.Common.{◌≡◌, ℕ, zero, suc, ◌+◌, ◌≤◌, List, [], ◌∷◌, ◌++◌, refl, ap, ◌∙◌, subst, sym, Bool, true, false, cond, arith, length, length-take, drop, append-nil}
use Rattle.std.specs.Prelude.{Option, Some, None, nat_lt, if◌then◌else◌}
use Rattle.tokens.specs.InputElement.{InputElement, Nothing, Space, Unclosed, Lexeme, input_element}
use Rattle.tokens.specs.Source.{source}
use Rattle.tokens.specs.TokenLimits.{most_source_bytes}
use Rattle.tokens.specs.Tokens.{UnreadSource, ahead_after, ahead_of_source, is_last, located, located_tokens, tokens, tokens_of_element, tokens_within}
use Rattle.tokens.specs.declared.located_tokens.LocatedToken.{LocatedToken}
use Rattle.tokens.specs.declared.located_tokens.Token.{Token}
use Rattle.tokens.specs.declared.located_tokens.Token.TheVariants as token
use Rattle.tokens.specs.declared.located_tokens.Keyword.{Keyword}
use Rattle.tokens.specs.declared.located_tokens.Keyword.TheVariants as keyword
use Rattle.tokens.specs.declared.located_tokens.Punctuator.{Punctuator}
use Rattle.tokens.specs.declared.located_tokens.Punctuator.TheVariants as punctuator
use Rattle.arith.specs.declared.operators.Op.{Op}
use Rattle.grammar.specs.declared.operators.StoreOp.{StoreOp}
use Rattle.grammar.specs.Derivation.{State, constant_value, derived, initial_state, is_end, name_of_token, next_token, stack_step, stepped, token_after_next}
use Rattle.grammar.specs.Grammar.{Item, Exactly, AKeyword, AName, AConstant, AnEnd, Part, Make, Close, Production, Symbol, Source, Head, Expression, Level, Tail, Unary, Primary, assignment_or, choice, is_keyword, is_punctuator, tail_production, unary_level}
use Rattle.grammar.specs.Operators.{operator_at, store_of}
use Rattle.grammar.proofs.AfterSteps.{IfStepped, if_matched, if_named, if_constant, if_replaced, after_step}
use Rattle.grammar.proofs.LastTokens.{EndsWithLast, tokens_end}

-- the last token is where the tokens end, and they end so
abbrev EndAtLast : List LocatedToken → Type 0
EndAtLast [] = Unit {0}
EndAtLast (t ∷ others) = (is_last t.token ≡ true → others ≡ []) × EndAtLast others

record Ended (rest : List LocatedToken) : Type 0 where
  alone : EndAtLast rest
  last : EndsWithLast rest

-- the end, and what leads to it, are below all other items
abbrev is_bottom : Item → Bool
is_bottom AnEnd = true
is_bottom (Part Source) = true
is_bottom item = false

abbrev is_grounded : List Item → Bool
is_grounded [] = false
is_grounded (item ∷ []) = is_bottom item
is_grounded (item ∷ other ∷ stack) = if is_bottom item then false else is_grounded (other ∷ stack)

abbrev has_none : List Item → Bool
has_none [] = true
has_none (item ∷ items) = if is_bottom item then false else has_none items

-- if no items are left, there are no tokens, and the other way round
abbrev Meet : List Item → List LocatedToken → Type 0
Meet [] rest = rest ≡ []
Meet (item ∷ stack) rest = (is_grounded (item ∷ stack) ≡ true) × Ended rest

abbrev Meets : State → Type 0
Meets s = Meet s.stack s.rest

-- a source's production is grounded, and others have none of these items
abbrev fits : Bool → Production → Bool
fits bottom None = true
fits true (Some items) = is_grounded items
fits false (Some items) = has_none items

level_fits : (n : ℕ) (b : Bool) →
    fits false (if b then Some (Part (Level (n + 1)) ∷ Part (Tail n) ∷ []) else Some (Part Unary ∷ [])) ≡ true
level_fits n true = refl
level_fits n false = refl

tail_fits : (n : ℕ) (o : Option Op) (m : Punctuator) → fits false (Some (tail_production n o m)) ≡ true
tail_fits n None m = refl
tail_fits n (Some op) m = refl

assignment_fits : (o : Option StoreOp) (m : Punctuator) → fits false (Some (assignment_or o m)) ≡ true
assignment_fits None m = refl
assignment_fits (Some op) m = refl

expression_fits : (next after : Token) → fits false (choice Expression next after) ≡ true
expression_fits (token.Name name) (token.Punctuator m) = assignment_fits (store_of m) m
expression_fits next after = refl

primary_fits : (next after : Token) → fits false (choice Primary next after) ≡ true
primary_fits (token.Name name) (token.Punctuator punctuator.OpenRound) = refl
primary_fits (token.Punctuator punctuator.OpenRound) after = refl
primary_fits next after = refl

head_fits : (next after : Token) → fits false (choice Head next after) ≡ true
head_fits (token.Name name) (token.Punctuator punctuator.OpenRound) = refl
head_fits next after = refl

choice_fits : (symbol : Symbol) (next after : Token) → fits (is_bottom (Part symbol)) (choice symbol next after) ≡ true
choice_fits Head next after = head_fits next after
choice_fits Expression next after = expression_fits next after
choice_fits (Level n) next after = level_fits n (nat_lt n unary_level)
choice_fits (Tail n) (token.Punctuator m) after = tail_fits n (operator_at n (token.Punctuator m)) m
choice_fits (Tail n) next after = refl
choice_fits Primary next after = primary_fits next after
choice_fits symbol (token.Punctuator punctuator.Plus) after = refl
choice_fits symbol (token.Keyword keyword.Type) after = refl
choice_fits symbol next after = refl

no_true : false ≡ true → ⊥
no_true e = cc

-- past a token that isn't the last

punctuator_is_not_last : (m : Punctuator) (t : Token) → is_punctuator m t ≡ true → is_last t ≡ false
punctuator_is_not_last m token.End h = absurd cc
punctuator_is_not_last m (token.Fault lexical_error) h = absurd cc
punctuator_is_not_last m t h = refl

word_is_not_last : (w : Keyword) (t : Token) → is_keyword w t ≡ true → is_last t ≡ false
word_is_not_last w token.End h = absurd cc
word_is_not_last w (token.Fault lexical_error) h = absurd cc
word_is_not_last w t h = refl

name_is_not_last : (t : Token) (name : List ℕ) → name_of_token t ≡ Some name → is_last t ≡ false
name_is_not_last token.End name h = absurd cc
name_is_not_last (token.Fault lexical_error) name h = absurd cc
name_is_not_last t name h = refl

constant_is_not_last : (t : Token) (value : ℕ) → constant_value t ≡ Some value → is_last t ≡ false
constant_is_not_last token.End value h = absurd cc
constant_is_not_last (token.Fault lexical_error) value h = absurd cc
constant_is_not_last t value h = refl

fewer : (rest : List LocatedToken) → is_last (next_token rest) ≡ false → Ended rest → Ended (drop 1 rest)
fewer [] other h = absurd h.last
fewer (t ∷ []) other h = absurd (no_true (sym other ∙ h.last))
fewer (t ∷ u ∷ rest) other h = record { alone = h.alone.1; last = h.last }

-- without an item in front that isn't at the bottom
above : (item : Item) (stack : List Item) (rest : List LocatedToken) → is_bottom item ≡ false →
    is_grounded (item ∷ stack) ≡ true → Ended rest → Meet stack rest
above item [] rest e low h = absurd (no_true (sym e ∙ low))
above item (other ∷ stack) rest e low h =
    (sym (ap (λ (b : Bool). if b then false else is_grounded (other ∷ stack)) e) ∙ low, h)

end_is_last : (t : Token) → is_end t ≡ true → is_last t ≡ true
end_is_last token.End e = refl
end_is_last t e = absurd cc

end_passed : (stack : List Item) (rest : List LocatedToken) → is_end (next_token rest) ≡ true →
    is_grounded (AnEnd ∷ stack) ≡ true → Ended rest → Meet stack (drop 1 rest)
end_passed [] [] e low h = refl
end_passed [] (t ∷ rest) e low h = h.alone.0 (end_is_last t.token e)
end_passed (other ∷ stack) rest e low h = absurd (no_true low)

under : (x : Item) (xs : List Item) → is_bottom x ≡ false → is_grounded xs ≡ true → is_grounded (x ∷ xs) ≡ true
under x [] e h = absurd (no_true h)
under x (y ∷ ys) e h = ap (λ (b : Bool). if b then false else is_grounded (y ∷ ys)) e ∙ h

none_parts : (b c : Bool) → (if b then false else c) ≡ true → (b ≡ false) × (c ≡ true)
none_parts true c e = absurd (no_true e)
none_parts false c e = (refl, e)

grounded_above : (items : List Item) (item : Item) (stack : List Item) → has_none items ≡ true →
    is_grounded (item ∷ stack) ≡ true → is_grounded (items ++ item ∷ stack) ≡ true
grounded_above [] item stack none h = h
grounded_above (x ∷ items) item stack none h =
    let parts = none_parts (is_bottom x) (has_none items) none in
    under x (items ++ item ∷ stack) parts.0 (grounded_above items item stack parts.1 h)

meets_low : (items : List Item) (rest : List LocatedToken) → is_grounded items ≡ true → Ended rest → Meet items rest
meets_low [] rest low h = absurd (no_true low)
meets_low (item ∷ items) rest low h = (low, h)

-- an item over others, by whether it is the end or leads to it
abbrev is_over : Bool → List Item → Bool
is_over bottom [] = bottom
is_over bottom (item ∷ stack) = if bottom then false else is_grounded (item ∷ stack)

over_is : (item : Item) (stack : List Item) → is_over (is_bottom item) stack ≡ is_grounded (item ∷ stack)
over_is item [] = refl
over_is item (other ∷ stack) = refl

made_meets : (b : Bool) (items stack : List Item) (rest : List LocatedToken) → fits b (Some items) ≡ true →
    is_over b stack ≡ true → Ended rest → Meet (items ++ stack) rest
made_meets true items [] rest fit low h =
    subst (λ (xs : List Item). Meet xs rest) (sym (append-nil items)) (meets_low items rest fit h)
made_meets false items [] rest fit low h = absurd (no_true low)
made_meets true items (item ∷ stack) rest fit low h = absurd (no_true low)
made_meets false items (item ∷ stack) rest fit low h =
    meets_low (items ++ item ∷ stack) rest (grounded_above items item stack fit low) h

step_meets : (stack : List Item) (s : State) → Meet stack s.rest → IfStepped Meets (stack_step stack s)
step_meets [] s h = tt
step_meets (Exactly m ∷ stack) s h =
    if_matched Meets _ stack s
    (λ e. above (Exactly m) stack (drop 1 s.rest) refl h.0
    (fewer s.rest (punctuator_is_not_last m (next_token s.rest) e) h.1))
step_meets (AKeyword w ∷ stack) s h =
    if_matched Meets _ stack s
    (λ e. above (AKeyword w) stack (drop 1 s.rest) refl h.0
    (fewer s.rest (word_is_not_last w (next_token s.rest) e) h.1))
step_meets (AName role ∷ stack) s h =
    if_named Meets role _ stack s
    (λ n e. above (AName role) stack (drop 1 s.rest) refl h.0
    (fewer s.rest (name_is_not_last (next_token s.rest) n e) h.1))
step_meets (AConstant ∷ stack) s h =
    if_constant Meets _ stack s
    (λ n e. above AConstant stack (drop 1 s.rest) refl h.0
    (fewer s.rest (constant_is_not_last (next_token s.rest) n e) h.1))
step_meets (AnEnd ∷ stack) s h = if_matched Meets _ stack s (λ e. end_passed stack s.rest e h.0 h.1)
step_meets (Part symbol ∷ stack) s h =
    if_replaced Meets _ stack s
    (λ items e. made_meets (is_bottom (Part symbol)) items stack s.rest
    (subst (λ (p : Production). fits (is_bottom (Part symbol)) p ≡ true) e
    (choice_fits symbol (next_token s.rest) (token_after_next s.rest))) (over_is (Part symbol) stack ∙ h.0) h.1)
step_meets (Make rule ∷ stack) s h = above (Make rule) stack s.rest refl h.0 h.1
step_meets (Close ∷ stack) s h = above Close stack s.rest refl h.0 h.1

run_meets : (n : ℕ) (s : State) → Meets s → Meets (derived n s)
run_meets zero s h = h
run_meets (suc n) s h = run_meets n (stepped s) (after_step Meets s (step_meets s.stack s h) h)

-- The tokens of a source.

followed_ends : (t : LocatedToken) (others : List LocatedToken) (b : Bool) → is_last t.token ≡ b → EndAtLast others →
    EndAtLast (t ∷ cond b [] others)
followed_ends t others true e h = (λ last. refl, tt)
followed_ends t others false e h = (λ last. absurd (no_true (sym e ∙ last)), h)

within_end : (n : ℕ) (ahead : UnreadSource) → EndAtLast (tokens_within n ahead)
within_end zero ahead = tt
within_end (suc n) ahead = by (input_element ahead.bytes) (λ later. within_end n later)
  where
    by : (f : InputElement) → ((later : UnreadSource) → EndAtLast (tokens_within n later)) →
        EndAtLast (tokens_of_element f ahead (tokens_within n))
    by Nothing each = (λ last. refl, tt)
    by Unclosed each = (λ last. refl, tt)
    by (Space count) each = each (ahead_after count ahead)
    by (Lexeme sign count) each =
        followed_ends (located sign count ahead) (tokens_within n (ahead_after count ahead)) (is_last sign) refl
        (each (ahead_after count ahead))

followed_few : (n : ℕ) (t : LocatedToken) (others : List LocatedToken) (b : Bool) → length others ≤ n →
    length (t ∷ cond b [] others) ≤ suc n
followed_few n t others true h = omega arith
followed_few n t others false h = omega (arith, h)

within_few : (n : ℕ) (ahead : UnreadSource) → length (tokens_within n ahead) ≤ n
within_few zero ahead = omega arith
within_few (suc n) ahead = by (input_element ahead.bytes) (λ later. within_few n later)
  where
    by : (f : InputElement) → ((later : UnreadSource) → length (tokens_within n later) ≤ n) →
        length (tokens_of_element f ahead (tokens_within n)) ≤ suc n
    by Nothing each = omega arith
    by Unclosed each = omega arith
    by (Space count) each = omega (arith, each (ahead_after count ahead))
    by (Lexeme sign count) each =
        followed_few n (located sign count ahead) (tokens_within n (ahead_after count ahead)) (is_last sign)
        (each (ahead_after count ahead))

pub few_tokens : (bytes : List ℕ) → length (tokens bytes) ≤ 1048577
unfolding tokens located_tokens
few_tokens bytes =
    omega (
      arith,
      within_few (suc (length (ahead_of_source (source bytes)).bytes)) (ahead_of_source (source bytes)),
      length-take most_source_bytes (source bytes),
    )

alone_at_end : (bytes : List ℕ) → EndAtLast (tokens bytes)
unfolding tokens located_tokens
alone_at_end bytes =
    within_end (suc (length (ahead_of_source (source bytes)).bytes)) (ahead_of_source (source bytes))

meets : (n : ℕ) (bytes : List ℕ) → Meets (derived n (initial_state (tokens bytes)))
meets n bytes =
    run_meets n (initial_state (tokens bytes))
    (refl, record { alone = alone_at_end bytes; last = tokens_end bytes })

-- a derivation of which nothing is left to match has no tokens left
pub all_passed : (n : ℕ) (bytes : List ℕ) → (derived n (initial_state (tokens bytes))).stack ≡ [] →
    (derived n (initial_state (tokens bytes))).rest ≡ []
all_passed n bytes done =
    subst (λ (stack : List Item). Meet stack (derived n (initial_state (tokens bytes))).rest) done (meets n bytes)

-- and one that has no tokens left has nothing left to match
pub nothing_left : (n : ℕ) (bytes : List ℕ) → (derived n (initial_state (tokens bytes))).rest ≡ [] →
    (derived n (initial_state (tokens bytes))).stack ≡ []
nothing_left n bytes none =
    by (derived n (initial_state (tokens bytes))).stack (derived n (initial_state (tokens bytes))).rest (meets n bytes)
    none
  where
    by : (stack : List Item) (rest : List LocatedToken) → Meet stack rest → rest ≡ [] → stack ≡ []
    by [] rest h e = refl
    by (item ∷ stack) rest h e = absurd (subst (λ (l : List LocatedToken). EndsWithLast l) e h.1.last)
