-- What a production adds to a segment of the derivation: its choice, its punctuators, the trees made and the nesting
-- closed.
use Rattle.std.proofs.Common.{◌≡◌, ℕ, ◌≤◌, List, [], ◌∷◌, ◌++◌, refl, Bool, true, false, arith, eqb}
use Rattle.std.proofs.lemmas.Bool.Decides.{nat_tests}
use Rattle.std.specs.Prelude.{Some, None, nat_le}
use Rattle.tokens.specs.Tokens.{is_last}
use Rattle.tokens.specs.declared.located_tokens.LocatedToken.{LocatedToken}
use Rattle.tokens.specs.declared.located_tokens.Punctuator.{Punctuator}
use denote.Enum.Bare.{sameb}
use Rattle.tokens.specs.contracts.located_tokens.Punctuator.{the_type}
use Rattle.tokens.specs.declared.located_tokens.Token.{Token}
use denote.Enum.Declared.{tag_of}
use Rattle.grammar.specs.declared.diagnostics.Code.TheVariants as fault_code
use Rattle.grammar.specs.declared.diagnostics.ParseFault.TheVariants as parse_fault
use Rattle.grammar.specs.Compiled.{diagnostic}
use Rattle.grammar.specs.Derivation.{PartialTree, name_of_token, next_token}
use Rattle.grammar.specs.Faults.{fault, nested_count, unexpected_token_code, only_if}
use Rattle.grammar.specs.Grammar.{Item, AName, Part, Role, Symbol, choice, is_lexical_error, is_punctuator, enters}
use Rattle.grammar.specs.declared.name_limits.TheConstants.{MOST_NESTED}
use Rattle.grammar.specs.NameLimits.{most_nested}
use Rattle.grammar.proofs.Firsts.{no_part, too_deep, too_deep_name}
use Rattle.grammar.proofs.Steps.{IsWanted, part}
use Rattle.parser.specs.ScopedCursors.{UnreadPosition, after_at, next_at, scope_at}
use Rattle.parser.specs.Stopping.{stop_with}
use Rattle.parser.specs.Segment.{Derives, FailsAt}
use Rattle.parser.proofs.Parts.{Chooses as ChoosesAny, beyond, punctuator_is}
use Rattle.parser.proofs.Segments.{fails_at_next, stand, next_behind}
use Rattle.tokens.specs.Cursors.{IsNearTo}

-- Punctuators.

eqb_self : (n : ℕ) → eqb n n ≡ true
eqb_self n = grind (arith, nat_tests)

pub same_self : (m : Punctuator) → sameb the_type m m ≡ true
same_self m = eqb_self (tag_of the_type m)

pub punctuator_sound : (m : Punctuator) (t : Token) → is_punctuator m t ≡ true → is_lexical_error t ≡ false
punctuator_sound m t is = rw (punctuator_is m t is) refl

-- The choice of a production.

-- whatever it represents, this is so of the token after the next one
abbrev pub WithAfter : UnreadPosition → (Token → Type 0) → Type 0
WithAfter at P = (after : Token) → (is_last (next_at at).token ≡ false → after ≡ after_at at) → P after

-- the next token is no lexical error, and the symbol is replaced by these items
pub record Chooses (at : UnreadPosition) (symbol : Symbol) (items : List Item) : Type 0 where
  pub sound : is_lexical_error (next_at at).token ≡ false
  pub is : WithAfter at (λ after. choice symbol (next_at at).token after ≡ Some items)

-- it is, whatever follows the next token
pub chooses_any : {at : UnreadPosition} {symbol : Symbol} {items : List Item} →
    is_lexical_error (next_at at).token ≡ false → ChoosesAny symbol (next_at at).token items → Chooses at symbol items
chooses_any sound any = record { sound = sound; is = λ after more. any after }

-- the production isn't nested
abbrev pub EntersNone : UnreadPosition → Symbol → Type 0
EntersNone at symbol = WithAfter at (λ after. enters symbol (next_at at).token after ≡ false)

-- it enters one
abbrev pub IsNested : UnreadPosition → Symbol → Type 0
IsNested at symbol = WithAfter at (λ after. enters symbol (next_at at).token after ≡ true)

free : (n : ℕ) (opened : Bool) (rest : List LocatedToken) → opened ≡ false →
    only_if opened (only_if (nat_le most_nested n) (fault rest fault_code.NestedTooDeeply ∷ [])) ≡ []
free n opened rest none = rw none refl

-- a production that isn't nested is chosen
pub chosen : (at : UnreadPosition) (depth : ℕ) (symbol : Symbol) (items : List Item) (kept : List PartialTree) →
    Chooses at symbol items → EntersNone at symbol →
    Derives depth (Part symbol ∷ []) items kept kept at at
chosen at depth symbol items kept c none = stand at depth (Part symbol ∷ []) items kept kept (λ tail b. record {
  passes = λ profile stack values functions depths.
      part profile symbol items stack (next_at at ∷ tail) (kept ++ values) (scope_at at) functions c.sound
      (c.is (next_token tail) (next_behind at tail b))
      (free (nested_count stack) (enters symbol (next_at at).token (next_token tail)) (next_at at ∷ tail)
      (none (next_token tail) (next_behind at tail b)));
})

-- one that would be nested too deeply, by a punctuator or a keyword
pub token_too_deep : (at : UnreadPosition) (used : ℕ) (near : IsNearTo at.lookahead.cursor used) (depth : ℕ)
    (symbol : Symbol) (item : Item) (items : List Item) → Chooses at symbol (item ∷ items) → IsNested at symbol →
    IsWanted item (next_at at).token → MOST_NESTED ≤ depth →
    FailsAt depth (Part symbol ∷ []) [] at
    (stop_with (parse_fault.Source (diagnostic (next_at at).line fault_code.NestedTooDeeply)) used)
token_too_deep at used near depth symbol item items c opened fits deep =
    fails_at_next depth (Part symbol ∷ []) [] at _ used near (λ tail b profile stack values functions depths.
    too_deep profile symbol item items stack (next_at at) tail values (scope_at at) functions c.sound
    (c.is (next_token tail) (next_behind at tail b)) fits
    (beyond (enters symbol (next_at at).token (next_token tail)) (nested_count stack) (next_at at ∷ tail)
    (opened (next_token tail) (next_behind at tail b)) (rw depths deep)))

-- by a name
pub name_too_deep : (at : UnreadPosition) (used : ℕ) (near : IsNearTo at.lookahead.cursor used) (depth : ℕ)
    (symbol : Symbol)
    (role : Role) (name : List ℕ) (items : List Item) → Chooses at symbol (AName role ∷ items) → IsNested at symbol →
    name_of_token (next_at at).token ≡ Some name → MOST_NESTED ≤ depth →
    FailsAt depth (Part symbol ∷ []) [] at
    (stop_with (parse_fault.Source (diagnostic (next_at at).line fault_code.NestedTooDeeply)) used)
name_too_deep at used near depth symbol role name items c opened fits deep =
    fails_at_next depth (Part symbol ∷ []) [] at _ used near (λ tail b profile stack values functions depths.
    too_deep_name profile symbol role name items stack (next_at at) tail values (scope_at at) functions c.sound
    (c.is (next_token tail) (next_behind at tail b)) fits
    (beyond (enters symbol (next_at at).token (next_token tail)) (nested_count stack) (next_at at ∷ tail)
    (opened (next_token tail) (next_behind at tail b)) (rw depths deep)))

-- no production fits
pub none_chosen : (at : UnreadPosition) (used : ℕ) (near : IsNearTo at.lookahead.cursor used) (depth : ℕ)
    (symbol : Symbol) →
    is_lexical_error (next_at at).token ≡ false →
    WithAfter at (λ after. choice symbol (next_at at).token after ≡ None) →
    EntersNone at symbol →
    FailsAt depth (Part symbol ∷ []) [] at
    (stop_with (parse_fault.Source (diagnostic (next_at at).line (unexpected_token_code (next_at at).token))) used)
none_chosen at used near depth symbol sound none opened =
    fails_at_next depth (Part symbol ∷ []) [] at _ used near (λ tail b profile stack values functions depths.
    no_part profile symbol stack (next_at at ∷ tail) values (scope_at at) functions sound
    (none (next_token tail) (next_behind at tail b))
    (free (nested_count stack) (enters symbol (next_at at).token (next_token tail)) (next_at at ∷ tail)
    (opened (next_token tail) (next_behind at tail b))))
