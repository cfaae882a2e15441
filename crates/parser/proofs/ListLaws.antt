-- What lists of type words, names and declarations derive, by the next token.
use Rattle.std.proofs.Common.{◌≡◌, ℕ, List, [], ◌∷◌, ◌++◌, refl, ◌∙◌, true, false}
use Rattle.std.specs.Prelude.{Result, Ok, Err}
use Rattle.tokens.specs.declared.located_tokens.Punctuator.TheVariants as punctuator
use Rattle.tokens.specs.declared.located_tokens.Token.{Token}
use Rattle.tokens.specs.declared.located_tokens.Token.TheVariants as token
use Rattle.tokens.specs.declared.located_tokens.Keyword.TheVariants as keyword
use Rattle.grammar.specs.declared.diagnostics.ParseFault.{ParseFault}
use Rattle.grammar.specs.Faults.{nested_count}
use Rattle.grammar.specs.Grammar.{Item, AName, AKeyword, Exactly, More, Part, Role, Symbol, Types, is_lexical_error, is_punctuator, is_keyword, enters}
use Rattle.parser.specs.declared.roles.Declared.{Declared}
use Rattle.parser.specs.declared.roles.Declared.TheVariants as kind
use Rattle.parser.specs.Matching.{Matches}
use Rattle.parser.specs.ScopedCursors.{UnreadPosition, ScopedCursor, next_at}
use Rattle.parser.specs.Roles.{role_of}
use Rattle.parser.specs.Segment.{Derives, DerivesItem, FailsAt, Refused}
use Rattle.parser.proofs.Parts.{Chooses}
use Rattle.parser.proofs.Productions.{chooses_any, chosen}
use Rattle.parser.proofs.Segments.{fails_behind, joined, refused_map, stay}
use Rattle.parser.specs.Declarations.{IsInFunction, declaration_items, declarations_of, names_items}

-- the symbol is replaced by these items, whatever follows the next token, and nothing is nested
pub record Gives (symbol : Symbol) (next : Token) (items : List Item) : Type 0 where
  pub chosen : Chooses symbol next items
  pub plain : (after : Token) → enters symbol next after ≡ false

pub replaces : (at : UnreadPosition) (depth : ℕ) (symbol : Symbol) (items : List Item) →
    is_lexical_error (next_at at).token ≡ false →
    Gives symbol (next_at at).token items →
    Derives depth (Part symbol ∷ []) items [] [] at at
replaces at depth symbol items sound gives =
    chosen at depth symbol items [] (chooses_any sound gives.chosen) (λ after more. gives.plain after)

-- The choices.

pub types_more : (t : Token) → is_keyword keyword.Type t ≡ true →
    Gives Types t (AKeyword keyword.Type ∷ Part Types ∷ [])
types_more (token.Keyword keyword.Type) is = record { chosen = λ after. refl; plain = λ after. refl }
types_more t is = absurd (cc)

pub types_end : (t : Token) → is_keyword keyword.Type t ≡ false → Gives Types t []
types_end (token.Keyword keyword.Type) other = absurd (cc)
types_end t other = record { chosen = λ after. refl; plain = λ after. refl }

pub names_more : (role : Role) (t : Token) → is_punctuator punctuator.Comma t ≡ true →
    Gives (More role) t (Exactly punctuator.Comma ∷ AName role ∷ Part (More role) ∷ [])
names_more role (token.Punctuator punctuator.Comma) is = record { chosen = λ after. refl; plain = λ after. refl }
names_more role t is = absurd (cc)

pub names_end : (role : Role) (t : Token) → is_punctuator punctuator.Comma t ≡ false → Gives (More role) t []
names_end role (token.Punctuator punctuator.Comma) other = absurd (cc)
names_end role t other = record { chosen = λ after. refl; plain = λ after. refl }

pub declarations_more : (declared : Declared) (t : Token) → IsInFunction declared → is_keyword keyword.Type t ≡ true →
    Gives (declarations_of declared) t (declaration_items declared ++ Part (declarations_of declared) ∷ [])
declarations_more kind.Externals t never is = absurd never
declarations_more kind.Parameters t never is = absurd never
declarations_more kind.TypedParameters (token.Keyword keyword.Type) h is =
    record { chosen = λ after. refl; plain = λ after. refl }
declarations_more kind.TypedParameters t h is = absurd (cc)
declarations_more kind.Locals (token.Keyword keyword.Type) h is =
    record { chosen = λ after. refl; plain = λ after. refl }
declarations_more kind.Locals t h is = absurd (cc)

pub declarations_end : (declared : Declared) (t : Token) → IsInFunction declared → is_keyword keyword.Type t ≡ false →
    Gives (declarations_of declared) t []
declarations_end kind.Externals t never other = absurd never
declarations_end kind.Parameters t never other = absurd never
declarations_end kind.TypedParameters (token.Keyword keyword.Type) h other = absurd (cc)
declarations_end kind.TypedParameters t h other = record { chosen = λ after. refl; plain = λ after. refl }
declarations_end kind.Locals (token.Keyword keyword.Type) h other = absurd (cc)
declarations_end kind.Locals t h other = record { chosen = λ after. refl; plain = λ after. refl }

-- Segments, over items of which none ends a nested production.

abbrev pub LeaveNesting : List Item → Type 0
LeaveNesting below = (stack : List Item) → nested_count (below ++ stack) ≡ nested_count stack

-- one segment after another, with items left below it
pub goes_on : (depth : ℕ) (front mid pending below : List Item) (at now there : UnreadPosition) → LeaveNesting below →
    Derives depth front (mid ++ below) [] [] at now → Derives depth mid pending [] [] now there →
    Derives depth front (pending ++ below) [] [] at there
goes_on depth front mid pending below at now there unnested a b =
    joined depth depth front mid pending below [] [] [] [] at now there a b (λ stack same. unnested stack ∙ same)

-- after a segment the symbol in front is replaced
pub opens_on : (depth : ℕ) (front : List Item) (symbol : Symbol) (items : List Item) (at now : UnreadPosition) →
    is_lexical_error (next_at now).token ≡ false → Gives symbol (next_at now).token items →
    Derives depth front (Part symbol ∷ []) [] [] at now → Derives depth front (items ++ []) [] [] at now
opens_on depth front symbol items at now sound gives a =
    goes_on depth front (Part symbol ∷ []) items [] at now now (λ stack. refl) a
    (replaces now depth symbol items sound gives)

-- a refusal after a segment
pub leaves : (used : ℕ) (front mid below : List Item) (at now : UnreadPosition) (f : ParseFault) → LeaveNesting below →
    ((depth : ℕ) → Derives depth front (mid ++ below) [] [] at now) →
    Refused (λ d. (depth : ℕ) → FailsAt depth mid [] now d) ⊥ used f →
    Refused (λ d. (depth : ℕ) → FailsAt depth front [] at d) ⊥ used f
leaves used front mid below at now f unnested a =
    refused_map used (λ d. (depth : ℕ) → FailsAt depth mid [] now d) (λ d. (depth : ℕ) → FailsAt depth front [] at d) ⊥
    ⊥ f
    (λ d fails depth. fails_behind depth depth front mid below [] [] [] at now d (a depth)
    (λ stack same. unnested stack ∙ same) (fails depth)) (λ same. same)

-- after a comma of a list
pub more_behind : (depth : ℕ) (role : Role) (at now there : UnreadPosition) →
    is_lexical_error (next_at now).token ≡ false →
    is_punctuator punctuator.Comma (next_at now).token ≡ true →
    Derives depth (Part (More role) ∷ []) (Part (More role) ∷ []) [] [] at now →
    Derives depth (Exactly punctuator.Comma ∷ []) [] [] [] now there →
    Derives depth (Part (More role) ∷ []) (AName role ∷ Part (More role) ∷ []) [] [] at there
more_behind depth role at now there sound is a b =
    goes_on depth (Part (More role) ∷ []) (Exactly punctuator.Comma ∷ []) [] (AName role ∷ Part (More role) ∷ []) at now
    there (λ stack. refl)
    (opens_on depth (Part (More role) ∷ []) (More role) (Exactly punctuator.Comma ∷ AName role ∷ Part (More role) ∷ [])
    at now sound (names_more role (next_at now).token is) a) b

-- from these items to those, however many constructs are open
abbrev pub Goes : List Item → List Item → UnreadPosition → UnreadPosition → Type 0
Goes front pending at there = (depth : ℕ) → Derives depth front pending [] [] at there

-- the first item
pub starts : (item : Item) (below : List Item) (at there : UnreadPosition) → LeaveNesting below →
    DerivesItem item [] [] at there →
    Goes (item ∷ below) below at there
starts item below at there unnested b depth =
    goes_on depth (item ∷ below) (item ∷ []) [] below at at there unnested (stay at depth (item ∷ below) []) (b depth)

-- the next item
pub item_on : (front : List Item) (item : Item) (below : List Item) (at now there : UnreadPosition) →
    LeaveNesting below →
    Goes front (item ∷ below) at now → DerivesItem item [] [] now there →
    Goes front below at there
item_on front item below at now there unnested a b depth =
    goes_on depth front (item ∷ []) [] below at now there unnested (a depth) (b depth)

-- The last call's answer, after a segment that left the items that it matches.
pub handed_on : {A : Type 0} (r : Result A ParseFault) (front mid : List Item) (at now there : ScopedCursor) →
    Goes front (mid ++ []) at.position now.position → Matches r mid (λ x. []) now there →
    Matches r front (λ x. []) at there
handed_on (Ok x) front mid at now there a b =
    λ depth. goes_on depth front mid [] [] at.position now.position there.position (λ stack. refl) (a depth) (b depth)
handed_on (Err e) front mid at now there a b = leaves _ front mid [] at.position now.position e (λ stack. refl) a b

-- Lists of names, and declarations.

pub name_first : (declared : Declared) (at there : UnreadPosition) →
    DerivesItem (AName (role_of declared)) [] [] at there →
    Goes (names_items declared) (Part (More (role_of declared)) ∷ Exactly punctuator.Semicolon ∷ []) at there
name_first declared at there b =
    starts (AName (role_of declared)) (Part (More (role_of declared)) ∷ Exactly punctuator.Semicolon ∷ []) at there
    (λ stack. refl) b

pub names_then : (declared : Declared) (at now there : UnreadPosition) →
    DerivesItem (AName (role_of declared)) [] [] at now →
    DerivesItem (Part (More (role_of declared))) [] [] now there →
    Goes (names_items declared) (Exactly punctuator.Semicolon ∷ []) at there
names_then declared at now there a b =
    item_on (names_items declared) (Part (More (role_of declared))) (Exactly punctuator.Semicolon ∷ []) at now there
    (λ stack. refl)
    (name_first declared at now a) b

pub type_first : (declared : Declared) (at there : UnreadPosition) →
    DerivesItem (AKeyword keyword.Type) [] [] at there →
    Goes (declaration_items declared) (Part Types ∷ names_items declared) at there
type_first declared at there b =
    starts (AKeyword keyword.Type) (Part Types ∷ names_items declared) at there (λ stack. refl) b

pub types_then : (declared : Declared) (at now there : UnreadPosition) →
    DerivesItem (AKeyword keyword.Type) [] [] at now →
    DerivesItem (Part Types) [] [] now there → Goes (declaration_items declared) (names_items declared) at there
types_then declared at now there a b =
    item_on (declaration_items declared) (Part Types) (names_items declared) at now there (λ stack. refl)
    (type_first declared at now a) b
