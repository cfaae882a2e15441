-- What a part of the parser did: a segment of the derivation without a fault, or one that stops.
use Rattle.std.specs.Prelude.{ℕ, ◌≡◌, ◌<◌, ◌≤◌, List, [], ◌∷◌, ◌++◌, drop, length, true, false}
use Rattle.std.specs.Prelude.{Option, Some, None, Result, Ok, Err}
use Rattle.std.specs.Option.{option_map}
use Rattle.tokens.specs.Feed.{failed_again}
use Rattle.tokens.specs.Device.{FailureCount}
use Rattle.tokens.specs.WindowLimits.{most_taken_bytes}
use Rattle.tokens.specs.Tokens.{is_last, tokens}
use Rattle.tokens.specs.declared.located_tokens.LocatedToken.{LocatedToken}
use Rattle.grammar.specs.declared.diagnostics.Code.{Code}
use Rattle.grammar.specs.declared.diagnostics.Diagnostic.{Diagnostic}
use Rattle.grammar.specs.declared.diagnostics.ParseFault.{ParseFault}
use Rattle.grammar.specs.declared.diagnostics.ParseFault.TheVariants as parse_fault
use Rattle.grammar.specs.declared.name_limits.TheConstants.{MOST_NAMES}
use Rattle.grammar.specs.Compiled.{diagnostic}
use Rattle.grammar.specs.Derivation.{PartialTree, Definition, line_at, name_of_token, next_token}
use Rattle.grammar.specs.Laws.StateParts.{state}
use Rattle.grammar.specs.Faults.{nested_count, unexpected_token_code}
use Rattle.grammar.specs.Grammar.{Item, is_lexical_error}
use Rattle.grammar.specs.Laws.Parsing.{DerivesWithoutFault}
use Rattle.grammar.specs.Profile.{Profile}
use Rattle.parser.specs.Defining.{IsWithin}
use Rattle.parser.specs.ScopedCursors.{UnreadPosition, Lookahead, MayContinue, tokens_at, next_at, scope_at}
use Rattle.parser.specs.Stopping.{IfSource, Stop, StopsInside, most_taken, stop_with}

-- these tokens are those that a segment consumed, followed by those known at its end
pub record TakesTokens (consumed located_tokens : List LocatedToken) (there : UnreadPosition) : Type 0 where
  pub rest : List LocatedToken
  pub is : located_tokens ≡ consumed ++ rest
  pub shows : tokens_at there ≡ Some rest

-- From one position to another the derivation replaces these items in front by those, with `depth` constructs open
-- below them, and these trees by those. It consumes the same tokens whether the device's bytes are known or not.
pub record Derives (depth : ℕ) (front pending : List Item) (taken left : List PartialTree) (here there : UnreadPosition)
    : Type 0
  where
    pub consumed : List LocatedToken
    pub told : (located_tokens : List LocatedToken) → tokens_at here ≡ Some located_tokens
        → TakesTokens consumed located_tokens there
    pub follows : (rest : List LocatedToken) → MayContinue there rest → MayContinue here (consumed ++ rest)
    pub passes : (rest : List LocatedToken) → MayContinue there rest →
        (profile : Profile) (stack : List Item) (values : List PartialTree) (functions : List Definition) →
        nested_count stack ≡ depth →
        DerivesWithoutFault profile
        (state (front ++ stack) (consumed ++ rest) (taken ++ values) (scope_at here) functions)
        (state (pending ++ stack) rest (left ++ values) (scope_at there) functions)

-- if the tokens are known, the derivation from these items on stops so, with `depth` constructs open, and before a
-- further function is defined
abbrev pub FailsAt : ℕ → List Item → List PartialTree → UnreadPosition → Stop → Type 0
FailsAt depth front taken here stop =
    (located_tokens : List LocatedToken) → tokens_at here ≡ Some located_tokens →
    (profile : Profile) (stack : List Item) (values : List PartialTree) (functions : List Definition) →
    nested_count stack ≡ depth →
    StopsInside profile (state (front ++ stack) located_tokens (taken ++ values) (scope_at here) functions) stop

-- one item was matched or replaced, however many constructs are open
abbrev pub DerivesItem : Item → List Item → List PartialTree → UnreadPosition → UnreadPosition → Type 0
DerivesItem item pending left here there = (depth : ℕ) → Derives depth (item ∷ []) pending [] left here there

abbrev pub FailsItem : Item → UnreadPosition → Stop → Type 0
FailsItem item here stop = (depth : ℕ) → FailsAt depth (item ∷ []) [] here stop

-- one token was passed, and no name came into scope
pub record GoesPast (here there : UnreadPosition) : Type 0 where
  pub more : is_last (next_at here).token ≡ false
  pub next : next_at there ≡ here.lookahead.cursor.after
  pub told : (first : LocatedToken) (rest : List LocatedToken) → tokens_at here ≡ Some (first ∷ rest)
      → tokens_at there ≡ Some rest
  pub scope : scope_at there ≡ scope_at here

-- the token after the next is a lexical error, which stops any derivation
pub record HasLexicalError (here : UnreadPosition) (d : Diagnostic) : Type 0 where
  pub lexical_error : is_lexical_error here.lookahead.cursor.after.token ≡ true
  pub is : d ≡ diagnostic here.lookahead.cursor.after.line (unexpected_token_code here.lookahead.cursor.after.token)

-- the next token fits, and the one after it is a lexical error, or the device failed
pub record StopsAt (here : UnreadPosition) (stop : Stop) : Type 0 where
  pub more : is_last (next_at here).token ≡ false
  pub lexical_error : IfSource stop.fault (HasLexicalError here)
  pub taken : (next : LocatedToken) (others : List LocatedToken) → tokens_at here ≡ Some (next ∷ others) →
      stop.taken ≤ most_taken stop.fault others

-- the first token is a lexical error, or the device failed
pub record StopsFirst (told : Option (List LocatedToken)) (stop : Stop) : Type 0 where
  pub lexical_error : (located_tokens : List LocatedToken) → told ≡ Some located_tokens → IfSource stop.fault (λ d.
      (is_lexical_error (next_token located_tokens) ≡ true)
      × (d ≡ diagnostic (line_at located_tokens) (unexpected_token_code (next_token located_tokens))))
  pub taken : (located_tokens : List LocatedToken) → told ≡ Some located_tokens
      → stop.taken ≤ most_taken stop.fault located_tokens

-- the token is no name, and is refused for that
pub record IsNoName (next : LocatedToken) (fault : ParseFault) : Type 0 where
  pub sound : is_lexical_error next.token ≡ false
  pub other : name_of_token next.token ≡ None
  pub is : fault ≡ parse_fault.Source (diagnostic next.line (unexpected_token_code next.token))

-- the name was refused in its role, at the next token
pub record NameIsRefused {T : Type 0} (answer : Result T Code) (next : LocatedToken) (fault : ParseFault) : Type 0 where
  pub code : Code
  pub answered : answer ≡ Err code
  pub is : fault ≡ parse_fault.Source (diagnostic next.line code)

-- the definition of the function of this number began
pub record BeginsDefinition (number : ℕ) (old new : Lookahead) : Type 0 where
  pub is : new.scope.number ≡ number
  pub few : number < MOST_NAMES
  pub mentioned : number < length new.scope.functions
  pub within : IsWithin old.scope → IsWithin new.scope

-- What a refusal says with `taken` bytes taken: where the derivation stops; of memory also that the builder was refused
-- it.
abbrev pub Refused : (Stop → Type 0) → Type 0 → ℕ → ParseFault → Type 0
Refused stops denied taken (parse_fault.Source d) = stops (stop_with (parse_fault.Source d) taken)
Refused stops denied taken parse_fault.Device = stops (stop_with parse_fault.Device taken)
Refused stops denied taken parse_fault.Memory = denied × stops (stop_with parse_fault.Memory taken)

-- what a refusal at the first token says, by the bytes to come before and after
pub record StopsAtFirst (told told' : Option (List ℕ)) (fault : ParseFault) : Type 0 where
  pub taken : ℕ
  pub took : (bytes : List ℕ) → told ≡ Some bytes → told' ≡ Some (drop taken bytes)
  pub limited : taken ≤ most_taken_bytes
  pub refused : Refused (StopsFirst (option_map tokens told)) ⊥ taken fault

-- the account of the device after this refusal: one more read has failed if the device failed
abbrev pub account_after : FailureCount → ParseFault → FailureCount
account_after account parse_fault.Device = failed_again account
account_after account (parse_fault.Source d) = account
account_after account parse_fault.Memory = account

abbrev pub CountsRefusal : {A : Type 0} → Result A ParseFault → FailureCount → FailureCount → Type 0
CountsRefusal (Ok x) before behind = behind ≡ before
CountsRefusal (Err e) before behind = behind ≡ account_after before e
