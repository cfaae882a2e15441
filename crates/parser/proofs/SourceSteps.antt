-- The steps between functions: which production the next token chooses, and what it emits.
use Rattle.std.proofs.Common.{◌≡◌, ◌<◌, ℕ, List, [], ◌∷◌, ◌++◌, refl, true, false}
use Rattle.std.specs.Prelude.{Some, None}
use Rattle.tokens.specs.declared.located_tokens.Keyword.TheVariants as keyword
use Rattle.tokens.specs.declared.located_tokens.Punctuator.TheVariants as punctuator
use Rattle.tokens.specs.declared.located_tokens.Token.{Token}
use Rattle.tokens.specs.declared.located_tokens.Token.TheVariants as token
use Rattle.grammar.specs.declared.actions.Action.{Action}
use Rattle.grammar.specs.declared.actions.Action.TheVariants.{BeginFunction}
use Rattle.grammar.specs.declared.diagnostics.ParseFault.TheVariants as parse_fault
use Rattle.grammar.specs.declared.name_limits.TheConstants.{MOST_NESTED}
use Rattle.grammar.specs.Compiled.{diagnostic}
use Rattle.grammar.specs.Derivation.{PartialTree}
use Rattle.grammar.specs.Faults.{nested_count, unexpected_token_code}
use Rattle.grammar.specs.Grammar.{AKeyword, AnEnd, Close, Declarations, Define, Empty, Exactly, FunctionBlock, Head, Item, Make, Part, Source, Statements, Types, choice, definition_items, enters, is_keyword, is_punctuator}
use Rattle.parser.specs.declared.roles.Declared.TheVariants as kind
use Rattle.parser.specs.Declarations.{names_items}
use Rattle.parser.specs.Paths.{Origin, Path, Refused}
use Rattle.parser.specs.ScopedCursors.{ScopedCursor, next_at, scope_of, token_after, token_of}
use Rattle.parser.proofs.NameLaws.{after_name}
use Rattle.parser.proofs.Parts.{punctuator_is, word_is}
use Rattle.parser.proofs.PathLaws.{chosen, faulty, opened}
use Rattle.parser.proofs.Productions.{none_chosen}

source_none : (t after : Token) → (t ≡ token.End → ⊥) → is_keyword keyword.Type t ≡ false →
    ((name : List ℕ) → t ≡ token.Name name → ⊥) → choice Source t after ≡ None
source_none token.End after end type name = absurd (end refl)
source_none (token.Keyword keyword.Type) after end type name = absurd (cc)
source_none (token.Keyword w) after end type name = refl
source_none (token.Name n) after end type name = absurd (name n refl)
source_none t after end type name = refl

external_choice : (name : List ℕ) (after : Token) → is_punctuator punctuator.OpenRound after ≡ false →
    choice Head (token.Name name) after ≡ Some (names_items kind.Externals)
external_choice name (token.Punctuator punctuator.OpenRound) other = absurd (cc)
external_choice name t other = refl

head_none : (t after : Token) → ((name : List ℕ) → t ≡ token.Name name → ⊥) → choice Head t after ≡ None
head_none token.End after name = refl
head_none (token.Keyword w) after name = refl
head_none (token.Name n) after name = absurd (name n refl)
head_none t after name = refl

no_block : (t after : Token) → is_punctuator punctuator.OpenCurly t ≡ false → choice FunctionBlock t after ≡ None
no_block (token.Punctuator punctuator.OpenCurly) after other = absurd (cc)
no_block t after other = refl

no_block_enters : (t after : Token) → is_punctuator punctuator.OpenCurly t ≡ false →
    enters FunctionBlock t after ≡ false
no_block_enters (token.Punctuator punctuator.OpenCurly) after other = absurd (cc)
no_block_enters t after other = refl

-- what follows the opening brace of a function's block
abbrev pub in_function : List Item
in_function =
    Make Empty ∷ Part Declarations ∷ Part Statements ∷ Make Define ∷ Exactly punctuator.CloseCurly ∷ Close ∷ []

module _ {o : Origin} {stack : List Item} {values : List PartialTree} {acts : List Action} {at : ScopedCursor} where
  -- A file's parts.

  pub end_path : token_of at ≡ token.End → Path o (Part Source ∷ stack) values acts at →
      Path o (AnEnd ∷ stack) values acts at
  end_path is h =
      chosen {more = []} Source (AnEnd ∷ []) (λ after last. rw is refl) (λ after last. refl) refl h

  pub typed_path : is_keyword keyword.Type (token_of at) ≡ true → Path o (Part Source ∷ stack) values acts at →
      Path o (AKeyword keyword.Type ∷ Part Types ∷ Part Head ∷ Part Source ∷ stack) values acts at
  typed_path is h =
      chosen {more = []} Source (AKeyword keyword.Type ∷ Part Types ∷ Part Head ∷ Part Source ∷ [])
      (λ after last. rw (word_is keyword.Type (token_of at) is) refl) (λ after last. refl) refl h

  pub definition_path : (name : List ℕ) → token_of at ≡ token.Name name → Path o (Part Source ∷ stack) values acts at →
      Path o (definition_items ++ Part Source ∷ stack) values acts at
  definition_path name is h =
      chosen {more = []} Source (definition_items ++ Part Source ∷ []) (λ after last. rw is refl) (λ after last. refl)
      refl h

  pub source_misfits : {denied : Type 0} {told : List Action → Type 0} → (token_of at ≡ token.End → ⊥) →
      is_keyword keyword.Type (token_of at) ≡ false → ((name : List ℕ) → token_of at ≡ token.Name name → ⊥) →
      Path o (Part Source ∷ stack) values acts at →
      Refused o denied told
      (parse_fault.Source (diagnostic (next_at at.position).line (unexpected_token_code (token_of at)))) at
  source_misfits end type name h =
      faulty (Part Source ∷ []) stack h
      (none_chosen at.position _ h.ready.near (nested_count stack) Source h.ready.sound
      (λ after last. source_none (token_of at) after end type name) (λ after last. refl))

  -- A head.

  pub head_definition_path : (name : List ℕ) → token_of at ≡ token.Name name →
      is_punctuator punctuator.OpenRound (token_after at) ≡ true → Path o (Part Head ∷ stack) values acts at →
      Path o (definition_items ++ stack) values acts at
  head_definition_path name is call h =
      chosen {more = []} Head definition_items
      (λ after last. rw (
        is,
        after_name at.position after (record { name = name; is = is }) last,
        punctuator_is punctuator.OpenRound (token_after at) call,
      ) refl) (λ after last. refl) refl h

  pub external_path : (name : List ℕ) → token_of at ≡ token.Name name →
      is_punctuator punctuator.OpenRound (token_after at) ≡ false → Path o (Part Head ∷ stack) values acts at →
      Path o (names_items kind.Externals ++ stack) values acts at
  external_path name is other h =
      chosen {more = []} Head (names_items kind.Externals)
      (λ after last. rw (is, after_name at.position after (record { name = name; is = is }) last)
      (external_choice name (token_after at) other)) (λ after last. refl) refl h

  pub head_misfits : {denied : Type 0} {told : List Action → Type 0} →
      ((name : List ℕ) → token_of at ≡ token.Name name → ⊥) →
      Path o (Part Head ∷ stack) values acts at →
      Refused o denied told
      (parse_fault.Source (diagnostic (next_at at.position).line (unexpected_token_code (token_of at)))) at
  head_misfits name h =
      faulty (Part Head ∷ []) stack h
      (none_chosen at.position _ h.ready.near (nested_count stack) Head h.ready.sound
      (λ after last. head_none (token_of at) after name) (λ after last. refl))

  -- A function's block.

  pub function_block_path : is_punctuator punctuator.OpenCurly (token_of at) ≡ true → nested_count stack < MOST_NESTED →
      Path o (Part FunctionBlock ∷ stack) values acts at →
      Path o (Exactly punctuator.OpenCurly ∷ in_function ++ stack) values
      (acts ++ BeginFunction (scope_of at).number (scope_of at).current.parameters ∷ []) at
  function_block_path is few h =
      let t = punctuator_is punctuator.OpenCurly (token_of at) is in
      opened {more = BeginFunction (scope_of at).number (scope_of at).current.parameters ∷ []} FunctionBlock
      (Exactly punctuator.OpenCurly ∷ in_function) (λ after last. rw t refl) few (rw t refl) h

  pub block_misfits : {denied : Type 0} {told : List Action → Type 0} →
      is_punctuator punctuator.OpenCurly (token_of at) ≡ false → Path o (Part FunctionBlock ∷ stack) values acts at →
      Refused o denied told
      (parse_fault.Source (diagnostic (next_at at.position).line (unexpected_token_code (token_of at)))) at
  block_misfits other h =
      faulty (Part FunctionBlock ∷ []) stack h
      (none_chosen at.position _ h.ready.near (nested_count stack) FunctionBlock h.ready.sound
      (λ after last. no_block (token_of at) after other) (λ after last. no_block_enters (token_of at) after other))
