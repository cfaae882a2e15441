-- What a function's header derives, call by call.
use Rattle.std.proofs.Common.{◌≡◌, ℕ, List, [], ◌∷◌, refl, false}
use Rattle.tokens.specs.declared.located_tokens.Punctuator.TheVariants as punctuator
use Rattle.tokens.specs.declared.located_tokens.Token.{Token}
use Rattle.tokens.specs.declared.located_tokens.Token.TheVariants as token
use Rattle.grammar.specs.Grammar.{AName, Defined, Exactly, More, Parameter, ParameterTypes, Parameters, Part, is_lexical_error}
use Rattle.parser.specs.Declarations.{header_items}
use Rattle.parser.specs.ScopedCursors.{UnreadPosition, next_at}
use Rattle.parser.specs.Segment.{DerivesItem}
use Rattle.parser.proofs.ListLaws.{Gives, Goes, item_on, replaces, starts}

pub parameters_more : (bytes : List ℕ) (t : Token) → t ≡ token.Name bytes →
    Gives Parameters t (AName Parameter ∷ Part (More Parameter) ∷ [])
parameters_more bytes t is = rw is (record { chosen = λ after. refl; plain = λ after. refl })

pub parameters_end : (t : Token) → ((bytes : List ℕ) → t ≡ token.Name bytes → ⊥) → Gives Parameters t []
parameters_end (token.Name bytes) other = absurd (other bytes refl)
parameters_end t other = record { chosen = λ after. refl; plain = λ after. refl }

-- parameters, if a name is next
pub parameters_open : (at : UnreadPosition) (bytes : List ℕ) → is_lexical_error (next_at at).token ≡ false →
    (next_at at).token ≡ token.Name bytes →
    Goes (Part Parameters ∷ []) (AName Parameter ∷ Part (More Parameter) ∷ []) at at
parameters_open at bytes sound is depth =
    replaces at depth Parameters (AName Parameter ∷ Part (More Parameter) ∷ []) sound
    (parameters_more bytes (next_at at).token is)

pub parameter_first : (at there : UnreadPosition) (bytes : List ℕ) → is_lexical_error (next_at at).token ≡ false →
    (next_at at).token ≡ token.Name bytes → DerivesItem (AName Parameter) [] [] at there →
    Goes (Part Parameters ∷ []) (Part (More Parameter) ∷ []) at there
parameter_first at there bytes sound is b =
    item_on (Part Parameters ∷ []) (AName Parameter) (Part (More Parameter) ∷ []) at at there (λ stack. refl)
    (parameters_open at bytes sound is) b

-- and if none is
pub no_parameters : (at : UnreadPosition) → is_lexical_error (next_at at).token ≡ false →
    ((bytes : List ℕ) → (next_at at).token ≡ token.Name bytes → ⊥) → Goes (Part Parameters ∷ []) [] at at
no_parameters at sound other depth = replaces at depth Parameters [] sound (parameters_end (next_at at).token other)

pub heading_named : (at there : UnreadPosition) → DerivesItem (AName Defined) [] [] at there →
    Goes header_items
    (Exactly punctuator.OpenRound ∷ Part Parameters ∷ Exactly punctuator.CloseRound ∷ Part ParameterTypes ∷ []) at
    there
heading_named at there b =
    starts (AName Defined)
    (Exactly punctuator.OpenRound ∷ Part Parameters ∷ Exactly punctuator.CloseRound ∷ Part ParameterTypes ∷ []) at
    there (λ stack. refl) b

pub heading_open : (at p q : UnreadPosition) → DerivesItem (AName Defined) [] [] at p →
    DerivesItem (Exactly punctuator.OpenRound) [] [] p q →
    Goes header_items (Part Parameters ∷ Exactly punctuator.CloseRound ∷ Part ParameterTypes ∷ []) at q
heading_open at p q a b =
    item_on header_items (Exactly punctuator.OpenRound)
    (Part Parameters ∷ Exactly punctuator.CloseRound ∷ Part ParameterTypes ∷ []) at p q (λ stack. refl)
    (heading_named at p a) b

pub heading_listed : (at p q r : UnreadPosition) → DerivesItem (AName Defined) [] [] at p →
    DerivesItem (Exactly punctuator.OpenRound) [] [] p q → DerivesItem (Part Parameters) [] [] q r →
    Goes header_items (Exactly punctuator.CloseRound ∷ Part ParameterTypes ∷ []) at r
heading_listed at p q r a b d =
    item_on header_items (Part Parameters) (Exactly punctuator.CloseRound ∷ Part ParameterTypes ∷ []) at q r
    (λ stack. refl) (heading_open at p q a b) d

pub heading_closed : (at p q r s : UnreadPosition) → DerivesItem (AName Defined) [] [] at p →
    DerivesItem (Exactly punctuator.OpenRound) [] [] p q → DerivesItem (Part Parameters) [] [] q r →
    DerivesItem (Exactly punctuator.CloseRound) [] [] r s → Goes header_items (Part ParameterTypes ∷ []) at s
heading_closed at p q r s a b d e =
    item_on header_items (Exactly punctuator.CloseRound) (Part ParameterTypes ∷ []) at r s (λ stack. refl)
    (heading_listed at p q r a b d) e
