-- How far a source need be read, and what has been reported to a builder by then.
use Rattle.std.specs.Prelude.{ℕ, zero, suc, List, [], ◌∷◌, ◌++◌, Bool, true, false, ◌&&◌, not, nat_le, if◌then◌else◌}
use Rattle.tokens.specs.Cursors.{reach_of}
use Rattle.tokens.specs.Tokens.{tokens}
use Rattle.tokens.specs.declared.located_tokens.LocatedToken.{LocatedToken}
use Rattle.grammar.specs.declared.actions.Action.{Action}
use Rattle.grammar.specs.Actions.{function_actions}
use Rattle.grammar.specs.Compiled.{all_faults, enough_steps}
use Rattle.grammar.specs.Derivation.{State, definition_of, last_body, is_end, initial_state, stepped}
use Rattle.grammar.specs.Faults.{Fault, first_fault}
use Rattle.grammar.specs.Grammar.{Item, Make, Define}
use Rattle.grammar.specs.Profile.{Profile}

-- the end of the last token: the source's end
abbrev pub last_end : List LocatedToken → ℕ
last_end [] = 0
last_end (located_token ∷ []) = located_token.end
last_end (located_token ∷ other ∷ rest) = last_end (other ∷ rest)

-- the bytes up to the token after the first fault; if there is none, all of the source
abbrev pub needed : List LocatedToken → List Fault → ℕ
needed located_tokens [] = last_end located_tokens
needed located_tokens (f ∷ faults) = reach_of (first_fault f faults).rest

abbrev pub need_tokens : Profile → List LocatedToken → ℕ
need_tokens profile located_tokens = needed located_tokens (all_faults profile located_tokens)

-- how many bytes of a source decide what it is
unfoldable pub need : Profile → List ℕ → ℕ
need profile bytes = need_tokens profile (tokens bytes)

abbrev pub ends_by : ℕ → LocatedToken → Bool
ends_by count located_token = not (is_end located_token.token) && nat_le located_token.end count

-- n more tokens, the end not among them, end within `count` bytes
abbrev pub has_ahead : ℕ → ℕ → List LocatedToken → Bool
has_ahead zero count rest = true
has_ahead (suc n) count [] = false
has_ahead (suc n) count (located_token ∷ rest) = ends_by count located_token && has_ahead n count rest

-- three tokens after a function's closing brace, which is next, end within `count` bytes
abbrev pub is_behind_brace : ℕ → List LocatedToken → Bool
is_behind_brace count [] = false
is_behind_brace count (brace ∷ rest) = has_ahead 3 count rest

-- the actions of the function whose closing brace is next, with these items in front, if they have been reported to a
-- builder
abbrev pub built_of : ℕ → List Item → State → List Action
built_of count (Make Define ∷ stack) s =
    if is_behind_brace count s.rest
    then function_actions s.scope.number (definition_of s.scope (last_body s.values)).function
    else []
built_of count stack s = []

-- the actions of the functions that are defined in the first n states
abbrev pub built_in : ℕ → ℕ → State → List Action
built_in count zero s = []
built_in count (suc n) s = built_of count s.stack s ++ built_in count n (stepped s)

abbrev pub built_tokens : List LocatedToken → ℕ → List Action
built_tokens located_tokens count = built_in count (enough_steps located_tokens) (initial_state located_tokens)

-- what has been reported to a builder for certain once `count` bytes of a source were read
unfoldable pub built : List ℕ → ℕ → List Action
built bytes count = built_tokens (tokens bytes) count
