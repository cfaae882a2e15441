-- The position of each instruction of a source's program: that of the token at which a derivation emits its action, or
-- of the token that this action comes from.
use Rattle.std.specs.Prelude.{◌≡◌, ℕ, zero, suc, List, [], ◌∷◌, ◌++◌, Bool, true, false, map}
use Rattle.std.specs.Prelude.{drop, replicate, is_some, unwrap_or, if◌then◌else◌}
use Rattle.tokens.specs.declared.located_tokens.LocatedToken.{LocatedToken}
use Rattle.tokens.specs.declared.located_tokens.Token.{Token}
use Rattle.grammar.specs.Actions.{code_length}
use Rattle.grammar.specs.Derivation.{State, initial_state, step, stepped, next_token, token_after_next}
use Rattle.grammar.specs.Grammar.{Item, Part, Make, Close, choice}
use Rattle.grammar.specs.Profile.{Profile}
use Rattle.grammar_laws.specs.Emission.{emitted}
use Rattle.derivations.specs.Scheme.{origin_of}
use Rattle.derivations.specs.declared.addresses.SourcePosition.{SourcePosition}
use Rattle.derivations.specs.declared.emissions.Origin.{Origin}
use Rattle.derivations.specs.declared.emissions.Origin.TheVariants as origin

-- the positions of the token at which an item's production was chosen, and of the token after that
pub record Mark : Type 0 where
  pub chosen : SourcePosition
  pub after_chosen : SourcePosition

-- how far a derivation has come, with the positions of the tokens
pub record Walk : Type 0 where
  pub state : State
  pub positions : List SourcePosition  -- of the tokens left
  pub marks : List Mark  -- of each item on the stack
  pub passed : SourcePosition  -- of the token that was passed last

abbrev pub mark : SourcePosition → SourcePosition → Mark
mark chosen after = record { chosen = chosen; after_chosen = after }

-- of no token
abbrev pub nowhere : SourcePosition
nowhere = record { line = 0; column = 0 }

-- no token was chosen or passed yet
abbrev pub walk_start : List LocatedToken → List SourcePosition → Walk
walk_start tokens positions = record {
  state = initial_state tokens;
  positions = positions;
  marks = mark nowhere nowhere ∷ [];
  passed = nowhere;
}

-- the position of the next token
abbrev pub position_at : List SourcePosition → SourcePosition
position_at [] = nowhere
position_at (next ∷ rest) = next

-- and that of the token after it: of the last token if that is next
abbrev pub position_after_next : List SourcePosition → SourcePosition
position_after_next (next ∷ after ∷ rest) = after
position_after_next rest = position_at rest

abbrev pub mark_at : List SourcePosition → Mark
mark_at rest = mark (position_at rest) (position_after_next rest)

-- a step passes the next token with this item in front
abbrev pub passes : Item → Bool
passes (Part symbol) = false
passes (Make rule) = false
passes Close = false
passes item = true

abbrev pub passes_with : List Item → Bool
passes_with [] = false
passes_with (item ∷ stack) = passes item

-- the items of a production that is chosen
abbrev pub chosen_items : List Item → Token → Token → List Item
chosen_items (Part symbol ∷ stack) next after = unwrap_or (choice symbol next after) []
chosen_items stack next after = []

-- each item of a production has its mark
abbrev pub marks_after : List Item → Token → Token → Mark → List Mark → List Mark
marks_after stack next after here marks =
    map (λ item. here) (chosen_items stack next after) ++ drop 1 marks

abbrev pub positions_after : List Item → List SourcePosition → List SourcePosition
positions_after stack positions = if passes_with stack then drop 1 positions else positions

abbrev pub passed_after : List Item → SourcePosition → SourcePosition → SourcePosition
passed_after stack here passed = if passes_with stack then here else passed

abbrev pub walk_on : Walk → Walk
walk_on w = record {
  state = stepped w.state;
  positions = positions_after w.state.stack w.positions;
  marks = marks_after w.state.stack (next_token w.state.rest) (token_after_next w.state.rest) (mark_at w.positions)
      w.marks;
  passed = passed_after w.state.stack (position_at w.positions) w.passed;
}

-- one step: if there is none, the walk stays
abbrev pub walk_stepped : Walk → Walk
walk_stepped w = if is_some (step w.state) then walk_on w else w

abbrev pub walked : ℕ → Walk → Walk
walked zero w = w
walked (suc n) w = walked n (walk_stepped w)

abbrev pub front_mark : List Mark → Mark
front_mark [] = mark nowhere nowhere
front_mark (m ∷ marks) = m

-- the position of the token that a step's actions come from
abbrev pub position_from : Origin → Mark → (passed next : SourcePosition) → SourcePosition
position_from origin.Chosen m passed next = m.chosen
position_from origin.AfterChosen m passed next = m.after_chosen
position_from origin.Passed m passed next = passed
position_from origin.Next m passed next = next

abbrev pub origin_at : List Item → Origin
origin_at [] = origin.Next
origin_at (item ∷ stack) = origin_of item

abbrev pub emission_position : Walk → SourcePosition
emission_position w = position_from (origin_at w.state.stack) (front_mark w.marks) w.passed (position_at w.positions)

module _ (profile : Profile) where
  -- the position of each instruction that a step makes
  abbrev pub step_positions : Walk → List SourcePosition
  step_positions w = replicate (code_length profile (emitted w.state)) (emission_position w)

  -- and of each that n steps make
  abbrev pub positions_within : ℕ → Walk → List SourcePosition
  positions_within zero w = []
  positions_within (suc n) w = step_positions w ++ positions_within n (walk_stepped w)

abbrev pub last_position : List SourcePosition → SourcePosition
last_position [] = nowhere
last_position (p ∷ []) = p
last_position (p ∷ q ∷ rest) = last_position (q ∷ rest)

-- These are the positions of the instructions of a source with these tokens, which are at the given positions: those
-- that the steps make which pass all tokens, and that of the end for the last one.
pub record ArePositions (profile : Profile) (tokens : List LocatedToken) (given positions : List SourcePosition)
    : Type 0
  where
    pub steps : ℕ
    pub all : (walked steps (walk_start tokens given)).state.rest ≡ []
    pub made : positions ≡ positions_within profile steps (walk_start tokens given) ++ last_position given ∷ []
