-- Whether a derivation has a step, by what is in front of it and the tokens that come next.
use Rattle.std.specs.Prelude.{ℕ, ◌-◌, List, Bool, true, false, Option, Some, None, is_some, length, slice_get, if◌then◌else◌}
use Rattle.tokens.specs.declared.located_tokens.Token.{Token}
use Rattle.tokens.specs.declared.located_tokens.Token.TheVariants as token
use Rattle.grammar.specs.Grammar.{is_lexical_error, is_punctuator, is_keyword, choice}
use Rattle.grammar.specs.Derivation.{constant_value, is_end, name_of_token}
use Rattle.grammar.specs.Grammar as table
use Rattle.derivations.specs.Table.{item_of}
use Rattle.derivations.specs.declared.locations.Located.{Located}
use Rattle.derivations.specs.declared.steps.StepEnd.{StepEnd}
use Rattle.derivations.specs.declared.steps.StepEnd.TheVariants as step_end
use Rattle.derivations.specs.declared.steps.Move.{Move}
use Rattle.derivations.specs.declared.steps.Move.TheVariants as move
use Rattle.derivations.specs.declared.steps.Pending.{Pending}

-- the token is the one that an item wants, by the tests of the definition's step
abbrev pub is_wanted : table.Item → Token → Bool
is_wanted (table.Exactly m) next = is_punctuator m next
is_wanted (table.AKeyword w) next = is_keyword w next
is_wanted (table.AName role) next = is_some (name_of_token next)
is_wanted table.AConstant next = is_some (constant_value next)
is_wanted table.AnEnd next = is_end next
is_wanted item next = false

-- there is a step with this item in front
abbrev pub has_step : table.Item → Token → Token → Bool
has_step (table.Part symbol) next after = is_some (choice symbol next after)
has_step (table.Make rule) next after = true
has_step table.Close next after = true
has_step item next after = is_wanted item next

abbrev pub stepped_if : Bool → StepEnd
stepped_if fits = if fits then step_end.Stepped else step_end.Misfit

-- how a step ends with this item in front: a lexical error fits nothing
abbrev pub decided_of : table.Item → Token → Token → StepEnd
decided_of item next after = if is_lexical_error next then step_end.Misfit else stepped_if (has_step item next after)

-- how a step ends
abbrev pub outcome_of : Option Pending → Token → Token → StepEnd
outcome_of None next after = step_end.Done
outcome_of (Some pending) next after = decided_of (item_of pending.item) next after

-- how a step of this kind ends
abbrev pub end_of : Move → StepEnd
end_of (move.Pass tokens) = step_end.Stepped
end_of (move.Replace production) = step_end.Stepped
end_of move.Misfit = step_end.Misfit

-- the token of an index: after the last one, the end
abbrev pub token_of : Option Located → Token
token_of None = token.End
token_of (Some located) = located.token

abbrev pub token_at : List Located → ℕ → Token
token_at tokens index = token_of (slice_get tokens index)

-- the item in front is the last one of the stack
abbrev pub front_of : List Pending → Option Pending
front_of stack = slice_get stack (length stack - 1)
