-- What a step of the automaton does with its stack.
use Rattle.std.specs.Prelude.{◌≡◌, ◌+◌, ◌^◌, ◌<◌, ℕ, List, ◌++◌, Bool, true, false, Some, map, drop, length, reverse, if◌then◌else◌}
use Rattle.tokens.specs.declared.located_tokens.Token.{Token}
use Rattle.grammar.specs.Grammar as table
use Rattle.grammar.specs.Grammar.{choice}
use Rattle.derivations.specs.Positions.{Mark, mark, chosen_items, marks_after, passed_after, passes, passes_with}
use Rattle.derivations.specs.Steps.{front_of, outcome_of}
use Rattle.derivations.specs.Table.{item_of}
use Rattle.derivations.specs.declared.addresses.SourcePosition.{SourcePosition}
use Rattle.derivations.specs.declared.locations.Located.{Located}
use Rattle.derivations.specs.declared.steps.Automaton.{Automaton}
use Rattle.derivations.specs.declared.steps.Move.{Move}
use Rattle.derivations.specs.declared.steps.Move.TheVariants as move
use Rattle.derivations.specs.declared.steps.Pending.{Pending}
use Rattle.derivations.specs.declared.steps.StepEnd.TheVariants as step_end

abbrev pub item_in : Pending → table.Item
item_in pending = item_of pending.item

abbrev pub mark_in : Pending → Mark
mark_in pending = mark pending.chosen pending.after_chosen

-- the items on the stack, and their marks, the next first
abbrev pub items_of : List Pending → List table.Item
items_of stack = map item_in (reverse stack)

abbrev pub marks_of : List Pending → List Mark
marks_of stack = map mark_in (reverse stack)

abbrev pub position_of : Located → SourcePosition
position_of located = record { line = located.line; column = located.column }

abbrev pub mark_of : Located → Located → Mark
mark_of next after = mark (position_of next) (position_of after)

abbrev pub is_part : table.Item → Bool
is_part (table.Part symbol) = true
is_part item = false

-- how many tokens a step passes
abbrev pub tokens_passed : Bool → ℕ
tokens_passed passes = if passes then 1 else 0

-- a step may do this with the item in front
abbrev pub IsMove : table.Item → Token → Token → Move → Type 0
IsMove item next after (move.Pass tokens) = (tokens ≡ tokens_passed (passes item)) × (is_part item ≡ false)
IsMove (table.Part symbol) next after (move.Replace production) = choice symbol next after ≡ Some production
IsMove item next after (move.Replace production) = ⊥
IsMove item next after move.Misfit = Unit {0}

-- the items after a step
abbrev pub items_after : List table.Item → Token → Token → List table.Item
items_after stack next after = chosen_items stack next after ++ drop 1 stack

-- a step by these tokens has led from the one to the other
pub record Moves (old new : Automaton) (next after : Located) : Type 0 where
  pub items : items_of new.stack.items ≡ items_after (items_of old.stack.items) next.token after.token
  pub marks : marks_of new.stack.items
      ≡ marks_after (items_of old.stack.items) next.token after.token (mark_of next after) (marks_of old.stack.items)
  pub passed : new.passed ≡ passed_after (items_of old.stack.items) (position_of next) old.passed
  pub place : old.place + 1 < 2 ^ 64 → new.place ≡ old.place + tokens_passed (passes_with (items_of old.stack.items))

-- the most items that are pending
abbrev pub most_pending : ℕ
most_pending = 2048

-- there is a step by these tokens, but no room for the items after it
pub record IsOverfull (old : Automaton) (next after : Located) : Type 0 where
  pub fits : outcome_of (front_of old.stack.items) next.token after.token ≡ step_end.Stepped
  pub full : most_pending < length (items_after (items_of old.stack.items) next.token after.token)
