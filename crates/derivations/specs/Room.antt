-- Room for all that finding the positions of a source's instructions keeps.
use Rattle.std.specs.Prelude.{ℕ, ◌≡◌, ◌≢◌, ◌+◌, ◌-◌, ◌^◌, ◌<◌, ◌≤◌, List, [], length}
use Rattle.tokens.specs.declared.located_tokens.LocatedToken.{LocatedToken}
use Rattle.grammar.specs.Profile.{Profile}
use Rattle.derivations.specs.Positions.{positions_within, walk_start}
use Rattle.derivations.specs.Stacks.{most_pending}
use Rattle.derivations.specs.Walks.{AreNext, Reaches, walk_at}
use Rattle.derivations.specs.declared.addresses.SourcePosition.{SourcePosition}
use Rattle.derivations.specs.declared.locations.Located.{Located}
use Rattle.derivations.specs.declared.steps.Automaton.{Automaton}

-- the most positions that are kept
abbrev pub most_places : ℕ
most_places = 4000

-- The walk over these tokens passes them all. There is room for the items that are pending anywhere on it, and for the
-- position of each instruction, with one more for the end.
pub record HasRoom (profile : Profile) (tokens : List LocatedToken) (given : List SourcePosition) : Type 0 where
  pub steps : ℕ
  pub all : (walk_at tokens given steps).state.rest ≡ []
  pub few : steps < 2 ^ 64 - 1
  pub pending : (n : ℕ) → n ≤ steps → length (walk_at tokens given n).state.stack ≤ most_pending
  pub places : length (positions_within profile steps (walk_start tokens given)) < most_places

-- wherever the automaton was, if tokens were left there, its walk hasn't such room
abbrev pub RunsShort : Profile → Automaton → List SourcePosition → Located → Located → Type 0
RunsShort profile automaton positions next after =
    (tokens : List LocatedToken) (given : List SourcePosition) (n : ℕ)
    → Reaches profile tokens given n automaton positions
    → AreNext next after (walk_at tokens given n).state.rest (walk_at tokens given n).positions
    → automaton.place + 1 < 2 ^ 64 → (walk_at tokens given n).state.rest ≢ [] → HasRoom profile tokens given → ⊥
