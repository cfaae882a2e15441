-- What the code knows of a walk.
use Rattle.std.specs.Prelude.{◌≡◌, ℕ, ◌+◌, ◌^◌, ◌<◌, List, false, drop, replicate}
use Rattle.tokens.specs.declared.located_tokens.LocatedToken.{LocatedToken}
use Rattle.grammar.specs.Actions.{code_length}
use Rattle.grammar.specs.Derivation.{next_token, token_after_next}
use Rattle.grammar.specs.Grammar.{is_lexical_error}
use Rattle.grammar.specs.Profile.{Profile}
use Rattle.derivations.specs.Positions.{Walk, walk_start, walked, positions_within, position_at, position_after_next}
use Rattle.derivations.specs.Positions.{position_from, front_mark, origin_at}
use Rattle.derivations.specs.Scheme.{blank_emitted}
use Rattle.derivations.specs.Stacks.{items_of, marks_of, position_of}
use Rattle.derivations.specs.declared.addresses.SourcePosition.{SourcePosition}
use Rattle.derivations.specs.declared.locations.Located.{Located}
use Rattle.derivations.specs.declared.steps.Automaton.{Automaton}

-- the automaton is where the walk is
pub record IsAt (automaton : Automaton) (w : Walk) : Type 0 where
  pub items : items_of automaton.stack.items ≡ w.state.stack
  pub marks : marks_of automaton.stack.items ≡ w.marks
  pub passed : automaton.passed ≡ w.passed

-- it is the token, at its position
pub record IsLocated (located : Located) (t : LocatedToken) (position : SourcePosition) : Type 0 where
  pub token_is : located.token ≡ t.token
  pub position_is : position_of located ≡ position

-- these are the next token and the one after it
pub record AreNext (next after : Located) (rest : List LocatedToken) (positions : List SourcePosition) : Type 0 where
  pub next_is : next_token rest ≡ next.token
  pub after_is : is_lexical_error next.token ≡ false → token_after_next rest ≡ after.token
  pub position_is : position_at positions ≡ position_of next
  pub position_after_is : position_after_next positions ≡ position_of after

abbrev pub walk_at : List LocatedToken → List SourcePosition → ℕ → Walk
walk_at tokens given n = walked n (walk_start tokens given)

-- after n steps the automaton is here, and these positions are those of all instructions made
pub record Reaches (profile : Profile) (tokens : List LocatedToken) (given : List SourcePosition) (n : ℕ)
    (automaton : Automaton) (positions : List SourcePosition) : Type 0 where
  pub at : IsAt automaton (walk_at tokens given n)
  pub made : positions ≡ positions_within profile n (walk_start tokens given)

-- the positions of the instructions that the next step of an automaton makes
abbrev pub positions_next : Profile → Automaton → Located → List SourcePosition
positions_next profile automaton next =
    replicate (code_length profile (blank_emitted (items_of automaton.stack.items) next.token))
    (position_from (origin_at (items_of automaton.stack.items)) (front_mark (marks_of automaton.stack.items))
    automaton.passed (position_of next))

-- more steps, the last of which passed the next token, were done, and the positions of their instructions were kept
pub record PassesToken (profile : Profile) (tokens : List LocatedToken) (given : List SourcePosition) (n : ℕ)
    (automaton : Automaton) (positions : List SourcePosition) : Type 0 where
  pub steps : ℕ
  pub before : ℕ
  pub last : steps ≡ before + 1
  pub unpassed : (walk_at tokens given before).state.rest ≡ (walk_at tokens given n).state.rest
  pub reaches : Reaches profile tokens given steps automaton positions
  pub rest : (walk_at tokens given steps).state.rest ≡ drop 1 (walk_at tokens given n).state.rest
  pub left : (walk_at tokens given steps).positions ≡ drop 1 (walk_at tokens given n).positions

-- so it is wherever the automaton was
abbrev pub Passes : Profile → Automaton → List SourcePosition → Located → Located → Automaton → List SourcePosition
    → Type 0
Passes profile automaton positions next after automaton' positions' =
    (tokens : List LocatedToken) (given : List SourcePosition) (n : ℕ)
    → Reaches profile tokens given n automaton positions
    → AreNext next after (walk_at tokens given n).state.rest (walk_at tokens given n).positions
    → automaton.place + 1 < 2 ^ 64
    → PassesToken profile tokens given n automaton' positions' × (automaton'.place ≡ automaton.place + 1)
