-- What a call that puts bytes on a sink leaves.
use Rattle.std.specs.Prelude.{◌≡◌, ℕ, ◌+◌, ◌-◌, ◌^◌, ◌<◌, ◌≤◌, List, [], ◌∷◌, length, take, Result, MatchResult}
use Rattle.sinks.specs.Portions.{Takes, TakesPrefix, TakesWhole, SinkState, and_portions}

-- a further failure can be counted
abbrev pub CanFail : SinkState → Type 0
CanFail sink = sink.failures < 2 ^ 64 - 1

-- the same sink, of which one more call has failed
abbrev pub failed_once_more : SinkState → SinkState
failed_once_more sink = record sink { failures = sink.failures + 1 }

-- one call took a nonempty prefix of these bytes as a portion, and all of them if the sink takes each put whole
pub record TakesPortion (before after : SinkState) (bytes : List ℕ) (n : ℕ) : Type 0 where
  pub some : 0 < n
  pub front : n ≤ length bytes
  pub whole : TakesWhole before.portions → n ≡ length bytes
  pub taken : after ≡ record before { portions = and_portions before.portions (take n bytes ∷ []) }

-- the sink failed once if the call failed, and else not
abbrev pub CountsSink : {T E : Type 0} → Result T E → SinkState → SinkState → Type 0
CountsSink result before after = MatchResult result
    (λ _. after.failures ≡ before.failures)
    (λ _. after.failures ≡ before.failures + 1)

-- What a call leaves that had to put these bytes: if it succeeded, the sink took them and has not failed; if it failed,
-- the sink took a prefix of them and has failed once.
abbrev pub Puts : {T E : Type 0} → Result T E → SinkState → SinkState → List ℕ → Type 0
Puts result before after bytes = MatchResult result
    (λ _. Takes before.portions after.portions bytes × (after.failures ≡ before.failures))
    (λ _. TakesPrefix before.portions after.portions bytes × (after.failures ≡ before.failures + 1))
