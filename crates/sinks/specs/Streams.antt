-- What a write on a real stream leaves.
use Rattle.std.specs.Prelude.{ℕ, List, Option, None, Result, IfOk, OnErr, take}
use Rattle.std.specs.Io.KnownBytes.{Appends, Keeps}
use Rattle.sinks.specs.Portions.{SinkState}

-- a real stream that has failed this often; which portions it took is not known
abbrev pub real_stream : ℕ → SinkState
real_stream failures = record { portions = None; failures = failures }

-- A write added the bytes that it took to those of the writer. A write that failed added none.
pub record AddsBytes {E : Type 0} (result : Result ℕ E) (bytes : List ℕ) (before after : Option (List ℕ)) : Type 0 where
  pub added : IfOk result (λ n. Appends before after (take n bytes))
  pub kept : OnErr result (Keeps before after)
