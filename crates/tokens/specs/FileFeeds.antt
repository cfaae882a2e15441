-- What a read of a real file leaves.
use Rattle.std.specs.Prelude.{◌≡◌, ℕ, Bool, List, Option, Result, IfOk, OnErr, take}
use Rattle.std.specs.Io.KnownBytes.{Consumes, IsAtEnd, Keeps}
use Rattle.tokens.specs.Device.{FailureCount, Device}

-- a real device that has failed this often; all have the same number
abbrev pub real_account : ℕ → FailureCount
real_account failures = record { device = 0; failures = failures }

-- a file that has failed so often, with these bytes to come, if they are known
abbrev pub file_device : (failures : ℕ) → (to_come : Option (List ℕ)) → (ended : Bool) → Device
file_device failures to_come ended = record { account = real_account failures; to_come = to_come; ended = ended }

-- A read took the bytes that it gave from those of the reader, and gives none only at their end. A read that failed
-- took none.
pub record TakesFrom {E : Type 0} (result : Result ℕ E) (given : List ℕ) (before after : Option (List ℕ)) : Type 0 where
  pub taken : IfOk result (λ n. Consumes before after (take n given))
  pub ends : IfOk result (λ n. n ≡ 0 → IsAtEnd after)
  pub kept : OnErr result (Keeps before after)
