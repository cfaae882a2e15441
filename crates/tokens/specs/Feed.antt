-- What a device that gives bytes does at a read.
use Rattle.std.specs.Prelude.{◌≡◌, ◌==◌, ℕ, ◌+◌, ◌-◌, ◌^◌, ◌<◌, ◌≤◌, Bool, false}
use Rattle.std.specs.Prelude.{List, [], length, take, drop, Option, Some, None, Result, Ok, Err}
use Rattle.tokens.specs.declared.devices.DeviceFault.{DeviceFault}
use Rattle.tokens.specs.Device.{FailureCount, Device}

-- the same device, of which one more read has failed
abbrev pub failed_again : FailureCount → FailureCount
failed_again account = record account { failures = account.failures + 1 }

-- a device may be asked: a further failure can be counted, and it has not ended
pub record MayRead (device : Device) : Type 0 where
  pub countable : device.account.failures < 2 ^ 64 - 1
  pub not_ended : device.ended ≡ false

-- the buffer begins with the next n bytes of those to come, and n is 0 only at the end
pub record GivesPrefix (bytes : List ℕ) (after : Option (List ℕ)) (buffer : List ℕ) (n : ℕ) : Type 0 where
  pub within : n ≤ length bytes
  pub front : take n buffer ≡ take n bytes
  pub rest : after ≡ Some (drop n bytes)
  pub ends : n ≡ 0 → bytes ≡ []

-- what was read, if the device's bytes are known; else they stay unknown
abbrev pub Gives : Option (List ℕ) → Option (List ℕ) → List ℕ → ℕ → Type 0
Gives None after buffer n = after ≡ None
Gives (Some bytes) after buffer n = GivesPrefix bytes after buffer n

-- n bytes were read into a buffer, which they fit
pub record Fills (size : ℕ) (to_come to_come' : Option (List ℕ)) (buffer : List ℕ) (n : ℕ) : Type 0 where
  pub within : n ≤ size
  pub bytes : Gives to_come to_come' buffer n

-- what a read leaves: n bytes in the buffer, or, if it failed, all bytes still to come
abbrev pub Reads : Result ℕ DeviceFault → (size : ℕ) → (to_come to_come' : Option (List ℕ)) → (buffer : List ℕ) → Type 0
Reads (Ok n) size to_come to_come' buffer = Fills size to_come to_come' buffer n
Reads (Err e) size to_come to_come' buffer = to_come' ≡ to_come

-- whether a read gave no byte, which shows that the device has ended
abbrev pub gives_none : Result ℕ DeviceFault → Bool
gives_none (Ok n) = n == 0
gives_none (Err e) = false

-- it is the same device as before, of which one more read has failed after an error, and none without one
abbrev pub Counts : {T : Type 0} → Result T DeviceFault → FailureCount → FailureCount → Type 0
Counts (Ok x) before after = after ≡ before
Counts (Err e) before after = after ≡ failed_again before
