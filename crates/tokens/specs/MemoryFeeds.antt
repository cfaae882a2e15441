-- A device in memory.
use Rattle.std.specs.Prelude.{◌≡◌, ◌↔◌, ◌≤◌, ◌-◌, ℕ, Bool, IfOk, IsErr, List, Result, Some}
use Rattle.tokens.specs.Device.{Device}
use Rattle.tokens.specs.declared.devices.DeviceFault.{DeviceFault}

-- the bytes that it has still to give, how many it gave, how many it gives at most at a read, how often it failed,
-- after how many further reads each one fails, and whether it gave none
pub record MemoryFeed : Type 0 where
  pub to_come : List ℕ
  pub taken : ℕ
  pub most : ℕ
  pub failures : ℕ
  pub reads_left : ℕ
  pub ended : Bool

-- a device with these values of the fields, in their order
abbrev pub memory_feed_of : List ℕ → ℕ → ℕ → ℕ → ℕ → Bool → MemoryFeed
memory_feed_of to_come taken most failures reads_left ended = record {
  to_come = to_come;
  taken = taken;
  most = most;
  failures = failures;
  reads_left = reads_left;
  ended = ended;
}

-- Devices in memory all have the number 0.
abbrev pub device_of : MemoryFeed → Device
device_of supply = record {
  account = record { device = 0; failures = supply.failures };
  to_come = Some supply.to_come;
  ended = supply.ended;
}

-- No read gives more bytes than it may, and the only reads that fail are those from the given one on.
pub record GivesPiece (result : Result ℕ DeviceFault) (old new : MemoryFeed) : Type 0 where
  pub few : IfOk result (λ n. n ≤ old.most)
  pub most : new.most ≡ old.most
  pub fails : IsErr result ↔ (old.reads_left ≡ 0)
  pub left : new.reads_left ≡ old.reads_left - 1
