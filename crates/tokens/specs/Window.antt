-- What a window holds of a source that is read through it.
use Rattle.std.specs.Prelude.{◌≡◌, ◌≢◌, ℕ, zero, suc, ◌+◌, ◌-◌, ◌^◌, ◌<◌, ◌≤◌, Result, Ok, Err, slice_get, Bool, true}
use Rattle.std.specs.Prelude.{false, not, List, [], ◌∷◌, ◌++◌, length, take, drop, Option, nat_lt, ◌==◌}
use Rattle.std.specs.List.{prefix_len}
use Rattle.std.specs.Option.{option_map}
use Rattle.tokens.specs.TokenLimits.{most_source_bytes}
use Rattle.tokens.specs.WindowLimits.{most_taken_bytes, window_bytes}
use Rattle.tokens.specs.Characters.{is_blank}
use Rattle.tokens.specs.Feed.{failed_again}
use Rattle.tokens.specs.Device.{FailureCount, Device}
use Rattle.tokens.specs.Source.{source}
use Rattle.tokens.specs.Tokens.{UnreadSource, line_after}
use Rattle.tokens.specs.declared.devices.DeviceFault.{DeviceFault}
use Rattle.tokens.specs.declared.windows.Beyond.{Beyond}
use Rattle.tokens.specs.declared.windows.Beyond.TheVariants.{Unread, Nothing, TooMuch}

-- the line and the offset of the next byte, the bytes at hand, how many were taken from the device,
-- and what is known of the source after those at hand
pub record Window : Type 0 where
  pub line : ℕ
  pub offset : ℕ
  pub at_hand : List ℕ
  pub taken : ℕ
  pub beyond : Beyond

-- a window of this line, this offset, these bytes at hand, this many bytes taken, and this beyond
abbrev pub window_of : ℕ → ℕ → List ℕ → ℕ → Beyond → Window
window_of line offset at_hand taken beyond =
    record { line = line; offset = offset; at_hand = at_hand; taken = taken; beyond = beyond }

-- the bytes after those at hand, up to the limit, given the device's bytes to come
abbrev pub later : Beyond → ℕ → List ℕ → List ℕ
later Unread taken to_come = take (most_source_bytes - taken) (source to_come)
later Nothing taken to_come = []
later TooMuch taken to_come = []

-- whether the source goes on after the limit
abbrev pub goes_on : Beyond → ℕ → List ℕ → Bool
goes_on Unread taken to_come = nat_lt (most_source_bytes - taken) (length (source to_come))
goes_on Nothing taken to_come = false
goes_on TooMuch taken to_come = true

-- what lies ahead
abbrev pub ahead : Window → List ℕ → UnreadSource
ahead window to_come = record {
  line = window.line;
  offset = window.offset;
  bytes = window.at_hand ++ later window.beyond window.taken to_come;
  too_long = goes_on window.beyond window.taken to_come;
}

-- the same, if the device's bytes to come are known
abbrev pub seen : Window → Option (List ℕ) → Option UnreadSource
seen window to_come = option_map (ahead window) to_come

-- a source of which nothing was read
abbrev pub untouched : Window
untouched = record { line = 1; offset = 0; at_hand = []; taken = 0; beyond = Unread }

-- the window after the first byte at hand
abbrev pub window_after_byte : Window → Window
window_after_byte window = go window.at_hand
  where
    go : List ℕ → Window
    go [] = window
    go (b ∷ rest) = record window { line = line_after b window.line; offset = window.offset + 1; at_hand = rest }

-- the window after this many bytes at hand
abbrev pub window_after : ℕ → Window → Window
window_after zero window = window
window_after (suc n) window = window_after n (window_after_byte window)

-- the window after the bytes at hand that are before the next `*`
abbrev pub window_after_plain : Window → Window
window_after_plain window = window_after (prefix_len (λ b. not (b == 42)) window.at_hand) window

-- the window after the blanks at hand
abbrev pub window_after_blanks : Window → Window
window_after_blanks window = window_after (prefix_len is_blank window.at_hand) window

-- how many of these bytes belong to a source for which there is this much room, and what follows them
abbrev pub Splits : List ℕ → ℕ → ℕ → Beyond → Type 0
Splits bytes room kept Unread = (source bytes ≡ bytes) × (kept ≡ length bytes) × (0 < length bytes)
    × (length bytes ≤ room)
Splits bytes room kept TooMuch = (source bytes ≡ bytes) × (kept ≡ room) × (room < length bytes)
Splits bytes room kept Nothing = (kept ≡ length (source bytes)) × (length (source bytes) ≤ room)
    × (0 < length bytes → length (source bytes) < length bytes)

-- the same line and offset
pub record IsAtSameOffset (old new : Window) : Type 0 where
  pub line : new.line ≡ old.line
  pub offset : new.offset ≡ old.offset

-- a byte is at hand, or what is beyond is known
abbrev pub IsAtHandOrEnd : Window → Type 0
IsAtHandOrEnd window = window.at_hand ≡ [] → window.beyond ≢ Unread

-- a window shows the same source as before; a byte of it is at hand, or what is beyond is known
pub record Shows (old new : Window) (to_come to_come' : Option (List ℕ)) : Type 0 where
  pub seen : seen new to_come' ≡ seen old to_come
  pub ready : IsAtHandOrEnd new

-- a window that would still ask its device knows that this has not ended
abbrev pub KnowsEnd : Beyond → Bool → Type 0
KnowsEnd beyond ended = beyond ≡ Unread → ended ≡ false

-- how the fields of a window go together
pub record IsWindow (next filled start taken line : ℕ) (beyond : Beyond) : Type 0 where
  pub ordered : next ≤ filled
  pub fits : filled ≤ window_bytes
  pub within : start + filled ≤ most_source_bytes
  pub lines : line ≤ start + next + 1
  pub all_taken : beyond ≡ Unread → start + filled ≡ taken
  pub bounded : taken ≤ most_taken_bytes
  pub near : taken ≤ start + window_bytes

-- what a device has still to give is all but the bytes taken, of which there were `before` and are `now`
pub record TakesBytes (before now : ℕ) (to_come to_come' : Option (List ℕ)) : Type 0 where
  pub rest : (total : Option (List ℕ)) → to_come ≡ option_map (drop before) total →
      to_come' ≡ option_map (drop now) total

-- What each call on a window needs and keeps. Every contract of the lexer cites these facts.

-- what is true of every window: the bytes taken are at most a window after its offset, and at most as many as may be
-- taken, and its offset is in the source
pub record IsBounded (window : Window) : Type 0 where
  pub near : window.taken ≤ window.offset + window_bytes
  pub limited : window.taken ≤ most_taken_bytes
  pub within : window.offset ≤ most_source_bytes

-- a window may ask its device: a further failure can be counted, and it knows if the device has ended
pub record MayAsk (window : Window) (device : Device) : Type 0 where
  pub countable : device.account.failures < 2 ^ 64 - 1
  pub known : KnowsEnd window.beyond device.ended

-- A window went on, or stayed: its device has still to give all but the bytes taken, and has failed as often as
-- counted. The window is as every window is, and knows if the device has ended.
pub record HasReadOn (old new : Window) (to_come to_come' : Option (List ℕ)) (counted account : FailureCount)
    (ended : Bool)
    : Type 0 where
  pub took : TakesBytes old.taken new.taken to_come to_come'
  pub forward : old.offset ≤ new.offset
  pub near : new.taken ≤ new.offset + window_bytes
  pub limited : new.taken ≤ most_taken_bytes
  pub within : new.offset ≤ most_source_bytes
  pub count : account ≡ counted
  pub known : KnowsEnd new.beyond ended

-- what a call leaves that may ask the device, which fails once more if the call fails
abbrev pub LeavesAsked : {T : Type 0} → Result T DeviceFault → Window → Window → Option (List ℕ) → Option (List ℕ)
    → FailureCount → FailureCount → Bool → Type 0
LeavesAsked (Ok x) old new to_come to_come' before after ended = HasReadOn old new to_come to_come' before after ended
LeavesAsked (Err e) old new to_come to_come' before after ended =
    HasReadOn old new to_come to_come' (failed_again before) after ended

abbrev pub MayHaveAsked : {T : Type 0} → Result T DeviceFault → Window → Window → (before after : Device) → Type 0
MayHaveAsked result old new before after =
    LeavesAsked result old new before.to_come after.to_come before.account after.account after.ended

-- bytes at hand were skipped, and nothing was asked
pub record SkipsBytes (old new : Window) : Type 0 where
  pub forward : old.offset ≤ new.offset
  pub taken : new.taken ≡ old.taken
  pub beyond : new.beyond ≡ old.beyond
  pub near : new.taken ≤ new.offset + window_bytes
  pub limited : new.taken ≤ most_taken_bytes
  pub within : new.offset ≤ most_source_bytes

-- the next byte, or none at the end
pub record IsNextByte (byte : Option ℕ) (window : Window) : Type 0 where
  pub first : byte ≡ slice_get window.at_hand 0
  pub ready : IsAtHandOrEnd window
