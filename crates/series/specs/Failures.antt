-- Which devices failed, and how often.
use Rattle.std.specs.Prelude.{◌≡◌, ◌⊎◌, ⊤, ℕ, ◌+◌, ◌-◌, ◌^◌, ◌<◌, Bool, false, true, List, Result, MatchResult, All, is_err, length, map, slice_index_or, slice_set}
use Rattle.tokens.specs.Feed.{failed_again}
use Rattle.tokens.specs.Device.{FailureCount, Device}
use Rattle.sinks.specs.Portions.{SinkState}
use Rattle.sinks.specs.Puts.{CanFail, CountsSink}
use Rattle.series.specs.declared.compiling.CompileFault.{CompileFault}
use Rattle.series.specs.declared.run_results.RunFault.{RunFault}
use Rattle.series.specs.declared.run_results.RunFault.TheVariants as run_fault
use Rattle.series.specs.declared.run_results.Status.{Status}
use Rattle.series.specs.SourceReading.{IfRead}

-- which device each feed is and how often it has failed, and how often the sink of texts and that of faults have
pub record Failures : Type 0 where
  pub feeds : List FailureCount
  pub text : ℕ
  pub faults : ℕ

-- of each feed, which device it is and how often it has failed
abbrev pub accounts : {F : Type 0} → (F → Device) → List F → List FailureCount
accounts device feeds = map (λ feed. (device feed).account) feeds

-- n failures of the sinks, and those of feeds
abbrev pub failing : List FailureCount → (text faults : ℕ) → Failures
failing feeds text faults = record { feeds = feeds; text = text; faults = faults }

-- those of these feeds and sinks
abbrev pub failures : {F : Type 0} → (F → Device) → List F → (text faults : SinkState) → Failures
failures device feeds text faults = failing (accounts device feeds) text.failures faults.failures

-- past the last feed
abbrev pub no_device : FailureCount
no_device = record { device = 0; failures = 0 }

-- one feed has failed once more
abbrev pub feed_failed : Failures → ℕ → Failures
feed_failed before file = record before
    { feeds = slice_set before.feeds file (failed_again (slice_index_or before.feeds file no_device)) }

-- one sink has failed once more
abbrev pub SinkFailed : Failures → Failures → Type 0
SinkFailed before after =
    (after ≡ record before { text = before.text + 1 }) ⊎ (after ≡ record before { faults = before.faults + 1 })

-- a run was stopped by the one device that failed, and none is refused memory
abbrev pub StoppedBy : RunFault → Failures → Failures → Type 0
StoppedBy (run_fault.Read file) before after = (file < length before.feeds) × (after ≡ feed_failed before file)
StoppedBy run_fault.Write before after = SinkFailed before after
StoppedBy run_fault.Memory before after = ⊥

-- no device failed, or the one that stopped the run
abbrev pub FailsAsAnswered : {A : Type 0} → Result A RunFault → Failures → Failures → Type 0
FailsAsAnswered result before after = MatchResult result (λ _. after ≡ before) (λ fault. StoppedBy fault before after)

-- A sink fails once for all: a call that asks it fails exactly if it does. After that each call fails, and it is asked
-- no more.
abbrev pub FailsOnce : {T E : Type 0} → Bool → Result T E → SinkState → SinkState → Type 0
FailsOnce false result before after = CountsSink result before after
FailsOnce true result before after = (is_err result ≡ true) × (after ≡ before)

-- no sink failed, or one of them once
abbrev pub CountsSinks : {T E : Type 0} → Result T E → (text faults later_text later_faults : SinkState) → Type 0
CountsSinks result text faults later_text later_faults = MatchResult result
    (λ _. (later_text.failures ≡ text.failures) × (later_faults.failures ≡ faults.failures))
    (λ _. ((later_text.failures ≡ text.failures + 1) × (later_faults.failures ≡ faults.failures))
    ⊎ ((later_text.failures ≡ text.failures) × (later_faults.failures ≡ faults.failures + 1)))

-- There are n feeds, none of which has ended, and a further failure of each can be counted. So can one of each
-- sink.
pub record AreReady {F : Type 0} (device : F → Device) (count : ℕ) (given : List F) (out err : SinkState) : Type 0 where
  pub files : length given ≡ count
  pub feeds : All (λ feed. (device feed).account.failures < 2 ^ 64 - 1) given
  pub not_ended : All (λ feed. (device feed).ended ≡ false) given
  pub text : CanFail out
  pub faults : CanFail err

-- of one file's devices none failed, or the feed once if the file was not read, or a sink once if not all was put
pub record CountsFileFailures (result : Result Status CompileFault) (account later_account : FailureCount)
    (text faults later_text later_faults : SinkState) : Type 0 where
  pub feed : IfRead result (later_account ≡ account) (later_account ≡ failed_again account)
  pub sinks : IfRead result (CountsSinks result text faults later_text later_faults) ⊤
