-- What every run over source files promises.
use Rattle.std.specs.Prelude.{List, Result}
use Rattle.tokens.specs.Device.{Device}
use Rattle.settings.specs.Settings.{Settings}
use Rattle.sinks.specs.Portions.{SinkState}
use Rattle.series.specs.declared.run_results.RunFault.{RunFault}
use Rattle.series.specs.Compiling.{SourceFile}
use Rattle.series.specs.Failures.{FailsAsAnswered, failures}
use Rattle.series.specs.Pieces.{Taken, taken_by_sinks}
use Rattle.series.specs.SourceContents.{AreSources, known_to_come}
use Rattle.series.specs.SourceReading.{ReadsSources}

-- The files of these settings were gone over: if their contents are known, this is true of them and of what the sinks
-- had taken before and after. So much was read of them, and only the device failed that the answer names.
pub record GoesOver {F T : Type 0} (device : F → Device) (settings : Settings) (feeds later : List F)
    (text faults later_text later_faults : SinkState) (result : Result T RunFault)
    (Says : List SourceFile → Taken → Taken → Type 0) : Type 0 where
  pub output : (sources : List SourceFile) → AreSources sources settings.file_words (known_to_come device feeds)
      → Says sources (taken_by_sinks text faults) (taken_by_sinks later_text later_faults)
  pub read : ReadsSources settings result (known_to_come device feeds) (known_to_come device later)
      (taken_by_sinks text faults) (taken_by_sinks later_text later_faults)
  pub failures : FailsAsAnswered result (failures device feeds text faults)
      (failures device later later_text later_faults)
