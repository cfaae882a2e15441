-- How the program ends.
use Rattle.std.specs.Prelude.{◌≡◌, ◌⊎◌, ℕ, ◌+◌, List, [], ◌∷◌, ◌++◌, codes}
use Rattle.sinks.specs.Portions.{Takes, TakesPrefix, SinkState}
use Rattle.std.specs.declared.io.ErrorKind.{ErrorKind}
use Rattle.std.specs.declared.io.ErrorKind.TheVariants as error_kind
use Rattle.command.specs.declared.endings.Ending.{Ending}
use Rattle.command.specs.declared.endings.Ending.TheVariants.{Done, Faulty, WrongUsage, CannotOpen, CannotRead, CannotWrite, OutOfMemory}

-- how the program ends if its words were not read: words that are no text are wrong usage
abbrev pub unread_ending : ErrorKind → Ending
unread_ending error_kind.OutOfMemory = OutOfMemory
unread_ending _ = WrongUsage

-- the exit status
abbrev pub exit_status : Ending → ℕ
exit_status Done = 0
exit_status Faulty = 1
exit_status WrongUsage = 2
exit_status (CannotOpen word) = 3
exit_status (CannotRead word) = 3
exit_status CannotWrite = 4
exit_status OutOfMemory = 5

unfoldable pub usage_line : List ℕ
usage_line = codes "usage: crobots (-c | -mMATCHES) [-lCYCLES] [-sSEED] [-pPROFILE] [-fFIRST] FILE..." ++ 10 ∷ []

-- the line that the program puts on the channel of faults; a run that came to its end puts none
abbrev pub ending_line : Ending → List ℕ
ending_line Done = []
ending_line Faulty = []
ending_line WrongUsage = usage_line
ending_line (CannotOpen word) = codes "crobots: cannot open " ++ word.now ++ 10 ∷ []
ending_line (CannotRead word) = codes "crobots: cannot read " ++ word.now ++ 10 ∷ []
ending_line CannotWrite = codes "crobots: cannot write" ++ 10 ∷ []
ending_line OutOfMemory = codes "crobots: out of memory" ++ 10 ∷ []

-- a line was put: the sink took it, or it failed once and took a prefix of it
abbrev pub PutsLine : SinkState → SinkState → List ℕ → Type 0
PutsLine before after line =
    (Takes before.portions after.portions line × (after.failures ≡ before.failures))
    ⊎ (TakesPrefix before.portions after.portions line × (after.failures ≡ before.failures + 1))

-- the program ended so: it put the line, and answered the status
pub record IsEnded (ending : Ending) (result : ℕ) (before after : SinkState) : Type 0 where
  pub status : result ≡ exit_status ending
  pub line : PutsLine before after (ending_line ending)

-- how often the two sinks failed in a run that ended so: only if writing failed one of them did, once
abbrev pub FailsAsEnded : Ending → (text faults later_text later_faults : SinkState) → Type 0
FailsAsEnded CannotWrite text faults later_text later_faults =
    ((later_text.failures ≡ text.failures + 1) × (later_faults.failures ≡ faults.failures))
    ⊎ ((later_text.failures ≡ text.failures) × (later_faults.failures ≡ faults.failures + 1))
FailsAsEnded _ text faults later_text later_faults =
    (later_text.failures ≡ text.failures) × (later_faults.failures ≡ faults.failures)
