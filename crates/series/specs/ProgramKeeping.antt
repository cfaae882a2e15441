-- Which programs are kept of the files so far, and whether each file was good.
use Rattle.std.specs.Prelude.{◌≡◌, ℕ, ◌+◌, ◌<◌, List, [], ◌∷◌, ◌++◌, Option, Some, None, Result, Ok, Err, IfOk, IfSome, length, option_map}
use Rattle.battles.specs.Programs.{AreOfProfile}
use Rattle.grammar.specs.Profile.{Profile}
use Rattle.grammar.specs.declared.diagnostics.Diagnostic.{Diagnostic}
use Rattle.code.specs.Generation.{Program}
use Rattle.settings.specs.declared.settings.Mode.{Mode}
use Rattle.settings.specs.SettingsLimits.{most_files}
use Rattle.series.specs.declared.compiling.CompileFault.{CompileFault}
use Rattle.series.specs.declared.run_results.Status.{Status}
use Rattle.series.specs.declared.run_results.Status.TheVariants.{Done, Faulty}

-- the programs so far with that of one more file; a faulty file leaves none
abbrev pub and_program_of_file : Option (List Program) → Result Program Diagnostic → Option (List Program)
and_program_of_file (Some codes) (Ok code) = Some (codes ++ code ∷ [])
and_program_of_file _ _ = None

-- the programs that were kept count if no file has a fault
abbrev pub kept_by : Status → List Program → Option (List Program)
kept_by Done kept = Some kept
kept_by Faulty kept = None

-- what is kept, with one more program; nothing is kept if programs are let go
abbrev pub and_program : Option (List Program) → Program → Option (List Program)
and_program kept code = option_map (λ codes. codes ++ code ∷ []) kept

-- what is kept, with a good file's program
abbrev pub and_compiled : Option (List Program) → Result Program Diagnostic → Option (List Program)
and_compiled kept (Ok code) = and_program kept code
and_compiled kept (Err d) = kept

-- how many programs a file gives
abbrev pub count_of : Status → ℕ
count_of Done = 1
count_of Faulty = 0

-- one more program is kept of a good file
abbrev pub KeepsMore : Status → (before after : Option (List Program)) → Type 0
KeepsMore status before after = option_map length after ≡ option_map (λ codes. length codes + count_of status) before

-- whether a file is good
abbrev pub status_by : Result Program Diagnostic → Status
status_by (Ok code) = Done
status_by (Err d) = Faulty

-- a faulty part leaves no good status
abbrev pub worse_status : Status → Status → Status
worse_status Done second = second
worse_status Faulty second = Faulty

-- a keeper has room for one more program, and those that it kept are of this profile
pub record CanKeep (profile : Profile) (kept : Option (List Program)) : Type 0 where
  pub room : IfSome kept (λ codes. length codes < most_files)
  pub alike : IfSome kept (λ codes. AreOfProfile profile codes)

-- a keeper has this mode, and has kept nothing
pub record IsNewKeeper (asked mode : Mode) (kept : Option (List Program)) : Type 0 where
  pub same_mode : mode ≡ asked
  pub none : IfSome kept (λ codes. codes ≡ [])

-- after one file a keeper has the mode that it had, its programs are of this profile, and of a good file there is one
-- more
pub record KeepsOn (profile : Profile) (result : Result Status CompileFault) (mode later_mode : Mode)
    (kept later : Option (List Program)) : Type 0 where
  pub same_mode : later_mode ≡ mode
  pub alike : IfSome later (λ codes. AreOfProfile profile codes)
  pub manned : IfOk result (λ status. KeepsMore status kept later)

-- after all files a keeper's programs are of this profile, and if all files are good there is one for each
pub record KeepsAll {F : Type 0} (profile : Profile) (count : ℕ) (result : Result Status F)
    (kept : Option (List Program)) : Type 0 where
  pub alike : IfSome kept (λ codes. AreOfProfile profile codes)
  pub manned : IfOk result (λ status. status ≡ Done → IfSome kept (λ codes. length codes ≡ count))
