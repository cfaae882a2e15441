-- The command as `clap` knows it: `(-c | -mMATCHES) [-lCYCLES] [-sSEED] [-pPROFILE] [-fFIRST] FILE...`.
use Rattle.std.specs.Prelude.{ℕ, [], ◌∷◌, Some, true, codes}
use Rattle.clap.specs.Words.{App, Rule, Text, new_app, new_rule}
use Rattle.clap.specs.Simple.{on_top}
use Rattle.clap.specs.declared.builder.action.ArgAction.TheVariants.{Append, Set, SetTrue}

-- a flag of one letter
abbrev pub flag_rule : Text → ℕ → Rule
flag_rule id letter = record (new_rule id) { short = Some letter; action = Some SetTrue }

-- an option of one letter, with one text
abbrev pub option_rule : Text → ℕ → Rule
option_rule id letter = record (new_rule id) { short = Some letter; action = Some Set }

-- one or more words that belong to no option
abbrev pub files_rule : Text → Rule
files_rule id = record (new_rule id) { action = Some Append; required = true }

-- the words begin after the program's name
unfoldable pub crobots_app : App
crobots_app = on_top (λ top. record top {
  no_binary_name = true;
  rules = flag_rule (codes "c") 99 ∷ option_rule (codes "m") 109 ∷ option_rule (codes "l") 108
      ∷ option_rule (codes "s") 115 ∷ option_rule (codes "p") 112 ∷ option_rule (codes "f") 102
      ∷ files_rule (codes "FILE") ∷ [];
}) (new_app (codes "crobots"))
