-- What the words ask for, by what `clap` makes of them.
use Rattle.std.proofs.Common.{◌≡◌, ◌≢◌, List, [], ◌∷◌, Result, Err, refl}
use Rattle.clap.specs.Words.{Kinds, Row, Text, fault_of, matches_of}
use Rattle.settings.specs.declared.faults.UseFault.{UseFault}
use Rattle.settings.specs.declared.faults.UseFault.TheVariants.{Usage}
use Rattle.settings.specs.Given.{settings_given}
use Rattle.settings.specs.Settings.{Settings}
use Rattle.arguments.specs.CommandLine.{crobots_app}
use Rattle.arguments.specs.Asked.{asked, given_by, unless_refused}

pub asked-taken : (words : List Text) (rows : List Row) → fault_of crobots_app words ≡ [] →
    rows ≡ matches_of crobots_app words
    → settings_given (given_by rows) ≡ asked words
unfolding asked
asked-taken words rows taken is = rw (taken, is) refl

refused : (kinds : Kinds) (answer : Result Settings UseFault) → kinds ≢ [] → Err Usage ≡ unless_refused kinds answer
refused [] answer some = absurd (some refl)
refused (k ∷ ks) answer some = refl

pub asked-refused : (words : List Text) → fault_of crobots_app words ≢ [] → Err Usage ≡ asked words
unfolding asked
asked-refused words some =
    refused (fault_of crobots_app words) (settings_given (given_by (matches_of crobots_app words))) some
