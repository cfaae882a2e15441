-- What the words of a command line gave.
use Rattle.std.specs.Prelude.{ℕ, List, Option, bytes_eq, find, option_map}
use Rattle.tools.specs.declared.options.GivenOption.{GivenOption}
use Rattle.tools.specs.declared.options.Options.{Options}

-- the option of a name, if it was given
abbrev pub option_of : Options → List ℕ → Option GivenOption
option_of options name = find (λ given. bytes_eq given.name.now name) options.given.items

-- its value
abbrev pub value_of : Options → List ℕ → Option (List ℕ)
value_of options name = option_map (λ given. given.value.now) (option_of options name)
