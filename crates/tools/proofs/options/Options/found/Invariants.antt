use Rattle.std.proofs.Common.{◌≡◌, drop}
use Rattle.std.specs.Prelude.{bytes_eq, find}
use Rattle.tools.specs.Given.{option_of}
use Rattle.tools.proofs.options.Options.found.Given as goal

-- the option is found from here on, if at all
abbrev pub invariant-loop-given : goal.invariant-loop-given
invariant-loop-given l =
    find (λ given. bytes_eq given.name.now l.name) (drop l.given-index l.given-items) ≡ option_of l.self l.name
