-- A nested production ends in `Close`.
use Rattle.std.specs.Prelude.{◌≡◌, ℕ, Bool, Some, None, if◌then◌else◌}
use Rattle.tokens.specs.declared.located_tokens.Token.{Token}
use Rattle.grammar.specs.Faults.{nested_count}
use Rattle.grammar.specs.Grammar.{Symbol, Production, choice, enters}

-- the production chosen is nested exactly if it has one
abbrev pub closes : Production → ℕ
closes None = 0
closes (Some items) = nested_count items

abbrev pub nested_entered : Bool → ℕ
nested_entered b = if b then 1 else 0

abbrev pub NestedProductionsClose : Type 0
NestedProductionsClose = (symbol : Symbol) (next after : Token)
    → closes (choice symbol next after) ≡ nested_entered (enters symbol next after)
