-- The names of a list of tokens.
use Rattle.std.specs.Prelude.{ℕ, List, [], ◌∷◌, Option, Some, None}
use Rattle.std.specs.List.{filter_map}
use Rattle.tokens.specs.declared.located_tokens.Token.{Token}
use Rattle.tokens.specs.declared.located_tokens.Token.TheVariants as token
use Rattle.derivations.specs.declared.locations.Located.{Located}

-- one without a letter is none
abbrev pub name_kept : List ℕ → Option (List ℕ)
name_kept [] = None
name_kept (letter ∷ rest) = Some (letter ∷ rest)

abbrev pub name_of : Token → Option (List ℕ)
name_of (token.Name name) = name_kept name
name_of _ = None

-- the names of these tokens, in their order
abbrev pub names_of : List Located → List (List ℕ)
names_of tokens = filter_map (λ located. name_of located.token) tokens
