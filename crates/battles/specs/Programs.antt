-- How programs are kept, and by which profile they were made.
use Rattle.std.specs.Prelude.{◌≡◌, List, Option, Some, map, flat_map, All}
use Rattle.std.specs.Option.{option_to_list}
use Rattle.grammar.specs.Profile.{Profile}
use Rattle.code.specs.Generation.{Program}

-- each is there
abbrev pub AllSome : {A : Type 0} → List (Option A) → Type 0
AllSome items = items ≡ map (λ x. Some x) (flat_map option_to_list items)

-- each was made by this profile
abbrev pub AreOfProfile : Profile → List Program → Type 0
AreOfProfile profile codes = All (λ code. code.profile ≡ profile) codes
