-- Which actions were reported to a maker.
use Rattle.std.specs.Prelude.{ℕ, ◌+◌, ◌≡◌, ◌<◌, ◌≤◌, List, [], ◌∷◌, Bool, true, length}
use Rattle.grammar.specs.declared.actions.Action.{Action}
use Rattle.grammar.specs.Actions.{code_length, ends_function}
use Rattle.grammar.specs.Profile.{Profile}
use Rattle.code.specs.Making.{Maker, maker_after}

-- no function is open after these actions
abbrev pub is_ended : List Action → Bool
is_ended [] = true
is_ended (a ∷ []) = ends_function a
is_ended (a ∷ b ∷ acts) = is_ended (b ∷ acts)

-- the code and the last NOP are within the profile's limit
abbrev pub FitsProfile : Profile → List Action → Type 0
FitsProfile p acts = code_length p acts + 1 ≤ p.instructions

-- A maker becomes this one if `count` further instructions and the last NOP have room. Else its code is full, or was.
-- In either case as many addresses are open.
pub record AddsCode (old new target : Maker) (count : ℕ) : Type 0 where
  pub room : length old.code + count < old.profile.instructions → new ≡ target
  pub full : old.profile.instructions ≤ length old.code + count → old.profile.instructions ≤ length new.code
  pub opened : length new.opened ≡ length target.opened
  pub profile : new.profile ≡ old.profile

-- A maker represents these actions by its profile: while they fit, it holds what they make; then its code is full.
-- As many addresses are open as the actions leave open. At a function's end the actions fit.
pub record MakerRepresents (maker : Maker) (p : Profile) (acts : List Action) : Type 0 where
  pub profile : p ≡ maker.profile
  pub holds : FitsProfile p acts → maker ≡ maker_after p acts
  pub full : p.instructions < code_length p acts + 1 → p.instructions ≤ length maker.code
  pub opened : length maker.opened ≡ length (maker_after p acts).opened
  pub ended : is_ended acts ≡ true → FitsProfile p acts
