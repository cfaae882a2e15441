-- The positions of the instructions that a step makes are kept.
use Rattle.std.proofs.Common.{◌≡◌, ℕ, ◌+◌, ◌≤◌, List, [], ◌∷◌, ◌++◌, ap, ◌∙◌, append_assoc, arith}
use Rattle.std.specs.Prelude.{replicate}
use Rattle.std.proofs.lemmas.List.{replicate-append-replicate}
use Rattle.grammar.specs.Actions.{code_length}
use Rattle.grammar.specs.Profile.{Profile}
use Rattle.grammar.specs.declared.actions.Action.{Action}
use Rattle.derivations.specs.Positions.{front_mark, position_from, origin_at}
use Rattle.derivations.specs.Scheme.{blank_emitted}
use Rattle.derivations.specs.Stacks.{items_of, marks_of, position_of}
use Rattle.derivations.specs.Walks.{positions_next}
use Rattle.derivations.specs.declared.addresses.SourcePosition.{SourcePosition}
use Rattle.derivations.specs.declared.emissions.Origin.{Origin}
use Rattle.derivations.specs.declared.locations.Located.{Located}
use Rattle.derivations.specs.declared.steps.Automaton.{Automaton}

-- one more
pub kept_more : (found grown base : List SourcePosition) (p : SourcePosition) (n : ℕ) → grown ≡ found ++ p ∷ [] →
    found ≡ base ++ replicate n p → grown ≡ base ++ replicate (n + 1) p
kept_more found grown base p n g f =
    g ∙ ap (λ (l : List SourcePosition). l ++ p ∷ []) f
    ∙ append_assoc base (replicate n p) (p ∷ [])
    ∙ ap (λ (l : List SourcePosition). base ++ l) (replicate-append-replicate n 1 p)

-- all of a step
pub kept_all : (profile : Profile) (automaton : Automaton) (next : Located) (before kept : List SourcePosition)
    (made count : ℕ) (acts : List Action) (from : Origin) (place : SourcePosition) → made ≤ count → count ≤ made →
    count ≡ code_length profile acts → acts ≡ blank_emitted (items_of automaton.stack.items) next.token →
    from ≡ origin_at (items_of automaton.stack.items) →
    place ≡ position_from from (front_mark (marks_of automaton.stack.items)) automaton.passed (position_of next) →
    kept ≡ before ++ replicate made place → kept ≡ before ++ positions_next profile automaton next
kept_all profile automaton next before kept made count acts from place low high e f g h k =
    let all : made ≡ count = omega (arith, low, high) in
    let number : made ≡ code_length profile (blank_emitted (items_of automaton.stack.items) next.token) =
    all ∙ e ∙ ap (λ (l : List Action). code_length profile l) f in
    let position : place ≡ position_from (origin_at (items_of automaton.stack.items))
    (front_mark (marks_of automaton.stack.items)) automaton.passed (position_of next) =
    h ∙ ap (λ (o : Origin). position_from o (front_mark (marks_of automaton.stack.items)) automaton.passed
    (position_of next)) g in
    k ∙ ap (λ (n : ℕ). before ++ replicate n place) number
    ∙ ap (λ (p : SourcePosition). before
    ++ replicate (code_length profile (blank_emitted (items_of automaton.stack.items) next.token)) p) position
