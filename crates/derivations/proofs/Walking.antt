-- A step of the automaton is a step of the walk.
use Rattle.std.proofs.Common.{◌≡◌, ℕ, zero, suc, List, ◌∷◌, ◌++◌, refl, sym, ap, ◌∙◌, subst, Bool, true, false, append-nil, append_assoc}
use Rattle.std.specs.Prelude.{Option, Some, None, map, is_some, unwrap_or, take, length, reverse, replicate, ◌-◌, if◌then◌else◌}
use Rattle.tokens.specs.declared.located_tokens.LocatedToken.{LocatedToken}
use Rattle.tokens.specs.declared.located_tokens.Token.{Token}
use Rattle.grammar.specs.Actions.{code_length}
use Rattle.grammar.specs.Derivation.{State, step, stepped, derived, next_token, token_after_next}
use Rattle.grammar.specs.Grammar.{Item, is_lexical_error}
use Rattle.grammar.specs.Profile.{Profile}
use Rattle.grammar_laws.specs.Emission.{emitted}
use Rattle.derivations.proofs.Shapes.{step_makes}
use Rattle.derivations.proofs.Stepping.{Goes, goes, rest_after}
use Rattle.derivations.proofs.Turned.{turned}
use Rattle.derivations.specs.Positions.{Walk, Mark, walk_start, walk_on, walk_stepped, walked, positions_within, step_positions, emission_position, position_from, positions_after, front_mark, origin_at, mark_at, marks_after, passed_after}
use Rattle.derivations.specs.Scheme.{blank_emitted}
use Rattle.derivations.specs.Stacks.{items_of, items_after, item_in, marks_of, mark_of, position_of, Moves}
use Rattle.derivations.specs.Steps.{front_of, has_step, outcome_of, stepped_if}
use Rattle.derivations.specs.Table.{item_of}
use Rattle.derivations.specs.Walks.{IsAt, AreNext, Reaches, positions_next, walk_at}
use Rattle.derivations.specs.declared.addresses.SourcePosition.{SourcePosition}
use Rattle.derivations.specs.declared.locations.Located.{Located}
use Rattle.derivations.specs.declared.steps.Automaton.{Automaton}
use Rattle.derivations.specs.declared.steps.Pending.{Pending}
use Rattle.derivations.specs.declared.steps.StepEnd.TheVariants as step_end

-- One more step of a walk.

pub walked_last : (n : ℕ) (w : Walk) → walked (suc n) w ≡ walk_stepped (walked n w)
walked_last zero w = refl
walked_last (suc n) w = walked_last n (walk_stepped w)

pub positions_last : (p : Profile) (n : ℕ) (w : Walk) →
    positions_within p (suc n) w ≡ positions_within p n w ++ step_positions p (walked n w)
positions_last p zero w = append-nil (step_positions p w)
positions_last p (suc n) w =
    ap (λ (xs : List SourcePosition). step_positions p w ++ xs) (positions_last p n (walk_stepped w))
    ∙ sym (append_assoc (step_positions p w) (positions_within p n (walk_stepped w))
    (step_positions p (walked n (walk_stepped w))))

pub stepped_state : (w : Walk) → (walk_stepped w).state ≡ stepped w.state
stepped_state w = by (step w.state) refl
  where
    by : (o : Option State) → step w.state ≡ o → (if is_some o then walk_on w else w).state ≡ stepped w.state
    by None e = sym (ap (λ (o : Option State). unwrap_or o w.state) e)
    by (Some t) e = refl

pub walked_state : (n : ℕ) (w : Walk) → (walked n w).state ≡ derived n w.state
walked_state zero w = refl
walked_state (suc n) w = walked_state n (walk_stepped w) ∙ ap (λ (s : State). derived n s) (stepped_state w)

-- what a step of the walk makes, by the scheme
pub step_length : (p : Profile) (tokens : List LocatedToken) (given : List SourcePosition) (n : ℕ) →
    let s = (walk_at tokens given n).state in
    code_length p (emitted s) ≡ code_length p (blank_emitted s.stack (next_token s.rest))
step_length p tokens given n =
    subst (λ (s : State). code_length p (emitted s) ≡ code_length p (blank_emitted s.stack (next_token s.rest)))
    (sym (walked_state n (walk_start tokens given))) (step_makes p n tokens)

-- What a step's end says.

pub record Fits (item : Item) (next after : Token) : Type 0 where
  pub sound : is_lexical_error next ≡ false
  pub has : has_step item next after ≡ true

fits_by : (item : Item) (next after : Token) (fault has : Bool) → is_lexical_error next ≡ fault →
    has_step item next after ≡ has → (if fault then step_end.Misfit else stepped_if has) ≡ step_end.Stepped →
    Fits item next after
fits_by item next after true has e k h = absurd cc
fits_by item next after false true e k h = record { sound = e; has = k }
fits_by item next after false false e k h = absurd cc

pub record HasFront (stack : List Pending) (next after : Token) : Type 0 where
  pub pending : Pending
  pub front : front_of stack ≡ Some pending
  pub fits : Fits (item_of pending.item) next after

front_by : (stack : List Pending) (next after : Token) (o : Option Pending) → front_of stack ≡ o →
    outcome_of o next after ≡ step_end.Stepped → HasFront stack next after
front_by stack next after None e h = absurd cc
front_by stack next after (Some p) e h = record {
  pending = p;
  front = e;
  fits = fits_by (item_of p.item) next after _ _ refl refl h;
}

pub has_front : (stack : List Pending) (next after : Token) →
    outcome_of (front_of stack) next after ≡ step_end.Stepped →
    HasFront stack next after
has_front stack next after h = front_by stack next after (front_of stack) refl h

-- The step.

pub goes_at : (old : Automaton) (w : Walk) (next after : Located) → IsAt old w →
    AreNext next after w.state.rest w.positions →
    HasFront old.stack.items next.token after.token → Goes w.state
goes_at old w next after at are f =
    let stack : List Item = map item_in (reverse (take (length old.stack.items - 1) old.stack.items)) in
    let e : w.state.stack ≡ item_of f.pending.item ∷ stack =
    sym at.items ∙ ap (λ (l : List Pending). map item_in l) (turned old.stack.items f.pending f.front) in
    goes w.state (item_of f.pending.item) stack e
    (subst (λ (t : Token). is_lexical_error t ≡ false) (sym are.next_is) f.fits.sound)
    (subst (λ (t : Token). has_step (item_of f.pending.item) t (token_after_next w.state.rest) ≡ true) (sym are.next_is)
    (subst (λ (t : Token). has_step (item_of f.pending.item) next.token t ≡ true) (sym (are.after_is f.fits.sound))
    f.fits.has))

pub items_same : (xs ys : List Item) (a b c d : Token) → xs ≡ ys → a ≡ b → c ≡ d →
    items_after xs a c ≡ items_after ys b d
items_same xs ys a b c d e f g =
    ap (λ (l : List Item). items_after l a c) e ∙ ap (λ (t : Token). items_after ys t c) f
    ∙ ap (λ (t : Token). items_after ys b t) g

marks_same : (xs ys : List Item) (a b c d : Token) (m k : Mark) (ms ks : List Mark) → xs ≡ ys → a ≡ b → c ≡ d → m ≡ k →
    ms ≡ ks → marks_after xs a c m ms ≡ marks_after ys b d k ks
marks_same xs ys a b c d m k ms ks e f g h i =
    ap (λ (l : List Item). marks_after l a c m ms) e ∙ ap (λ (t : Token). marks_after ys t c m ms) f
    ∙ ap (λ (t : Token). marks_after ys b t m ms) g ∙ ap (λ (x : Mark). marks_after ys b d x ms) h
    ∙ ap (λ (l : List Mark). marks_after ys b d k l) i

mark_same : (next after : Located) (rest : List LocatedToken) (positions : List SourcePosition) →
    AreNext next after rest positions → mark_of next after ≡ mark_at positions
mark_same next after rest positions are = cc (are.position_is, are.position_after_is)

passed_same : (xs ys : List Item) (a b c d : SourcePosition) → xs ≡ ys → a ≡ b → c ≡ d →
    passed_after xs a c ≡ passed_after ys b d
passed_same xs ys a b c d e f g =
    ap (λ (l : List Item). passed_after l a c) e ∙ ap (λ (t : SourcePosition). passed_after ys t c) f
    ∙ ap (λ (t : SourcePosition). passed_after ys b t) g

at_next : (old new : Automaton) (w : Walk) (next after : Located) → IsAt old w →
    AreNext next after w.state.rest w.positions →
    is_lexical_error next.token ≡ false → Goes w.state → Moves old new next after → IsAt new (walk_on w)
at_next old new w next after at are sound g m = record {
  items = m.items ∙ items_same _ _ _ _ _ _ at.items (sym are.next_is) (sym (are.after_is sound)) ∙ sym g.stack;
  marks = m.marks ∙ marks_same _ _ _ _ _ _ _ _ _ _ at.items (sym are.next_is) (sym (are.after_is sound))
      (mark_same next after w.state.rest w.positions are) at.marks;
  passed = m.passed ∙ passed_same _ _ _ _ _ _ at.items (sym are.position_is) at.passed;
}

-- the automaton's next positions are the walk's
pub positions_same : (p : Profile) (old : Automaton) (w : Walk) (next after : Located) → IsAt old w →
    AreNext next after w.state.rest w.positions →
    code_length p (emitted w.state) ≡ code_length p (blank_emitted w.state.stack (next_token w.state.rest)) →
    positions_next p old next ≡ step_positions p w
positions_same p old w next after at are same =
    ap (λ (l : List Item). replicate (code_length p (blank_emitted l next.token))
    (position_from (origin_at l) (front_mark (marks_of old.stack.items)) old.passed (position_of next))) at.items
    ∙ ap (λ (l : List Mark). replicate (code_length p (blank_emitted w.state.stack next.token))
    (position_from (origin_at w.state.stack) (front_mark l) old.passed (position_of next))) at.marks
    ∙ ap (λ (x : SourcePosition). replicate (code_length p (blank_emitted w.state.stack next.token))
    (position_from (origin_at w.state.stack) (front_mark w.marks) x (position_of next))) at.passed
    ∙ ap (λ (x : SourcePosition). replicate (code_length p (blank_emitted w.state.stack next.token))
    (position_from (origin_at w.state.stack) (front_mark w.marks) w.passed x)) (sym are.position_is)
    ∙ ap (λ (t : Token). replicate (code_length p (blank_emitted w.state.stack t)) (emission_position w))
    (sym are.next_is)
    ∙ ap (λ (k : ℕ). replicate k (emission_position w)) (sym same)

pub record StepReaches (profile : Profile) (tokens : List LocatedToken) (given : List SourcePosition) (n : ℕ)
    (old new : Automaton) (positions : List SourcePosition) : Type 0 where
  pub reaches : Reaches profile tokens given (suc n) new positions
  pub rest : (walk_at tokens given (suc n)).state.rest
      ≡ rest_after (items_of old.stack.items) (walk_at tokens given n).state.rest
  pub left : (walk_at tokens given (suc n)).positions
      ≡ positions_after (items_of old.stack.items) (walk_at tokens given n).positions

pub stepped_on : (w : Walk) → is_some (step w.state) ≡ true → walk_stepped w ≡ walk_on w
stepped_on w e = ap (λ (b : Bool). if b then walk_on w else w) e

pub step_reaches : (profile : Profile) (tokens : List LocatedToken) (given : List SourcePosition) (n : ℕ)
    (old new : Automaton) (before positions : List SourcePosition) (next after : Located) →
    Reaches profile tokens given n old before →
    AreNext next after (walk_at tokens given n).state.rest (walk_at tokens given n).positions →
    outcome_of (front_of old.stack.items) next.token after.token ≡ step_end.Stepped → Moves old new next after →
    (is_lexical_error next.token ≡ false → positions ≡ before ++ positions_next profile old next) →
    StepReaches profile tokens given n old new positions
step_reaches profile tokens given n old new before positions next after r are end moves kept =
    let w : Walk = walk_at tokens given n in
    let f : HasFront old.stack.items next.token after.token = has_front old.stack.items next.token after.token end in
    let g : Goes w.state = goes_at old w next after r.at are f in
    let on : walk_at tokens given (suc n) ≡ walk_on w = walked_last n (walk_start tokens given) ∙ stepped_on w g.goes in
    record {
      reaches = record {
        at = subst (λ (x : Walk). IsAt new x) (sym on) (at_next old new w next after r.at are f.fits.sound g moves);
        made = kept f.fits.sound
            ∙ ap (λ (xs : List SourcePosition). xs ++ positions_next profile old next) r.made
            ∙ ap (λ (xs : List SourcePosition). positions_within profile n (walk_start tokens given) ++ xs)
            (positions_same profile old w next after r.at are (step_length profile tokens given n))
            ∙ sym (positions_last profile n (walk_start tokens given));
      };
      rest = ap (λ (x : Walk). x.state.rest) on ∙ g.rest
          ∙ ap (λ (l : List Item). rest_after l w.state.rest) (sym r.at.items);
      left = ap (λ (x : Walk). x.positions) on
          ∙ ap (λ (l : List Item). positions_after l w.positions) (sym r.at.items);
    }
