-- What the automaton does with its stack is a step's.
use Rattle.std.proofs.Common.{◌≡◌, ℕ, ◌+◌, ◌<◌, List, [], ◌∷◌, ◌++◌, refl, sym, ap, ◌∙◌, subst, Bool, true, false, length, take, drop, arith}
use Rattle.std.specs.Prelude.{◌-◌, ◌^◌, map, reverse, Option, Some, None, unwrap_or, if◌then◌else◌}
use Rattle.grammar.specs.Grammar as table
use Rattle.tokens.specs.declared.located_tokens.Token.{Token}
use Rattle.derivations.proofs.Turned.{dropped, turned, turned_none}
use Rattle.derivations.specs.Positions.{mark, nowhere, front_mark, chosen_items, passes, passes_with}
use Rattle.derivations.specs.Stacks.{IsMove, IsOverfull, Moves, item_in, items_after, items_of, mark_in, mark_of, marks_of, most_pending, position_of, tokens_passed}
use Rattle.derivations.specs.Steps.{decided_of, end_of, front_of, outcome_of}
use Rattle.derivations.specs.Table.{item_of}
use Rattle.derivations.specs.declared.addresses.SourcePosition.{SourcePosition}
use Rattle.derivations.specs.declared.locations.Located.{Located}
use Rattle.derivations.specs.declared.steps.Automaton.{Automaton}
use Rattle.derivations.specs.declared.steps.Move.{Move}
use Rattle.derivations.specs.declared.steps.Move.TheVariants as move
use Rattle.derivations.specs.declared.steps.Pending.{Pending}

record IsReplaced (item : table.Item) (stack : List table.Item) (next after : Token) (production : List table.Item)
    : Type 0 where
  chosen : chosen_items (item ∷ stack) next after ≡ production
  passes_none : passes item ≡ false

is_replaced : (item : table.Item) (stack : List table.Item) (next after : Token) (production : List table.Item) →
    IsMove item next after (move.Replace production) → IsReplaced item stack next after production
is_replaced (table.Part symbol) stack next after production h =
    record { chosen = ap (λ (o : Option (List table.Item)). unwrap_or o []) h; passes_none = refl }
is_replaced item stack next after production h = absurd h

record IsPassed (item : table.Item) (stack : List table.Item) (next after : Token) (tokens : ℕ) : Type 0 where
  chosen : chosen_items (item ∷ stack) next after ≡ []
  count : tokens ≡ tokens_passed (passes item)

is_passed : (item : table.Item) (stack : List table.Item) (next after : Token) (tokens : ℕ) →
    IsMove item next after (move.Pass tokens) → IsPassed item stack next after tokens
is_passed (table.Part symbol) stack next after tokens h = absurd (let no : true ≡ false = h.1 in cc)
is_passed item stack next after tokens h = record { chosen = refl; count = h.0 }

-- the item in front is the first
pub first_item : (stack : List Pending) (p : Pending) → front_of stack ≡ Some p →
    items_of stack ≡ item_of p.item ∷ map item_in (reverse (take (length stack - 1) stack))
first_item stack p e = ap (λ (l : List Pending). map item_in l) (turned stack p e)

pub first_mark : (stack : List Pending) (p : Pending) → front_of stack ≡ Some p →
    marks_of stack ≡ mark_in p ∷ map mark_in (reverse (take (length stack - 1) stack))
first_mark stack p e = ap (λ (l : List Pending). map mark_in l) (turned stack p e)

map_dropped : {A : Type 0} {B : Type 0} (f : A → B) (xs : List A) → map f (drop 1 xs) ≡ drop 1 (map f xs)
map_dropped f [] = refl
map_dropped f (x ∷ xs) = refl

pub popped_items : (stack : List Pending) → items_of (take (length stack - 1) stack) ≡ drop 1 (items_of stack)
popped_items stack = ap (λ (l : List Pending). map item_in l) (dropped stack) ∙ map_dropped item_in (reverse stack)

pub popped_marks : (stack : List Pending) → marks_of (take (length stack - 1) stack) ≡ drop 1 (marks_of stack)
popped_marks stack = ap (λ (l : List Pending). map mark_in l) (dropped stack) ∙ map_dropped mark_in (reverse stack)

-- what a step that passes this many tokens leaves of the position of the last one
passed_position : (b : Bool) (tokens : ℕ) (here passed position : SourcePosition) → tokens ≡ tokens_passed b →
    (0 < tokens → position ≡ here) → (tokens ≡ 0 → position ≡ passed) → position ≡ (if b then here else passed)
passed_position true tokens here passed position e some none = some (omega (arith, e))
passed_position false tokens here passed position e some none = none e

replaced_moves : (old new : Automaton) (next after : Located) (p : Pending) (production : List table.Item) →
    front_of old.stack.items ≡ Some p → IsMove (item_of p.item) next.token after.token (move.Replace production) →
    items_of new.stack.items ≡ production ++ drop 1 (items_of old.stack.items) →
    marks_of new.stack.items
    ≡ map (λ (item : table.Item). mark_of next after) production ++ drop 1 (marks_of old.stack.items) →
    new.passed ≡ old.passed → new.place ≡ old.place → Moves old new next after
replaced_moves old new next after p production front is items marks passed place =
    let rest : List table.Item = map item_in (reverse (take (length old.stack.items - 1) old.stack.items)) in
    let first : items_of old.stack.items ≡ item_of p.item ∷ rest = first_item old.stack.items p front in
    let r : IsReplaced (item_of p.item) rest next.token after.token production =
    is_replaced (item_of p.item) rest next.token after.token production is in
    let chosen : chosen_items (items_of old.stack.items) next.token after.token ≡ production =
    ap (λ (l : List table.Item). chosen_items l next.token after.token) first ∙ r.chosen in
    let none : passes_with (items_of old.stack.items) ≡ false = ap passes_with first ∙ r.passes_none in
    record {
      items = items ∙ sym (ap (λ (l : List table.Item). l ++ drop 1 (items_of old.stack.items)) chosen);
      marks = marks ∙ sym (ap (λ (l : List table.Item). map (λ (item : table.Item). mark_of next after) l
          ++ drop 1 (marks_of old.stack.items)) chosen);
      passed = passed ∙ sym (ap (λ (b : Bool). if b then position_of next else old.passed) none);
      place = λ few. let zero_passed : tokens_passed (passes_with (items_of old.stack.items)) ≡ 0 =
          ap tokens_passed none in omega (arith, place, zero_passed);
    }

pub passed_moves : (old new : Automaton) (next after : Located) (p : Pending) (tokens : ℕ) →
    front_of old.stack.items ≡ Some p → IsMove (item_of p.item) next.token after.token (move.Pass tokens) →
    new.stack.items ≡ take (length old.stack.items - 1) old.stack.items →
    (old.place + tokens < 2 ^ 64 → new.place ≡ old.place + tokens) →
    (0 < tokens → new.passed ≡ position_of next) → (tokens ≡ 0 → new.passed ≡ old.passed) →
    Moves old new next after
passed_moves old new next after p tokens front is popped place some none =
    let rest : List table.Item = map item_in (reverse (take (length old.stack.items - 1) old.stack.items)) in
    let first : items_of old.stack.items ≡ item_of p.item ∷ rest = first_item old.stack.items p front in
    let r : IsPassed (item_of p.item) rest next.token after.token tokens =
    is_passed (item_of p.item) rest next.token after.token tokens is in
    let chosen : chosen_items (items_of old.stack.items) next.token after.token ≡ [] =
    ap (λ (l : List table.Item). chosen_items l next.token after.token) first ∙ r.chosen in
    let count : tokens ≡ tokens_passed (passes_with (items_of old.stack.items)) =
    r.count ∙ sym (ap (λ (l : List table.Item). tokens_passed (passes_with l)) first) in
    record {
      items = ap (λ (l : List Pending). items_of l) popped ∙ popped_items old.stack.items
          ∙ sym (ap (λ (l : List table.Item). l ++ drop 1 (items_of old.stack.items)) chosen);
      marks = ap (λ (l : List Pending). marks_of l) popped ∙ popped_marks old.stack.items
          ∙ sym (ap (λ (l : List table.Item). map (λ (item : table.Item). mark_of next after) l
          ++ drop 1 (marks_of old.stack.items)) chosen);
      passed = passed_position (passes_with (items_of old.stack.items)) tokens (position_of next) old.passed new.passed
          count some none;
      place = λ few. by (passes_with (items_of old.stack.items)) count few;
    }
  where
    by : (b : Bool) → tokens ≡ tokens_passed b → old.place + 1 < 2 ^ 64 → new.place ≡ old.place + tokens_passed b
    by true e few = place (omega (arith, e, few)) ∙ ap (λ (k : ℕ). old.place + k) e
    by false e few = place (omega (arith, e, few)) ∙ ap (λ (k : ℕ). old.place + k) e

-- the same, by way of an automaton whose levels were counted
pub replaces : (old mid new : Automaton) (next after : Located) (here behind : SourcePosition) (p : Pending)
    (production : List table.Item) (does : Move) → does ≡ move.Replace production →
    front_of old.stack.items ≡ Some p → IsMove (item_of p.item) next.token after.token does →
    mid.stack.items ≡ old.stack.items → mid.passed ≡ old.passed → mid.place ≡ old.place →
    here ≡ position_of next → behind ≡ position_of after →
    items_of new.stack.items ≡ production ++ drop 1 (items_of mid.stack.items) →
    marks_of new.stack.items ≡ map (λ (item : table.Item). mark here behind) production
    ++ drop 1 (marks_of mid.stack.items) →
    new.passed ≡ mid.passed → new.place ≡ mid.place → Moves old new next after
replaces old mid new next after here behind p production does e front is stack passed place at at_behind items marks
    passed' place' =
    replaced_moves old new next after p production front
    (subst (λ (m : Move). IsMove (item_of p.item) next.token after.token m) e is)
    (items ∙ ap (λ (l : List Pending). production ++ drop 1 (items_of l)) stack)
    (marks ∙ ap (λ (l : List Pending). map (λ (item : table.Item). mark here behind) production
    ++ drop 1 (marks_of l)) stack
    ∙ ap (λ (x : SourcePosition). map (λ (item : table.Item). mark x behind) production
    ++ drop 1 (marks_of old.stack.items)) at
    ∙ ap (λ (x : SourcePosition). map (λ (item : table.Item). mark (position_of next) x) production
    ++ drop 1 (marks_of old.stack.items)) at_behind)
    (passed' ∙ passed) (place' ∙ place)

pub passes_on : (old closed noted new : Automaton) (next after : Located) (p : Pending) (tokens : ℕ) (does : Move) →
    does ≡ move.Pass tokens → front_of old.stack.items ≡ Some p →
    IsMove (item_of p.item) next.token after.token does →
    closed.stack.items ≡ old.stack.items → closed.passed ≡ old.passed → closed.place ≡ old.place →
    noted.stack.items ≡ closed.stack.items → noted.place ≡ closed.place →
    (0 < tokens → noted.passed ≡ position_of next) → (tokens ≡ 0 → noted.passed ≡ closed.passed) →
    new.stack.items ≡ take (length noted.stack.items - 1) noted.stack.items →
    (noted.place + tokens < 2 ^ 64 → new.place ≡ noted.place + tokens) → new.passed ≡ noted.passed →
    Moves old new next after
passes_on old closed noted new next after p tokens does e front is stack passed place stack' place' some none popped put
    passed'' =
    let same : noted.stack.items ≡ old.stack.items = stack' ∙ stack in
    let at : noted.place ≡ old.place = place' ∙ place in
    passed_moves old new next after p tokens front
    (subst (λ (m : Move). IsMove (item_of p.item) next.token after.token m) e is)
    (popped ∙ ap (λ (l : List Pending). take (length l - 1) l) same)
    (λ few. put (omega (arith, few, at)) ∙ ap (λ (k : ℕ). k + tokens) at)
    (λ more. passed'' ∙ some more) (λ no. passed'' ∙ none no ∙ passed)

-- a production has no room
pub overfull : (old mid : Automaton) (next after : Located) (p : Pending) (production : List table.Item) (does : Move) →
    does ≡ move.Replace production → front_of old.stack.items ≡ Some p →
    IsMove (item_of p.item) next.token after.token does →
    end_of does ≡ decided_of (item_of p.item) next.token after.token → mid.stack.items ≡ old.stack.items →
    most_pending < length (production ++ drop 1 (items_of mid.stack.items)) → IsOverfull old next after
overfull old mid next after p production does e front is ends stack many =
    let rest : List table.Item = map item_in (reverse (take (length old.stack.items - 1) old.stack.items)) in
    let r : IsReplaced (item_of p.item) rest next.token after.token production =
    is_replaced (item_of p.item) rest next.token after.token production
    (subst (λ (m : Move). IsMove (item_of p.item) next.token after.token m) e is) in
    let chosen : chosen_items (items_of old.stack.items) next.token after.token ≡ production =
    ap (λ (l : List table.Item). chosen_items l next.token after.token) (first_item old.stack.items p front) ∙
    r.chosen in
    let all : items_after (items_of old.stack.items) next.token after.token
    ≡ production ++ drop 1 (items_of mid.stack.items) =
    ap (λ (l : List table.Item). l ++ drop 1 (items_of old.stack.items)) chosen
    ∙ sym (ap (λ (l : List Pending). production ++ drop 1 (items_of l)) stack) in
    let size : length (items_after (items_of old.stack.items) next.token after.token)
    ≡ length (production ++ drop 1 (items_of mid.stack.items)) = ap (λ (l : List table.Item). length l) all in
    record {
      fits = ap (λ (o : Option Pending). outcome_of o next.token after.token) front ∙ sym ends ∙ ap end_of e;
      full = omega (arith, many, size);
    }

-- the mark of the item in front
pub front_is : (stack : List Pending) (p : Pending) → front_of stack ≡ Some p →
    front_mark (marks_of stack) ≡ mark_in p
front_is stack p e = ap front_mark (first_mark stack p e)

pub none_is : (stack : List Pending) → front_of stack ≡ None → front_mark (marks_of stack) ≡ mark nowhere nowhere
none_is stack e = ap (λ (l : List Pending). front_mark (marks_of l)) (turned_none stack e)
