-- Segments of the derivation between two positions of a cursor.
use Rattle.std.proofs.Common.{◌≡◌, ℕ, ◌+◌, ◌≤◌, drop, length, List, [], ◌∷◌, ◌++◌, refl, sym, ap, ◌∙◌, subst, Bool, true, false, append_assoc, arith}
use Rattle.std.specs.Prelude.{Option, Some, None, cond}
use Rattle.std.specs.Option.{option_map}
use Rattle.tokens.specs.Cursors.{IsNear, Cursor, reach, undecided_reach_of, reach_of, shown, bytes_taken, IsNearTo}
use Rattle.tokens.specs.Tokens.{is_last, followed_by, tokens}
use Rattle.tokens.specs.declared.located_tokens.LocatedToken.{LocatedToken}
use Rattle.tokens.specs.declared.located_tokens.Token.{Token}
use Rattle.grammar.specs.declared.diagnostics.Diagnostic.{Diagnostic}
use Rattle.grammar.specs.declared.diagnostics.ParseFault.{ParseFault}
use Rattle.grammar.specs.declared.diagnostics.ParseFault.TheVariants as parse_fault
use Rattle.grammar.specs.Compiled.{diagnostic}
use Rattle.grammar.specs.Derivation.{State, derived, PartialTree, Definition, next_token, line_at}
use Rattle.grammar.specs.Laws.StateParts.{state}
use Rattle.grammar.specs.Faults.{unexpected_token_code, nested_count}
use Rattle.grammar.specs.Grammar.{Item, is_lexical_error}
use Rattle.grammar.specs.Laws.Parsing.{Fails, IsFault, DerivesWithoutFault}
use Rattle.grammar.specs.Profile.{Profile}
use Rattle.grammar.specs.Scope.{Scope, no_names}
use Rattle.grammar.proofs.Runs.{then, back, here, later, derived-add}
use Rattle.grammar.proofs.Firsts.{at_fault, at_rest, run_keeps}
use Rattle.tokens.proofs.ReadingLemmas.{open-within}
use Rattle.parser.proofs.StrictEnds.{reach_limited}
use Rattle.parser.specs.ScopedCursors.{Lookahead, UnreadPosition, position_of, MayContinue, tokens_at, next_at, after_at, scope_at}
use Rattle.parser.specs.Stopping.{IfSource, NoFaultBefore, Stop, Stops, StopsInside, most_taken, stop_with}
use Rattle.parser.specs.Segment.{Derives, FailsAt, GoesPast, HasLexicalError, Refused, StopsAt, StopsAtFirst, TakesTokens}

-- The tokens at a position.

-- the token after the next one, unless the next is the last
pub record IsBehind (r : Cursor) (tail : List LocatedToken) : Type 0 where
  pub others : List LocatedToken
  pub is : is_last r.next.token ≡ false → tail ≡ r.after ∷ others

-- the tokens begin with the next one
pub record Begins (r : Cursor) (located_tokens : List LocatedToken) : Type 0 where
  pub tail : List LocatedToken
  pub is : located_tokens ≡ r.next ∷ tail
  pub behind : IsBehind r tail

pub next_behind : (at : UnreadPosition) (tail : List LocatedToken) → IsBehind at.lookahead.cursor tail →
    is_last (next_at at).token ≡ false → next_token tail ≡ after_at at
next_behind at tail b more = ap next_token (b.is more)

-- tokens, if there are any after this one
abbrev until_last : Token → List LocatedToken → List LocatedToken
until_last t others = cond (is_last t) [] others

pub goes_begins : (at : UnreadPosition) (rest : List LocatedToken) → MayContinue at rest →
    Begins at.lookahead.cursor rest
goes_begins at rest g = record {
  tail = until_last (next_at at).token (followed_by at.lookahead.cursor.after g.behind);
  is = g.is;
  behind = record { others = until_last at.lookahead.cursor.after.token g.behind; is = λ more. rw more refl };
}

some_same : {A : Type 0} → (x y : A) → Some x ≡ Some y → x ≡ y
some_same x y e = cc

goes_told : (position : Lookahead) (more : Option (List ℕ)) (located_tokens : List LocatedToken) →
    shown position.cursor more ≡ Some located_tokens → MayContinue (position_of position more) located_tokens
goes_told position None located_tokens e = absurd (cc)
goes_told position (Some bytes) located_tokens e = record { behind = _; is = sym (some_same _ _ e) }

-- tokens that are known are such as the position may have
pub told_goes : (at : UnreadPosition) (located_tokens : List LocatedToken) → tokens_at at ≡ Some located_tokens →
    MayContinue at located_tokens
told_goes at located_tokens e =
    let g : MayContinue (position_of at.lookahead at.to_come) located_tokens =
    goes_told at.lookahead at.to_come located_tokens e in
    record { behind = g.behind; is = g.is }

pub told_begins : (at : UnreadPosition) (located_tokens : List LocatedToken) → tokens_at at ≡ Some located_tokens →
    Begins at.lookahead.cursor located_tokens
told_begins at located_tokens e = goes_begins at located_tokens (told_goes at located_tokens e)

-- Steps of the derivation.

-- these items in front, with these trees on top and these names in scope, pass to those, whatever is below and after
pub record Leads (depth : ℕ) (front pending : List Item) (taken left : List PartialTree) (in_scope learnt : Scope)
    (located_tokens rest : List LocatedToken) : Type 0 where
  pub passes : (profile : Profile) (stack : List Item) (values : List PartialTree) (functions : List Definition) →
      nested_count stack ≡ depth →
      DerivesWithoutFault profile (state (front ++ stack) located_tokens (taken ++ values) in_scope functions)
      (state (pending ++ stack) rest (left ++ values) learnt functions)

-- no token is passed
pub stand : (at : UnreadPosition) (depth : ℕ) (front pending : List Item) (taken left : List PartialTree) →
    ((tail : List LocatedToken) → IsBehind at.lookahead.cursor tail →
    Leads depth front pending taken left (scope_at at) (scope_at at) (next_at at ∷ tail) (next_at at ∷ tail)) →
    Derives depth front pending taken left at at
stand at depth front pending taken left leads = record {
  consumed = [];
  told = λ located_tokens is. record { rest = located_tokens; is = refl; shows = is };
  follows = λ rest g. g;
  passes = λ rest g profile stack values functions depths.
      let b : Begins at.lookahead.cursor rest = goes_begins at rest g in
      subst
      (λ (ls : List LocatedToken). DerivesWithoutFault profile
      (state (front ++ stack) ls (taken ++ values) (scope_at at) functions)
      (state (pending ++ stack) ls (left ++ values) (scope_at at) functions))
      (sym b.is) ((leads b.tail b.behind).passes profile stack values functions depths);
}

-- nothing happens
pub stay : (at : UnreadPosition) (depth : ℕ) (front : List Item) (taken : List PartialTree) →
    Derives depth front front taken taken at at
stay at depth front taken =
    stand at depth front front taken taken
    (λ tail b. record { passes = λ profile stack values functions depths. here profile _ })

with_scope : Cursor → Scope → Option (List ℕ) → UnreadPosition
with_scope cursor scope more = position_of (record { cursor = cursor; scope = scope }) more

behind_past : (cursor : Cursor) (learnt : Scope) (more : Option (List ℕ)) (there : UnreadPosition) →
    GoesPast (position_of (record { cursor = cursor; scope = learnt }) more) there →
    (rest : List LocatedToken) → MayContinue there rest → IsBehind cursor rest
behind_past cursor learnt more there goes rest g = record {
  others = until_last cursor.after.token (followed_by there.lookahead.cursor.after g.behind);
  is = λ last. g.is ∙ rw goes.next refl;
}

follows_past : (cursor : Cursor) (in_scope learnt : Scope) (more : Option (List ℕ)) (there : UnreadPosition) →
    GoesPast (position_of (record { cursor = cursor; scope = learnt }) more) there →
    (rest : List LocatedToken) → MayContinue there rest →
    MayContinue (position_of (record { cursor = cursor; scope = in_scope }) more) (cursor.next ∷ rest)
follows_past cursor in_scope learnt more there goes rest g =
    let last : is_last cursor.next.token ≡ false = goes.more in
    record {
      behind = followed_by there.lookahead.cursor.after g.behind;
      is = rw last (ap (λ (ls : List LocatedToken). cursor.next ∷ ls) (g.is ∙ rw goes.next refl));
    }

takes_past : (cursor : Cursor) (in_scope learnt : Scope) (more : Option (List ℕ)) (there : UnreadPosition) →
    GoesPast (position_of (record { cursor = cursor; scope = learnt }) more) there →
    (located_tokens : List LocatedToken) →
    tokens_at (position_of (record { cursor = cursor; scope = in_scope }) more) ≡ Some located_tokens →
    TakesTokens (cursor.next ∷ []) located_tokens there
takes_past cursor in_scope learnt more there goes located_tokens is =
    let b : Begins cursor located_tokens =
    told_begins (position_of (record { cursor = cursor; scope = in_scope }) more) located_tokens is in
    record { rest = b.tail; is = b.is; shows = goes.told cursor.next b.tail (is ∙ ap Some b.is) }

-- one token is passed, after which these names are in scope
pub past : (cursor : Cursor) (in_scope learnt : Scope) (more : Option (List ℕ)) (there : UnreadPosition) (depth : ℕ)
    (front pending : List Item) (taken left : List PartialTree) →
    GoesPast (position_of (record { cursor = cursor; scope = learnt }) more) there →
    ((rest : List LocatedToken) → IsBehind cursor rest →
    Leads depth front pending taken left in_scope learnt (cursor.next ∷ rest) rest) →
    Derives depth front pending taken left (position_of (record { cursor = cursor; scope = in_scope }) more) there
past cursor in_scope learnt more there depth front pending taken left goes leads = record {
  consumed = cursor.next ∷ [];
  told = takes_past cursor in_scope learnt more there goes;
  follows = follows_past cursor in_scope learnt more there goes;
  passes = λ rest g profile stack values functions depths.
      let b : IsBehind cursor rest = behind_past cursor learnt more there goes rest g in
      subst
      (λ (s : Scope). DerivesWithoutFault profile
      (state (front ++ stack) (cursor.next ∷ rest) (taken ++ values) in_scope functions)
      (state (pending ++ stack) rest (left ++ values) s functions))
      (sym goes.scope) ((leads rest b).passes profile stack values functions depths);
}

-- Where a derivation stops.

-- after these there is none before
pub none_before : (profile : Profile) (s : State) → NoFaultBefore profile s s.rest
none_before profile s = record {
  each =
      λ f is. subst (λ (ls : List LocatedToken). length ls ≤ length s.rest)
      (sym (at_rest profile f (derived is.steps s) is.here)) (run_keeps is.steps s);
}

-- it stops at the next token
pub stops_here : (profile : Profile) (s : State) (stop : Stop) → IfSource stop.fault (Fails profile s) →
    stop.taken ≤ most_taken stop.fault s.rest → Stops profile s stop
stops_here profile s stop fails taken = record {
  passed = [];
  rest = s.rest;
  is = refl;
  steps = 0;
  comes = refl;
  none_before = none_before profile s;
  fails = fails;
  taken = taken;
}

fails_back : (profile : Profile) (s t : State) (f : ParseFault) → DerivesWithoutFault profile s t →
    IfSource f (Fails profile t) →
    IfSource f (Fails profile s)
fails_back profile s t (parse_fault.Source d) p h = back profile s t d p h
fails_back profile s t parse_fault.Device p h = tt
fails_back profile s t parse_fault.Memory p h = tt

pub none_back : (profile : Profile) (s t : State) (rest : List LocatedToken) → DerivesWithoutFault profile s t →
    NoFaultBefore profile t rest → NoFaultBefore profile s rest
none_back profile s t rest p h = record {
  each =
      λ f from. h.each f
      (subst (λ (v : State). IsFault profile v f) p.leads (later profile p.steps s f p.clean from.steps from.here));
}

-- the state n steps after a segment
pub run_behind : (profile : Profile) (s t : State) (n : ℕ) (p : DerivesWithoutFault profile s t) →
    derived (p.steps + n) s ≡ derived n t
run_behind profile s t n p = derived-add p.steps n s ∙ ap (λ (v : State). derived n v) p.leads

-- where it stops goes back along a segment without faults
pub stops_back : (profile : Profile) (s t : State) (stop : Stop) (consumed : List LocatedToken) →
    s.rest ≡ consumed ++ t.rest → DerivesWithoutFault profile s t → Stops profile t stop → Stops profile s stop
stops_back profile s t stop consumed is p h = record {
  passed = consumed ++ h.passed;
  rest = h.rest;
  is = is ∙ ap (λ (ls : List LocatedToken). consumed ++ ls) h.is ∙ sym (append_assoc consumed h.passed h.rest);
  steps = p.steps + h.steps;
  comes = ap (λ (v : State). v.rest) (run_behind profile s t h.steps p) ∙ h.comes;
  none_before = none_back profile s t h.rest p h.none_before;
  fails = fails_back profile s t stop.fault p h.fails;
  taken = h.taken;
}

-- The same before a further function is defined.

pub functions_here : (profile : Profile) (s : State) (stop : Stop) (fails : IfSource stop.fault (Fails profile s))
    (few : stop.taken ≤ most_taken stop.fault s.rest) →
    (derived (stops_here profile s stop fails few).steps s).functions ≡ s.functions
unfolding stops_here
functions_here profile s stop fails few = refl

pub inside_here : (profile : Profile) (s : State) (stop : Stop) → IfSource stop.fault (Fails profile s) →
    stop.taken ≤ most_taken stop.fault s.rest → StopsInside profile s stop
inside_here profile s stop fails few =
    record { stops = stops_here profile s stop fails few; functions = functions_here profile s stop fails few }

-- the functions defined there are the same
pub functions_back : (profile : Profile) (s t : State) (stop : Stop) (consumed : List LocatedToken)
    (is : s.rest ≡ consumed ++ t.rest) (p : DerivesWithoutFault profile s t) (h : Stops profile t stop) →
    (derived (stops_back profile s t stop consumed is p h).steps s).functions ≡ (derived h.steps t).functions
unfolding stops_back
functions_back profile s t stop consumed is p h = ap (λ (v : State). v.functions) (run_behind profile s t h.steps p)

pub inside_back : (profile : Profile) (s t : State) (stop : Stop) (consumed : List LocatedToken) →
    s.rest ≡ consumed ++ t.rest → t.functions ≡ s.functions → DerivesWithoutFault profile s t →
    StopsInside profile t stop → StopsInside profile s stop
inside_back profile s t stop consumed is same p h = record {
  stops = stops_back profile s t stop consumed is p h.stops;
  functions = functions_back profile s t stop consumed is p h.stops ∙ h.functions ∙ same;
}

-- the two tokens that a position holds end where those known end
reach_told_at : (next after : LocatedToken) (others located_tokens : List LocatedToken) (last : Bool) →
    is_last next.token ≡ last → located_tokens ≡ followed_by next (followed_by after others) →
    reach_of located_tokens ≡ cond last next.end after.end
reach_told_at next after others located_tokens true e is = rw (is, e) refl
reach_told_at next after others located_tokens false e is = rw (is, e) refl

pub reach_told : (at : UnreadPosition) (located_tokens : List LocatedToken) → tokens_at at ≡ Some located_tokens →
    reach at.lookahead.cursor ≡ reach_of located_tokens
reach_told at located_tokens is =
    let g : MayContinue at located_tokens = told_goes at located_tokens is in
    sym
    (reach_told_at (next_at at) at.lookahead.cursor.after g.behind located_tokens (is_last (next_at at).token) refl
    g.is)

pub near_told : (at : UnreadPosition) (located_tokens : List LocatedToken) (used : ℕ) →
    tokens_at at ≡ Some located_tokens →
    IsNearTo at.lookahead.cursor used → used ≤ reach_of located_tokens + 4096
near_told at located_tokens used is near = subst (λ (k : ℕ). used ≤ k + 4096) (reach_told at located_tokens is) near

-- the first fault is at the next token
pub fails_at_next : (depth : ℕ) (front : List Item) (taken : List PartialTree) (at : UnreadPosition) (d : Diagnostic)
    (n : ℕ)
    →
    IsNearTo at.lookahead.cursor n →
    ((tail : List LocatedToken) → IsBehind at.lookahead.cursor tail →
    (profile : Profile) (stack : List Item) (values : List PartialTree) (functions : List Definition) →
    nested_count stack ≡ depth →
    Fails profile (state (front ++ stack) (next_at at ∷ tail) (taken ++ values) (scope_at at) functions) d) →
    FailsAt depth front taken at (stop_with (parse_fault.Source d) n)
fails_at_next depth front taken at d n near fails located_tokens is profile stack values functions depths =
    let b : Begins at.lookahead.cursor located_tokens = told_begins at located_tokens is in
    let bound : n ≤ reach_of located_tokens + 4096 = near_told at located_tokens n is near in
    let here : Fails profile (state (front ++ stack) located_tokens (taken ++ values) (scope_at at) functions) d =
    rw b.is (fails b.tail b.behind profile stack values functions depths) in
    inside_here profile (state (front ++ stack) located_tokens (taken ++ values) (scope_at at) functions)
    (stop_with (parse_fault.Source d) n) here bound

-- the token after the one that was passed is a lexical error, or the device failed
pub stops : (cursor : Cursor) (in_scope learnt : Scope) (more : Option (List ℕ)) (d : Stop) (depth : ℕ)
    (front pending : List Item) (taken left : List PartialTree) →
    ((rest : List LocatedToken) → IsBehind cursor rest →
    Leads depth front pending taken left in_scope learnt (cursor.next ∷ rest) rest) →
    StopsAt (position_of (record { cursor = cursor; scope = learnt }) more) d →
    FailsAt depth front taken (position_of (record { cursor = cursor; scope = in_scope }) more) d
stops cursor in_scope learnt more d depth front pending taken left leads stop located_tokens is profile stack values
    functions depths =
    let b : Begins cursor located_tokens =
    told_begins (position_of (record { cursor = cursor; scope = in_scope }) more) located_tokens is in
    let behind : b.tail ≡ cursor.after ∷ b.behind.others = b.behind.is stop.more in
    let t : State = state (pending ++ stack) b.tail (left ++ values) learnt functions in
    let fails : IfSource d.fault (Fails profile t) =
    lexical_error_fails d.fault b.tail b.behind.others behind stop.lexical_error in
    let last : d.taken ≤ most_taken d.fault b.tail = stop.taken cursor.next b.tail (is ∙ ap Some b.is) in
    rw b.is (inside_back profile (state (front ++ stack) (cursor.next ∷ b.tail) (taken ++ values) in_scope functions)
    t d
    (cursor.next ∷ []) refl refl
    ((leads b.tail b.behind).passes profile stack values functions depths) (inside_here profile t d fails last))
  where
    lexical_error_fails : (f : ParseFault) (tail others : List LocatedToken) → tail ≡ cursor.after ∷ others →
        IfSource f (HasLexicalError (position_of (record { cursor = cursor; scope = learnt }) more)) →
        IfSource f (Fails profile (state (pending ++ stack) tail (left ++ values) learnt functions))
    lexical_error_fails parse_fault.Device tail others behind h = tt
    lexical_error_fails parse_fault.Memory tail others behind h = tt
    lexical_error_fails (parse_fault.Source e) tail others behind h =
        let same : e ≡ diagnostic (line_at tail) (unexpected_token_code (next_token tail)) = h.is ∙ rw behind refl in
        let lexical_error : is_lexical_error (next_token tail) ≡ true = rw behind h.lexical_error in
        rw same (at_fault profile _ tail _ learnt functions lexical_error)

-- Segments one after another.

takes_join : (first second located_tokens : List LocatedToken) (between there : UnreadPosition)
    (t : TakesTokens first located_tokens between) → TakesTokens second t.rest there →
    TakesTokens (first ++ second) located_tokens there
takes_join first second located_tokens between there t u = record {
  rest = u.rest;
  is = t.is ∙ ap (λ (ls : List LocatedToken). first ++ ls) u.is ∙ sym (append_assoc first second u.rest);
  shows = u.shows;
}

-- the second over more items and trees
pub joined : (depth inner : ℕ) (front mid pending below : List Item) (taken between left under : List PartialTree)
    (at now there : UnreadPosition) →
    Derives depth front (mid ++ below) taken (between ++ under) at now →
    Derives inner mid pending between left now there →
    ((stack : List Item) → nested_count stack ≡ depth → nested_count (below ++ stack) ≡ inner) →
    Derives depth front (pending ++ below) taken (left ++ under) at there
joined depth inner front mid pending below taken between left under at now there a b opens = record {
  consumed = a.consumed ++ b.consumed;
  told = λ located_tokens is.
      let t : TakesTokens a.consumed located_tokens now = a.told located_tokens is in
      takes_join a.consumed b.consumed located_tokens now there t (b.told t.rest t.shows);
  follows =
      λ rest g. subst (λ (ls : List LocatedToken). MayContinue at ls) (sym (append_assoc a.consumed b.consumed rest))
      (a.follows _ (b.follows rest g));
  passes = λ rest g profile stack values functions depths.
      rw (append_assoc a.consumed b.consumed rest)
      (then profile _ _ _
      (a.passes (b.consumed ++ rest) (b.follows rest g) profile stack values functions depths)
      (rw (
        append_assoc mid below stack,
        append_assoc pending below stack,
        append_assoc between under values,
        append_assoc left under values,
      )
      (b.passes rest g profile (below ++ stack) (under ++ values) functions (opens stack depths))));
}

-- a fault after a segment
pub fails_then : (depth : ℕ) (front mid : List Item) (taken between : List PartialTree) (at now : UnreadPosition)
    (d : Stop) →
    Derives depth front mid taken between at now → FailsAt depth mid between now d →
    FailsAt depth front taken at d
fails_then depth front mid taken between at now d a fails located_tokens is profile stack values functions depths
    =
    let t : TakesTokens a.consumed located_tokens now = a.told located_tokens is in
    rw t.is
    (inside_back profile _ _ d a.consumed refl refl
    (a.passes t.rest (told_goes now t.rest t.shows) profile stack values functions depths)
    (fails t.rest t.shows profile stack values functions depths))

-- the same fault, over more items and trees
pub under_more : (depth inner : ℕ) (front below : List Item) (taken beneath : List PartialTree) (at : UnreadPosition)
    (d : Stop) →
    ((stack : List Item) → nested_count stack ≡ depth → nested_count (below ++ stack) ≡ inner) →
    FailsAt inner front taken at d → FailsAt depth (front ++ below) (taken ++ beneath) at d
under_more depth inner front below taken beneath at d opens fails located_tokens is profile stack values functions
    depths =
    rw (append_assoc front below stack, append_assoc taken beneath values)
    (fails located_tokens is profile (below ++ stack) (beneath ++ values) functions (opens stack depths))

-- a fault after a segment, over more items and trees
pub fails_behind : (depth inner : ℕ) (front mid below : List Item) (taken between under : List PartialTree)
    (at now : UnreadPosition)
    (d : Stop) →
    Derives depth front (mid ++ below) taken (between ++ under) at now →
    ((stack : List Item) → nested_count stack ≡ depth → nested_count (below ++ stack) ≡ inner) →
    FailsAt inner mid between now d → FailsAt depth front taken at d
fails_behind depth inner front mid below taken between under at now d a opens fails =
    fails_then depth front (mid ++ below) taken (between ++ under) at now d a
    (under_more depth inner mid below between under now d opens fails)

-- A builder was refused memory.

-- at this position
pub halts_here : (depth : ℕ) (front : List Item) (taken : List PartialTree) (at : UnreadPosition) (n : ℕ) →
    IsNearTo at.lookahead.cursor n → FailsAt depth front taken at (stop_with parse_fault.Memory n)
halts_here depth front taken at n near located_tokens is profile stack values functions depths =
    inside_here profile (state (front ++ stack) located_tokens (taken ++ values) (scope_at at) functions)
    (stop_with parse_fault.Memory n) tt (near_told at located_tokens n is near)

-- Refusals.

pub refused_map : (n : ℕ) (P Q : Stop → Type 0) (denied more : Type 0) (f : ParseFault) → ((d : Stop) → P d → Q d) →
    (denied → more) → Refused P denied n f → Refused Q more n f
refused_map n P Q denied more (parse_fault.Source d) each memory h = each (stop_with (parse_fault.Source d) n) h
refused_map n P Q denied more parse_fault.Device each memory h = each (stop_with parse_fault.Device n) h
refused_map n P Q denied more parse_fault.Memory each memory h = (memory h.0, each (stop_with parse_fault.Memory n) h.1)

-- At the first token.

pub no_opening : (told told' : Option (List ℕ)) →
    ((bytes : List ℕ) → told ≡ Some bytes →
    (count : ℕ) × (told' ≡ Some (drop count bytes)) × (count ≤ undecided_reach_of (tokens bytes))) →
    StopsAtFirst told told' parse_fault.Device
no_opening None told' h = record {
  taken = 0;
  took = λ bytes e. absurd (cc);
  limited = omega arith;
  refused = record { lexical_error = λ located_tokens e. tt; taken = λ located_tokens e. absurd (cc) };
}
no_opening (Some bytes) told' h =
    let found = h bytes refl in
    record {
      taken = found.0;
      took = λ others e. rw (sym (some_same bytes others e)) found.1;
      limited = omega (arith, open-within (tokens bytes) found.0 found.2, reach_limited bytes);
      refused = record {
        lexical_error = λ located_tokens e. tt;
        taken = λ located_tokens e. rw (sym (some_same (tokens bytes) located_tokens e)) (omega (arith, found.2));
      };
    }

-- the first token is a lexical error
pub opens_at_lexical_error : (cursor : Cursor) (told told' : Option (List ℕ)) →
    shown cursor told' ≡ option_map tokens told → told' ≡ option_map (drop (bytes_taken cursor)) told → IsNear cursor →
    bytes_taken cursor ≤ 1048577 →
    is_lexical_error cursor.next.token ≡ true →
    StopsAtFirst told told' (parse_fault.Source (diagnostic cursor.next.line (unexpected_token_code cursor.next.token)))
opens_at_lexical_error cursor told told' shows took near limited lexical_error = record {
  taken = bytes_taken cursor;
  took = λ bytes e. took ∙ rw e refl;
  limited = limited;
  refused = record {
    lexical_error = λ located_tokens e.
        let b : Begins cursor located_tokens = told_begins at located_tokens (shows ∙ e) in
        (rw b.is lexical_error, rw b.is refl);
    taken =
        λ located_tokens e. subst (λ (k : ℕ). bytes_taken cursor ≤ k + 4096) (reach_told at located_tokens (shows ∙ e))
        near;
  };
}
  where
    at : UnreadPosition
    at = position_of (record { cursor = cursor; scope = no_names }) told'
