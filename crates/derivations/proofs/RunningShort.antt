-- Where the positions of a source's instructions aren't found, there is no room for what finding them keeps.
use Rattle.std.proofs.Common.{◌≡◌, ℕ, zero, suc, ◌+◌, ◌<◌, ◌≤◌, List, [], ◌∷◌, ◌++◌, refl, sym, ap, ◌∙◌, Bool, true, false, arith, length, length-append, zero-add, suc-add}
use Rattle.std.proofs.lemmas.Bool.Decides.{nat_tests}
use Rattle.std.specs.Prelude.{◌≢◌, ◌-◌, ◌^◌, Option, Some, None, is_some, nat_lt, map, reverse, take, if◌then◌else◌}
use Rattle.tokens.specs.Cursors.{Cursor}
use Rattle.tokens.specs.Tokens.{followed_by, is_last, tokens}
use Rattle.tokens.specs.declared.located_tokens.LocatedToken.{LocatedToken}
use Rattle.tokens.specs.declared.located_tokens.Token.{Token}
use Rattle.grammar.proofs.Runs.{derived-add}
use Rattle.grammar.proofs.TokensLeft.{run_keeps}
use Rattle.grammar.specs.Derivation.{State, constant_matched, constant_value, derived, item_step, matched, name_matched, name_of_token, next_token, past_token, replaced, stack_step, step, token_after_next}
use Rattle.grammar.specs.Grammar.{Item, Exactly, AKeyword, AName, AConstant, AnEnd, Part, Make, Close, choice, is_lexical_error}
use Rattle.grammar.specs.Profile.{Profile}
use Rattle.derivations.proofs.Passing.{StaysNext, Still, still_next}
use Rattle.derivations.proofs.Proceeding.{IsFirst, IsOnly, Proceeds, are_next, is_first, is_only, one_next, others_of, two_next, unwrapped}
use Rattle.derivations.proofs.Stepping.{Goes}
use Rattle.derivations.proofs.Turned.{turned, turned_none}
use Rattle.derivations.proofs.Walking.{HasFront, goes_at, has_front, items_same, positions_last, positions_same, step_length, stepped_on, walked_last, walked_state}
use Rattle.derivations.specs.Columns.{position_in, token_positions}
use Rattle.derivations.specs.Positions.{Walk, positions_within, step_positions, walk_on, walk_start, walk_stepped, walked}
use Rattle.derivations.specs.Room.{HasRoom, RunsShort, most_places}
use Rattle.derivations.specs.Stacks.{IsOverfull, item_in, items_after, items_of, position_of}
use Rattle.derivations.specs.Steps.{front_of, has_step, outcome_of, stepped_if}
use Rattle.derivations.specs.Table.{item_of}
use Rattle.derivations.specs.Walks.{AreNext, IsAt, IsLocated, Passes, PassesToken, positions_next, walk_at}
use Rattle.derivations.specs.declared.addresses.SourcePosition.{SourcePosition}
use Rattle.derivations.specs.declared.locations.Located.{Located}
use Rattle.derivations.specs.declared.steps.Automaton.{Automaton}
use Rattle.derivations.specs.declared.steps.Pending.{Pending}
use Rattle.derivations.specs.declared.steps.StepEnd.{StepEnd}
use Rattle.derivations.specs.declared.steps.StepEnd.TheVariants as step_end

-- Tokens are left only before a walk has passed them all.

walked-add : (m k : ℕ) (w : Walk) → walked (m + k) w ≡ walked k (walked m w)
walked-add zero k w = ap (λ (n : ℕ). walked n w) (zero-add k)
walked-add (suc m) k w = ap (λ (n : ℕ). walked n w) (suc-add m k) ∙ walked-add m k (walk_stepped w)

none_left : (xs : List LocatedToken) → length xs ≤ 0 → xs ≡ []
none_left [] h = refl
none_left (x ∷ xs) h = absurd (omega (arith, h))

none_later : (tokens : List LocatedToken) (given : List SourcePosition) (m n : ℕ) → m ≤ n →
    (walk_at tokens given m).state.rest ≡ [] → (walk_at tokens given n).state.rest ≡ []
none_later tokens given m n less none =
    let start : State = (walk_start tokens given).state in
    let s : State = derived m start in
    let more : m + (n - m) ≡ n = omega (arith, less) in
    let there : (walk_at tokens given n).state ≡ derived (n - m) s =
    walked_state n (walk_start tokens given) ∙ sym (ap (λ (k : ℕ). derived k start) more)
    ∙ derived-add m (n - m) start in
    let empty : s.rest ≡ [] = sym (ap (λ (t : State). t.rest) (walked_state m (walk_start tokens given))) ∙ none in
    let zero_left : length s.rest ≡ 0 = ap (λ (l : List LocatedToken). length l) empty in
    ap (λ (t : State). t.rest) there
    ∙ none_left (derived (n - m) s).rest (omega (arith, run_keeps (n - m) s, zero_left))

before : (m n : ℕ) → (n ≤ m → ⊥) → m < n
before m n other = by (nat_lt m n) refl
  where
    by : (b : Bool) → nat_lt m n ≡ b → m < n
    by true e = grind (arith, nat_tests)
    by false e = absurd (other (grind (arith, nat_tests)))

unpassed_before : (profile : Profile) (tokens : List LocatedToken) (given : List SourcePosition) (m : ℕ)
    (room : HasRoom profile tokens given) → (walk_at tokens given m).state.rest ≢ [] → m < room.steps
unpassed_before profile tokens given m room some =
    before m room.steps (λ passed. some (none_later tokens given room.steps m passed room.all))

-- A walk that has no step there never passes them.

stays_put : (k : ℕ) (w : Walk) → walk_stepped w ≡ w → walked k w ≡ w
stays_put zero w e = refl
stays_put (suc k) w e = ap (λ (x : Walk). walked k x) e ∙ stays_put k w e

no_step_stays : (w : Walk) → is_some (step w.state) ≡ false → walk_stepped w ≡ w
no_step_stays w e = ap (λ (b : Bool). if b then walk_on w else w) e

stuck : (profile : Profile) (tokens : List LocatedToken) (given : List SourcePosition) (m : ℕ) →
    (walk_at tokens given m).state.rest ≢ [] → is_some (step (walk_at tokens given m).state) ≡ false →
    HasRoom profile tokens given → ⊥
stuck profile tokens given m some none room =
    let w : Walk = walk_at tokens given m in
    let less : m < room.steps = unpassed_before profile tokens given m room some in
    let more : m + (room.steps - m) ≡ room.steps = omega (arith, less) in
    let same : walk_at tokens given room.steps ≡ w =
    sym (ap (λ (k : ℕ). walk_at tokens given k) more)
    ∙ walked-add m (room.steps - m) (walk_start tokens given)
    ∙ stays_put (room.steps - m) w (no_step_stays w none) in
    some (sym (ap (λ (x : Walk). x.state.rest) same) ∙ room.all)

no_true : true ≡ false → ⊥
no_true e = cc

none_of : {A : Type 0} (o : Option A) → is_some o ≡ false → o ≡ None
none_of None e = refl
none_of (Some x) e = absurd (no_true e)

matched_none : (fits : Bool) (s : State) → fits ≡ false → matched fits s ≡ None
matched_none fits s e = ap (λ (b : Bool). if b then Some (past_token s) else None) e

item_none : (item : Item) (s : State) → has_step item (next_token s.rest) (token_after_next s.rest) ≡ false →
    item_step item s ≡ None
item_none (Exactly m) s h = matched_none _ s h
item_none (AKeyword w) s h = matched_none _ s h
item_none (AName role) s h =
    ap (λ (o : Option (List ℕ)). name_matched role o s) (none_of (name_of_token (next_token s.rest)) h)
item_none AConstant s h = ap (λ (o : Option ℕ). constant_matched o s) (none_of (constant_value (next_token s.rest)) h)
item_none AnEnd s h = matched_none _ s h
item_none (Part symbol) s h =
    ap (λ (o : Option (List Item)). replaced o s)
    (none_of (choice symbol (next_token s.rest) (token_after_next s.rest)) h)
item_none (Make rule) s h = absurd (no_true h)
item_none Close s h = absurd (no_true h)

guarded_none : (fault : Bool) (o : Option State) → o ≡ None → is_some (if fault then None else o) ≡ false
guarded_none true o e = refl
guarded_none false o e = ap (λ (p : Option State). is_some p) e

no_items : (s : State) → s.stack ≡ [] → is_some (step s) ≡ false
no_items s e =
    guarded_none (is_lexical_error (next_token s.rest)) (stack_step s.stack s)
    (ap (λ (xs : List Item). stack_step xs s) e)

no_fit : (s : State) (item : Item) (stack : List Item) → s.stack ≡ item ∷ stack →
    has_step item (next_token s.rest) (token_after_next s.rest) ≡ false → is_some (step s) ≡ false
no_fit s item stack e h =
    guarded_none (is_lexical_error (next_token s.rest)) (stack_step s.stack s)
    (ap (λ (xs : List Item). stack_step xs s) e ∙ item_none item (record s { stack = stack }) h)

at_error : (s : State) → is_lexical_error (next_token s.rest) ≡ true → is_some (step s) ≡ false
at_error s e = ap (λ (b : Bool). is_some (if b then None else stack_step s.stack s)) e

module _ (old : Automaton) (w : Walk) (next after : Located) (at : IsAt old w)
    (are : AreNext next after w.state.rest w.positions)
  where
    by_item : (p : Pending) (stack : List Item) → w.state.stack ≡ item_of p.item ∷ stack → (fault has : Bool) →
        is_lexical_error next.token ≡ fault → has_step (item_of p.item) next.token after.token ≡ has →
        (if fault then step_end.Misfit else stepped_if has) ≢ step_end.Stepped → is_some (step w.state) ≡ false
    by_item p stack top true has e h other =
        at_error w.state (ap (λ (t : Token). is_lexical_error t) are.next_is ∙ e)
    by_item p stack top false true e h other = absurd (other refl)
    by_item p stack top false false e h other =
        no_fit w.state (item_of p.item) stack top
        (ap (λ (t : Token). has_step (item_of p.item) t (token_after_next w.state.rest)) are.next_is
        ∙ ap (λ (t : Token). has_step (item_of p.item) next.token t) (are.after_is e) ∙ h)

    by_front : (o : Option Pending) → front_of old.stack.items ≡ o →
        outcome_of o next.token after.token ≢ step_end.Stepped → is_some (step w.state) ≡ false
    by_front None e other =
        no_items w.state (sym at.items ∙ ap (λ (l : List Pending). items_of l) (turned_none old.stack.items e))
    by_front (Some p) e other =
        by_item p (map item_in (reverse (take (length old.stack.items - 1) old.stack.items)))
        (sym at.items ∙ ap (λ (l : List Pending). map item_in l) (turned old.stack.items p e)) _ _ refl refl other

    -- the automaton's step has ended, and the walk has none
    halted : outcome_of (front_of old.stack.items) next.token after.token ≢ step_end.Stepped →
        is_some (step w.state) ≡ false
    halted other = by_front (front_of old.stack.items) refl other

-- More steps make no fewer instructions.
growing : (p : Profile) (m d : ℕ) (w : Walk) → length (positions_within p m w) ≤ length (positions_within p (m + d) w)
growing p zero d w = omega arith
growing p (suc m) d w =
    let next : positions_within p (suc m + d) w ≡ step_positions p w ++ positions_within p (m + d) (walk_stepped w) =
    ap (λ (k : ℕ). positions_within p k w) (suc-add m d) in
    let count : length (positions_within p (suc m + d) w)
    ≡ length (step_positions p w ++ positions_within p (m + d) (walk_stepped w)) =
    ap (λ (l : List SourcePosition). length l) next in
    omega (
      arith,
      count,
      length-append (step_positions p w) (positions_within p m (walk_stepped w)),
      length-append (step_positions p w) (positions_within p (m + d) (walk_stepped w)),
      growing p m d (walk_stepped w),
    )

-- so many are no more than all
few_within : (profile : Profile) (tokens : List LocatedToken) (given : List SourcePosition) (n : ℕ)
    (room : HasRoom profile tokens given) → n ≤ room.steps →
    length (positions_within profile n (walk_start tokens given)) < most_places
few_within profile tokens given n room less =
    let start : Walk = walk_start tokens given in
    let more : n + (room.steps - n) ≡ room.steps = omega (arith, less) in
    let same : length (positions_within profile (n + (room.steps - n)) start)
    ≡ length (positions_within profile room.steps start) =
    ap (λ (k : ℕ). length (positions_within profile k start)) more in
    omega (arith, growing profile n (room.steps - n) start, same, room.places)

module _ (profile : Profile) (first old : Automaton) (kept found : List SourcePosition) (next after : Located)
    (made : ℕ)
    (each : StaysNext profile first kept next after made old found)
  where
    -- a step of the automaton didn't lead on
    pub gives_up : (end : StepEnd) → end ≢ step_end.Stepped →
        (end ≢ step_end.Full → end ≡ outcome_of (front_of old.stack.items) next.token after.token) →
        (end ≡ step_end.Full → IsOverfull old next after) → RunsShort profile first kept next after
    gives_up end other ends full tokens given n r are few some room =
        let still : Still profile tokens given n first.place made old found = each tokens given n r are few in
        by still (still_next next after _ _ _ _ still.rest still.left are) (λ e. some (sym still.rest ∙ e)) end refl
      where
        stops : (still : Still profile tokens given n first.place made old found) →
            AreNext next after (walk_at tokens given still.steps).state.rest
            (walk_at tokens given still.steps).positions →
            (walk_at tokens given still.steps).state.rest ≢ [] → end ≢ step_end.Full → ⊥
        stops still here left not_full =
            stuck profile tokens given still.steps left
            (halted old (walk_at tokens given still.steps) next after still.reaches.at here
            (λ h. other (ends not_full ∙ h))) room

        by : (still : Still profile tokens given n first.place made old found) →
            AreNext next after (walk_at tokens given still.steps).state.rest
            (walk_at tokens given still.steps).positions →
            (walk_at tokens given still.steps).state.rest ≢ [] → (e : StepEnd) → end ≡ e → ⊥
        by still here left step_end.Full e =
            let over : IsOverfull old next after = full e in
            let w : Walk = walk_at tokens given still.steps in
            let f : HasFront old.stack.items next.token after.token =
            has_front old.stack.items next.token after.token over.fits in
            let g : Goes w.state = goes_at old w next after still.reaches.at here f in
            let on : walk_at tokens given (suc still.steps) ≡ walk_on w =
            walked_last still.steps (walk_start tokens given) ∙ stepped_on w g.goes in
            let stack : (walk_at tokens given (suc still.steps)).state.stack
            ≡ items_after (items_of old.stack.items) next.token after.token =
            ap (λ (x : Walk). x.state.stack) on ∙ g.stack
            ∙ sym (items_same _ _ _ _ _ _ still.reaches.at.items (sym here.next_is)
            (sym (here.after_is f.fits.sound))) in
            let size : length (walk_at tokens given (suc still.steps)).state.stack
            ≡ length (items_after (items_of old.stack.items) next.token after.token) =
            ap (λ (l : List Item). length l) stack in
            let less : still.steps < room.steps =
            unpassed_before profile tokens given still.steps room left in
            omega (arith, over.full, size, room.pending (suc still.steps) (omega (arith, less)))
        by still here left step_end.Stepped e = absurd (other e)
        by still here left step_end.Misfit e =
            stops still here left (λ h. let no : step_end.Misfit ≡ step_end.Full = sym e ∙ h in cc)
        by still here left step_end.Done e =
            stops still here left (λ h. let no : step_end.Done ≡ step_end.Full = sym e ∙ h in cc)

    -- there was no room for the positions of the next step
    pub lacks_place : most_places < length found + length (positions_next profile old next) →
        RunsShort profile first kept next after
    lacks_place many tokens given n r are few some room =
        let still : Still profile tokens given n first.place made old found = each tokens given n r are few in
        let here = still_next next after _ _ _ _ still.rest still.left are in
        let w : Walk = walk_at tokens given still.steps in
        let less : still.steps < room.steps =
        unpassed_before profile tokens given still.steps room (λ e. some (sym still.rest ∙ e)) in
        let same : positions_next profile old next ≡ step_positions profile w =
        positions_same profile old w next after still.reaches.at here (step_length profile tokens given still.steps) in
        let size : length (positions_next profile old next) ≡ length (step_positions profile w) =
        ap (λ (l : List SourcePosition). length l) same in
        let start : Walk = walk_start tokens given in
        let grown : length (positions_within profile (suc still.steps) start)
        ≡ length (positions_within profile still.steps start ++ step_positions profile w) =
        ap (λ (l : List SourcePosition). length l) (positions_last profile still.steps start) in
        let was : length found ≡ length (positions_within profile still.steps start) =
        ap (λ (l : List SourcePosition). length l) still.reaches.made in
        omega (
          arith,
          many,
          size,
          grown,
          was,
          length-append (positions_within profile still.steps start) (step_positions profile w),
          few_within profile tokens given (suc still.steps) room (omega (arith, less)),
        )

    -- too many steps were made at one token
    pub lacks_steps : 2 ^ 64 - 1 ≤ made → RunsShort profile first kept next after
    lacks_steps many tokens given n r are few some room =
        let still : Still profile tokens given n first.place made old found = each tokens given n r are few in
        let less : still.steps < room.steps =
        unpassed_before profile tokens given still.steps room (λ e. some (sym still.rest ∙ e)) in
        omega (arith, many, still.many, less, room.few)

-- Of a source.

some_left : (t : LocatedToken) (others rest : List LocatedToken) → Some (followed_by t others) ≡ Some rest → rest ≢ []
some_left t others rest e none =
    let is : followed_by t others ≡ rest = unwrapped (followed_by t others) rest e in cc

module _ (profile : Profile) (bytes : List ℕ) (i : ℕ) (cursor : Cursor) (to_come : List ℕ) (next : Located)
    (before : Automaton) (kept : List SourcePosition)
    (p : Proceeds profile bytes i cursor to_come next before kept) (few : i + 1 < 2 ^ 64)
    (room : HasRoom profile (tokens bytes) (token_positions bytes))
  where
    here : Walk
    here = walk_at (tokens bytes) (token_positions bytes) p.steps

    left : here.state.rest ≢ []
    unfolding here
    left = some_left cursor.next _ here.state.rest p.shows

    next_at_last : is_last cursor.next.token ≡ true → AreNext next next here.state.rest here.positions
    unfolding here
    next_at_last last =
        let only : IsOnly cursor here.state.rest here.positions next =
        is_only bytes cursor to_come here.state.rest here.positions next p.shows p.left last in
        are_next next next here.state.rest _ here.positions _ only.tokens_is only.positions_is
        (one_next cursor.next next p.token_is last)

    -- the last token is passed
    pub last_passes : is_last cursor.next.token ≡ true → RunsShort profile before kept next next → ⊥
    unfolding here
    last_passes last short =
        short (tokens bytes) (token_positions bytes) p.steps p.reaches (next_at_last last) (omega (arith, p.place, few))
        left room

    -- and so is any other
    pub other_passes : (after : Located) → is_last cursor.next.token ≡ false →
        IsLocated after cursor.after (position_in bytes cursor.next.end cursor.after) →
        RunsShort profile before kept next after → ⊥
    unfolding here
    other_passes after other behind short =
        let more : List LocatedToken = others_of cursor to_come in
        let two : IsFirst bytes cursor more here.state.rest here.positions next after =
        is_first bytes cursor to_come here.state.rest here.positions next after p.shows p.left behind other in
        short (tokens bytes) (token_positions bytes) p.steps p.reaches
        (are_next next after here.state.rest _ here.positions _ two.tokens_is two.positions_is
        (two_next cursor.next cursor.after more next after (position_of after) _ p.token_is
        (record { token_is = behind.token_is; position_is = refl }))) (omega (arith, p.place, few)) left room

    -- then there is room for the position of the end
    pub end_has_place : (automaton : Automaton) (found : List SourcePosition) → is_last cursor.next.token ≡ true →
        Passes profile before kept next next automaton found → length found ≡ most_places → ⊥
    unfolding here
    end_has_place automaton found last passes full =
        let on : PassesToken profile (tokens bytes) (token_positions bytes) p.steps automaton found =
        (passes (tokens bytes) (token_positions bytes) p.steps p.reaches (next_at_last last)
        (omega (arith, p.place, few))).0 in
        let less : on.before < room.steps =
        unpassed_before profile (tokens bytes) (token_positions bytes) on.before room
        (λ e. left (sym on.unpassed ∙ e)) in
        let was : length found
        ≡ length (positions_within profile on.steps (walk_start (tokens bytes) (token_positions bytes))) =
        ap (λ (l : List SourcePosition). length l) on.reaches.made in
        omega (
          arith,
          full,
          was,
          few_within profile (tokens bytes) (token_positions bytes) on.steps room (omega (arith, less, on.last)),
        )
