-- The functions that lie far enough ahead of what was read are among those that were defined by then.
use Rattle.std.proofs.Common.{◌≡◌, ℕ, zero, suc, ◌+◌, ◌<◌, ◌≤◌, Bool, true, false, List, [], ◌∷◌, ◌++◌, refl, sym, ap, ◌∙◌, subst, arith, append_assoc, append-nil, inl, inr}
use Rattle.std.proofs.lemmas.Bool.Decides.{nat_tests}
use Rattle.std.specs.Prelude.{◌⊎◌, ◌&&◌, Option, Some, None, not, nat_le, unwrap_or, if◌then◌else◌}
use Rattle.tokens.specs.Cursors.{reach_of}
use Rattle.tokens.specs.Tokens.{is_last, tokens}
use Rattle.tokens.specs.declared.located_tokens.LocatedToken.{LocatedToken}
use Rattle.tokens.specs.declared.located_tokens.Token.{Token}
use Rattle.tokens.specs.declared.located_tokens.Token.TheVariants as token
use Rattle.grammar.specs.declared.actions.Action.{Action}
use Rattle.grammar.specs.Actions.{function_actions}
use Rattle.grammar.specs.Compiled.{enough_steps}
use Rattle.grammar.specs.Derivation.{Definition, State, PartialTree, constant_matched, constant_value, definition_of, is_end, last_body, matched, name_matched, name_of_token, next_token, replaced, derived, initial_state, stack_step, stepped}
use Rattle.grammar.specs.Laws.StateParts.{state}
use Rattle.grammar.specs.Beginning.{definitions_actions}
use Rattle.grammar.specs.Grammar.{AConstant, AName, AKeyword, AnEnd, Close, Define, Exactly, Item, Make, Part, Production, Role, is_lexical_error}
use Rattle.grammar.specs.Need.{built, built_in, built_of, ends_by, has_ahead, is_behind_brace}
use Rattle.grammar.specs.Scope.{Scope}
use Rattle.grammar.proofs.Verdicts.{IsRest, run_rests}
use Rattle.parser.proofs.StrictEnds.{IsCut, IsCutBehind, cut_behind, tokens_cut}

pub definitions_actions-append : (ds es : List Definition) →
    definitions_actions (ds ++ es) ≡ definitions_actions ds ++ definitions_actions es
definitions_actions-append [] es = refl
definitions_actions-append (d ∷ ds) es =
    ap (λ (acts : List Action). function_actions d.number d.function ++ acts) (definitions_actions-append ds es)
    ∙ sym (append_assoc (function_actions d.number d.function) (definitions_actions ds) (definitions_actions es))

-- Where three tokens after a brace end.

both_true : (a b : Bool) → (a && b) ≡ true → (a ≡ true) × (b ≡ true)
both_true true b e = (refl, e)
both_true false b e = absurd (cc)

not_end : (t : Token) → is_last t ≡ false → is_end t ≡ false
not_end (token.Name name) e = refl
not_end (token.Keyword w) e = refl
not_end (token.Constant value) e = refl
not_end (token.Punctuator m) e = refl
not_end (token.Fault lexical_error) e = refl
not_end token.End e = absurd (cc)

fault_is_last : (t : Token) → is_lexical_error t ≡ true → is_last t ≡ true
fault_is_last (token.Name name) e = absurd (cc)
fault_is_last (token.Keyword w) e = absurd (cc)
fault_is_last (token.Constant value) e = absurd (cc)
fault_is_last (token.Punctuator m) e = absurd (cc)
fault_is_last (token.Fault lexical_error) e = refl
fault_is_last token.End e = absurd (cc)

sooner_by : (n m count : ℕ) → n ≤ m → nat_le m count ≡ true → nat_le n count ≡ true
sooner_by n m count h e = grind (arith, nat_tests)

beyond : (n count : ℕ) → count < n → nat_le n count ≡ false
beyond n count h = grind (arith, nat_tests)

fewer_ahead : (n count : ℕ) (xs : List LocatedToken) → has_ahead (suc n) count xs ≡ true → has_ahead n count xs ≡ true
fewer_ahead zero count xs h = refl
fewer_ahead (suc n) count [] h = h
fewer_ahead (suc n) count (x ∷ xs) h =
    let p : (ends_by count x ≡ true) × (has_ahead (suc n) count xs ≡ true) =
    both_true (ends_by count x) (has_ahead (suc n) count xs) h in
    rw (p.0, fewer_ahead n count xs p.1) refl

-- a token ends by this offset if the one after it does
ends_sooner : (offset count : ℕ) (x y : LocatedToken) (ys : List LocatedToken) → IsCut offset (x ∷ y ∷ ys) →
    ends_by count y ≡ true → ends_by count x ≡ true
ends_sooner offset count x y ys cut h = by (is_last x.token) refl
  where
    by : (last : Bool) → is_last x.token ≡ last → ends_by count x ≡ true
    by true e = let none : y ∷ ys ≡ [] = cut.1.1.0 e in absurd (cc)
    by false e =
        let p : (not (is_end y.token) ≡ true) × (nat_le y.end count ≡ true) =
        both_true (not (is_end y.token)) (nat_le y.end count) h in
        rw (not_end x.token e, sooner_by x.end y.end count cut.1.1.1.0 p.1) refl

more_ahead : (n count offset : ℕ) (x : LocatedToken) (xs : List LocatedToken) → IsCut offset (x ∷ xs) →
    has_ahead (suc n) count xs ≡ true → has_ahead (suc n) count (x ∷ xs) ≡ true
more_ahead n count offset x [] cut h = absurd (cc)
more_ahead n count offset x (y ∷ ys) cut h =
    let p : (ends_by count y ≡ true) × (has_ahead n count ys ≡ true) =
    both_true (ends_by count y) (has_ahead n count ys) h in
    rw (ends_sooner offset count x y ys cut p.0, fewer_ahead n count (y ∷ ys) h) refl

sooner_brace : (count offset : ℕ) (x : LocatedToken) (xs : List LocatedToken) → IsCut offset (x ∷ xs) →
    is_behind_brace count xs ≡ true → is_behind_brace count (x ∷ xs) ≡ true
sooner_brace count offset x [] cut h = absurd (cc)
sooner_brace count offset x (y ∷ ys) cut h = more_ahead 2 count x.end y ys cut.1.1.1 h

-- if too little follows a brace, too little follows each later one
later_brace : (count offset : ℕ) (x : LocatedToken) (xs : List LocatedToken) → IsCut offset (x ∷ xs) →
    is_behind_brace count (x ∷ xs) ≡ false → is_behind_brace count xs ≡ false
later_brace count offset x xs cut h = by (is_behind_brace count xs) refl
  where
    by : (b : Bool) → is_behind_brace count xs ≡ b → b ≡ false
    by true e =
        let other : is_behind_brace count (x ∷ xs) ≡ true = sooner_brace count offset x xs cut e in sym other ∙ h
    by false e = refl

later_braces : (count offset : ℕ) (before rest : List LocatedToken) → IsCut offset (before ++ rest) →
    is_behind_brace count (before ++ rest) ≡ false → is_behind_brace count rest ≡ false
later_braces count offset [] rest cut h = h
later_braces count offset (x ∷ before) rest cut h =
    later_braces count x.end before rest cut.1.1.1 (later_brace count offset x (before ++ rest) cut h)

-- no brace from the stop on has three tokens after it that were read
at_stop : (count offset : ℕ) (rest : List LocatedToken) → IsCut offset rest → count ≤ reach_of rest →
    is_behind_brace count rest ≡ false
at_stop count offset [] cut h = refl
at_stop count offset (x ∷ []) cut h = refl
at_stop count offset (x ∷ y ∷ ys) cut h = none (ends_by count y) (has_ahead 2 count ys) (beyond_two ys cut.1.1.1.1.1.1)
  where
    none : (a b : Bool) → b ≡ false → (a && b) ≡ false
    none true b e = e
    none false b e = refl

    beyond_two : (zs : List LocatedToken) → IsCut y.end zs → has_ahead 2 count zs ≡ false
    beyond_two [] c = refl
    beyond_two (z ∷ zs) c = by (is_end z.token) refl
      where
        by : (b : Bool) → is_end z.token ≡ b → has_ahead 2 count (z ∷ zs) ≡ false
        by true e = rw e refl
        by false e =
            let behind : y.end < z.end = c.1.0 e in
            rw (e, beyond z.end count (omega (arith, behind, h))) refl

-- Functions in a run.

none_of : (count : ℕ) (s : State) → is_behind_brace count s.rest ≡ false → (stack : List Item) →
    built_of count stack s ≡ []
none_of count s h [] = refl
none_of count s h (Make Define ∷ stack) = rw h refl
none_of count s h (Make rule ∷ stack) = refl
none_of count s h (Exactly m ∷ stack) = refl
none_of count s h (AKeyword w ∷ stack) = refl
none_of count s h (AName role ∷ stack) = refl
none_of count s h (AConstant ∷ stack) = refl
none_of count s h (AnEnd ∷ stack) = refl
none_of count s h (Part symbol ∷ stack) = refl
none_of count s h (Close ∷ stack) = refl

-- the tokens left after a step
pub record IsStepped (count : ℕ) (s : State) : Type 0 where
  pub position : ℕ
  pub cut : IsCut position (stepped s).rest
  pub later : is_behind_brace count s.rest ≡ false → is_behind_brace count (stepped s).rest ≡ false

steps_on : (count offset : ℕ) (s : State) → IsCut offset s.rest → IsStepped count s
steps_on count offset s cut =
    let r : IsRest (derived 1 s).rest s.rest = run_rests 1 s in
    let c : IsCut offset (r.before ++ (stepped s).rest) = subst (IsCut offset) r.is cut in
    let b : IsCutBehind (stepped s).rest = cut_behind offset r.before (stepped s).rest c in
    record {
      position = b.position;
      cut = b.is;
      later =
          λ h. later_braces count offset r.before (stepped s).rest c
          (subst (λ (xs : List LocatedToken). is_behind_brace count xs ≡ false) r.is h);
    }

none_in : (count n offset : ℕ) (s : State) → IsCut offset s.rest → is_behind_brace count s.rest ≡ false →
    built_in count n s ≡ []
none_in count zero offset s cut h = refl
none_in count (suc n) offset s cut h =
    let t : IsStepped count s = steps_on count offset s cut in
    rw (none_of count s h s.stack, none_in count n t.position (stepped s) t.cut (t.later h)) refl

-- What a step of the derivation defines.

-- the functions defined, whose actions are built; or nothing is, and too little follows the brace
pub record Defines (count : ℕ) (s : State) : Type 0 where
  pub more : List Definition
  pub functions : (stepped s).functions ≡ s.functions ++ more
  pub built : (built_of count s.stack s ≡ definitions_actions more)
      ⊎ ((built_of count s.stack s ≡ []) × (is_behind_brace count s.rest ≡ false))

abbrev Keeps : List Definition → Option State → Type 0
Keeps functions None = Unit {0}
Keeps functions (Some t) = t.functions ≡ functions ++ []

matched_keeps : (fits : Bool) (stack : List Item) (rest : List LocatedToken) (values : List PartialTree) (scope : Scope)
    (functions : List Definition) → Keeps functions (matched fits (state stack rest values scope functions))
matched_keeps true stack rest values scope functions = sym (append-nil functions)
matched_keeps false stack rest values scope functions = tt

name_keeps : (role : Role) (name : Option (List ℕ)) (stack : List Item) (rest : List LocatedToken)
    (values : List PartialTree)
    (scope : Scope) (functions : List Definition) →
    Keeps functions (name_matched role name (state stack rest values scope functions))
name_keeps role (Some name) stack rest values scope functions = sym (append-nil functions)
name_keeps role None stack rest values scope functions = tt

constant_keeps : (value : Option ℕ) (stack : List Item) (rest : List LocatedToken) (values : List PartialTree)
    (scope : Scope)
    (functions : List Definition) → Keeps functions (constant_matched value (state stack rest values scope functions))
constant_keeps (Some value) stack rest values scope functions = sym (append-nil functions)
constant_keeps None stack rest values scope functions = tt

replaced_keeps : (items : Production) (stack : List Item) (rest : List LocatedToken) (values : List PartialTree)
    (scope : Scope) (functions : List Definition) →
    Keeps functions (replaced items (state stack rest values scope functions))
replaced_keeps (Some items) stack rest values scope functions = sym (append-nil functions)
replaced_keeps None stack rest values scope functions = tt

kept : (fault : Bool) (o : Option State) (s : State) → Keeps s.functions o →
    (unwrap_or (if fault then None else o) s).functions ≡ s.functions ++ []
kept true o s h = sym (append-nil s.functions)
kept false None s h = sym (append-nil s.functions)
kept false (Some t) s h = h

-- no function ends
plain : (count : ℕ) (s : State) → built_of count s.stack s ≡ [] → Keeps s.functions (stack_step s.stack s) →
    Defines count s
plain count s none keeps =
    record { more = []; functions = kept (is_lexical_error (next_token s.rest)) _ s keeps; built = inl none }

-- a lexical error has nothing after it
behind_fault : (count offset : ℕ) (rest : List LocatedToken) → IsCut offset rest →
    is_lexical_error (next_token rest) ≡ true →
    is_behind_brace count rest ≡ false
behind_fault count offset [] cut e = refl
behind_fault count offset (x ∷ rest) cut e =
    let alone : rest ≡ [] = cut.1.1.0 (fault_is_last x.token e) in
    rw alone refl

-- one does
defined_there : (count offset : ℕ) (stack : List Item) (rest : List LocatedToken) (values : List PartialTree)
    (scope : Scope)
    (functions : List Definition) → IsCut offset rest →
    (fault behind : Bool) → is_lexical_error (next_token rest) ≡ fault → is_behind_brace count rest ≡ behind →
    Defines count (state (Make Define ∷ stack) rest values scope functions)
defined_there count offset stack rest values scope functions cut true behind e f =
    let none : is_behind_brace count rest ≡ false = behind_fault count offset rest cut e in
    record { more = []; functions = rw e (sym (append-nil functions)); built = inl (rw none refl) }
defined_there count offset stack rest values scope functions cut false true e f =
    let d : Definition = definition_of scope (last_body values) in
    record {
      more = d ∷ [];
      functions = rw e refl;
      built = inl (rw f (sym (append-nil (function_actions d.number d.function))));
    }
defined_there count offset stack rest values scope functions cut false false e f =
    record { more = definition_of scope (last_body values) ∷ []; functions = rw e refl; built = inr (rw f refl, f) }

defines : (count offset : ℕ) (stack : List Item) (rest : List LocatedToken) (values : List PartialTree) (scope : Scope)
    (functions : List Definition) → IsCut offset rest → Defines count (state stack rest values scope functions)
defines count offset [] rest values scope functions cut = plain count (state [] rest values scope functions) refl tt
defines count offset (Make Define ∷ stack) rest values scope functions cut =
    defined_there count offset stack rest values scope functions cut (is_lexical_error (next_token rest))
    (is_behind_brace count rest) refl refl
defines count offset (Make rule ∷ stack) rest values scope functions cut =
    plain count (state (Make rule ∷ stack) rest values scope functions) refl refl
defines count offset (Exactly m ∷ stack) rest values scope functions cut =
    plain count (state (Exactly m ∷ stack) rest values scope functions) refl
    (matched_keeps _ stack rest values scope functions)
defines count offset (AKeyword w ∷ stack) rest values scope functions cut =
    plain count (state (AKeyword w ∷ stack) rest values scope functions) refl
    (matched_keeps _ stack rest values scope functions)
defines count offset (AName role ∷ stack) rest values scope functions cut =
    plain count (state (AName role ∷ stack) rest values scope functions) refl
    (name_keeps role (name_of_token (next_token rest)) stack rest values scope functions)
defines count offset (AConstant ∷ stack) rest values scope functions cut =
    plain count (state (AConstant ∷ stack) rest values scope functions) refl
    (constant_keeps (constant_value (next_token rest)) stack rest values scope functions)
defines count offset (AnEnd ∷ stack) rest values scope functions cut =
    plain count (state (AnEnd ∷ stack) rest values scope functions) refl
    (matched_keeps _ stack rest values scope functions)
defines count offset (Part symbol ∷ stack) rest values scope functions cut =
    plain count (state (Part symbol ∷ stack) rest values scope functions) refl
    (replaced_keeps _ stack rest values scope functions)
defines count offset (Close ∷ stack) rest values scope functions cut =
    plain count (state (Close ∷ stack) rest values scope functions) refl (sym (append-nil functions))

-- What a run defines begins with what is built.

pub record IsFront (count n : ℕ) (s : State) : Type 0 where
  pub more : List Action
  pub is : definitions_actions (derived n s).functions ≡ definitions_actions s.functions ++ (built_in count n s ++ more)

four : (a b c d : List Action) → (a ++ b) ++ (c ++ d) ≡ a ++ ((b ++ c) ++ d)
four a b c d = append_assoc a b (c ++ d) ∙ ap (λ (xs : List Action). a ++ xs) (sym (append_assoc b c d))

front_step : (count n offset : ℕ) (s : State) → IsCut offset s.rest → IsFront count n (stepped s) →
    IsFront count (suc n) s
front_step count n offset s cut further =
    let d : Defines count s = defines count offset s.stack s.rest s.values s.scope s.functions cut in
    let reported : definitions_actions (derived n (stepped s)).functions ≡
    (definitions_actions s.functions ++ definitions_actions d.more) ++
    (built_in count n (stepped s) ++ further.more) =
    further.is ∙
    ap (λ (xs : List Action). xs ++ (built_in count n (stepped s) ++ further.more))
    (ap definitions_actions d.functions ∙ definitions_actions-append s.functions d.more) in
    by d.more reported d.built
  where
    by : (more : List Definition) →
        definitions_actions (derived n (stepped s)).functions ≡
        (definitions_actions s.functions ++ definitions_actions more) ++
        (built_in count n (stepped s) ++ further.more) →
        (built_of count s.stack s ≡ definitions_actions more) ⊎
        ((built_of count s.stack s ≡ []) × (is_behind_brace count s.rest ≡ false)) →
        IsFront count (suc n) s
    by more reported (inl same) = record {
      more = further.more;
      is =
          reported ∙
          four (definitions_actions s.functions) (definitions_actions more) (built_in count n (stepped s))
          further.more
          ∙
          ap
          (λ (xs : List Action). definitions_actions s.functions ++
          ((xs ++ built_in count n (stepped s)) ++ further.more)) (sym same);
    }
    by more reported (inr none) =
        let t : IsStepped count s = steps_on count offset s cut in
        let later : built_in count n (stepped s) ≡ [] = none_in count n t.position (stepped s) t.cut (t.later none.1) in
        let nothing : built_of count s.stack s ++ built_in count n (stepped s) ≡ [] =
        rw (none.0, later) refl in
        record {
          more = definitions_actions more ++ further.more;
          is =
              reported ∙
              ap
              (λ (xs : List Action). (definitions_actions s.functions ++ definitions_actions more) ++
              (xs ++ further.more)) later
              ∙ append_assoc (definitions_actions s.functions) (definitions_actions more) further.more
              ∙
              ap
              (λ (xs : List Action). definitions_actions s.functions ++
              (xs ++ (definitions_actions more ++ further.more))) (sym nothing);
        }

front_built : (count n offset : ℕ) (s : State) → IsCut offset s.rest → IsFront count n s
front_built count zero offset s cut = record { more = []; is = sym (append-nil (definitions_actions s.functions)) }
front_built count (suc n) offset s cut =
    let t : IsStepped count s = steps_on count offset s cut in
    front_step count n offset s cut (front_built count n t.position (stepped s) t.cut)

-- Up to a stop.

built_in-add : (count m n : ℕ) (s : State) →
    built_in count (m + n) s ≡ built_in count m s ++ built_in count n (derived m s)
built_in-add count zero n s = ap (λ (k : ℕ). built_in count k s) (omega arith)
built_in-add count (suc m) n s =
    let same : suc m + n ≡ suc (m + n) = omega arith in
    ap (λ (k : ℕ). built_in count k s) same
    ∙
    ap (λ (xs : List Action). built_of count s.stack s ++ xs) (built_in-add count m n (stepped s))
    ∙
    sym
    (append_assoc (built_of count s.stack s) (built_in count m (stepped s))
    (built_in count n (derived m (stepped s))))

-- the functions defined by then are those built, and others after them
pub record IsAmongDefined (bytes : List ℕ) (count steps : ℕ) : Type 0 where
  pub more : List Action
  pub is : definitions_actions (derived steps (initial_state (tokens bytes))).functions ≡ built bytes count ++ more

pub built_by_stop : (bytes : List ℕ) (count steps : ℕ) →
    count ≤ reach_of (derived steps (initial_state (tokens bytes))).rest →
    IsAmongDefined bytes count steps
unfolding built
built_by_stop bytes count steps h =
    let s : State = initial_state (tokens bytes) in
    let t : State = derived steps s in
    let n : ℕ = enough_steps (tokens bytes) in
    let cut : IsCut 0 (tokens bytes) = tokens_cut bytes in
    let r : IsRest t.rest (tokens bytes) = run_rests steps s in
    let b : IsCutBehind t.rest = cut_behind 0 r.before t.rest (subst (IsCut 0) r.is cut) in
    let none : built_in count n t ≡ [] = none_in count n b.position t b.is (at_stop count b.position t.rest b.is h) in
    let front : IsFront count steps s = front_built count steps 0 s cut in
    let swap : steps + n ≡ n + steps = omega arith in
    let whole : built_in count steps s ≡ built_in count n s ++ built_in count steps (derived n s) =
    sym (append-nil (built_in count steps s)) ∙ ap (λ (xs : List Action). built_in count steps s ++ xs) (sym none)
    ∙ sym (built_in-add count steps n s) ∙ ap (λ (k : ℕ). built_in count k s) swap ∙ built_in-add count n steps s in
    record {
      more = built_in count steps (derived n s) ++ front.more;
      is = front.is ∙ ap (λ (xs : List Action). xs ++ front.more) whole ∙
          append_assoc (built_in count n s) (built_in count steps (derived n s)) front.more;
    }
