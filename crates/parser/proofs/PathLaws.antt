-- One step of the derivation after another, from the file's start on.
use Rattle.std.proofs.Common.{◌≡◌, ℕ, zero, suc, ◌+◌, ◌<◌, List, [], ◌∷◌, ◌++◌, refl, sym, ap, ap₂, ◌∙◌, subst, Bool, true, false, append_assoc, append-nil, zero-add, suc-add, length}
use Rattle.std.specs.Prelude.{pos, Some, nat_le}
use Rattle.tokens.specs.Tokens.{followed_by, is_last}
use Rattle.tokens.specs.declared.located_tokens.LocatedToken.{LocatedToken}
use Rattle.tokens.specs.declared.located_tokens.Token.TheVariants as token
use Rattle.tokens.specs.Device.{FailureCount}
use Rattle.grammar.specs.declared.diagnostics.Code.TheVariants as fault_code
use Rattle.grammar.specs.declared.diagnostics.Diagnostic.{Diagnostic}
use Rattle.grammar.specs.declared.diagnostics.ParseFault.{ParseFault}
use Rattle.grammar.specs.declared.diagnostics.ParseFault.TheVariants as parse_fault
use Rattle.grammar.specs.declared.actions.Action.{Action}
use Rattle.grammar.specs.declared.actions.Action.TheVariants.{PushConstant}
use Rattle.grammar.specs.declared.name_limits.TheConstants.{MOST_NESTED}
use Rattle.grammar.specs.Beginning.{IsBeginning}
use Rattle.grammar.specs.Building.{AppendsAll, MayFollow, MayFollowAll, Representation}
use Rattle.grammar.specs.Derivation.{State, PartialTree, Definition, AnExpr, trees_after, scope_after_action, functions_defined, next_token, name_of_token, name_tree, derived, initial_state, stepped}
use Rattle.grammar.specs.Faults.{item_faults, faults_at, faults_in, fault, nested_count, only_if}
use Rattle.grammar.specs.Grammar.{External, Parameter, Typed, Local, AConstant, AKeyword, AName, Role, Close, Exactly, Item, Make, Part, SemanticAction, Symbol, Define, choice, enters, is_lexical_error}
use Rattle.grammar.specs.Laws.Naming.{LearnsName}
use Rattle.grammar.specs.Laws.Parsing.{DerivesWithoutFault as Clean}
use Rattle.grammar.specs.Laws.StateParts.{state}
use Rattle.grammar.specs.NameLimits.{most_nested}
use Rattle.grammar.specs.Profile.{Profile}
use Rattle.grammar.specs.Scope.{Scope}
use Rattle.grammar.specs.Tree.{Constant}
use Rattle.grammar.proofs.Runs.{derived-add, faults_in-add}
use Rattle.grammar.proofs.Steps.{IsWanted}
use Rattle.grammar_laws.proofs.Emitted.{emits_a_beginning}
use Rattle.grammar_laws.specs.Emission.{and_then, on_choice, on_name, emitted, emissions, on_rule}
use Rattle.parser.specs.Advancing.{HasAdvanced, Stopped}
use Rattle.parser.specs.Paths.{Ended, HasTold, Leads, Origin, Path, Refused}
use Rattle.parser.specs.Roles.{role_of}
use Rattle.parser.specs.declared.roles.Declared.{Declared}
use Rattle.parser.specs.declared.roles.Declared.TheVariants as kind
use Rattle.parser.specs.ScopedCursors.{MayContinue, UnreadPosition, ScopedCursor, next_at, scope_of, taken_at, token_of, tokens_at, with_scope}
use Rattle.parser.specs.Segment.{FailsAt, GoesPast, Refused as IsRefused, StopsAt, TakesTokens, account_after}
use Rattle.parser.specs.Stopping.{StopsInside, stop_with}
use Rattle.parser.proofs.Items.{token_stops}
use Rattle.parser.proofs.Parts.{within}
use Rattle.parser.proofs.Productions.{EntersNone, WithAfter}
use Rattle.parser.proofs.Segments.{Begins, IsBehind, functions_back, goes_begins, halts_here, stops_back, told_begins, told_goes, next_behind}

-- One step.

-- without a fault, with what it emits
pub record Steps (profile : Profile) (s t : State) (more : List Action) : Type 0 where
  pub leads : stepped s ≡ t
  pub clean : faults_at profile s ≡ []
  pub emits : emitted s ≡ more

emissions-add : (m n : ℕ) (s : State) → emissions (m + n) s ≡ emissions m s ++ emissions n (derived m s)
emissions-add zero n s = ap (λ k. emissions k s) (zero-add n)
emissions-add (suc m) n s =
    ap (λ k. emissions k s) (suc-add m n)
    ∙ ap (λ (acts : List Action). emitted s ++ acts) (emissions-add m n (stepped s))
    ∙ sym (append_assoc (emitted s) (emissions m (stepped s)) (emissions n (derived m (stepped s))))

both_same : (xs ys zs more : List Action) → xs ≡ ys → zs ≡ more → xs ++ (zs ++ []) ≡ and_then ys more
both_same xs ys zs [] p q = rw (p, q, append-nil ys) refl
both_same xs ys zs (a ∷ more) p q = rw (p, q, append-nil more) refl

pub leads_more : (profile : Profile) (n : ℕ) (ls : List LocatedToken) (s t : State) (acts more : List Action) →
    Leads profile n ls s acts → Steps profile s t more → Leads profile (n + 1) ls t (and_then acts more)
leads_more profile n ls s t acts more h k = record {
  comes = derived-add n 1 (initial_state ls) ∙ ap (λ (v : State). stepped v) h.comes ∙ k.leads;
  clean = faults_in-add profile n 1 (initial_state ls)
      ∙ ap₂ ◌++◌ h.clean (ap (λ (v : State). faults_in profile 1 v) h.comes ∙ ap₂ ◌++◌ k.clean refl);
  emits = emissions-add n 1 (initial_state ls)
      ∙ ap (λ (v : State). emissions n (initial_state ls) ++ emissions 1 v) h.comes
      ∙ both_same _ _ _ _ h.emits k.emits;
}

-- Steps that take no token: these trees become those.

record Silent (profile : Profile) (stack left : List Item) (values made : List PartialTree) (more : List Action)
    (at : ScopedCursor) : Type 0 where
  pub steps : (tail : List LocatedToken) → IsBehind at.position.lookahead.cursor tail →
      (functions : List Definition) →
      Steps profile (state stack (next_at at.position ∷ tail) values (scope_of at) functions)
      (state left (next_at at.position ∷ tail) made (scope_of at) functions) more

silently : {o : Origin} {stack left : List Item} {values made : List PartialTree} {acts more : List Action}
    {at : ScopedCursor} → Silent o.profile stack left values made more at → Path o stack values acts at →
    Path o left made (and_then acts more) at
silently {o} {stack} {left} {values} {made} {acts} {more} {at} s h = record {
  consumed = h.consumed;
  steps = h.steps + 1;
  functions = h.functions;
  told = h.told;
  follows = λ rest g.
      let b : Begins at.position.lookahead.cursor rest = goes_begins at.position rest g in
      leads_more o.profile h.steps (h.consumed ++ rest) _ _ acts more (h.follows rest g)
      (subst (λ (ls : List LocatedToken). Steps o.profile (state stack ls values (scope_of at) h.functions)
      (state left ls made (scope_of at) h.functions) more)
      (sym b.is) (s.steps b.tail b.behind h.functions));
  borrows = h.borrows;
  account = h.account;
  took = h.took;
  ready = h.ready;
}

free : (n : ℕ) (opened : Bool) (rest : List LocatedToken) → (opened ≡ true → n < MOST_NESTED) →
    only_if opened (only_if (nat_le most_nested n) (fault rest fault_code.NestedTooDeeply ∷ [])) ≡ []
free n true rest shallow = within true n rest (shallow refl)
free n false rest shallow = refl

-- A symbol is replaced by the production that the tokens choose. If it is nested, fewer than the most may be open.
choose : {o : Origin} {stack : List Item} {values : List PartialTree} {acts more : List Action} {at : ScopedCursor}
    (symbol : Symbol) (items : List Item) →
    WithAfter at.position (λ after. choice symbol (token_of at) after ≡ Some items) →
    WithAfter at.position (λ after. enters symbol (token_of at) after ≡ true → nested_count stack < MOST_NESTED) →
    on_choice symbol (token_of at) (scope_of at) ≡ more → Path o (Part symbol ∷ stack) values acts at →
    Path o (items ++ stack) values (and_then acts more) at
choose {o} {stack} {values} {acts} {more} {at} symbol items is shallow e h = silently (record {
  steps = λ tail b functions.
      let after = next_behind at.position tail b in
      record {
        leads = rw (h.ready.sound, is (next_token tail) after) refl;
        clean = rw (
          h.ready.sound,
          free (nested_count stack) (enters symbol (token_of at) (next_token tail)) (next_at at.position ∷ tail)
              (shallow (next_token tail) after),
          is (next_token tail) after,
        ) refl;
        emits = rw h.ready.sound e;
      };
}) h

-- no limit is asked for where nothing is nested
flat : (n : ℕ) (b : Bool) → b ≡ false → b ≡ true → n < MOST_NESTED
flat n b none is = absurd (cc)

-- one that isn't nested
pub chosen : {o : Origin} {stack : List Item} {values : List PartialTree} {acts more : List Action} {at : ScopedCursor}
    (symbol : Symbol) (items : List Item) →
    WithAfter at.position (λ after. choice symbol (token_of at) after ≡ Some items) → EntersNone at.position symbol →
    on_choice symbol (token_of at) (scope_of at) ≡ more → Path o (Part symbol ∷ stack) values acts at →
    Path o (items ++ stack) values (and_then acts more) at
chosen {stack = stack} symbol items is none e h =
    choose symbol items is (λ after last. flat (nested_count stack) _ (none after last)) e h

-- one that may be, with fewer open than the most
pub opened : {o : Origin} {stack : List Item} {values : List PartialTree} {acts more : List Action} {at : ScopedCursor}
    (symbol : Symbol) (items : List Item) →
    WithAfter at.position (λ after. choice symbol (token_of at) after ≡ Some items) →
    nested_count stack < MOST_NESTED → on_choice symbol (token_of at) (scope_of at) ≡ more →
    Path o (Part symbol ∷ stack) values acts at → Path o (items ++ stack) values (and_then acts more) at
opened symbol items is few e h = choose symbol items is (λ after last enters. few) e h

-- any action but the end of a function
abbrev pub IsInside : SemanticAction → Type 0
IsInside Define = ⊥
IsInside rule = Unit {0}

keeps_names : (rule : SemanticAction) (scope : Scope) → IsInside rule → scope_after_action rule scope ≡ scope
keeps_names Define scope inside = absurd inside
keeps_names rule scope inside = refl

defines_none : (rule : SemanticAction) (values : List PartialTree) (scope : Scope) → IsInside rule →
    functions_defined rule values scope ≡ []
defines_none Define values scope inside = absurd inside
defines_none rule values scope inside = refl

has_no_fault : (profile : Profile) (rule : SemanticAction) (s : State) → IsInside rule →
    item_faults profile (Make rule) s ≡ []
has_no_fault profile Define s inside = absurd inside
has_no_fault profile rule s inside = refl

-- A tree is made, whatever the trees are.
pub made : {o : Origin} {stack : List Item} {values : List PartialTree} {acts : List Action} {at : ScopedCursor}
    (rule : SemanticAction) → IsInside rule → Path o (Make rule ∷ stack) values acts at →
    Path o stack (trees_after rule values)
    (and_then acts (on_rule rule stack values (length (scope_of at).current.variables))) at
made {o} {stack} {values} {acts} {at} rule inside h = silently (record {
  steps = λ tail b functions. record {
    leads = rw (
      h.ready.sound,
      keeps_names rule (scope_of at) inside,
      defines_none rule values (scope_of at) inside,
      append-nil functions,
    ) refl;
    clean = rw (
      h.ready.sound,
      has_no_fault o.profile rule (state stack (next_at at.position ∷ tail) values (scope_of at) functions) inside,
    ) refl;
    emits = rw h.ready.sound refl;
  };
}) h

pub closed : {o : Origin} {stack : List Item} {values : List PartialTree} {acts : List Action} {at : ScopedCursor} →
    Path o (Close ∷ stack) values acts at → Path o stack values acts at
closed h = silently {more = []} (record {
  steps = λ tail b functions.
      record { leads = rw h.ready.sound refl; clean = rw h.ready.sound refl; emits = rw h.ready.sound refl };
}) h

-- A token is taken.

-- an item that the next token fits, which makes these trees, emits these actions and brings these names into scope
pub record Takes (profile : Profile) (item : Item) (made : List PartialTree) (more : List Action) (learnt : Scope)
    (at : ScopedCursor) : Type 0 where
  pub steps : (stack : List Item) (rest : List LocatedToken) (values : List PartialTree)
      (functions : List Definition) →
      Steps profile (state (item ∷ stack) (next_at at.position ∷ rest) values (scope_of at) functions)
      (state stack rest (made ++ values) learnt functions) more

takes_one : (here there : UnreadPosition) → GoesPast here there → (consumed whole rest : List LocatedToken) →
    whole ≡ consumed ++ rest → tokens_at here ≡ Some rest → TakesTokens (consumed ++ next_at here ∷ []) whole there
takes_one here there goes consumed whole rest is shows =
    let b : Begins here.lookahead.cursor rest = told_begins here rest shows in
    record {
      rest = b.tail;
      is = is ∙ ap (λ (ls : List LocatedToken). consumed ++ ls) b.is
          ∙ sym (append_assoc consumed (next_at here ∷ []) b.tail);
      shows = goes.told (next_at here) b.tail (shows ∙ ap Some b.is);
    }

goes_one : (here there : UnreadPosition) → GoesPast here there → (rest : List LocatedToken) → MayContinue there rest →
    MayContinue here (next_at here ∷ rest)
goes_one here there goes rest g =
    let last : is_last (next_at here).token ≡ false = goes.more in
    record {
      behind = followed_by there.lookahead.cursor.after g.behind;
      is = rw last (ap (λ (ls : List LocatedToken). next_at here ∷ ls) (g.is ∙ rw goes.next refl));
    }

pub past : {o : Origin} {item : Item} {stack : List Item} {values made : List PartialTree} {acts more : List Action}
    {learnt : Scope} {at there : ScopedCursor} → Takes o.profile item made more learnt at →
    GoesPast (with_scope learnt at).position there.position → HasAdvanced at there →
    Path o (item ∷ stack) values acts at → Path o stack (made ++ values) (and_then acts more) there
past {o} {item} {stack} {values} {made} {acts} {more} {learnt} {at} {there} takes goes went h =
    let here : UnreadPosition = (with_scope learnt at).position in
    record {
      consumed = h.consumed ++ next_at at.position ∷ [];
      steps = h.steps + 1;
      functions = h.functions;
      told = λ ls is.
          let t : TakesTokens h.consumed ls at.position = h.told ls is in
          takes_one here there.position goes h.consumed ls t.rest t.is t.shows;
      follows = λ rest g.
          let on : MayContinue here (next_at here ∷ rest) = goes_one here there.position goes rest g in
          let l : Leads o.profile (h.steps + 1) (h.consumed ++ (next_at at.position ∷ rest))
          (state stack rest (made ++ values) learnt h.functions) (and_then acts more) =
          leads_more o.profile h.steps _ _ _ acts more
          (h.follows (next_at at.position ∷ rest) (record { behind = on.behind; is = on.is }))
          (takes.steps stack rest values h.functions) in
          rw (append_assoc h.consumed (next_at at.position ∷ []) rest, goes.scope) l;
      borrows = went.borrows ∙ h.borrows;
      account = went.account ∙ h.account;
      took = went.took.rest o.bytes h.took;
      ready = went.ready;
    }

-- the names in scope stay
stays : (at there : ScopedCursor) → GoesPast at.position there.position →
    GoesPast (with_scope (scope_of at) at).position there.position
stays at there goes = record { more = goes.more; next = goes.next; told = goes.told; scope = goes.scope }

pub token_past : {o : Origin} {stack : List Item} {values : List PartialTree} {acts : List Action}
    {at there : ScopedCursor} (item : Item) → IsWanted item (token_of at) → GoesPast at.position there.position →
    HasAdvanced at there → Path o (item ∷ stack) values acts at → Path o stack values acts there
token_past {o} {stack} {values} {acts} {at} {there} item fits goes went h =
    past {made = []} {more = []} {learnt = scope_of at} (takes_token item h.ready.sound fits) (stays at there goes) went
    h
  where
    takes_token : (item : Item) → is_lexical_error (token_of at) ≡ false → IsWanted item (token_of at) →
        Takes o.profile item [] [] (scope_of at) at
    takes_token (Exactly m) sound fits = record {
      steps = λ below rest trees functions.
          record { leads = rw (sound, fits) refl; clean = rw (sound, fits) refl; emits = rw sound refl };
    }
    takes_token (AKeyword w) sound fits = record {
      steps = λ below rest trees functions.
          record { leads = rw (sound, fits) refl; clean = rw (sound, fits) refl; emits = rw sound refl };
    }
    takes_token item sound fits = absurd fits

-- the cursor that is past the token has come to know a name there
known : {at there : ScopedCursor} (learnt : Scope) → HasAdvanced (with_scope learnt at) there → HasAdvanced at there
known learnt k = record {
  borrows = k.borrows;
  account = k.account;
  took = record { rest = k.took.rest };
  falls = k.falls;
  ready = k.ready;
}

pub name_past : {o : Origin} {stack : List Item} {values : List PartialTree} {acts : List Action}
    {at there : ScopedCursor} {next : LocatedToken} (role : Role) (name : List ℕ) (learnt : Scope) →
    (next_at at.position).token ≡ token.Name name → next ≡ next_at at.position →
    LearnsName role name next.line (scope_of at) learnt → GoesPast (with_scope learnt at).position there.position →
    HasAdvanced (with_scope learnt at) there → Path o (AName role ∷ stack) values acts at →
    Path o stack (name_tree role name (scope_of at) ++ values) (and_then acts (on_name role (Some name))) there
name_past {o} {stack} {values} {acts} {at} {there} role name learnt is here knows goes went h =
    let found : name_of_token (next_at at.position).token ≡ Some name = rw is refl in
    let line = ap (λ (l : LocatedToken). l.line) here in
    let knows = rw line at knows in
    past (record {
      steps = λ below rest trees functions. record {
        leads = rw (h.ready.sound, found, knows.behind) refl;
        clean = rw (h.ready.sound, found, knows.clean (next_at at.position ∷ rest)) refl;
        emits = rw (h.ready.sound, found) refl;
      };
    }) goes (known learnt went) h

pub declared_past : {o : Origin} {stack : List Item} {values : List PartialTree} {acts : List Action}
    {at there : ScopedCursor} (declared : Declared) (name : List ℕ) (learnt : Scope) →
    (next_at at.position).token ≡ token.Name name →
    LearnsName (role_of declared) name (next_at at.position).line (scope_of at) learnt →
    GoesPast (with_scope learnt at).position there.position → HasAdvanced (with_scope learnt at) there →
    Path o (AName (role_of declared) ∷ stack) values acts at → Path o stack values acts there
declared_past kind.Externals name learnt is knows goes went h = name_past External name learnt is refl knows goes went h
declared_past kind.Parameters name learnt is knows goes went h =
    name_past Parameter name learnt is refl knows goes went h
declared_past kind.TypedParameters name learnt is knows goes went h =
    name_past Typed name learnt is refl knows goes went h
declared_past kind.Locals name learnt is knows goes went h = name_past Local name learnt is refl knows goes went h

pub constant_past : {o : Origin} {stack : List Item} {values : List PartialTree} {acts : List Action}
    {at there : ScopedCursor} (value : ℕ) → (next_at at.position).token ≡ token.Constant value →
    GoesPast at.position there.position → HasAdvanced at there → Path o (AConstant ∷ stack) values acts at →
    Path o stack (AnExpr (Constant (pos value)) ∷ values) (acts ++ PushConstant (pos value) ∷ []) there
constant_past {o} {stack} {values} {acts} {at} {there} value is goes went h =
    past {made = AnExpr (Constant (pos value)) ∷ []} {more = PushConstant (pos value) ∷ []} {learnt = scope_of at}
    (record {
      steps = λ below rest trees functions. record { leads = rw is refl; clean = rw is refl; emits = rw is refl };
    }) (stays at there goes) went h

-- Where the derivation ends.

ends : {o : Origin} {values : List PartialTree} {acts : List Action} {at there : ScopedCursor}
    (front stack : List Item) (f : ParseFault) → Path o (front ++ stack) values acts at → Stopped f at there →
    FailsAt (nested_count stack) front [] at.position (stop_with f (taken_at there.position)) → Ended o acts f there
ends {o} {values} {acts} {at} {there} front stack f h s fails = record {
  stops = λ ls is.
      let t : TakesTokens h.consumed ls at.position = h.told ls is in
      let here : State = state (front ++ stack) t.rest values (scope_of at) h.functions in
      let l : Leads o.profile h.steps (h.consumed ++ t.rest) here acts =
      h.follows t.rest (told_goes at.position t.rest t.shows) in
      let inside : StopsInside o.profile here (stop_with f (taken_at there.position)) =
      fails t.rest t.shows o.profile stack values h.functions refl in
      let clean : Clean o.profile (initial_state (h.consumed ++ t.rest)) here =
      record { steps = h.steps; leads = l.comes; clean = l.clean } in
      rw t.is (record {
        stops = stops_back o.profile _ _ _ h.consumed refl clean inside.stops;
        steps = h.steps;
        emits = l.emits;
        functions = functions_back o.profile _ _ _ h.consumed refl clean inside.stops ∙ inside.functions
            ∙ sym (ap (λ (v : State). v.functions) l.comes);
      });
  borrows = s.borrows ∙ h.borrows;
  account = s.account ∙ ap (λ (n : FailureCount). account_after n f) h.account;
  took = s.took.rest o.bytes h.took;
}

-- the cursor stays at the next token
here : (at : ScopedCursor) (f : ParseFault) → at.account ≡ account_after at.account f → Stopped f at at
here at f same = record { borrows = refl; account = same; took = record { rest = λ total h. h } }

-- A call of the cursor was refused within these items.
pub falls : {o : Origin} {denied : Type 0} {told : List Action → Type 0} {values : List PartialTree}
    {acts : List Action}
    {at there : ScopedCursor} (front stack : List Item) (f : ParseFault) → Path o (front ++ stack) values acts at →
    told acts → Stopped f at there →
    IsRefused (λ stop. (depth : ℕ) → FailsAt depth front [] at.position stop) ⊥ (taken_at there.position) f →
    Refused o denied told f there
falls front stack (parse_fault.Source d) h t s r =
    record { acts = _; ended = ends front stack _ h s (r (nested_count stack)); leaves = tt }
falls front stack parse_fault.Device h t s r =
    record { acts = _; ended = ends front stack _ h s (r (nested_count stack)); leaves = t }
falls front stack parse_fault.Memory h t s r = absurd r.0

-- The next token fits, and the one after it is a lexical error, or the device failed.

pub token_falls : {o : Origin} {denied : Type 0} {told : List Action → Type 0} {stack : List Item}
    {values : List PartialTree} {acts : List Action} {at there : ScopedCursor} {f : ParseFault} (item : Item) →
    IsWanted item (token_of at) → told acts → Stopped f at there →
    IsRefused (StopsAt at.position) ⊥ (taken_at there.position) f → Path o (item ∷ stack) values acts at →
    Refused o denied told f there
token_falls {stack = stack} {at = at} {f = f} item fits t s r h =
    falls (item ∷ []) stack f h t s (token_stops _ at.position item f h.ready.sound fits r)

-- memory was refused
pub out_of_memory : {o : Origin} {denied : Type 0} {told : List Action → Type 0} {stack : List Item}
    {values : List PartialTree} {acts : List Action} {at : ScopedCursor} → Path o stack values acts at → denied →
    Refused o denied told parse_fault.Memory at
out_of_memory {stack = stack} {at = at} h asks = record {
  acts = _;
  ended = ends [] stack parse_fault.Memory h (here at parse_fault.Memory refl)
      (halts_here (nested_count stack) [] [] at.position (taken_at at.position) h.ready.near);
  leaves = asks;
}

-- the next token has a fault
pub faulty : {o : Origin} {denied : Type 0} {told : List Action → Type 0} {values : List PartialTree}
    {acts : List Action}
    {at : ScopedCursor} {d : Diagnostic} (front stack : List Item) → Path o (front ++ stack) values acts at →
    FailsAt (nested_count stack) front [] at.position (stop_with (parse_fault.Source d) (taken_at at.position)) →
    Refused o denied told (parse_fault.Source d) at
faulty {at = at} front stack h fails =
    record { acts = _; ended = ends front stack _ h (here at _ refl) fails; leaves = tt }

-- What was told a builder, and what may be.

pub told_more : {began now : Representation} (after : Representation) (acts : List Action) {more : List Action} →
    AppendsAll now after more →
    HasTold began now acts → HasTold began after (acts ++ more)
told_more after acts added told = record { each = λ profile new. added profile _ (told.each profile new) }

pub may_all : {o : Origin} {began now : Representation} {stack : List Item} {values : List PartialTree}
    {more : List Action} {at : ScopedCursor} (acts : List Action) → HasTold began now acts → began o.profile [] →
    Path o stack values (acts ++ more) at → MayFollowAll now more
may_all {o} {began} {now} {stack} {values} {more} {at} acts told new p =
    let l : Leads o.profile p.steps _ _ (acts ++ more) = p.follows _ (record { behind = []; is = refl }) in
    record {
      profile = o.profile;
      acts = acts;
      stood = told.each o.profile new;
      begins = subst IsBeginning l.emits (emits_a_beginning o.profile p.steps _ l.clean);
    }

pub may : {o : Origin} {began now : Representation} {stack : List Item} {values : List PartialTree} {a : Action}
    {at : ScopedCursor} (acts : List Action) → HasTold began now acts → began o.profile [] →
    Path o stack values (acts ++ a ∷ []) at → MayFollow now a
may {o} {began} {now} {stack} {values} {a} {at} acts told new p =
    let l : Leads o.profile p.steps _ _ (acts ++ a ∷ []) = p.follows _ (record { behind = []; is = refl }) in
    record {
      profile = o.profile;
      acts = acts;
      stood = told.each o.profile new;
      begins = subst IsBeginning l.emits (emits_a_beginning o.profile p.steps _ l.clean);
    }
