-- A step of the definition, where the code says that there is one: its stack and its tokens.
use Rattle.std.proofs.Common.{◌≡◌, ℕ, List, [], ◌∷◌, ◌++◌, refl, sym, subst, Bool, true, false}
use Rattle.std.specs.Prelude.{Option, Some, None, is_some, unwrap_or, drop, if◌then◌else◌}
use Rattle.tokens.specs.declared.located_tokens.LocatedToken.{LocatedToken}
use Rattle.grammar.specs.Derivation.{State, PartialTree, Definition, step, stack_step, stepped, next_token, token_after_next, name_of_token, constant_value, matched, name_matched, replaced, constant_matched}
use Rattle.grammar.specs.Grammar.{Role, Item, Exactly, AKeyword, AName, AConstant, AnEnd, Part, Make, Close, Production, choice, is_lexical_error}
use Rattle.grammar.specs.Laws.StateParts.{state}
use Rattle.grammar.specs.Scope.{Scope}
use Rattle.derivations.specs.Positions.{passes_with}
use Rattle.derivations.specs.Stacks.{items_after}
use Rattle.derivations.specs.Steps.{has_step}

-- the tokens after a step
abbrev pub rest_after : List Item → List LocatedToken → List LocatedToken
rest_after stack rest = if passes_with stack then drop 1 rest else rest

-- there is a state, with this stack and these tokens
abbrev Leads : Option State → List Item → List LocatedToken → Type 0
Leads None stack rest = ⊥
Leads (Some t) stack rest = (t.stack ≡ stack) × (t.rest ≡ rest)

no_true : false ≡ true → ⊥
no_true e = cc

matched_leads : (b : Bool) (stack : List Item) (rest : List LocatedToken) (values : List PartialTree) (scope : Scope)
    (functions : List Definition) → b ≡ true →
    Leads (matched b (state stack rest values scope functions)) stack (drop 1 rest)
matched_leads true stack rest values scope functions h = (refl, refl)
matched_leads false stack rest values scope functions h = absurd (no_true h)

name_leads : (role : Role) (name : Option (List ℕ)) (stack : List Item) (rest : List LocatedToken)
    (values : List PartialTree) (scope : Scope) (functions : List Definition) → is_some name ≡ true →
    Leads (name_matched role name (state stack rest values scope functions)) stack (drop 1 rest)
name_leads role (Some name) stack rest values scope functions h = (refl, refl)
name_leads role None stack rest values scope functions h = absurd (no_true h)

constant_leads : (value : Option ℕ) (stack : List Item) (rest : List LocatedToken)
    (values : List PartialTree) (scope : Scope) (functions : List Definition) → is_some value ≡ true →
    Leads (constant_matched value (state stack rest values scope functions)) stack (drop 1 rest)
constant_leads (Some value) stack rest values scope functions h = (refl, refl)
constant_leads None stack rest values scope functions h = absurd (no_true h)

replaced_leads : (production : Production) (stack : List Item) (rest : List LocatedToken)
    (values : List PartialTree) (scope : Scope) (functions : List Definition) → is_some production ≡ true →
    Leads (replaced production (state stack rest values scope functions)) (unwrap_or production [] ++ stack) rest
replaced_leads (Some items) stack rest values scope functions h = (refl, refl)
replaced_leads None stack rest values scope functions h = absurd (no_true h)

item_leads : (item : Item) (stack : List Item) (rest : List LocatedToken) (values : List PartialTree) (scope : Scope)
    (functions : List Definition) → has_step item (next_token rest) (token_after_next rest) ≡ true →
    Leads (stack_step (item ∷ stack) (state (item ∷ stack) rest values scope functions))
    (items_after (item ∷ stack) (next_token rest) (token_after_next rest)) (rest_after (item ∷ stack) rest)
item_leads (Exactly m) stack rest values scope functions h = matched_leads _ stack rest values scope functions h
item_leads (AKeyword w) stack rest values scope functions h = matched_leads _ stack rest values scope functions h
item_leads (AName role) stack rest values scope functions h =
    name_leads role (name_of_token (next_token rest)) stack rest values scope functions h
item_leads AConstant stack rest values scope functions h =
    constant_leads (constant_value (next_token rest)) stack rest values scope functions h
item_leads AnEnd stack rest values scope functions h = matched_leads _ stack rest values scope functions h
item_leads (Part symbol) stack rest values scope functions h =
    replaced_leads (choice symbol (next_token rest) (token_after_next rest)) stack rest values scope functions h
item_leads (Make rule) stack rest values scope functions h = (refl, refl)
item_leads Close stack rest values scope functions h = (refl, refl)

-- there is a step, and what it leads to
pub record Goes (s : State) : Type 0 where
  pub goes : is_some (step s) ≡ true
  pub stack : (stepped s).stack ≡ items_after s.stack (next_token s.rest) (token_after_next s.rest)
  pub rest : (stepped s).rest ≡ rest_after s.stack s.rest

record GoesTo (s : State) (o : Option State) (stack : List Item) (rest : List LocatedToken) : Type 0 where
  goes : is_some o ≡ true
  stack_is : (unwrap_or o s).stack ≡ stack
  rest_is : (unwrap_or o s).rest ≡ rest

led : (s : State) (o : Option State) (stack : List Item) (rest : List LocatedToken) → Leads o stack rest →
    GoesTo s o stack rest
led s None stack rest h = absurd h
led s (Some t) stack rest h = record { goes = refl; stack_is = h.0; rest_is = h.1 }

guarded : (s : State) (fault : Bool) (o : Option State) (stack : List Item) (rest : List LocatedToken) →
    fault ≡ false → Leads o stack rest → GoesTo s (if fault then None else o) stack rest
guarded s true o stack rest e h = absurd cc
guarded s false o stack rest e h = led s o stack rest h

stack_leads : (whole : List Item) (item : Item) (stack : List Item) (rest : List LocatedToken)
    (values : List PartialTree)
    (scope : Scope) (functions : List Definition) → whole ≡ item ∷ stack →
    has_step item (next_token rest) (token_after_next rest) ≡ true →
    Leads (stack_step whole (state whole rest values scope functions))
    (items_after whole (next_token rest) (token_after_next rest)) (rest_after whole rest)
stack_leads whole item stack rest values scope functions e h =
    subst (λ (xs : List Item). Leads (stack_step xs (state xs rest values scope functions))
    (items_after xs (next_token rest) (token_after_next rest)) (rest_after xs rest)) (sym e)
    (item_leads item stack rest values scope functions h)

pub goes : (s : State) (item : Item) (stack : List Item) → s.stack ≡ item ∷ stack →
    is_lexical_error (next_token s.rest) ≡ false → has_step item (next_token s.rest) (token_after_next s.rest) ≡ true →
    Goes s
goes s item stack e sound h =
    let to : GoesTo s (step s) (items_after s.stack (next_token s.rest) (token_after_next s.rest))
    (rest_after s.stack s.rest) =
    guarded s (is_lexical_error (next_token s.rest)) (stack_step s.stack s) _ _ sound
    (stack_leads s.stack item stack s.rest s.values s.scope s.functions e h) in
    record { goes = to.goes; stack = to.stack_is; rest = to.rest_is }
