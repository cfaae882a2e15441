-- What it takes to match one item, and what happens if the next token doesn't fit.
use Rattle.std.proofs.Common.{◌≡◌, ℕ, List, [], ◌∷◌, refl, false, sym, ap, subst}
use Rattle.std.specs.Prelude.{Some, Result, IfErr}
use Rattle.tokens.specs.Cursors.{IsNear, IsNearTo}
use Rattle.tokens.specs.declared.located_tokens.LocatedToken.{LocatedToken}
use Rattle.tokens.specs.declared.located_tokens.Token.TheVariants as token
use Rattle.grammar.specs.declared.diagnostics.Code.{Code}
use Rattle.grammar.specs.declared.diagnostics.ParseFault.{ParseFault}
use Rattle.grammar.specs.declared.diagnostics.ParseFault.TheVariants as parse_fault
use Rattle.grammar.specs.Compiled.{diagnostic}
use Rattle.grammar.specs.Derivation.{PartialTree, name_of_token, name_tree}
use Rattle.grammar.specs.Faults.{unexpected_token_code}
use Rattle.grammar.specs.Grammar.{AName, Item, Role, is_lexical_error}
use Rattle.grammar.specs.Laws.Naming.{LearnsName, RefusesName}
use Rattle.grammar.specs.Scope.{Scope}
use Rattle.grammar.proofs.Firsts.{IsUnwanted, name_fails, no_name, unwanted}
use Rattle.grammar.proofs.Steps.{IsWanted, name, wanted}
use Rattle.parser.specs.declared.roles.Declared.{Declared}
use Rattle.parser.specs.declared.roles.Declared.TheVariants as kind
use Rattle.parser.specs.ScopedCursors.{ScopedCursor, UnreadPosition, next_at, scope_at, scope_of, taken_at, with_scope}
use Rattle.parser.specs.Roles.{role_of}
use Rattle.parser.specs.Stopping.{stop_with}
use Rattle.parser.specs.Segment.{DerivesItem, FailsItem, GoesPast, IsNoName, NameIsRefused, Refused, StopsAt}
use Rattle.parser.proofs.Segments.{Leads, fails_at_next, past, refused_map, stops}

-- A punctuator or a word.

token_leads : (located_token : LocatedToken) (item : Item) (depth : ℕ) (in_scope : Scope) (rest : List LocatedToken) →
    is_lexical_error located_token.token ≡ false → IsWanted item located_token.token →
    Leads depth (item ∷ []) [] [] [] in_scope in_scope (located_token ∷ rest) rest
token_leads located_token item depth in_scope rest sound fits =
    record {
      passes =
          λ profile stack values functions depths. wanted profile item stack (located_token ∷ rest) values in_scope
          functions sound fits;
    }

pub token_derives : (at there : UnreadPosition) (item : Item) → is_lexical_error (next_at at).token ≡ false →
    IsWanted item (next_at at).token → GoesPast at there → DerivesItem item [] [] at there
token_derives at there item sound fits goes depth =
    past at.lookahead.cursor (scope_at at) (scope_at at) at.to_come there depth (item ∷ []) [] [] [] goes
    (λ rest b. token_leads (next_at at) item depth (scope_at at) rest sound fits)

-- the token after it is a lexical error, or the device failed
pub token_stops : (n : ℕ) (at : UnreadPosition) (item : Item) (f : ParseFault) →
    is_lexical_error (next_at at).token ≡ false → IsWanted item (next_at at).token → Refused (StopsAt at) ⊥ n f →
    Refused (FailsItem item at) ⊥ n f
token_stops n at item f sound fits = refused_map n (StopsAt at) (FailsItem item at) ⊥ ⊥ f
    (λ d stop depth. stops at.lookahead.cursor (scope_at at) (scope_at at) at.to_come d depth (item ∷ []) [] [] []
    (λ rest b. token_leads (next_at at) item depth (scope_at at) rest sound fits) stop) (λ same. same)

pub token_misfits : {n : ℕ} (at : UnreadPosition) (item : Item) → IsNearTo at.lookahead.cursor n →
    is_lexical_error (next_at at).token ≡ false → IsUnwanted item (next_at at).token →
    FailsItem item at
    (stop_with (parse_fault.Source (diagnostic (next_at at).line (unexpected_token_code (next_at at).token))) n)
token_misfits at item near sound misses depth =
    fails_at_next depth (item ∷ []) [] at _ _ near
    (λ tail b profile stack values functions depths. unwanted profile item stack (next_at at ∷ tail) values
    (scope_at at) functions sound misses)

-- Names.

name_leads : (located_token : LocatedToken) (role : Role) (bytes : List ℕ) (depth : ℕ) (in_scope learnt : Scope)
    (rest : List LocatedToken) → located_token.token ≡ token.Name bytes →
    LearnsName role bytes located_token.line in_scope learnt →
    Leads depth (AName role ∷ []) [] [] (name_tree role bytes in_scope) in_scope learnt (located_token ∷ rest) rest
name_leads located_token role bytes depth in_scope learnt rest is knows = record {
  passes = λ profile stack values functions depths.
      let found : name_of_token located_token.token ≡ Some bytes = rw is refl in
      rw knows.behind
      (name profile role bytes stack (located_token ∷ rest) values in_scope functions (rw is refl) found
      (knows.clean (located_token ∷ rest)));
}

-- The answers of a call that wants a name at the next token. `inside` is what the scoped cursor is made of.

-- the name was matched in its role
pub name_derives : {inside at : ScopedCursor} {there : UnreadPosition} {next : LocatedToken} {bytes : List ℕ}
    {learnt : Scope} {left : List PartialTree} (role : Role) → inside ≡ at →
    (next_at inside.position).token ≡ token.Name bytes → next ≡ next_at inside.position →
    LearnsName role bytes next.line (scope_of inside) learnt → left ≡ name_tree role bytes (scope_of inside) →
    GoesPast (with_scope learnt inside).position there → DerivesItem (AName role) [] left at.position there
name_derives {inside = p} {there = there} {bytes = bytes} {learnt = learnt} role same found here knows tree goes depth =
    let line = ap (λ (l : LocatedToken). l.line) here in
    rw (sym same, tree) (past p.position.lookahead.cursor (scope_of p) learnt p.position.to_come there depth
    (AName role ∷ []) [] [] (name_tree role bytes (scope_of p)) goes
    (λ rest b. name_leads (next_at p.position) role bytes depth (scope_of p) learnt rest found (rw line at knows)))

-- the token after it is a lexical error
pub name_stops : {inside at : ScopedCursor} {next : LocatedToken} {bytes : List ℕ} {learnt : Scope} (n : ℕ)
    (f : ParseFault) (role : Role) → inside ≡ at → (next_at inside.position).token ≡ token.Name bytes →
    next ≡ next_at inside.position → LearnsName role bytes next.line (scope_of inside) learnt →
    Refused (StopsAt (with_scope learnt inside).position) ⊥ n f → Refused (FailsItem (AName role) at.position) ⊥ n f
name_stops {inside = p} {bytes = bytes} {learnt = learnt} n f role same found here knows s =
    let line = ap (λ (l : LocatedToken). l.line) here in
    let knows_here = rw line at knows in
    rw (sym same) (refused_map n (StopsAt (with_scope learnt p).position) (FailsItem (AName role) p.position) ⊥ ⊥ f
    (λ d stop depth. stops p.position.lookahead.cursor (scope_of p) learnt p.position.to_come d depth (AName role ∷ [])
    [] [] (name_tree role bytes (scope_of p))
    (λ rest b. name_leads (next_at p.position) role bytes depth (scope_of p) learnt rest found knows_here) stop)
    (λ same. same) s)

-- the name has a fault in its role
pub name_refused : {U : Type 0} {answer : Result U Code} {f : ParseFault} {inside at : ScopedCursor}
    {next : LocatedToken} {bytes : List ℕ} (n : ℕ) (role : Role) → inside ≡ at → IsNear at.position.lookahead.cursor →
    taken_at inside.position ≡ n → (next_at inside.position).token ≡ token.Name bytes →
    next ≡ next_at inside.position → NameIsRefused answer next f →
    IfErr answer (RefusesName role bytes (scope_of inside)) → Refused (FailsItem (AName role) at.position) ⊥ n f
name_refused {inside = p} {bytes = bytes} n role same near taken found here refused fails =
    let close : IsNear p.position.lookahead.cursor =
    subst (λ (at : ScopedCursor). IsNear at.position.lookahead.cursor) (sym same) near in
    let near_it : IsNearTo p.position.lookahead.cursor n =
    subst (λ (k : ℕ). IsNearTo p.position.lookahead.cursor k) taken close in
    let has_fault : RefusesName role bytes (scope_of p) refused.code = rw refused.answered at fails in
    rw (refused.is, here, sym same) (λ depth.
    fails_at_next depth (AName role ∷ []) [] p.position _ _ near_it
    (λ tail b profile stack values functions depths. name_fails profile role bytes refused.code stack
    (next_at p.position) tail values (scope_of p) functions (rw found refl) (rw found refl)
    (has_fault (next_at p.position ∷ tail))))

-- there is no name
pub name_misfits : {f : ParseFault} {inside at : ScopedCursor} (n : ℕ) (role : Role) → inside ≡ at →
    IsNearTo at.position.lookahead.cursor n → IsNoName (next_at inside.position) f →
    Refused (FailsItem (AName role) at.position) ⊥ n f
name_misfits {f = f} {at = at} n role same near none =
    let none_here : IsNoName (next_at at.position) f =
    subst (λ (p : ScopedCursor). IsNoName (next_at p.position) f) same none in
    rw none_here.is (λ depth.
    fails_at_next depth (AName role ∷ []) [] at.position _ _ near
    (λ tail b profile stack values functions depths. no_name profile role stack (next_at at.position ∷ tail) values
    (scope_of at) functions none_here.sound none_here.other))

-- a name that is declared makes no tree
pub no_tree : (bytes : List ℕ) (in_scope : Scope) (declared : Declared) →
    [] ≡ name_tree (role_of declared) bytes in_scope
no_tree bytes in_scope kind.Externals = refl
no_tree bytes in_scope kind.Parameters = refl
no_tree bytes in_scope kind.TypedParameters = refl
no_tree bytes in_scope kind.Locals = refl
