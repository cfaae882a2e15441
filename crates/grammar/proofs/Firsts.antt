-- Which fault of a derivation is its first.
use Rattle.std.proofs.Common.{◌≡◌, ℕ, zero, suc, ◌<◌, ◌≤◌, List, [], ◌∷◌, ◌++◌, refl, sym, ap, subst, inl, inr, Bool, true, false, arith, length, lt-ltb, append-nil}
use Rattle.std.proofs.lemmas.Bool.Decides.{nat_tests}
use Rattle.std.specs.Prelude.{Option, Some, None, nat_le, nat_lt, if◌then◌else◌}
use Rattle.tokens.specs.declared.located_tokens.LocatedToken.{LocatedToken}
use Rattle.tokens.specs.declared.located_tokens.Punctuator.TheVariants as punctuator
use Rattle.tokens.specs.declared.located_tokens.Token.{Token}
use Rattle.grammar.specs.declared.diagnostics.Code.{Code}
use Rattle.grammar.specs.declared.diagnostics.Code.TheVariants as fault_code
use Rattle.grammar.specs.Compiled.{diagnostic}
use Rattle.grammar.specs.Derivation.{State, PartialTree, Definition, definition_of, last_body, stepped, derived, next_token, token_after_next, line_at, name_of_token}
use Rattle.grammar.specs.Laws.StateParts.{state}
use Rattle.grammar.specs.Faults.{Fault, fault, faults_at, is_first, stack_faults, nesting_faults, length_faults, name_faults, role_faults, no_room, unexpected_tokens, unexpected_token_code, nested_count, fault_code_number, is_too_long, only_if}
use Rattle.grammar.specs.Grammar.{Item, Exactly, AKeyword, AName, AConstant, AnEnd, Part, Make, Close, Symbol, Role, Defined, External, Parameter, Typed, Local, Called, Mentioned, Define, choice, enters, is_punctuator, is_keyword, is_lexical_error}
use Rattle.grammar.specs.Intrinsics.{is_intrinsic}
use Rattle.grammar.specs.Laws.Parsing.{IsIn, IsFirstFault, Fails}
use Rattle.grammar.specs.NameLimits.{most_nested, most_names}
use Rattle.grammar.specs.Profile.{Profile}
use Rattle.grammar.specs.Scope.{Scope, has_begun, is_external_new, is_function_new, is_local_new, is_variable_new}
-- a step never adds tokens
pub use Rattle.grammar.proofs.TokensLeft.{run_keeps}
use Rattle.grammar.proofs.Runs.{stays}
use Rattle.grammar.proofs.Steps.{IsWanted}

reflexive_at : (n c : ℕ) → (if nat_lt n n then true else (if nat_lt n n then false else nat_le c c)) ≡ true
reflexive_at n c = grind (arith, nat_tests)

pub reflexive : (f : Fault) → is_first f f ≡ true
reflexive f = reflexive_at (length f.rest) (fault_code_number f.code)

only_one : (f g : Fault) (faults : List Fault) → faults ≡ f ∷ [] → IsIn g faults → f ≡ g
only_one f g [] e h = absurd h
only_one f g (x ∷ []) e (inl p) = cc
only_one f g (x ∷ []) e (inr h) = absurd h
only_one f g (x ∷ y ∷ faults) e h = absurd (cc)

-- if a derivation stays as it is, its one fault is the first
pub stuck : (profile : Profile) (s : State) (f : Fault) → stepped s ≡ s → faults_at profile s ≡ f ∷ [] →
    IsFirstFault profile s f
stuck profile s f still faults = record {
  comes = record { steps = 0; here = subst (λ (fs : List Fault). IsIn f fs) (sym faults) (inl refl) };
  first = λ g is.
      let same : f ≡ g =
      only_one f g (faults_at profile s) faults
      (subst (λ (t : State). IsIn g (faults_at profile t)) (stays is.steps s still) is.here) in
      subst (λ (x : Fault). is_first f x ≡ true) same (reflexive f);
}

pub fails_stuck : (profile : Profile) (s : State) (rest : List LocatedToken) (c : Code) → stepped s ≡ s →
    faults_at profile s ≡ fault rest c ∷ [] →
    Fails profile s (diagnostic (line_at rest) c)
fails_stuck profile s rest c still faults =
    record { fault = fault rest c; first = stuck profile s (fault rest c) still faults; line = refl; code = refl }

-- a lexical error fits nothing
pub at_fault : (profile : Profile) (stack : List Item) (rest : List LocatedToken) (values : List PartialTree)
    (scope : Scope)
    (functions : List Definition) →
    is_lexical_error (next_token rest) ≡ true →
    Fails profile (state stack rest values scope functions)
    (diagnostic (line_at rest) (unexpected_token_code (next_token rest)))
at_fault profile stack rest values scope functions is = fails_stuck profile _ rest _ (rw is refl) (rw is refl)

pub no_part : (profile : Profile) (symbol : Symbol) (stack : List Item) (rest : List LocatedToken)
    (values : List PartialTree)
    (scope : Scope) (functions : List Definition) →
    is_lexical_error (next_token rest) ≡ false → choice symbol (next_token rest) (token_after_next rest) ≡ None →
    nesting_faults symbol (state stack rest values scope functions) ≡ [] →
    Fails profile (state (Part symbol ∷ stack) rest values scope functions)
    (diagnostic (line_at rest) (unexpected_token_code (next_token rest)))
no_part profile symbol stack rest values scope functions sound none clean =
    fails_stuck profile _ rest _ (rw (sound, none) refl) (rw (sound, clean, none) refl)

-- the token isn't the one that such an item wants
abbrev pub IsUnwanted : Item → Token → Type 0
IsUnwanted (Exactly m) t = is_punctuator m t ≡ false
IsUnwanted (AKeyword w) t = is_keyword w t ≡ false
IsUnwanted item t = ⊥

pub unwanted : (profile : Profile) (item : Item) (stack : List Item) (rest : List LocatedToken)
    (values : List PartialTree) (scope : Scope) (functions : List Definition) →
    is_lexical_error (next_token rest) ≡ false → IsUnwanted item (next_token rest) →
    Fails profile (state (item ∷ stack) rest values scope functions)
    (diagnostic (line_at rest) (unexpected_token_code (next_token rest)))
unwanted profile (Exactly m) stack rest values scope functions sound none =
    fails_stuck profile _ rest _ (rw (sound, none) refl) (rw (sound, none) refl)
unwanted profile (AKeyword w) stack rest values scope functions sound none =
    fails_stuck profile _ rest _ (rw (sound, none) refl) (rw (sound, none) refl)
unwanted profile item stack rest values scope functions sound none = absurd none

pub no_name : (profile : Profile) (role : Role) (stack : List Item) (rest : List LocatedToken)
    (values : List PartialTree)
    (scope : Scope) (functions : List Definition) →
    is_lexical_error (next_token rest) ≡ false → name_of_token (next_token rest) ≡ None →
    Fails profile (state (AName role ∷ stack) rest values scope functions)
    (diagnostic (line_at rest) (unexpected_token_code (next_token rest)))
no_name profile role stack rest values scope functions sound none =
    fails_stuck profile _ rest _ (rw (sound, none) refl) (rw (sound, none) refl)

-- What holds of a fault at these tokens, whatever it is, holds of each fault that may be there.

only_if_each : (P : Fault → Type 0) (g : Fault) (b : Bool) (faults : List Fault) → (IsIn g faults → P g) →
    IsIn g (only_if b faults) → P g
only_if_each P g true faults each h = each h
only_if_each P g false faults each h = absurd h

single_each : (P : Fault → Type 0) (g f : Fault) → P f → IsIn g (f ∷ []) → P g
single_each P g f each (inl p) = subst P p each
single_each P g f each (inr h) = absurd h

guarded_each : (P : Fault → Type 0) (g : Fault) (b : Bool) (xs ys : List Fault) → (IsIn g xs → P g) →
    (IsIn g ys → P g) → IsIn g (if b then xs else ys) → P g
guarded_each P g true xs ys p q h = p h
guarded_each P g false xs ys p q h = q h

no_room_each : (P : Fault → Type 0) (g : Fault) (new : Bool) (count : ℕ) (c : Code) (rest : List LocatedToken) →
    P (fault rest c) → IsIn g (no_room new count c rest) → P g
no_room_each P g new count c rest each =
    only_if_each P g new (only_if (nat_le most_names count) (fault rest c ∷ []))
    (only_if_each P g (nat_le most_names count) (fault rest c ∷ []) (single_each P g (fault rest c) each))

-- of a role's, which have greater codes than that of nesting
role_each : (P : Fault → Type 0) (g : Fault) (role : Role) (name : List ℕ) (scope : Scope) (rest : List LocatedToken) →
    ((c : Code) → 9 ≤ fault_code_number c → P (fault rest c)) → IsIn g (role_faults role name scope rest) → P g
role_each P g Defined name scope rest each =
    guarded_each P g (is_intrinsic name) (fault rest fault_code.IntrinsicRedefined ∷ []) _
    (single_each P g _ (each fault_code.IntrinsicRedefined (omega arith)))
    (guarded_each P g (has_begun name scope) (fault rest fault_code.FunctionDefinedTwice ∷ [])
    (no_room (is_function_new name scope) (length scope.functions) fault_code.TooManyFunctions rest)
    (single_each P g _ (each fault_code.FunctionDefinedTwice (omega arith)))
    (no_room_each P g (is_function_new name scope) (length scope.functions) fault_code.TooManyFunctions rest
    (each fault_code.TooManyFunctions (omega arith))))
role_each P g External name scope rest each =
    no_room_each P g (is_external_new name scope) (length scope.externals) fault_code.TooManyVariables rest
    (each fault_code.TooManyVariables (omega arith))
role_each P g Parameter name scope rest each =
    guarded_each P g (is_local_new name scope)
    (no_room true (length scope.current.variables) fault_code.TooManyVariables rest) _
    (no_room_each P g true (length scope.current.variables) fault_code.TooManyVariables rest
    (each fault_code.TooManyVariables (omega arith)))
    (single_each P g _ (each fault_code.BadParameterDeclaration (omega arith)))
role_each P g Typed name scope rest each =
    only_if_each P g (is_local_new name scope) (fault rest fault_code.BadParameterDeclaration ∷ [])
    (single_each P g _ (each fault_code.BadParameterDeclaration (omega arith)))
role_each P g Local name scope rest each =
    no_room_each P g (is_local_new name scope) (length scope.current.variables) fault_code.TooManyVariables rest
    (each fault_code.TooManyVariables (omega arith))
role_each P g Called name scope rest each =
    no_room_each P g (is_function_new name scope) (length scope.functions) fault_code.TooManyFunctions rest
    (each fault_code.TooManyFunctions (omega arith))
role_each P g Mentioned name scope rest each =
    no_room_each P g (is_variable_new name scope) (length scope.current.variables) fault_code.TooManyVariables rest
    (each fault_code.TooManyVariables (omega arith))

-- A fault is at the next token.

abbrev IsAt : List LocatedToken → Fault → Type 0
IsAt rest g = g.rest ≡ rest

appended_rest : (g : Fault) (xs ys : List Fault) (rest : List LocatedToken) → (IsIn g xs → g.rest ≡ rest) →
    (IsIn g ys → g.rest ≡ rest) → IsIn g (xs ++ ys) → g.rest ≡ rest
appended_rest g [] ys rest p q h = q h
appended_rest g (x ∷ xs) ys rest p q (inl e) = p (inl e)
appended_rest g (x ∷ xs) ys rest p q (inr h) = appended_rest g xs ys rest (λ k. p (inr k)) q h

name_rest : (g : Fault) (role : Role) (name : Option (List ℕ)) (scope : Scope) (rest : List LocatedToken) →
    IsIn g (name_faults role name scope rest) → g.rest ≡ rest
name_rest g role None scope rest h = absurd h
name_rest g role (Some name) scope rest h = role_each (IsAt rest) g role name scope rest (λ c l. refl) h

item_rest : (profile : Profile) (g : Fault) (stack : List Item) (rest : List LocatedToken) (values : List PartialTree)
    (scope : Scope) (functions : List Definition) →
    IsIn g (stack_faults profile stack (state stack rest values scope functions)) → g.rest ≡ rest
item_rest profile g [] rest values scope functions h = absurd h
item_rest profile g (Exactly m ∷ stack) rest values scope functions h = absurd h
item_rest profile g (AKeyword w ∷ stack) rest values scope functions h = absurd h
item_rest profile g (AName role ∷ stack) rest values scope functions h =
    name_rest g role (name_of_token (next_token rest)) scope rest h
item_rest profile g (AnEnd ∷ stack) rest values scope functions h = absurd h
item_rest profile g (AConstant ∷ stack) rest values scope functions h = absurd h
item_rest profile g (Part symbol ∷ stack) rest values scope functions h =
    only_if_each (IsAt rest) g (enters symbol (next_token rest) (token_after_next rest))
    (only_if (nat_le most_nested (nested_count stack)) (fault rest fault_code.NestedTooDeeply ∷ []))
    (only_if_each (IsAt rest) g (nat_le most_nested (nested_count stack)) (fault rest fault_code.NestedTooDeeply ∷ [])
    (single_each (IsAt rest) g _ refl)) h
item_rest profile g (Make Define ∷ stack) rest values scope functions h =
    only_if_each (IsAt rest) g (is_too_long profile (functions ++ definition_of scope (last_body values) ∷ []))
    (fault rest fault_code.TooMuchCode ∷ []) (single_each (IsAt rest) g _ refl) h
item_rest profile g (Make rule ∷ stack) rest values scope functions h = absurd h
item_rest profile g (Close ∷ stack) rest values scope functions h = absurd h

misfits_rest : (g : Fault) (stack : List Item) (rest : List LocatedToken) (next : Option State) →
    IsIn g (unexpected_tokens stack rest next) → g.rest ≡ rest
misfits_rest g [] rest next h = absurd h
misfits_rest g (item ∷ stack) rest None h = single_each (IsAt rest) g _ refl h
misfits_rest g (item ∷ stack) rest (Some s) h = absurd h

pub at_rest : (profile : Profile) (g : Fault) (s : State) → IsIn g (faults_at profile s) → g.rest ≡ s.rest
at_rest profile g s h =
    guarded_each (IsAt s.rest) g (is_lexical_error (next_token s.rest)) _ _ (single_each (IsAt s.rest) g _ refl)
    (appended_rest g _ _ s.rest (item_rest profile g s.stack s.rest s.values s.scope s.functions)
    (misfits_rest g s.stack s.rest _)) h

-- at the token after it, or later
later_first : (profile : Profile) (f g : Fault) (s : State) (n : ℕ) → length s.rest < length f.rest →
    IsIn g (faults_at profile (derived n s)) → is_first f g ≡ true
later_first profile f g s n before h =
    let at : g.rest ≡ (derived n s).rest = at_rest profile g (derived n s) h in
    let keeps : length (derived n s).rest ≤ length s.rest = run_keeps n s in
    let same : length g.rest ≡ length (derived n s).rest = ap length at in
    let less : length g.rest < length f.rest = omega arith in
    rw (lt-ltb (length g.rest) (length f.rest) less) refl

-- at the same token, with a code that is not less
same_token_first : (f g : Fault) → g.rest ≡ f.rest → fault_code_number f.code ≤ fault_code_number g.code →
    is_first f g ≡ true
same_token_first f g same most =
    rw same (tested (length f.rest) (fault_code_number f.code) (fault_code_number g.code) most)
  where
    tested : (n c d : ℕ) → c ≤ d → (if nat_lt n n then true else (if nat_lt n n then false else nat_le c d)) ≡ true
    tested n c d h = grind (arith, nat_tests)

-- A fault whose token is matched in this step is the first.
pub now_first : (profile : Profile) (s : State) (f : Fault) → faults_at profile s ≡ f ∷ [] →
    length (stepped s).rest < length f.rest → IsFirstFault profile s f
now_first profile s f faults before = record {
  comes = record { steps = 0; here = subst (λ (fs : List Fault). IsIn f fs) (sym faults) (inl refl) };
  first = λ g is. first_at g is.steps is.here;
}
  where
    first_at : (g : Fault) (n : ℕ) → IsIn g (faults_at profile (derived n s)) → is_first f g ≡ true
    first_at g zero h = subst (λ (x : Fault). is_first f x ≡ true) (only_one f g _ faults h) (reflexive f)
    first_at g (suc n) h = later_first profile f g (stepped s) n before h

-- A fault whose token is matched in the step after it is the first, if no fault there comes before it.
pub matched_first : (profile : Profile) (s : State) (f : Fault) → faults_at profile s ≡ f ∷ [] →
    ((g : Fault) → IsIn g (faults_at profile (stepped s)) → is_first f g ≡ true) →
    length (stepped (stepped s)).rest < length f.rest → IsFirstFault profile s f
matched_first profile s f faults second before = record {
  comes = record { steps = 0; here = subst (λ (fs : List Fault). IsIn f fs) (sym faults) (inl refl) };
  first = λ g is. first_at g is.steps is.here;
}
  where
    first_at : (g : Fault) (n : ℕ) → IsIn g (faults_at profile (derived n s)) → is_first f g ≡ true
    first_at g zero h = subst (λ (x : Fault). is_first f x ≡ true) (only_one f g _ faults h) (reflexive f)
    first_at g (suc zero) h = second g h
    first_at g (suc (suc n)) h = later_first profile f g (stepped (stepped s)) n before h

none_in : (f : Fault) (faults : List Fault) → faults ≡ [] → (g : Fault) → IsIn g faults → is_first f g ≡ true
none_in f [] e g h = absurd h
none_in f (x ∷ faults) e g h = absurd (cc)

fails_at : (profile : Profile) (s : State) (located_token : LocatedToken) (rest : List LocatedToken) (c : Code) →
    IsFirstFault profile s (fault (located_token ∷ rest) c) → Fails profile s (diagnostic located_token.line c)
fails_at profile s located_token rest c first = record { fault = _; first = first; line = refl; code = refl }

-- its token is matched in the step after it, where there is no fault
fails_matched : (profile : Profile) (s : State) (located_token : LocatedToken) (rest : List LocatedToken) (c : Code) →
    faults_at profile s ≡ fault (located_token ∷ rest) c ∷ [] → faults_at profile (stepped s) ≡ [] →
    length (stepped (stepped s)).rest < length (located_token ∷ rest) →
    Fails profile s (diagnostic located_token.line c)
fails_matched profile s located_token rest c here none before =
    let f : Fault = fault (located_token ∷ rest) c in
    fails_at profile s located_token rest c (matched_first profile s f here (none_in f _ none) before)

-- A name with a fault of its role.
pub name_fails : (profile : Profile) (role : Role) (name : List ℕ) (c : Code) (stack : List Item)
    (located_token : LocatedToken) (rest : List LocatedToken) (values : List PartialTree) (scope : Scope)
    (functions : List Definition) →
    is_lexical_error located_token.token ≡ false → name_of_token located_token.token ≡ Some name →
    role_faults role name scope (located_token ∷ rest) ≡ fault (located_token ∷ rest) c ∷ [] →
    Fails profile (state (AName role ∷ stack) (located_token ∷ rest) values scope functions)
    (diagnostic located_token.line c)
name_fails profile role name c stack located_token rest values scope functions sound fits fails =
    fails_at profile _ located_token rest c
    (now_first profile _ _ (rw (sound, fits, fails) refl) (simp (sound, fits) (omega arith)))

-- The closing brace of the function with which the code is too long.
pub too_long : (profile : Profile) (stack : List Item) (located_token : LocatedToken) (rest : List LocatedToken)
    (values : List PartialTree) (scope : Scope) (functions : List Definition) →
    is_lexical_error located_token.token ≡ false → is_punctuator punctuator.CloseCurly located_token.token ≡ true →
    length_faults profile
    (state (Exactly punctuator.CloseCurly ∷ stack) (located_token ∷ rest) values scope functions) ≡
    fault (located_token ∷ rest) fault_code.TooMuchCode ∷ [] →
    Fails profile
    (state (Make Define ∷ Exactly punctuator.CloseCurly ∷ stack) (located_token ∷ rest) values scope functions)
    (diagnostic located_token.line fault_code.TooMuchCode)
too_long profile stack located_token rest values scope functions sound fits long =
    fails_matched profile _ located_token rest fault_code.TooMuchCode (rw (sound, long) refl) (simp (sound, fits))
    (simp (sound, fits) (omega arith))

-- Nested too deeply, by a punctuator or a keyword.
pub too_deep : (profile : Profile) (symbol : Symbol) (item : Item) (items stack : List Item)
    (located_token : LocatedToken) (rest : List LocatedToken) (values : List PartialTree) (scope : Scope)
    (functions : List Definition) →
    is_lexical_error located_token.token ≡ false →
    choice symbol located_token.token (next_token rest) ≡ Some (item ∷ items) → IsWanted item located_token.token →
    nesting_faults symbol (state stack (located_token ∷ rest) values scope functions) ≡
    fault (located_token ∷ rest) fault_code.NestedTooDeeply ∷ [] →
    Fails profile (state (Part symbol ∷ stack) (located_token ∷ rest) values scope functions)
    (diagnostic located_token.line fault_code.NestedTooDeeply)
too_deep profile symbol (Exactly m) items stack located_token rest values scope functions sound chosen fits deep =
    fails_matched profile _ located_token rest fault_code.NestedTooDeeply (rw (sound, deep, chosen) refl)
    (simp (sound, chosen, fits)) (simp (sound, chosen, fits) (omega arith))
too_deep profile symbol (AKeyword w) items stack located_token rest values scope functions sound chosen fits deep =
    fails_matched profile _ located_token rest fault_code.NestedTooDeeply (rw (sound, deep, chosen) refl)
    (simp (sound, chosen, fits)) (simp (sound, chosen, fits) (omega arith))
too_deep profile symbol item items stack located_token rest values scope functions sound chosen fits deep = absurd fits

-- A fault of a role has a greater code than that of nesting.

deep_before_role : (g : Fault) (role : Role) (name : List ℕ) (scope : Scope) (rest : List LocatedToken)
    (faults : List Fault) → faults ≡ role_faults role name scope rest →
    IsIn g faults → is_first (fault rest fault_code.NestedTooDeeply) g ≡ true
deep_before_role g role name scope rest faults same h =
    let here : IsIn g (role_faults role name scope rest) = subst (λ (fs : List Fault). IsIn g fs) same h in
    let large : 9 ≤ fault_code_number g.code =
    role_each (λ x. 9 ≤ fault_code_number x.code) g role name scope rest (λ c l. l) here in
    same_token_first (fault rest fault_code.NestedTooDeeply) g
    (role_each (IsAt rest) g role name scope rest (λ c l. refl) here) (omega arith)

-- Nested too deeply, by a name: the name may have a fault of its role, which comes after.
pub too_deep_name : (profile : Profile) (symbol : Symbol) (role : Role) (name : List ℕ) (items stack : List Item)
    (located_token : LocatedToken) (rest : List LocatedToken) (values : List PartialTree) (scope : Scope)
    (functions : List Definition) →
    is_lexical_error located_token.token ≡ false →
    choice symbol located_token.token (next_token rest) ≡ Some (AName role ∷ items) →
    name_of_token located_token.token ≡ Some name →
    nesting_faults symbol (state stack (located_token ∷ rest) values scope functions) ≡
    fault (located_token ∷ rest) fault_code.NestedTooDeeply ∷ [] →
    Fails profile (state (Part symbol ∷ stack) (located_token ∷ rest) values scope functions)
    (diagnostic located_token.line fault_code.NestedTooDeeply)
too_deep_name profile symbol role name items stack located_token rest values scope functions sound chosen fits deep =
    record {
      fault = fault (located_token ∷ rest) fault_code.NestedTooDeeply;
      first = matched_first profile _ _ (rw (sound, deep, chosen) refl)
          (λ g h. deep_before_role g role name scope (located_token ∷ rest) _ (simp (sound, chosen, fits, append-nil))
          h)
          (simp (sound, chosen, fits) (omega arith));
      line = refl;
      code = refl;
    }
