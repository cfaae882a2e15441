-- If a name was matched, the token after it is next.
use Rattle.std.proofs.Common.{◌≡◌, ℕ, zero, suc, List, [], ◌∷◌, ◌++◌, refl, sym, ap, ◌∙◌, Bool, true, false, drop}
use Rattle.std.specs.Prelude.{Some, is_some}
use Rattle.tokens.specs.Tokens.{followed_by, is_last}
use Rattle.tokens.specs.declared.located_tokens.LocatedToken.{LocatedToken}
use Rattle.tokens.specs.declared.located_tokens.Token.{Token}
use Rattle.tokens.specs.declared.located_tokens.Token.TheVariants as token
use Rattle.grammar.specs.Derivation.{State, PartialTree, Definition, name_of_token, next_token, line_at, name_tree, derived, stepped}
use Rattle.grammar.specs.Laws.StateParts.{state}
use Rattle.grammar.specs.Grammar.{AName, Role, is_lexical_error}
use Rattle.grammar.specs.Laws.Parsing.{DerivesWithoutFault}
use Rattle.grammar.specs.ProfileNumbers.{first_profile}
use Rattle.grammar.specs.Scope.{Scope, scope_after_name}
use Rattle.parser.specs.ScopedCursors.{MayContinue, UnreadPosition, after_at, next_at, scope_at}
use Rattle.parser.specs.Segment.{Derives, DerivesItem}

-- Names.

pub record IsNamed (t : Token) : Type 0 where
  pub name : List ℕ
  pub is : t ≡ token.Name name

pub is_named : (t : Token) → is_some (name_of_token t) ≡ true → IsNamed t
is_named (token.Name name) h = record { name = name; is = refl }
is_named t h = absurd (cc)

pub named_goes_on : (t : Token) → IsNamed t → is_last t ≡ false
named_goes_on t n = rw n.is refl

pub named_sound : (t : Token) → IsNamed t → is_lexical_error t ≡ false
named_sound t n = rw n.is refl

pub named_found : (t : Token) (n : IsNamed t) → name_of_token t ≡ Some n.name
named_found t n = rw n.is refl

-- the token after a name
pub after_name : (at : UnreadPosition) (after : Token) → IsNamed (next_at at).token →
    (is_last (next_at at).token ≡ false → after ≡ after_at at) → after ≡ after_at at
after_name at after n more = more (named_goes_on (next_at at).token n)

done : (b : Bool) (rest : List LocatedToken) (values : List PartialTree) (scope : Scope) (functions : List Definition) →
    is_lexical_error (next_token rest) ≡ b →
    stepped (state [] rest values scope functions) ≡ state [] rest values scope functions
done true rest values scope functions is = rw is refl
done false rest values scope functions is = rw is refl

stays_done : (n : ℕ) (rest : List LocatedToken) (values : List PartialTree) (scope : Scope)
    (functions : List Definition) →
    derived n (state [] rest values scope functions) ≡ state [] rest values scope functions
stays_done zero rest values scope functions = refl
stays_done (suc n) rest values scope functions =
    ap (λ (s : State). derived n s) (done (is_lexical_error (next_token rest)) rest values scope functions refl) ∙
    stays_done n rest values scope functions

name_steps : (role : Role) (bytes : List ℕ) (rest : List LocatedToken) (values : List PartialTree) (scope : Scope)
    (functions : List Definition) →
    is_lexical_error (next_token rest) ≡ false → name_of_token (next_token rest) ≡ Some bytes →
    stepped (state (AName role ∷ []) rest values scope functions) ≡
    state [] (drop 1 rest) (name_tree role bytes scope ++ values) (scope_after_name role bytes (line_at rest) scope)
    functions
name_steps role bytes rest values scope functions sound fits = rw (sound, fits) refl

name_runs : (n : ℕ) (role : Role) (bytes : List ℕ) (rest others : List LocatedToken) (values left : List PartialTree)
    (scope learnt : Scope) (functions : List Definition) →
    is_lexical_error (next_token rest) ≡ false → name_of_token (next_token rest) ≡ Some bytes →
    derived n (state (AName role ∷ []) rest values scope functions) ≡ state [] others left learnt functions →
    others ≡ drop 1 rest
name_runs zero role bytes rest others values left scope learnt functions sound fits e =
    let stack : AName role ∷ [] ≡ [] = ap (λ (s : State). s.stack) e in absurd (cc)
name_runs (suc n) role bytes rest others values left scope learnt functions sound fits e =
    sym (ap (λ (s : State). s.rest) (sym
    (stays_done n (drop 1 rest) (name_tree role bytes scope ++ values)
    (scope_after_name role bytes (line_at rest) scope)
    functions)
    ∙ ap (λ (s : State). derived n s) (sym (name_steps role bytes rest values scope functions sound fits)) ∙ e))

-- the first token
first_of : (x : LocatedToken) (xs ys : List LocatedToken) (y : LocatedToken) → x ∷ xs ≡ y ∷ ys → x ≡ y
first_of x xs ys y e = cc

-- the fewest tokens that a position may have
abbrev fewest : UnreadPosition → List LocatedToken
fewest at = followed_by (next_at at) (followed_by at.lookahead.cursor.after [])

pub behind_name_is : (at there : UnreadPosition) (role : Role) (left : List PartialTree) → IsNamed (next_at at).token →
    DerivesItem (AName role) [] left at there → next_at there ≡ at.lookahead.cursor.after
behind_name_is at there role left n item =
    let d : Derives 0 (AName role ∷ []) [] [] left at there = item 0 in
    let g : MayContinue there (fewest there) = record { behind = []; is = refl } in
    let f : MayContinue at (d.consumed ++ fewest there) = d.follows (fewest there) g in
    let p : DerivesWithoutFault first_profile (state (AName role ∷ []) (d.consumed ++ fewest there) [] (scope_at at) [])
    (state [] (fewest there) (left ++ []) (scope_at there) []) =
    d.passes (fewest there) g first_profile [] [] [] refl in
    let whole : d.consumed ++ fewest there ≡ next_at at ∷ followed_by at.lookahead.cursor.after f.behind =
    f.is ∙ rw (named_goes_on (next_at at).token n) refl in
    let sound : is_lexical_error (next_token (d.consumed ++ fewest there)) ≡ false =
    ap (λ (ls : List LocatedToken). is_lexical_error (next_token ls)) whole ∙ named_sound (next_at at).token n in
    let found : name_of_token (next_token (d.consumed ++ fewest there)) ≡ Some n.name =
    ap (λ (ls : List LocatedToken). name_of_token (next_token ls)) whole ∙ named_found (next_at at).token n in
    let rest : fewest there ≡ drop 1 (d.consumed ++ fewest there) =
    name_runs p.steps role n.name (d.consumed ++ fewest there) (fewest there) [] (left ++ []) (scope_at at)
    (scope_at there) [] sound found p.leads in
    first_of (next_at there) _ _ at.lookahead.cursor.after (rest ∙ ap (λ (ls : List LocatedToken). drop 1 ls) whole)
