-- The positions of all instructions, token by token.
use Rattle.std.proofs.Common.{◌≡◌, ℕ, ◌+◌, ◌<◌, List, [], ◌∷◌, ◌++◌, refl, sym, ap, ◌∙◌, subst, Bool, true, false, arith, drop}
use Rattle.std.specs.Prelude.{◌^◌, Some, Option, option_map, if◌then◌else◌}
use Rattle.tokens.specs.Cursors.{Cursor, shown, tokens_after_lookahead}
use Rattle.tokens.specs.Tokens.{followed_by, is_last, tokens}
use Rattle.tokens.specs.declared.located_tokens.LocatedToken.{LocatedToken}
use Rattle.tokens.specs.declared.located_tokens.Token.{Token}
use Rattle.tokens.specs.declared.located_tokens.Token.TheVariants as token
use Rattle.grammar.specs.Grammar.{is_lexical_error, Part, Source}
use Rattle.grammar.specs.Profile.{Profile}
use Rattle.derivations.specs.Columns.{column_at, position_in, positions_behind, start_of, token_positions}
use Rattle.derivations.specs.Positions.{ArePositions, last_position, mark, nowhere, positions_within, walk_start}
use Rattle.derivations.specs.Stacks.{items_of, marks_of, position_of}
use Rattle.derivations.specs.Walks.{AreNext, IsLocated, Passes, PassesToken, Reaches, walk_at}
use Rattle.derivations.specs.declared.addresses.SourcePosition.{SourcePosition}
use Rattle.derivations.specs.declared.locations.Located.{Located}
use Rattle.derivations.specs.declared.steps.Automaton.{Automaton}

-- the tokens left are a source's, and so are their positions
pub record AreLeft (bytes : List ℕ) (rest : List LocatedToken) (left : List SourcePosition) (next : LocatedToken)
    (located : Located) : Type 0 where
  pub others : left ≡ position_of located ∷ positions_behind bytes next.end (drop 1 rest)
  pub last : last_position left ≡ last_position (token_positions bytes)

-- some tokens of a source were passed, and the cursor is at the next one
pub record Proceeds (profile : Profile) (bytes : List ℕ) (i : ℕ) (cursor : Cursor) (to_come : List ℕ)
    (next : Located) (automaton : Automaton) (found : List SourcePosition) : Type 0 where
  pub steps : ℕ
  pub reaches : Reaches profile (tokens bytes) (token_positions bytes) steps automaton found
  pub shows : shown cursor (Some to_come) ≡ Some (walk_at (tokens bytes) (token_positions bytes) steps).state.rest
  pub token_is : next.token ≡ cursor.next.token
  pub left : AreLeft bytes (walk_at (tokens bytes) (token_positions bytes) steps).state.rest
      (walk_at (tokens bytes) (token_positions bytes) steps).positions cursor.next next
  pub place : automaton.place ≡ i

last_is_end : (t : Token) → is_last t ≡ true → is_lexical_error t ≡ false → t ≡ token.End
last_is_end token.End e h = refl
last_is_end (token.Fault lexical_error) e h = absurd cc
last_is_end (token.Name name) e h = absurd cc
last_is_end (token.Keyword w) e h = absurd cc
last_is_end (token.Constant value) e h = absurd cc
last_is_end (token.Punctuator m) e h = absurd cc

pub unwrapped : (xs ys : List LocatedToken) → Some xs ≡ Some ys → xs ≡ ys
unwrapped xs ys e = cc

one_left : (t : LocatedToken) (others rest : List LocatedToken) → is_last t.token ≡ true →
    Some (followed_by t others) ≡ Some rest → rest ≡ t ∷ []
one_left t others rest e h =
    sym (unwrapped (followed_by t others) rest h)
    ∙ ap (λ (b : Bool). t ∷ (if b then [] else others)) e

more_left : (t : LocatedToken) (others rest : List LocatedToken) → is_last t.token ≡ false →
    Some (followed_by t others) ≡ Some rest → rest ≡ t ∷ others
more_left t others rest e h =
    sym (unwrapped (followed_by t others) rest h)
    ∙ ap (λ (b : Bool). t ∷ (if b then [] else others)) e

-- a token was located
pub located_here : (source : List ℕ) (behind : ℕ) (t u : LocatedToken) (located : Located) → t ≡ u →
    located.token ≡ t.token → located.line ≡ t.line →
    located.column ≡ column_at source (start_of source behind t) → IsLocated located u (position_in source behind u)
located_here source behind t u located same token line column = record {
  token_is = token ∙ ap (λ (x : LocatedToken). x.token) same;
  position_is = let is : position_of located ≡ position_in source behind t = cc (line, column) in
      is ∙ ap (λ (x : LocatedToken). position_in source behind x) same;
}

-- the first one
pub located_first : (bytes source : List ℕ) (behind : ℕ) (u : LocatedToken) (located : Located) → source ≡ bytes →
    behind ≡ 0 → IsLocated located u (position_in source behind u) → IsLocated located u (position_in bytes 0 u)
located_first bytes source behind u located e f at = record {
  token_is = at.token_is;
  position_is = at.position_is ∙ ap (λ (l : List ℕ). position_in l behind u) e
      ∙ ap (λ (k : ℕ). position_in bytes k u) f;
}

-- and a further one
pub located_next : (bytes source : List ℕ) (behind : ℕ) (t u : LocatedToken) (located : Located) → source ≡ bytes →
    behind ≡ t.end → IsLocated located u (position_in source behind u) →
    IsLocated located u (position_in bytes t.end u)
located_next bytes source behind t u located e f at = record {
  token_is = at.token_is;
  position_is = at.position_is ∙ ap (λ (l : List ℕ). position_in l behind u) e
      ∙ ap (λ (k : ℕ). position_in bytes k u) f;
}

first_left : (bytes : List ℕ) (t : LocatedToken) (others : List LocatedToken) (next : Located) (ts : List LocatedToken)
    →
    Some (followed_by t others) ≡ Some ts → position_of next ≡ position_in bytes 0 t →
    positions_behind bytes 0 ts ≡ position_of next ∷ positions_behind bytes t.end (drop 1 ts)
first_left bytes t others next ts e at =
    let is : followed_by t others ≡ ts = unwrapped (followed_by t others) ts e in
    ap (λ (l : List LocatedToken). positions_behind bytes 0 l) (sym is)
    ∙ ap (λ (p : SourcePosition). p ∷ positions_behind bytes t.end (drop 1 (followed_by t others))) (sym at)
    ∙ ap (λ (l : List LocatedToken). position_of next ∷ positions_behind bytes t.end (drop 1 l)) is

-- no token was passed yet
pub opens : (profile : Profile) (bytes : List ℕ) (cursor : Cursor) (to_come : List ℕ) (next : Located)
    (automaton : Automaton) → shown cursor (Some to_come) ≡ Some (tokens bytes) →
    IsLocated next cursor.next (position_in bytes 0 cursor.next) →
    items_of automaton.stack.items ≡ Part Source ∷ [] → marks_of automaton.stack.items ≡ mark nowhere nowhere ∷ [] →
    automaton.place ≡ 0 → automaton.passed ≡ nowhere → (found : List SourcePosition) →
    found ≡ [] → Proceeds profile bytes 0 cursor to_come next automaton found
opens profile bytes cursor to_come next automaton e at items marks place passed found none = record {
  steps = 0;
  reaches = record { at = record { items = items; marks = marks; passed = passed }; made = none };
  shows = e;
  token_is = at.token_is;
  left = record { others = first_left bytes cursor.next _ next (tokens bytes) e at.position_is; last = refl };
  place = place;
}

pub one_next : (t : LocatedToken) (next : Located) → next.token ≡ t.token → is_last t.token ≡ true →
    AreNext next next (t ∷ []) (position_of next ∷ [])
one_next t next is e = record {
  next_is = sym is;
  after_is = λ sound. sym (last_is_end next.token (ap is_last is ∙ e) sound);
  position_is = refl;
  position_after_is = refl;
}

pub two_next : (t u : LocatedToken) (others : List LocatedToken) (next after : Located) (p : SourcePosition)
    (ps : List SourcePosition) → next.token ≡ t.token → IsLocated after u p →
    AreNext next after (t ∷ u ∷ others) (position_of next ∷ p ∷ ps)
two_next t u others next after p ps is behind = record {
  next_is = sym is;
  after_is = λ sound. sym behind.token_is;
  position_is = refl;
  position_after_is = sym behind.position_is;
}

pub are_next : (next after : Located) (rest rest' : List LocatedToken) (left left' : List SourcePosition) →
    rest ≡ rest' →
    left ≡ left' → AreNext next after rest' left' → AreNext next after rest left
are_next next after rest rest' left left' e f are =
    subst (λ (l : List SourcePosition). AreNext next after rest l) (sym f)
    (subst (λ (l : List LocatedToken). AreNext next after l left') (sym e) are)

pub record IsOnly (cursor : Cursor) (rest : List LocatedToken) (left : List SourcePosition) (next : Located) : Type 0
  where
    pub tokens_is : rest ≡ cursor.next ∷ []
    pub positions_is : left ≡ position_of next ∷ []

-- the last token is next
pub is_only : (bytes : List ℕ) (cursor : Cursor) (to_come : List ℕ) (rest : List LocatedToken)
    (left : List SourcePosition)
    (next : Located) → shown cursor (Some to_come) ≡ Some rest → AreLeft bytes rest left cursor.next next →
    is_last cursor.next.token ≡ true → IsOnly cursor rest left next
is_only bytes cursor to_come rest left next e are last =
    let one : rest ≡ cursor.next ∷ [] = one_left cursor.next _ rest last e in
    record {
      tokens_is = one;
      positions_is = are.others ∙ ap (λ (l : List LocatedToken). position_of next
          ∷ positions_behind bytes cursor.next.end (drop 1 l)) one;
    }

pub record IsFirst (bytes : List ℕ) (cursor : Cursor) (others : List LocatedToken) (rest : List LocatedToken)
    (left : List SourcePosition) (next after : Located) : Type 0 where
  pub tokens_is : rest ≡ cursor.next ∷ cursor.after ∷ others
  pub positions_is : left ≡ position_of next ∷ position_of after ∷ positions_behind bytes cursor.after.end others

pub others_of : Cursor → List ℕ → List LocatedToken
others_of cursor to_come =
    if is_last cursor.after.token then [] else tokens_after_lookahead cursor.window to_come

-- another token comes after it
pub is_first : (bytes : List ℕ) (cursor : Cursor) (to_come : List ℕ) (rest : List LocatedToken)
    (left : List SourcePosition)
    (next after : Located) → shown cursor (Some to_come) ≡ Some rest → AreLeft bytes rest left cursor.next next →
    IsLocated after cursor.after (position_in bytes cursor.next.end cursor.after) → is_last cursor.next.token ≡ false →
    IsFirst bytes cursor (others_of cursor to_come) rest left next after
unfolding others_of
is_first bytes cursor to_come rest left next after e are behind other =
    let two : rest ≡ cursor.next ∷ cursor.after ∷ others_of cursor to_come = more_left cursor.next _ rest other e in
    record {
      tokens_is = two;
      positions_is = are.others
          ∙ ap (λ (l : List LocatedToken). position_of next ∷ positions_behind bytes cursor.next.end (drop 1 l)) two
          ∙ ap (λ (p : SourcePosition). position_of next ∷ p
          ∷ positions_behind bytes cursor.after.end (others_of cursor to_come)) (sym behind.position_is);
    }

-- past the last token all positions are known
pub all_found : (profile : Profile) (bytes : List ℕ) (i : ℕ) (cursor : Cursor) (to_come : List ℕ) (next : Located)
    (before automaton : Automaton) (kept found : List SourcePosition) (end : SourcePosition) →
    Proceeds profile bytes i cursor to_come next before kept → is_last cursor.next.token ≡ true →
    Passes profile before kept next next automaton found → i + 1 < 2 ^ 64 → end ≡ position_of next →
    ArePositions profile (tokens bytes) (token_positions bytes) (found ++ end ∷ [])
all_found profile bytes i cursor to_come next before automaton kept found end p last passes few at_end =
    let rest : List LocatedToken = (walk_at (tokens bytes) (token_positions bytes) p.steps).state.rest in
    let left : List SourcePosition = (walk_at (tokens bytes) (token_positions bytes) p.steps).positions in
    let only : IsOnly cursor rest left next = is_only bytes cursor to_come rest left next p.shows p.left last in
    let are : AreNext next next rest left = are_next next next rest _ left _ only.tokens_is only.positions_is
    (one_next cursor.next next p.token_is last) in
    let on : PassesToken profile (tokens bytes) (token_positions bytes) p.steps automaton found =
    (passes (tokens bytes) (token_positions bytes) p.steps p.reaches are (omega (arith, p.place, few))).0 in
    record {
      steps = on.steps;
      all = on.rest ∙ ap (λ (l : List LocatedToken). drop 1 l) only.tokens_is;
      made = ap (λ (l : List SourcePosition). l ++ end ∷ []) on.reaches.made
          ∙ ap (λ (x : SourcePosition). positions_within profile on.steps
          (walk_start (tokens bytes) (token_positions bytes)) ++ x ∷ [])
          (at_end ∙ sym (ap last_position only.positions_is) ∙ p.left.last);
    }

-- past any other token the next one is
pub proceeds : (profile : Profile) (bytes : List ℕ) (i : ℕ) (cursor cursor' : Cursor) (to_come to_come' : List ℕ)
    (next after : Located) (before automaton : Automaton) (kept found : List SourcePosition) →
    Proceeds profile bytes i cursor to_come next before kept → is_last cursor.next.token ≡ false →
    IsLocated after cursor.after (position_in bytes cursor.next.end cursor.after) →
    Passes profile before kept next after automaton found → i + 1 < 2 ^ 64 → cursor'.next ≡ cursor.after →
    shown cursor' (Some to_come') ≡ option_map (drop 1) (shown cursor (Some to_come)) →
    Proceeds profile bytes (i + 1) cursor' to_come' after automaton found
proceeds profile bytes i cursor cursor' to_come to_come' next after before automaton kept found p other behind passes
    few
    same e =
    let rest : List LocatedToken = (walk_at (tokens bytes) (token_positions bytes) p.steps).state.rest in
    let left : List SourcePosition = (walk_at (tokens bytes) (token_positions bytes) p.steps).positions in
    let more : List LocatedToken = others_of cursor to_come in
    let two : IsFirst bytes cursor more rest left next after =
    is_first bytes cursor to_come rest left next after p.shows p.left behind other in
    let are : AreNext next after rest left = are_next next after rest _ left _ two.tokens_is two.positions_is
    (two_next cursor.next cursor.after more next after (position_of after) _ p.token_is
    (record { token_is = behind.token_is; position_is = refl })) in
    let on = passes (tokens bytes) (token_positions bytes) p.steps p.reaches are (omega (arith, p.place, few)) in
    record {
      steps = on.0.steps;
      reaches = on.0.reaches;
      shows = e ∙ ap (λ (o : Option (List LocatedToken)). option_map (drop 1) o) p.shows
          ∙ ap (λ (l : List LocatedToken). Some l) (sym on.0.rest);
      token_is = behind.token_is ∙ ap (λ (t : LocatedToken). t.token) (sym same);
      left = record {
        others = on.0.left ∙ ap (λ (l : List SourcePosition). drop 1 l) two.positions_is
            ∙ ap (λ (t : LocatedToken). position_of after ∷ positions_behind bytes t.end more) (sym same)
            ∙
            sym (ap (λ (l : List LocatedToken). position_of after ∷ positions_behind bytes cursor'.next.end (drop 1 l))
            (on.0.rest ∙ ap (λ (l : List LocatedToken). drop 1 l) two.tokens_is));
        last = ap last_position (on.0.left ∙ ap (λ (l : List SourcePosition). drop 1 l) two.positions_is)
            ∙ sym (ap last_position two.positions_is) ∙ p.left.last;
      };
      place = on.1 ∙ ap (λ (k : ℕ). k + 1) p.place;
    }
