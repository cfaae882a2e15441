-- How many bytes were taken from the device.
use Rattle.std.proofs.Common.{◌≡◌, refl, ℕ, zero, suc, ◌+◌, ◌*◌, ◌-◌, ◌<◌, ◌≤◌, Bool, true, false, cond, Option, Some, None, Result, Ok, Err, List, [], ◌∷◌, ◌++◌, length, take, sym, ap, ◌∙◌, arith, subst}
use Rattle.std.specs.Prelude.{IsErrAnd, OnErr, fold, nat_le}
use Rattle.std.specs.List.{prefix_len}
use Rattle.std.proofs.lemmas.Option.{same_Some}
use Rattle.tokens.specs.Feed.{failed_again}
use Rattle.tokens.specs.Device.{FailureCount, Device}
use Rattle.tokens.specs.Punctuators.{punctuator_of, spelling}
use Rattle.tokens.specs.Keywords.{keyword_of}
use Rattle.tokens.specs.Ends.{is_decided_by_last_byte, undecided_until}
use Rattle.tokens.specs.InputElement.{InputElement, Nothing, Space, Unclosed, Lexeme, input_element, up_to_close, begins_with, name_or}
use Rattle.tokens.specs.Tokens.{UnreadSource, ahead_after_byte, ahead_after, at_end, located, last_located_token, tokens_within, tokens_of_element, located_tokens}
use Rattle.tokens.specs.Cursors.{FitsToken}
use Rattle.tokens.specs.Window.{LeavesAsked, Window, TakesBytes, HasReadOn, KnowsEnd, SkipsBytes, ahead}
use Rattle.tokens.specs.Lexing.{to_read, followed, token_ending, in_token_span, name_going_on, constant_going_on, value_token, in_punctuator, extended, in_comment, closed_at, LeavesUnread, StopsWithin, FindsToken, IsFound, IsRead, ReadsToken}
use Rattle.tokens.specs.declared.devices.DeviceFault.{DeviceFault}
use Rattle.tokens.specs.declared.located_tokens.Punctuator.{Punctuator}
use Rattle.tokens.specs.declared.located_tokens.Punctuator.TheVariants.{Slash}
use Rattle.tokens.specs.declared.located_tokens.LexicalError.TheVariants.{CommentNotClosed, ConstantTooLarge, NameTooLong, SourceTooLong}
use Rattle.tokens.specs.declared.located_tokens.Token.{Token}
use Rattle.tokens.specs.declared.located_tokens.Keyword.{Keyword}
use Rattle.tokens.specs.declared.located_tokens.Token.TheVariants as variant
use Rattle.tokens.specs.declared.located_tokens.LocatedToken.{LocatedToken}
use Rattle.tokens.proofs.LocatedTokensLemmas.{IsPiece, input_element-is_piece}
use Rattle.tokens.proofs.CommentLemmas.{in_star}
use Rattle.tokens.proofs.BeginLemmas.{in_slash}

pub TakesBytes-then : {old mid new : ℕ} {to_come to_come' to_come'' : Option (List ℕ)} →
    TakesBytes old mid to_come to_come' →
    TakesBytes mid new to_come' to_come'' → TakesBytes old new to_come to_come''
TakesBytes-then f g = record { rest = λ total e. g.rest total (f.rest total e) }

-- nothing is taken if the window goes on
pub TakesBytes-pass : {old mid new : ℕ} {to_come to_come' : Option (List ℕ)} → new ≡ mid →
    TakesBytes old mid to_come to_come' →
    TakesBytes old new to_come to_come'
TakesBytes-pass {old} {mid} {new} {to_come} {to_come'} e f =
    subst (λ (n : ℕ). TakesBytes old n to_come to_come') (sym e) f

-- a window went on, or stayed, as in `HasReadOn`: but for what is true of every window
pub record HasGoneOn (old new : Window) (before after : Device) : Type 0 where
  pub took : TakesBytes old.taken new.taken before.to_come after.to_come
  pub forward : old.offset ≤ new.offset
  pub count : after.account ≡ before.account
  pub known : KnowsEnd new.beyond after.ended

-- over bytes at hand
pub HasGoneOn-skip : {old mid new : Window} {before after : Device} → SkipsBytes mid new →
    HasGoneOn old mid before after → HasGoneOn old new before after
HasGoneOn-skip skips on = record {
  took = TakesBytes-pass skips.taken on.took;
  forward = omega (arith, on.forward, skips.forward);
  count = on.count;
  known = λ e. on.known (sym skips.beyond ∙ e);
}

pub HasGoneOn-first : {old new : Window} {device : Device} → SkipsBytes old new → KnowsEnd old.beyond device.ended →
    HasGoneOn old new device device
HasGoneOn-first skips known =
    HasGoneOn-skip skips
    (record { took = record { rest = λ total e. e }; forward = omega arith; count = refl; known = known })

-- by a call that may have asked
pub HasGoneOn-then : {old mid new : Window} {before between after : Device} →
    HasReadOn mid new between.to_come after.to_come between.account after.account after.ended →
    HasGoneOn old mid before between → HasGoneOn old new before after
HasGoneOn-then asks on = record {
  took = TakesBytes-then on.took asks.took;
  forward = omega (arith, on.forward, asks.forward);
  count = asks.count ∙ on.count;
  known = asks.known;
}

-- a window that went on goes on
goes_on : {old mid new : Window} {before between : Device} {to_come : Option (List ℕ)}
    {counted counted' account : FailureCount} {ended : Bool} → HasGoneOn old mid before between → counted' ≡ counted →
    HasReadOn mid new between.to_come to_come counted' account ended →
    HasReadOn old new before.to_come to_come counted account ended
goes_on on count asks = record {
  took = TakesBytes-then on.took asks.took;
  forward = omega (arith, on.forward, asks.forward);
  near = asks.near;
  limited = asks.limited;
  within = asks.within;
  count = asks.count ∙ count;
  known = asks.known;
}

pub then-asks : {T : Type 0} (r : Result T DeviceFault) {old mid : Window} {before between : Device} (new : Window)
    (to_come : Option (List ℕ)) (account : FailureCount) (ended : Bool) → HasGoneOn old mid before between →
    LeavesAsked r mid new between.to_come to_come between.account account ended →
    LeavesAsked r old new before.to_come to_come before.account account ended
then-asks (Ok x) new to_come account ended on asks = goes_on on on.count asks
then-asks (Err x) new to_come account ended on asks = goes_on on (ap failed_again on.count) asks

-- and may fail then
pub then-fails : {T : Type 0} (r : Result T DeviceFault) (P : DeviceFault → Type 0) → IsErrAnd r P →
    {old mid new : Window} {before between : Device} {to_come : Option (List ℕ)} {account : FailureCount}
    {ended : Bool} → HasGoneOn old mid before between →
    HasReadOn mid new between.to_come to_come (failed_again between.account) account ended →
    LeavesAsked r old new before.to_come to_come before.account account ended
then-fails (Ok x) P h on asks = absurd h
then-fails (Err x) P h on asks = goes_on on (ap failed_again on.count) asks

-- what a call that failed leaves
pub on_err-from : {T E P : Type 0} (r : Result T E) → P → OnErr r P
on_err-from (Ok x) p = tt
on_err-from (Err x) p = p

-- the first token is undecided at its beginning
pub record EndsBehind (made : UnreadSource → List LocatedToken) : Type 0 where
  pub ends : (a : UnreadSource) (first : LocatedToken) (others : List LocatedToken) → made a ≡ first ∷ others →
      a.offset ≤ undecided_until first

same_first : (x first : LocatedToken) (xs others : List LocatedToken) → x ∷ xs ≡ first ∷ others → x ≡ first
same_first x first xs others e = cc

at_most : (offset : ℕ) (x first : LocatedToken) (xs others : List LocatedToken) → offset ≤ undecided_until x →
    x ∷ xs ≡ first ∷ others → offset ≤ undecided_until first
at_most offset x first xs others h e = omega (arith, h, ap undecided_until (same_first x first xs others e))

-- a token of at least a byte is undecided at its beginning, and so is any other that isn't decided by its last byte
pub open-located : (token : Token) (count : ℕ) (a : UnreadSource) → 0 < count →
    a.offset ≤ undecided_until (located token count a)
open-located token count a h = by (is_decided_by_last_byte token)
  where
    by : (t : Bool) → a.offset ≤ cond t (a.offset + count - 1) (a.offset + count)
    by true = omega (arith, h)
    by false = omega arith

open-undecided : (token : Token) (count : ℕ) (a : UnreadSource) → is_decided_by_last_byte token ≡ false →
    a.offset ≤ undecided_until (located token count a)
open-undecided token count a h = by (is_decided_by_last_byte token) h
  where
    by : (t : Bool) → t ≡ false → a.offset ≤ cond t (a.offset + count - 1) (a.offset + count)
    by true h = absurd cc
    by false h = omega arith

offset-ahead_after_byte : (a : UnreadSource) → a.offset ≤ (ahead_after_byte a).offset
offset-ahead_after_byte a = by a.line a.offset a.bytes a.too_long
  where
    by : (line offset : ℕ) (xs : List ℕ) (t : Bool) → let b : UnreadSource =
        record { line = line; offset = offset; bytes = xs; too_long = t } in offset ≤ (ahead_after_byte b).offset
    by line offset [] t = omega arith
    by line offset (x ∷ xs) t = omega arith

pub offset-ahead_after : (n : ℕ) (a : UnreadSource) → a.offset ≤ (ahead_after n a).offset
offset-ahead_after zero a = omega arith
offset-ahead_after (suc n) a = omega (arith, offset-ahead_after_byte a, offset-ahead_after n (ahead_after_byte a))

pub last-open : (token : Token) (line : ℕ) (end : UnreadSource) → is_decided_by_last_byte token ≡ false →
    end.offset ≤ undecided_until (last_located_token token line end)
last-open token line end h = by end.too_long
  where
    here : (u : Bool) → u ≡ false → end.offset ≤ cond u (end.offset - 1) end.offset
    here true h = absurd cc
    here false h = omega arith

    by : (t : Bool) →
        end.offset ≤
        undecided_until
        (cond t
        (let x : LocatedToken =
        record { token = variant.Fault SourceTooLong; line = end.line; end = end.offset + 1 } in
        x) (let x : LocatedToken = record { token = token; line = line; end = end.offset } in x))
    by true = omega arith
    by false = here (is_decided_by_last_byte token) h

pub last-window_after : (token : Token) (line : ℕ) (end : UnreadSource) →
    end.offset ≤ (last_located_token token line end).end
last-window_after token line end = by end.too_long
  where
    by : (t : Bool) →
        end.offset ≤
        (cond t
        (let x : LocatedToken =
        record { token = variant.Fault SourceTooLong; line = end.line; end = end.offset + 1 } in
        x) (let x : LocatedToken = record { token = token; line = line; end = end.offset } in x)).end
    by true = omega arith
    by false = omega arith

last-ends : (offset : ℕ) (token : Token) (line : ℕ) (a : UnreadSource) (first : LocatedToken)
    (others : List LocatedToken) →
    is_decided_by_last_byte token ≡ false → offset ≤ a.offset →
    last_located_token token line (at_end a) ∷ [] ≡ first ∷ others → offset ≤ undecided_until first
last-ends offset token line a first others u h e =
    at_most offset _ first [] others
    (omega (arith, h, last-open token line (at_end a) u, offset-ahead_after (length a.bytes) a)) e

tokens_within-ends : (n : ℕ) (a : UnreadSource) (first : LocatedToken) (others : List LocatedToken) →
    tokens_within n a ≡ first ∷ others →
    a.offset ≤ undecided_until first
tokens_within-ends zero a first others e = absurd cc
tokens_within-ends (suc n) a first others e =
    by (input_element a.bytes) (input_element-is_piece a.bytes)
    (λ count. tokens_within-ends n (ahead_after count a) first others) e
  where
    by : (f : InputElement) → IsPiece f →
        ((count : ℕ) → tokens_within n (ahead_after count a) ≡ first ∷ others →
        (ahead_after count a).offset ≤ undecided_until first) →
        tokens_of_element f a (tokens_within n) ≡ first ∷ others → a.offset ≤ undecided_until first
    by Nothing p h e = last-ends a.offset variant.End a.line a first others refl (omega arith) e
    by Unclosed p h e = last-ends a.offset (variant.Fault CommentNotClosed) a.line a first others refl (omega arith) e
    by (Space count) p h e = omega (arith, h count e, offset-ahead_after count a)
    by (Lexeme sign count) p h e =
        at_most a.offset (located sign count a) first _ others (open-located sign count a p) e

pub located_tokens-end : EndsBehind located_tokens
unfolding located_tokens
located_tokens-end = record { ends = λ a. tokens_within-ends (suc (length a.bytes)) a }

pub in_token_span-ends : (test : ℕ → Bool) (token_of : List ℕ → Token) →
    ((bytes : List ℕ) → is_decided_by_last_byte (token_of bytes) ≡ false) → EndsBehind (in_token_span test token_of)
unfolding in_token_span followed
in_token_span-ends test token_of u =
    record {
      ends =
          λ a first others e. at_most a.offset
          (located (token_of (take (prefix_len test a.bytes) a.bytes)) (prefix_len test a.bytes) a) first _ others
          (open-undecided _ (prefix_len test a.bytes) a (u (take (prefix_len test a.bytes) a.bytes))) e;
    }

-- a name isn't decided by its last byte, nor is a constant
pub name-undecided : (name : List ℕ) (too_long : Bool) (more : List ℕ) →
    is_decided_by_last_byte (name_going_on name too_long more) ≡ false
name-undecided name true more = refl
name-undecided name false more = by (nat_le (length (name ++ more)) 31) (keyword_of (name ++ more))
  where
    by : (t : Bool) (w : Option Keyword) →
        is_decided_by_last_byte (cond t (name_or (name ++ more) w) (variant.Fault NameTooLong)) ≡ false
    by true None = refl
    by true (Some word) = refl
    by false w = refl

pub constant-undecided : (value : ℕ) (more : List ℕ) → is_decided_by_last_byte (constant_going_on value more) ≡ false
constant-undecided value more = by (fold (λ value digit. 10 * value + (digit - 48)) value more)
  where
    by : (n : ℕ) → is_decided_by_last_byte (value_token n) ≡ false
    by n = either (nat_le n 2147483647)
      where
        either : (t : Bool) →
            is_decided_by_last_byte (cond t (variant.Constant n) (variant.Fault ConstantTooLarge)) ≡ false
        either true = refl
        either false = refl

extended-ends : (punctuator : Punctuator) (bytes : List ℕ) (a : UnreadSource) (first : LocatedToken)
    (others : List LocatedToken)
    → extended punctuator bytes a ≡ first ∷ others → a.offset ≤ undecided_until first
unfolding followed
extended-ends punctuator [] a first others e =
    at_most a.offset (token_ending (variant.Punctuator punctuator) a) first _ others (omega arith) e
extended-ends punctuator (b ∷ rest) a first others e =
    by (punctuator_of (spelling punctuator ++ b ∷ []))
    (λ longer. extended-ends longer rest (ahead_after_byte a) first others) e
  where
    by : (o : Option Punctuator) →
        ((longer : Punctuator) → extended longer rest (ahead_after_byte a) ≡ first ∷ others →
        (ahead_after_byte a).offset ≤ undecided_until first) →
        elim o [
          | None ↦ followed (token_ending (variant.Punctuator punctuator) a) a
          | Some longer ↦ extended longer rest (ahead_after_byte a)
        ] ≡ first ∷ others → a.offset ≤ undecided_until first
    by None h e = at_most a.offset (token_ending (variant.Punctuator punctuator) a) first _ others (omega arith) e
    by (Some longer) h e = omega (arith, h longer e, offset-ahead_after_byte a)

pub in_punctuator-ends : (punctuator : Punctuator) → EndsBehind (in_punctuator punctuator)
unfolding in_punctuator
in_punctuator-ends punctuator = record { ends = λ a. extended-ends punctuator a.bytes a }

pub in_comment-ends : (line : ℕ) → EndsBehind (in_comment line)
unfolding in_comment
in_comment-ends line = record { ends = λ a first others. by a first others (up_to_close a.bytes) }
  where
    by : (a : UnreadSource) (first : LocatedToken) (others : List LocatedToken) (o : Option ℕ) →
        closed_at o line a ≡ first ∷ others → a.offset ≤ undecided_until first
    by a first others None e =
        last-ends a.offset (variant.Fault CommentNotClosed) line a first others refl (omega arith) e
    by a first others (Some count) e =
        omega (arith, located_tokens-end.ends (ahead_after count a) first others e, offset-ahead_after count a)

either-ends : (t : Bool) (offset : ℕ) (xs ys : List LocatedToken) (first : LocatedToken) (others : List LocatedToken) →
    (xs ≡ first ∷ others → offset ≤ undecided_until first) → (ys ≡ first ∷ others → offset ≤ undecided_until first) →
    cond t xs ys ≡ first ∷ others → offset ≤ undecided_until first
either-ends true offset xs ys first others f g e = f e
either-ends false offset xs ys first others f g e = g e

pub in_star-ends : (line : ℕ) → EndsBehind (in_star line)
unfolding in_star
in_star-ends line = record {
  ends = λ a first others. either-ends (begins_with 47 a.bytes) a.offset _ _ first others
      (λ e. omega (arith, located_tokens-end.ends (ahead_after_byte a) first others e, offset-ahead_after_byte a))
      ((in_comment-ends line).ends a first others);
}

pub in_slash-ends : (line : ℕ) → EndsBehind (in_slash line)
unfolding in_slash
in_slash-ends line = record {
  ends = λ a first others. either-ends (begins_with 42 a.bytes) a.offset _ _ first others
      (λ e. omega (arith, (in_comment-ends line).ends (ahead_after_byte a) first others e, offset-ahead_after_byte a))
      ((in_punctuator-ends Slash).ends a first others);
}

-- a read that failed took nothing after the offset that was reached
pub stops : (made : UnreadSource → List LocatedToken) → EndsBehind made →
    (here new : Window) (to_come : Option (List ℕ)) →
    new.taken ≡ new.offset → new.offset ≡ here.offset → StopsWithin made here new to_come
unfolding to_read
stops made ends here new None t p = λ first others e. absurd cc
stops made ends here new (Some to_come) t p =
    λ first others e. omega (arith, ends.ends (ahead here to_come) first others (same_Some _ _ e))

pub stops-from : (made made' : UnreadSource → List LocatedToken) (here old new : Window)
    (to_come to_come' : Option (List ℕ)) →
    to_read made here to_come' ≡ to_read made' old to_come → StopsWithin made here new to_come' →
    StopsWithin made' old new to_come
stops-from made made' here old new to_come to_come' s f = λ first others e. f first others (s ∙ e)

-- nor did it put a token
pub fails-from : (made made' : UnreadSource → List LocatedToken) (here old new : Window)
    (to_come to_come' : Option (List ℕ))
    {located_token mid_token new_token : LocatedToken} → to_read made here to_come' ≡ to_read made' old to_come →
    mid_token ≡ located_token → LeavesUnread made here new to_come' mid_token new_token →
    LeavesUnread made' old new to_come located_token new_token
fails-from made made' here old new to_come to_come' s h f =
    record { within = stops-from made made' here old new to_come to_come' s f.within; unread = f.unread ∙ h }

-- a token that ends here was found
pub found-here : (here : LocatedToken) (token : Token) (window : Window) →
    here ≡ (record { token = token; line = window.line; end = window.offset }) → FitsToken token → IsFound here window
found-here here token window e fits = record {
  reached = omega (arith, ap (λ x. x.end) e);
  fits = subst (λ (x : LocatedToken). FitsToken x.token) (sym e) fits;
}

-- and read, if the window went on
pub found-reads : (here : LocatedToken) (old new : Window) → old.offset < new.offset → IsFound here new →
    IsRead here old new
found-reads here old new forward found =
    record { progress = λ e. forward; reached = found.reached; fits = found.fits }

-- what finds a token after its first byte reads it
pub finds-reads : {T : Type 0} (r : Result T DeviceFault) (inside : UnreadSource → List LocatedToken)
    (old mid new : Window)
    (before after : Device) (here here' : LocatedToken) →
    to_read inside mid before.to_come ≡ to_read located_tokens old before.to_come → old.offset < mid.offset →
    LeavesAsked r mid new before.to_come after.to_come before.account after.account after.ended →
    FindsToken r inside mid new before after here here' → ReadsToken r old new before after here here'
finds-reads (Ok x) inside old mid new before after here here' same forward asks finds = record {
  tokens = finds.tokens ∙ same;
  read = found-reads here' old new (omega (arith, forward, asks.forward)) finds.found;
}
finds-reads (Err x) inside old mid new before after here here' same forward asks finds =
    fails-from inside located_tokens mid old new before.to_come before.to_come same refl finds

-- what reads a token after blanks reads it from before them
pub then-reads : {T : Type 0} (r : Result T DeviceFault) (old mid new : Window) (before between after : Device)
    (here mid_here new_here : LocatedToken) →
    to_read located_tokens mid between.to_come ≡ to_read located_tokens old before.to_come →
    old.offset ≤ mid.offset → mid_here ≡ here → ReadsToken r mid new between after mid_here new_here →
    ReadsToken r old new before after here new_here
then-reads (Ok x) old mid new before between after here mid_here new_here same forward stays reads = record {
  tokens = reads.tokens ∙ same;
  read = record {
    progress = λ e. omega (arith, forward, reads.read.progress e);
    reached = reads.read.reached;
    fits = reads.read.fits;
  };
}
then-reads (Err x) old mid new before between after here mid_here new_here same forward stays reads =
    fails-from located_tokens located_tokens mid old new before.to_come between.to_come same stays reads

-- a call that failed neither finds a token nor reads one
pub fails-finds : {T : Type 0} (r : Result T DeviceFault) (P : DeviceFault → Type 0) → IsErrAnd r P →
    (inside : UnreadSource → List LocatedToken) (old new : Window) (before after : Device) (here here' : LocatedToken) →
    LeavesUnread inside old new before.to_come here here' → FindsToken r inside old new before after here here'
fails-finds (Ok x) P h inside old new before after here here' left = absurd h
fails-finds (Err x) P h inside old new before after here here' left = left

-- as one that asked in vain
pub asks-in-vain : {T : Type 0} (r : Result T DeviceFault) (P : DeviceFault → Type 0) → IsErrAnd r P →
    (inside now : UnreadSource → List LocatedToken) → EndsBehind now → (old mid new : Window)
    (before between after : Device) (here here' : LocatedToken) →
    to_read now mid between.to_come ≡ to_read inside old before.to_come → new.taken ≡ new.offset →
    new.offset ≡ mid.offset → here' ≡ here → FindsToken r inside old new before after here here'
asks-in-vain r P h inside now ends old mid new before between after here here' same taken stays unread =
    fails-finds r P h inside old new before after here here' (record {
      within = stops-from now inside mid old new before.to_come between.to_come same
          (stops now ends mid new between.to_come taken stays);
      unread = unread;
    })

pub fails-reads : {T : Type 0} (r : Result T DeviceFault) (P : DeviceFault → Type 0) → IsErrAnd r P →
    (old new : Window) (before after : Device) (here here' : LocatedToken) →
    LeavesUnread located_tokens old new before.to_come here here' → ReadsToken r old new before after here here'
fails-reads (Ok x) P h old new before after here here' left = absurd h
fails-reads (Err x) P h old new before after here here' left = left

-- so was a name that ends here
pub name-found : (here : LocatedToken) (token : Token) (window : Window) →
    here ≡ (record { token = token; line = window.line; end = window.offset }) → FitsToken here.token →
    IsFound here window
name-found here token window e fits = record { reached = omega (arith, ap (λ x. x.end) e); fits = fits }
