-- What a maker of trees represents after each action.
use Rattle.std.proofs.Common.{◌≡◌, ℕ, ◌+◌, ◌<◌, ◌≤◌, min, List, [], ◌∷◌, ◌++◌, Bool, true, false, sym, ap, subst, ◌∙◌, refl, append_assoc, arith, inl, inr}
use Rattle.std.proofs.lemmas.Bool.Decides.{nat_tests}
use Rattle.std.proofs.lemmas.Result.{on_ok_weaker}
use Rattle.std.specs.Prelude.{if◌then◌else◌, Option, Some, None, IsTrue, is_some, nat_lt, nat_le, Result, OnOk}
use Rattle.grammar.specs.declared.build.BuildFault.{BuildFault}
use Rattle.grammar.specs.declared.actions.Action.{Action}
use Rattle.grammar.specs.declared.actions.Action.TheVariants.{PushConstant, FetchVariable, StoreVariable, ApplyBinop}
use Rattle.grammar.specs.declared.actions.Action.TheVariants.{LogicMiddle, BeginCall, EndCall, IfTest, ElsePart, EndIf}
use Rattle.grammar.specs.declared.actions.Action.TheVariants.{BeginWhile, WhileTest, EndWhile, GiveBack, Chop}
use Rattle.grammar.specs.declared.actions.Action.TheVariants.{BeginFunction, EndFunction}
use Rattle.grammar.specs.Actions.{ends_function, instructions, code_length}
use Rattle.grammar.specs.Building.{MayFollow, Appends, FitsWithin, IsOver}
use Rattle.grammar.specs.Following.{Open, InFunction, AValue, BeforeRight, InCall, InBranch, InElse, BeforeTest, InLoopBody, Opened, Computed, few_open, follow, follow_all, then_follow, opens_within, only_on, may_take_statement, statement_done, call_done, is_var_numbered, is_callee_numbered}
use Rattle.arith.specs.Op.{is_logic}
use Rattle.grammar.specs.Profile.{Profile}
use Rattle.grammar.specs.ProfileNumbers.{first_profile, second_profile, IsProfile}
use Rattle.grammar.proofs.Beginnings.{beginning_follows}
use Rattle.grammar.proofs.FollowingLaws.{follow_append}
use Rattle.grammar.proofs.Lengths.{code_length-last}
use Rattle.trees.specs.Opened.{Continues, EndsFunctionTree, IsAllowed, opened_of, open_actions}
use Rattle.trees.specs.TreeMakers.{TreeMaker, FitsLimit, in_function, Builds, ExceedsLimit, TreeMakerRepresents}
use Rattle.trees.specs.Trees.{made_actions}
use Rattle.trees.specs.declared.tree_stack.OpenItem as entry
use Rattle.trees.specs.declared.tree.Function.{Function}
use Rattle.trees.proofs.TreeLaws.{functions_add}

-- no profile has more instructions than a maker can count
pub small : (p : Profile) → IsProfile p → p.instructions ≤ 4000
unfolding first_profile second_profile
small p (inl e) = let same = ap (λ (p : Profile). p.instructions) e in omega (arith, same)
small p (inr e) = let same = ap (λ (p : Profile). p.instructions) e in omega (arith, same)

-- a maker to which nothing was reported has room
pub some : (p : Profile) → IsProfile p → 0 < p.instructions
unfolding first_profile second_profile
some p (inl e) = let same = ap (λ (p : Profile). p.instructions) e in omega (arith, same)
some p (inr e) = let same = ap (λ (p : Profile). p.instructions) e in omega (arith, same)

-- Actions one after another.

-- an action that follows is allowed, and leaves little enough open
record Next (a : Action) (o : Opened) : Type 0 where
  behind : Opened
  is : follow a o ≡ Some behind
  few : few_open behind ≡ true

next_one : (a : Action) (o : Opened) (next : Option Opened) → follow a o ≡ next →
    IsTrue (is_some (then_follow (follow_all []) next)) → Next a o
next_one a o None e h = absurd (cc)
next_one a o (Some p) e h = record { behind = p; is = e; few = guarded (few_open p) h }
  where
    guarded : (b : Bool) → IsTrue (is_some (if b then Some p else None)) → b ≡ true
    guarded true k = refl
    guarded false k = absurd (cc)

next_of : (m : TreeMaker) (a : Action) → FitsLimit m → MayFollow (λ p acts. TreeMakerRepresents m p acts) a →
    Next a (opened_of m.stack)
next_of m a fits may =
    let b : Builds m may.acts = may.stood.builds fits in
    next_one a (opened_of m.stack) (follow a (opened_of m.stack)) refl
    (subst (λ o. IsTrue (is_some o)) (follow_append may.acts (a ∷ []) [] (opened_of m.stack) b.opens)
    (beginning_follows (may.acts ++ a ∷ []) may.begins))

pub allowed : (m : TreeMaker) (a : Action) → FitsLimit m → MayFollow (λ p acts. TreeMakerRepresents m p acts) a →
    IsAllowed a m.stack
allowed m a fits may = let next : Next a (opened_of m.stack) = next_of m a fits may in rw next.is refl

-- Whether a function is open.

abbrev pub is_open : Opened → Bool
is_open [] = false
is_open (x ∷ o) = true

some_open : (q p : Opened) → Some q ≡ Some p → is_open q ≡ true → is_open p ≡ true
some_open q p e h = let same : q ≡ p = cc in subst (λ o. is_open o ≡ true) same h

only_open : (b : Bool) (q p : Opened) → only_on b q ≡ Some p → is_open q ≡ true → is_open p ≡ true
only_open true q p e h = some_open q p e h
only_open false q p e h = absurd (cc)

guarded_is : (b : Bool) (next : Option Opened) (p : Opened) → (if b then next else None) ≡ Some p → next ≡ Some p
guarded_is true next p e = e
guarded_is false next p e = absurd (cc)

unless_is : (b : Bool) (next : Option Opened) (p : Opened) → (if b then None else next) ≡ Some p → next ≡ Some p
unless_is true next p e = absurd (cc)
unless_is false next p e = e

within_open : (inner : Open) (o p : Opened) → opens_within inner o ≡ Some p → is_open p ≡ true
within_open inner [] p e = absurd (cc)
within_open inner (x ∷ o) p e = some_open (inner ∷ x ∷ o) p e refl

call_open : (o p : Opened) → call_done o ≡ Some p → is_open p ≡ true
call_open [] p e = absurd (cc)
call_open (AValue origin ∷ o) p e = call_open o p e
call_open (InCall ∷ o) p e = some_open (AValue Computed ∷ o) p e refl
call_open (x ∷ o) p e = absurd (cc)

done_open : (returned : Bool) (o p : Opened) → statement_done returned o ≡ Some p → is_open p ≡ true
done_open returned [] p e = absurd (cc)
done_open returned (InFunction parameters before ∷ o) p e = some_open (InFunction parameters returned ∷ o) p e refl
done_open returned (x ∷ o) p e = only_open (may_take_statement (x ∷ o)) (x ∷ o) p e refl

-- an action that ends no function leaves one open
stays_open : (a : Action) (o p : Opened) → in_function true (a ∷ []) ≡ true → follow a o ≡ Some p → is_open p ≡ true
stays_open (PushConstant value) o p h e = within_open _ o p e
stays_open (FetchVariable v) o p h e = within_open _ o p (guarded_is (is_var_numbered v) _ p e)
stays_open (StoreVariable v op) (AValue origin ∷ o) p h e = only_open _ _ p e refl
stays_open (StoreVariable v op) o p h e = absurd (cc)
stays_open (ApplyBinop op) (AValue right ∷ AValue left ∷ o) p h e = some_open _ p (unless_is (is_logic op) _ p e) refl
stays_open (ApplyBinop op) (AValue right ∷ BeforeRight q ∷ AValue left ∷ o) p h e = only_open _ _ p e refl
stays_open (ApplyBinop op) o p h e = absurd (cc)
stays_open (LogicMiddle op) (AValue left ∷ o) p h e = only_open _ _ p e refl
stays_open (LogicMiddle op) o p h e = absurd (cc)
stays_open BeginCall o p h e = within_open _ o p e
stays_open (EndCall callee) o p h e = call_open o p (guarded_is (is_callee_numbered callee) _ p e)
stays_open IfTest (AValue condition ∷ o) p h e = only_open _ _ p e refl
stays_open IfTest o p h e = absurd (cc)
stays_open ElsePart (InBranch ∷ o) p h e = some_open _ p e refl
stays_open ElsePart o p h e = absurd (cc)
stays_open EndIf (InBranch ∷ o) p h e = done_open false o p e
stays_open EndIf (InElse ∷ o) p h e = done_open false o p e
stays_open EndIf o p h e = absurd (cc)
stays_open BeginWhile o p h e = only_open _ _ p e refl
stays_open WhileTest (AValue condition ∷ BeforeTest ∷ o) p h e = some_open _ p e refl
stays_open WhileTest o p h e = absurd (cc)
stays_open EndWhile (InLoopBody ∷ o) p h e = done_open false o p e
stays_open EndWhile o p h e = absurd (cc)
stays_open GiveBack (AValue origin ∷ o) p h e = done_open _ o p e
stays_open GiveBack o p h e = absurd (cc)
stays_open Chop (AValue origin ∷ AValue below ∷ o) p h e = only_open _ _ p e refl
stays_open Chop (AValue origin ∷ o) p h e = done_open false o p e
stays_open Chop o p h e = absurd (cc)
stays_open (BeginFunction number parameters) [] p h e = only_open _ _ p e refl
stays_open (BeginFunction number parameters) (x ∷ o) p h e = absurd (cc)
stays_open (EndFunction variables) o p h e = absurd (cc)

-- if nothing is open only a function begins
opens_first : (a : Action) (p : Opened) → follow a [] ≡ Some p →
    (in_function false (a ∷ []) ≡ true) × (in_function true (a ∷ []) ≡ true)
opens_first (BeginFunction number parameters) p e = (refl, refl)
opens_first (FetchVariable v) p e = let no : None ≡ Some p = guarded_is (is_var_numbered v) None p e in absurd (cc)
opens_first (EndCall callee) p e =
    let no : None ≡ Some p = guarded_is (is_callee_numbered callee) None p e in absurd (cc)
opens_first a p e = absurd (cc)

-- an action that ends a function leaves nothing open
closes : (a : Action) (o p : Opened) → in_function true (a ∷ []) ≡ false → follow a o ≡ Some p → is_open p ≡ false
closes (EndFunction variables) (InFunction parameters true ∷ []) p h e = nothing _ e
  where
    nothing : (b : Bool) → only_on b [] ≡ Some p → is_open p ≡ false
    nothing true k = let same : [] ≡ p = cc in subst (λ o. is_open o ≡ false) same refl
    nothing false k = absurd (cc)
closes (EndFunction variables) o p h e = absurd (cc)
closes a o p h e = absurd (cc)

action_inside : (a : Action) (o p : Opened) → follow a o ≡ Some p → in_function (is_open o) (a ∷ []) ≡ is_open p
action_inside a [] p e = let first = opens_first a p e in first.0 ∙ sym (stays_open a [] p first.1 e)
action_inside a (x ∷ o) p e = by_end (in_function true (a ∷ [])) refl
  where
    by_end : (b : Bool) → in_function true (a ∷ []) ≡ b → b ≡ is_open p
    by_end true h = sym (stays_open a (x ∷ o) p h e)
    by_end false h = sym (closes a (x ∷ o) p h e)

inside_cons : (b : Bool) (a : Action) (acts : List Action) →
    in_function b (a ∷ acts) ≡ in_function (in_function b (a ∷ [])) acts
inside_cons b (BeginFunction number parameters) acts = refl
inside_cons b (EndFunction variables) acts = refl
inside_cons b a acts = refl

inside_append : (b : Bool) (xs ys : List Action) → in_function b (xs ++ ys) ≡ in_function (in_function b xs) ys
inside_append b [] ys = refl
inside_append b (x ∷ xs) ys =
    inside_cons b x (xs ++ ys) ∙ inside_append (in_function b (x ∷ [])) xs ys ∙
    ap (λ c. in_function c ys) (sym (inside_cons b x xs))

-- a function is open after actions exactly if they leave something open
pub follow_inside : (acts : List Action) (o p : Opened) → follow_all acts o ≡ Some p →
    in_function (is_open o) acts ≡ is_open p
follow_inside [] o p e = let same : o ≡ p = cc in ap is_open same
follow_inside (a ∷ acts) o p e = next (follow a o) refl e (λ q h. follow_inside acts q p h)
  where
    next : (q : Option Opened) → follow a o ≡ q → then_follow (follow_all acts) q ≡ Some p →
        ((q : Opened) → follow_all acts q ≡ Some p → in_function (is_open q) acts ≡ is_open p) →
        in_function (is_open o) (a ∷ acts) ≡ is_open p
    next None is k again = absurd (cc)
    next (Some q) is k again =
        inside_cons (is_open o) a acts ∙ ap (λ b. in_function b acts) (action_inside a o q is) ∙
        again q (guarded_is (few_open q) _ p k)

-- The maker goes on, or has exceeded the limit.

one_next : (a : Action) (o p : Opened) → follow a o ≡ Some p → few_open p ≡ true → follow_all (a ∷ []) o ≡ Some p
one_next a o p e few = rw (e, few) refl

-- within the limit the trees have the action
pub goes_on : (m n : TreeMaker) (a : Action) → n.profile ≡ m.profile → n.functions ≡ m.functions →
    Continues a m.stack n.stack → n.length ≡ min (m.length + instructions m.profile a) 65535 →
    n.length < m.profile.instructions →
    MayFollow (λ p acts. TreeMakerRepresents m p acts) a →
    Appends (λ p acts. TreeMakerRepresents m p acts) (λ p acts. TreeMakerRepresents n p acts) a
goes_on m n a by same k counted fits may p acts s =
    let few_code = small m.profile s.known in
    let before : FitsLimit m = omega (arith, few_code, counted, fits) in
    let b : Builds m acts = s.builds before in
    let next : Next a (opened_of m.stack) = next_of m a before may in
    let few : few_open (opened_of n.stack) ≡ true =
    some_few next.behind (opened_of n.stack) (sym next.is ∙ k.follows) next.few in
    let limit = ap (λ (p : Profile). p.instructions) by in
    record {
      profile = s.profile ∙ sym by;
      known = subst IsProfile (sym by) s.known;
      builds = λ _. record {
        actions = ap (λ xs. xs ++ a ∷ []) b.actions ∙
            append_assoc (made_actions m.functions) (open_actions m.stack) (a ∷ []) ∙
            ap (λ xs. made_actions m.functions ++ xs) k.adds ∙
            ap (λ fs. made_actions fs ++ open_actions n.stack) (sym same);
        opens = follow_append acts (a ∷ []) [] (opened_of m.stack) b.opens ∙
            one_next a (opened_of m.stack) (opened_of n.stack) k.follows few;
        counted = ap (λ (p : Profile). code_length p (acts ++ a ∷ [])) by ∙
            omega (arith, few_code, code_length-last m.profile acts a, b.counted, counted, fits);
      };
      passed = λ over. absurd (omega (arith, limit, over, fits));
    }
  where
    some_few : (x y : Opened) → Some x ≡ Some y → few_open x ≡ true → few_open y ≡ true
    some_few x y e h = let same : x ≡ y = cc in subst (λ o. few_open o ≡ true) same h

-- past it the code has exceeded the limit in a function that is still open
passed_by : (m n : TreeMaker) (a : Action) (acts : List Action) (p : Profile) →
    n.length ≡ min (m.length + instructions m.profile a) 65535 → m.profile.instructions ≤ n.length →
    in_function true (a ∷ []) ≡ true →
    MayFollow (λ p acts. TreeMakerRepresents m p acts) a → TreeMakerRepresents m p acts →
    ExceedsLimit m.profile (acts ++ a ∷ [])
passed_by m n a acts p counted over ends may s = by_code (nat_lt m.length m.profile.instructions) refl
  where
    by_code : (b : Bool) → nat_lt m.length m.profile.instructions ≡ b → ExceedsLimit m.profile (acts ++ a ∷ [])
    by_code true h =
        let fits : m.length < m.profile.instructions = grind (arith, nat_tests, h) in
        let before : FitsLimit m = omega (arith, fits) in
        let b : Builds m acts = s.builds before in
        let next : Next a (opened_of m.stack) = next_of m a before may in
        let opens : follow_all (acts ++ a ∷ []) [] ≡ Some next.behind =
        follow_append acts (a ∷ []) [] (opened_of m.stack) b.opens ∙
        one_next a (opened_of m.stack) next.behind next.is next.few in
        record {
          over = omega (arith, code_length-last m.profile acts a, b.counted, counted, over);
          inside = follow_inside (acts ++ a ∷ []) [] next.behind opens ∙
              stays_open a (opened_of m.stack) next.behind ends next.is;
        }
    by_code false h =
        let past : m.profile.instructions ≤ m.length = grind (arith, nat_tests, h) in
        let q : ExceedsLimit m.profile acts = s.passed (omega (arith, past)) in
        record {
          over = omega (arith, q.over, code_length-last m.profile acts a);
          inside = inside_append false acts (a ∷ []) ∙ ap (λ b. in_function b (a ∷ [])) q.inside ∙ ends;
        }

pub stops : (m n : TreeMaker) (a : Action) → n.profile ≡ m.profile →
    n.length ≡ min (m.length + instructions m.profile a) 65535 →
    m.profile.instructions ≤ n.length → in_function true (a ∷ []) ≡ true →
    MayFollow (λ p acts. TreeMakerRepresents m p acts) a →
    Appends (λ p acts. TreeMakerRepresents m p acts) (λ p acts. TreeMakerRepresents n p acts) a
stops m n a by counted over ends may p acts s =
    let limit = ap (λ (p : Profile). p.instructions) by in
    record {
      profile = s.profile ∙ sym by;
      known = subst IsProfile (sym by) s.known;
      builds = λ fits. absurd (omega (arith, limit, fits, over));
      passed =
          λ _. subst (λ p. ExceedsLimit p (acts ++ a ∷ [])) (sym by) (passed_by m n a acts p counted over ends may s);
    }

-- A function ends.

pub ends : (m n : TreeMaker) (v : ℕ) (f : Function) → n.profile ≡ m.profile → EndsFunctionTree v m.stack n.stack f →
    n.functions ≡ m.functions ++ f ∷ [] → n.length ≡ min (m.length + 0) 65535 → n.length < m.profile.instructions →
    MayFollow (λ p acts. TreeMakerRepresents m p acts) (EndFunction v) →
    Appends (λ p acts. TreeMakerRepresents m p acts) (λ p acts. TreeMakerRepresents n p acts) (EndFunction v)
ends m n v f by k same counted fits may p acts s =
    let few_code = small m.profile s.known in
    let before : FitsLimit m = omega (arith, few_code, counted, fits) in
    let b : Builds m acts = s.builds before in
    let next : Next (EndFunction v) (opened_of m.stack) = next_of m (EndFunction v) before may in
    let close : is_open next.behind ≡ false = closes (EndFunction v) (opened_of m.stack) next.behind refl next.is in
    let nothing : next.behind ≡ opened_of n.stack = rw k.nothing (close_is next.behind close) in
    let limit = ap (λ (p : Profile). p.instructions) by in
    record {
      profile = s.profile ∙ sym by;
      known = subst IsProfile (sym by) s.known;
      builds = λ _. record {
        actions = rw (same, k.nothing, functions_add m.functions f, k.actions, b.actions) (simp append_assoc refl);
        opens = follow_append acts (EndFunction v ∷ []) [] (opened_of m.stack) b.opens ∙
            one_next (EndFunction v) (opened_of m.stack) next.behind next.is next.few ∙ ap Some nothing;
        counted = ap (λ (p : Profile). code_length p (acts ++ EndFunction v ∷ [])) by ∙
            omega (arith, few_code, code_length-last m.profile acts (EndFunction v), b.counted, counted, fits);
      };
      passed = λ over. absurd (omega (arith, limit, over, fits));
    }
  where
    close_is : (o : Opened) → is_open o ≡ false → o ≡ []
    close_is [] h = refl
    close_is (x ∷ o) h = absurd (cc)

pub fits_within : (m : TreeMaker) → m.length < m.profile.instructions →
    FitsWithin (λ p acts. TreeMakerRepresents m p acts)
fits_within m fits p acts s =
    let before : FitsLimit m = omega (arith, fits) in
    let b : Builds m acts = s.builds before in
    rw s.profile (omega (arith, b.counted, fits))

pub is_over : (m : TreeMaker) → m.profile.instructions ≤ m.length → IsOver (λ p acts. TreeMakerRepresents m p acts)
is_over m over p acts s =
    let q : ExceedsLimit m.profile acts = s.passed (omega (arith, over)) in
    rw s.profile q.over

-- What the maker's calls need: m is the maker before, q the one that has counted the action's instructions.

within_limit : (m q : TreeMaker) (a : Action) (over : Bool) → IsProfile m.profile →
    q.length ≡ min (m.length + instructions m.profile a) 65535 → over ≡ nat_le m.profile.instructions q.length →
    over ≡ false → (FitsLimit m) × (q.length < m.profile.instructions)
within_limit m q a over known counted is not_over =
    let few : q.length < m.profile.instructions = grind (arith, nat_tests, is, not_over) in
    (omega (arith, small m.profile known, counted, few), few)

stays_inside : (a : Action) → ends_function a ≡ false → in_function true (a ∷ []) ≡ true
stays_inside (EndFunction variables) e = absurd (cc)
stays_inside a e = refl

pub stopped : (m q : TreeMaker) (a : Action) (over : Bool) → q.profile ≡ m.profile →
    q.length ≡ min (m.length + instructions m.profile a) 65535 → over ≡ nat_le m.profile.instructions q.length →
    over ≡ true →
    ends_function a ≡ false →
    MayFollow (λ p acts. TreeMakerRepresents m p acts) a →
    Appends (λ p acts. TreeMakerRepresents m p acts) (λ p acts. TreeMakerRepresents q p acts) a
stopped m q a over by counted is is_over goes_on may =
    stops m q a by counted (grind (arith, nat_tests, is, is_over)) (stays_inside a goes_on) may

pub may_go_on : (m q : TreeMaker) (a : Action) (over : Bool) → q.stack ≡ m.stack →
    q.length ≡ min (m.length + instructions m.profile a) 65535 → over ≡ nat_le m.profile.instructions q.length →
    over ≡ false →
    MayFollow (λ p acts. TreeMakerRepresents m p acts) a → IsAllowed a q.stack
may_go_on m q a over stack counted is not_over may =
    rw stack (allowed m a (within_limit m q a over may.stood.known counted is not_over).0 may)

pub went_on : {A : Type 0} (m q : TreeMaker) (xs : List entry.OpenItem) (a : Action) (over : Bool)
    (r : Result A BuildFault) →
    q.profile ≡ m.profile → q.functions ≡ m.functions → q.stack ≡ m.stack →
    q.length ≡ min (m.length + instructions m.profile a) 65535 →
    over ≡ nat_le m.profile.instructions q.length → over ≡ false →
    MayFollow (λ p acts. TreeMakerRepresents m p acts) a →
    OnOk r (Continues a q.stack xs) →
    OnOk r
    (Appends (λ p acts. TreeMakerRepresents m p acts)
    (λ p acts. TreeMakerRepresents
    (record { profile = q.profile; functions = q.functions; stack = xs; length = q.length })
    p
    acts) a)
went_on m q xs a over r by functions stack counted is not_over may told =
    on_ok_weaker r
    (λ k. goes_on m (record { profile = q.profile; functions = q.functions; stack = xs; length = q.length }) a by
    functions
    (subst (λ ys. Continues a ys xs) stack k) counted
    (within_limit m q a over may.stood.known counted is not_over).1 may)
    told

pub fits_at_end : (m q : TreeMaker) (over : Bool) → IsProfile m.profile → q.length ≡ min (m.length + 0) 65535 →
    over ≡ nat_le m.profile.instructions q.length → over ≡ false → FitsWithin (λ p acts. TreeMakerRepresents m p acts)
fits_at_end m q over known counted is passed =
    let few : q.length < m.profile.instructions = grind (arith, nat_tests, is, passed) in
    fits_within m (omega (arith, small m.profile known, counted, few))

pub ended : {A : Type 0} (m q : TreeMaker) (fs : List Function) (xs : List entry.OpenItem) (v : ℕ) (f : Function)
    (over : Bool)
    (r : Result A BuildFault) → q.profile ≡ m.profile → q.functions ≡ m.functions → q.stack ≡ m.stack →
    q.length ≡ min (m.length + 0) 65535 →
    over ≡ nat_le m.profile.instructions q.length → over ≡ false →
    MayFollow (λ p acts. TreeMakerRepresents m p acts) (EndFunction v) →
    EndsFunctionTree v q.stack xs f → OnOk r (fs ≡ q.functions ++ f ∷ []) →
    OnOk r
    (Appends (λ p acts. TreeMakerRepresents m p acts)
    (λ p acts. TreeMakerRepresents (record { profile = q.profile; functions = fs; stack = xs; length = q.length }) p
    acts)
    (EndFunction v))
ended m q fs xs v f over r by functions stack counted is not_over may ends_at longer =
    on_ok_weaker r
    (λ k. ends m (record { profile = q.profile; functions = fs; stack = xs; length = q.length }) v f by
    (subst (λ ys. EndsFunctionTree v ys xs f) stack ends_at) (k ∙ ap (λ gs. gs ++ f ∷ []) functions) counted
    (within_limit m q (EndFunction v) over may.stood.known counted is not_over).1 may)
    longer
