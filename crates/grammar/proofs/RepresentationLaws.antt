-- What a builder represents, and which actions may follow.
use Rattle.std.proofs.Common.{◌≡◌, ◌≤◌, List, [], ◌∷◌, ◌++◌, ◌∙◌, refl, sym, subst, append_assoc, append-nil}
use Rattle.std.specs.Prelude.{Some}
use Rattle.grammar.specs.declared.actions.Action.{Action}
use Rattle.grammar.specs.Beginning.{IsBeginning}
use Rattle.grammar.specs.Building.{Representation, AppendsAll, MayFollow, MayFollowAll, LeavesOpen}
use Rattle.grammar.specs.Following.{Opened, follow, follow_all, open_count}
use Rattle.grammar.proofs.Beginnings.{begins_with, follows_begins}
use Rattle.grammar.proofs.FollowingLaws.{follow_append, follow_one}

-- if a builder represents a list that leaves this open, an action may come that may follow what is open
pub may_follow : (before : Representation) (opened next : Opened) (action : Action) → LeavesOpen before opened →
    follow action opened ≡ Some next → open_count next ≤ 200 → MayFollow before action
may_follow before opened next action s e small =
    let is : follow_all (s.acts ++ action ∷ []) [] ≡ Some next =
    follow_append s.acts (action ∷ []) [] opened s.opens ∙ follow_one action opened next e small in
    record {
      profile = s.profile;
      acts = s.acts;
      stood = s.stood;
      begins = follows_begins (s.acts ++ action ∷ []) (rw is refl);
    }

-- after appended actions, what they leave open is open
-- the first of some actions may follow
pub may_front : (before : Representation) (xs ys : List Action) → MayFollowAll before (xs ++ ys) →
    MayFollowAll before xs
may_front before xs ys may =
    record {
      profile = may.profile;
      acts = may.acts;
      stood = may.stood;
      begins = begins_with (may.acts ++ xs) ys (subst IsBeginning (sym (append_assoc may.acts xs ys)) may.begins);
    }

pub may_first : (before : Representation) (x : Action) (xs : List Action) → MayFollowAll before (x ∷ xs) →
    MayFollow before x
may_first before x xs may =
    let m = may_front before (x ∷ []) xs may in
    record { profile = m.profile; acts = m.acts; stood = m.stood; begins = m.begins }

-- if the first ones were reported, the others may follow
pub may_then : (before behind : Representation) (xs ys : List Action) → AppendsAll before behind xs →
    MayFollowAll before (xs ++ ys) → MayFollowAll behind ys
may_then before behind xs ys added may =
    record {
      profile = may.profile;
      acts = may.acts ++ xs;
      stood = added may.profile may.acts may.stood;
      begins = subst IsBeginning (sym (append_assoc may.acts xs ys)) may.begins;
    }

-- actions reported one after another
pub appends_both : (before between behind : Representation) (xs ys : List Action) → AppendsAll before between xs →
    AppendsAll between behind ys → AppendsAll before behind (xs ++ ys)
appends_both before between behind xs ys first second p acts s =
    subst (behind p) (append_assoc acts xs ys) (second p (acts ++ xs) (first p acts s))

pub appends_none : (before : Representation) → AppendsAll before before []
appends_none before p acts s = subst (before p) (sym (append-nil acts)) s
