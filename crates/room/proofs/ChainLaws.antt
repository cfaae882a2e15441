-- Chains of calls.
use Rattle.std.specs.Prelude.{ℕ, zero, suc, ◌≡◌, ◌<◌, ◌≤◌, ◌==◌, ◌+◌, ◌⊎◌, ◌++◌, Bool, true, false, if◌then◌else◌, List, [], ◌∷◌, Option, Some, None, IfSome, drop, length, slice_index_or}
use Rattle.std.proofs.Common.{ap, arith, ◌∙◌, inl, inr, length-append, refl, subst, sym}
use Rattle.std.specs.Option.{option_eq}
use Rattle.std.specs.List.{list_any}
use Rattle.std.specs.Prelude.{nat_eq, ◌||◌}
use Rattle.std.proofs.lemmas.Bool.{false≢true}
use Rattle.std.proofs.lemmas.Bool.Decides.{nat_tests}
use Rattle.std.proofs.lemmas.List.{drop_all, drop_more, get_or_default, length-map}
use Rattle.grammar.proofs.DistinctNames.{among_append, distinct_append}
use Rattle.grammar.specs.Profile.{Profile}
use Rattle.grammar.specs.Resolved.{AreDistinct, IsAmong}
use Rattle.trees.specs.Laws.{UnnamedFunction, without_names, told_trees}
use Rattle.trees.specs.Trees.{function_tree}
use Rattle.trees.specs.declared.tree.Function.{Function}
use Rattle.room.specs.declared.chains.Measure.{Measure}
use Rattle.room.specs.declared.constructs.Calls.{Calls}
use Rattle.room.specs.declared.room.Room.{Room}
use Rattle.room.specs.Chains.{AreLinked, Begins, CallNoOthers, Decides, IsChain, IsLast, IsLink, IsWhole, MayEnd, NeedsBy}
use Rattle.room.specs.Chains.{StandsAlone, all_needed, measured, numbers, scarce}
use Rattle.room.specs.Tables.{needs_in, table_within, told_need}
use Rattle.room.proofs.Deciding.{decider}

among_told : (fs : List Function) (i : ℕ) (f : Function) → i < length fs → f ≡ slice_index_or fs i f →
    IsAmong (without_names f.number (function_tree f)) (told_trees fs)
among_told [] i f less is = absurd (omega (arith, less))
among_told (g ∷ fs) zero f less is =
    inl (ap (λ (f : Function). without_names f.number (function_tree f)) is)
among_told (g ∷ fs) (suc i) f less is = inr (among_told fs i f (omega (arith, less)) is)

-- What a search in a chain says.

found_by : (b : Bool) (n k : ℕ) (ks : List ℕ) → nat_eq k n ≡ b → (b || list_any (λ k. nat_eq k n) ks) ≡ true →
    (list_any (λ k. nat_eq k n) ks ≡ true → IsAmong n ks) → (n ≡ k) ⊎ IsAmong n ks
found_by true n k ks same found later = inl (grind (arith, nat_tests, same))
found_by false n k ks other found later = inr (later found)

pub is_found : (n : ℕ) (ks : List ℕ) → list_any (λ k. nat_eq k n) ks ≡ true → IsAmong n ks
is_found n [] found = absurd (false≢true found)
is_found n (k ∷ ks) found = found_by (nat_eq k n) n k ks refl found (λ more. is_found n ks more)

missed_by : (b : Bool) (n k : ℕ) (ks : List ℕ) → nat_eq k n ≡ b → (b || list_any (λ k. nat_eq k n) ks) ≡ false →
    (list_any (λ k. nat_eq k n) ks ≡ false → IsAmong n ks → ⊥) → (n ≡ k) ⊎ IsAmong n ks → ⊥
missed_by true n k ks same missed later among = absurd (false≢true (sym missed))
missed_by false n k ks other missed later (inl is) = absurd (grind (arith, nat_tests, other, is))
missed_by false n k ks other missed later (inr among) = later missed among

pub is_missed : (n : ℕ) (ks : List ℕ) → list_any (λ k. nat_eq k n) ks ≡ false → IsAmong n ks → ⊥
is_missed n [] missed among = among
is_missed n (k ∷ ks) missed among =
    missed_by (nat_eq k n) n k ks refl missed (λ more rest. is_missed n ks more rest) among

-- Numbers of functions that are left to try.

at_drop : (fs : List Function) (i : ℕ) (f : Function) → i < length fs → f ≡ slice_index_or fs i f →
    drop i fs ≡ f ∷ drop (i + 1) fs
at_drop fs i f less is = drop_more fs i f less ∙ ap (λ (g : Function). g ∷ drop (i + 1) fs) (sym is)

abbrev pub IsLeft : List Function → ℕ → ℕ → Type 0
IsLeft fs i n = IsAmong n (numbers (told_trees (drop i fs)))

pub left_more : (fs : List Function) (i n : ℕ) (f : Function) → i < length fs → f ≡ slice_index_or fs i f →
    (n ≡ f.number → ⊥) → IsLeft fs i n → IsLeft fs (i + 1) n
left_more fs i n f less is other left =
    further (subst (λ (gs : List Function). IsAmong n (numbers (told_trees gs))) (at_drop fs i f less is) left)
  where
    further : (n ≡ f.number) ⊎ IsLeft fs (i + 1) n → IsLeft fs (i + 1) n
    further (inl same) = absurd (other same)
    further (inr among) = among

pub left_none : (fs : List Function) (i n : ℕ) → length fs ≤ i → IsLeft fs i n → ⊥
left_none fs i n past left =
    subst (λ (gs : List Function). IsAmong n (numbers (told_trees gs))) (drop_all i fs past) left

pub number_told : (fs : List Function) (i : ℕ) (f : Function) → i < length fs → f ≡ slice_index_or fs i f →
    IsAmong f.number (numbers (told_trees fs))
number_told [] i f less is = absurd (omega (arith, less))
number_told (g ∷ fs) zero f less is = inl (ap (λ (f : Function). f.number) is)
number_told (g ∷ fs) (suc i) f less is = inr (number_told fs i f (omega (arith, less)) is)

-- What is measured with other needs.

same_measures : (x y : Option ℕ) → option_eq nat_eq x y ≡ true → x ≡ y
same_measures None None same = refl
same_measures None (Some y) same = absurd (cc)
same_measures (Some x) None same = absurd (cc)
same_measures (Some x) (Some y) same = ap (λ (n : ℕ). Some n) (grind (arith, nat_tests, same))

equal_measures : (x y : Option ℕ) → x ≡ y → option_eq nat_eq x y ≡ true
equal_measures None y is = subst (λ (z : Option ℕ). option_eq nat_eq None z ≡ true) is refl
equal_measures (Some x) y is =
    subst (λ (z : Option ℕ). option_eq nat_eq (Some x) z ≡ true) is (grind (arith, nat_tests))

module _ (measure : Measure) (calls : Calls) (f : UnnamedFunction) (table : List (Option Room)) (this : Calls)
    (need with_this : Option Room) (y x : Option ℕ) (short : this.short ≡ calls.short) (needs : this.needs ≡ table)
    (needed : need ≡ told_need calls.short (needs_in calls.needs) f) (is : y ≡ measured measure need)
    (by_this : with_this ≡ told_need this.short (needs_in this.needs) f) (so : x ≡ measured measure with_this) where
  abbrev NeedsByTable : Type 0
  NeedsByTable =
      measured measure (told_need calls.short (needs_in table) f) ≡
      measured measure (told_need calls.short (needs_in calls.needs) f)

  of_table : x ≡ measured measure (told_need calls.short (needs_in table) f)
  of_table =
      so ∙ ap (measured measure) by_this
      ∙ ap (λ (s : Bool). measured measure (told_need s (needs_in this.needs) f)) short
      ∙ ap (λ (t : List (Option Room)). measured measure (told_need calls.short (needs_in t) f)) needs

  of_all : y ≡ measured measure (told_need calls.short (needs_in calls.needs) f)
  of_all = is ∙ ap (measured measure) needed

  pub decided_so : true ≡ option_eq nat_eq x y → NeedsByTable
  decided_so same = sym of_table ∙ same_measures x y (sym same) ∙ of_all

  pub undecided_so : false ≡ option_eq nat_eq x y → NeedsByTable → ⊥
  undecided_so other by =
      absurd (false≢true (other ∙ equal_measures x y (of_table ∙ by ∙ sym of_all)))

pub if_some : {P : Type 0} (o : Option ℕ) → P → IfSome o (λ j. P)
if_some None p = tt
if_some (Some j) p = p

-- what a function needs by a call, as a link
pub links : (measure : Measure) (calls : Calls) (fs : List Function) (i : ℕ) (f : Function) (number : ℕ)
    (result : Option ℕ) → i < length fs → f ≡ slice_index_or fs i f → f.number ≡ number →
    IfSome result (Decides measure calls fs f) →
    IfSome result (λ j. StandsAlone measure calls (without_names f.number (function_tree f)) → ⊥) →
    IfSome result (IsLink measure calls (told_trees fs) number)
links measure calls fs i f number None less is numbered decides more = tt
links measure calls fs i f number (Some j) less is numbered decides more = record {
  caller = without_names f.number (function_tree f);
  among = among_told fs i f less is;
  numbered = numbered;
  there = decides.0;
  needs = decides.1;
  less = more;
}

last_told : (measure : Measure) (calls : Calls) (fs : List UnnamedFunction) (f : UnnamedFunction) (number : ℕ) →
    IsAmong f fs → f.number ≡ number → CallNoOthers fs → (By : ℕ → Type 0) →
    ((j : ℕ) → IsAmong j (numbers fs) → NeedsBy measure calls f j → By j) →
    StandsAlone measure calls f ⊎ ((j : ℕ) → By j → ⊥) → IsLast measure calls fs number
last_told measure calls fs f number among numbered closed By decides (inl alone) =
    record { function = f; among = among; numbered = numbered; alone = alone }
last_told measure calls fs f number among numbered closed By decides (inr none) =
    by
    (decider measure calls closed.externals f.variables closed.count f closed.few (closed.within f among))
  where
    by : StandsAlone measure calls f ⊎ ((k : ℕ) × (k < closed.count) × NeedsBy measure calls f k) →
        IsLast measure calls fs number
    by (inl alone) = record { function = f; among = among; numbered = numbered; alone = alone }
    by (inr needs) = absurd (none needs.0 (decides needs.0 (closed.there needs.0 needs.1) needs.2))

-- one that no call decides, as the last one
pub is_last : (measure : Measure) (calls : Calls) (fs : List Function) (i : ℕ) (f : Function) (number : ℕ) →
    i < length fs → f ≡ slice_index_or fs i f → f.number ≡ number → CallNoOthers (told_trees fs) →
    StandsAlone measure calls (without_names f.number (function_tree f))
    ⊎ ((j : ℕ) → Decides measure calls fs f j → ⊥) →
    IsLast measure calls (told_trees fs) number
is_last measure calls fs i f number less is numbered closed none =
    last_told measure calls (told_trees fs) (without_names f.number (function_tree f)) number
    (among_told fs i f less is) numbered closed (λ j. Decides measure calls fs f j) (λ j there needs. (there, needs))
    none

-- Distinct ones of some numbers are at most as many.

abbrev without : ℕ → List ℕ → List ℕ
without n [] = []
without n (k ∷ ks) = if n == k then ks else k ∷ without n ks

one_less_by : (b : Bool) (n k : ℕ) (ks : List ℕ) → (n == k) ≡ b → (n ≡ k) ⊎ IsAmong n ks →
    (IsAmong n ks → length ks ≡ suc (length (without n ks))) →
    suc (length ks) ≡ suc (length (if b then ks else k ∷ without n ks))
one_less_by true n k ks test among later = refl
one_less_by false n k ks test (inl same) later = absurd (grind (arith, nat_tests, same, test))
one_less_by false n k ks test (inr rest) later = ap suc (later rest)

one_less : (n : ℕ) (ks : List ℕ) → IsAmong n ks → length ks ≡ suc (length (without n ks))
one_less n [] among = absurd among
one_less n (k ∷ ks) among = one_less_by (n == k) n k ks refl among (λ rest. one_less n ks rest)

others_stay_by : (b : Bool) (n m k : ℕ) (ks : List ℕ) → (n == k) ≡ b → (m ≡ n → ⊥) → (m ≡ k) ⊎ IsAmong m ks →
    (IsAmong m ks → IsAmong m (without n ks)) → IsAmong m (if b then ks else k ∷ without n ks)
others_stay_by true n m k ks test apart (inl is) later = absurd (apart (grind (arith, nat_tests, test, is)))
others_stay_by true n m k ks test apart (inr rest) later = rest
others_stay_by false n m k ks test apart (inl is) later = inl is
others_stay_by false n m k ks test apart (inr rest) later = inr (later rest)

others_stay : (n m : ℕ) (ks : List ℕ) → (m ≡ n → ⊥) → IsAmong m ks → IsAmong m (without n ks)
others_stay n m [] apart among = absurd among
others_stay n m (k ∷ ks) apart among =
    others_stay_by (n == k) n m k ks refl apart among (λ rest. others_stay n m ks apart rest)

at_most_as_many : (ks ns : List ℕ) → AreDistinct ks → ((k : ℕ) → IsAmong k ks → IsAmong k ns) →
    length ks ≤ length ns
at_most_as_many [] ns once among = omega arith
at_most_as_many (k ∷ ks) ns once among =
    let fewer = one_less k ns (among k (inl refl)) in
    let rest = at_most_as_many ks (without k ns) once.1
    (λ j is. others_stay k j ns (λ same. once.0 (subst (λ (i : ℕ). IsAmong i ks) same is)) (among j (inr is))) in
    omega (arith, fewer, rest)

module _ (measure : Measure) (calls : Calls) (fs : List UnnamedFunction) where
  -- each of these numbers is linked to the one after it, and the last one to this
  abbrev pub LeadsTo : List ℕ → ℕ → Type 0
  LeadsTo [] n = Unit {0}
  LeadsTo (k ∷ []) n = IsLink measure calls fs k n
  LeadsTo (k ∷ (j ∷ ks)) n = IsLink measure calls fs k j × LeadsTo (j ∷ ks) n

  pub linked_more : (ks : List ℕ) (n : ℕ) → LeadsTo ks n → AreLinked measure calls fs (ks ++ n ∷ [])
  linked_more [] n leads = tt
  linked_more (k ∷ []) n leads = (leads, tt)
  linked_more (k ∷ (j ∷ ks)) n leads = (leads.0, linked_more (j ∷ ks) n leads.1)

  pub leads_on : (ks : List ℕ) (n j : ℕ) → LeadsTo ks n → IsLink measure calls fs n j → LeadsTo (ks ++ n ∷ []) j
  leads_on [] n j leads link = link
  leads_on (k ∷ []) n j leads link = (leads, link)
  leads_on (k ∷ (i ∷ ks)) n j leads link = (leads.0, leads_on (i ∷ ks) n j leads.1 link)

  -- what is known of a chain and of the function after it
  pub record IsBegun (main : ℕ) (chain : List ℕ) (next : Option ℕ) : Type 0 where
    pub begins : Begins main chain
    pub linked : AreLinked measure calls fs chain
    pub leads : IfSome next (LeadsTo chain)

  leads_next : (ks : List ℕ) (n : ℕ) (next : Option ℕ) → LeadsTo ks n → IfSome next (IsLink measure calls fs n) →
      IfSome next (LeadsTo (ks ++ n ∷ []))
  leads_next ks n None leads link = tt
  leads_next ks n (Some j) leads link = leads_on ks n j leads link

  begins_more : (main : ℕ) (ks : List ℕ) (n : ℕ) → Begins main ks → Begins main (ks ++ n ∷ [])
  begins_more main [] n begins = absurd begins
  begins_more main (k ∷ ks) n begins = begins

  pub begun : (main : ℕ) (old new : List ℕ) (next : Option ℕ) → old ≡ [] → new ≡ old ++ main ∷ [] →
      IfSome next (IsLink measure calls fs main) → IsBegun main new next
  begun main old new next empty added link =
      let is : new ≡ main ∷ [] = added ∙ ap (λ (ks : List ℕ). ks ++ main ∷ []) empty in
      subst (λ (ks : List ℕ). IsBegun main ks next) (sym is)
      (record { begins = refl; linked = tt; leads = leads_next [] main next tt link })

  pub begun_more : (main n : ℕ) (old new : List ℕ) (before next : Option ℕ) → IsBegun main old before →
      before ≡ Some n → new ≡ old ++ n ∷ [] → IfSome next (IsLink measure calls fs n) → IsBegun main new next
  begun_more main n old new before next begun is added link =
      let leads : LeadsTo old n = subst (λ (o : Option ℕ). IfSome o (LeadsTo old)) is begun.leads in
      subst (λ (ks : List ℕ). IsBegun main ks next) (sym added)
      (record {
        begins = begins_more main old n begun.begins;
        linked = linked_more old n leads;
        leads = leads_next old n next leads link;
      })

module _ (measure : Measure) (calls : Calls) (fs : List UnnamedFunction) where
  -- a chain of this many functions, each there once, before the next one
  pub record IsUnfinished (chain : List ℕ) (many next : ℕ) : Type 0 where
    pub once : AreDistinct chain
    pub long : length chain ≡ many
    pub within : (k : ℕ) → IsAmong k chain → IsAmong k (numbers fs)
    pub there : IsAmong next (numbers fs)

  -- or one that is whole
  abbrev pub IsSoFar : List ℕ → ℕ → Option ℕ → Type 0
  IsSoFar chain many None = IsWhole measure calls fs chain
  IsSoFar chain many (Some n) = IsUnfinished chain many n

  begins_alone : (main : ℕ) → IsAmong main (numbers fs) → IsUnfinished [] 0 main
  begins_alone main among = record { once = tt; long = refl; within = λ k is. absurd is; there = among }

  grows : (old : List ℕ) (many n : ℕ) (next : Option ℕ) → CallNoOthers fs → IsUnfinished old many n →
      IfSome next (IsLink measure calls fs n) → IfSome next (λ j. IsAmong n old → ⊥) →
      (next ≡ None → MayEnd measure calls fs old n) → IsSoFar (old ++ n ∷ []) (many + 1) next
  grows old many n None closed is link new ends =
      record { before = old; last = n; is = refl; once = is.once; ends = ends refl closed is.there }
  grows old many n (Some j) closed is link new ends = record {
    once = distinct_append old n is.once new;
    long = omega (arith, is.long, length-append old (n ∷ []));
    within = λ k among. by k (among_append k n old among);
    there = link.there;
  }
    where
      by : (k : ℕ) → IsAmong k old ⊎ (k ≡ n) → IsAmong k (numbers fs)
      by k (inl among) = is.within k among
      by k (inr same) = subst (λ (i : ℕ). IsAmong i (numbers fs)) (sym same) is.there

  -- after a first function
  pub grown : (main : ℕ) (old new : List ℕ) (next : Option ℕ) → old ≡ [] → new ≡ old ++ main ∷ [] →
      IfSome next (IsLink measure calls fs main) → IfSome next (λ j. IsAmong main old → ⊥) →
      (next ≡ None → MayEnd measure calls fs old main) → CallNoOthers fs → IsAmong main (numbers fs) →
      IsSoFar new 1 next
  grown main old new next empty added link apart ends closed among =
      let first : IsUnfinished old 0 main =
      subst (λ (ks : List ℕ). IsUnfinished ks 0 main) (sym empty) (begins_alone main among) in
      subst (λ (ks : List ℕ). IsSoFar ks 1 next) (sym added) (grows old 0 main next closed first link apart ends)

  -- after one more
  pub grown_more : (n many : ℕ) (old new : List ℕ) (before next : Option ℕ) → before ≡ Some n →
      new ≡ old ++ n ∷ [] → IfSome next (IsLink measure calls fs n) → IfSome next (λ j. IsAmong n old → ⊥) →
      (next ≡ None → MayEnd measure calls fs old n) → CallNoOthers fs → IsSoFar old many before →
      IsSoFar new (many + 1) next
  grown_more n many old new before next is added link apart ends closed so_far =
      let unfinished : IsUnfinished old many n = subst (λ (o : Option ℕ). IsSoFar old many o) is so_far in
      subst (λ (ks : List ℕ). IsSoFar ks (many + 1) next) (sym added)
      (grows old many n next closed unfinished link apart ends)

  -- after as many as there are functions, and one
  pub is_whole : (chain : List ℕ) (many : ℕ) (next : Option ℕ) → length fs < many → IsSoFar chain many next →
      IsWhole measure calls fs chain
  is_whole chain many None more whole = whole
  is_whole chain many (Some n) more unfinished =
      let most = at_most_as_many chain (numbers fs) unfinished.once unfinished.within in
      let there = length-map fs (λ (f : UnnamedFunction). f.number) in
      absurd (omega (arith, most, there, more, unfinished.long))

-- a chain by the needs of a table
pub chain_is : (p : Profile) (fs : List Function) (main : ℕ) (measure : Measure) (calls : Calls) (need : Option Room)
    (chain : List ℕ) (next : Option ℕ) → calls.short ≡ p.short_circuit →
    calls.needs ≡ table_within p.short_circuit (told_trees fs) (length fs) → measure ≡ scarce p need →
    need ≡ slice_index_or calls.needs main need → main < length calls.needs →
    IsBegun measure calls (told_trees fs) main chain next → IsWhole measure calls (told_trees fs) chain →
    IsChain p (told_trees fs) main chain
chain_is p fs main measure calls need chain next short needs by reads less begun whole =
    let many : length (told_trees fs) ≡ length fs =
    length-map fs (λ (f : Function). without_names f.number (function_tree f)) in
    let table : calls.needs ≡ table_within p.short_circuit (told_trees fs) (length (told_trees fs)) =
    needs ∙ ap (λ (n : ℕ). table_within p.short_circuit (told_trees fs) n) (sym many) in
    let all : calls ≡ all_needed p (told_trees fs) = λ i. record { short = short i; needs = table i } in
    let need_is : need ≡ needs_in calls.needs main = reads ∙ get_or_default calls.needs main need None less in
    let measured : measure ≡ scarce p (needs_in (all_needed p (told_trees fs)).needs main) =
    by ∙ ap (scarce p) need_is ∙ ap (λ (c : Calls). scarce p (needs_in c.needs main)) all in
    record {
      begins = begun.begins;
      linked =
          subst (λ (c : Calls).
          AreLinked (scarce p (needs_in (all_needed p (told_trees fs)).needs main)) c (told_trees fs) chain) all
          (subst (λ (m : Measure). AreLinked m calls (told_trees fs) chain) measured begun.linked);
      whole =
          subst (λ (c : Calls).
          IsWhole (scarce p (needs_in (all_needed p (told_trees fs)).needs main)) c (told_trees fs) chain) all
          (subst (λ (m : Measure). IsWhole m calls (told_trees fs) chain) measured whole);
    }

pub kept_so_far : (measure : Measure) (calls : Calls) (fs : List UnnamedFunction) (one other : List ℕ) (many : ℕ)
    (next last : Option ℕ) → one ≡ other → next ≡ last → IsSoFar measure calls fs other many last →
    IsSoFar measure calls fs one many next
kept_so_far measure calls fs one other many next last chains functions so_far =
    subst (λ (ks : List ℕ). IsSoFar measure calls fs ks many next) (sym chains)
    (subst (λ (o : Option ℕ). IsSoFar measure calls fs other many o) (sym functions) so_far)

-- the same chain and the same function after it
pub kept : (measure : Measure) (calls : Calls) (fs : List UnnamedFunction) (main : ℕ) (one other : List ℕ)
    (next last : Option ℕ) →
    one ≡ other → next ≡ last → IsBegun measure calls fs main other last → IsBegun measure calls fs main one next
kept measure calls fs main one other next last chains functions begun =
    subst (λ (ks : List ℕ). IsBegun measure calls fs main ks next) (sym chains)
    (subst (λ (o : Option ℕ). IsBegun measure calls fs main other o) (sym functions) begun)
