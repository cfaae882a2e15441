-- Words that the command takes name at least one file.
use Rattle.std.proofs.Common.{◌≡◌, ◌⊎◌, ◌∙◌, ℕ, zero, suc, ◌<◌, Bool, true, false, true≢false, not, nat_lt, List, [], ◌∷◌, map, length, codes, ap, refl, sym, subst, inl, inr, Option, Some, None, is_some, option_map, arith, ◌||◌, ◌&&◌}
use Rattle.std.specs.Option.{unwrap_or}
use Rattle.std.specs.List.{Any, list_all, slice_index_or}
use Rattle.std.specs.Str.{bytes_eq}
use Rattle.std.specs.Borrow.{Bor}
use Rattle.std.proofs.lemmas.List.{get_or-map, length-map}
use Rattle.std.proofs.lemmas.Slice.Eq.{bytes_eq-Decides}
use Rattle.clap.specs.Words.{BuildsTo, IsParsed, IsParsedFrom, IsPlain, Rule, Text, all_of, app_of, args_of, built, found_of, groups_of, has_subcommand, is_buildable, matched_of, raw_values, rows_of, rule_of}
use Rattle.clap.specs.Facts.{AllowsNone, Entry, EntryPasses, IsCountArg, MayBeEmpty, least_values, unwrap_or_range}
use Rattle.clap.specs.Walk.{action_of, is_empty, is_simple_arg}
use Rattle.clap.specs.Simple.{App, IsSimple, is_ready, is_ready_leaf}
use Rattle.clap.specs.Faults.{has_free_rules}
use Rattle.clap.specs.declared.builder.action.ArgAction.{ArgAction}
use Rattle.clap.specs.declared.builder.action.ArgAction.TheVariants.{Count, Set}
use Rattle.clap.specs.declared.builder.arg.Arg.{Arg}
use Rattle.clap.specs.declared.builder.command.Command.{Command}
use Rattle.clap.specs.declared.builder.command.Command.TheViews.{out-Command}
use Rattle.clap.specs.declared.parser.matches.ArgMatches.{ArgMatches}
use Rattle.clap.specs.declared.parser.matches.MatchedArg.{MatchedArg}
use Rattle.clap.proofs.CallerLemmas.{entry_by_id, present_has_entry, required_present}
use Rattle.clap.proofs.FaultLemmas.{free_args}
use Rattle.clap.proofs.SimpleLemmas.{ready_simple, simple_groups}
use Rattle.clap.proofs.WalkLemmas.{both, raw_values-rows}
use Rattle.arguments.specs.CommandLine.{files_rule, crobots_app}
use Rattle.arguments.specs.Asked.{files_in}

-- what the command is

ready : is_ready crobots_app.top ≡ true
unfolding crobots_app
ready = refl

no_subcommands : list_all is_ready_leaf crobots_app.subs ≡ true
unfolding crobots_app
no_subcommands = refl

free_rules : has_free_rules crobots_app.top ≡ true
unfolding crobots_app
free_rules = refl

buildable : is_buildable crobots_app ≡ true
unfolding crobots_app
buildable = refl

simple_rules : list_all (λ (r : Rule). r.is_simple) crobots_app.top.rules ≡ true
unfolding crobots_app
simple_rules = refl

keeps_requirements : crobots_app.top.subcommand_negates_reqs ≡ false
unfolding crobots_app
keeps_requirements = refl

seven_rules : length crobots_app.top.rules ≡ 7
unfolding crobots_app
seven_rules = refl

last_rule : (r : Rule) → slice_index_or crobots_app.top.rules 6 r ≡ files_rule (codes "FILE")
unfolding crobots_app
last_rule r = refl

-- a rule of the files takes a value at each use, and neither counts nor splits

abbrev is_count : ArgAction → Bool
is_count Count = true
is_count _ = false

abbrev takes_one : Rule → Bool
takes_one r = nat_lt 0 (unwrap_or_range r.range).start_inclusive && (not (is_count (action_of r)) && r.is_simple)

abbrev takes_file : Rule → Bool
takes_file r = not (bytes_eq r.id (codes "FILE")) || takes_one r

before_building : list_all takes_file crobots_app.top.rules ≡ true
unfolding crobots_app
before_building = refl

after_building : list_all takes_file (built crobots_app).top.rules ≡ true
unfolding crobots_app
after_building = refl

each_rule : (p : Rule → Bool) (xs : List Arg) → list_all p (map rule_of xs) ≡ true → (k : ℕ) (d : Arg) → k < length xs
    → p (rule_of (slice_index_or xs k d)) ≡ true
each_rule p [] all k d lt = absurd (omega arith)
each_rule p (x ∷ xs) all zero d lt = (both _ _ all).0
each_rule p (x ∷ xs) all (suc k) d lt = each_rule p xs (both _ _ all).1 k d (omega arith)

takes_one_here : (a : Arg) → takes_file (rule_of a) ≡ true → a.id.now ≡ codes "FILE" → takes_one (rule_of a) ≡ true
takes_one_here a takes same =
    let is : bytes_eq a.id.now (codes "FILE") ≡ true = (bytes_eq-Decides a.id.now (codes "FILE")).1 same in
    rw is at takes

-- an argument of the command with this id, and such a rule
at_id : (c : Command) (P : Arg → Type 0) (id : Text) → list_all takes_file (map rule_of (args_of c)) ≡ true →
    id ≡ codes "FILE"
    → Any (λ a. (bytes_eq a.id.now id ≡ true) × P a) (args_of c) → (a : Arg) × (takes_one (rule_of a) ≡ true) × P a
at_id c P id rules is any =
    let a = any.1 in
    let takes : takes_file (rule_of a) ≡ true =
    subst (λ (x : Arg). takes_file (rule_of x) ≡ true) any.3 (each_rule takes_file (args_of c) rules any.0 a any.2) in
    (a, takes_one_here a takes ((bytes_eq-Decides a.id.now id).0 any.4.0 ∙ is), any.4.1)

no_count : (c : Command) (id : Text) → list_all takes_file (map rule_of (args_of c)) ≡ true → id ≡ codes "FILE" →
    IsCountArg c id → ⊥
no_count c id rules is any =
    let found = at_id c (λ a. unwrap_or a.action Set ≡ Count) id rules is any in
    let plain : not (is_count (unwrap_or found.0.action Set)) ≡ true = (both _ _ (both _ _ found.1).1).0 in
    let other : not (is_count Count) ≡ true = rw found.2 at plain in
    true≢false (sym other)

never_splits : (a : Arg) → is_simple_arg a ≡ true → not (is_some a.val_delim) ≡ true
never_splits a simple =
    let ifs = (both (is_empty a.overrides.items) _ simple).1 in
    let groups = (both (is_empty a.default_vals_ifs.items) _ ifs).1 in
    let delimiter = (both (is_empty a.groups.items) _ groups).1 in
    (both (not (is_some a.val_delim)) _ delimiter).0

never_empty : (c : Command) (id : Text) → list_all takes_file (map rule_of (args_of c)) ≡ true → id ≡ codes "FILE" →
    AllowsNone c id → ⊥
never_empty c id rules is any =
    let found = at_id c MayBeEmpty id rules is any in
    let least : nat_lt 0 (least_values found.0) ≡ true = (both _ _ found.1).0 in
    let simple : is_simple_arg found.0 ≡ true = (both _ _ (both _ _ found.1).1).1 in
    let whole : not (is_some found.0.val_delim) ≡ true = never_splits found.0 simple in
    elim found.2 [
      | inl none ↦
          let bad : nat_lt 0 0 ≡ true = rw none at least in
          true≢false (sym bad)
      | inr splits ↦
          let bad : not true ≡ true = rw splits at whole in
          true≢false (sym bad)
    ]

simple_command : (c : Command) → app_of c ≡ crobots_app → IsSimple c
simple_command c is =
    ready_simple c (ap (λ (a : App). is_ready a.top) is ∙ ready)
    (ap (λ (a : App). list_all is_ready_leaf a.subs) is ∙ no_subcommands)

-- nothing in the command excludes anything
plain_command : (c : Command) → app_of c ≡ crobots_app → IsSimple c → IsPlain c
plain_command c is simple =
    let free = free_args c simple (ap (λ (a : App). has_free_rules a.top) is ∙ free_rules) in
    let groups =
    simple_groups c (ap (λ (a : App). list_all (λ (r : Rule). r.is_simple) a.top.rules) is ∙ simple_rules) in (
      (λ k d lt. ((free k d lt).exclusive, (free k d lt).conflicts, (free k d lt).overrides, groups k d lt)),
      simple.groups,
    )

an_arg : (xs : List Arg) → 0 < length xs → Arg
an_arg [] some = absurd (omega arith)
an_arg (x ∷ xs) some = x

-- the words gave at least one file: the argument is required
files_present : (old new : Command) (m : ArgMatches) → app_of old ≡ crobots_app → BuildsTo old new →
    IsParsed new (found_of m) (has_subcommand m)
    → is_some (matched_of (found_of m) (codes "FILE")) ≡ true
files_present old new m is builds parsed =
    let simple = simple_command old is in
    let from : IsParsedFrom old m = record { built = new; from = builds; parsed = λ _. parsed } in
    let count : length (args_of old) ≡ 7 =
    sym (length-map (args_of old) rule_of) ∙ (ap (λ (a : App). length a.top.rules) is ∙ seven_rules) in
    let d = an_arg (args_of old) (omega arith) in
    let rule : rule_of (slice_index_or (args_of old) 6 d) ≡ files_rule (codes "FILE") =
    sym (get_or-map rule_of (args_of old) 6 d (rule_of d) (omega arith)) ∙
    (ap (λ (a : App). slice_index_or a.top.rules 6 (rule_of d)) is ∙ last_rule (rule_of d)) in
    let present = required_present old m from (plain_command old is simple) simple.globals
    (ap (λ (a : App). a.top.subcommand_negates_reqs) is ∙ keeps_requirements) 6 d (omega arith)
    (ap (λ (r : Rule). r.required) rule) in
    let id : (slice_index_or (args_of old) 6 d).id.now ≡ codes "FILE" = ap (λ (r : Rule). r.id) rule in
    present_has_entry (found_of m) (codes "FILE") (rw id at present)

-- an entry of the files has a value
entry_filled : (old new : Command) (e : Entry) → app_of old ≡ crobots_app → BuildsTo old new →
    list_all takes_file (map rule_of (args_of new)) ≡ true
    → bytes_eq e.0.now (codes "FILE") ≡ true → EntryPasses new e → 0 < length e.1.vals.items
entry_filled old new e is builds rules key passes =
    let simple = simple_command old is in
    let no_groups : groups_of new ≡ [] = (builds.plain (plain_command old is simple)).1 in
    let id : e.0.now ≡ codes "FILE" = (bytes_eq-Decides e.0.now (codes "FILE")).0 key in
    elim passes.1 [
      | inl group ↦ elim group.1 [
        | inl empty ↦
            let bad : false ≡ true = rw empty at key in
            absurd (true≢false (sym bad))
        | inr some ↦
            let bad : 0 < 0 = rw no_groups at some in
            absurd (omega arith)
      ]
      | inr (inl some) ↦ some
      | inr (inr (inl counts)) ↦ absurd (no_count new e.0.now rules id counts.1)
      | inr (inr (inr none)) ↦ absurd (never_empty new e.0.now rules id none)
    ]

rules_of_built : (old new : Command) → app_of old ≡ crobots_app
    → (app_of new ≡ app_of old) ⊎ (is_buildable (app_of old) ≡ true → app_of new ≡ built (app_of old))
    → list_all takes_file (map rule_of (args_of new)) ≡ true
rules_of_built old new is (inl same) = ap (λ (a : App). list_all takes_file a.top.rules) (same ∙ is) ∙ before_building
rules_of_built old new is (inr after) =
    ap (λ (a : App). list_all takes_file a.top.rules) (after (ap is_buildable is ∙ buildable) ∙ ap built is) ∙
    after_building

-- so the matches have at least one file
pub files_given : (old new : Command) (m : ArgMatches) → app_of old ≡ crobots_app → BuildsTo old new
    → ((out-Command new).has_globals ≡ false → IsParsed new (found_of m) (has_subcommand m))
    → (app_of new ≡ app_of old) ⊎ (is_buildable (app_of old) ≡ true → app_of new ≡ built (app_of old))
    → 0 < length (files_in (rows_of (found_of m)))
files_given old new m is builds parses shape =
    let parsed = parses (builds.globals ∙ (simple_command old is).globals) in
    go parsed (matched_of (found_of m) (codes "FILE")) refl (files_present old new m is builds parsed)
  where
    go : IsParsed new (found_of m) (has_subcommand m) → (o : Option MatchedArg) →
        matched_of (found_of m) (codes "FILE") ≡ o → is_some (matched_of (found_of m) (codes "FILE")) ≡ true
        → 0 < length (files_in (rows_of (found_of m)))
    go parsed None none some =
        let bad : false ≡ true = rw none at some in
        absurd (true≢false (sym bad))
    go parsed (Some a) one some =
        let got = entry_by_id (EntryPasses new) (found_of m).entries.items (codes "FILE") a parsed.values one in
        let filled : 0 < length got.0.1.vals.items =
        entry_filled old new got.0 is builds (rules_of_built old new is shape) got.2 got.3 in
        let values : 0 < length a.vals.items = rw got.1 at filled in
        let files : Some (raw_values a) ≡ all_of (codes "FILE") (rows_of (found_of m)) =
        sym (ap (option_map raw_values) one) ∙ raw_values-rows (found_of m) (codes "FILE") in
        rw (← files) (omega (arith, length-map a.vals.items (λ (v : Bor Text). v.now), values))
