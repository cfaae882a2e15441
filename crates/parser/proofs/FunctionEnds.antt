-- A function's end: one step of the derivation that emits three actions, and the fault 'too much code'.
use Rattle.std.proofs.Common.{◌≡◌, ℕ, ◌+◌, ◌<◌, ◌≤◌, List, [], ◌∷◌, ◌++◌, refl, sym, ap, ◌∙◌, subst, true, false, append_assoc, length, arith}
use Rattle.std.proofs.lemmas.Bool.Decides.{nat_tests}
use Rattle.std.specs.Prelude.{nat_lt}
use Rattle.tokens.specs.declared.located_tokens.LocatedToken.{LocatedToken}
use Rattle.tokens.specs.declared.located_tokens.Punctuator.TheVariants as punctuator
use Rattle.grammar.specs.declared.actions.Action.{Action}
use Rattle.grammar.specs.declared.actions.Action.TheVariants.{BeginFunction, EndFunction}
use Rattle.grammar.specs.declared.diagnostics.Code.TheVariants as fault_code
use Rattle.grammar.specs.declared.diagnostics.ParseFault.{ParseFault}
use Rattle.grammar.specs.declared.diagnostics.ParseFault.TheVariants as parse_fault
use Rattle.grammar.specs.Actions.{body_actions, code_length, function_actions, last_return}
use Rattle.grammar.specs.Beginning.{IsBeginning, definitions_actions}
use Rattle.grammar.specs.Building.{Representation, MayFollowAll}
use Rattle.grammar.specs.Compiled.{diagnostic}
use Rattle.grammar.specs.Derivation.{State, PartialTree, Definition, definition_of, initial_state, last_body, next_token}
use Rattle.grammar.specs.Faults.{definitions_length, is_too_long}
use Rattle.grammar.specs.Grammar.{Item, Define, Exactly, Make, is_lexical_error, is_punctuator}
use Rattle.grammar.specs.Laws.Parsing.{DerivesWithoutFault as Clean, Fails}
use Rattle.grammar.specs.Laws.StateParts.{state}
use Rattle.grammar.specs.Profile.{Profile}
use Rattle.grammar.specs.Scope.{Scope, end_definition}
use Rattle.grammar.specs.Tree.{Body}
use Rattle.grammar.proofs.Firsts.{too_long}
use Rattle.grammar.proofs.Lengths.{code_length-append, definitions_lengths}
use Rattle.grammar_laws.proofs.Emitted.{AtEnd, at_end}
use Rattle.parser.specs.FunctionEnds.{ClosesFunction, IsTooMuch, RefusesEnd, end_actions}
use Rattle.parser.specs.Paths.{HasTold, Leads, Origin, Path, Refused}
use Rattle.parser.specs.ScopedCursors.{MayContinue, ScopedCursor, next_at, scope_of, taken_at, token_of, with_scope}
use Rattle.parser.specs.Segment.{TakesTokens}
use Rattle.parser.specs.Stopping.{Stops, stop_with}
use Rattle.parser.proofs.Built.{definitions_actions-append}
use Rattle.parser.proofs.PathLaws.{leads_more, out_of_memory}
use Rattle.parser.proofs.Segments.{Begins, functions_back, functions_here, goes_begins, near_told, stops_back, stops_here, told_begins, told_goes}

-- the code of functions and one more is what was reported up to its return
code_with : (p : Profile) (functions : List Definition) (scope : Scope) (body : Body) (parameters number : ℕ) →
    definitions_length p (functions ++ definition_of scope body ∷ []) ≡
    code_length p
    (((definitions_actions functions ++ BeginFunction number parameters ∷ []) ++ body_actions body) ++
    last_return)
code_with p functions scope body parameters number =
    let d : Definition = definition_of scope body in
    let finish : List Action = last_return ++ EndFunction (length scope.current.variables) ∷ [] in
    let reported : List Action = definitions_actions functions ++ BeginFunction number parameters ∷ [] in
    sym (definitions_lengths p (functions ++ d ∷ []))
    ∙ ap (code_length p) (definitions_actions-append functions (d ∷ []))
    ∙ code_length-append p (definitions_actions functions) (function_actions d.number d.function ++ [])
    ∙
    omega (
      arith,
      code_length-append p (function_actions d.number d.function) [],
      code_length-append p (body_actions body) finish,
      code_length-append p (reported ++ body_actions body) last_return,
      code_length-append p reported (body_actions body),
      code_length-append p (definitions_actions functions) (BeginFunction number parameters ∷ []),
    )

within_limit : (profile : Profile) (n m : ℕ) → n ≡ m → m + 1 ≤ profile.instructions →
    nat_lt profile.instructions (n + 1) ≡ false
within_limit profile n m e h = grind (arith, nat_tests)

past_limit : (profile : Profile) (n m : ℕ) → n ≡ m → profile.instructions < m + 1 →
    nat_lt profile.instructions (n + 1) ≡ true
past_limit profile n m e h = grind (arith, nat_tests)

-- how long the code is with the function that ends
measured : (profile : Profile) (n : ℕ) (ls : List LocatedToken) (stack : List Item) (rest : List LocatedToken)
    (values : List PartialTree) (acts : List Action) (scope : Scope) (functions : List Definition) →
    Leads profile n ls (state (Make Define ∷ stack) rest values scope functions) acts →
    definitions_length profile (functions ++ definition_of scope (last_body values) ∷ []) ≡
    code_length profile (acts ++ last_return)
measured profile n ls stack rest values acts scope functions l =
    let e : AtEnd n ls values scope functions =
    at_end profile n ls stack rest values scope functions l.clean l.comes in
    code_with profile functions scope (last_body values) scope.current.parameters scope.number
    ∙ ap (λ (xs : List Action). code_length profile (xs ++ last_return))
    (append_assoc (definitions_actions functions) (BeginFunction scope.number scope.current.parameters ∷ [])
    (body_actions (last_body values)) ∙ e.reported ∙ l.emits)

module _ {o : Origin} {stack : List Item} {values : List PartialTree} {acts : List Action} {at : ScopedCursor} where
  -- The builder says that the code is too long: so it is, at the closing brace.
  too_much : {denied : Type 0} {told : List Action → Type 0} →
      Path o (Make Define ∷ Exactly punctuator.CloseCurly ∷ stack) values acts at →
      is_punctuator punctuator.CloseCurly (token_of at) ≡ true →
      o.profile.instructions < code_length o.profile (acts ++ last_return) + 1 →
      Refused o denied told (parse_fault.Source (diagnostic (next_at at.position).line fault_code.TooMuchCode)) at
  too_much p fits over = record {
    acts = acts;
    ended = record {
      stops = λ ls is.
          let t : TakesTokens p.consumed ls at.position = p.told ls is in
          let here : State = state (Make Define ∷ Exactly punctuator.CloseCurly ∷ stack) t.rest values (scope_of at)
          p.functions in
          let l : Leads o.profile p.steps (p.consumed ++ t.rest) here acts =
          p.follows t.rest (told_goes at.position t.rest t.shows) in
          let x : Begins at.position.lookahead.cursor t.rest = told_begins at.position t.rest t.shows in
          let long : is_too_long o.profile (p.functions ++ definition_of (scope_of at) (last_body values) ∷ []) ≡ true =
          past_limit o.profile _ _ (measured o.profile p.steps _ _ _ values acts (scope_of at) p.functions l) over in
          let fails : Fails o.profile here (diagnostic (next_at at.position).line fault_code.TooMuchCode) =
          rw x.is
          (too_long o.profile stack (next_at at.position) x.tail values (scope_of at) p.functions p.ready.sound fits
          (rw long refl)) in
          let few = near_told at.position t.rest (taken_at at.position) t.shows p.ready.near in
          let stop : Stops o.profile here
          (stop_with (parse_fault.Source (diagnostic (next_at at.position).line fault_code.TooMuchCode))
          (taken_at at.position)) =
          stops_here o.profile _ _ fails few in
          let clean : Clean o.profile (initial_state (p.consumed ++ t.rest)) here =
          record { steps = p.steps; leads = l.comes; clean = l.clean } in
          rw t.is (record {
            stops = stops_back o.profile _ _ _ p.consumed refl clean stop;
            steps = p.steps;
            emits = l.emits;
            functions = functions_back o.profile _ _ _ p.consumed refl clean stop
                ∙ functions_here o.profile _ _ fails few ∙ sym (ap (λ (v : State). v.functions) l.comes);
          });
      borrows = p.borrows;
      account = p.account;
      took = p.took;
    };
    leaves = tt;
  }

module _ {o : Origin} {began before : Representation} {stack : List Item} {values : List PartialTree}
    {acts : List Action}
    {at : ScopedCursor} where
  -- it may be reported, though the code may be too long
  pub end_follows : Path o (Make Define ∷ stack) values acts at → HasTold began before acts → began o.profile [] →
      MayFollowAll before (end_actions (length (scope_of at).current.variables))
  end_follows p told new =
      let l : Leads o.profile p.steps _ _ acts = p.follows _ (record { behind = []; is = refl }) in
      let e : AtEnd p.steps _ values (scope_of at) p.functions =
      at_end o.profile p.steps _ stack _ values (scope_of at) p.functions l.clean l.comes in
      record {
        profile = o.profile;
        acts = acts;
        stood = told.each o.profile new;
        begins = subst IsBeginning (rw (l.emits, l.comes, p.ready.sound) refl) e.begins;
      }

  -- the end of a function was refused
  pub end_refused : {denied : Type 0} {left : List Action → Type 0} (f : ParseFault) →
      Path o (Make Define ∷ Exactly punctuator.CloseCurly ∷ stack) values acts at →
      is_punctuator punctuator.CloseCurly (token_of at) ≡ true → HasTold began before acts → began o.profile [] →
      RefusesEnd before (next_at at.position).line denied f → Refused o denied left f at
  end_refused (parse_fault.Source d) p fits told new r =
      let m : IsTooMuch before (next_at at.position).line d = r in
      rw m.is (too_much p fits (m.over o.profile acts (told.each o.profile new)))
  end_refused parse_fault.Device p fits told new r = absurd r
  end_refused parse_fault.Memory p fits told new r = out_of_memory p r

  -- The function's end was reported, and the code is short enough: the derivation goes past it.
  pub function_ends : {after : Representation} → Path o (Make Define ∷ stack) values acts at →
      HasTold began before acts → began o.profile [] →
      ClosesFunction before after (length (scope_of at).current.variables) →
      Path o stack [] (acts ++ end_actions (length (scope_of at).current.variables))
      (with_scope (end_definition (scope_of at)) at)
  function_ends p told new closes = record {
    consumed = p.consumed;
    steps = p.steps + 1;
    functions = p.functions ++ definition_of (scope_of at) (last_body values) ∷ [];
    told = λ ls is. let t = p.told ls is in record { rest = t.rest; is = t.is; shows = t.shows };
    follows = λ rest more.
        let g : MayContinue at.position rest = record { behind = more.behind; is = more.is } in
        let l : Leads o.profile p.steps (p.consumed ++ rest)
        (state (Make Define ∷ stack) rest values (scope_of at) p.functions) acts = p.follows rest g in
        let x : Begins at.position.lookahead.cursor rest = goes_begins at.position rest g in
        let short : is_too_long o.profile (p.functions ++ definition_of (scope_of at) (last_body values) ∷ []) ≡ false =
        within_limit o.profile _ _ (measured o.profile p.steps _ _ _ values acts (scope_of at) p.functions l)
        (closes.fits o.profile acts (told.each o.profile new)) in
        let sound : is_lexical_error (next_token rest) ≡ false = rw x.is p.ready.sound in
        leads_more o.profile p.steps _ _ _ acts (end_actions (length (scope_of at).current.variables)) l
        (record { leads = rw sound refl; clean = rw (sound, short) refl; emits = rw sound refl });
    borrows = p.borrows;
    account = p.account;
    took = p.took;
    ready = record { sound = p.ready.sound; near = p.ready.near; count = p.ready.count };
  }
