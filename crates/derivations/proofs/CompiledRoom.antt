-- Of a source that compiles there is room for the position of each instruction, and these are as many as its program's.
use Rattle.std.proofs.Common.{◌≡◌, ℕ, zero, suc, ◌+◌, ◌≤◌, List, [], ◌∷◌, ◌++◌, refl, sym, ap, ◌∙◌, subst, Bool, true, false, arith, le_refl, length, length-append, append-nil, append_assoc, zero-add, suc-add}
use Rattle.std.proofs.lemmas.List.{length-replicate}
use Rattle.std.specs.Prelude.{◌-◌, Option, Some, None, Ok, unwrap_or, if◌then◌else◌}
use Rattle.tokens.specs.Tokens.{tokens}
use Rattle.tokens.specs.declared.located_tokens.LocatedToken.{LocatedToken}
use Rattle.grammar.proofs.Endings.{IsFinal, ends, final_stays}
use Rattle.grammar.proofs.Lengths.{code_length-append}
use Rattle.grammar.proofs.ResolvedLaws.{compiled_is_resolved, is_clean}
use Rattle.grammar.proofs.Runs.{append_empty, derived-add, faults_in-add}
use Rattle.grammar.proofs.Verdicts.{weighs}
use Rattle.grammar.proofs.Weight.{weight}
use Rattle.grammar.specs.Actions.{actions, code_length}
use Rattle.grammar.specs.Compiled.{all_faults, compiled, compiled_tokens, enough_steps, last_state}
use Rattle.grammar.specs.Derivation.{State, derived, initial_state, next_token, stack_step, stepped}
use Rattle.grammar.specs.Faults.{Fault, faults_at, faults_in, stack_faults, unexpected_token, unexpected_tokens}
use Rattle.grammar.specs.Grammar.{Item, is_lexical_error}
use Rattle.grammar.specs.Profile.{Profile}
use Rattle.grammar.specs.Tree.{File}
use Rattle.grammar.specs.declared.actions.Action.{Action}
use Rattle.grammar_laws.proofs.EmittedFiles.{emits_its_file}
use Rattle.grammar_laws.specs.Emission.{emissions, emitted, on_item}
use Rattle.code.proofs.Making.{made_file_code}
use Rattle.code.proofs.Steps.{length-maker_after}
use Rattle.code.specs.Generation.{Program, code_of}
use Rattle.code.specs.Making.{maker_after}
use Rattle.code.specs.declared.instr.Instr.{Instr}
use Rattle.code.specs.declared.instr.Instr.TheVariants.{Nop}
use Rattle.derivations.proofs.AllTokens.{all_passed, few_tokens, nothing_left}
use Rattle.derivations.proofs.Heights.{few_pending}
use Rattle.derivations.proofs.Walking.{stepped_state, walked_state}
use Rattle.derivations.specs.Columns.{token_positions}
use Rattle.derivations.specs.Compiling.{IsCompiled, IsCompiledFrom}
use Rattle.derivations.specs.Positions.{ArePositions, Walk, emission_position, last_position, positions_within, step_positions, walk_start, walk_stepped}
use Rattle.derivations.specs.Room.{HasRoom}
use Rattle.derivations.specs.Walks.{walk_at}
use Rattle.derivations.specs.declared.addresses.SourcePosition.{SourcePosition}
use Rattle.derivations.specs.declared.compiling.Compiled.{Compiled}

-- If a derivation ends without a fault, nothing is left to match.

done_by : (stack : List Item) (rest : List LocatedToken) (fault : Bool) (xs : List Fault) (o : Option State) →
    (if fault then None else o) ≡ None →
    (if fault then unexpected_token rest else xs ++ unexpected_tokens stack rest o) ≡ [] → stack ≡ []
done_by [] rest fault xs o final clean = refl
done_by (item ∷ stack) rest true xs o final clean = absurd cc
done_by (item ∷ stack) rest false xs None final clean =
    absurd (let no : unexpected_token rest ≡ [] = (append_empty xs (unexpected_token rest) clean).1 in cc)
done_by (item ∷ stack) rest false xs (Some s) final clean = absurd cc

last_is_done : (profile : Profile) (located_tokens : List LocatedToken) → all_faults profile located_tokens ≡ [] →
    (last_state located_tokens).stack ≡ []
last_is_done profile located_tokens clean =
    let start : State = initial_state located_tokens in
    let most : ℕ = weight start in
    let before : State = derived most start in
    let final : IsFinal before = ends most start (le_refl most) in
    let whole : faults_in profile (most + 1) start ≡ [] =
    subst (λ (n : ℕ). faults_in profile n start ≡ []) (sym (weighs located_tokens)) clean in
    let last : faults_in profile 1 before ≡ [] =
    (append_empty (faults_in profile most start) (faults_in profile 1 before)
    (sym (faults_in-add profile most 1 start) ∙ whole)).1 in
    let quiet : faults_at profile before ≡ [] = (append_empty (faults_at profile before) [] last).0 in
    let done : before.stack ≡ [] =
    done_by before.stack before.rest (is_lexical_error (next_token before.rest))
    (stack_faults profile before.stack before) (stack_step before.stack before) final quiet in
    let same : last_state located_tokens ≡ before =
    sym (ap (λ (n : ℕ). derived n start) (weighs located_tokens)) ∙ derived-add most 1 start
    ∙ final_stays before final in
    ap (λ (s : State). s.stack) same ∙ done

-- Instructions are made by what is emitted.

made_by_emissions : (p : Profile) (n : ℕ) (w : Walk) →
    length (positions_within p n w) ≡ code_length p (emissions n w.state)
made_by_emissions p zero w = refl
made_by_emissions p (suc n) w =
    let later : length (positions_within p n (walk_stepped w)) ≡ code_length p (emissions n (stepped w.state)) =
    made_by_emissions p n (walk_stepped w)
    ∙ ap (λ (s : State). code_length p (emissions n s)) (stepped_state w) in
    omega (
      arith,
      length-append (step_positions p w) (positions_within p n (walk_stepped w)),
      length-replicate (code_length p (emitted w.state)) (emission_position w),
      later,
      code_length-append p (emitted w.state) (emissions n (stepped w.state)),
    )

emissions-add : (m n : ℕ) (s : State) → emissions (m + n) s ≡ emissions m s ++ emissions n (derived m s)
emissions-add zero n s = ap (λ (k : ℕ). emissions k s) (zero-add n)
emissions-add (suc m) n s =
    ap (λ (k : ℕ). emissions k s) (suc-add m n)
    ∙ ap (λ (l : List Action). emitted s ++ l) (emissions-add m n (stepped s))
    ∙ sym (append_assoc (emitted s) (emissions m (stepped s)) (emissions n (derived m (stepped s))))

-- where nothing is left to match, nothing more is emitted

none_emitted : (s : State) → s.stack ≡ [] → emitted s ≡ []
none_emitted s e =
    ap (λ (stack : List Item). if is_lexical_error (next_token s.rest) then []
    else on_item stack (next_token s.rest) s.values s.scope) e
    ∙ by (is_lexical_error (next_token s.rest))
  where
    by : (b : Bool) → (if b then [] else on_item [] (next_token s.rest) s.values s.scope) ≡ []
    by true = refl
    by false = refl

done_stays : (s : State) → s.stack ≡ [] → stepped s ≡ s
done_stays s e =
    by (is_lexical_error (next_token s.rest))
    (stack_step s.stack s) (ap (λ (stack : List Item). stack_step stack s) e)
  where
    by : (b : Bool) (o : Option State) → o ≡ None → unwrap_or (if b then None else o) s ≡ s
    by true o f = refl
    by false o f = ap (λ (p : Option State). unwrap_or p s) f

emits_no_more : (n : ℕ) (s : State) → s.stack ≡ [] → emissions n s ≡ []
emits_no_more zero s e = refl
emits_no_more (suc n) s e =
    ap (λ (l : List Action). l ++ emissions n (stepped s)) (none_emitted s e)
    ∙ ap (λ (t : State). emissions n t) (done_stays s e)
    ∙ emits_no_more n s e

-- so what was emitted by then is one and the same
emitted_by_then : (m n : ℕ) (s : State) → (derived m s).stack ≡ [] → (derived n s).stack ≡ [] →
    emissions m s ≡ emissions n s
emitted_by_then m n s done_m done_n =
    let turned : m + n ≡ n + m = omega arith in
    sym (append-nil (emissions m s))
    ∙ sym (ap (λ (l : List Action). emissions m s ++ l) (emits_no_more n (derived m s) done_m))
    ∙ sym (emissions-add m n s)
    ∙ ap (λ (k : ℕ). emissions k s) turned
    ∙ emissions-add n m s
    ∙ ap (λ (l : List Action). emissions n s ++ l) (emits_no_more m (derived n s) done_n)
    ∙ append-nil (emissions n s)

code_long : (p : Profile) (located_tokens : List LocatedToken) (file : File) →
    compiled_tokens p located_tokens ≡ Ok file →
    length (code_of p file).instructions ≡ code_length p (actions file) + 1
code_long p located_tokens file is =
    ap (λ (code : List Instr). length code)
    (sym (made_file_code p file (compiled_is_resolved p located_tokens file is)))
    ∙ length-append (maker_after p (actions file)).code (Nop ∷ [])
    ∙ ap (λ (n : ℕ). n + 1) (length-maker_after p (actions file))

module _ (p : Profile) (bytes : List ℕ) (file : File) (is : compiled p bytes ≡ Ok file) where
  at_tokens : compiled_tokens p (tokens bytes) ≡ Ok file
  unfolding compiled
  at_tokens = is

  clean : all_faults p (tokens bytes) ≡ []
  clean = (is_clean (tokens bytes) (all_faults p (tokens bytes)) (last_state (tokens bytes)).scope
      (last_state (tokens bytes)).functions file at_tokens).clean

  done : (last_state (tokens bytes)).stack ≡ []
  done = last_is_done p (tokens bytes) clean

  start : Walk
  start = walk_start (tokens bytes) (token_positions bytes)

  -- those of the file's actions
  enough : length (positions_within p (enough_steps (tokens bytes)) start) ≡ code_length p (actions file)
  unfolding start
  enough =
      made_by_emissions p (enough_steps (tokens bytes)) start
      ∙ ap (λ (l : List Action). code_length p l) (emits_its_file p (tokens bytes) file at_tokens)

  -- there is room if the program isn't larger than any may be
  pub has_room : length (code_of p file).instructions ≤ 4000 → HasRoom p (tokens bytes) (token_positions bytes)
  unfolding start
  has_room few = record {
    steps = enough_steps (tokens bytes);
    all = ap (λ (s : State). s.rest) (walked_state (enough_steps (tokens bytes)) start)
        ∙ all_passed (enough_steps (tokens bytes)) bytes done;
    few = omega (arith, few_tokens bytes);
    pending = λ n less.
        let more : n + (enough_steps (tokens bytes) - n) ≡ enough_steps (tokens bytes) = omega (arith, less) in
        let quiet : faults_in p n (initial_state (tokens bytes)) ≡ [] =
        (append_empty (faults_in p n (initial_state (tokens bytes))) _
        (sym (faults_in-add p n (enough_steps (tokens bytes) - n) (initial_state (tokens bytes)))
        ∙ ap (λ (k : ℕ). faults_in p k (initial_state (tokens bytes))) more ∙ clean)).0 in
        let same : length (walk_at (tokens bytes) (token_positions bytes) n).state.stack
        ≡ length (derived n (initial_state (tokens bytes))).stack =
        ap (λ (s : State). length s.stack) (walked_state n start) in
        omega (arith, same, few_pending p n (tokens bytes) quiet);
    places = omega (arith, few, code_long p (tokens bytes) file at_tokens, enough);
  }

  -- and the positions are as many as its instructions
  pub as_many : (positions : List SourcePosition) →
      ArePositions p (tokens bytes) (token_positions bytes) positions →
      length positions ≡ length (code_of p file).instructions
  unfolding start
  as_many positions are =
      let there : (derived are.steps (initial_state (tokens bytes))).rest ≡ [] =
      sym (ap (λ (s : State). s.rest) (walked_state are.steps start)) ∙ are.all in
      let done_there : (derived are.steps (initial_state (tokens bytes))).stack ≡ [] =
      nothing_left are.steps bytes there in
      let same : emissions are.steps (initial_state (tokens bytes)) ≡ actions file =
      emitted_by_then are.steps (enough_steps (tokens bytes)) (initial_state (tokens bytes)) done_there done
      ∙ emits_its_file p (tokens bytes) file at_tokens in
      let long : length positions ≡ length (positions_within p are.steps start
      ++ last_position (token_positions bytes) ∷ []) = ap (λ (l : List SourcePosition). length l) are.made in
      let count : code_length p (emissions are.steps (initial_state (tokens bytes))) ≡ code_length p (actions file) =
      ap (λ (l : List Action). code_length p l) same in
      omega (
        arith,
        long,
        length-append (positions_within p are.steps start) (last_position (token_positions bytes) ∷ []),
        made_by_emissions p are.steps start,
        count,
        code_long p (tokens bytes) file at_tokens,
      )

-- a program that was compiled so has room for its positions
pub found : (program : Program) (bytes : List ℕ) (code : List Instr) (p : Profile) → IsCompiledFrom program bytes →
    code ≡ program.instructions → length code ≤ 4000 → p ≡ program.profile →
    HasRoom p (tokens bytes) (token_positions bytes)
found program bytes code p from is few same =
    let size : length code ≡ length (code_of program.profile from.compiles.file).instructions =
    ap (λ (l : List Instr). length l) is ∙ ap (λ (q : Program). length q.instructions) from.is in
    subst (λ (q : Profile). HasRoom q (tokens bytes) (token_positions bytes)) (sym same)
    (has_room program.profile bytes from.compiles.file from.compiles.is (omega (arith, few, size)))

-- and they are as many as its instructions
pub counted : (program : Program) (bytes : List ℕ) (p : Profile) (positions : List SourcePosition) →
    IsCompiledFrom program bytes → p ≡ program.profile →
    ArePositions p (tokens bytes) (token_positions bytes) positions → length positions ≡ length program.instructions
counted program bytes p positions from same are =
    as_many program.profile bytes from.compiles.file from.compiles.is positions
    (subst (λ (q : Profile). ArePositions q (tokens bytes) (token_positions bytes) positions) same are)
    ∙ sym (ap (λ (q : Program). length q.instructions) from.is)

-- so it is of what a source was compiled to
pub compiled_from : (profile : Profile) (bytes : List ℕ) (made : Compiled) → IsCompiled profile bytes made →
    IsCompiledFrom made.program bytes
compiled_from profile bytes made is =
    let same : made.program.profile ≡ profile = ap (λ (q : Program). q.profile) is.program in
    record {
      compiles = record {
        file = is.compiles.file;
        is = subst (λ (p : Profile). compiled p bytes ≡ Ok is.compiles.file) (sym same) is.compiles.is;
      };
      is = subst (λ (p : Profile). made.program ≡ code_of p is.compiles.file) (sym same) is.program;
    }
