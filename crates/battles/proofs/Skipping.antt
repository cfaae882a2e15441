-- Intervals of a still field that are skipped at once: robots that ask nothing, and updates that only count.
use Rattle.std.proofs.Common.{◌≡◌, ◌≢◌, ℕ, ◌+◌, ◌*◌, ◌<◌, ◌≤◌, zero, suc, Bool, true, false, ℤ, pos, List, [], ◌∷◌, ◌++◌, length, set, get_or, replicate, append_assoc, inl, inr, refl, sym, ap, ◌∙◌, arith, add-one}
use Rattle.std.specs.Prelude.{nat_lt, if◌then◌else◌}
use Rattle.std.specs.List.{count_by}
use Rattle.std.proofs.lemmas.Bool.{cases_lt}
use Rattle.std.proofs.lemmas.List.{append-nil, get_or-set_same, get_or-set_other, length-set, replicate_more, replicate-append-replicate}
use Rattle.arena.specs.Field.{Field, is_live_at, is_alive, live_count}
use Rattle.arena.specs.Arena.{Robot, Arena, robot_of, is_live}
use Rattle.arena.specs.Moved.{moved}
use Rattle.arena.specs.Still.{IsStill, moved_times}
use Rattle.arena.specs.Representing.{RepresentsField}
use Rattle.arena.proofs.Represents.{body_at, living}
use Rattle.arena.proofs.Still.{only_rests}
use Rattle.code.specs.declared.want.Want.TheVariants.{Quiet}
use Rattle.engine.specs.Executables.{Executable}
use Rattle.battles.specs.Battle.{Behaviour, BattleState, after_want, robot_turn, behaviour_at, turn, turns}
use Rattle.battles.specs.Carrying.{Runner, AreRobotsOf, EachIsAheadOf, HasReached, IsQuiet}
use Rattle.battles.specs.Intervals.{AreAhead, cycles_without_updates, period, periods}
use Rattle.battles.proofs.Passed.{code_at, runners_length}
use Rattle.battles.proofs.Running.{quiet_less}
use Rattle.battles.proofs.States.{robot_at, robots_length, stands_at}

-- Who lives, and how many, an arena says of each field that it represents.
live_is : (g : Arena) (f : Field) (i : ℕ) → RepresentsField g f → is_live_at f i ≡ is_live g i
unfolding is_live_at is_alive robot_of is_live
live_is g f i field = ap (λ (b : Robot). nat_lt b.damage 100) (sym (body_at g f i field))

count_is : (g : Arena) (f : Field) → RepresentsField g f →
    live_count f ≡ count_by (λ (b : Robot). nat_lt b.damage 100) g.robots
unfolding live_count
count_is g f field =
    sym (ap (count_by (λ (b : Robot). nat_lt b.damage 100)) field.robots ∙ living f.robots)

-- what a quiet cycle makes of the traces of the first n robots
waited : (ℕ → Bool) → ℕ → List (List ℤ) → List (List ℤ)
waited live zero traces = traces
waited live (suc n) traces =
    let before = waited live n traces in
    set before n (if live n then get_or before n [] ++ pos 0 ∷ [] else get_or before n [])

waited_length : (live : ℕ → Bool) (n : ℕ) (traces : List (List ℤ)) → length (waited live n traces) ≡ length traces
unfolding waited
waited_length live zero traces = refl
waited_length live (suc n) traces = length-set (waited live n traces) n _ ∙ waited_length live n traces

waited_later : (live : ℕ → Bool) (n : ℕ) (traces : List (List ℤ)) (i : ℕ) → n ≤ i
    → get_or (waited live n traces) i [] ≡ get_or traces i []
unfolding waited
waited_later live zero traces i from = refl
waited_later live (suc n) traces i from =
    let other : i ≢ n = omega arith in
    get_or-set_other (waited live n traces) n i _ [] other ∙ waited_later live n traces i (omega arith)

waited_last : (live : ℕ → Bool) (n : ℕ) (traces : List (List ℤ)) → n < length traces → live n ≡ true
    → get_or (waited live (suc n) traces) n [] ≡ get_or traces n [] ++ pos 0 ∷ []
unfolding waited
waited_last live n traces inside is =
    get_or-set_same (waited live n traces) n _ [] (omega (arith, inside, waited_length live n traces))
    ∙ rw is (ap (λ t. t ++ pos 0 ∷ []) (waited_later live n traces n (omega arith)))

waited_at : (live : ℕ → Bool) (n : ℕ) (traces : List (List ℤ)) (i : ℕ) → i < n → i < length traces → live i ≡ true
    → get_or (waited live n traces) i [] ≡ get_or traces i [] ++ pos 0 ∷ []
unfolding waited
waited_at live zero traces i low inside is = absurd (omega arith)
waited_at live (suc n) traces i low inside is = elim (cases_lt i n) [
  | inl less ↦
      let other : i ≢ n = omega arith in
      get_or-set_other (waited live n traces) n i _ [] other ∙ waited_at live n traces i less inside is
  | inr last ↦
      let same : n ≡ i = omega arith in
      rw same (waited_last live i traces inside is)
]

-- and n of them
waits : (ℕ → Bool) → (n k : ℕ) → List (List ℤ) → List (List ℤ)
waits live n zero traces = traces
waits live n (suc k) traces = waited live n (waits live n k traces)

waits_length : (live : ℕ → Bool) (n k : ℕ) (traces : List (List ℤ)) → length (waits live n k traces) ≡ length traces
unfolding waits
waits_length live n zero traces = refl
waits_length live n (suc k) traces = waited_length live n (waits live n k traces) ∙ waits_length live n k traces

waits_at : (live : ℕ → Bool) (n k : ℕ) (traces : List (List ℤ)) (i : ℕ) → i < n → i < length traces → live i ≡ true
    → get_or (waits live n k traces) i [] ≡ get_or traces i [] ++ replicate k (pos 0)
unfolding waits
waits_at live n zero traces i low inside is = sym (append-nil (get_or traces i []))
waits_at live n (suc k) traces i low inside is =
    waited_at live n (waits live n k traces) i low (omega (arith, inside, waits_length live n k traces)) is
    ∙ ap (λ t. t ++ pos 0 ∷ []) (waits_at live n k traces i low inside is)
    ∙ append_assoc (get_or traces i []) (replicate k (pos 0)) (pos 0 ∷ [])
    ∙ ap (λ zeros. get_or traces i [] ++ zeros) (replicate_more k (pos 0) ∙ ap (λ m. replicate m (pos 0)) (add-one k))

waits_plus : (live : ℕ → Bool) (n k j : ℕ) (traces : List (List ℤ))
    → waits live n j (waits live n k traces) ≡ waits live n (k + j) traces
unfolding waits
waits_plus live n k zero traces = ap (λ m. waits live n m traces) (omega arith)
waits_plus live n k (suc j) traces =
    let more : k + suc j ≡ suc (k + j) = omega arith in
    rw more (ap (waited live n) (waits_plus live n k j traces))

-- each live robot is quiet for n cycles
abbrev AreQuiet : Arena → List Behaviour → List (List ℤ) → ℕ → Type 0
AreQuiet g robots traces k =
    (i : ℕ) → i < length robots → is_live g i ≡ true → IsQuiet (behaviour_at robots i) (get_or traces i []) k

-- So the field stays as it is in these.
step_waits : (r : Behaviour) (i : ℕ) (f : Field) (trace : List ℤ) (live : Bool) → is_live_at f i ≡ live
    → (live ≡ true → r trace ≡ Quiet) → robot_turn r i f trace ≡ (f, if live then trace ++ pos 0 ∷ [] else trace)
unfolding robot_turn after_want
step_waits r i f trace true is quiet = rw (is, quiet refl) refl
step_waits r i f trace false is quiet = rw is refl

turn_waits : (g : Arena) (robots : List Behaviour) (i : ℕ) (s : BattleState) → RepresentsField g s.field
    → (is_live g i ≡ true → behaviour_at robots i (get_or s.traces i []) ≡ Quiet)
    → turn robots i s ≡ record {
      field = s.field;
      traces = set s.traces i (if is_live g i then get_or s.traces i [] ++ pos 0 ∷ [] else get_or s.traces i []);
    }
unfolding turn
turn_waits g robots i s field quiet =
    ap (λ (after : Field × List ℤ). record { field = after.0; traces = set s.traces i after.1 })
    (step_waits (behaviour_at robots i) i s.field (get_or s.traces i []) (is_live g i) (live_is g s.field i field)
    quiet)

turns_wait : (g : Arena) (robots : List Behaviour) (n : ℕ) (s : BattleState) → RepresentsField g s.field
    → ((i : ℕ) → i < n → is_live g i ≡ true → behaviour_at robots i (get_or s.traces i []) ≡ Quiet)
    → turns robots n s ≡ record { field = s.field; traces = waited (is_live g) n s.traces }
unfolding turns waited
turns_wait g robots zero s field quiet = refl
turns_wait g robots (suc n) s field quiet =
    ap (turn robots n) (turns_wait g robots n s field (λ i low. quiet i (omega arith)))
    ∙ turn_waits g robots n (record { field = s.field; traces = waited (is_live g) n s.traces }) field
    (λ live. ap (behaviour_at robots n) (waited_later (is_live g) n s.traces n (omega arith)) ∙
    quiet n (omega arith) live)

rounds_wait : (g : Arena) (robots : List Behaviour) (k : ℕ) (s : BattleState) → RepresentsField g s.field →
    length robots ≤ length s.traces
    → AreQuiet g robots s.traces k
    →
    cycles_without_updates robots k s ≡
    record { field = s.field; traces = waits (is_live g) (length robots) k s.traces }
unfolding cycles_without_updates waits
rounds_wait g robots zero s field all quiet = refl
rounds_wait g robots (suc k) s field all quiet =
    let traces = waits (is_live g) (length robots) k s.traces in
    ap (turns robots (length robots))
    (rounds_wait g robots k s field all (λ i low live j less. quiet i low live j (omega arith)))
    ∙ turns_wait g robots (length robots) (record { field = s.field; traces = traces }) field
    (λ i low live.
    ap (behaviour_at robots i) (waits_at (is_live g) (length robots) k s.traces i low (omega arith) live)
    ∙ quiet i low live k (omega arith))

-- If the field is still the intervals follow one another in the same way.
quiet_on : (g : Arena) (robots : List Behaviour) (k j : ℕ) (traces : List (List ℤ)) → length robots ≤ length traces
    → AreQuiet g robots traces (k + j) → AreQuiet g robots (waits (is_live g) (length robots) k traces) j
quiet_on g robots k j traces all quiet i low live m less =
    ap (λ trace. behaviour_at robots i (trace ++ replicate m (pos 0)))
    (waits_at (is_live g) (length robots) k traces i low (omega arith) live)
    ∙ ap (behaviour_at robots i) (
    append_assoc (get_or traces i []) (replicate k (pos 0)) (replicate m (pos 0))
    ∙ ap (λ zeros. get_or traces i [] ++ zeros) (replicate-append-replicate k m (pos 0)))
    ∙ quiet i low live (k + m) (omega arith)

updated_state : BattleState → BattleState
updated_state s = record { field = moved s.field; traces = s.traces }

quiet_within : (g : Arena) (robots : List Behaviour) (traces : List (List ℤ)) (k n : ℕ) → k ≤ n →
    AreQuiet g robots traces n
    → AreQuiet g robots traces k
quiet_within g robots traces k n less quiet i low live =
    quiet_less (behaviour_at robots i) (get_or traces i []) k n less (quiet i low live)

segments_wait : (g : Arena) (robots : List Behaviour) (k : ℕ) (s : BattleState) → RepresentsField g s.field →
    IsStill g.robots g.slots
    → length robots ≤ length s.traces → AreQuiet g robots s.traces (15 * k)
    →
    periods robots k s ≡
    record { field = moved_times k s.field; traces = waits (is_live g) (length robots) (15 * k) s.traces }
unfolding periods period moved_times is_live updated_state waits
segments_wait g robots zero s field still all quiet = refl
segments_wait g robots (suc k) s field still all quiet =
    let traces = waits (is_live g) (length robots) (15 * k) s.traces in
    let grown = record g { updates = g.updates + k } in
    let before =
    segments_wait g robots k s field still all
    (quiet_within g robots s.traces (15 * k) (15 * suc k) (omega arith) quiet) in
    let more : AreQuiet g robots s.traces (15 * k + 15) =
    quiet_within g robots s.traces (15 * k + 15) (15 * suc k) (omega arith) quiet in
    let sum : 15 * k + 15 ≡ 15 * suc k = omega arith in
    ap (period robots) before
    ∙
    ap updated_state (rounds_wait grown robots 15 (record { field = moved_times k s.field; traces = traces })
    (only_rests g s.field k field still)
    (omega (arith, all, waits_length (is_live g) (length robots) (15 * k) s.traces))
    (quiet_on g robots (15 * k) 15 s.traces all more))
    ∙ ap (λ (ts : List (List ℤ)). updated_state (record { field = moved_times k s.field; traces = ts }))
    (waits_plus (is_live g) (length robots) (15 * k) 15 s.traces ∙
    ap (λ m. waits (is_live g) (length robots) m s.traces) sum)

-- The machines are ahead by cycles in which the robots are quiet.
traces_length : (runners : List Runner) (exes : List Executable) (traces : List (List ℤ)) →
    EachIsAheadOf runners exes traces
    → length traces ≡ length exes
traces_length [] [] [] at = refl
traces_length (runner ∷ runners) (exe ∷ exes) (trace ∷ traces) at = ap suc (traces_length runners exes traces at.1)
traces_length _ _ _ at = absurd at

are_quiet : (exes : List Executable) (robots : List Behaviour) (runners : List Runner) (none : Runner) (g : Arena)
    (s : BattleState) (cycles : ℕ)
    → AreRobotsOf exes robots → HasReached runners exes g s → AreAhead (length runners) cycles g runners
    → AreQuiet g robots s.traces cycles
unfolding behaviour_at
are_quiet exes robots runners none g s cycles are reached ahead i low live =
    let here = code_at exes i (omega (arith, low, robots_length exes robots are)) in
    let inside : i < length runners =
    omega (arith, low, robots_length exes robots are, runners_length runners exes s.traces reached.traces) in
    let is = robot_at exes robots i here.0 (λ trace. Quiet) are here.1 in
    let at = stands_at runners exes s.traces i here.0 none reached.traces here.1 in
    quiet_less (behaviour_at robots i) (get_or s.traces i []) cycles (get_or runners i none).ahead
    (ahead i none inside live) (at.quiet _ is)

-- they are ahead by fewer cycles too
pub ahead_fewer : (n most cycles : ℕ) (arena : Arena) (runners : List Runner) → cycles ≤ most →
    AreAhead n most arena runners
    → AreAhead n cycles arena runners
ahead_fewer n most cycles arena runners fewer ahead i none inside live =
    let here : most ≤ (get_or runners i none).ahead = ahead i none inside live in
    omega arith

some_quiet : (exes : List Executable) (robots : List Behaviour) (runners : List Runner) (g : Arena) (s : BattleState)
    (cycles : ℕ)
    → AreRobotsOf exes robots → HasReached runners exes g s → AreAhead (length runners) cycles g runners
    → AreQuiet g robots s.traces cycles
some_quiet [] [] [] g s cycles are reached ahead = λ i low live. absurd (omega arith)
some_quiet exes robots (runner ∷ runners) g s cycles are reached ahead =
    are_quiet exes robots (runner ∷ runners) runner g s cycles are reached ahead
some_quiet (exe ∷ exes) robots [] g s cycles are reached ahead =
    absurd (omega (arith, runners_length [] (exe ∷ exes) s.traces reached.traces))
some_quiet [] (robot ∷ robots) [] g s cycles are reached ahead = absurd are

enough : (exes : List Executable) (robots : List Behaviour) (runners : List Runner) (g : Arena) (s : BattleState)
    → AreRobotsOf exes robots → HasReached runners exes g s → length robots ≤ length s.traces
enough exes robots runners g s are reached =
    omega (arith, robots_length exes robots are, traces_length runners exes s.traces reached.traces)

-- Where the cycles of some periods lead, and as many updates: to where the periods lead.
pub skips : (exes : List Executable) (robots : List Behaviour) (runners after : List Runner) (g : Arena)
    (s : BattleState)
    (k : ℕ)
    → AreRobotsOf exes robots → HasReached runners exes g s → IsStill g.robots g.slots
    → AreAhead (length runners) (15 * k) g runners → HasReached after exes g (cycles_without_updates robots (15 * k) s)
    → HasReached after exes (record g { updates = g.updates + k }) (periods robots k s)
skips exes robots runners after g s k are reached still ahead gone =
    let all = enough exes robots runners g s are reached in
    let quiet = some_quiet exes robots runners g s (15 * k) are reached ahead in
    let run = rounds_wait g robots (15 * k) s reached.field all quiet in
    let traces : EachIsAheadOf after exes (waits (is_live g) (length robots) (15 * k) s.traces) =
    rw run at gone.traces in
    rw (segments_wait g robots k s reached.field still all quiet) (record {
      field = only_rests g s.field k reached.field still;
      traces = traces;
    })

-- as many robots live
pub skips_alive : (exes : List Executable) (robots : List Behaviour) (runners : List Runner) (g : Arena)
    (s : BattleState)
    (k n : ℕ)
    → AreRobotsOf exes robots → HasReached runners exes g s → IsStill g.robots g.slots
    → AreAhead (length runners) (15 * k) g runners → n ≤ k → live_count (periods robots n s).field ≡ live_count s.field
skips_alive exes robots runners g s k n are reached still ahead within =
    let all = enough exes robots runners g s are reached in
    let quiet = some_quiet exes robots runners g s (15 * n) are reached
    (ahead_fewer (length runners) (15 * k) (15 * n) g runners (omega arith) ahead) in
    ap (λ (t : BattleState). live_count t.field) (segments_wait g robots n s reached.field still all quiet)
    ∙
    count_is (record g { updates = g.updates + n }) (moved_times n s.field) (only_rests g s.field n reached.field still)
    ∙ sym (count_is g s.field reached.field)

-- no interval is skipped
pub skips_none : (robots : List Behaviour) (s : BattleState) → periods robots 0 s ≡ s
unfolding periods
skips_none robots s = refl
