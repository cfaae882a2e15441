-- How a battle begins: a runner for each robot, and the robots of the files.
use Rattle.std.proofs.Common.{◌≡◌, ℕ, ◌+◌, zero, suc, List, [], ◌∷◌, ◌++◌, length, map, take, replicate, Some, refl, sym, ap, ◌∙◌, arith, add-one}
use Rattle.std.specs.Prelude.{slice_get, All}
use Rattle.std.proofs.lemmas.List.FromFn.{map-range_with_len_more}
use Rattle.arena.specs.Field.{Field, damage_of, robot_at}
use Rattle.arena.specs.Arena.{Arena}
use Rattle.arena.specs.Representing.{RepresentsField}
use Rattle.arena.specs.Start.{start}
use Rattle.grammar.specs.Profile.{Profile}
use Rattle.grammar.specs.Resolved.{IsResolved}
use Rattle.grammar.specs.Tree.{File}
use Rattle.code.specs.Generation.{Program, code_of}
use Rattle.engine.specs.Executables.{Executable}
use Rattle.code.specs.Meaning.{want}
use Rattle.engine.specs.Engines.{EngineFits}
use Rattle.battles.specs.Battle.{Behaviour, Outcome, first_state, damages_of, state_after, last_cycle, battle}
use Rattle.battles.specs.Carrying.{Runner, AreRobotsOf, IsAheadOf, EachFits, EachIsAheadOf, HasReached}
use Rattle.code.specs.Codes.{AreProgramsOf}
use Rattle.battles.specs.Pairing.{paired, robots_of}
use Rattle.battles.proofs.States.{robots_length}

-- one runner more
fits_then : (runners : List Runner) (exes : List Executable) (i : ℕ) (runner : Runner) (exe : Executable)
    → EachFits runners (take i exes) → slice_get exes i ≡ Some exe → EngineFits runner.machine exe
    → EachFits (runners ++ runner ∷ []) (take (suc i) exes)
fits_then runners [] i runner exe fits here new = cc
fits_then [] (exe' ∷ exes) zero runner exe fits here new =
    let same : exe ≡ exe' = cc in (rw same at new, tt)
fits_then (runner' ∷ runners) (exe' ∷ exes) zero runner exe fits here new = absurd fits
fits_then [] (exe' ∷ exes) (suc i) runner exe fits here new = absurd fits
fits_then (runner' ∷ runners) (exe' ∷ exes) (suc i) runner exe fits here new =
    (fits.0, fits_then runners exes i runner exe fits.1 here new)

pub fits_more : (runners : List Runner) (exes : List Executable) (i : ℕ) (runner : Runner) (exe : Executable)
    → EachFits runners (take i exes) → slice_get exes i ≡ Some exe → EngineFits runner.machine exe
    → EachFits (runners ++ runner ∷ []) (take (i + 1) exes)
fits_more runners exes i runner exe fits here new = rw add-one (fits_then runners exes i runner exe fits here new)

stands_then : (runners : List Runner) (exes : List Executable) (i : ℕ) (runner : Runner) (exe : Executable)
    → EachIsAheadOf runners (take i exes) (replicate i []) → slice_get exes i ≡ Some exe → IsAheadOf runner exe []
    → EachIsAheadOf (runners ++ runner ∷ []) (take (suc i) exes) (replicate (suc i) [])
stands_then runners [] i runner exe stands here new = cc
stands_then [] (exe' ∷ exes) zero runner exe stands here new =
    let same : exe ≡ exe' = cc in (rw same at new, tt)
stands_then (runner' ∷ runners) (exe' ∷ exes) zero runner exe stands here new = absurd stands
stands_then [] (exe' ∷ exes) (suc i) runner exe stands here new = absurd stands
stands_then (runner' ∷ runners) (exe' ∷ exes) (suc i) runner exe stands here new =
    (stands.0, stands_then runners exes i runner exe stands.1 here new)

pub stands_more : (runners : List Runner) (exes : List Executable) (i : ℕ) (runner : Runner) (exe : Executable)
    → EachIsAheadOf runners (take i exes) (replicate i []) → slice_get exes i ≡ Some exe → IsAheadOf runner exe []
    → EachIsAheadOf (runners ++ runner ∷ []) (take (i + 1) exes) (replicate (i + 1) [])
stands_more runners exes i runner exe stands here new =
    rw add-one (stands_then runners exes i runner exe stands here new)

-- the programs of the files of robots are those of robots of the files
pub paired_codes : (p : Profile) (files : List File) → paired (map (code_of p) files) ≡ map (code_of p) (paired files)
paired_codes p [] = refl
paired_codes p (file ∷ []) = refl
paired_codes p (file ∷ other ∷ files) = refl

both_resolved : (file : File) → IsResolved file → All IsResolved (file ∷ file ∷ [])
both_resolved file resolved zero none within = resolved
both_resolved file resolved (suc zero) none within = resolved
both_resolved file resolved (suc (suc k)) none within = absurd (omega arith)

pub paired_resolved : (files : List File) → All IsResolved files → All IsResolved (paired files)
paired_resolved [] all = all
paired_resolved (file ∷ []) all = both_resolved file (all 0 file (omega arith))
paired_resolved (file ∷ other ∷ files) all = all

-- each robot wants what its file wants
robots_are_each : (exes : List Executable) (p : Profile) (files : List File) →
    map (λ (e : Executable). e.program) exes ≡ map (code_of p) files → All IsResolved files →
    AreRobotsOf exes (map (want p) files)
robots_are_each [] p [] same all = tt
robots_are_each [] p (file ∷ files) same all = absurd (cc)
robots_are_each (exe ∷ exes) p [] same all = absurd (cc)
robots_are_each (exe ∷ exes) p (file ∷ files) same all =
    let here : exe.program ≡ code_of p file = cc in
    let there : map (λ (e : Executable). e.program) exes ≡ map (code_of p) files = cc in (
      record { profile = p; file = file; resolved = all 0 file (omega arith); program = here; wants = refl },
      robots_are_each exes p files there (λ k none within. all (suc k) none (omega arith)),
    )

pub robots_are : (exes : List Executable) (codes : List Program) (p : Profile) (files : List File) →
    map (λ (e : Executable). e.program) exes ≡ paired codes → AreProgramsOf codes p files →
    AreRobotsOf exes (robots_of p files)
robots_are exes codes p files same are =
    robots_are_each exes p (paired files) (same ∙ ap paired are.are ∙ paired_codes p files)
    (paired_resolved files are.resolved)

-- the damages of one robot more
pub damages_none : (f : Field) → damages_of 0 f ≡ []
unfolding damages_of
damages_none f = refl

pub damages_more : (n : ℕ) (f : Field) → damages_of (n + 1) f ≡ damages_of n f ++ damage_of (robot_at f n) ∷ []
unfolding damages_of
damages_more n f = map-range_with_len_more (λ i. damage_of (robot_at f i)) 0 n n (omega arith)

-- a battle begins with no replies
pub opening_reached : (runners : List Runner) (exes : List Executable) (arena : Arena) (robots : List Behaviour)
    (n seed number : ℕ)
    → AreRobotsOf exes robots → n ≡ length exes → RepresentsField arena (start seed number n)
    → EachIsAheadOf runners exes (replicate (length exes) [])
    → HasReached runners exes arena (first_state (length robots) seed number)
unfolding first_state
opening_reached runners exes arena robots n seed number are e begun stands =
    let all : length robots ≡ n = robots_length exes robots are ∙ sym e in
    record { field = rw all begun; traces = rw (all, e) stands }

-- a battle's outcome is made of its last cycle and the damages after it
pub battle_is : (robots : List Behaviour) (seed number limit cycles : ℕ) (damages : List ℕ)
    → cycles ≡ last_cycle robots (first_state (length robots) seed number) limit
    → damages ≡ damages_of (length robots) (state_after robots (first_state (length robots) seed number) cycles).field
    →
    (let outcome : Outcome = record { cycles = cycles; damages = damages } in outcome) ≡
    battle robots seed number limit
unfolding battle
battle_is robots seed number limit cycles damages last are =
    let same : damages ≡
    damages_of (length robots)
    (state_after robots (first_state (length robots) seed number)
    (last_cycle robots (first_state (length robots) seed number) limit)).field =
    rw last at are in
    ap (λ n. let outcome : Outcome = record { cycles = n; damages = damages } in outcome) last
    ∙
    ap
    (λ ds. let outcome : Outcome = record
    { cycles = last_cycle robots (first_state (length robots) seed number) limit; damages = ds } in outcome) same
