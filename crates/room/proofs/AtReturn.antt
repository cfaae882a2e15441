-- A robot that has the room that it needs restarts only where main returns: a machine with more room than the state
-- that was reached takes up wants the same, so what it is refused isn't room.
use Rattle.std.specs.Prelude.{ℕ, ℤ, ◌+◌, ◌≡◌, List, [], ◌∷◌, Bool, true, false, Option, Some, None, length, if◌then◌else◌}
use Rattle.std.proofs.Common.{refl, ap, sym, ◌∙◌, arith}
use Rattle.std.proofs.lemmas.Bool.Decides.{nat_tests}
use Rattle.grammar.specs.declared.resolved_names.Callee.TheVariants as callee
use Rattle.grammar.specs.Profile.{Profile}
use Rattle.grammar.specs.Laws.ProfileParts.{profile_of}
use Rattle.grammar.specs.Resolved.{IsResolved}
use Rattle.grammar.specs.Tree.{File}
use Rattle.code.specs.declared.cause.Cause.{Cause}
use Rattle.code.specs.declared.cause.Cause.TheVariants as cause
use Rattle.code.specs.declared.instr.Instr.{Instr}
use Rattle.code.specs.declared.instr.Instr.TheVariants.{Fetch, Store, Const, Binop, Fcall, Retsub, Branch, Chop, Truth, Nop}
use Rattle.code.specs.declared.instr.Instr.TheVariants as instr
use Rattle.code.specs.declared.want.Want.TheVariants.{Restart}
use Rattle.code.specs.Causes.{cause_if, lacking}
use Rattle.code.specs.Generation.{Program, code_of}
use Rattle.code.specs.Machine.{Machine, machine_after, done_with, event_of, frame_of, instr_at, is_fitting, is_ready, reached, started_machine}
use Rattle.code.specs.Machine.{variables_at, want_code, want_next}
use Rattle.code.proofs.Correct.{never_stuck, want_code_is_want}
use Rattle.room.specs.declared.room.Room.{Room}
use Rattle.room.specs.Rooms.{IsWithin}
use Rattle.room.specs.Functions.{HasRoom, need_of}
use Rattle.room.specs.Laws.{RestartsAtReturn}
use Rattle.room.proofs.Enough.{room_is_enough}
use Rattle.room.proofs.SameCode.{by_profile, same_code}

abbrev wider : Profile → ℕ → ℕ → Profile
wider p words frames = profile_of p.instructions (p.words + words) (p.frames + frames) p.short_circuit

-- what an instruction wants is no restart
never_restart : (s : Machine) (i : Option Instr) → event_of s i ≡ Restart → ⊥
never_restart s None same = absurd (cc)
never_restart s (Some (Fetch v)) same = absurd (cc)
never_restart s (Some (Store v o)) same = absurd (cc)
never_restart s (Some (Const n)) same = absurd (cc)
never_restart s (Some (Binop o)) same = absurd (cc)
never_restart s (Some (Fcall (callee.Function k))) same = absurd (cc)
never_restart s (Some (Fcall (callee.Intrinsic n))) same = absurd (cc)
never_restart s (Some Retsub) same = absurd (cc)
never_restart s (Some (Branch to)) same = absurd (cc)
never_restart s (Some Chop) same = absurd (cc)
never_restart s (Some instr.Frame) same = absurd (cc)
never_restart s (Some Truth) same = absurd (cc)
never_restart s (Some Nop) same = absurd (cc)

-- what two machines want tells whether an instruction fits
same_fitting : (s : Machine) (i : Option Instr) (a b : Bool) →
    (if a then event_of s i else Restart) ≡ (if b then event_of s i else Restart) → a ≡ b
same_fitting s i true true same = refl
same_fitting s i false false same = refl
same_fitting s i true false same = absurd (never_restart s i same)
same_fitting s i false true same = absurd (never_restart s i (sym same))

-- machines that want the same along all replies are at the same place
same_reached : (program : Program) (q : Profile) (s : Machine) (trace : List ℤ) →
    ((t : List ℤ) →
    want_next program (reached program s t) ≡ want_next (by_profile program q) (reached (by_profile program q) s t))
    →
    reached program s trace ≡ reached (by_profile program q) s trace
same_reached program q s [] alike = refl
same_reached program q s (reply ∷ rest) alike =
    let other = by_profile program q in
    let i = instr_at program s.at in
    let fit : is_fitting program s i ≡ is_fitting other s i =
    same_fitting s i (is_fitting program s i) (is_fitting other s i) (alike []) in
    let step : machine_after program reply s ≡ machine_after other reply s =
    ap (λ (b : Bool). if b then done_with program reply s i else s) fit in
    same_reached program q (machine_after program reply s) rest
    (λ t. alike (reply ∷ t) ∙ ap (λ (s : Machine). want_next other (reached other s t)) (sym step))
    ∙ ap (λ (s : Machine). reached other s rest) step

-- how many words an instruction takes up at most, with those that are there
abbrev called_words : Program → Option Instr → ℕ
called_words program (Some (Fcall (callee.Function k))) = variables_at program k
called_words program i = 0

-- all words that are there, those below the last frame once more, and one
abbrev more_words : Program → Machine → Option Instr → ℕ
more_words program s i = length s.words + ((frame_of s.frames).base + (called_words program i + 1))

-- with so much room only a return is refused
lacks_none : (program : Program) (p : Profile) (s : Machine) (i : Option Instr) → is_ready program s i ≡ true →
    is_fitting (by_profile program (wider p (more_words program s i) (length s.frames + 1))) s i ≡ false →
    lacking i ≡ cause.Returned
lacks_none program p s None ready unfit = absurd (cc)
lacks_none program p s (Some (Fetch v)) ready unfit = absurd (grind (arith, nat_tests, unfit))
lacks_none program p s (Some (Store v o)) ready unfit = absurd (cc)
lacks_none program p s (Some (Const n)) ready unfit = absurd (grind (arith, nat_tests, unfit))
lacks_none program p s (Some (Binop o)) ready unfit = absurd (cc)
lacks_none program p s (Some (Fcall (callee.Function k))) ready unfit = absurd (grind (arith, nat_tests, unfit))
lacks_none program p s (Some (Fcall (callee.Intrinsic n))) ready unfit = absurd (grind (arith, nat_tests, unfit))
lacks_none program p s (Some Retsub) ready unfit = refl
lacks_none program p s (Some (Branch to)) ready unfit = absurd (cc)
lacks_none program p s (Some Chop) ready unfit = absurd (cc)
lacks_none program p s (Some instr.Frame) ready unfit = absurd (grind (arith, nat_tests, unfit))
lacks_none program p s (Some Truth) ready unfit = absurd (cc)
lacks_none program p s (Some Nop) ready unfit = absurd (cc)

-- a profile that gives more
within_wider : (p : Profile) (words frames : ℕ) (need : Option Room) → IsWithin p.words p.frames need →
    IsWithin (p.words + words) (p.frames + frames) need
within_wider p words frames None within = within
within_wider p words frames (Some r) within = (omega (arith, within.0), omega (arith, within.1))

-- what is refused, and why
refused : (program : Program) (s : Machine) (i : Option Instr) (c : Cause) → cause_if program s i ≡ Some c →
    (is_fitting program s i ≡ false) × (c ≡ lacking i)
refused program s i c is = by (is_fitting program s i) is
  where
    by : (b : Bool) → (if b then None else Some (lacking i)) ≡ Some c → (b ≡ false) × (c ≡ lacking i)
    by true is = absurd (cc)
    by false is = (refl, cc)

-- what two profiles want of a file that has room in both is the same by its code too
same_wants : (p q : Profile) (file : File) → IsResolved file → p.short_circuit ≡ q.short_circuit → HasRoom p file →
    HasRoom q file → (trace : List ℤ) → want_code (code_of p file) trace ≡ want_code (code_of q file) trace
same_wants p q file resolved alike first second trace =
    want_code_is_want p file resolved trace ∙ room_is_enough p q file alike first second trace
    ∙ sym (want_code_is_want q file resolved trace)

pub restarts_at_return : RestartsAtReturn
restarts_at_return p file resolved has_room trace c is =
    let program = code_of p file in
    let s = reached program (started_machine program) trace in
    let i = instr_at program s.at in
    let q = wider p (more_words program s i) (length s.frames + 1) in
    let wide : HasRoom q file =
    within_wider p (more_words program s i) (length s.frames + 1) (need_of p file) has_room in
    let code_is : by_profile program q ≡ code_of q file = same_code p q refl file in
    let alike : (t : List ℤ) → want_next program (reached program (started_machine program) t) ≡
    want_next (by_profile program q) (reached (by_profile program q) (started_machine program) t) =
    λ t. same_wants p q file resolved refl has_room wide t
    ∙ ap (λ (c : Program). want_next c (reached c (started_machine c) t)) (sym code_is) in
    let there : reached program (started_machine program) trace ≡
    reached (by_profile program q) (started_machine program) trace =
    same_reached program q (started_machine program) trace alike in
    let no = refused program s i c is in
    let fit : is_fitting program s i ≡ is_fitting (by_profile program q) s i =
    same_fitting s i (is_fitting program s i) (is_fitting (by_profile program q) s i)
    (alike trace ∙ ap (λ (t : Machine). want_next (by_profile program q) t) (sym there)) in
    no.1 ∙ lacks_none program p s i (never_stuck p file resolved trace) (sym fit ∙ no.0)
