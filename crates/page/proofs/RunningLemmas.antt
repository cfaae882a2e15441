-- Sheets of known contents hold the output of a run.
use Rattle.std.proofs.Common.{◌≡◌, ◌⊎◌, ◌<◌, ◌+◌, ◌∙◌, inl, inr, ℕ, zero, suc, List, [], ◌∷◌, ◌++◌, Option, Some, None, Result, Ok, Err, IfErr, get_or, map, refl, sym, ap, subst, append_assoc, arith}
use Rattle.std.specs.List.{concat}
use Rattle.std.proofs.lemmas.List.{append-nil, get_or-set_same}
use Rattle.std.proofs.lemmas.List.Folds.{concat-append}
use Rattle.std.proofs.lemmas.Simd.{map-map}
use Rattle.settings.specs.Settings.{Settings}
use Rattle.settings.specs.declared.settings.Mode.{Mode}
use Rattle.series.specs.Compiling.{SourceFile}
use Rattle.series.specs.Output.{Output, Runs}
use Rattle.series.specs.SourceContents.{AreSources}
use Rattle.series.specs.Failures.{FailsAsAnswered, Failures, SinkFailed, failing, no_device}
use Rattle.tokens.specs.Feed.{failed_again}
use Rattle.tokens.specs.Device.{FailureCount}
use Rattle.series.specs.Pieces.{Channel, Piece, Taken, Text, Faults, Writes, TakesOn}
use Rattle.series.specs.declared.run_results.RunFault.{RunFault}
use Rattle.series.specs.declared.run_results.RunFault.TheVariants as run_fault
use Rattle.series.specs.declared.run_results.Status.{Status}
use Rattle.series.specs.declared.run_results.Status.TheVariants.{Done, Faulty}
use Rattle.sinks.specs.Portions.{Portions, Takes}
use Rattle.page.specs.declared.endings.Ending.{Ending}
use Rattle.page.specs.declared.orders.Order.{Order}
use Rattle.page.specs.Endings.{EndsWith, code_of}
use Rattle.page.specs.declared.robots.RobotFile.{RobotFile}
use Rattle.page.specs.declared.sheets.Sheet.{Sheet}
use Rattle.page.specs.Orders.{setup_by, setup_of}
use Rattle.page.specs.Robots.{name_bytes, source_bytes, source_of}
use Rattle.page.specs.Running.{Holds, IsAccepted, OneIsFull, RunsRobots, blank, bytes_on, ending_of, output_of, part_on, taken_by}
use Rattle.page.specs.Sheets.{refused, told}

-- a sink of known contents took these bytes
abbrev Has : Portions → List ℕ → Type 0
Has None bytes = ⊥
Has (Some contents) bytes = concat contents.portions ≡ bytes

-- and now more
grown : (before after : Portions) (so_far bytes : List ℕ) → Has before so_far → Takes before after bytes
    → Has after (so_far ++ bytes)
grown None after so_far bytes has takes = absurd has
grown (Some t) after so_far bytes has takes =
    rw takes.taken (concat-append t.portions takes.portions ∙ rw (has, takes.joined) refl)

-- the sink of a channel
abbrev sink_of : Channel → Taken → Portions
sink_of Text taken = taken.text
sink_of Faults taken = taken.faults

-- one piece
one_taken : (here channel : Channel) (before after : Taken) (so_far bytes : List ℕ) → Has (sink_of here before) so_far
    → TakesOn channel before after bytes → Has (sink_of here after) (so_far ++ part_on here channel bytes)
one_taken Text Text before after so_far bytes has (takes, same) =
    grown before.text after.text so_far bytes has takes
one_taken Faults Faults before after so_far bytes has (takes, same) =
    grown before.faults after.faults so_far bytes has takes
one_taken Text Faults before after so_far bytes has (takes, same) = rw (same, append-nil so_far) has
one_taken Faults Text before after so_far bytes has (takes, same) = rw (same, append-nil so_far) has

-- all pieces
all_taken : (here : Channel) (before after : Taken) (pieces : List Piece) (so_far : List ℕ)
    → Has (sink_of here before) so_far → Writes before after pieces
    → Has (sink_of here after) (so_far ++ bytes_on here pieces)
all_taken here before after [] so_far has is = rw (is, append-nil so_far) has
all_taken here before after (piece ∷ pieces) so_far has (between, takes, rest) =
    rw (← (append_assoc so_far (part_on here piece.channel piece.bytes) (bytes_on here pieces)))
    (all_taken here between after pieces _ (one_taken here piece.channel before between so_far piece.bytes has takes)
    rest)

-- two sheets that were blank
pub held : (out : Output) (text faults : Sheet) → Writes blank (taken_by text faults) out.pieces → Holds out text faults
held out text faults writes = record {
  texts = all_taken Text blank (taken_by text faults) out.pieces [] refl writes;
  lines = all_taken Faults blank (taken_by text faults) out.pieces [] refl writes;
}

-- what is true of all sources with the robots' names and bytes, on blank sheets, is true of those of the robots
pub by_robots : (R : Settings → List SourceFile → Taken → Type 0) (mode : Mode) (order : Order)
    (robots : List RobotFile) (setup : Settings) (known : List (Option (List ℕ))) (text faults : Sheet)
    → setup ≡ setup_by mode order (map name_bytes robots)
    → known ≡ map (λ robot. Some (source_bytes robot)) robots → told text ≡ [] → told faults ≡ []
    → ((sources : List SourceFile) → AreSources sources setup.file_words known → R setup sources (taken_by text faults))
    → R (setup_by mode order (map name_bytes robots)) (map source_of robots) blank
by_robots R mode order robots setup known text faults is bytes no_text no_faults runs =
    let named : map (λ (s : SourceFile). s.word) (map source_of robots) ≡ setup.file_words =
    map-map (λ (s : SourceFile). s.word) source_of robots ∙ sym (ap (λ (s : Settings). s.file_words) is) in
    let told_bytes : map (λ (s : SourceFile). Some s.bytes) (map source_of robots) ≡ known =
    map-map (λ (s : SourceFile). Some s.bytes) source_of robots ∙ sym bytes in
    let before : taken_by text faults ≡ blank = rw (no_text, no_faults) refl in
    let all = runs (map source_of robots) (record { named = named; bytes = told_bytes }) in
    let P : Settings → Type 0 = λ s. R s (map source_of robots) (taken_by text faults) in
    subst (R (setup_by mode order (map name_bytes robots)) (map source_of robots)) before (subst P is all)

-- a device that never failed, at any place
never_failed : {X : Type 0} → (feeds : List X) (n : ℕ) → get_or (map (λ _. no_device) feeds) n no_device ≡ no_device
never_failed [] n = refl
never_failed (feed ∷ feeds) zero = refl
never_failed (feed ∷ feeds) (suc n) = never_failed feeds n

-- after a failed write one of the sinks has failed
sink_failed : (before after : Failures) → SinkFailed before after → (0 < after.text) ⊎ (0 < after.faults)
sink_failed before after (inl is) =
    let text : after.text ≡ before.text + 1 = ap (λ (f : Failures). f.text) is in
    inl (omega (arith, text))
sink_failed before after (inr is) =
    let faults : after.faults ≡ before.faults + 1 = ap (λ (f : Failures). f.faults) is in
    inr (omega (arith, faults))

-- of devices that never fail only a full sheet stops a run
pub only_full : {X A : Type 0} → (olds news : List X) (ran : Result A RunFault) (text faults : ℕ) (film lines : Sheet)
    →
    FailsAsAnswered ran (failing (map (λ _. no_device) olds) text faults)
    (failing (map (λ _. no_device) news) (refused film) (refused lines))
    → IfErr ran (λ stopped. (stopped ≡ run_fault.Write) × OneIsFull film lines)
only_full olds news (Ok answer) text faults film lines accounts = tt
only_full olds news (Err (run_fault.Read file)) text faults film lines (within, is) =
    let feeds : List FailureCount = map (λ _. no_device) olds in
    let here = ap (λ (f : Failures). get_or f.feeds file no_device) is in
    let there = get_or-set_same feeds file (failed_again (get_or feeds file no_device)) no_device within in
    let counts : 0 ≡ (get_or feeds file no_device).failures + 1 =
    ap (λ (a : FailureCount). a.failures) (sym (never_failed news file) ∙ here ∙ there) in
    absurd (omega (arith, counts))
only_full olds news (Err run_fault.Write) text faults film lines accounts =
    (refl, sink_failed _ _ accounts)
only_full olds news (Err run_fault.Memory) text faults film lines accounts = absurd accounts

-- what the sheets hold after a run on blank ones, by its end
pub ends_with : (order : Order) (robots : List RobotFile) (ran : Result Status RunFault) (text faults : Sheet)
    → IsAccepted order robots
    → Runs (setup_of order (map name_bytes robots)) (map source_of robots) ran blank (taken_by text faults)
    → IfErr ran (λ stopped. (stopped ≡ run_fault.Write) × OneIsFull text faults)
    → RunsRobots order robots (ending_of ran) text faults
ends_with order robots (Ok Done) text faults accepted (writes, is) stopped = record {
  accepted = accepted;
  status = is;
  writes = writes;
  holds = held (output_of order robots) text faults writes;
}
ends_with order robots (Ok Faulty) text faults accepted (writes, is) stopped = record {
  accepted = accepted;
  status = is;
  writes = writes;
  holds = held (output_of order robots) text faults writes;
}
ends_with order robots (Err stopped) text faults accepted begins (is, full) =
    record { accepted = accepted; begins = rw is at begins; full = full }

-- a call's number is that of how it ends
pub ends : (Says : Ending → Type 0) (ending : Ending) (code : ℕ) → code ≡ code_of ending → Says ending
    → EndsWith Says code
ends Says ending code is says = record { ending = ending; is = is; says = says }
