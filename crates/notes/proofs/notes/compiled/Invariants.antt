use Rattle.std.proofs.Common.{◌≡◌, false, length}
use Rattle.notes.proofs.notes.compiled.Given as goal

-- if no file so far is faulty, each has its program
abbrev pub invariant-loop-word : goal.invariant-loop-word
invariant-loop-word l = l.is_faulty ≡ false → length l.programs.items ≡ l.word-index
