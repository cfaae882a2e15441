-- One line after another.
use Rattle.std.proofs.Common.{◌≡◌, ℕ, ◌+◌, ◌<◌, List, [], ◌++◌, length, append_assoc, take, get_or}
use Rattle.std.proofs.lemmas.List.{take_more, append-nil}
use Rattle.std.proofs.lemmas.List.Folds.{concat-append}
use mathlib.Core.List.{map-append}
use Rattle.series.specs.Lines.{ended_line, lines_text}

-- one more line after a text
pub lines_text_then : (text : List ℕ) (lines : List (List ℕ)) (n : ℕ) → n < length lines
    → text ++ lines_text (take (n + 1) lines) ≡ (text ++ lines_text (take n lines)) ++ ended_line (get_or lines n [])
lines_text_then text lines n within =
    simp (take_more lines n [] within, map-append, concat-append, append-nil, append_assoc)
