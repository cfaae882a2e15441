-- What a series writes: the reports of its matches in order, and then the totals.
use Rattle.std.specs.Prelude.{ℕ, List, [], ◌∷◌, ◌++◌, map}
use Rattle.std.specs.List.{range_with_len}
use Rattle.grammar.specs.Tree.{File}
use Rattle.settings.specs.Settings.{Settings}
use Rattle.series.specs.Outcomes.{report_text, totals_text}
use Rattle.series.specs.Pieces.{Piece, Text}

abbrev pub text_piece : List ℕ → Piece
text_piece text = record { channel = Text; bytes = text }

module _ (settings : Settings) (files : List File) where
  abbrev pub reports : ℕ → List Piece
  reports count = map (λ k. text_piece (report_text settings files k)) (range_with_len settings.first count)

  unfoldable pub playing : List Piece
  playing = reports settings.matches ++ text_piece (totals_text settings files) ∷ []
