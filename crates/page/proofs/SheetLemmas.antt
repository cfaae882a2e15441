-- Texts that are added to a sheet.
use Rattle.std.proofs.Common.{◌≡◌, ◌⊎◌, ◌<◌, ◌+◌, ◌-◌, ◌∙◌, inl, inr, ℕ, List, [], ◌∷◌, ◌++◌, map, sym, ap, append_assoc, length, take, set, get_or}
use Rattle.std.specs.List.{concat}
use Rattle.std.proofs.lemmas.List.{append-nil, take_more, take_more_set}
use Rattle.explanations.specs.Faults.{IsOn}
use Rattle.grammar.specs.declared.diagnostics.Diagnostic.{Diagnostic}
use Rattle.page.specs.Explaining.{EndsOn}
use Rattle.page.specs.declared.sheets.Sheet.{Sheet}
use Rattle.page.specs.declared.sheets.SheetBlock.{SheetBlock}
use Rattle.page.specs.Sheets.{Adds, IsFull, bytes_of, text_on}

-- the text of frames, with one more behind them
one_more : (frames : List SheetBlock) (frame : SheetBlock)
    → concat (map bytes_of (frames ++ frame ∷ [])) ≡ concat (map bytes_of frames) ++ bytes_of frame
one_more [] frame = append-nil (bytes_of frame)
one_more (first ∷ frames) frame =
    ap (λ (rest : List ℕ). bytes_of first ++ rest) (one_more frames frame)
    ∙ sym (append_assoc (bytes_of first) (concat (map bytes_of frames)) (bytes_of frame))

-- the last frame of m gets more bytes
pub last_filled : (frames : List SheetBlock) (m n : ℕ) (frame d : SheetBlock) (bytes : List ℕ)
    → m ≡ n + 1 → n < length frames → bytes_of frame ≡ bytes_of (get_or frames n d) ++ bytes
    → concat (map bytes_of (take m (set frames n frame))) ≡ concat (map bytes_of (take m frames)) ++ bytes
last_filled frames m n frame d bytes last inside more = rw last
    (ap (λ (fs : List SheetBlock). concat (map bytes_of fs)) (take_more_set frames n frame inside)
    ∙ one_more (take n frames) frame
    ∙ ap (λ (end : List ℕ). concat (map bytes_of (take n frames)) ++ end) more
    ∙ sym (append_assoc (concat (map bytes_of (take n frames))) (bytes_of (get_or frames n d)) bytes)
    ∙ ap (λ (all : List ℕ). all ++ bytes) (sym (ap (λ (fs : List SheetBlock). concat (map bytes_of fs))
    (take_more frames n d inside) ∙ one_more (take n frames) (get_or frames n d))))

-- a frame more has bytes
pub next_put : (frames : List SheetBlock) (n : ℕ) (frame : SheetBlock) (bytes : List ℕ)
    → n < length frames → bytes_of frame ≡ bytes
    → concat (map bytes_of (take (n + 1) (set frames n frame))) ≡ concat (map bytes_of (take n frames)) ++ bytes
next_put frames n frame bytes inside is =
    ap (λ (fs : List SheetBlock). concat (map bytes_of fs)) (take_more_set frames n frame inside)
    ∙ one_more (take n frames) frame
    ∙ ap (λ (last : List ℕ). concat (map bytes_of (take n frames)) ++ last) is

-- a text is added, and another one
told_both : (before between after : Sheet) (first second : List ℕ) → (IsFull between → IsFull after)
    → IsFull between ⊎ (text_on between ≡ text_on before ++ first)
    → IsFull after ⊎ (text_on after ≡ text_on between ++ second)
    → IsFull after ⊎ (text_on after ≡ text_on before ++ (first ++ second))
told_both before between after first second stays (inl full) there = inl (stays full)
told_both before between after first second stays (inr here) (inl full) = inl full
told_both before between after first second stays (inr here) (inr there) =
    inr (there ∙ ap (λ (text : List ℕ). text ++ second) here ∙ append_assoc (text_on before) first second)

pub adds_both : (before between after : Sheet) (first second : List ℕ)
    → Adds before between first → Adds between after second → Adds before after (first ++ second)
adds_both before between after first second here there = record {
  full = λ full. there.full (here.full full);
  told = told_both before between after first second there.full here.told there.told;
}

-- a note on a diagnostic is added
pub ends_on : (diagnostic : Diagnostic) (before after : Sheet) (note : List ℕ)
    → IsOn diagnostic note → Adds before after note → IsFull after ⊎ EndsOn diagnostic (text_on after)
ends_on diagnostic before after note on adds = elim adds.told [
  | inl full ↦ inl full
  | inr is ↦ inr (record { before = text_on before; note = note; is = is; on = on })
]
