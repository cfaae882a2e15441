use Rattle.std.proofs.Common.{◌≡◌, ◌<◌, ◌+◌, ◌%◌, ◌/◌, ◌^◌, ◌++◌, ◌∷◌, [], ℕ, List, length, decimal, append_assoc, length-append, ap, sym, ◌∙◌, arith}
use Rattle.std.proofs.lemmas.Fmt.{decimal_step, decimal_digit}
use Rattle.explanations.specs.declared.notes.Note.{Note}
use Rattle.explanations.proofs.notes.Note.+add_digits.Goals as goal
use Rattle.explanations.proofs.notes.Note.+add_digits.Goals.{then-number-ge10, else-number-ge10}

pub returns : goal.returns
returns t c = record {
  digits = λ room.
      let old = c.args.self.now.text.bytes in
      let number = c.args.number in
      elim c.if-number-ge10.branch [
        | then-number-ge10 w ↦
            let front = decimal (number / 10) in
            let fits : number < 2 ^ 64 = omega arith in
            let step : decimal number ≡ front ++ ((48 + number % 10) ∷ []) =
            decimal_step number w.if-number-ge10.true fits in
            let longer : length (decimal number) ≡ length front + 1 =
            ap length step ∙ length-append front ((48 + number % 10) ∷ []) in
            let before : c.if-number-ge10.self.text.bytes ≡ old ++ front =
            rw w.self-is (w.add_digits.ensures.digits (omega (arith, longer, room))) in
            let size : length c.if-number-ge10.self.text.bytes ≡ length old + length front =
            ap length before ∙ length-append old front in
            c.push.ensures (omega (arith, c.from.ensures)) (omega (arith, size, longer, room))
            ∙ ap (λ (l : List ℕ). l ++ (c.from.result ∷ [])) before ∙ append_assoc old front (c.from.result ∷ [])
            ∙ ap (λ (d : ℕ). old ++ (front ++ (d ∷ []))) c.from.ensures ∙ ap (λ (l : List ℕ). old ++ l) (sym step)
        | else-number-ge10 w ↦
            let digit : decimal number ≡ (48 + number) ∷ [] = decimal_digit number w.if-number-ge10.false in
            let size : length (decimal number) ≡ 1 = ap length digit in
            let before : c.if-number-ge10.self.text.bytes ≡ old = ap (λ (n : Note). n.text.bytes) w.self-is in
            let same : c.from.result ≡ 48 + number = omega (arith, c.from.ensures, w.if-number-ge10.false) in
            c.push.ensures (omega (arith, c.from.ensures)) (omega (arith, size, ap length before, room))
            ∙ ap (λ (l : List ℕ). l ++ (c.from.result ∷ [])) before
            ∙ ap (λ (d : ℕ). old ++ (d ∷ [])) same ∙ ap (λ (l : List ℕ). old ++ l) (sym digit)
      ];
}
