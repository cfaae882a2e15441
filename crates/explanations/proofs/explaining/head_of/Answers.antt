use Rattle.std.proofs.Common.{◌≡◌, ◌+◌, ◌++◌, ◌∷◌, [], ℕ, List, length, length-append, append_assoc, ap, ◌∙◌, arith}
use Rattle.grammar.specs.DiagnosticTexts.{text_of}
use Rattle.explanations.specs.Faults.{position}
use Rattle.explanations.proofs.FaultLemmas.{position_short, text_short}
use Rattle.explanations.proofs.explaining.head_of.Goals as goal

pub returns : goal.returns
returns c =
    let at = position c.args.diagnostic.now.line c.args.column in
    let words = text_of c.args.diagnostic.now.code in
    let short = position_short c.args.diagnostic.now.line c.args.column (omega arith) (omega arith) in
    let few = text_short c.args.diagnostic.now.code in
    let none : length c.new-note.result.text.bytes ≡ 0 = ap length c.new-note.ensures in
    let placed : c.position.new.self.text.bytes ≡ at =
    c.position.ensures (omega (arith, none, short)) ∙ ap (λ (l : List ℕ). l ++ at) c.new-note.ensures in
    let same : length c.text.result.now ≡ length words = ap length c.text.ensures in
    let begun : c.add.new.self.text.bytes ≡ at ++ words =
    c.add.ensures.room (omega (arith, ap length placed, short, few, same))
    ∙ ap (λ (l : List ℕ). l ++ c.text.result.now) placed ∙ ap (λ (l : List ℕ). at ++ l) c.text.ensures in
    let size : length c.add.new.self.text.bytes ≡ length at + length words = ap length begun ∙ length-append at words in
    c.push.ensures (omega arith) (omega (arith, size, short, few))
    ∙ ap (λ (l : List ℕ). l ++ (10 ∷ [])) begun ∙ append_assoc at words (10 ∷ [])
