-- The derivation of a main function with one statement.
use Rattle.std.proofs.Common.{◌≡◌, List, [], ◌∷◌, ◌++◌, refl, ap, append_assoc}
use Rattle.tokens.specs.declared.located_tokens.Punctuator.TheVariants as punctuator
use Rattle.tokens.specs.declared.located_tokens.Token.{Token}
use Rattle.tokens.specs.declared.located_tokens.Token.TheVariants as token
use Rattle.grammar.specs.Derivation.{State, initial_state, ABody, Definition, definition_of}
use Rattle.grammar.specs.Laws.StateParts.{state}
use Rattle.grammar.specs.Grammar as grammar
use Rattle.grammar.specs.Grammar.{Item, Exactly, Part, Make, Close, Declarations, Empty, Define}
use Rattle.grammar.specs.Scope.{Scope, end_definition}
use Rattle.grammar.specs.Tree as tree
use Rattle.grammar.specs.Tree.{Body}
use Rattle.grammar_laws.specs.Written.{Statement}
use Rattle.grammar_laws.specs.Spelling.{spell_statement, in_main}
use Rattle.grammar_laws.specs.Resolving.{body_of, behind_statement}
use Rattle.grammar_laws.specs.RoundTrip.{in_body, main_of}
use Rattle.grammar_laws.proofs.Leading.{Leads, then, at, located_tokens_of, first, second, part, make}
use Rattle.grammar_laws.proofs.Beginnings.{BeginsStatement, statement_first}
use Rattle.grammar_laws.proofs.Mentions.{Keeps, statement_keeps}
use Rattle.grammar_laws.proofs.Statements.{added}

-- the last state of a derivation of this function
abbrev pub over : Body → Scope → State
over body learnt = state [] [] [] (end_definition learnt) (main_of learnt.current.variables body ∷ [])

abbrev close : List Token
close = token.Punctuator punctuator.CloseCurly ∷ token.End ∷ []

abbrev end : List Item
end = Make Define ∷ Exactly punctuator.CloseCurly ∷ Close ∷ Part grammar.Source ∷ []

is_main : (body : Body) (learnt : Scope) → Keeps in_body learnt →
    definition_of learnt body ≡ main_of learnt.current.variables body
is_main body learnt k = rw (k.number, k.name, k.parameters) refl

main_ends : (body : Body) (learnt : Scope) → Keeps in_body learnt →
    Leads (at (Part grammar.Statements ∷ end) close (ABody body ∷ []) learnt []) (over body learnt)
main_ends body learnt k = record {
  steps = 6;
  leads = ap (λ (d : Definition). state [] [] [] (end_definition learnt) (d ∷ [])) (is_main body learnt k);
}

pub derives_main : (s : Statement) →
    Leads (initial_state (located_tokens_of (in_main (spell_statement s))))
    (over (body_of s in_body) (behind_statement s in_body))
derives_main s =
    let tokens : List Token = spell_statement s ++ close in
    let b : BeginsStatement (first tokens) = statement_first s close in
    let more : List Item = Part grammar.Statements ∷ end in
    rw (append_assoc (spell_statement s) (token.Punctuator punctuator.CloseCurly ∷ []) (token.End ∷ []))
    (then _ (at (Make Empty ∷ Part Declarations ∷ more) tokens [] in_body []) _
    (record { steps = 8; leads = refl })
    (then _ _ _
    (make Empty (Part Declarations ∷ more) tokens [] (ABody tree.Done ∷ []) in_body [] b.sound refl refl refl)
    (then _ _ _
    (part Declarations [] more tokens (ABody tree.Done ∷ []) in_body [] b.sound (b.no_declaration (second tokens)))
    (then _ _ _
    (part grammar.Statements (Part grammar.Statement ∷ Part grammar.Statements ∷ []) end tokens (ABody tree.Done ∷ [])
    in_body [] b.sound (b.one_more (second tokens)))
    (then _ _ _
    (added s close (record { sound = refl; no_declaration = refl; no_else = refl }) more tree.Done [] in_body [])
    (main_ends (body_of s in_body) (behind_statement s in_body) (statement_keeps s in_body)))))))
