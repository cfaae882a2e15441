-- Each statement, as it is spelled, is taken.
use Rattle.std.proofs.Common.{◌≡◌, pos, List, [], ◌∷◌, ◌++◌, refl, sym, false, append_assoc}
use Rattle.tokens.specs.declared.located_tokens.Punctuator.TheVariants as punctuator
use Rattle.tokens.specs.declared.located_tokens.Token.{Token}
use Rattle.tokens.specs.declared.located_tokens.Token.TheVariants as token
use Rattle.tokens.specs.declared.located_tokens.Keyword.TheVariants as keyword
use Rattle.grammar.specs.Derivation.{State, PartialTree, AnExpr, ABody, Definition}
use Rattle.grammar.specs.Grammar as grammar
use Rattle.grammar.specs.Grammar.{Item, Exactly, Part, Make, Close, Declarations, ElsePart, Back, Empty, Decide, DecideElse, Repeat, Zero, GiveBack, is_lexical_error}
use Rattle.grammar.specs.Scope.{Scope}
use Rattle.grammar.specs.Tree as tree
use Rattle.grammar.specs.Tree.{Expr, Body, join}
use Rattle.grammar_laws.specs.Written.{Expression, Statement, Nothing, Evaluate, If, IfElse, While, Return, ReturnValue, Block, Statements, Done, Next}
use Rattle.grammar_laws.specs.Spelling.{spell, spell_statement, spell_statements, braces}
use Rattle.grammar_laws.specs.Resolving.{tree_of, behind, body_of, bodies_of, behind_statement, behind_statements}
use Rattle.grammar_laws.proofs.Leading.{Leads, then, at, first, second, part, make, close}
use Rattle.grammar_laws.proofs.Levels.{Round, Semicolon}
use Rattle.grammar_laws.proofs.Expressions.{taken}
use Rattle.grammar_laws.proofs.Beginnings.{BeginsExpression, BeginsStatement, expression_first, statement_first, Follows, follows}
use Rattle.grammar.proofs.Joins.{join_done, join_assoc}

-- a statement is added to those before it
abbrev pub IsAdded : Statement → Type 0
IsAdded s =
    (rest : List Token) → Follows rest →
    (stack : List Item) (before : Body) (values : List PartialTree) (scope : Scope) (functions : List Definition) →
    Leads (at (Part grammar.Statement ∷ stack) (spell_statement s ++ rest) (ABody before ∷ values) scope functions)
    (at stack rest (ABody (join before (body_of s scope)) ∷ values) (behind_statement s scope) functions)

-- statements are added up to the brace
abbrev AreAdded : Statements → Type 0
AreAdded body =
    (rest : List Token) (stack : List Item) (before : Body) (values : List PartialTree) (scope : Scope)
    (functions : List Definition) →
    Leads
    (at (Part grammar.Statements ∷ stack) (spell_statements body ++ token.Punctuator punctuator.CloseCurly ∷ rest)
    (ABody before ∷ values) scope functions)
    (at stack (token.Punctuator punctuator.CloseCurly ∷ rest) (ABody (join before (bodies_of body scope)) ∷ values)
    (behind_statements body scope) functions)

-- a block, and a body in braces
block : (body : Statements) → AreAdded body → (rest : List Token) → is_lexical_error (first rest) ≡ false →
    (stack : List Item) (before : Body) (values : List PartialTree) (scope : Scope) (functions : List Definition) →
    Leads
    (at (Part grammar.Statement ∷ stack) (braces (spell_statements body) ++ rest) (ABody before ∷ values) scope
    functions)
    (at stack rest (ABody (join before (bodies_of body scope)) ∷ values) (behind_statements body scope) functions)
block body added rest sound stack before values scope functions =
    let closing : List Token = token.Punctuator punctuator.CloseCurly ∷ rest in
    let inner : List Token = spell_statements body ++ closing in
    let end : List Item = Exactly punctuator.CloseCurly ∷ Close ∷ stack in
    let all : Body = join before (bodies_of body scope) in
    let f : Follows inner = follows body rest in
    rw (append_assoc (spell_statements body) (token.Punctuator punctuator.CloseCurly ∷ []) rest)
    (then _ (at (Part Declarations ∷ Part grammar.Statements ∷ end) inner (ABody before ∷ values) scope functions) _
    (record { steps = 3; leads = refl })
    (then _ _ _
    (part Declarations [] (Part grammar.Statements ∷ end) inner (ABody before ∷ values) scope functions f.sound
    f.no_declaration)
    (then _ _ _ (added rest end before values scope functions)
    (then _ (at (Close ∷ stack) rest (ABody all ∷ values) (behind_statements body scope) functions) _
    (record { steps = 1; leads = refl })
    (close stack rest (ABody all ∷ values) (behind_statements body scope) functions sound)))))

nothing : IsAdded Nothing
nothing rest f stack before values scope functions = record { steps = 2; leads = rw (join_done before) refl }

evaluate : (e : Expression) → IsAdded (Evaluate e)
evaluate e rest f stack before values scope functions =
    let tokens : List Token = spell e ++ token.Punctuator punctuator.Semicolon ∷ rest in
    let b : BeginsExpression (first tokens) = expression_first e (token.Punctuator punctuator.Semicolon ∷ rest) in
    let end : List Item = Make grammar.Evaluate ∷ stack in
    rw (append_assoc (spell e) (token.Punctuator punctuator.Semicolon ∷ []) rest)
    (then _ _ _
    (part grammar.Statement (Part grammar.Expression ∷ Exactly punctuator.Semicolon ∷ Make grammar.Evaluate ∷ []) stack
    tokens (ABody before ∷ values) scope functions b.begins.sound (b.evaluates (second tokens)))
    (then _ _ _ (taken e Semicolon rest (Exactly punctuator.Semicolon ∷ end) (ABody before ∷ values) scope functions)
    (then _ (at end rest (AnExpr (tree_of e scope) ∷ ABody before ∷ values) (behind e scope) functions) _
    (record { steps = 1; leads = refl })
    (make grammar.Evaluate stack rest _
    (ABody (join before (tree.ExpressionStatement (tree_of e scope) tree.Done)) ∷ values) (behind e scope)
    functions f.sound refl refl refl))))

-- the start of a statement, a condition in brackets, and the body after it
conditioned : {from : State} (c : Expression) (body : Statements) → AreAdded body → (rest : List Token) →
    is_lexical_error (first rest) ≡ false →
    (stack : List Item) (values : List PartialTree) (scope : Scope) (functions : List Definition) →
    Leads from
    (at (Part grammar.Expression ∷ Exactly punctuator.CloseRound ∷ Make Empty ∷ Part grammar.Statement ∷ stack)
    (spell c ++ token.Punctuator punctuator.CloseRound ∷ (braces (spell_statements body) ++ rest)) values scope
    functions) →
    Leads from
    (at stack rest (ABody (bodies_of body (behind c scope)) ∷ AnExpr (tree_of c scope) ∷ values)
    (behind_statements body (behind c scope)) functions)
conditioned c body added rest sound stack values scope functions starts =
    let tokens : List Token = braces (spell_statements body) ++ rest in
    let test : List PartialTree = AnExpr (tree_of c scope) ∷ values in
    then _ _ _ starts (then _ _ _
    (taken c Round tokens (Exactly punctuator.CloseRound ∷ Make Empty ∷ Part grammar.Statement ∷ stack) values scope
    functions)
    (then _ (at (Make Empty ∷ Part grammar.Statement ∷ stack) tokens test (behind c scope) functions) _
    (record { steps = 1; leads = refl })
    (then _ _ _
    (make Empty (Part grammar.Statement ∷ stack) tokens test (ABody tree.Done ∷ test) (behind c scope) functions refl
    refl refl refl)
    (block body added rest sound stack tree.Done test (behind c scope) functions))))

-- ( condition ) .. with what follows it
opened : (c : Expression) (more rest : List Token) →
    ((spell c ++ token.Punctuator punctuator.CloseRound ∷ []) ++ more) ++ rest ≡
    spell c ++ token.Punctuator punctuator.CloseRound ∷ (more ++ rest)
opened c more rest =
    rw (
      append_assoc (spell c ++ token.Punctuator punctuator.CloseRound ∷ []) more rest,
      append_assoc (spell c) (token.Punctuator punctuator.CloseRound ∷ []) (more ++ rest),
    ) refl

decide : (c : Expression) (body : Statements) → AreAdded body → IsAdded (If c body)
decide c body added rest f stack before values scope functions =
    let in_scope : Scope = behind_statements body (behind c scope) in
    let parts : List PartialTree =
    ABody (bodies_of body (behind c scope)) ∷ AnExpr (tree_of c scope) ∷ ABody before ∷ values in
    let all : Body = join before (body_of (If c body) scope) in
    let end : List Item = Part ElsePart ∷ Close ∷ stack in
    rw (opened c (braces (spell_statements body)) rest)
    (then _ _ _
    (conditioned c body added rest f.sound end (ABody before ∷ values) scope functions
    (record { steps = 3; leads = refl }))
    (then _ _ _ (part ElsePart (Make Decide ∷ []) (Close ∷ stack) rest parts in_scope functions f.sound f.no_else)
    (then _ _ _ (make Decide (Close ∷ stack) rest parts (ABody all ∷ values) in_scope functions f.sound refl refl refl)
    (close stack rest (ABody all ∷ values) in_scope functions f.sound))))

decide_else : (c : Expression) (body other : Statements) → AreAdded body → AreAdded other →
    IsAdded (IfElse c body other)
decide_else c body other added added_other rest f stack before values scope functions =
    let in_scope : Scope = behind_statements body (behind c scope) in
    let learnt : Scope = behind_statements other in_scope in
    let parts : List PartialTree =
    ABody (bodies_of body (behind c scope)) ∷ AnExpr (tree_of c scope) ∷ ABody before ∷ values in
    let all : Body = join before (body_of (IfElse c body other) scope) in
    let second_body : List Token = braces (spell_statements other) in
    let rest_else : List Token = token.Keyword keyword.Else ∷ (second_body ++ rest) in
    let end : List Item = Part ElsePart ∷ Close ∷ stack in
    rw (
      opened c (braces (spell_statements body) ++ token.Keyword keyword.Else ∷ second_body) rest,
      append_assoc (braces (spell_statements body)) (token.Keyword keyword.Else ∷ second_body) rest,
    )
    (then _ _ _
    (conditioned c body added rest_else refl end (ABody before ∷ values) scope functions
    (record { steps = 3; leads = refl }))
    (then _
    (at (Make Empty ∷ Part grammar.Statement ∷ Make DecideElse ∷ Close ∷ stack) (second_body ++ rest) parts in_scope
    functions) _
    (record { steps = 2; leads = refl })
    (then _ _ _
    (make Empty (Part grammar.Statement ∷ Make DecideElse ∷ Close ∷ stack) (second_body ++ rest) parts
    (ABody tree.Done ∷ parts) in_scope functions refl refl refl refl)
    (then _ _ _
    (block other added_other rest f.sound (Make DecideElse ∷ Close ∷ stack) tree.Done parts in_scope functions)
    (then _ _ _
    (make DecideElse (Close ∷ stack) rest (ABody (bodies_of other in_scope) ∷ parts) (ABody all ∷ values) learnt
    functions
    f.sound refl refl refl)
    (close stack rest (ABody all ∷ values) learnt functions f.sound))))))

repeat : (c : Expression) (body : Statements) → AreAdded body → IsAdded (While c body)
repeat c body added rest f stack before values scope functions =
    let in_scope : Scope = behind_statements body (behind c scope) in
    let parts : List PartialTree =
    ABody (bodies_of body (behind c scope)) ∷ AnExpr (tree_of c scope) ∷ ABody before ∷ values in
    let all : Body = join before (body_of (While c body) scope) in
    let end : List Item = Make Repeat ∷ Close ∷ stack in
    rw (opened c (braces (spell_statements body)) rest)
    (then _ _ _
    (conditioned c body added rest f.sound end (ABody before ∷ values) scope functions
    (record { steps = 3; leads = refl }))
    (then _ _ _ (make Repeat (Close ∷ stack) rest parts (ABody all ∷ values) in_scope functions f.sound refl refl refl)
    (close stack rest (ABody all ∷ values) in_scope functions f.sound)))

-- the semicolon after a return
return_ends : (e : Expr) (rest : List Token) → is_lexical_error (first rest) ≡ false →
    (stack : List Item) (before : Body) (values : List PartialTree) (scope : Scope) (functions : List Definition) →
    Leads
    (at (Exactly punctuator.Semicolon ∷ Make GiveBack ∷ stack) (token.Punctuator punctuator.Semicolon ∷ rest)
    (AnExpr e ∷ ABody before ∷ values) scope functions)
    (at stack rest (ABody (join before (tree.Return e tree.Done)) ∷ values) scope functions)
return_ends e rest sound stack before values scope functions =
    then _ (at (Make GiveBack ∷ stack) rest (AnExpr e ∷ ABody before ∷ values) scope functions) _
    (record { steps = 1; leads = refl })
    (make GiveBack stack rest _ _ scope functions sound refl refl refl)

return_alone : IsAdded Return
return_alone rest f stack before values scope functions =
    let tokens : List Token = token.Punctuator punctuator.Semicolon ∷ rest in
    let end : List Item = Exactly punctuator.Semicolon ∷ Make GiveBack ∷ stack in
    let zero : PartialTree = AnExpr (tree.Constant (pos 0)) in
    then _ (at (Make Zero ∷ end) tokens (ABody before ∷ values) scope functions) _
    (record { steps = 3; leads = refl })
    (then _ _ _
    (make Zero end tokens (ABody before ∷ values) (zero ∷ ABody before ∷ values) scope functions refl refl refl refl)
    (return_ends (tree.Constant (pos 0)) rest f.sound stack before values scope functions))

return_value : (e : Expression) → IsAdded (ReturnValue e)
return_value e rest f stack before values scope functions =
    let tokens : List Token = spell e ++ token.Punctuator punctuator.Semicolon ∷ rest in
    let b : BeginsExpression (first tokens) = expression_first e (token.Punctuator punctuator.Semicolon ∷ rest) in
    let end : List Item = Exactly punctuator.Semicolon ∷ Make GiveBack ∷ stack in
    rw (append_assoc (spell e) (token.Punctuator punctuator.Semicolon ∷ []) rest)
    (then _ (at (Part Back ∷ end) tokens (ABody before ∷ values) scope functions) _
    (record { steps = 2; leads = refl })
    (then _ _ _
    (part Back (Part grammar.Expression ∷ []) end tokens (ABody before ∷ values) scope functions b.begins.sound
    (b.gives_back (second tokens)))
    (then _ _ _ (taken e Semicolon rest end (ABody before ∷ values) scope functions)
    (return_ends (tree_of e scope) rest f.sound stack before values (behind e scope) functions))))

none : AreAdded Done
none rest stack before values scope functions = record { steps = 1; leads = rw (join_done before) refl }

one_more : (s : Statement) (more : Statements) → IsAdded s → AreAdded more → AreAdded (Next s more)
one_more s more added others rest stack before values scope functions =
    let inner : List Token = spell_statements more ++ token.Punctuator punctuator.CloseCurly ∷ rest in
    let tokens : List Token = spell_statement s ++ inner in
    let b : BeginsStatement (first tokens) = statement_first s inner in
    rw (
      append_assoc (spell_statement s) (spell_statements more) (token.Punctuator punctuator.CloseCurly ∷ rest),
      sym (join_assoc before (body_of s scope) (bodies_of more (behind_statement s scope))),
    )
    (then _ _ _
    (part grammar.Statements (Part grammar.Statement ∷ Part grammar.Statements ∷ []) stack tokens
    (ABody before ∷ values) scope functions b.sound (b.one_more (second tokens)))
    (then _ _ _ (added inner (follows more rest) (Part grammar.Statements ∷ stack) before values scope functions)
    (others rest stack (join before (body_of s scope)) values (behind_statement s scope) functions)))

mutual
  pub added : (s : Statement) → IsAdded s
  added Nothing = nothing
  added (Evaluate e) = evaluate e
  added (If c body) = decide c body (all_added body)
  added (IfElse c body other) = decide_else c body other (all_added body) (all_added other)
  added (While c body) = repeat c body (all_added body)
  added Return = return_alone
  added (ReturnValue e) = return_value e
  added (Block body) = λ rest f. block body (all_added body) rest f.sound

  all_added : (body : Statements) → AreAdded body
  all_added Done = none
  all_added (Next s more) = one_more s more (added s) (all_added more)
