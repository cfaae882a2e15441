-- What a statement says leaves the function that is being defined the same but for its variables.
use Rattle.std.proofs.Common.{◌≡◌, ℕ, List, refl, ◌∙◌, Bool, true, false}
use Rattle.std.specs.Prelude.{if◌then◌else◌}
use Rattle.grammar.specs.Scope.{Scope, with_new_function, with_variable, is_function_new, is_variable_new}
use Rattle.grammar_laws.specs.Written.{Expression, Constant, Variable, Binary, Signed, Assign, PreIncrement, PostIncrement, Call, Arguments, NoMore, Argument, Statement, Nothing, Evaluate, If, IfElse, While, Return, ReturnValue, Block, Statements, Done, Next}
use Rattle.grammar_laws.specs.Resolving.{behind, behind_arguments, mentioned, behind_callee, behind_statement, behind_statements}

pub record Keeps (scope learnt : Scope) : Type 0 where
  pub number : learnt.number ≡ scope.number
  pub name : learnt.current.name ≡ scope.current.name
  pub parameters : learnt.current.parameters ≡ scope.current.parameters

same : (scope : Scope) → Keeps scope scope
same scope = record { number = refl; name = refl; parameters = refl }

both : (scope in_scope learnt : Scope) → Keeps scope in_scope → Keeps in_scope learnt → Keeps scope learnt
both scope in_scope learnt k l =
    record { number = l.number ∙ k.number; name = l.name ∙ k.name; parameters = l.parameters ∙ k.parameters }

either : (b : Bool) (scope learnt : Scope) → Keeps scope learnt → Keeps scope (if b then learnt else scope)
either true scope learnt k = k
either false scope learnt k = same scope

mention : (name : List ℕ) (scope : Scope) → Keeps scope (mentioned name scope)
mention name scope =
    either (is_variable_new name scope) scope (with_variable name scope)
    (record { number = refl; name = refl; parameters = refl })

call : (name : List ℕ) (scope : Scope) → Keeps scope (behind_callee name scope)
call name scope =
    either (is_function_new name scope) scope (with_new_function name 0 scope)
    (record { number = refl; name = refl; parameters = refl })

mutual
  keeps : (e : Expression) (scope : Scope) → Keeps scope (behind e scope)
  keeps (Constant value) scope = same scope
  keeps (Variable name) scope = mention name scope
  keeps (Binary o a b) scope = both scope (behind a scope) _ (keeps a scope) (keeps b (behind a scope))
  keeps (Signed sign e) scope = keeps e scope
  keeps (Assign o name e) scope =
      both scope (mentioned name scope) _ (mention name scope) (keeps e (mentioned name scope))
  keeps (PreIncrement increment name) scope = mention name scope
  keeps (PostIncrement increment name) scope = mention name scope
  keeps (Call name arguments) scope =
      both scope (behind_callee name scope) _ (call name scope) (all_keep arguments (behind_callee name scope))

  all_keep : (arguments : Arguments) (scope : Scope) → Keeps scope (behind_arguments arguments scope)
  all_keep NoMore scope = same scope
  all_keep (Argument e rest) scope = both scope (behind e scope) _ (keeps e scope) (all_keep rest (behind e scope))

mutual
  pub statement_keeps : (s : Statement) (scope : Scope) → Keeps scope (behind_statement s scope)
  statement_keeps Nothing scope = same scope
  statement_keeps (Evaluate e) scope = keeps e scope
  statement_keeps (If c body) scope =
      both scope (behind c scope) _ (keeps c scope) (statements_keep body (behind c scope))
  statement_keeps (IfElse c body other) scope =
      both scope (behind c scope) _ (keeps c scope)
      (both (behind c scope) (behind_statements body (behind c scope)) _ (statements_keep body (behind c scope))
      (statements_keep other (behind_statements body (behind c scope))))
  statement_keeps (While c body) scope =
      both scope (behind c scope) _ (keeps c scope) (statements_keep body (behind c scope))
  statement_keeps Return scope = same scope
  statement_keeps (ReturnValue e) scope = keeps e scope
  statement_keeps (Block body) scope = statements_keep body scope

  statements_keep : (body : Statements) (scope : Scope) → Keeps scope (behind_statements body scope)
  statements_keep Done scope = same scope
  statements_keep (Next s rest) scope =
      both scope (behind_statement s scope) _ (statement_keeps s scope)
      (statements_keep rest (behind_statement s scope))
