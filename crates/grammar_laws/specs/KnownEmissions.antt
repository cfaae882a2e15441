-- What the derivations of known sources emit.
use Rattle.std.specs.Prelude.{◌≡◌, pos, List, [], ◌∷◌, codes}
use Rattle.tokens.specs.declared.located_tokens.LocatedToken.{LocatedToken}
use Rattle.tokens.specs.declared.located_tokens.Punctuator.TheVariants as punctuator
use Rattle.tokens.specs.declared.located_tokens.Token.{Token}
use Rattle.tokens.specs.declared.located_tokens.Token.TheVariants as token
use Rattle.tokens.specs.declared.located_tokens.Keyword.TheVariants as keyword
use Rattle.grammar.specs.declared.resolved_names.Var.TheVariants as var
use Rattle.arith.specs.declared.operators.Op.TheVariants as op
use Rattle.grammar.specs.declared.operators.StoreOp.TheVariants as store_op
use Rattle.grammar.specs.declared.actions.Action.{Action}
use Rattle.grammar.specs.declared.actions.Action.TheVariants.{PushConstant, FetchVariable, StoreVariable, ApplyBinop}
use Rattle.grammar.specs.declared.actions.Action.TheVariants.{LogicMiddle, BeginWhile, WhileTest, EndWhile, GiveBack}
use Rattle.grammar.specs.declared.actions.Action.TheVariants.{Chop, BeginFunction, EndFunction}
use Rattle.grammar.specs.Actions.{actions}
use Rattle.grammar.specs.Compiled.{enough_steps}
use Rattle.grammar.specs.Derivation.{initial_state}
use Rattle.grammar_laws.specs.Emission.{emissions}
use Rattle.grammar.specs.KnownSources as known
use Rattle.grammar.specs.KnownSources.{a, f, x, ro, rc, co, cc, end, equals, number, in_main, on_lines, file_of_main}
use Rattle.grammar.specs.Tree.{File}

-- the derivation of the source emits these actions, one after another
abbrev pub Emits : List LocatedToken → List Action → Type 0
Emits source acts = emissions (enough_steps source) (initial_state source) ≡ acts

-- it emits the actions of the file
abbrev pub EmitsFile : List LocatedToken → File → Type 0
EmitsFile source file = Emits source (actions file)

-- f(a) { while (a && 1) x = -a; }
abbrev pub loop : List Token
loop =
    f ∷ ro ∷ a ∷ rc ∷ co
    ∷ token.Keyword keyword.While ∷ ro ∷ a ∷ token.Punctuator punctuator.AndAnd ∷ number 1 ∷ rc
    ∷ x ∷ equals ∷ token.Punctuator punctuator.Minus ∷ a ∷ end ∷ cc ∷ []

abbrev pub loop_actions : List Action
loop_actions =
    BeginFunction 0 1
    ∷ BeginWhile ∷ FetchVariable (var.Local 0) ∷ LogicMiddle op.And ∷ PushConstant (pos 1) ∷ ApplyBinop op.And
    ∷ WhileTest ∷ PushConstant (pos 0) ∷ FetchVariable (var.Local 0) ∷ ApplyBinop op.Subtract
    ∷ StoreVariable (var.Local 1) store_op.Set ∷ Chop ∷ EndWhile
    ∷ PushConstant (pos 0) ∷ GiveBack ∷ EndFunction 2 ∷ []

pub record KnownEmissions : Type 0 where
  pub loop_emits : Emits (on_lines loop) loop_actions
  -- main(){ a + ; }: what comes before the token that doesn't fit
  pub broken_off : Emits (in_main (a ∷ token.Punctuator punctuator.Plus ∷ end ∷ []))
      (BeginFunction 0 0 ∷ FetchVariable (var.Local 0) ∷ [])
  pub nothing : Emits (on_lines []) []
  pub sum_of_postfix : EmitsFile (in_main known.sum_of_postfix)
      (file_of_main (codes "x" ∷ codes "a" ∷ codes "b" ∷ []) known.sum_of_postfix_tree)
  pub distance : EmitsFile (on_lines known.distance) known.distance_file
  pub nearest_else : EmitsFile (in_main known.nearest_else)
      (file_of_main (codes "a" ∷ codes "b" ∷ codes "c" ∷ codes "d" ∷ []) known.nearest_else_tree)
  pub late_read : EmitsFile (on_lines known.late_read) known.late_read_file
  pub unary_signs : EmitsFile (in_main known.unary_signs) (file_of_main (codes "a" ∷ []) known.unary_trees)
  pub hidden_later : EmitsFile (on_lines known.hidden_later) known.hidden_later_file
