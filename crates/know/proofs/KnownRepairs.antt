-- The known repairs, worked out.
use Rattle.std.proofs.Common.{inl, inr, refl}
use Rattle.std.specs.Prelude.{[], ◌∷◌, codes}
use Rattle.tokens.specs.Punctuators.{punctuator_of}
use Rattle.tokens.specs.Tokens.{located_tokens, tokens}
use Rattle.tokens.specs.Keywords.{keyword_of}
use Rattle.grammar.specs.declared.diagnostics.Code.TheVariants as fault_code
use Rattle.grammar.specs.declared.operators.StoreOp.TheVariants as store_op
use Rattle.grammar.specs.declared.resolved_names.Var.TheVariants as var
use Rattle.grammar.specs.Compiled.{compiled, diagnostic}
use Rattle.grammar.specs.Intrinsics.{intrinsic_named, intrinsic_name}
use Rattle.grammar.specs.NameLimits.{most_nested}
use Rattle.grammar.specs.ProfileNumbers.{first_profile}
use Rattle.grammar.specs.KnownSources.{constant, file_of_main, local}
use Rattle.grammar.specs.Tree.{Assign, ExpressionStatement, Done, File}
use Rattle.know.specs.KnownRepairs.{KnownRepairs, at_line_1}

-- main(){a=1; b;}
abbrev mended : File
mended = file_of_main (codes "a" ∷ codes "b" ∷ [])
    (ExpressionStatement (Assign store_op.Set (var.Local 0) (constant 1)) (ExpressionStatement (local 1) Done))

pub repairs : KnownRepairs
unfolding compiled tokens located_tokens punctuator_of keyword_of most_nested intrinsic_named intrinsic_name
    first_profile
repairs = record {
  broken_before_b = refl;
  behind_b = record { is = refl; stays = refl };
  before_b = record { is = refl; moves = refl };
  semicolon = inl (record { file = mended; is = refl });
  first_of_two = inr (inr (record {
    next = at_line_1;
    left = 6;
    before = record { is = refl; stays = refl };
    among = record { is = refl; moves = refl };
    fits = λ same. same;
  }));
  function_lacks = inr (inl (record {
    next = diagnostic 1 fault_code.FunctionNotDefined;
    is = refl;
    lacks = refl;
    does_not = refl;
  }));
}
