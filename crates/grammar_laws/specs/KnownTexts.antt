-- Sources as texts, through their tokens.
use Rattle.std.specs.Prelude.{◌≡◌, ℕ, List, [], ◌∷◌, ◌++◌, Ok, Err, codes, replicate}
use Rattle.grammar.specs.declared.diagnostics.Code.{Code}
use Rattle.grammar.specs.declared.diagnostics.Code.TheVariants as fault_code
use Rattle.grammar.specs.Actions.{function_actions}
use Rattle.grammar.specs.Compiled.{compiled, diagnostic}
use Rattle.grammar.specs.KnownSources.{constant, distance_file, empty_function, file_of_main, nearest_else_tree}
use Rattle.grammar.specs.KnownSources.{sum_of_postfix_tree}
use Rattle.grammar.specs.Need.{built, need}
use Rattle.grammar.specs.ProfileNumbers.{first_profile}
use Rattle.grammar.specs.Tree.{ExpressionStatement, Done, File}

abbrev pub IsFileOf : List ℕ → File → Type 0
IsFileOf text file = compiled first_profile text ≡ Ok file

abbrev pub HasFaultOn : List ℕ → ℕ → Code → Type 0
HasFaultOn text line fault = compiled first_profile text ≡ Err (diagnostic line fault)

-- main with this text within its braces
abbrev pub main_text : List ℕ → List ℕ
main_text body = codes "main(){" ++ (body ++ codes "}")

-- a file of main alone, with this constant as its one statement
abbrev pub constant_file : ℕ → File
constant_file n = file_of_main [] (ExpressionStatement (constant n) Done)

pub record KnownTexts : Type 0 where
  pub nothing : IsFileOf (main_text []) (file_of_main [] Done)
  pub sum_of_postfix : IsFileOf (main_text (codes " x = a+++b; "))
      (file_of_main (codes "x" ∷ codes "a" ∷ codes "b" ∷ []) sum_of_postfix_tree)
  pub distance : IsFileOf (codes "d(x,y) int x,y; {return(x*x+y*y);} main(){d(3);}") distance_file
  pub nearest_else : IsFileOf (main_text (codes "if(a) if(b) c; else d;"))
      (file_of_main (codes "a" ∷ codes "b" ∷ codes "c" ∷ codes "d" ∷ []) nearest_else_tree)
  pub empty : HasFaultOn [] 1 fault_code.NoMainFunction
  pub not_defined : HasFaultOn (codes "main(){ f(); }") 1 fault_code.FunctionNotDefined
  pub refused_word : HasFaultOn (codes "main(){" ++ 10 ∷ codes "break; }") 2 fault_code.ReservedWord
  pub comment_not_closed : HasFaultOn (main_text [] ++ 10 ∷ codes "/* x") 2 fault_code.CommentNotClosed
  pub ended_by_byte_26 : IsFileOf (main_text [] ++ 26 ∷ codes "/* x") (file_of_main [] Done)
  pub largest_constant : IsFileOf (main_text (codes "2147483647;")) (constant_file 2147483647)
  pub constant_too_large : HasFaultOn (main_text (codes "2147483648;")) 1 fault_code.ConstantTooLarge
  pub name_too_long : HasFaultOn (main_text (replicate 32 97 ++ codes ";")) 1 fault_code.NameTooLong
  pub bad_character : HasFaultOn (codes "main(){}#") 1 fault_code.BadCharacter
  pub decided_by_two_tokens : need first_profile (codes "main(){ break;    ") ≡ 14
  pub decided_by_all : need first_profile (codes "main(){}   ") ≡ 11
  pub built_behind_three_tokens : built (codes "f(){} main(){") 12 ≡ function_actions 0 (empty_function (codes "f"))
  pub not_built_before : built (codes "f(){} main(){") 11 ≡ []
