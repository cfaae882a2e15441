-- Listings of programs that show the rules.
use Rattle.std.specs.Prelude.{◌≡◌, ℕ, List, [], ◌∷◌, ◌++◌, codes, flat_map}
use Rattle.arith.specs.declared.operators.Op.TheVariants as op
use Rattle.grammar.specs.KnownSources.{constant, distance_file, file_of_main, late_read_file, nearest_else_tree, sum_of_postfix_tree}
use Rattle.grammar.specs.Profile.{Profile}
use Rattle.grammar.specs.ProfileNumbers.{first_profile, second_profile}
use Rattle.grammar.specs.Tree.{Binary, Done, File}
use Rattle.code.specs.KnownPrograms.{asking_file, cannon_of, defined_behind_file, says, sum_file, truth_file}
use Rattle.grammar.specs.Pools.{pools_of}
use Rattle.code.specs.Generation.{code_of}
use Rattle.listings.specs.Listing.{listing_of}

abbrev pub listing : Profile → List ℕ → File → List ℕ
listing p name file = listing_of name (pools_of file) (code_of p file)

-- the lines of a file's listing after the one that names it
abbrev pub HasLines : Profile → File → List (List ℕ) → Type 0
HasLines p file lines = listing p (codes "a.r") file ≡ flat_map (λ line. line ++ codes "\n") (codes "File a.r" ∷ lines)

-- The listings, worked out by hand.
pub record KnownListings : Type 0 where
  pub nothing : listing first_profile (codes "a.r") (file_of_main [] Done)
      ≡ codes "File a.r\nExternals 0\nFunction 0 main vars 0 at 0\nCode 3\n    0 CONST 0\n    1 RETSUB\n    2 NOP\n"
  pub sum : HasLines first_profile sum_file
      (codes "Externals 0" ∷ codes "Function 0 main vars 0 at 0" ∷ codes "Code 7"
      ∷ codes "    0 CONST 1" ∷ codes "    1 CONST 2" ∷ codes "    2 BINOP +" ∷ codes "    3 CHOP"
      ∷ codes "    4 CONST 0" ∷ codes "    5 RETSUB" ∷ codes "    6 NOP" ∷ [])
  pub sum_of_postfix :
      HasLines first_profile (file_of_main (codes "x" ∷ codes "a" ∷ codes "b" ∷ []) sum_of_postfix_tree)
      (codes "Externals 0" ∷ codes "Function 0 main vars 3 at 0" ∷ codes "  0 x" ∷ codes "  1 a" ∷ codes "  2 b"
      ∷ codes "Code 11"
      ∷ codes "    0 FETCH L1" ∷ codes "    1 CONST 1" ∷ codes "    2 STORE L1 +=" ∷ codes "    3 CHOP"
      ∷ codes "    4 FETCH L2" ∷ codes "    5 BINOP +" ∷ codes "    6 STORE L0 =" ∷ codes "    7 CHOP"
      ∷ codes "    8 CONST 0" ∷ codes "    9 RETSUB" ∷ codes "   10 NOP" ∷ [])
  pub distance : HasLines first_profile distance_file
      (codes "Externals 0" ∷ codes "Function 0 d vars 2 at 0" ∷ codes "  0 x" ∷ codes "  1 y"
      ∷ codes "Function 1 main vars 0 at 10" ∷ codes "Code 17"
      ∷ codes "    0 FETCH L0" ∷ codes "    1 FETCH L0" ∷ codes "    2 BINOP *" ∷ codes "    3 FETCH L1"
      ∷ codes "    4 FETCH L1" ∷ codes "    5 BINOP *"
      ∷ codes "    6 BINOP +" ∷ codes "    7 RETSUB" ∷ codes "    8 CONST 0" ∷ codes "    9 RETSUB"
      ∷ codes "   10 FRAME" ∷ codes "   11 CONST 3" ∷ codes "   12 FCALL 0" ∷ codes "   13 CHOP" ∷ codes "   14 CONST 0"
      ∷ codes "   15 RETSUB" ∷ codes "   16 NOP" ∷ [])
  pub nearest_else : HasLines first_profile
      (file_of_main (codes "a" ∷ codes "b" ∷ codes "c" ∷ codes "d" ∷ []) nearest_else_tree)
      (codes "Externals 0" ∷ codes "Function 0 main vars 4 at 0" ∷ codes "  0 a" ∷ codes "  1 b" ∷ codes "  2 c"
      ∷ codes "  3 d" ∷ codes "Code 13"
      ∷ codes "    0 FETCH L0" ∷ codes "    1 BRANCH 10" ∷ codes "    2 FETCH L1" ∷ codes "    3 BRANCH 8"
      ∷ codes "    4 FETCH L2" ∷ codes "    5 CHOP"
      ∷ codes "    6 CONST 0" ∷ codes "    7 BRANCH 10" ∷ codes "    8 FETCH L3" ∷ codes "    9 CHOP"
      ∷ codes "   10 CONST 0" ∷ codes "   11 RETSUB" ∷ codes "   12 NOP" ∷ [])
  pub late_read : HasLines first_profile late_read_file
      (codes "Externals 1" ∷ codes "  0 x" ∷ codes "Function 0 f vars 0 at 0" ∷ codes "Function 1 main vars 0 at 7"
      ∷ codes "Code 27"
      ∷ codes "    0 CONST 1" ∷ codes "    1 STORE E0 =" ∷ codes "    2 CHOP" ∷ codes "    3 CONST 1"
      ∷ codes "    4 RETSUB" ∷ codes "    5 CONST 0" ∷ codes "    6 RETSUB"
      ∷ codes "    7 FRAME" ∷ codes "    8 FCALL 0" ∷ codes "    9 STORE E0 +=" ∷ codes "   10 CHOP"
      ∷ codes "   11 FETCH E0" ∷ codes "   12 CONST 2" ∷ codes "   13 BINOP ==" ∷ codes "   14 BRANCH 20"
      ∷ codes "   15 FRAME" ∷ codes "   16 CONST 0" ∷ codes "   17 CONST 0" ∷ codes "   18 FCALL cannon"
      ∷ codes "   19 CHOP"
      ∷ codes "   20 CONST 1" ∷ codes "   21 BRANCH 24" ∷ codes "   22 CONST 0" ∷ codes "   23 BRANCH 20"
      ∷ codes "   24 CONST 0" ∷ codes "   25 RETSUB" ∷ codes "   26 NOP" ∷ [])
  pub asking : HasLines first_profile asking_file
      (codes "Externals 0" ∷ codes "Function 0 f vars 1 at 0" ∷ codes "  0 a" ∷ codes "Function 1 main vars 0 at 7"
      ∷ codes "Code 14"
      ∷ codes "    0 FETCH L0" ∷ codes "    1 FRAME" ∷ codes "    2 FCALL damage" ∷ codes "    3 BINOP +"
      ∷ codes "    4 RETSUB" ∷ codes "    5 CONST 0" ∷ codes "    6 RETSUB"
      ∷ codes "    7 FRAME" ∷ codes "    8 CONST 5" ∷ codes "    9 FCALL 0" ∷ codes "   10 CHOP" ∷ codes "   11 CONST 0"
      ∷ codes "   12 RETSUB" ∷ codes "   13 NOP" ∷ [])
  pub defined_behind : HasLines first_profile defined_behind_file
      (codes "Externals 1" ∷ codes "  0 e" ∷ codes "Function 0 main vars 0 at 0" ∷ codes "Function 1 g vars 0 at 7"
      ∷ codes "Function 2 f vars 0 at 5" ∷ codes "Code 15"
      ∷ codes "    0 FRAME" ∷ codes "    1 FCALL 1" ∷ codes "    2 CHOP" ∷ codes "    3 CONST 0" ∷ codes "    4 RETSUB"
      ∷ codes "    5 CONST 0" ∷ codes "    6 RETSUB"
      ∷ codes "    7 CONST 0" ∷ codes "    8 CONST 1" ∷ codes "    9 BINOP -" ∷ codes "   10 STORE E0 -="
      ∷ codes "   11 CHOP" ∷ codes "   12 CONST 0" ∷ codes "   13 RETSUB" ∷ codes "   14 NOP" ∷ [])
  pub left_out : HasLines second_profile (says []
      (Binary op.And (constant 0) (cannon_of (constant 0) (constant 0))))
      (codes "Externals 0" ∷ codes "Function 0 main vars 0 at 0" ∷ codes "Code 14"
      ∷ codes "    0 CONST 0" ∷ codes "    1 BRANCH 9" ∷ codes "    2 FRAME" ∷ codes "    3 CONST 0"
      ∷ codes "    4 CONST 0" ∷ codes "    5 FCALL cannon"
      ∷ codes "    6 TRUTH" ∷ codes "    7 CONST 0" ∷ codes "    8 BRANCH 10" ∷ codes "    9 CONST 0"
      ∷ codes "   10 CHOP"
      ∷ codes "   11 CONST 0" ∷ codes "   12 RETSUB" ∷ codes "   13 NOP" ∷ [])
  pub decided : HasLines second_profile (says [] (Binary op.Or (constant 0) (constant 3)))
      (codes "Externals 0" ∷ codes "Function 0 main vars 0 at 0" ∷ codes "Code 11"
      ∷ codes "    0 CONST 0" ∷ codes "    1 BRANCH 5" ∷ codes "    2 CONST 1" ∷ codes "    3 CONST 0"
      ∷ codes "    4 BRANCH 7" ∷ codes "    5 CONST 3"
      ∷ codes "    6 TRUTH" ∷ codes "    7 CHOP" ∷ codes "    8 CONST 0" ∷ codes "    9 RETSUB" ∷ codes "   10 NOP" ∷
      [])
  pub truth : HasLines second_profile truth_file
      (codes "Externals 0" ∷ codes "Function 0 main vars 0 at 0" ∷ codes "Code 22"
      ∷ codes "    0 CONST 2" ∷ codes "    1 BRANCH 6" ∷ codes "    2 CONST 3" ∷ codes "    3 TRUTH"
      ∷ codes "    4 CONST 0" ∷ codes "    5 BRANCH 7"
      ∷ codes "    6 CONST 0" ∷ codes "    7 CONST 1" ∷ codes "    8 BINOP ==" ∷ codes "    9 BRANCH 15"
      ∷ codes "   10 FRAME" ∷ codes "   11 CONST 0" ∷ codes "   12 CONST 0" ∷ codes "   13 FCALL cannon"
      ∷ codes "   14 CHOP"
      ∷ codes "   15 CONST 1" ∷ codes "   16 BRANCH 19" ∷ codes "   17 CONST 0" ∷ codes "   18 BRANCH 15"
      ∷ codes "   19 CONST 0" ∷ codes "   20 RETSUB" ∷ codes "   21 NOP" ∷ [])
  pub both_sides : HasLines first_profile (says [] (Binary op.And (constant 0) (constant 3)))
      (codes "Externals 0" ∷ codes "Function 0 main vars 0 at 0" ∷ codes "Code 7"
      ∷ codes "    0 CONST 0" ∷ codes "    1 CONST 3" ∷ codes "    2 BINOP &&" ∷ codes "    3 CHOP"
      ∷ codes "    4 CONST 0" ∷ codes "    5 RETSUB" ∷ codes "    6 NOP" ∷ [])
