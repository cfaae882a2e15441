-- Known battles, each from the source of its robots to its end. The seed is 1, and the match's number is 1.
use Rattle.std.specs.Prelude.{◌≡◌, ℕ, List, [], ◌∷◌, Ok, codes, map}
use Rattle.grammar.specs.declared.resolved_names.Callee.TheVariants as callee
use Rattle.grammar.specs.declared.resolved_names.Intrinsic.TheVariants as intrinsic
use Rattle.grammar.specs.declared.resolved_names.Var.TheVariants as var
use Rattle.arith.specs.declared.operators.Op.{Op}
use Rattle.arith.specs.declared.operators.Op.TheVariants as op
use Rattle.grammar.specs.declared.operators.StoreOp.TheVariants as store_op
use Rattle.grammar.specs.Compiled.{compiled}
use Rattle.grammar.specs.KnownSources.{constant, file_of_main, late_read_file, main_of, shot_tree}
use Rattle.grammar.specs.Profile.{Profile}
use Rattle.grammar.specs.ProfileNumbers.{first_profile, second_profile}
use Rattle.grammar.specs.Tree.{Variable, Binary, Assign, Call, NoMore, Argument, Body, Done, ExpressionStatement, IfStatement, While, File}
use Rattle.code.specs.KnownPrograms.{shooting_file}
use Rattle.battles.specs.Battle.{Outcome, BattleState, battle, first_state, state_after, damages_of}
use Rattle.battles.specs.Pairing.{robots_of}

-- an empty loop
abbrev pub idle : Body
idle = While (constant 1) Done Done

abbrev pub idle_file : File
idle_file = file_of_main [] idle

-- main(){left op cannon(0,0);}
abbrev pub beside_shot : Op → ℕ → File
beside_shot o left =
    file_of_main [] (ExpressionStatement (Binary o (constant left)
    (Call (callee.Intrinsic intrinsic.Cannon) (Argument (constant 0) (Argument (constant 0) NoMore)))) Done)

-- int n; main(){n=n+1; if(n==2) cannon(0,0);}
abbrev pub counting_file : File
counting_file = record {
  externals = codes "n" ∷ [];
  functions = main_of [] (
      ExpressionStatement
      (Assign store_op.Set (var.External 0) (Binary op.Add (Variable (var.External 0)) (constant 1)))
      (IfStatement (Binary op.Equal (Variable (var.External 0)) (constant 2)) shot_tree Done)) ∷ [];
  order = 0 ∷ [];
  main = 0;
}

-- main(){if((2&&3)==1) cannon(0,0); while(1);}
abbrev pub truth_file : File
truth_file = file_of_main [] (IfStatement (Binary op.Equal (Binary op.And (constant 2) (constant 3)) (constant 1))
    shot_tree idle)

-- main(){while(1)cannon(0,rand(41));}
abbrev pub drawing_file : File
drawing_file = file_of_main [] (While (constant 1)
    (ExpressionStatement (Call (callee.Intrinsic intrinsic.Cannon) (Argument (constant 0)
    (Argument (Call (callee.Intrinsic intrinsic.Rand) (Argument (constant 41) NoMore)) NoMore))) Done)
    Done)

-- how a battle ends
abbrev pub after : ℕ → List ℕ → Outcome
after cycles damages = record { cycles = cycles; damages = damages }

-- the sources are those of the files, and the battle of these ends so
pub record Fights (p : Profile) (sources : List (List ℕ)) (files : List File) (limit : ℕ) (outcome : Outcome) : Type 0
  where
    pub compiles : map (compiled p) sources ≡ map (λ file. Ok file) files
    pub ends : battle (robots_of p files) 1 1 limit ≡ outcome

-- A robot that shoots at its own feet in each turn of nine cycles, in cycles 6, 15, 24 and so on.
abbrev pub shooting : List ℕ
shooting = codes "main(){while(1)cannon(0,0);}"

-- A robot that does nothing, and one that shoots as far to the east as a random number says, 0 to 40 metres. The words
-- come in the order of the cycles, and within a cycle in that of the robots.
abbrev pub idling : List ℕ
idling = codes "main(){while(1);}"

abbrev pub drawing : List ℕ
drawing = codes "main(){while(1)cannon(0,rand(41));}"

abbrev pub shooting_state : ℕ → BattleState
shooting_state n = state_after (robots_of first_profile (shooting_file ∷ [])) (first_state 2 1 1) n

pub record KnownBattles : Type 0 where
  pub empty : Fights first_profile (codes "main(){}" ∷ []) (file_of_main [] Done ∷ []) 15 (after 15 (0 ∷ 0 ∷ []))
  pub none_survives : Fights first_profile (shooting ∷ []) (shooting_file ∷ []) 500000 (after 90 (100 ∷ 100 ∷ []))
  pub damages : map (λ n. damages_of 2 (shooting_state n).field) (15 ∷ 30 ∷ 45 ∷ 60 ∷ 75 ∷ 90 ∷ [])
      ≡ (20 ∷ 20 ∷ []) ∷ (30 ∷ 30 ∷ []) ∷ (50 ∷ 50 ∷ []) ∷ (70 ∷ 70 ∷ []) ∷ (80 ∷ 80 ∷ []) ∷ (100 ∷ 100 ∷ []) ∷ []
  pub stopped_before : Fights first_profile (shooting ∷ []) (shooting_file ∷ []) 89 (after 89 (80 ∷ 80 ∷ []))
  pub one_survives : Fights first_profile (shooting ∷ idling ∷ [])
      (shooting_file ∷ idle_file ∷ []) 500000 (after 90 (100 ∷ 0 ∷ []))
  pub one_of_three_survives : Fights first_profile (idling ∷ shooting ∷ shooting ∷ [])
      (idle_file ∷ shooting_file ∷ shooting_file ∷ []) 500000 (after 90 (0 ∷ 100 ∷ 100 ∷ []))
  pub one_of_four_survives : Fights first_profile (shooting ∷ shooting ∷ idling ∷ shooting ∷ [])
      (shooting_file ∷ shooting_file ∷ idle_file ∷ shooting_file ∷ []) 500000 (after 90 (100 ∷ 100 ∷ 0 ∷ 100 ∷ []))
  pub two_draw_in_turn : Fights first_profile (drawing ∷ drawing ∷ []) (drawing_file ∷ drawing_file ∷ []) 30
      (after 30 (20 ∷ 9 ∷ []))
  pub three_draw_in_turn : Fights first_profile (drawing ∷ drawing ∷ drawing ∷ [])
      (drawing_file ∷ drawing_file ∷ drawing_file ∷ []) 30 (after 30 (16 ∷ 9 ∷ 13 ∷ []))
  pub both_sides : Fights first_profile (codes "main(){0 && cannon(0,0);}" ∷ [])
      (beside_shot op.And 0 ∷ []) 15 (after 15 (20 ∷ 20 ∷ []))
  pub late_read : Fights first_profile
      (codes "int x; f(){x=1;return 1;} main(){x+=f(); if(x==2) cannon(0,0); while(1);}" ∷ [])
      (late_read_file ∷ []) 30 (after 30 (10 ∷ 10 ∷ []))
  pub restart : Fights first_profile (codes "int n; main(){n=n+1; if(n==2) cannon(0,0);}" ∷ [])
      (counting_file ∷ []) 30 (after 30 (0 ∷ 0 ∷ []))

-- The second profile leaves out the right side of && and || if the left side decides.
pub record KnownShortBattles : Type 0 where
  pub left_out : Fights second_profile (codes "main(){0 && cannon(0,0);}" ∷ [])
      (beside_shot op.And 0 ∷ []) 15 (after 15 (0 ∷ 0 ∷ []))
  pub taken : Fights second_profile (codes "main(){0 || cannon(0,0);}" ∷ [])
      (beside_shot op.Or 0 ∷ []) 15 (after 15 (10 ∷ 10 ∷ []))
  pub decided : Fights second_profile (codes "main(){1 || cannon(0,0);}" ∷ [])
      (beside_shot op.Or 1 ∷ []) 15 (after 15 (0 ∷ 0 ∷ []))
  pub truth : Fights second_profile (codes "main(){if((2&&3)==1) cannon(0,0); while(1);}" ∷ [])
      (truth_file ∷ []) 30 (after 30 (10 ∷ 10 ∷ []))
  pub none_survives : Fights second_profile (shooting ∷ []) (shooting_file ∷ []) 500000 (after 90 (100 ∷ 100 ∷ []))
