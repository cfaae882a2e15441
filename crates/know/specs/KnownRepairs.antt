-- How far small sources get, worked out by hand.
use Rattle.std.specs.Prelude.{◌≡◌, ℕ, List, [], ◌∷◌, ◌++◌, codes}
use Rattle.grammar.specs.Compiled.{compiled, diagnostic}
use Rattle.grammar.specs.ProfileNumbers.{first_profile}
use Rattle.grammar.specs.declared.diagnostics.Code.TheVariants as fault_code
use Rattle.grammar.specs.declared.diagnostics.Diagnostic.{Diagnostic}
use Rattle.know.specs.Repairs.{GetsFurther, StandsAmong, StandsBefore, broken}

-- its fault is at b
abbrev pub lacks_one : List ℕ
lacks_one = codes "main(){a=1 b;}"

-- its fault is at b, and with a semicolon before that at c
abbrev pub lacks_two : List ℕ
lacks_two = codes "main(){a=1 b=2 c;}"

abbrev pub at_line_1 : Diagnostic
at_line_1 = diagnostic 1 fault_code.SyntaxError

-- In the first profile.
pub record KnownRepairs : Type 0 where
  pub broken_before_b : broken 3 lacks_one ≡ codes "main(){a=1 " ++ (10 ∷ codes "b;}")
  pub behind_b : StandsBefore first_profile 2 lacks_one at_line_1
  pub before_b : StandsAmong first_profile 3 lacks_one at_line_1
  pub semicolon : GetsFurther first_profile lacks_one at_line_1 (codes "main(){a=1; b;}")
  pub first_of_two : GetsFurther first_profile lacks_two at_line_1 (codes "main(){a=1; b=2 c;}")
  pub function_lacks : GetsFurther first_profile (codes "main(){f() b;}") at_line_1 (codes "main(){f(); b;}")
