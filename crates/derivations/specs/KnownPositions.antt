-- The positions of the instructions of known sources.
use Rattle.std.specs.Prelude.{ℕ, List, [], ◌∷◌, codes, map}
use Rattle.tokens.specs.Tokens.{tokens}
use Rattle.tokens.specs.declared.located_tokens.Keyword.TheVariants as keyword
use Rattle.tokens.specs.declared.located_tokens.LocatedToken.{LocatedToken}
use Rattle.tokens.specs.declared.located_tokens.Punctuator.TheVariants as punctuator
use Rattle.tokens.specs.declared.located_tokens.Token.{Token}
use Rattle.tokens.specs.declared.located_tokens.Token.TheVariants as token
use Rattle.grammar.specs.KnownSources.{a, f, x, ro, rc, end, number, return, in_main, on_lines}
use Rattle.grammar.specs.Profile.{Profile}
use Rattle.grammar.specs.ProfileNumbers.{first_profile, second_profile}
use Rattle.grammar_laws.specs.KnownEmissions.{loop}
use Rattle.derivations.specs.Columns.{token_positions}
use Rattle.derivations.specs.Positions.{ArePositions}
use Rattle.derivations.specs.declared.addresses.SourcePosition.{SourcePosition}

abbrev pub at : ℕ → ℕ → SourcePosition
at line column = record { line = line; column = column }

-- at the beginnings of these lines
abbrev pub beginning : List ℕ → List SourcePosition
beginning lines = map (λ line. at line 1) lines

-- The instructions of a source whose tokens are each at the beginning of a line are at those of these lines.
abbrev pub AreOnLines : Profile → List LocatedToken → List ℕ → Type 0
AreOnLines profile tokens lines =
    ArePositions profile tokens (beginning (map (λ (t : LocatedToken). t.line) tokens)) (beginning lines)

-- main() { if (a) f(1 + 2); else x++; return; }
abbrev pub branches : List Token
branches =
    token.Keyword keyword.If ∷ ro ∷ a ∷ rc
    ∷ f ∷ ro ∷ number 1 ∷ token.Punctuator punctuator.Plus ∷ number 2 ∷ rc ∷ end
    ∷ token.Keyword keyword.Else ∷ x ∷ token.Punctuator punctuator.PlusPlus ∷ end
    ∷ return ∷ end ∷ []

-- two lines, with a comment before the assignment
abbrev pub two_lines : List ℕ
two_lines = codes "main()\n { /*x*/ a = 12; }"

pub record KnownPositions : Type 0 where
  -- a on line 8, && on 9, 1 on 10; the test of the while on 6; - on 14, a on 15, = on 13; ; on 16; the end of the loop;
  -- } on 17 twice, and the end
  pub loop_lines : AreOnLines first_profile (on_lines loop)
      (8 ∷ 10 ∷ 9 ∷ 6 ∷ 14 ∷ 15 ∷ 14 ∷ 13 ∷ 16 ∷ 6 ∷ 6 ∷ 17 ∷ 17 ∷ 18 ∷ [])
  -- in the second profile && makes one instruction before its right side, and four after it
  pub loop_short : AreOnLines second_profile (on_lines loop)
      (8 ∷ 9 ∷ 10 ∷ 9 ∷ 9 ∷ 9 ∷ 9 ∷ 6 ∷ 14 ∷ 15 ∷ 14 ∷ 13 ∷ 16 ∷ 6 ∷ 6 ∷ 17 ∷ 17 ∷ 18 ∷ [])
  -- a, the if; f, 1, 2, +, f; ; on 15; the else twice; ++ four times, ; on 19; ; on 21, the return; } twice, the end
  pub branch_lines : AreOnLines first_profile (in_main branches)
      (7 ∷ 5 ∷ 9 ∷ 11 ∷ 13 ∷ 12 ∷ 9 ∷ 15 ∷ 16 ∷ 16 ∷ 18 ∷ 18 ∷ 18 ∷ 18 ∷ 19 ∷ 21 ∷ 20 ∷ 22 ∷ 22 ∷ 23 ∷ [])
  -- nothing but the end
  pub nothing : AreOnLines first_profile (on_lines []) (1 ∷ [])
  -- 12, =, ;, } twice, and the end behind it
  pub columns : ArePositions first_profile (tokens two_lines) (token_positions two_lines)
      (at 2 14 ∷ at 2 12 ∷ at 2 16 ∷ at 2 18 ∷ at 2 18 ∷ at 2 19 ∷ [])
