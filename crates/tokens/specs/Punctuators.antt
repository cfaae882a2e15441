-- Punctuators: operators, brackets, comma and semicolon.
use Rattle.std.specs.Prelude.{ℕ, List, [], ◌∷◌, Option, codes, take}
use Rattle.std.specs.List.{find}
use Rattle.std.specs.Option.{option_or}
use Rattle.std.specs.Str.{bytes_eq}
use Rattle.tokens.specs.declared.located_tokens.Punctuator.{Punctuator}
use Rattle.tokens.specs.declared.located_tokens.Punctuator.TheVariants.{Plus, Minus, Star, Slash, Percent, And, Or}
use Rattle.tokens.specs.declared.located_tokens.Punctuator.TheVariants.{Xor, Tilde, Not, Less, Greater, Equals}
use Rattle.tokens.specs.declared.located_tokens.Punctuator.TheVariants.{ShiftLeft, ShiftRight, LessEquals}
use Rattle.tokens.specs.declared.located_tokens.Punctuator.TheVariants.{GreaterEquals, EqualsEquals, NotEquals}
use Rattle.tokens.specs.declared.located_tokens.Punctuator.TheVariants.{AndAnd, OrOr, PlusPlus, MinusMinus}
use Rattle.tokens.specs.declared.located_tokens.Punctuator.TheVariants.{PlusEquals, MinusEquals, StarEquals}
use Rattle.tokens.specs.declared.located_tokens.Punctuator.TheVariants.{SlashEquals, PercentEquals, ShiftLeftEquals}
use Rattle.tokens.specs.declared.located_tokens.Punctuator.TheVariants.{ShiftRightEquals, AndEquals, XorEquals}
use Rattle.tokens.specs.declared.located_tokens.Punctuator.TheVariants.{OrEquals, OpenRound, CloseRound, OpenCurly}
use Rattle.tokens.specs.declared.located_tokens.Punctuator.TheVariants.{CloseCurly, Comma, Semicolon}

abbrev pub spelling : Punctuator → List ℕ
spelling Plus = codes "+"
spelling Minus = codes "-"
spelling Star = codes "*"
spelling Slash = codes "/"
spelling Percent = codes "%"
spelling And = codes "&"
spelling Or = codes "|"
spelling Xor = codes "^"
spelling Tilde = codes "~"
spelling Not = codes "!"
spelling Less = codes "<"
spelling Greater = codes ">"
spelling Equals = codes "="
spelling ShiftLeft = codes "<<"
spelling ShiftRight = codes ">>"
spelling LessEquals = codes "<="
spelling GreaterEquals = codes ">="
spelling EqualsEquals = codes "=="
spelling NotEquals = codes "!="
spelling AndAnd = codes "&&"
spelling OrOr = codes "||"
spelling PlusPlus = codes "++"
spelling MinusMinus = codes "--"
spelling PlusEquals = codes "+="
spelling MinusEquals = codes "-="
spelling StarEquals = codes "*="
spelling SlashEquals = codes "/="
spelling PercentEquals = codes "%="
spelling ShiftLeftEquals = codes "<<="
spelling ShiftRightEquals = codes ">>="
spelling AndEquals = codes "&="
spelling XorEquals = codes "^="
spelling OrEquals = codes "|="
spelling OpenRound = codes "("
spelling CloseRound = codes ")"
spelling OpenCurly = codes "{"
spelling CloseCurly = codes "}"
spelling Comma = codes ","
spelling Semicolon = codes ";"

abbrev pub all_punctuators : List Punctuator
all_punctuators =
    Plus ∷ Minus ∷ Star ∷ Slash ∷ Percent ∷ And ∷ Or ∷ Xor ∷ Tilde ∷ Not ∷ Less ∷ Greater ∷ Equals
    ∷ ShiftLeft ∷ ShiftRight ∷ LessEquals ∷ GreaterEquals ∷ EqualsEquals ∷ NotEquals ∷ AndAnd ∷ OrOr ∷ PlusPlus
    ∷ MinusMinus
    ∷ PlusEquals ∷ MinusEquals ∷ StarEquals ∷ SlashEquals ∷ PercentEquals ∷ ShiftLeftEquals ∷ ShiftRightEquals
    ∷ AndEquals ∷ XorEquals ∷ OrEquals ∷ OpenRound ∷ CloseRound ∷ OpenCurly ∷ CloseCurly ∷ Comma ∷ Semicolon ∷ []

unfoldable pub punctuator_of : List ℕ → Option Punctuator
punctuator_of bytes = find (λ m. bytes_eq bytes (spelling m)) all_punctuators

-- the one that these bytes begin with: none is longer than three bytes
abbrev pub longest_punctuator : List ℕ → Option Punctuator
longest_punctuator bytes = option_or (punctuator_of (take 3 bytes))
    (option_or (punctuator_of (take 2 bytes)) (punctuator_of (take 1 bytes)))
