-- Laws of code, and of what trees want.
use Rattle.std.specs.Prelude.{◌≡◌, ◌<◌, ◌+◌, ℕ, ℤ, List, length, true}
use Rattle.grammar.specs.Actions.{actions, code_length}
use Rattle.grammar.specs.Profile.{Profile}
use Rattle.grammar.specs.Resolved.{IsResolved}
use Rattle.grammar.specs.Tree.{File}
use Rattle.code.specs.Generation.{code_of}
use Rattle.code.specs.Machine.{want_code, reached, started_machine, is_ready, instr_at}
use Rattle.code.specs.Meaning.{want, want_within}

-- The code of a file has as many instructions as its actions make, and the last NOP.
abbrev pub HasLengthOfActions : Type 0
HasLengthOfActions = (p : Profile) (file : File) → IsResolved file
    → length (code_of p file).instructions ≡ code_length p (actions file) + 1

-- The code of a file wants what its trees want, along all replies.
abbrev pub WantsWhatTreesWant : Type 0
WantsWhatTreesWant = (p : Profile) (file : File) → IsResolved file
    → (trace : List ℤ) → want_code (code_of p file) trace ≡ want p file trace

-- What a file wants along some replies is the same with any bound on iterations and calls that is greater than their
-- number.
abbrev pub MoreIterationsChangeNothing : Type 0
MoreIterationsChangeNothing = (p : Profile) (file : File) → IsResolved file
    → (trace : List ℤ) (n : ℕ) → length trace < n → want_within p file n trace ≡ want p file trace

-- Along all replies the next instruction of a file's code finds on the stack all that it takes.
abbrev pub IsAlwaysReady : Type 0
IsAlwaysReady = (p : Profile) (file : File) → IsResolved file
    → (trace : List ℤ) → let s = reached (code_of p file) (started_machine (code_of p file)) trace in
    is_ready (code_of p file) s (instr_at (code_of p file) s.at) ≡ true
