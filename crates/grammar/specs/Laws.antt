-- Laws on the definitions: a derivation ends, and a source is what its derivation leads to.
-- The folder Laws has the definitions that laws, proofs and private functions need: readers needn't believe them.
pub mod Naming
pub mod Climbing
pub mod Index
pub mod Parsing
pub mod Origins
pub mod Finished
pub mod OperatorTokens
pub mod ProfileParts
pub mod ScopeParts
pub mod StateParts
use Rattle.std.specs.Prelude.{◌≡◌, ◌≤◌, ℕ, List, [], ◌∷◌, ◌++◌, length, Some, None, Ok, Err}
use Rattle.std.specs.Prelude.{slice_get}
use Rattle.tokens.specs.Cursors.{reach_of}
use Rattle.tokens.specs.Tokens.{tokens}
use Rattle.tokens.specs.declared.located_tokens.LocatedToken.{LocatedToken}
use Rattle.grammar.specs.declared.diagnostics.Diagnostic.{Diagnostic}
use Rattle.grammar.specs.Compiled.{compiled_tokens, last_state, resolved}
use Rattle.grammar.specs.Derivation.{State, PartialTree, Definition, initial_state, step, derived}
use Rattle.grammar.specs.Laws.StateParts.{state}
use Rattle.grammar.specs.Faults.{Fault, faults_at}
use Rattle.grammar.specs.declared.actions.Action.{Action}
use Rattle.grammar.specs.Actions.{actions, code_length, function_actions}
use Rattle.grammar.specs.CodeLengths.{function_length}
use Rattle.grammar.specs.Building.{Representation, MayFollow, LeavesOpen}
use Rattle.grammar.specs.Beginning.{IsBeginning}
use Rattle.grammar.specs.Following.{AreInOrder, Opened, follow, follow_all, open_count}
use Rattle.grammar.specs.Grammar.{Declarations, Statements, Item, Part, Make, Define}
use Rattle.grammar.specs.Nesting.{most_open}
use Rattle.grammar.specs.Need.{need}
use Rattle.grammar.specs.Nesting.{body_nesting}
use Rattle.grammar.specs.Laws.Parsing.{Fails, IsFault, DerivesWithoutFault}
use Rattle.grammar.specs.Profile.{Profile}
use Rattle.grammar.specs.Resolved.{IsResolved}
use Rattle.grammar.specs.Scope.{Scope}
use Rattle.grammar.specs.Tree.{Function, File}

-- no step leads on from the last state
abbrev pub EachDerivationEnds : Type 0
EachDerivationEnds = (located_tokens : List LocatedToken) → step (last_state located_tokens) ≡ None

-- a source whose derivation ends without a fault is the file of its last state, or lacks a function
abbrev pub FaultlessIsResolved : Type 0
FaultlessIsResolved = (profile : Profile) (located_tokens : List LocatedToken) (t : State) →
    DerivesWithoutFault profile (initial_state located_tokens) t → step t ≡ None → faults_at profile t ≡ []
    → compiled_tokens profile located_tokens ≡ resolved located_tokens t.scope t.functions

-- any other is its first fault: the one at the earliest token, and there the one with the least code
abbrev pub FirstFaultDecides : Type 0
FirstFaultDecides = (profile : Profile) (located_tokens : List LocatedToken) (d : Diagnostic)
    → Fails profile (initial_state located_tokens) d → compiled_tokens profile located_tokens ≡ Err d

-- the actions of a resolved file may follow one another, and leave nothing open, if no function has too much open
-- at once
abbrev pub EachFileFollows : Type 0
EachFileFollows = (file : File) → IsResolved file
    → ((k : ℕ) (f : Function) → slice_get file.functions k ≡ Some f → body_nesting f.body ≤ most_open) →
    follow_all (actions file) [] ≡ Some []

-- the actions of a function make as many instructions as its trees have
abbrev pub ActionsHaveLengths : Type 0
ActionsHaveLengths = (p : Profile) (number : ℕ) (f : Function) →
    code_length p (function_actions number f) ≡ function_length p f

-- actions are a beginning of those of some functions exactly if each may follow those before it
abbrev pub BeginningsAreInOrder : Type 0
BeginningsAreInOrder = (acts : List Action) → IsBeginning acts → AreInOrder acts

abbrev pub WhatIsInOrderBegins : Type 0
WhatIsInOrderBegins = (acts : List Action) → AreInOrder acts → IsBeginning acts

-- a file that compiles is resolved
abbrev pub CompiledIsResolved : Type 0
CompiledIsResolved = (profile : Profile) (located_tokens : List LocatedToken) (file : File)
    → compiled_tokens profile located_tokens ≡ Ok file → IsResolved file

-- to a builder that represents a list that leaves this open, an action may be reported that may follow what is open
abbrev pub MayBeReported : Representation → Type 0
MayBeReported stands = (opened next : Opened) (action : Action) → LeavesOpen stands opened
    → follow action opened ≡ Some next → open_count next ≤ most_open → MayFollow stands action

-- the function that is being defined keeps its number, its name and its parameters, and no other definition begins
pub record KeepsFunction (before after : Scope) : Type 0 where
  pub number : after.number ≡ before.number
  pub begun : after.begun ≡ before.begun
  pub name : after.current.name ≡ before.current.name
  pub parameters : after.current.parameters ≡ before.current.parameters

-- what is in a function's block keeps the function, up to the block's end: there no further function is defined yet
abbrev pub BlocksKeepTheFunction : Type 0
BlocksKeepTheFunction = (n : ℕ) (stack : List Item) (rest later : List LocatedToken) (values left : List PartialTree)
    (before after : Scope) (functions : List Definition) →
    derived n (state (Part Declarations ∷ Part Statements ∷ Make Define ∷ stack) rest values before functions)
    ≡ state (Make Define ∷ stack) later left after functions →
    KeepsFunction before after

-- If no fault is before these last tokens of a source, the source is needed up to the second of them, or the
-- first if it is the last.
abbrev pub WhatWasReadIsNeeded : Type 0
WhatWasReadIsNeeded = (profile : Profile) (bytes : List ℕ) (passed rest : List LocatedToken)
    → tokens bytes ≡ passed ++ rest →
    ((f : Fault) → IsFault profile (initial_state (tokens bytes)) f → length f.rest ≤ length rest)
    → reach_of rest ≤ need profile bytes
