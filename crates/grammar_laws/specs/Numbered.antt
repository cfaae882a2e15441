-- The law on numbers: the variables and functions of a derivation have the numbers that the rules on names give.
use Rattle.std.specs.Prelude.{◌≡◌, ℕ, zero, suc, List, [], ◌∷◌, ◌++◌, false, Option, Some, None, Ok, map, if◌then◌else◌}
use Rattle.tokens.specs.declared.located_tokens.LocatedToken.{LocatedToken}
use Rattle.grammar.specs.declared.resolved_names.Callee.{Callee}
use Rattle.grammar.specs.declared.resolved_names.Var.{Var}
use Rattle.grammar.specs.Compiled.{compiled_tokens, enough_steps}
use Rattle.grammar.specs.Derivation.{State, AVariable, ACall, Definition, initial_state, stepped, derived, next_token, name_of_token}
use Rattle.grammar.specs.Faults.{faults_in}
use Rattle.grammar.specs.Grammar.{Item, AName, Make, Define, Role, Called, Mentioned, is_lexical_error}
use Rattle.grammar.specs.Profile.{Profile}
use Rattle.grammar.specs.Tree.{Function, File, NoMore}
use Rattle.grammar_laws.specs.Numbering.{Says, Ends, History, HasNumber, IsVariableOf, IsCalleeOf}
use Rattle.grammar_laws.specs.Numbering.{defined_name, distinct, external_names, function_names, own_names}
use Rattle.grammar_laws.specs.Numbering.{parameter_count}

-- The names that a derivation said.

abbrev pub says : Role → Option (List ℕ) → History
says role None = []
says role (Some name) = Says role name ∷ []

abbrev pub said_of : List Item → List LocatedToken → History
said_of (AName role ∷ stack) rest = says role (name_of_token (next_token rest))
said_of (Make Define ∷ stack) rest = Ends ∷ []
said_of stack rest = []

-- in one step: none is taken if a lexical error is next
abbrev pub said : State → History
said s = if is_lexical_error (next_token s.rest) then [] else said_of s.stack s.rest

-- in n steps, the last first
abbrev pub said_in : ℕ → State → History
said_in zero s = []
said_in (suc n) s = said_in n (stepped s) ++ said s

abbrev pub state_at : ℕ → List LocatedToken → State
state_at n located_tokens = derived n (initial_state located_tokens)

abbrev pub said_at : ℕ → List LocatedToken → History
said_at n located_tokens = said_in n (initial_state located_tokens)

-- The numbers that it gives.

-- a name is next, in this role
pub record IsNamed (s : State) (role : Role) (name : List ℕ) : Type 0 where
  pub stack : List Item
  pub role_next : s.stack ≡ AName role ∷ stack
  pub name_next : name_of_token (next_token s.rest) ≡ Some name

-- a mention makes the variable of its name
pub record MakesVariable (history : History) (name : List ℕ) (s : State) : Type 0 where
  pub variable : Var
  pub makes : (stepped s).values ≡ AVariable variable ∷ s.values
  pub right : IsVariableOf history name variable

abbrev pub MentionsAreNumbered : Type 0
MentionsAreNumbered = (located_tokens : List LocatedToken) (n : ℕ) (name : List ℕ)
    → IsNamed (state_at n located_tokens) Mentioned name →
    MakesVariable (Says Mentioned name ∷ said_at n located_tokens) name (state_at n located_tokens)

-- a call, of what its name means
pub record MakesCall (history : History) (name : List ℕ) (s : State) : Type 0 where
  pub callee : Callee
  pub makes : (stepped s).values ≡ ACall callee NoMore ∷ s.values
  pub right : IsCalleeOf history name callee

-- if the steps before have no fault
abbrev pub CallsAreNumbered : Type 0
CallsAreNumbered = (profile : Profile) (located_tokens : List LocatedToken) (n : ℕ) (name : List ℕ)
    → faults_in profile n (initial_state located_tokens) ≡ [] → IsNamed (state_at n located_tokens) Called name →
    MakesCall (Says Called name ∷ said_at n located_tokens) name (state_at n located_tokens)

-- the definition of a function is about to end
pub record IsEnding (s : State) : Type 0 where
  pub stack : List Item
  pub define_next : s.stack ≡ Make Define ∷ stack
  pub sound : is_lexical_error (next_token s.rest) ≡ false

-- the function that is added has the name that was defined, and the number of that name
pub record AddsFunction (history : History) (s : State) : Type 0 where
  pub definition : Definition
  pub adds : (stepped s).functions ≡ s.functions ++ definition ∷ []
  pub name : definition.function.name ≡ defined_name history
  pub number : HasNumber (function_names history) (defined_name history) definition.number
  pub parameters : definition.function.parameters ≡ parameter_count history
  pub variables : definition.function.variables ≡ distinct (own_names history)

abbrev pub DefinitionsAreNumbered : Type 0
DefinitionsAreNumbered = (profile : Profile) (located_tokens : List LocatedToken) (n : ℕ)
    → faults_in profile n (initial_state located_tokens) ≡ [] → IsEnding (state_at n located_tokens) →
    AddsFunction (said_at n located_tokens) (state_at n located_tokens)

-- a file has the names that were said, each by its number
pub record IsNamedBy (history : History) (file : File) : Type 0 where
  pub externals : file.externals ≡ distinct (external_names history)
  pub functions : map (λ (f : Function). f.name) file.functions ≡ distinct (function_names history)

abbrev pub FilesAreNumbered : Type 0
FilesAreNumbered = (profile : Profile) (located_tokens : List LocatedToken) (file : File)
    → compiled_tokens profile located_tokens ≡ Ok file →
    IsNamedBy (said_at (enough_steps located_tokens) located_tokens) file
