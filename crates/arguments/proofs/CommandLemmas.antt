-- What is needed of the command so that `clap` gives its matches and refusals exactly.
use Rattle.std.proofs.Common.{◌≡◌, ◌≢◌, [], ◌∷◌, true, refl, inl, inr}
use Rattle.clap.specs.Kinds.{HasKind, Kinds}
use Rattle.clap.specs.Values.{kind_of}
use Rattle.clap.specs.Words.{is_simple, is_simple_and_free}
use Rattle.clap.specs.declared.error.Error.{Error}
use Rattle.clap.specs.declared.error.kind.ErrorKind.TheVariants as error_kind
use Rattle.arguments.specs.CommandLine.{crobots_app}

pub simple : is_simple crobots_app ≡ true
unfolding crobots_app
simple = refl

pub free : is_simple_and_free crobots_app ≡ true
unfolding crobots_app
free = refl

-- an error that isn't of memory has a kind
pub some_kind : (kinds : Kinds) (e : Error) → HasKind kinds e → (kind_of e ≡ error_kind.OutOfMemory → ⊥) → kinds ≢ []
some_kind [] e (inl memory) other = absurd (other memory)
some_kind [] e (inr none) other = absurd none
some_kind (k ∷ ks) e has other = λ none. cc
