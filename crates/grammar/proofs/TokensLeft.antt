-- The tokens left of a derivation are always the rest of all its tokens.
use Rattle.std.proofs.Common.{◌≡◌, ◌≤◌, ℕ, zero, suc, List, [], ◌∷◌, ◌++◌, refl, sym, ap, ◌∙◌, arith, length, drop, append_assoc, length-append}
use Rattle.tokens.specs.declared.located_tokens.LocatedToken.{LocatedToken}
use Rattle.grammar.specs.Derivation.{State, stack_step, stepped, derived}
use Rattle.grammar.specs.Grammar.{Item, Exactly, AKeyword, AName, AConstant, AnEnd, Part, Make, Close}
use Rattle.grammar.proofs.AfterSteps.{IfStepped, if_matched, if_named, if_constant, if_replaced, after_step}

pub record IsRest (rest all : List LocatedToken) : Type 0 where
  pub before : List LocatedToken
  pub is : all ≡ before ++ rest

rest_itself : (rest : List LocatedToken) → IsRest rest rest
rest_itself rest = record { before = []; is = refl }

rest_fewer : (rest : List LocatedToken) → IsRest (drop 1 rest) rest
rest_fewer [] = record { before = []; is = refl }
rest_fewer (located_token ∷ rest) = record { before = located_token ∷ []; is = refl }

rest_of_rest : (a b c : List LocatedToken) → IsRest a b → IsRest b c → IsRest a c
rest_of_rest a b c p q = record {
  before = q.before ++ p.before;
  is = q.is ∙ ap (λ xs. q.before ++ xs) p.is ∙ sym (append_assoc q.before p.before a);
}

abbrev Rests : List LocatedToken → State → Type 0
Rests rest t = IsRest t.rest rest

step_rests : (stack : List Item) (s : State) → IfStepped (Rests s.rest) (stack_step stack s)
step_rests [] s = tt
step_rests (Exactly m ∷ stack) s = if_matched (Rests s.rest) _ stack s (λ e. rest_fewer s.rest)
step_rests (AKeyword w ∷ stack) s = if_matched (Rests s.rest) _ stack s (λ e. rest_fewer s.rest)
step_rests (AName role ∷ stack) s = if_named (Rests s.rest) role _ stack s (λ n e. rest_fewer s.rest)
step_rests (AConstant ∷ stack) s = if_constant (Rests s.rest) _ stack s (λ n e. rest_fewer s.rest)
step_rests (AnEnd ∷ stack) s = if_matched (Rests s.rest) _ stack s (λ e. rest_fewer s.rest)
step_rests (Part symbol ∷ stack) s = if_replaced (Rests s.rest) _ stack s (λ items e. rest_itself s.rest)
step_rests (Make rule ∷ stack) s = rest_itself s.rest
step_rests (Close ∷ stack) s = rest_itself s.rest

pub run_rests : (n : ℕ) (s : State) → IsRest (derived n s).rest s.rest
run_rests zero s = rest_itself s.rest
run_rests (suc n) s =
    rest_of_rest _ _ _ (run_rests n (stepped s))
    (after_step (Rests s.rest) s (step_rests s.stack s) (rest_itself s.rest))

pub run_keeps : (n : ℕ) (s : State) → length (derived n s).rest ≤ length s.rest
run_keeps n s =
    let rest : IsRest (derived n s).rest s.rest = run_rests n s in
    omega (arith, ap length rest.is, length-append rest.before (derived n s).rest)
