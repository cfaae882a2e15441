-- The round-trip law: the derivation returns what is spelled, on any lines.
use Rattle.std.proofs.Common.{◌≡◌, ℕ, zero, suc, ◌+◌, List, [], ◌∷◌, refl, sym, ap, ◌∙◌, subst, arith}
use Rattle.std.specs.Prelude.{None}
use Rattle.tokens.specs.declared.located_tokens.LocatedToken.{LocatedToken}
use Rattle.grammar.specs.Compiled.{enough_steps, last_state}
use Rattle.grammar.specs.Derivation.{State, initial_state, step, stepped, derived}
use Rattle.grammar.specs.Laws.{EachDerivationEnds}
use Rattle.grammar.specs.Scope.{Scope, end_definition}
use Rattle.grammar.specs.Tree.{Body}
use Rattle.grammar_laws.specs.Written.{Evaluate}
use Rattle.grammar_laws.specs.Spelling.{spell_statement, in_main}
use Rattle.grammar_laws.specs.Resolving.{body_of, behind_statement}
use Rattle.grammar_laws.specs.RoundTrip.{in_body, main_of, without_lines, GivesBackStatements, GivesBackExpressions}
use Rattle.grammar.proofs.Runs.{derived-add}
use Rattle.grammar_laws.proofs.Leading.{Leads, located_tokens_of}
use Rattle.grammar_laws.proofs.Places.{bare, bare_rest, bare_run}
use Rattle.grammar_laws.proofs.Mains.{over, derives_main}

stays : (n : ℕ) (s : State) → step s ≡ None → derived n s ≡ s
stays zero s ended = refl
stays (suc n) s ended =
    let same : stepped s ≡ s = rw ended refl in
    ap (derived n) same ∙ stays n s ended

turned : (m n : ℕ) → m + n ≡ n + m
turned m n = omega arith

-- a derivation has one end
one_end : (m n : ℕ) (s : State) → step (derived m s) ≡ None → step (derived n s) ≡ None → derived m s ≡ derived n s
one_end m n s ended_m ended_n =
    sym (stays n (derived m s) ended_m) ∙ sym (derived-add m n s) ∙ ap (λ k. derived k s) (turned m n) ∙
    derived-add n m s ∙
    stays m (derived n s) ended_n

none_left : (rest : List LocatedToken) → bare_rest rest ≡ [] → rest ≡ []
none_left [] e = refl
none_left (l ∷ rest) e = absurd (cc)

-- a state that is over but for the lines and ends of its tokens
record IsOver (s : State) (body : Body) (learnt : Scope) : Type 0 where
  stack : s.stack ≡ []
  rest : s.rest ≡ []
  functions : s.functions ≡ main_of learnt.current.variables body ∷ []
  scope : without_lines s.scope ≡ without_lines (end_definition learnt)

is_over : (s : State) (body : Body) (learnt : Scope) → bare s ≡ over body learnt → IsOver s body learnt
is_over s body learnt e = record {
  stack = ap (λ (t : State). t.stack) e;
  rest = none_left s.rest (ap (λ (t : State). t.rest) e);
  functions = ap (λ (t : State). t.functions) e;
  scope = ap (λ (t : State). without_lines t.scope) e;
}

ended : (s : State) → s.stack ≡ [] → s.rest ≡ [] → step s ≡ None
ended s empty none = rw (none, empty) refl

pub statements : EachDerivationEnds → GivesBackStatements
statements ends s located_tokens spelled =
    let body : Body = body_of s in_body in
    let learnt : Scope = behind_statement s in_body in
    let l : Leads (initial_state (located_tokens_of (in_main (spell_statement s)))) (over body learnt) =
    derives_main s in
    let there : bare (derived l.steps (initial_state located_tokens)) ≡ over body learnt =
    sym (bare_run l.steps (initial_state located_tokens)) ∙
    ap (λ ts. derived l.steps (initial_state (located_tokens_of ts))) spelled ∙
    l.leads in
    let o : IsOver (derived l.steps (initial_state located_tokens)) body learnt =
    is_over (derived l.steps (initial_state located_tokens)) body learnt there in
    let last : derived l.steps (initial_state located_tokens) ≡ last_state located_tokens =
    one_end l.steps (enough_steps located_tokens) (initial_state located_tokens)
    (ended (derived l.steps (initial_state located_tokens)) o.stack o.rest) (ends located_tokens) in
    let p : IsOver (last_state located_tokens) body learnt = subst (λ (t : State). IsOver t body learnt) last o in
    record { nothing_open = p.stack; all_matched = p.rest; functions = p.functions; names = p.scope }

pub expressions : EachDerivationEnds → GivesBackExpressions
expressions ends e = statements ends (Evaluate e)
