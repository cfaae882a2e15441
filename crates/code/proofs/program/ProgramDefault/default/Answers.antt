use Rattle.std.specs.Prelude.{ℕ, ◌≡◌}
use Rattle.std.proofs.Common.{ap, arith, inl, refl, ◌∙◌}
use Rattle.grammar.specs.ProfileNumbers.{first_profile}
use Rattle.code.specs.declared.counts.FunctionCounts.{FunctionCounts}
use Rattle.code.proofs.ShortestProgram.{shortest}
use Rattle.code.proofs.program.ProgramDefault.default.Goals as goal

none : (f : FunctionCounts) → f.parameters ≡ 0 → f.variables ≡ 0 → f ≡ record { parameters = 0; variables = 0 }
none f parameters variables =
    ap (λ (n : ℕ). record f { parameters = n }) parameters ∙
    ap (λ (n : ℕ). let none : FunctionCounts = record { parameters = 0; variables = n } in none) variables

pub invariant_of-result : goal.invariant_of-result
unfolding first_profile
invariant_of-result c =
    rw (
      c.first.ensures,
      c.push-3.ensures.items,
      c.push-2.ensures.items,
      c.push.ensures.items,
      c.new-code.ensures,
      c.push-4.ensures.items,
      c.new-addresses.ensures,
      c.push-5.ensures.items,
      c.new-functions.ensures,
      none c.default.result c.default.ensures.0 c.default.ensures.1,
    ) (inl refl, shortest, omega arith)
