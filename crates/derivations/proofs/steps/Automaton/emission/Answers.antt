use Rattle.std.proofs.Common.{sym, ap, ◌∙◌}
use Rattle.std.specs.Prelude.{option_copied}
use Rattle.derivations.proofs.Behind.{emission_is, none_emitted, origin_is, none_origin}
use Rattle.derivations.proofs.steps.Automaton.emission.Goals as goal

pub returns-in-Some-clause-actions : goal.returns-in-Some-clause-actions
returns-in-Some-clause-actions c =
    c.emitted.ensures.actions
    ∙
    emission_is c.args.self.now.stack.items c.as_slice.result.now c.before_last.result.now c.in-Some.pending.now
    c.args.next.now (sym c.front.ensures ∙ ap option_copied c.in-Some.is) c.as_slice.ensures.value
    c.before_last.ensures

pub returns-in-Some-clause-origin : goal.returns-in-Some-clause-origin
returns-in-Some-clause-origin c =
    λ sound. c.emitted.ensures.origin sound ∙
    origin_is c.args.self.now.stack.items c.in-Some.pending.now (sym c.front.ensures ∙ ap option_copied c.in-Some.is)

pub returns-in-None-clause-actions : goal.returns-in-None-clause-actions
returns-in-None-clause-actions c =
    c.of.ensures.actions ∙
    none_emitted c.args.self.now.stack.items c.args.next.now (sym c.front.ensures ∙ ap option_copied c.in-None.is)

pub returns-in-None-clause-origin : goal.returns-in-None-clause-origin
returns-in-None-clause-origin c =
    λ sound. c.of.ensures.origin ∙
    none_origin c.args.self.now.stack.items (sym c.front.ensures ∙ ap option_copied c.in-None.is)
