use Rattle.std.proofs.Common.{sym, ap, ◌∙◌}
use Rattle.std.specs.Prelude.{option_copied}
use Rattle.derivations.specs.Positions.{Mark}
use Rattle.derivations.proofs.Moving.{front_is, none_is}
use Rattle.derivations.proofs.steps.Automaton.after_chosen.Goals as goal

pub returns-in-Some : goal.returns-in-Some
returns-in-Some c =
    sym
    (ap (λ (m : Mark). m.after_chosen)
    (front_is c.args.self.now.stack.items c.in-Some.pending.now (sym c.front.ensures ∙ ap option_copied c.in-Some.is)))

pub returns-in-None : goal.returns-in-None
returns-in-None c =
    sym
    (ap (λ (m : Mark). m.after_chosen)
    (none_is c.args.self.now.stack.items (sym c.front.ensures ∙ ap option_copied c.in-None.is)))
