use Rattle.std.proofs.Common.{sym, ap, ◌∙◌}
use Rattle.std.specs.Prelude.{option_copied}
use Rattle.derivations.proofs.Moving.{overfull, passes_on, replaces}
use Rattle.derivations.proofs.steps.Automaton.step.Goals as goal

pub returns-in-Replace-clause-moves : goal.returns-in-Replace-clause-moves
returns-in-Replace-clause-moves c =
    λ stepped. replaces c.args.self.now c.enter.new.self c.replace.new.self c.args.next.now c.args.after.now
    c.place_of.result c.place_of-in-Replace.result c.in-Some.pending.now c.in-Replace.production c.decided.result
    c.in-Replace.is
    (sym c.front.ensures ∙ ap option_copied c.in-Some.is) c.decided.ensures.does
    c.enter.ensures.stack c.enter.ensures.passed c.enter.ensures.place c.place_of.ensures c.place_of-in-Replace.ensures
    (c.replace.ensures.items stepped) (c.replace.ensures.marks stepped) c.replace.ensures.passed c.replace.ensures.place

pub returns-in-Replace-clause-full : goal.returns-in-Replace-clause-full
returns-in-Replace-clause-full c =
    λ full. overfull c.args.self.now c.enter.new.self c.args.next.now c.args.after.now c.in-Some.pending.now
    c.in-Replace.production c.decided.result c.in-Replace.is (sym c.front.ensures ∙ ap option_copied c.in-Some.is)
    c.decided.ensures.does c.decided.ensures.end c.enter.ensures.stack (c.replace.ensures.full full)

pub returns-in-Pass-clause-moves : goal.returns-in-Pass-clause-moves
returns-in-Pass-clause-moves c =
    λ stepped. passes_on c.args.self.now c.leave.new.self c.note.new.self c.pass.new.self c.args.next.now
    c.args.after.now c.in-Some.pending.now c.in-Pass.tokens c.decided.result c.in-Pass.is
    (sym c.front.ensures ∙ ap option_copied c.in-Some.is) c.decided.ensures.does
    c.leave.ensures.stack c.leave.ensures.passed c.leave.ensures.place
    c.note.ensures.stack c.note.ensures.place c.note.ensures.some c.note.ensures.none
    c.pass.ensures.stack c.pass.ensures.place c.pass.ensures.passed
