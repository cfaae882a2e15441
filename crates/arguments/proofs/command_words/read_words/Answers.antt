use Rattle.std.proofs.Common.{◌∙◌, Err, ap, inl, inr}
use Rattle.settings.specs.Given.{settings_given}
use Rattle.arguments.proofs.AskedLemmas.{asked-refused, asked-taken}
use Rattle.arguments.proofs.command_words.read_words.Goals as goal

pub returns-in-Err-clause-answer : goal.returns-in-Err-clause-answer
returns-in-Err-clause-answer c = elim c.in-Err.ensures.refused [
  | inl memory ↦ inl (ap Err memory)
  | inr usage ↦ inr (ap Err usage.0 ∙ asked-refused _ usage.1)
]

pub returns-in-Ok-clause-answer : goal.returns-in-Ok-clause-answer
returns-in-Ok-clause-answer c =
    inr
    (c.settings_given.ensures ∙
    (ap settings_given c.given.ensures ∙ asked-taken _ _ c.in-Ok.ensures.ok c.in-Ok.ensures.rows))
