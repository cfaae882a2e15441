use Rattle.page.proofs.running.settings_of.Goals as goal

pub returns-clause-value : goal.returns-clause-value
returns-clause-value c = rw (c.as_slice.ensures.value, c.in_ok-words.ensures.names) at c.settings.ensures.value
