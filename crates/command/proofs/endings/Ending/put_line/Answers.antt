use Rattle.command.specs.Endings.{usage_line}
use Rattle.command.proofs.endings.Ending.put_line.Goals as goal

pub returns-in-WrongUsage-clause-line : goal.returns-in-WrongUsage-clause-line
unfolding usage_line
returns-in-WrongUsage-clause-line g c = rw c.in-WrongUsage.is (rw c.as_bytes.ensures.value at c.put_all.ensures)

pub returns-in-CannotOpen-clause-line : goal.returns-in-CannotOpen-clause-line
returns-in-CannotOpen-clause-line g c = rw c.in-CannotOpen.is c.put_about.ensures

pub returns-in-CannotRead-clause-line : goal.returns-in-CannotRead-clause-line
returns-in-CannotRead-clause-line g c = rw c.in-CannotRead.is c.put_about-in-CannotRead.ensures

pub returns-in-CannotWrite-clause-line : goal.returns-in-CannotWrite-clause-line
returns-in-CannotWrite-clause-line g c = rw c.in-CannotWrite.is c.put_all-in-CannotWrite.ensures

pub returns-in-OutOfMemory-clause-line : goal.returns-in-OutOfMemory-clause-line
returns-in-OutOfMemory-clause-line g c = rw c.in-OutOfMemory.is c.put_all-in-OutOfMemory.ensures
