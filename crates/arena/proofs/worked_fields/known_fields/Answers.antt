use Rattle.arena.proofs.KnownFields.{scans, starts, drives, knocks_, rings, missiles}
use Rattle.arena.proofs.worked_fields.known_fields.Goals as goal

pub returns-clause-scans : goal.returns-clause-scans
returns-clause-scans c = scans

pub returns-clause-starts : goal.returns-clause-starts
returns-clause-starts c = starts

pub returns-clause-drives : goal.returns-clause-drives
returns-clause-drives c = drives

pub returns-clause-knocks : goal.returns-clause-knocks
returns-clause-knocks c = knocks_

pub returns-clause-rings : goal.returns-clause-rings
returns-clause-rings c = rings

pub returns-clause-missiles : goal.returns-clause-missiles
returns-clause-missiles c = missiles
