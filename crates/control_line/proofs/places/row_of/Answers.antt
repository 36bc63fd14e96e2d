use Rattle.control_line.proofs.places.row_of.Goals as goal

-- src/lib.rt:22:1
pub returns-in-Fast : goal.returns-in-Fast
returns-in-Fast c = rw (c.in-SetPidPriority.is, c.in-Fast.is)

-- src/lib.rt:22:1
pub returns-in-Slow : goal.returns-in-Slow
returns-in-Slow c = rw (c.in-SetPidPriority.is, c.in-Slow.is)

-- src/lib.rt:22:1
pub returns-in-RemovePid : goal.returns-in-RemovePid
returns-in-RemovePid c = rw c.in-RemovePid.is
