use Rattle.cross_core_table.proofs.steps.stamp_on.Given as goal

-- the entry that is to be stamped
abbrev pub ghosts-stamp_on_as : goal.ghosts-stamp_on_as
ghosts-stamp_on_as a = record { entry = a.entry.now; event = a.event }
