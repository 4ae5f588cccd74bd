use Rattle.std.specs.Prelude.{None}
use Rattle.cross_core_table.proofs.steps.stamp_off.Given as goal

-- the entry that is to be stamped
abbrev pub ghosts-stamp_off_as : goal.ghosts-stamp_off_as
ghosts-stamp_off_as a = record { entry = a.entry.now; event = None }
