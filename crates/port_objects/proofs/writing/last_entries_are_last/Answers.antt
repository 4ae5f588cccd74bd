use Rattle.std.proofs.Common.{None}
use Rattle.port_objects.proofs.Written.{last_behind}
use Rattle.port_objects.proofs.writing.last_entries_are_last.Goals as goal

pub returns : goal.returns
returns c = λ before s. last_behind None before s
