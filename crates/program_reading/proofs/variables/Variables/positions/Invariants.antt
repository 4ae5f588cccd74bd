use Rattle.std.proofs.Common.{◌≡◌, map, take}
use Rattle.declared_names.specs.Names.{text_of}
use Rattle.program_reading.proofs.variables.Variables.positions.Given as goal

abbrev pub invariant-loop-number : goal.invariant-loop-number
invariant-loop-number l = map text_of l.names.items ≡ take l.number l.self
