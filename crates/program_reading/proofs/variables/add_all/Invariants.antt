use Rattle.std.proofs.Common.{◌≡◌, map, drop}
use Rattle.declared_names.specs.Names.{text_of}
use Rattle.program_reading.specs.Variables.{all_added}
use Rattle.program_reading.proofs.variables.add_all.Given as goal

abbrev pub invariant-loop-name : goal.invariant-loop-name
invariant-loop-name l = all_added l.vars (map text_of (drop l.name-index l.names)) ≡ all_added l.initial.vars (map text_of l.names)
