use Rattle.std.proofs.Common.{◌≡◌, map, take}
use Rattle.serde_json.specs.View.{view}
use Rattle.declared_names.specs.Names.{position_in}
use Rattle.declared_names.specs.Values.{text_in}
use Rattle.program_reading.proofs.in_program.InProgram.vars.Given as goal

abbrev pub invariant-loop-name : goal.invariant-loop-name
invariant-loop-name l = l.vars.items ≡ map (λ v. position_in l.self.vars.now (text_in v)) (map view (take l.name-index l.name-items))
