-- What the programs of runnables are read as.
use Rattle.std.specs.Prelude.{length}
use Rattle.serde_json.specs.Data.{Data}
use Rattle.runnable_lang.specs.Trees.{ProgramTree}
use Rattle.declared_names.specs.declared.in_component.ComponentNames.{ComponentNames}
use Rattle.declared_names.specs.declared.scopes.InterfaceNames.{InterfaceNames}
use Rattle.declared_names.specs.Names.{Names}
use Rattle.program_reading.specs.Statements.{block}
use Rattle.program_reading.specs.Variables.{variables_of}

-- a program whose first variables have these names
abbrev pub program_of : InterfaceNames → ComponentNames → (vars : Names) → (program : Data) → ProgramTree
program_of interfaces names vars d = record { vars = length vars; body = (block d).body (record { interfaces = interfaces; names = names; vars = vars }) }

abbrev pub program_reading : InterfaceNames → ComponentNames → (first : Names) → (program : Data) → ProgramTree
program_reading interfaces names first d = program_of interfaces names (variables_of first d) d
