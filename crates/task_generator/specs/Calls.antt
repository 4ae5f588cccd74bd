-- The instructions of statements that hold no statements, in three groups.
use Rattle.std.specs.Prelude.{List, []}
use Rattle.runnable_lang.specs.Trees.{StmtTree, sets, chooses, repeats, in_area, writes, reads, invalidates, asks_updated, sends, receives, writes_late, reads_early, writes_variable_late}
use Rattle.runnable_lang.specs.Trees.{reads_variable_early}
use Rattle.runnable_lang.specs.declared.program.AccessSig.{AccessSig}
use Rattle.task_machine.specs.Instructions.{Shared}
use Rattle.task_generator.specs.Shared.{shared_of}

-- those of a statement that calls the bus; none of another one
abbrev pub bus_call_code : List AccessSig → StmtTree → List Shared
bus_call_code s (sets v e) = []
bus_call_code s (chooses c first second) = []
bus_call_code s (repeats turns body) = []
bus_call_code s (in_area x body) = []
bus_call_code s st = shared_of s 0 st

-- those of a statement at an operation, a mode or a variable; none of another one
abbrev pub other_call_code : List AccessSig → StmtTree → List Shared
other_call_code s (writes port item es status) = []
other_call_code s (reads port item vs status) = []
other_call_code s (invalidates port item status) = []
other_call_code s (asks_updated port item v) = []
other_call_code s (sends port item es status) = []
other_call_code s (receives port item vs status) = []
other_call_code s st = bus_call_code s st

-- those of a statement that works on what was fetched, or on what is to be published; none of another one
abbrev pub implicit_code : List AccessSig → StmtTree → List Shared
implicit_code s (writes_late port item es) = shared_of s 0 (writes_late port item es)
implicit_code s (reads_early port item vs) = shared_of s 0 (reads_early port item vs)
implicit_code s (writes_variable_late item es) = shared_of s 0 (writes_variable_late item es)
implicit_code s (reads_variable_early item vs) = shared_of s 0 (reads_variable_early item vs)
implicit_code s st = []
