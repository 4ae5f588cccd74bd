-- Which statements have the access that they need: one of the signature with their kind, port and item, that has a word for each value given and for each variable taken.
use Rattle.std.specs.Prelude.{ℕ, List, length, Bool, true, ◌&&◌, ◌==◌, nat_lt, Option, Some, None}
use Rattle.std.specs.List.{list_any}
use Rattle.runnable_lang.specs.declared.program.AccessKind.{AccessKind}
use Rattle.runnable_lang.specs.declared.program.AccessKind.TheVariants as kind
use Rattle.runnable_lang.specs.declared.program.AccessSig.{AccessSig}
use Rattle.runnable_lang.specs.Trees.{StmtTree, sets, chooses, repeats, in_area, writes, reads, invalidates, asks_updated, sends, receives, writes_late, reads_early, writes_variable}
use Rattle.runnable_lang.specs.Trees.{reads_variable, writes_variable_late, reads_variable_early, calls, calls_and_goes_on, takes_result, switches, asks_mode}

-- the kinds in their order
abbrev pub kind_number : AccessKind → ℕ
kind_number kind.Write = 0
kind_number kind.Read = 1
kind_number kind.Invalidate = 2
kind_number kind.IsUpdated = 3
kind_number kind.Send = 4
kind_number kind.Receive = 5
kind_number kind.IWrite = 6
kind_number kind.IRead = 7
kind_number kind.IrvWrite = 8
kind_number kind.IrvRead = 9
kind_number kind.IrvIWrite = 10
kind_number kind.IrvIRead = 11
kind_number kind.Call = 12
kind_number kind.ACall = 13
kind_number kind.TakeResult = 14
kind_number kind.Switch = 15
kind_number kind.Mode = 16
kind_number kind.Enter = 17

-- whether an access has this kind and port
abbrev pub is_at : AccessKind → (port : ℕ) → AccessSig → Bool
is_at k port a = (kind_number a.kind == kind_number k) && (a.port == port)

-- whether there are as many words as the statement gives or takes, if it does so
abbrev pub counts : Option ℕ → (words : ℕ) → Bool
counts None words = true
counts (Some n) words = n == words

-- whether an access serves a statement that names this kind, port and item, gives so many values and takes so many variables
abbrev pub serves : AccessKind → (port : ℕ) → (item : ℕ) → (values : Option ℕ) → (vars : Option ℕ) → AccessSig → Bool
serves k port item values vars a = (is_at k port a && (a.item == item)) && (counts values (length a.ins) && counts vars (length a.outs))

-- whether an access serves a switch to a mode: the group has that mode
abbrev pub serves_switch : (port : ℕ) → (mode : ℕ) → AccessSig → Bool
serves_switch port mode a = is_at kind.Switch port a && nat_lt mode a.modes

-- whether a statement has its access
abbrev pub has_access : List AccessSig → StmtTree → Bool
has_access accesses (sets v e) = true
has_access accesses (chooses c first second) = true
has_access accesses (repeats n body) = true
has_access accesses (in_area x body) = list_any (serves kind.Enter 0 x None None) accesses
has_access accesses (writes port item es s) = list_any (serves kind.Write port item (Some (length es)) None) accesses
has_access accesses (reads port item vs s) = list_any (serves kind.Read port item None (Some (length vs))) accesses
has_access accesses (invalidates port item s) = list_any (serves kind.Invalidate port item None None) accesses
has_access accesses (asks_updated port item v) = list_any (serves kind.IsUpdated port item None None) accesses
has_access accesses (sends port item es s) = list_any (serves kind.Send port item (Some (length es)) None) accesses
has_access accesses (receives port item vs s) = list_any (serves kind.Receive port item None (Some (length vs))) accesses
has_access accesses (writes_late port item es) = list_any (serves kind.IWrite port item (Some (length es)) None) accesses
has_access accesses (reads_early port item vs) = list_any (serves kind.IRead port item None (Some (length vs))) accesses
has_access accesses (writes_variable x es) = list_any (serves kind.IrvWrite 0 x (Some (length es)) None) accesses
has_access accesses (reads_variable x vs) = list_any (serves kind.IrvRead 0 x None (Some (length vs))) accesses
has_access accesses (writes_variable_late x es) = list_any (serves kind.IrvIWrite 0 x (Some (length es)) None) accesses
has_access accesses (reads_variable_early x vs) = list_any (serves kind.IrvIRead 0 x None (Some (length vs))) accesses
has_access accesses (calls port item es vs s) = list_any (serves kind.Call port item (Some (length es)) (Some (length vs))) accesses
has_access accesses (calls_and_goes_on port item es s) = list_any (serves kind.ACall port item (Some (length es)) None) accesses
has_access accesses (takes_result port item vs s) = list_any (serves kind.TakeResult port item None (Some (length vs))) accesses
has_access accesses (switches port mode s) = list_any (serves_switch port mode) accesses
has_access accesses (asks_mode port v) = list_any (serves kind.Mode port 0 None None) accesses
