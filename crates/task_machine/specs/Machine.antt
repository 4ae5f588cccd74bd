-- How a body runs: instructions that ask nothing of the bus are gone through at once, at a call the activation waits for the answer, and
-- an End or a refused admission is the last of it (SWS_RTE: runnable activation).
use Rattle.std.specs.Prelude.{ℕ, zero, suc, ◌+◌, ◌-◌, pos, List, [], ◌∷◌, set, get_or, ◌==◌, if◌then◌else◌, is_none, Option, Some, None, slice_get}
use Rattle.bus_semantics.specs.Common.{int_eq, worth, Wanted, stored, is_over}
use Rattle.bus_semantics.specs.declared.entries.Deed.{Deed}
use Rattle.task_machine.specs.Store.{Store, with_vars, with_written, fetched_in, written_in}
use Rattle.task_machine.specs.Listed.{any_written}
use Rattle.task_machine.specs.Instructions.{Instruction, assign, load, keep, unless, unwritten, none_written, skip, begin_loop, end_loop, call}

-- where an activation stands in its body: how many instructions it may still execute, the place of the next one, its store, and the
-- counters of its loops
pub record Spot : Type 0 where
  pub left : ℕ
  pub place : ℕ
  pub store : Store
  pub counters : List ℕ

-- ---- instructions that ask nothing

-- what comes after an instruction
abbrev pub Rest : Type 0
Rest = (place : ℕ) → Store → (counters : List ℕ) → Spot

-- a loop begins, or is passed over if it is to have no turn
abbrev pub entered : (turns : ℕ) → Rest → (place : ℕ) → Store → (counters : List ℕ) → (counter : ℕ) → (past : ℕ) → Spot
entered zero rest place m cs c past = rest (place + 1 + past) m cs
entered (suc n) rest place m cs c past = rest (place + 1) m (set cs c (suc n))

-- a loop goes back for another turn if its counter is above 1, and else goes on
abbrev pub turned : (counted : ℕ) → Rest → (place : ℕ) → Store → (counters : List ℕ) → (counter : ℕ) → (back : ℕ) → Spot
turned (suc (suc n)) rest place m cs c back = rest (place - back) m (set cs c (suc n))
turned _ rest place m cs c back = rest (place + 1) m cs

-- one such instruction, and then the rest. It stays here at a call, and behind the last instruction
abbrev pub silently : Option Instruction → Rest → (place : ℕ) → Store → (counters : List ℕ) → (here : Spot) → Spot
silently (Some (assign v e)) rest place m cs here = rest (place + 1) (with_vars (set m.vars v (worth m.vars e)) m) cs
silently (Some (load vs slot)) rest place m cs here = rest (place + 1) (with_vars (stored vs (fetched_in slot m) m.vars) m) cs
silently (Some (keep slot words)) rest place m cs here = rest (place + 1) (with_written slot (words m) m) cs
silently (Some (unless c past)) rest place m cs here = rest (if int_eq (worth m.vars c) (pos 0) then place + 1 + past else place + 1) m cs
silently (Some (unwritten slot past)) rest place m cs here = rest (if is_none (written_in slot m) then place + 1 + past else place + 1) m cs
silently (Some (none_written slots past)) rest place m cs here = rest (if any_written slots m then place + 1 else place + 1 + past) m cs
silently (Some (skip past)) rest place m cs here = rest (place + 1 + past) m cs
silently (Some (begin_loop c n past)) rest place m cs here = entered n rest place m cs c past
silently (Some (end_loop c back)) rest place m cs here = turned (get_or cs c 0) rest place m cs c back
silently (Some (call w change passes)) rest place m cs here = here
silently None rest place m cs here = here

-- one after the other, while the budget lasts
abbrev pub settled : List Instruction → (left : ℕ) → Rest
settled code zero place m cs = record { left = 0; place = place; store = m; counters = cs }
settled code (suc n) place m cs = silently (slice_get code place) (settled code n) place m cs (record { left = suc n; place = place; store = m; counters = cs })

-- ---- calls

-- what the instruction wants where an activation stands; none if that is over, behind the last instruction or without budget
abbrev pub wanted_by : Option Instruction → (event : ℕ) → Store → Option Wanted
wanted_by (Some (call w change passes)) event m = Some (w event m)
wanted_by _ event m = None

abbrev pub wanted_at : List Instruction → (event : ℕ) → Spot → Option Wanted
wanted_at code event at = if at.left == 0 then None else wanted_by (slice_get code at.place) event at.store

-- after the answer to the call where it stands
abbrev pub heard_by : List Instruction → Option Instruction → Deed → Spot → Spot
heard_by code (Some (call w change passes)) d at = settled code (at.left - 1) (at.place + 1 + passes d) (change d at.store) at.counters
heard_by code _ d at = at

abbrev pub heard : List Instruction → Deed → Spot → Spot
heard code d at = if at.left == 0 then at else heard_by code (slice_get code at.place) d at

-- it executes nothing more
abbrev pub stopped : Spot → Spot
stopped at = record { left = 0; place = at.place; store = at.store; counters = at.counters }

-- after an answer: an activation is over at its End, and if its admission was refused
abbrev pub answered : List Instruction → Deed → Spot → Spot
answered code d at = if is_over d then stopped at else heard code d at

-- after the answers, the first of them first
abbrev pub after : List Instruction → List Deed → Spot → Spot
after code [] at = at
after code (d ∷ answers) at = after code answers (answered code d at)
