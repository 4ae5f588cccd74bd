-- The instructions of a program: those of each statement, one after the other.
use Rattle.std.specs.Prelude.{ℕ, ◌+◌, ℤ, pos, List, [], ◌∷◌, ◌++◌, map, length, get_or, if◌then◌else◌, Option, Some, None}
use Rattle.bus_semantics.specs.Common.{clamped_each, ExprTree, StmtTree, sets, chooses, repeats, in_area, writes, reads, invalidates, asks_updated, sends, receives, writes_late, reads_early}
use Rattle.bus_semantics.specs.Common.{writes_variable, reads_variable, writes_variable_late, reads_variable_early, calls, calls_and_goes_on, takes_result, switches, asks_mode, BodyTree}
use Rattle.bus_semantics.specs.Common.{done, next, worth, Plan, Runnable, Wanted, to_admit, to_fetch, to_write, to_read, to_invalidate, to_see_updated, to_send, to_receive, to_ask, to_hear}
use Rattle.bus_semantics.specs.Common.{to_take_result, to_enter, to_leave, to_switch, to_see_mode, to_publish, to_fetch_all, to_publish_all, to_return, to_end, Access, access, elems_of}
use Rattle.bus_semantics.specs.Common.{words_at, Implicit, one, all_of, fetches_of, publications_of, declared_code, results}
use Rattle.runnable_lang.specs.declared.program.AccessKind.TheVariants as kind
use Rattle.bus_semantics.specs.declared.plan.ServerPlan.{ServerPlan}
use Rattle.task_machine.specs.declared.instr.SlotPart.{SlotPart}
use Rattle.task_machine.specs.declared.instr.Taken.{Taken}
use Rattle.task_machine.specs.declared.instr.Taken.TheVariants as taken
use Rattle.task_machine.specs.Store.{Store, written_in, words_or_none}
use Rattle.task_machine.specs.Listed.{marks_of, words_written}
use Rattle.task_machine.specs.Instructions.{Instruction, assign, load, keep, unless, unwritten, none_written, skip, begin_loop, end_loop, call, change_of, passes_of}
use Rattle.implicit_buffers.specs.Buffers.{fetched_by, published_by}
use Rattle.task_generator.specs.Slots.{slot_of}
use Rattle.task_generator.specs.Nothing.{does_nothing}
use Rattle.task_generator.specs.Servers.{served}

-- one call, and what is taken of its answer
abbrev pub calling_code : (Store → Wanted) → Taken → List Instruction
calling_code w t = call (λ event m. w m) (change_of t) (passes_of t) ∷ []

-- the values that a statement gives, each word clamped to the limits of its type
abbrev pub given_over : Access → List ExprTree → Store → List ℤ
given_over a es m = clamped_each a.ins (map (worth m.vars) es)

-- one side of a choice is passed over
abbrev pub choosing_code : Instruction → List Instruction → List Instruction → List Instruction
choosing_code test first second = test ∷ (first ++ (skip (length second) ∷ second))

-- a loop: its counter is that of its depth
abbrev pub looping_code : (depth : ℕ) → (turns : ℕ) → List Instruction → List Instruction
looping_code depth turns body = begin_loop depth turns (length body + 1) ∷ (body ++ end_loop depth (length body) ∷ [])

-- an ask, and if it was accepted the answer of the operation
abbrev pub hearing_code : (point : ℕ) → (Store → List ℤ) → List ℕ → (status : ℕ) → List Instruction
hearing_code q ws vs status = call (λ event m. to_ask q (ws m)) (change_of (taken.Refusal status)) (passes_of (taken.Refusal status)) ∷ calling_code (λ m. to_hear q) (taken.Words vs status)

-- the instructions of a statement with so many loops around it. Implicit access works on slots, and a loop that does nothing needs none
abbrev mutual
  pub code_of : Runnable → (depth : ℕ) → StmtTree → List Instruction
  code_of r n (sets v e) = assign v e ∷ []
  code_of r n (chooses c first second) = let code = code_of_body r n first in choosing_code (unless c (length code + 1)) code (code_of_body r n second)
  code_of r n (repeats turns body) = if does_nothing (repeats turns body) then [] else looping_code n turns (code_of_body r (n + 1) body)
  code_of r n (in_area x body) = let a = access r kind.Enter 0 x in
      calling_code (λ m. to_enter a.target) taken.Nothing ++ (code_of_body r n body ++ calling_code (λ m. to_leave a.target) taken.Nothing)
  code_of r n (writes port item es status) = let a = access r kind.Write port item in calling_code (λ m. to_write a.target (given_over a es m)) (taken.Zero status)
  code_of r n (reads port item vs status) = let a = access r kind.Read port item in calling_code (λ m. to_read a.target) (taken.Words vs status)
  code_of r n (invalidates port item status) = let a = access r kind.Invalidate port item in calling_code (λ m. to_invalidate a.target) (taken.Zero status)
  code_of r n (asks_updated port item v) = let a = access r kind.IsUpdated port item in calling_code (λ m. to_see_updated a.target) (taken.Number v)
  code_of r n (sends port item es status) = let a = access r kind.Send port item in calling_code (λ m. to_send a.target (given_over a es m)) (taken.Code status)
  code_of r n (receives port item vs status) = let a = access r kind.Receive port item in calling_code (λ m. to_receive a.target) (taken.Words vs status)
  code_of r n (writes_late port item es) = let a = access r kind.IWrite port item in keep (slot_of a.target (published_by r)) (given_over a es) ∷ []
  code_of r n (reads_early port item vs) = let a = access r kind.IRead port item in load vs (slot_of a.target (fetched_by r)) ∷ []
  code_of r n (writes_variable item es) = let a = access r kind.IrvWrite 0 item in calling_code (λ m. to_write a.target (given_over a es m)) taken.Nothing
  code_of r n (reads_variable item vs) = let a = access r kind.IrvRead 0 item in calling_code (λ m. to_read a.target) (taken.Value vs)
  code_of r n (writes_variable_late item es) = let a = access r kind.IrvIWrite 0 item in keep (slot_of a.target (published_by r)) (given_over a es) ∷ []
  code_of r n (reads_variable_early item vs) = let a = access r kind.IrvIRead 0 item in load vs (slot_of a.target (fetched_by r)) ∷ []
  code_of r n (calls port item es vs status) = let a = access r kind.Call port item in hearing_code a.target (given_over a es) vs status
  code_of r n (calls_and_goes_on port item es status) = let a = access r kind.ACall port item in calling_code (λ m. to_ask a.target (given_over a es m)) (taken.Code status)
  code_of r n (takes_result port item vs status) = let a = access r kind.TakeResult port item in calling_code (λ m. to_take_result a.target) (taken.Words vs status)
  code_of r n (switches port mode status) = let a = access r kind.Switch port 0 in calling_code (λ m. to_switch a.target mode) (taken.Code status)
  code_of r n (asks_mode port v) = let a = access r kind.Mode port 0 in calling_code (λ m. to_see_mode a.target) (taken.Number v)

  pub code_of_body : Runnable → (depth : ℕ) → BodyTree → List Instruction
  code_of_body r n done = []
  code_of_body r n (next st body) = code_of r n st ++ code_of_body r n body

-- ---- what stands around the program

abbrev pub admitting_code : List Instruction
admitting_code = call (λ event m. to_admit event) (change_of taken.Nothing) (passes_of taken.Nothing) ∷ []

-- the slots of some elements, which are among all, and how many words each has
abbrev pub slots_among : (all : List ℕ) → List ℕ → List ℕ
slots_among all xs = map (λ x. slot_of x all) xs

abbrev pub part_of : Plan → (all : List ℕ) → (elem : ℕ) → SlotPart
part_of p all x = record { slot = slot_of x all; words = words_at p x }

abbrev pub parts_of : Plan → (all : List ℕ) → List ℕ → List SlotPart
parts_of p all xs = map (part_of p all) xs

-- one fetch of each of these elements and lists, whose elements are among all those fetched
abbrev pub fetching_code : Plan → (all : List ℕ) → List Implicit → List Instruction
fetching_code p all [] = []
fetching_code p all (one x ∷ its) = call (λ event m. to_fetch x) (change_of (taken.Slot (slot_of x all))) (passes_of (taken.Slot (slot_of x all))) ∷ fetching_code p all its
fetching_code p all (all_of l ∷ its) =
    call (λ event m. to_fetch_all l) (change_of (taken.Slots (parts_of p all (elems_of p l)))) (passes_of (taken.Slots (parts_of p all (elems_of p l)))) ∷ fetching_code p all its

-- one publication of each of these elements and lists, whose elements are among all those published. It is passed over if nothing was
-- written
abbrev pub publishing_code : Plan → (all : List ℕ) → List Implicit → List Instruction
publishing_code p all [] = []
publishing_code p all (one x ∷ its) =
    unwritten (slot_of x all) 1 ∷ call (λ event m. to_publish x (words_or_none (written_in (slot_of x all) m))) (change_of taken.Nothing) (passes_of taken.Nothing) ∷ publishing_code p all its
publishing_code p all (all_of l ∷ its) =
    none_written (slots_among all (elems_of p l)) 1
    ∷ call (λ event m. to_publish_all l (marks_of (slots_among all (elems_of p l)) m) (words_written (slots_among all (elems_of p l)) m)) (change_of taken.Nothing) (passes_of taken.Nothing)
    ∷ publishing_code p all its

abbrev pub returning_code : Option ServerPlan → List Instruction
returning_code None = []
returning_code (Some v) = calling_code (λ m. to_return (declared_code v.errors (get_or m.vars (length v.arguments) (pos 0))) (results v.arguments m.vars)) taken.Nothing

abbrev pub ending_code : List Instruction
ending_code = call (λ event m. to_end event) (change_of taken.Nothing) (passes_of taken.Nothing) ∷ []

-- a whole activation
abbrev pub activity_code : Plan → Runnable → List Instruction
activity_code p r =
    admitting_code ++ (fetching_code p (fetched_by r) (fetches_of p r) ++ (code_of_body r 0 r.program.body ++ (publishing_code p (published_by r) (publications_of p r)
    ++ (returning_code (served p.servers r.server) ++ ending_code))))
