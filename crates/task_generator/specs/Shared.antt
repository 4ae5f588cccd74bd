-- The instructions that the instances of a runnable share, made of its program and its signature; and what they are in an instance.
use Rattle.std.specs.Prelude.{ℕ, ◌+◌, ℤ, List, [], ◌∷◌, ◌++◌, length, if◌then◌else◌, Option}
use Rattle.runnable_lang.specs.declared.program.AccessKind.TheVariants as kind
use Rattle.bus_semantics.specs.Common.{AccessSig, ExprTree, StmtTree, sets, chooses, repeats, in_area, writes, reads, invalidates, asks_updated, sends, receives, writes_late, reads_early}
use Rattle.bus_semantics.specs.Common.{writes_variable, reads_variable, writes_variable_late, reads_variable_early, calls, calls_and_goes_on, takes_result, switches, asks_mode, BodyTree}
use Rattle.bus_semantics.specs.Common.{done, next, Plan, Runnable, Implicit, Wanted, to_write, to_read, to_invalidate, to_see_updated, to_send, to_receive, to_ask, to_hear, to_take_result}
use Rattle.bus_semantics.specs.Common.{to_enter, to_leave, to_switch, to_see_mode}
use Rattle.bus_semantics.specs.declared.plan.ServerPlan.{ServerPlan}
use Rattle.task_machine.specs.declared.instr.Request.{Request}
use Rattle.task_machine.specs.declared.instr.Taken.{Taken}
use Rattle.task_machine.specs.declared.instr.Taken.TheVariants as taken
use Rattle.task_machine.specs.declared.instr.Targets.{Targets}
use Rattle.task_machine.specs.Store.{Store}
use Rattle.task_machine.specs.Targets.{number_at, fetched_at, written_at}
use Rattle.task_machine.specs.Instructions.{Instruction, Shared, assign, load, keep, unless, skip, begin_loop, end_loop, call, requested, change_of, passes_of}
use Rattle.implicit_buffers.specs.Buffers.{fetched_by, published_by}
use Rattle.task_generator.specs.Slots.{slots_of}
use Rattle.task_generator.specs.Nothing.{does_nothing}
use Rattle.task_generator.specs.Numbers.{numbered}
use Rattle.task_generator.specs.Code.{given_over, admitting_code, fetching_code, publishing_code, returning_code, ending_code}

-- what the accesses of a runnable of an instance name
abbrev pub targets_of : Runnable → Targets
targets_of r = record { numbers = 0 ∷ r.targets; fetched = slots_of (fetched_by r); written = slots_of (published_by r) }

-- an instruction that names no access
abbrev pub fixed : Instruction → Shared
fixed i t = i

-- the instructions before a program, and those after it
abbrev pub before_code : Plan → (fetched : List ℕ) → List Implicit → List Instruction
before_code p fs its = admitting_code ++ fetching_code p fs its

abbrev pub after_code : Plan → (published : List ℕ) → List Implicit → Option ServerPlan → List Instruction
after_code p ps its server = publishing_code p ps its ++ (returning_code server ++ ending_code)

-- a call at what an access names
abbrev pub called : Request → (access : ℕ) → Taken → Shared
called r a took t = call (requested r (number_at t a)) (change_of took) (passes_of took)

-- one call, and what is taken of its answer
abbrev pub calling_shared : (Targets → Store → Wanted) → Taken → List Shared
calling_shared w took = (λ t. call (λ event m. w t m) (change_of took) (passes_of took)) ∷ []

-- one side of a choice is passed over
abbrev pub choosing_shared : ExprTree → List Shared → List Shared → List Shared
choosing_shared c first second = fixed (unless c (length first + 1)) ∷ (first ++ (fixed (skip (length second)) ∷ second))

-- a loop: its counter is that of its depth
abbrev pub looping_shared : (depth : ℕ) → (turns : ℕ) → List Shared → List Shared
looping_shared depth turns body = fixed (begin_loop depth turns (length body + 1)) ∷ (body ++ fixed (end_loop depth (length body)) ∷ [])

-- an ask, and if it was accepted the answer of the operation
abbrev pub hearing_shared : (access : ℕ) → (Store → List ℤ) → List ℕ → (status : ℕ) → List Shared
hearing_shared a ws vs status = (λ t. call (λ event m. to_ask (number_at t a) (ws m)) (change_of (taken.Refusal status)) (passes_of (taken.Refusal status))) ∷ calling_shared (λ t m. to_hear (number_at t a)) (taken.Words vs status)

-- the instructions of a statement with so many loops around it. A loop that does nothing needs none
abbrev mutual
  pub shared_of : List AccessSig → (depth : ℕ) → StmtTree → List Shared
  shared_of s n (sets v e) = (λ t. assign v e) ∷ []
  shared_of s n (chooses c first second) = choosing_shared c (shared_of_body s n first) (shared_of_body s n second)
  shared_of s n (repeats turns body) = if does_nothing (repeats turns body) then [] else looping_shared n turns (shared_of_body s (n + 1) body)
  shared_of s n (in_area x body) = let a = numbered s kind.Enter 0 x in
      calling_shared (λ t m. to_enter (number_at t a.target)) taken.Nothing ++ (shared_of_body s n body ++ calling_shared (λ t m. to_leave (number_at t a.target)) taken.Nothing)
  shared_of s n (writes port item es status) = let a = numbered s kind.Write port item in calling_shared (λ t m. to_write (number_at t a.target) (given_over a es m)) (taken.Zero status)
  shared_of s n (reads port item vs status) = let a = numbered s kind.Read port item in calling_shared (λ t m. to_read (number_at t a.target)) (taken.Words vs status)
  shared_of s n (invalidates port item status) = let a = numbered s kind.Invalidate port item in calling_shared (λ t m. to_invalidate (number_at t a.target)) (taken.Zero status)
  shared_of s n (asks_updated port item v) = let a = numbered s kind.IsUpdated port item in calling_shared (λ t m. to_see_updated (number_at t a.target)) (taken.Number v)
  shared_of s n (sends port item es status) = let a = numbered s kind.Send port item in calling_shared (λ t m. to_send (number_at t a.target) (given_over a es m)) (taken.Code status)
  shared_of s n (receives port item vs status) = let a = numbered s kind.Receive port item in calling_shared (λ t m. to_receive (number_at t a.target)) (taken.Words vs status)
  shared_of s n (writes_late port item es) = let a = numbered s kind.IWrite port item in (λ t. keep (written_at t a.target) (given_over a es)) ∷ []
  shared_of s n (reads_early port item vs) = let a = numbered s kind.IRead port item in (λ t. load vs (fetched_at t a.target)) ∷ []
  shared_of s n (writes_variable item es) = let a = numbered s kind.IrvWrite 0 item in calling_shared (λ t m. to_write (number_at t a.target) (given_over a es m)) taken.Nothing
  shared_of s n (reads_variable item vs) = let a = numbered s kind.IrvRead 0 item in calling_shared (λ t m. to_read (number_at t a.target)) (taken.Value vs)
  shared_of s n (writes_variable_late item es) = let a = numbered s kind.IrvIWrite 0 item in (λ t. keep (written_at t a.target) (given_over a es)) ∷ []
  shared_of s n (reads_variable_early item vs) = let a = numbered s kind.IrvIRead 0 item in (λ t. load vs (fetched_at t a.target)) ∷ []
  shared_of s n (calls port item es vs status) = let a = numbered s kind.Call port item in hearing_shared a.target (given_over a es) vs status
  shared_of s n (calls_and_goes_on port item es status) = let a = numbered s kind.ACall port item in calling_shared (λ t m. to_ask (number_at t a.target) (given_over a es m)) (taken.Code status)
  shared_of s n (takes_result port item vs status) = let a = numbered s kind.TakeResult port item in calling_shared (λ t m. to_take_result (number_at t a.target)) (taken.Words vs status)
  shared_of s n (switches port mode status) = let a = numbered s kind.Switch port 0 in calling_shared (λ t m. to_switch (number_at t a.target) mode) (taken.Code status)
  shared_of s n (asks_mode port v) = let a = numbered s kind.Mode port 0 in calling_shared (λ t m. to_see_mode (number_at t a.target)) (taken.Number v)

  pub shared_of_body : List AccessSig → (depth : ℕ) → BodyTree → List Shared
  shared_of_body s n done = []
  shared_of_body s n (next st body) = shared_of s n st ++ shared_of_body s n body
