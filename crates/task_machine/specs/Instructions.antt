-- What the instructions of a body mean.
use Rattle.std.specs.Prelude.{ℕ, zero, suc, ℤ, pos, List, map, length, get_or, set, ◌==◌, if◌then◌else◌}
use Rattle.bus_semantics.specs.Common.{ExprTree, expr_tree, Wanted, to_write, to_read, to_invalidate, to_see_updated, to_send, to_receive, to_ask, to_hear, to_take_result, to_enter}
use Rattle.bus_semantics.specs.Common.{to_leave, to_switch, to_see_mode, to_end, to_admit, to_fetch, to_publish, to_fetch_all, to_publish_all, to_return, stored, code_in, words_in}
use Rattle.bus_semantics.specs.Common.{number_in, declared_code, results}
use Rattle.bus_semantics.specs.declared.entries.Deed.{Deed}
use Rattle.task_machine.specs.declared.instr.Request.{Request}
use Rattle.task_machine.specs.declared.instr.Request.TheVariants as request
use Rattle.task_machine.specs.declared.instr.Taken.{Taken}
use Rattle.task_machine.specs.declared.instr.Taken.TheVariants as taken
use Rattle.task_machine.specs.declared.instr.Instr.{Instr}
use Rattle.task_machine.specs.declared.instr.Instr.TheVariants as instr
use Rattle.task_machine.specs.declared.instr.Targets.{Targets}
use Rattle.task_machine.specs.Words.{words_given}
use Rattle.task_machine.specs.Targets.{number_at, fetched_at, written_at}
use Rattle.task_machine.specs.Store.{Store, with_vars, with_fetched, written_in, words_or_none}
use Rattle.task_machine.specs.Listed.{marks_of, words_written, with_parts}

-- an instruction. A call is what it wants of the bus, in an activation that an event started and over a store; what it takes of the
-- answer; and how many instructions the answer passes over
pub data Instruction : Type 0 where
  assign : (var : ℕ) → ExprTree → Instruction
  load : (vars : List ℕ) → (slot : ℕ) → Instruction
  keep : (slot : ℕ) → (Store → List ℤ) → Instruction
  unless : ExprTree → (past : ℕ) → Instruction
  unwritten : (slot : ℕ) → (past : ℕ) → Instruction
  none_written : (slots : List ℕ) → (past : ℕ) → Instruction
  skip : (past : ℕ) → Instruction
  begin_loop : (counter : ℕ) → (turns : ℕ) → (past : ℕ) → Instruction
  end_loop : (counter : ℕ) → (back : ℕ) → Instruction
  call : ((event : ℕ) → Store → Wanted) → (Deed → Store → Store) → (Deed → ℕ) → Instruction

-- an instruction that instances share: which one it is depends on what the accesses name
abbrev pub Shared : Type 0
Shared = Targets → Instruction

-- what a call wants at what it names. A return is of the `out` arguments, which are among the first variables; the variable after them is `error`
abbrev pub requested : Request → (named : ℕ) → (event : ℕ) → Store → Wanted
requested request.Admit n event m = to_admit event
requested (request.Fetch x) n event m = to_fetch x
requested (request.Write given) n event m = to_write n (words_given m.vars given.words.items)
requested request.Read n event m = to_read n
requested request.Invalidate n event m = to_invalidate n
requested request.IsUpdated n event m = to_see_updated n
requested (request.Send given) n event m = to_send n (words_given m.vars given.words.items)
requested request.Receive n event m = to_receive n
requested (request.Ask given) n event m = to_ask n (words_given m.vars given.words.items)
requested request.Answer n event m = to_hear n
requested request.TakeResult n event m = to_take_result n
requested request.Enter n event m = to_enter n
requested request.Leave n event m = to_leave n
requested (request.Switch mode) n event m = to_switch n mode
requested request.Mode n event m = to_see_mode n
requested (request.Publish x slot) n event m = to_publish x (words_or_none (written_in slot m))
requested (request.FetchAll l) n event m = to_fetch_all l
requested (request.PublishAll l slots) n event m = to_publish_all l (marks_of slots m) (words_written slots m)
requested (request.Return r) n event m = to_return (declared_code r.errors (get_or m.vars (length r.arguments.items) (pos 0))) (results r.arguments.items m.vars)
requested request.End n event m = to_end event

-- an ask that was refused puts its code into the status
abbrev pub refused : (status : ℕ) → (code : ℕ) → Store → Store
refused status zero m = m
refused status (suc code) m = with_vars (set m.vars status (pos (suc code))) m

abbrev pub takes_refusal : (status : ℕ) → Deed → Store → Store
takes_refusal status d m = refused status (code_in d) m

-- what is taken of an answer
abbrev pub change_of : Taken → Deed → Store → Store
change_of taken.Nothing d m = m
change_of (taken.Zero status) d m = with_vars (set m.vars status (pos 0)) m
change_of (taken.Code status) d m = with_vars (set m.vars status (pos (code_in d))) m
change_of (taken.Number v) d m = with_vars (set m.vars v (pos (number_in d))) m
change_of (taken.Value vs) d m = with_vars (stored vs (words_in d) m.vars) m
change_of (taken.Words vs status) d m = with_vars (set (stored vs (words_in d) m.vars) status (pos (code_in d))) m
change_of (taken.Refusal status) d m = takes_refusal status d m
change_of (taken.Slot slot) d m = with_fetched slot (words_in d) m
change_of (taken.Slots parts) d m = with_parts parts (words_in d) m

-- an answer passes over nothing; but a refused ask over what would hear the answer of the operation
abbrev pub passes_nothing : Deed → ℕ
passes_nothing d = 0

abbrev pub passes_hearing : Deed → ℕ
passes_hearing d = if code_in d == 0 then 0 else 1

abbrev pub passes_of : Taken → Deed → ℕ
passes_of (taken.Refusal status) = passes_hearing
passes_of _ = passes_nothing

abbrev pub instruction_of : Instr → Shared
instruction_of (instr.Set v e) t = assign v (expr_tree e)
instruction_of (instr.Load vs a) t = load vs (fetched_at t a)
instruction_of (instr.Keep a given) t = keep (written_at t a) (λ m. words_given m.vars given.words.items)
instruction_of (instr.Unless c past) t = unless (expr_tree c) past
instruction_of (instr.Unwritten slot past) t = unwritten slot past
instruction_of (instr.NoneWritten slots past) t = none_written slots past
instruction_of (instr.Skip past) t = skip past
instruction_of (instr.Repeat c n past) t = begin_loop c n past
instruction_of (instr.Again c back) t = end_loop c back
instruction_of (instr.Call r a taken) t = call (requested r (number_at t a)) (change_of taken) (passes_of taken)

-- shared instructions, of an instance
abbrev pub resolved : Targets → List Shared → List Instruction
resolved t is = map (λ i. i t) is
