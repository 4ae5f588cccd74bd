-- The body of a runnable: its instructions, and what an activation needs for them.
use Rattle.std.specs.Prelude.{ℕ, ◌+◌, max, List, length}
use Rattle.bus_semantics.specs.Common.{Plan, Runnable, fetches_of, publications_of}
use Rattle.task_machine.specs.declared.instr.Body.{Body}
use Rattle.task_machine.specs.Instructions.{Instruction}
use Rattle.task_machine.specs.Spots.{code_in}
use Rattle.implicit_buffers.specs.Buffers.{fetched_by, published_by}
use Rattle.task_generator.specs.Servers.{served, arguments_in, in_places}
use Rattle.task_generator.specs.Code.{fetching_code, publishing_code, returning_code, activity_code}
use Rattle.task_generator.specs.Bounds.{steps_of_body, loops_of_body}

-- the variables, the places of the `in` arguments, the slots, the counters of loops, the budget of instructions, and the instructions
pub record Shape : Type 0 where
  pub vars : ℕ
  pub arguments : List ℕ
  pub fetched : ℕ
  pub written : ℕ
  pub counters : ℕ
  pub budget : ℕ
  pub code : List Instruction

abbrev pub shape_of_body : Body → Shape
shape_of_body b = record { vars = b.vars; arguments = b.arguments; fetched = b.fetched; written = b.written; counters = b.counters; budget = b.budget; code = code_in b }

-- beside the program an activation executes each instruction around it at most once: those of the admission, the fetches, the publications,
-- the return and the end
abbrev pub budget_of : Plan → Runnable → ℕ
budget_of p r =
    1 + (length (fetching_code p (fetched_by r) (fetches_of p r)) + (steps_of_body r.program.body
    + (length (publishing_code p (published_by r) (publications_of p r)) + (length (returning_code (served p.servers r.server)) + 1))))

abbrev pub shape_of : Plan → Runnable → Shape
shape_of p r =
    let arguments = arguments_in (served p.servers r.server) in
    record {
      vars = max r.program.vars (length arguments);
      arguments = in_places 0 arguments;
      fetched = length (fetched_by r);
      written = length (published_by r);
      counters = loops_of_body r.program.body;
      budget = budget_of p r;
      code = activity_code p r;
    }
