-- How many instructions a program executes at most, and how deep its loops stand within one another.
use Rattle.std.specs.Prelude.{ℕ, ◌+◌, ◌*◌, max, if◌then◌else◌}
use Rattle.runnable_lang.specs.Trees.{StmtTree, chooses, repeats, in_area, calls, BodyTree, done, next}
use Rattle.task_generator.specs.Nothing.{does_nothing}

-- the instructions that a statement executes at most; of a choice both sides are counted, and a loop that does nothing has none
abbrev mutual
  pub steps : StmtTree → ℕ
  steps (chooses c first second) = 2 + (steps_of_body first + steps_of_body second)
  steps (repeats turns body) = if does_nothing (repeats turns body) then 0 else 1 + turns * (steps_of_body body + 1)
  steps (in_area x body) = 2 + steps_of_body body
  steps (calls port item es vs status) = 2
  steps _ = 1

  pub steps_of_body : BodyTree → ℕ
  steps_of_body done = 0
  steps_of_body (next st body) = steps st + steps_of_body body

-- the loops that stand within one another
abbrev mutual
  pub loops : StmtTree → ℕ
  loops (chooses c first second) = max (loops_of_body first) (loops_of_body second)
  loops (repeats turns body) = if does_nothing (repeats turns body) then 0 else 1 + loops_of_body body
  loops (in_area x body) = loops_of_body body
  loops _ = 0

  pub loops_of_body : BodyTree → ℕ
  loops_of_body done = 0
  loops_of_body (next st body) = max (loops st) (loops_of_body body)
