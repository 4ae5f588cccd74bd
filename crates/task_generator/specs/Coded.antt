-- The code of a runnable's program, and bodies that share it.
use Rattle.std.specs.Prelude.{◌≡◌, ℕ, List, length, map, take, Bool, ◌&&◌, nat_eq, Some, slice_get}
use Rattle.bus_semantics.specs.Common.{arc_value, Coded, coded_of}
use Rattle.indexmap.specs.IndexMap.{IndexMap, get}
use Rattle.bus_semantics.specs.declared.plan.BusPlan.{BusPlan}
use Rattle.bus_semantics.specs.declared.plan.RunnablePlan.{RunnablePlan}
use Rattle.task_machine.specs.declared.instr.Body.{Body}
use Rattle.task_machine.specs.declared.instr.Code.{Code}
use Rattle.task_machine.specs.Instructions.{Shared, instruction_of}
use Rattle.task_generator.specs.Bounds.{steps_of_body, loops_of_body}
use Rattle.task_generator.specs.Shared.{shared_of_body}

-- the instructions, how many of them are executed at most, and how many loops stand within one another
pub record CodeShape : Type 0 where
  pub instrs : List Shared
  pub steps : ℕ
  pub loops : ℕ

abbrev pub shape_of_code : Code → CodeShape
shape_of_code c = record { instrs = map instruction_of c.instrs; steps = c.steps; loops = c.loops }

-- the code of a program
abbrev pub coded_shape : Coded → CodeShape
coded_shape c = record { instrs = shared_of_body c.1 0 c.0.body; steps = steps_of_body c.0.body; loops = loops_of_body c.0.body }

abbrev pub code_of_body : Body → CodeShape
code_of_body b = shape_of_code (arc_value b.code)

-- these are the bodies of the first runnables, as far as their codes go
abbrev pub HaveCodes : BusPlan → List Body → Type 0
HaveCodes p bodies = map code_of_body bodies ≡ map (λ (r : RunnablePlan). coded_shape (coded_of r)) (take (length bodies) p.runnables)

abbrev pub same_code : ℕ × ℕ → ℕ × ℕ → Bool
same_code a b = nat_eq a.0 b.0 && nat_eq a.1 b.1

-- under each code is the number of a runnable of it
abbrev pub AreMade : {S : Type 0} → BusPlan → IndexMap (ℕ × ℕ) ℕ S → Type 0
AreMade p made = (k : ℕ × ℕ) (n : ℕ) → get same_code made k ≡ Some n → (s : RunnablePlan) × ((slice_get p.runnables n ≡ Some s) × (s.code ≡ k))
