-- Codes of runnables (Software Component Template: the instances of a component have its RunnableEntities).
use Rattle.std.specs.Prelude.{◌≡◌, ℕ, List, Some, slice_get}
use Rattle.std.specs.Arc.{arc_value}
use Rattle.runnable_lang.specs.declared.program.AccessSig.{AccessSig}
use Rattle.runnable_lang.specs.Trees.{ProgramTree, program_tree}
use Rattle.bus_semantics.specs.declared.plan.RunnablePlan.{RunnablePlan}

-- what all instances of a runnable have: its program, and what that may name
abbrev pub Coded : Type 0
Coded = ProgramTree × List AccessSig

abbrev pub coded_of : RunnablePlan → Coded
coded_of r = (program_tree (arc_value r.program), (arc_value r.signature).accesses)

-- runnables of one code have the same of it
abbrev pub HaveOneCode : List RunnablePlan → Type 0
HaveOneCode rs = (i j : ℕ) (r s : RunnablePlan) → slice_get rs i ≡ Some r → slice_get rs j ≡ Some s → r.code ≡ s.code → coded_of r ≡ coded_of s
