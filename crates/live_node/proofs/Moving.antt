-- A node that was taken apart, with cores and objects elsewhere for a while.
use Rattle.std.proofs.Common.{◌≡◌, sym, subst, List}
use Rattle.bus_semantics.specs.declared.plan.BusPlan.{BusPlan}
use Rattle.bus_semantics.specs.declared.script.Mapping.{Mapping}
use Rattle.bus_semantics.specs.Common.{History, plan_of}
use Rattle.port_objects.specs.declared.object.Object.{Object}
use Rattle.task_machine.specs.declared.instr.TaskSet.{TaskSet}
use Rattle.core_turn.specs.Cores.{CoreState}
use Rattle.core_turn.specs.Lawful.{IsLawful}

-- what is lawful of these is lawful of the same
pub lawful_of : (p q : BusPlan) (m k : Mapping) (t u : TaskSet) (cores now : List CoreState) (objects later : List Object) (h : History) → q ≡ p → k ≡ m → u ≡ t → now ≡ cores → later ≡ objects
    → IsLawful (plan_of p) m t cores objects h → IsLawful (plan_of q) k u now later h
lawful_of p q m k t u cores now objects later h plan mapping bodies same_cores same_objects lawful =
    subst (λ x. IsLawful (plan_of x) k u now later h) (sym plan)
    (subst (λ x. IsLawful (plan_of p) x u now later h) (sym mapping)
    (subst (λ x. IsLawful (plan_of p) m x now later h) (sym bodies)
    (subst (λ x. IsLawful (plan_of p) m t x later h) (sym same_cores) (subst (λ x. IsLawful (plan_of p) m t cores x h) (sym same_objects) lawful))))
