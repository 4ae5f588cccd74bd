-- The same node, but for its room.
use Rattle.std.proofs.Common.{◌≡◌, ◌⊎◌, inl, inr, sym, subst, List, length}
use Rattle.bus_semantics.specs.declared.entries.Stamped.{Stamped}
use Rattle.bus_semantics.specs.declared.plan.BusPlan.{BusPlan}
use Rattle.bus_semantics.specs.declared.script.Mapping.{Mapping}
use Rattle.bus_semantics.specs.Common.{History, plan_of, IsIdle}
use Rattle.core_runtime.specs.After.{after}
use Rattle.core_runtime.specs.Nodes.{NodeState, IsLawfulNode, IsSameNode}

-- all but the room of the one
abbrev but_room : NodeState → NodeState → NodeState
but_room a n = record { plan = n.plan; mapping = n.mapping; bodies = n.bodies; cores = n.cores; objects = n.objects; entries = n.entries; spare = a.spare }

same_but : (a b : NodeState) → IsSameNode a b → but_room a a ≡ but_room a b
same_but a b same = λ i. record {
  plan = sym same.plan i;
  mapping = sym same.mapping i;
  bodies = sym same.bodies i;
  cores = sym same.cores i;
  objects = sym same.objects i;
  entries = sym same.entries i;
  spare = a.spare;
}

pub same_is_lawful : (a b : NodeState) (h : History) → IsSameNode a b → IsLawfulNode a h → IsLawfulNode b h
same_is_lawful a b h same lawful = subst (λ (x : NodeState). IsLawfulNode x h) (same_but a b same) lawful

-- after a round of one core
abbrev pub IsFullOrIdle : NodeState → List Stamped → Type 0
IsFullOrIdle n entries = (length entries ≡ 1024) ⊎ ((h : History) → IsLawfulNode n h → IsIdle (plan_of n.plan) n.mapping (after entries h))

pub same_end : (a b : NodeState) (entries : List Stamped) → IsSameNode a b → IsFullOrIdle b entries → IsFullOrIdle a entries
same_end a b entries same (inl full) = inl full
same_end a b entries same (inr idle) = inr (λ h lawful.
    subst (λ (p : BusPlan). IsIdle (plan_of p) a.mapping (after entries h)) same.plan
    (subst (λ (m : Mapping). IsIdle (plan_of b.plan) m (after entries h)) same.mapping (idle h (same_is_lawful a b h same lawful))))
