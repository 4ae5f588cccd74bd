-- A round over what a node keeps, and what it gives back.
use Rattle.std.proofs.Common.{◌≡◌, sym, ◌∙◌, ap, subst, ℕ, [], None}
use Rattle.bus_semantics.specs.Common.{vec_capacity, plan_of}
use Rattle.bus_semantics.specs.declared.plan.BusPlan.{BusPlan}
use Rattle.bus_semantics.specs.declared.script.Mapping.{Mapping}
use Rattle.port_objects.specs.Objects.{ArePlans}
use Rattle.task_machine.specs.declared.instr.TaskSet.{TaskSet}
use Rattle.core_runtime.specs.Common.{Live, IsNode, RoundState, IsLater, Made, NothingMayCome, EachTakesOne, IsWatch}
use Rattle.core_runtime.proofs.Ending.{gone_node}
use Rattle.core_runtime.proofs.Turning.{made_nothing}

-- what it begins with
abbrev begun : BusPlan → TaskSet → Live → (room : ℕ) → RoundState
begun p t live room = record { plan = p; bodies = t; cores = live.cores.items; objects = live.objects.items; entries = []; room = room; spare = vec_capacity live.entries }

module _ {p : BusPlan} {m : Mapping} {t : TaskSet} {live taken : Live} {room : ℕ} {start now : RoundState}
    (node : IsNode (plan_of p) m t live.cores.items live.objects.items) (same : taken ≡ live) (begins : start ≡ begun p t taken room) (later : IsLater start now) where
  from : start ≡ begun p t live room
  from = begins ∙ ap (λ (l : Live). begun p t l room) same

  since : IsLater (begun p t live room) now
  since = subst (λ (r : RoundState). IsLater r now) from later

  -- where the turns that it began with could make nothing
  pub nothing_at_first : NothingMayCome (plan_of start.plan) start.bodies start.cores start.objects → NothingMayCome (plan_of p) t live.cores.items live.objects.items
  nothing_at_first = subst (λ (r : RoundState). NothingMayCome (plan_of r.plan) r.bodies r.cores r.objects) from

  module _ (given : Live) (cores : given.cores.items ≡ now.cores) (objects : given.objects.items ≡ now.objects) (entries : given.entries.items ≡ now.entries) where
    pub made_by : Made (plan_of p) t live.cores.items given.cores.items live.objects.items given.objects.items given.entries.items
    made_by =
        let made = since.made live.cores.items live.objects.items (made_nothing (plan_of p) t live.cores.items live.objects.items node.room) in
        subst (λ cs. Made (plan_of p) t live.cores.items cs live.objects.items given.objects.items given.entries.items) (sym cores)
        (subst (λ os. Made (plan_of p) t live.cores.items now.cores live.objects.items os given.entries.items) (sym objects)
        (subst (λ es. Made (plan_of p) t live.cores.items now.cores live.objects.items now.objects es) (sym entries) made))

    pub node_after : ArePlans (plan_of now.plan) given.objects.items → IsWatch (plan_of now.plan) now.bodies given.objects.items None given.cores.items given.watch
        → IsNode (plan_of p) m t given.cores.items given.objects.items × IsWatch (plan_of p) t given.objects.items None given.cores.items given.watch
    node_after planned watched = (
      gone_node (plan_of p) m t live.cores.items given.cores.items live.objects.items given.objects.items given.entries.items node made_by.count made_by.room
          (subst (λ (q : BusPlan). ArePlans (plan_of q) given.objects.items) since.plan planned) (made_by.goes m node.lawful.ready),
      subst (λ (u : TaskSet). IsWatch (plan_of p) u given.objects.items None given.cores.items given.watch) since.bodies
          (subst (λ (q : BusPlan). IsWatch (plan_of q) now.bodies given.objects.items None given.cores.items given.watch) since.plan watched),
    )

    -- where each core took one turn
    pub in_order : EachTakesOne (plan_of start.plan) start.bodies start.cores now.cores start.objects now.objects now.entries
        → EachTakesOne (plan_of p) t live.cores.items given.cores.items live.objects.items given.objects.items given.entries.items
    in_order each =
        subst (λ cs. EachTakesOne (plan_of p) t live.cores.items cs live.objects.items given.objects.items given.entries.items) (sym cores)
        (subst (λ os. EachTakesOne (plan_of p) t live.cores.items now.cores live.objects.items os given.entries.items) (sym objects)
        (subst (λ es. EachTakesOne (plan_of p) t live.cores.items now.cores live.objects.items now.objects es) (sym entries)
        (subst (λ (r : RoundState). EachTakesOne (plan_of r.plan) r.bodies r.cores now.cores r.objects now.objects now.entries) from each)))

    -- where its last turns could make nothing
    pub nothing_at_last : NothingMayCome (plan_of now.plan) now.bodies now.cores now.objects → NothingMayCome (plan_of p) t given.cores.items given.objects.items
    nothing_at_last nothing =
        subst (λ cs. NothingMayCome (plan_of p) t cs given.objects.items) (sym cores)
        (subst (λ os. NothingMayCome (plan_of p) t now.cores os) (sym objects)
        (subst (λ (u : TaskSet). NothingMayCome (plan_of p) u now.cores now.objects) since.bodies
        (subst (λ (q : BusPlan). NothingMayCome (plan_of q) now.bodies now.cores now.objects) since.plan nothing)))
