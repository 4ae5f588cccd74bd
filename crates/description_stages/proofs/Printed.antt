-- What is printed of a plan tells nothing of how programs are held.
use Rattle.std.proofs.Common.{◌≡◌, List, [], ◌++◌, map, filter, codes, slice_get, is_none, refl, ap}
use Rattle.std.specs.List.{concat}
use Rattle.plan_definitions.specs.Common.{Component, Description, End, Flat, Instance, Join, from}
use Rattle.component_model.specs.Programs.{component_tree}
use Rattle.bus_semantics.specs.declared.plan.BusPlan.{BusPlan}
use Rattle.bus_semantics.specs.declared.plan.EventKind.{EventKind}
use Rattle.bus_semantics.specs.declared.plan.EventKind.TheVariants.{Timing, Init, DataReceived, Invoked, Returns, ModeSwitch, Ack}
use Rattle.bus_semantics.specs.Common.{instance_of, plan_of, queue_of, spaced}
use Rattle.plan_text.specs.Lines.{direct_events, direct_line, end_text, instance_line, invokes_directly, join_line, machine_line, owned_text, plan_text, task_lines}
use Rattle.description_stages.proofs.Held.{at_place, held_as, look}
use Rattle.description_stages.proofs.Parts.{item_text-again}

module _ (d : Description) (cs : List Component) (same : map component_tree d.components ≡ map component_tree cs) (f : Flat) where
  instance_line-again : (x : Instance) → instance_line d x ≡ instance_line (held_as d cs) x
  instance_line-again x = λ i. codes "instance " ++ x.path ++ spaced (look component_tree (λ c. c.short_name) (λ c. c.short_name) [] (λ a b e. ap (λ t. t.short_name) e)
      (slice_get d.components x.component) (slice_get cs x.component) (at_place component_tree d.components cs same x.component) i) ++ codes "\n"

  end_text-again : (e : End) → end_text d f e ≡ end_text (held_as d cs) f e
  end_text-again e = ap (owned_text f e.instance) (item_text-again d cs same f e.instance e.port e.element)

  join_line-again : (j : Join) → join_line d f j ≡ join_line (held_as d cs) f j
  join_line-again j = λ i. codes "join " ++ end_text-again j.provided i ++ spaced (end_text-again j.required i) ++ codes "\n"

  pub text-again : (p : BusPlan) → plan_text d f p ≡ plan_text (held_as d cs) f p
  text-again p = λ i. concat (map (λ x. instance_line-again x i) f.instances ++ map (λ j. join_line-again j i) f.joins ++ map (machine_line f) p.machines
      ++ from 0 (task_lines d) d.mapping.tasks ++ map (direct_line f p) (direct_events p))

-- plans that contracts see as one
module _ (d : Description) (f : Flat) (p q : BusPlan) (same : plan_of p ≡ plan_of q) where
  directly : (k : EventKind) → invokes_directly p k ≡ invokes_directly q k
  directly (Invoked s) = ap (λ v. is_none (queue_of v s)) same
  directly (Timing period) = refl
  directly Init = refl
  directly (DataReceived x) = refl
  directly (Returns x) = refl
  directly (ModeSwitch machine moment) = refl
  directly (Ack x) = refl

  pub text-same : plan_text d f p ≡ plan_text d f q
  text-same = λ i. concat (map (instance_line d) f.instances ++ map (join_line d f) f.joins ++ map (machine_line f) ((same i).machines)
      ++ from 0 (task_lines d) d.mapping.tasks ++ map (λ e. codes "direct " ++ owned_text f (instance_of (same i) e.runnable) e.name ++ codes "\n") (filter (λ e. directly e.kind i) ((same i).events)))
