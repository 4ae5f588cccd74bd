-- The instances that a plan names are its instances.
use Rattle.std.proofs.Common.{◌≡◌, ℕ, [], ◌∷◌, length, true, Option, Some, None, ⊎_elim, refl, sym, ap, subst, ◌∙◌, arith}
use Rattle.bus_semantics.specs.Common.{lt-ltb, and_from, list_all-map, slice_get_within, list_all, unwrap_or, Runnable, instance_exists, instances_exist}
use Rattle.plan_definitions.specs.Common.{Description, Flat, Instance, Among, is_element, is_machine, is_mode_port, is_server, of_kind, sites, Elem, elem_seen, element_of, elements}
use Rattle.plan_definitions.specs.Common.{group_of, elements_of, has_machine, machines_of, mode_ports_of, servers_of, runnable_of, runnables_of_component, runnables, machine_at, machines}
use Rattle.plan_definitions.specs.Common.{mode_port_at, mode_ports, server_of, servers, areas, areas_at, area_of, named_areas, plan_of, seen}
use Rattle.bus_laws.specs.Common.{AreaPlan, BusPlan, ElemPlan, MachinePlan, ModePortPlan, ServerPlan}
use Rattle.bus_semantics.specs.Plan as bus
use Rattle.plan_definitions.specs.declared.site.Site.{Site}
use Rattle.plan_definitions.proofs.Lists.{all_from}
use Rattle.sound_plans.proofs.Lists.{filtered, mapped, pieces}
use Rattle.sound_plans.proofs.Numbers.{of_instances_is}
use Rattle.sound_plans.proofs.Owners.{Owns, instance_owns, site_owns}
use Rattle.sound_plans.proofs.Seen.{names_count, elements_are, servers_are, areas_are, machines_are, mode_ports_are, runnables_are}
use Rattle.sound_plans.proofs.Things.{server_owner, server_site}

module _ (d : Description) (f : Flat) where
  pub runnable_is : (r : Runnable) → Among r (runnables d f) → (i : ℕ) × (r.instance ≡ i) × Owns f (Some i)
  runnable_is r h =
      let c = of_instances_is d f (runnables_of_component d f) r h in
      let m = pieces (λ m x. runnable_of d f c.0 c.1.component m x ∷ []) c.1.component.behavior.runnables r c.2 in
      let one : r.instance ≡ c.0 = ⊎_elim (λ e. ap (λ (r : Runnable). r.instance) e) (λ none. absurd none) m.3 in
      (c.0, one, instance_owns d f c.0 c.1)

  pub area_is : (a : AreaPlan) → Among a (areas d f) → (i : ℕ) × (a.instance ≡ i) × Owns f (Some i)
  area_is a h =
      let x = pieces (λ i (x : Instance). named_areas i (areas_at d x)) f.instances a h in
      let m = mapped (area_of x.0) a (areas_at d x.1) x.3 in
      (x.0, ap (λ (a : AreaPlan). a.instance) m.2, slice_get_within f.instances x.0 x.1 x.2)

  module _ (p : BusPlan) (is : seen p ≡ plan_of d f) where
    exists : (o : Option ℕ) → Owns f o → instance_exists (bus.plan_of p) o ≡ true
    exists None own = refl
    exists (Some i) own = lt-ltb i (length p.names) (omega (arith, names_count d f p is))

    elements_exist : list_all (λ (e : ElemPlan). instance_exists (bus.plan_of p) e.instance) p.elements ≡ true
    elements_exist =
        sym (list_all-map (λ (e : Elem). instance_exists (bus.plan_of p) e.instance) elem_seen p.elements)
        ∙ ap (list_all (λ (e : Elem). instance_exists (bus.plan_of p) e.instance)) (elements_are d f p is)
        ∙ all_from (λ (e : Elem). instance_exists (bus.plan_of p) e.instance) (elements d f)
        (λ e h.
        let m = mapped (λ s. element_of d f (group_of d f s) s) e (elements_of d f) h in
        let own = site_owns d f m.0 (filtered (λ (s : Site). is_element s.kind) m.0 (sites d f) m.1).0 in
        ap (λ (e : Elem). instance_exists (bus.plan_of p) e.instance) m.2 ∙ exists m.0.owner own)

    runnables_exist : list_all (λ (r : Runnable). instance_exists (bus.plan_of p) (Some r.instance)) (bus.plan_of p).runnables ≡ true
    runnables_exist =
        ap (list_all (λ (r : Runnable). instance_exists (bus.plan_of p) (Some r.instance))) (runnables_are d f p is)
        ∙ all_from (λ (r : Runnable). instance_exists (bus.plan_of p) (Some r.instance)) (runnables d f)
        (λ r h. let x = runnable_is r h in exists (Some r.instance) (subst (λ i. Owns f (Some i)) (sym x.1) x.2))

    areas_exist : list_all (λ (a : AreaPlan). instance_exists (bus.plan_of p) (Some a.instance)) p.areas ≡ true
    areas_exist =
        ap (list_all (λ (a : AreaPlan). instance_exists (bus.plan_of p) (Some a.instance))) (areas_are d f p is)
        ∙ all_from (λ (a : AreaPlan). instance_exists (bus.plan_of p) (Some a.instance)) (areas d f)
        (λ a h. let x = area_is a h in exists (Some a.instance) (subst (λ i. Owns f (Some i)) (sym x.1) x.2))

    machines_exist : list_all (λ (n : MachinePlan). instance_exists (bus.plan_of p) n.instance) p.machines ≡ true
    machines_exist =
        ap (list_all (λ (n : MachinePlan). instance_exists (bus.plan_of p) n.instance)) (machines_are d f p is)
        ∙ all_from (λ (n : MachinePlan). instance_exists (bus.plan_of p) n.instance) (machines d f)
        (λ n h.
        let m = mapped (λ s. machine_at d f s.owner (unwrap_or s.port 0)) n (machines_of d f) h in
        let own = site_owns d f m.0 (filtered (λ (s : Site). is_machine s.kind) m.0 (sites d f) m.1).0 in
        ap (λ (n : MachinePlan). instance_exists (bus.plan_of p) n.instance) m.2 ∙ exists m.0.owner own)

    mode_ports_exist : list_all (λ (t : ModePortPlan). instance_exists (bus.plan_of p) t.instance) p.mode_ports ≡ true
    mode_ports_exist =
        ap (list_all (λ (t : ModePortPlan). instance_exists (bus.plan_of p) t.instance)) (mode_ports_are d f p is)
        ∙ all_from (λ (t : ModePortPlan). instance_exists (bus.plan_of p) t.instance) (mode_ports d f)
        (λ t h.
        let m = mapped (λ s. mode_port_at d f s.owner (unwrap_or s.port 0)) t (mode_ports_of d f) h in
        let g = filtered (has_machine f.joins) m.0 (of_kind is_mode_port d f) m.1 in
        let own = site_owns d f m.0 (filtered (λ (s : Site). is_mode_port s.kind) m.0 (sites d f) g.0).0 in
        ap (λ (t : ModePortPlan). instance_exists (bus.plan_of p) t.instance) m.2 ∙ exists m.0.owner own)

    servers_exist : list_all (λ (s : ServerPlan). instance_exists (bus.plan_of p) (Some s.instance)) p.servers ≡ true
    servers_exist =
        ap (list_all (λ (s : ServerPlan). instance_exists (bus.plan_of p) (Some s.instance))) (servers_are d f p is)
        ∙ all_from (λ (s : ServerPlan). instance_exists (bus.plan_of p) (Some s.instance)) (servers d f)
        (λ v h.
        let m = mapped (server_of d f) v (servers_of d f) h in
        let owner = server_owner d f m.0 (server_site d f m.0 m.1) in
        let own = site_owns d f m.0 (filtered (λ (s : Site). is_server s.kind) m.0 (sites d f) m.1).0 in
        ap (λ (s : ServerPlan). instance_exists (bus.plan_of p) (Some s.instance)) m.2 ∙ exists (Some (server_of d f m.0).instance) (subst (Owns f) (sym owner) own))

    pub all_exist : instances_exist (bus.plan_of p) ≡ true
    all_exist = and_from _ _ elements_exist (and_from _ _ runnables_exist (and_from _ _ areas_exist (and_from _ _ machines_exist (and_from _ _ mode_ports_exist servers_exist))))
