-- The lists of a plan stand by instance.
use Rattle.std.proofs.Common.{◌≡◌, ℕ, ◌+◌, ◌*◌, [], ◌∷◌, map, length, slice_get, true, cond, Option, Some, None, is_none, ⊎_elim, refl, sym, ap, subst, ◌∙◌, arith}
use Rattle.bus_semantics.specs.Common.{and_from, map-append, option_map_or, unwrap_or, Runnable, instance_of, is_arranged, is_rising, is_variable, rank}
use mathlib.Core.List.{map-map}
use Rattle.plan_definitions.specs.Common.{Component, Description, Flat, Instance, is_element, is_machine, is_mode_port, is_server, of_kind, from, positions, root_ports, site, sites}
use Rattle.plan_definitions.specs.Common.{sites_of_component, sites_of_instance, sites_of_ports, variables_of, Elem, elem_seen, element_of, group_of, elements_of, has_machine, machines_of}
use Rattle.plan_definitions.specs.Common.{mode_ports_of, servers_of, events_of_component, events, runnable_of, runnables_of_component, runnables, machine_at, mode_port_at, server_of, areas}
use Rattle.plan_definitions.specs.Common.{area_of, areas_at, named_areas, plan_of, seen, IsWellFormed}
use Rattle.bus_laws.specs.Common.{AreaPlan, BusPlan, ElemPlan, EventPlan, MachinePlan, ModePortPlan, ServerPlan}
use Rattle.bus_semantics.specs.Plan as bus
use Rattle.plan_definitions.specs.declared.site.Site.{Site}
use Rattle.plan_definitions.specs.declared.site.SiteKind.TheVariants.{Variable}
use Rattle.sound_plans.proofs.Homes.{event_home}
use Rattle.sound_plans.proofs.Lists.{map_same, mapped, pieces}
use Rattle.sound_plans.proofs.Numbers.{in_component}
use Rattle.sound_plans.proofs.Rising.{Rises, higher, join, level, lower, all_rise, rising, some_rise, steps_rise}
use Rattle.sound_plans.proofs.Seen.{names_count, elements_are, servers_are, areas_are, machines_are, mode_ports_are, events_are, runnables_are}
use Rattle.sound_plans.proofs.Sites.{ComponentAt, port_item, of_instance, ports_are}
use Rattle.sound_plans.proofs.Things.{server_owner, server_site}
use Rattle.sound_plans.proofs.Variables.{no_port_is, variable_is, variable_kind}

module _ (d : Description) (f : Flat) where
  module _ (whole : IsWellFormed d) (p : BusPlan) (is : seen p ≡ plan_of d f) where
    ranked : Site → ℕ
    ranked s = rank (bus.plan_of p) s.owner

    graded : Site → ℕ
    graded s = rank (bus.plan_of p) s.owner * 2 + cond (is_none s.port) 1 0

    count : rank (bus.plan_of p) None ≡ length f.instances
    count = names_count d f p is

    -- ---- sites

    component_grades : (i : ℕ) (x : Instance) (o : Option Component) → slice_get f.instances i ≡ Some x → slice_get d.components x.component ≡ o → Rises (i * 2) ((i + 1) * 2) (map graded (option_map_or (sites_of_component d.types i) o []))
    unfolding graded
    component_grades i x None at none = omega arith
    component_grades i x (Some c) at some =
        let here : ComponentAt d f i = record { instance = x; component = c; at_instance = at; at_component = some } in
        let ports = level graded (i * 2) (sites_of_ports d.types (Some i) c.ports)
        (λ s h.
        let r = port_item d f (Some i) c.ports s (ports_are d f i here) h in
        let owned = r.0 in
        let port = r.1.is_port in
        let e : graded s ≡ i * 2 + 0 = (λ j. rank (bus.plan_of p) (owned j) * 2 + cond (is_none (port j)) 1 0) in
        omega (arith, e)) in
        let own = level graded (i * 2 + 1) (variables_of i (length c.behavior.variables))
        (λ s h. ap graded (mapped (λ n. site (Some i) None n Variable) s (positions 0 (length c.behavior.variables)) h).2) in
        subst (Rises (i * 2) ((i + 1) * 2)) (sym (map-append graded (sites_of_ports d.types (Some i) c.ports) (variables_of i (length c.behavior.variables))))
        (join (i * 2) (i * 2) ((i + 1) * 2) (map graded (sites_of_ports d.types (Some i) c.ports)) (map graded (variables_of i (length c.behavior.variables))) ports
        (lower (i * 2) (i * 2 + 1) ((i + 1) * 2) (map graded (variables_of i (length c.behavior.variables))) (omega arith)
        (higher (i * 2 + 1) (i * 2 + 1) ((i + 1) * 2) (map graded (variables_of i (length c.behavior.variables))) (omega arith) own)))

    sites_grade : Rises 0 (length f.instances * 2) (map graded (sites d f))
    unfolding graded
    sites_grade =
        let instances = all_rise graded (sites_of_instance d) (λ i. i * 2) f.instances (λ i x at. component_grades i x (slice_get d.components x.component) at refl) in
        let outer = level graded (length f.instances * 2) (sites_of_ports d.types None (root_ports d))
        (λ s h.
        let r = port_item d f None (root_ports d) s refl h in
        let owned = r.0 in
        let port = r.1.is_port in
        let e : graded s ≡ rank (bus.plan_of p) None * 2 + 0 = (λ j. rank (bus.plan_of p) (owned j) * 2 + cond (is_none (port j)) 1 0) in
        omega (arith, e, count)) in
        subst (Rises 0 (length f.instances * 2)) (sym (map-append graded (from 0 (sites_of_instance d) f.instances) (sites_of_ports d.types None (root_ports d))))
        (join 0 (length f.instances * 2) (length f.instances * 2) (map graded (from 0 (sites_of_instance d) f.instances)) (map graded (sites_of_ports d.types None (root_ports d))) instances outer)

    sites_rank : Rises 0 (length f.instances) (map ranked (sites d f))
    unfolding ranked
    sites_rank =
        let instances = steps_rise ranked (sites_of_instance d) f.instances (λ i x s at h. ap (rank (bus.plan_of p)) (of_instance d f i x s at h).0) in
        let outer = level ranked (length f.instances) (sites_of_ports d.types None (root_ports d)) (λ s h. ap (rank (bus.plan_of p)) (port_item d f None (root_ports d) s refl h).0 ∙ count) in
        subst (Rises 0 (length f.instances)) (sym (map-append ranked (from 0 (sites_of_instance d) f.instances) (sites_of_ports d.types None (root_ports d))))
        (join 0 (length f.instances) (length f.instances) (map ranked (from 0 (sites_of_instance d) f.instances)) (map ranked (sites_of_ports d.types None (root_ports d))) instances outer)

    -- ---- the lists

    elements_rise : is_rising (map (λ (e : ElemPlan). rank (bus.plan_of p) e.instance * 2 + cond (is_variable e) 1 0) p.elements) ≡ true
    unfolding graded
    elements_rise =
        let by_seen : Elem → ℕ = (λ e. rank (bus.plan_of p) e.instance * 2 + cond (variable_kind e.kind) 1 0) in
        ap is_rising (
        map_same (λ (e : ElemPlan). rank (bus.plan_of p) e.instance * 2 + cond (is_variable e) 1 0) (λ e. by_seen (elem_seen e)) p.elements (λ e h. ap (λ b. rank (bus.plan_of p) e.instance * 2 + cond b 1 0) (variable_is e))
        ∙ sym (map-map by_seen elem_seen p.elements)
        ∙ ap (map by_seen) (elements_are d f p is)
        ∙ map-map by_seen (λ s. element_of d f (group_of d f s) s) (elements_of d f)
        ∙ map_same (λ s. by_seen (element_of d f (group_of d f s) s)) graded (elements_of d f) (λ s h. ap (λ b. rank (bus.plan_of p) s.owner * 2 + cond b 1 0) (no_port_is d f s)))
        ∙ rising 0 (length f.instances * 2) (map graded (elements_of d f)) (some_rise graded (λ (s : Site). is_element s.kind) 0 (length f.instances * 2) (sites d f) sites_grade)

    runnables_rise : is_rising (map (λ (r : Runnable). r.instance) (bus.plan_of p).runnables) ≡ true
    runnables_rise =
        ap (λ l. is_rising (map (λ (r : Runnable). r.instance) l)) (runnables_are d f p is)
        ∙ rising 0 (length f.instances) (map (λ (r : Runnable). r.instance) (runnables d f))
        (steps_rise (λ (r : Runnable). r.instance) (λ i (x : Instance). option_map_or (runnables_of_component d f i) (slice_get d.components x.component) []) f.instances
        (λ i x r at h.
        let c = in_component d f (runnables_of_component d f) i x r (slice_get d.components x.component) at refl h in
        let m = pieces (λ m y. runnable_of d f i c.0.component m y ∷ []) c.0.component.behavior.runnables r c.1 in
        ⊎_elim (λ e. ap (λ (r : Runnable). r.instance) e) (λ none. absurd none) m.3))

    events_rise : is_rising (map (λ (v : EventPlan). rank (bus.plan_of p) (instance_of (bus.plan_of p) v.runnable)) p.events) ≡ true
    events_rise =
        ap (λ l. is_rising (map (λ (v : EventPlan). rank (bus.plan_of p) (instance_of (bus.plan_of p) v.runnable)) l)) (events_are d f p is)
        ∙ rising 0 (length f.instances) (map (λ (v : EventPlan). rank (bus.plan_of p) (instance_of (bus.plan_of p) v.runnable)) (events d f))
        (steps_rise (λ (v : EventPlan). rank (bus.plan_of p) (instance_of (bus.plan_of p) v.runnable)) (λ i (x : Instance). option_map_or (events_of_component d f i) (slice_get d.components x.component) []) f.instances
        (λ i x v at h.
        let c = in_component d f (events_of_component d f) i x v (slice_get d.components x.component) at refl h in
        ap (rank (bus.plan_of p)) (event_home d f whole p is i c.0 v c.1)))

    areas_rise : is_rising (map (λ (a : AreaPlan). a.instance) p.areas) ≡ true
    areas_rise =
        ap (λ l. is_rising (map (λ (a : AreaPlan). a.instance) l)) (areas_are d f p is)
        ∙ rising 0 (length f.instances) (map (λ (a : AreaPlan). a.instance) (areas d f))
        (steps_rise (λ (a : AreaPlan). a.instance) (λ i (x : Instance). named_areas i (areas_at d x)) f.instances
        (λ i x a at h. ap (λ (a : AreaPlan). a.instance) (mapped (area_of i) a (areas_at d x) h).2))

    machines_rise : is_rising (map (λ (n : MachinePlan). rank (bus.plan_of p) n.instance) p.machines) ≡ true
    unfolding ranked
    machines_rise =
        ap (λ l. is_rising (map (λ (n : MachinePlan). rank (bus.plan_of p) n.instance) l)) (machines_are d f p is)
        ∙ ap is_rising (map-map (λ (n : MachinePlan). rank (bus.plan_of p) n.instance) (λ (s : Site). machine_at d f s.owner (unwrap_or s.port 0)) (machines_of d f))
        ∙ rising 0 (length f.instances) (map ranked (machines_of d f)) (some_rise ranked (λ (s : Site). is_machine s.kind) 0 (length f.instances) (sites d f) sites_rank)

    mode_ports_rise : is_rising (map (λ (t : ModePortPlan). rank (bus.plan_of p) t.instance) p.mode_ports) ≡ true
    unfolding ranked
    mode_ports_rise =
        ap (λ l. is_rising (map (λ (t : ModePortPlan). rank (bus.plan_of p) t.instance) l)) (mode_ports_are d f p is)
        ∙ ap is_rising (map-map (λ (t : ModePortPlan). rank (bus.plan_of p) t.instance) (λ (s : Site). mode_port_at d f s.owner (unwrap_or s.port 0)) (mode_ports_of d f))
        ∙ rising 0 (length f.instances) (map ranked (mode_ports_of d f))
        (some_rise ranked (has_machine f.joins) 0 (length f.instances) (of_kind is_mode_port d f) (some_rise ranked (λ (s : Site). is_mode_port s.kind) 0 (length f.instances) (sites d f) sites_rank))

    servers_rise : is_rising (map (λ (s : ServerPlan). s.instance) p.servers) ≡ true
    unfolding ranked
    servers_rise =
        ap (λ l. is_rising (map (λ (s : ServerPlan). s.instance) l)) (servers_are d f p is)
        ∙ ap is_rising (
        map-map (λ (s : ServerPlan). s.instance) (server_of d f) (servers_of d f)
        ∙ map_same (λ s. (server_of d f s).instance) ranked (servers_of d f) (λ s h. ap (rank (bus.plan_of p)) (server_owner d f s (server_site d f s h))))
        ∙ rising 0 (length f.instances) (map ranked (servers_of d f)) (some_rise ranked (λ (s : Site). is_server s.kind) 0 (length f.instances) (sites d f) sites_rank)

    pub arranged : is_arranged (bus.plan_of p) ≡ true
    arranged = and_from _ _ elements_rise (and_from _ _ runnables_rise (and_from _ _ events_rise (and_from _ _ areas_rise (and_from _ _ machines_rise (and_from _ _ mode_ports_rise servers_rise)))))
