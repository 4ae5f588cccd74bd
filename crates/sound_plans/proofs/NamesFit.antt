-- The names of a plan are names, pairs of names and paths.
use Rattle.std.proofs.Common.{◌≡◌, ℕ, ◌<◌, List, [], ◌∷◌, map, slice_get, Bool, true, cond, ◌&&◌, Option, Some, None, is_none, ⊎_elim, refl, sym, ap, subst, ◌∙◌}
use Rattle.bus_semantics.specs.Common.{and_from, and_parts, list_all, option_map_or, unwrap_or, Runnable, is_name, is_pair_name, names_fit, is_variable}
use Rattle.plan_definitions.specs.Common.{InterfaceKind, SenderReceiver, ClientServer, ModeSwitch, ModeGroup, Component, Event, Description, Flat, Instance, IsFlatOf, Among, is_element}
use Rattle.plan_definitions.specs.Common.{sites, Elem, elem_seen, element_of, elements, group_of, interface_of, site_name, elements_of, machines_of, mode_ports_of, servers_of, event_of}
use Rattle.plan_definitions.specs.Common.{events, events_of_component, runnable_of, runnables, runnables_of_component, callings, owner_of, group_at, group_in, machine_at, machines}
use Rattle.plan_definitions.specs.Common.{mode_port_at, mode_ports, point_of, points, server_of, servers, area_of, areas, areas_at, named_areas, plan_of, seen, IsRefusal, item_count}
use Rattle.plan_definitions.specs.Common.{IsWellFormed}
use Rattle.description_types.specs.declared.component.Runnable as declared
use Rattle.bus_laws.specs.Common.{AreaPlan, BusPlan, ElemPlan, EventPlan, MachinePlan, ModePortPlan, PointPlan, ServerPlan}
use Rattle.bus_semantics.specs.Plan as bus
use Rattle.plan_definitions.specs.declared.site.Site.{Site}
use Rattle.plan_definitions.specs.WellFormed as declared_names
use Rattle.plan_definitions.proofs.Lists.{all_from, at as get_among}
use Rattle.sound_plans.proofs.Calls.{call_is}
use Rattle.sound_plans.proofs.ItemNames.{item_site_name, site_text_fits, text_fits, variable_fits}
use Rattle.sound_plans.proofs.Keeping.{Names, names_from, of_component, of_group}
use Rattle.sound_plans.proofs.Lists.{all_at, and_then_some, filtered, map_has, mapped, pieces}
use Rattle.sound_plans.proofs.Numbers.{of_instances_is}
use Rattle.sound_plans.proofs.Paths.{few_names, names_are_fit}
use Rattle.sound_plans.proofs.Seen.{elements_are, points_are, servers_are, areas_are, machines_are, mode_ports_are, events_are, runnables_are}
use Rattle.sound_plans.proofs.Sites.{ItemAt, VariableAt, site_is}
use Rattle.sound_plans.proofs.Things.{machine_name, machine_site, mode_port_name, mode_port_site, server_name, server_site}
use Rattle.sound_plans.proofs.Variables.{no_port_is, variable_is, variable_kind}

pub name_of : {X : Type 0} (name : X → List ℕ) (x : X) (xs : List X) → Names (map name xs) → Among x xs → is_name (name x) ≡ true
name_of name x xs names h = all_at is_name (name x) (map name xs) names.each (map_has name x xs h)

module _ (d : Description) (f : Flat) (whole : IsWellFormed d) where
  -- the modes of a port, and the areas of an instance
  modes_in : (k : InterfaceKind) (g : ModeGroup) → group_in d k ≡ Some g → Names g.modes
  modes_in (SenderReceiver es) g h = cc
  modes_in (ClientServer os) g h = cc
  modes_in (ModeSwitch e) g h =
      let a = and_parts _ _ (of_group d whole e.of_type g h) in
      names_from g.modes (and_parts (declared_names.names_fit g.modes) _ a.1).0

  modes_some : (o : Option ModeGroup) → ((g : ModeGroup) → o ≡ Some g → Names g.modes) → Names (option_map_or (λ (g : ModeGroup). g.modes) o [])
  modes_some None each = record { each = refl; once = refl }
  modes_some (Some g) each = each g refl

  pub modes_named : (owner : Option ℕ) (k : ℕ) → Names (machine_at d f owner k).modes
  modes_named owner k = modes_some (group_at d f owner k) (λ g some. let r = and_then_some (group_in d) (interface_of d f owner k) g some in modes_in r.0 g r.2)

  areas_some : (x : Instance) (o : Option Component) → slice_get d.components x.component ≡ o → Names (option_map_or (λ (c : Component). c.behavior.exclusive_areas) o [])
  areas_some x None at = record { each = refl; once = refl }
  areas_some x (Some c) at = (of_component d whole x.component c at).areas

  pub areas_named : (x : Instance) → Names (areas_at d x)
  areas_named x = areas_some x (slice_get d.components x.component) refl

  module _ (kept : IsRefusal d f None) (flat : IsFlatOf d f) (p : BusPlan) (is : seen p ≡ plan_of d f) where
    elements_fit : list_all (λ (e : ElemPlan). cond (is_variable e) (is_name e.name) (is_pair_name e.name)) p.elements ≡ true
    elements_fit =
        let by_seen : Elem → Bool = (λ e. cond (variable_kind e.kind) (is_name e.name) (is_pair_name e.name)) in
        let listed : list_all by_seen (elements d f) ≡ true =
        all_from by_seen (elements d f)
        (λ e h.
        let m = mapped (λ s. element_of d f (group_of d f s) s) e (elements_of d f) h in
        let s = m.0 in
        let site = filtered (λ (s : Site). is_element s.kind) s (sites d f) m.1 in
        ap by_seen m.2 ∙ ap (λ b. cond b (is_name (site_name d f s)) (is_pair_name (site_name d f s))) (no_port_is d f s)
        ∙ ⊎_elim
        (λ (item : ItemAt d f s). ap (λ o. cond (is_none o) (is_name (site_name d f s)) (is_pair_name (site_name d f s))) item.is_port ∙ ap is_pair_name (item_site_name d f s item) ∙ site_text_fits d f whole s item)
        (λ (v : VariableAt d f s). ap (λ o. cond (is_none o) (is_name (site_name d f s)) (is_pair_name (site_name d f s))) v.no_port ∙ variable_fits d f whole s v)
        (site_is d f s site.0)) in
        all_from (λ (e : ElemPlan). cond (is_variable e) (is_name e.name) (is_pair_name e.name)) p.elements
        (λ e h.
        ap (λ b. cond b (is_name e.name) (is_pair_name e.name)) (variable_is e)
        ∙ all_at by_seen (elem_seen e) (elements d f) listed (subst (Among (elem_seen e)) (elements_are d f p is) (map_has elem_seen e p.elements h)))

    points_fit : list_all (λ (t : PointPlan). is_pair_name t.name) p.points ≡ true
    points_fit =
        ap (list_all (λ (t : PointPlan). is_pair_name t.name)) (points_are d f p is)
        ∙ all_from (λ (t : PointPlan). is_pair_name t.name) (points d f)
        (λ t h.
        let m = mapped (point_of d f) t (callings d f) h in
        let c = call_is d f kept m.0 m.1 in
        ap (λ (t : PointPlan). is_pair_name t.name) m.2
        ∙ text_fits d f whole (owner_of m.0) m.0.port m.0.item c.here (subst (λ k. m.0.item < item_count k) (sym c.interface) c.below))

    servers_fit : list_all (λ (s : ServerPlan). is_pair_name s.name) p.servers ≡ true
    servers_fit =
        ap (list_all (λ (s : ServerPlan). is_pair_name s.name)) (servers_are d f p is)
        ∙ all_from (λ (s : ServerPlan). is_pair_name s.name) (servers d f)
        (λ v h.
        let m = mapped (server_of d f) v (servers_of d f) h in
        let x = server_site d f m.0 m.1 in
        ap (λ (s : ServerPlan). is_pair_name s.name) m.2 ∙ ap is_pair_name (server_name d f m.0 x) ∙ site_text_fits d f whole m.0 x.item)

    areas_fit : list_all (λ (a : AreaPlan). is_name a.name) p.areas ≡ true
    areas_fit =
        ap (list_all (λ (a : AreaPlan). is_name a.name)) (areas_are d f p is)
        ∙ all_from (λ (a : AreaPlan). is_name a.name) (areas d f)
        (λ a h.
        let x = pieces (λ i (x : Instance). named_areas i (areas_at d x)) f.instances a h in
        let m = mapped (area_of x.0) a (areas_at d x.1) x.3 in
        ap (λ (a : AreaPlan). is_name a.name) m.2 ∙ all_at is_name m.0 (areas_at d x.1) (areas_named x.1).each m.1)

    machines_fit : list_all (λ (n : MachinePlan). is_pair_name n.name && list_all is_name n.modes) p.machines ≡ true
    machines_fit =
        ap (list_all (λ (n : MachinePlan). is_pair_name n.name && list_all is_name n.modes)) (machines_are d f p is)
        ∙ all_from (λ (n : MachinePlan). is_pair_name n.name && list_all is_name n.modes) (machines d f)
        (λ n h.
        let m = mapped (λ (s : Site). machine_at d f s.owner (unwrap_or s.port 0)) n (machines_of d f) h in
        let x = machine_site d f m.0 m.1 in
        ap (λ (n : MachinePlan). is_pair_name n.name && list_all is_name n.modes) m.2
        ∙ and_from _ _ (ap is_pair_name (machine_name d f m.0 x) ∙ site_text_fits d f whole m.0 x.item) (modes_named m.0.owner (unwrap_or m.0.port 0)).each)

    mode_ports_fit : list_all (λ (t : ModePortPlan). is_pair_name t.name) p.mode_ports ≡ true
    mode_ports_fit =
        ap (list_all (λ (t : ModePortPlan). is_pair_name t.name)) (mode_ports_are d f p is)
        ∙ all_from (λ (t : ModePortPlan). is_pair_name t.name) (mode_ports d f)
        (λ t h.
        let m = mapped (λ (s : Site). mode_port_at d f s.owner (unwrap_or s.port 0)) t (mode_ports_of d f) h in
        let x = mode_port_site d f m.0 m.1 in
        ap (λ (t : ModePortPlan). is_pair_name t.name) m.2 ∙ ap is_pair_name (mode_port_name d f m.0 x) ∙ site_text_fits d f whole m.0 x.item)

    events_fit : list_all (λ (v : EventPlan). is_name v.name) p.events ≡ true
    events_fit =
        ap (list_all (λ (v : EventPlan). is_name v.name)) (events_are d f p is)
        ∙ all_from (λ (v : EventPlan). is_name v.name) (events d f)
        (λ v h.
        let c = of_instances_is d f (events_of_component d f) v h in
        let m = mapped (event_of d f c.0) v c.1.component.behavior.events c.2 in
        ap (λ (v : EventPlan). is_name v.name) m.2
        ∙ name_of (λ (e : Event). e.short_name) m.0 c.1.component.behavior.events (of_component d whole c.1.instance.component c.1.component c.1.at_component).event_names m.1)

    runnables_fit : list_all (λ (r : Runnable). is_name r.name) (bus.plan_of p).runnables ≡ true
    runnables_fit =
        ap (list_all (λ (r : Runnable). is_name r.name)) (runnables_are d f p is)
        ∙ all_from (λ (r : Runnable). is_name r.name) (runnables d f)
        (λ r h.
        let c = of_instances_is d f (runnables_of_component d f) r h in
        let m = pieces (λ m x. runnable_of d f c.0 c.1.component m x ∷ []) c.1.component.behavior.runnables r c.2 in
        let named = name_of (λ (r : declared.Runnable). r.short_name) m.1 c.1.component.behavior.runnables (of_component d whole c.1.instance.component c.1.component c.1.at_component).runnable_names (get_among c.1.component.behavior.runnables m.0 m.1 m.2) in
        ⊎_elim (λ e. ap (λ (r : Runnable). is_name r.name) e ∙ named) (λ none. absurd none) m.3)

    pub all_fit : names_fit (bus.plan_of p) ≡ true
    all_fit =
        and_from _ _ (few_names d f flat p is) (and_from _ _ (names_are_fit d f flat p is whole) (and_from _ _ elements_fit (and_from _ _ points_fit (and_from _ _ servers_fit
        (and_from _ _ areas_fit (and_from _ _ machines_fit (and_from _ _ mode_ports_fit (and_from _ _ events_fit runnables_fit))))))))
