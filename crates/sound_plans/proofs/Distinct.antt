-- Within an instance, and of one kind, no two things have one name.
use Rattle.std.proofs.Common.{◌≡◌, ℕ, ◌+◌, List, [], ◌∷◌, map, slice_get, true, Option, Some, None, refl, sym, ap, subst, ◌∙◌}
use mathlib.Core.List.{map-map}
use Rattle.bus_semantics.specs.Common.{list_all, option_map_or, unwrap_or, Runnable, instance_of, Named, named_once, rank}
use Rattle.plan_definitions.specs.Common.{Component, Event, Description, Flat, Instance, IsFlatOf, Among, AllApart, is_element, is_machine, is_mode_port, is_server, key_of, of_kind, from}
use Rattle.plan_definitions.specs.Common.{sites, Elem, elem_seen, element_of, group_of, site_name, elements_of, has_machine, machines_of, mode_ports_of, servers_of, event_of}
use Rattle.plan_definitions.specs.Common.{events_of_component, runnable_of, runnables_of_component, machine_at, machines, mode_port_at, server_of, area_of, areas_at, named_areas, plan_of}
use Rattle.plan_definitions.specs.Common.{seen, IsWellFormed}
use Rattle.description_types.specs.declared.component.Runnable as declared
use Rattle.bus_laws.specs.Common.{AreaPlan, BusPlan, ElemPlan, EventPlan, MachinePlan, ModePortPlan, ServerPlan}
use Rattle.bus_semantics.specs.Plan as bus
use Rattle.plan_definitions.specs.declared.site.Site.{Site}
use Rattle.plan_definitions.proofs.Lists.{map_from, all_from}
use Rattle.sound_plans.proofs.Apart.{all_apart, apart_filter, apart_finer, apart_map, distinct_apart, once}
use Rattle.sound_plans.proofs.Homes.{event_home}
use Rattle.sound_plans.proofs.Keeping.{of_component}
use Rattle.sound_plans.proofs.Lists.{filtered, mapped}
use Rattle.sound_plans.proofs.NamesFit.{areas_named, modes_named}
use Rattle.sound_plans.proofs.Numbers.{in_component}
use Rattle.sound_plans.proofs.Owners.{site_owns}
use Rattle.sound_plans.proofs.Paths.{names_apart}
use Rattle.sound_plans.proofs.SameNames.{same_rank, same_site, same_text}
use Rattle.sound_plans.proofs.Seen.{elements_are, servers_are, areas_are, machines_are, mode_ports_are, events_are, runnables_are}
use Rattle.sound_plans.proofs.Sites.{site_is}
use Rattle.plan_definitions.proofs.Apart.{items_apart}
use Rattle.plan_definitions.proofs.Sites.{sites_apart}
use Rattle.sound_plans.proofs.Things.{machine_name, machine_site, mode_port_name, mode_port_site, server_name, server_owner, server_site}

abbrev plan_named : Runnable → Named
plan_named r = (r.instance, r.name)

abbrev declared_named : ℕ → declared.Runnable → Named
declared_named i r = (i, r.short_name)

module _ (d : Description) (f : Flat) (whole : IsWellFormed d) (p : BusPlan) (is : seen p ≡ plan_of d f) where
  pub names_once : IsFlatOf d f → named_once (map (λ t. (0, t)) p.names) ≡ true
  names_once flat = once (map (λ t. (0, t)) p.names) (apart_map (λ t. (0, t)) p.names (λ a b in_a in_b same. ap (λ (n : Named). n.1) same) (names_apart d f flat p is whole))

  -- ---- by sites

  pub elements_once : named_once (map (λ (e : ElemPlan). (rank (bus.plan_of p) e.instance, e.name)) p.elements) ≡ true
  elements_once =
      let by_seen : Elem → Named = (λ e. (rank (bus.plan_of p) e.instance, e.name)) in
      let by_site : Site → Named = (λ s. (rank (bus.plan_of p) s.owner, site_name d f s)) in
      ap named_once (
      sym (map-map by_seen elem_seen p.elements)
      ∙ ap (map by_seen) (elements_are d f p is)
      ∙ map-map by_seen (λ s. element_of d f (group_of d f s) s) (elements_of d f))
      ∙ once (map by_site (elements_of d f))
      (apart_map by_site (elements_of d f)
      (λ s t in_s in_t same.
      let at_s = filtered (λ (s : Site). is_element s.kind) s (sites d f) in_s in
      let at_t = filtered (λ (s : Site). is_element s.kind) t (sites d f) in_t in
      same_site d f whole s t (site_is d f s at_s.0) (site_is d f t at_t.0)
      (same_rank d f whole p is s.owner t.owner (site_owns d f s at_s.0) (site_owns d f t at_t.0) (ap (λ (n : Named). n.0) same))
      (ap (λ (n : Named). n.1) same))
      (apart_filter (λ (s : Site). is_element s.kind) (sites d f) (items_apart key_of (sites d f) (sites_apart d f))))

  pub servers_once : named_once (map (λ (s : ServerPlan). (s.instance, s.name)) p.servers) ≡ true
  servers_once =
      let by_site : Site → Named = (λ s. ((server_of d f s).instance, (server_of d f s).name)) in
      ap named_once (
      ap (map (λ (s : ServerPlan). (s.instance, s.name))) (servers_are d f p is)
      ∙ map-map (λ (s : ServerPlan). (s.instance, s.name)) (server_of d f) (servers_of d f))
      ∙ once (map by_site (servers_of d f))
      (apart_map by_site (servers_of d f)
      (λ s t in_s in_t same.
      let x = server_site d f s in_s in
      let y = server_site d f t in_t in
      same_text d f whole s t x.item y.item
      (sym (server_owner d f s x) ∙ ap (λ (n : Named). Some n.0) same ∙ server_owner d f t y)
      (sym (server_name d f s x) ∙ ap (λ (n : Named). n.1) same ∙ server_name d f t y))
      (apart_filter (λ (s : Site). is_server s.kind) (sites d f) (items_apart key_of (sites d f) (sites_apart d f))))

  pub machines_once : named_once (map (λ (n : MachinePlan). (rank (bus.plan_of p) n.instance, n.name)) p.machines) ≡ true
  machines_once =
      let plan_at : Site → MachinePlan = (λ s. machine_at d f s.owner (unwrap_or s.port 0)) in
      let by_site : Site → Named = (λ s. (rank (bus.plan_of p) s.owner, (machine_at d f s.owner (unwrap_or s.port 0)).name)) in
      ap named_once (
      ap (map (λ (n : MachinePlan). (rank (bus.plan_of p) n.instance, n.name))) (machines_are d f p is)
      ∙ map-map (λ (n : MachinePlan). (rank (bus.plan_of p) n.instance, n.name)) plan_at (machines_of d f))
      ∙ once (map by_site (machines_of d f))
      (apart_map by_site (machines_of d f)
      (λ s t in_s in_t same.
      let x = machine_site d f s in_s in
      let y = machine_site d f t in_t in
      let own_s = site_owns d f s (filtered (λ (s : Site). is_machine s.kind) s (sites d f) in_s).0 in
      let own_t = site_owns d f t (filtered (λ (s : Site). is_machine s.kind) t (sites d f) in_t).0 in
      same_text d f whole s t x.item y.item
      (same_rank d f whole p is s.owner t.owner own_s own_t (ap (λ (n : Named). n.0) same))
      (sym (machine_name d f s x) ∙ ap (λ (n : Named). n.1) same ∙ machine_name d f t y))
      (apart_filter (λ (s : Site). is_machine s.kind) (sites d f) (items_apart key_of (sites d f) (sites_apart d f))))

  pub mode_ports_once : named_once (map (λ (t : ModePortPlan). (rank (bus.plan_of p) t.instance, t.name)) p.mode_ports) ≡ true
  mode_ports_once =
      let plan_at : Site → ModePortPlan = (λ s. mode_port_at d f s.owner (unwrap_or s.port 0)) in
      let by_site : Site → Named = (λ s. (rank (bus.plan_of p) s.owner, (mode_port_at d f s.owner (unwrap_or s.port 0)).name)) in
      ap named_once (
      ap (map (λ (t : ModePortPlan). (rank (bus.plan_of p) t.instance, t.name))) (mode_ports_are d f p is)
      ∙ map-map (λ (t : ModePortPlan). (rank (bus.plan_of p) t.instance, t.name)) plan_at (mode_ports_of d f))
      ∙ once (map by_site (mode_ports_of d f))
      (apart_map by_site (mode_ports_of d f)
      (λ s t in_s in_t same.
      let x = mode_port_site d f s in_s in
      let y = mode_port_site d f t in_t in
      let at_s = (filtered (λ (s : Site). is_mode_port s.kind) s (sites d f) (filtered (has_machine f.joins) s (of_kind is_mode_port d f) in_s).0).0 in
      let at_t = (filtered (λ (s : Site). is_mode_port s.kind) t (sites d f) (filtered (has_machine f.joins) t (of_kind is_mode_port d f) in_t).0).0 in
      same_text d f whole s t x.item y.item
      (same_rank d f whole p is s.owner t.owner (site_owns d f s at_s) (site_owns d f t at_t) (ap (λ (n : Named). n.0) same))
      (sym (mode_port_name d f s x) ∙ ap (λ (n : Named). n.1) same ∙ mode_port_name d f t y))
      (apart_filter (has_machine f.joins) (of_kind is_mode_port d f) (apart_filter (λ (s : Site). is_mode_port s.kind) (sites d f) (items_apart key_of (sites d f) (sites_apart d f)))))

  pub modes_once : list_all (λ (n : MachinePlan). named_once (map (λ t. (0, t)) n.modes)) p.machines ≡ true
  modes_once =
      ap (list_all (λ (n : MachinePlan). named_once (map (λ t. (0, t)) n.modes))) (machines_are d f p is)
      ∙ all_from (λ (n : MachinePlan). named_once (map (λ t. (0, t)) n.modes)) (machines d f)
      (λ n h.
      let m = mapped (λ (s : Site). machine_at d f s.owner (unwrap_or s.port 0)) n (machines_of d f) h in
      let modes = (machine_at d f m.0.owner (unwrap_or m.0.port 0)).modes in
      ap (λ (n : MachinePlan). named_once (map (λ t. (0, t)) n.modes)) m.2
      ∙ once (map (λ t. (0, t)) modes) (apart_map (λ t. (0, t)) modes (λ a b in_a in_b same. ap (λ (n : Named). n.1) same)
      (distinct_apart modes (modes_named d f whole m.0.owner (unwrap_or m.0.port 0)).once)))

  -- ---- by instances

  pub areas_once : named_once (map (λ (a : AreaPlan). (a.instance, a.name)) p.areas) ≡ true
  areas_once =
      let by_plan : AreaPlan → Named = (λ a. (a.instance, a.name)) in
      ap named_once (
      ap (map by_plan) (areas_are d f p is)
      ∙ map_from by_plan (λ i (x : Instance). named_areas i (areas_at d x)) 0 f.instances)
      ∙ once (from 0 (λ i (x : Instance). map by_plan (named_areas i (areas_at d x))) f.instances)
      (all_apart (λ (n : Named). n.0) (λ i (x : Instance). map by_plan (named_areas i (areas_at d x))) f.instances
      (λ i x n at h.
      let a = mapped by_plan n (named_areas i (areas_at d x)) h in
      let m = mapped (area_of i) a.0 (areas_at d x) a.1 in
      ap (λ (n : Named). n.0) a.2 ∙ ap (λ (a : AreaPlan). a.instance) m.2)
      (λ i x at.
      subst AllApart (sym (map-map by_plan (area_of i) (areas_at d x)))
      (apart_map (λ t. by_plan (area_of i t)) (areas_at d x) (λ a b in_a in_b same. ap (λ (n : Named). n.1) same) (distinct_apart (areas_at d x) (areas_named d f whole x).once))))

  events_apart : (i : ℕ) (x : Instance) (o : Option Component) (name : EventPlan → Named) → ((v : EventPlan) → (name v).1 ≡ v.name) → slice_get d.components x.component ≡ o → AllApart (map name (option_map_or (events_of_component d f i) o []))
  events_apart i x None name names at = tt
  events_apart i x (Some c) name names at =
      subst AllApart (sym (map-map name (event_of d f i) c.behavior.events))
      (apart_finer (λ (e : Event). e.short_name) (λ e. name (event_of d f i e)) c.behavior.events
      (λ a b same. sym (names (event_of d f i a)) ∙ ap (λ (n : Named). n.1) same ∙ names (event_of d f i b))
      (distinct_apart (map (λ (e : Event). e.short_name) c.behavior.events) (of_component d whole x.component c at).event_names.once))

  pub events_once : named_once (map (λ (v : EventPlan). (rank (bus.plan_of p) (instance_of (bus.plan_of p) v.runnable), v.name)) p.events) ≡ true
  events_once =
      let by_plan : EventPlan → Named = (λ v. (rank (bus.plan_of p) (instance_of (bus.plan_of p) v.runnable), v.name)) in
      ap named_once (
      ap (map by_plan) (events_are d f p is)
      ∙ map_from by_plan (λ i (x : Instance). option_map_or (events_of_component d f i) (slice_get d.components x.component) []) 0 f.instances)
      ∙ once (from 0 (λ i (x : Instance). map by_plan (option_map_or (events_of_component d f i) (slice_get d.components x.component) [])) f.instances)
      (all_apart (λ (n : Named). n.0) (λ i (x : Instance). map by_plan (option_map_or (events_of_component d f i) (slice_get d.components x.component) [])) f.instances
      (λ i x n at h.
      let v = mapped by_plan n (option_map_or (events_of_component d f i) (slice_get d.components x.component) []) h in
      let c = in_component d f (events_of_component d f) i x v.0 (slice_get d.components x.component) at refl v.1 in
      ap (λ (n : Named). n.0) v.2 ∙ ap (rank (bus.plan_of p)) (event_home d f whole p is i c.0 v.0 c.1))
      (λ i x at. events_apart i x (slice_get d.components x.component) by_plan (λ v. refl) refl))

  runnables_named : (i : ℕ) (c : Component) (n : ℕ) (rs : List declared.Runnable) → map plan_named (from n (λ m r. runnable_of d f i c m r ∷ []) rs) ≡ map (declared_named i) rs
  runnables_named i c n [] = refl
  runnables_named i c n (r ∷ rs) = ap (λ l. (i, r.short_name) ∷ l) (runnables_named i c (n + 1) rs)

  runnables_apart : (i : ℕ) (x : Instance) (o : Option Component) → slice_get d.components x.component ≡ o → AllApart (map plan_named (option_map_or (runnables_of_component d f i) o []))
  runnables_apart i x None at = tt
  runnables_apart i x (Some c) at =
      subst AllApart (sym (runnables_named i c 0 c.behavior.runnables))
      (apart_finer (λ (r : declared.Runnable). r.short_name) (declared_named i) c.behavior.runnables (λ a b same. ap (λ (n : Named). n.1) same)
      (distinct_apart (map (λ (r : declared.Runnable). r.short_name) c.behavior.runnables) (of_component d whole x.component c at).runnable_names.once))

  runnables_home : (i : ℕ) (o : Option Component) (n : Named) → Among n (map plan_named (option_map_or (runnables_of_component d f i) o [])) → n.0 ≡ i
  runnables_home i None n h = absurd h
  runnables_home i (Some c) n h =
      let m = mapped (declared_named i) n c.behavior.runnables (subst (Among n) (runnables_named i c 0 c.behavior.runnables) h) in
      ap (λ (n : Named). n.0) m.2

  pub runnables_once : named_once (map (λ (r : Runnable). (r.instance, r.name)) (bus.plan_of p).runnables) ≡ true
  runnables_once =
      let by_plan : Runnable → Named = plan_named in
      ap named_once (
      ap (map by_plan) (runnables_are d f p is)
      ∙ map_from by_plan (λ i (x : Instance). option_map_or (runnables_of_component d f i) (slice_get d.components x.component) []) 0 f.instances)
      ∙ once (from 0 (λ i (x : Instance). map by_plan (option_map_or (runnables_of_component d f i) (slice_get d.components x.component) [])) f.instances)
      (all_apart (λ (n : Named). n.0) (λ i (x : Instance). map by_plan (option_map_or (runnables_of_component d f i) (slice_get d.components x.component) [])) f.instances
      (λ i x n at h. runnables_home i (slice_get d.components x.component) n h)
      (λ i x at. runnables_apart i x (slice_get d.components x.component) refl))
