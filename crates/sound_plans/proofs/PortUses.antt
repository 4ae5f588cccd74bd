-- One port name of an instance, or of the environment, is one port, and so it is used in one way.
use Rattle.std.proofs.Common.{◌≡◌, ℕ, ◌<◌, List, [], ◌∷◌, filter, true, false, cond, not, ◌&&◌, nat_eq, Option, Some, None, option_map, is_none, is_some, ⊎_elim, sym, ap, subst, ◌∙◌, true≢false}
use Rattle.bus_semantics.specs.Common.{and_parts, and_right, eq-eqb, eqb-true, or_left, or_right, list_all, unwrap_or, PortUse, parts, point_rank, port_of, port_uses, ports_agree, used}
use Rattle.bus_semantics.specs.Common.{uses_agree, is_variable, rank, same_numbers}
use Rattle.std.proofs.lemmas.Bool.{cases_Bool}
use Rattle.plan_definitions.specs.Common.{InterfaceKind, SenderReceiver, ClientServer, ModeSwitch, PortKind, Description, Flat, Among, is_element, pair_number, runnables_of, kind_at}
use Rattle.plan_definitions.specs.Common.{provides_at, sites, Elem, elem_seen, element_of, group_of, is_provided, item_name, item_text, elements_of, machines_of, mode_ports_of, servers_of}
use Rattle.plan_definitions.specs.Common.{callings, owner_of, machine_at, machines, mode_port_at, mode_ports, point_of, points, server_of, servers, plan_of, seen, IsRefusal, item_count}
use Rattle.plan_definitions.specs.Common.{IsWellFormed}
use Rattle.bus_laws.specs.Common.{BusPlan, ElemPlan, MachinePlan, ModePortPlan, PointPlan, ServerPlan}
use Rattle.bus_semantics.specs.Plan as bus
use Rattle.plan_definitions.specs.declared.site.Site.{Site}
use Rattle.plan_definitions.proofs.Lists.{same_numbers_is, all_from, cases}
use Rattle.sound_plans.proofs.Calls.{IsCaller, call_is}
use Rattle.sound_plans.proofs.Homes.{home_is}
use Rattle.sound_plans.proofs.ItemNames.{item_named, item_site_name, port_named, text_is}
use Rattle.sound_plans.proofs.Lists.{filtered, map_has, mapped}
use Rattle.sound_plans.proofs.Owners.{port_owns}
use Rattle.sound_plans.proofs.SameNames.{at_owner, same_port, same_rank}
use Rattle.sound_plans.proofs.Seen.{elements_are, points_are, servers_are, machines_are, mode_ports_are}
use Rattle.sound_plans.proofs.SiteKinds.{element_is, item_below}
use Rattle.sound_plans.proofs.Sites.{ItemAt, PortAt, VariableAt, site_is}
use Rattle.sound_plans.proofs.Texts.{pair_parts}
use Rattle.sound_plans.proofs.Things.{machine_name, machine_site, mode_port_name, mode_port_site, server_name, server_owner, server_site}
use Rattle.sound_plans.proofs.Variables.{no_port_is, variable_is, variable_kind}

-- how a port is used: by its owner, its side and its interface
abbrev way_at : Option ℕ → PortKind → InterfaceKind → ℕ
way_at o side (SenderReceiver es) = cond (provides_at o side) 0 1
way_at o side (ClientServer os) = cond (is_some o && provides_at o side) 2 3
way_at o side (ModeSwitch e) = cond (provides_at o side) 4 5

first_part_is : (name port : List ℕ) (more : List (List ℕ)) → parts 46 name ≡ port ∷ more → port_of name ≡ port
first_part_is name port more e = rw e

module _ (d : Description) (f : Flat) (whole : IsWellFormed d) (p : BusPlan) (is : seen p ≡ plan_of d f) where
  record UseAt (u : PortUse) : Type 0 where
    owner : Option ℕ
    k : ℕ
    here : PortAt d f owner k
    home : u.home ≡ rank (bus.plan_of p) owner
    port : u.port ≡ here.port.short_name
    way : u.way ≡ way_at owner here.port.kind here.interface.kind

  text_port : (owner : Option ℕ) (k n : ℕ) (here : PortAt d f owner k) → n < item_count here.interface.kind → port_of (item_text d f owner k n) ≡ here.port.short_name
  text_port owner k n here below =
      first_part_is (item_text d f owner k n) here.port.short_name (item_name here.interface.kind n ∷ [])
      (ap (parts 46) (text_is d f owner k n here) ∙ pair_parts here.port.short_name (item_name here.interface.kind n) (port_named d f whole owner k here) (item_named d f whole owner k n here below))

  pub item_port : (s : Site) (item : ItemAt d f s) → port_of (item_text d f s.owner item.k s.item) ≡ item.here.port.short_name
  item_port s item = text_port s.owner item.k s.item item.here (item_below s.owner item.here.port.kind item.here.interface.kind s.item item.below)

  -- ---- data elements

  data_use : (e : ElemPlan) (s : Site) (group : ℕ) (item : ItemAt d f s) → elem_seen e ≡ element_of d f group s → is_element s.kind ≡ true → UseAt (used (rank (bus.plan_of p) e.instance) e.name (cond e.provided 0 1))
  data_use e s group item same kept =
      let data_element = element_is s.owner item.here.port.kind item.here.interface.kind (ap is_element (sym item.is_kind) ∙ kept) in
      let provided : e.provided ≡ provides_at s.owner item.here.port.kind =
      ap (λ (x : Elem). x.provided) same ∙ ap is_provided (item.is_kind ∙ ap (kind_at s.owner item.here.port.kind) data_element.1) in
      record {
        owner = s.owner;
        k = item.k;
        here = item.here;
        home = ap (λ (x : Elem). rank (bus.plan_of p) x.instance) same;
        port = ap (λ (x : Elem). port_of x.name) same ∙ ap port_of (item_site_name d f s item) ∙ item_port s item;
        way = ap (λ b. cond b 0 1) provided ∙ ap (way_at s.owner item.here.port.kind) (sym data_element.1);
      }

  no_variable : (e : ElemPlan) (s : Site) (group : ℕ) → VariableAt d f s → elem_seen e ≡ element_of d f group s → not (is_variable e) ≡ true → ⊥
  no_variable e s group v same kept =
      let none : is_variable e ≡ true = variable_is e ∙ ap (λ (x : Elem). variable_kind x.kind) same ∙ no_port_is d f s ∙ ap is_none v.no_port in
      true≢false (sym kept ∙ ap not none)

  element_use : (e : ElemPlan) → Among e p.elements → not (is_variable e) ≡ true → UseAt (used (rank (bus.plan_of p) e.instance) e.name (cond e.provided 0 1))
  element_use e h kept =
      let m = mapped (λ s. element_of d f (group_of d f s) s) (elem_seen e) (elements_of d f) (subst (Among (elem_seen e)) (elements_are d f p is) (map_has elem_seen e p.elements h)) in
      let site = filtered (λ (s : Site). is_element s.kind) m.0 (sites d f) m.1 in
      ⊎_elim
      (λ (item : ItemAt d f m.0). data_use e m.0 (group_of d f m.0) item m.2 site.1)
      (λ (v : VariableAt d f m.0). absurd (no_variable e m.0 (group_of d f m.0) v m.2 kept))
      (site_is d f m.0 site.0)

  -- ---- services

  server_use : (v : ServerPlan) → Among v (servers d f) → UseAt (used v.instance v.name 2)
  server_use v h =
      let m = mapped (server_of d f) v (servers_of d f) h in
      let s = m.0 in
      let x = server_site d f s m.1 in
      record {
        owner = s.owner;
        k = x.item.k;
        here = x.item.here;
        home = ap (λ (v : ServerPlan). rank (bus.plan_of p) (Some v.instance)) m.2 ∙ ap (rank (bus.plan_of p)) (server_owner d f s x);
        port = ap (λ (v : ServerPlan). port_of v.name) m.2 ∙ ap port_of (server_name d f s x) ∙ item_port s x.item;
        way = sym (λ j. way_at (x.is.owner j) (x.is.provides j) (x.is.interface j));
      }

  point_home : (o : Option (ℕ × ℕ)) (t : PointPlan) → IsCaller d f o → t.runnable ≡ option_map (pair_number (runnables_of d f)) o → point_rank (bus.plan_of p) t ≡ rank (bus.plan_of p) (option_map (λ (x : ℕ × ℕ). x.0) o)
  point_home None t caller same = ap (λ r. point_rank (bus.plan_of p) (record t { runnable = r })) same
  point_home (Some x) t caller same = ap (λ r. point_rank (bus.plan_of p) (record t { runnable = r })) same ∙ ap (rank (bus.plan_of p)) (home_is d f whole p is x.0 x.1 caller.0 caller.1)

  point_use : (kept : IsRefusal d f None) (t : PointPlan) → Among t (points d f) → UseAt (used (point_rank (bus.plan_of p) t) t.name 3)
  point_use kept t h =
      let m = mapped (point_of d f) t (callings d f) h in
      let c = m.0 in
      let x = call_is d f kept c m.1 in
      let is_client : is_some (owner_of c) && provides_at (owner_of c) x.here.port.kind ≡ false = and_right (is_some (owner_of c)) (provides_at (owner_of c) x.here.port.kind) x.requires in
      record {
        owner = owner_of c;
        k = c.port;
        here = x.here;
        home = point_home c.caller t x.caller (ap (λ (t : PointPlan). t.runnable) m.2);
        port = ap (λ (t : PointPlan). port_of t.name) m.2 ∙ text_port (owner_of c) c.port c.item x.here (subst (λ k. c.item < item_count k) (sym x.interface) x.below);
        way = sym (ap (way_at (owner_of c) x.here.port.kind) x.interface ∙ ap (λ b. cond b 2 3) is_client);
      }

  -- ---- modes

  machine_use : (n : MachinePlan) → Among n (machines d f) → UseAt (used (rank (bus.plan_of p) n.instance) n.name 4)
  machine_use n h =
      let m = mapped (λ (s : Site). machine_at d f s.owner (unwrap_or s.port 0)) n (machines_of d f) h in
      let s = m.0 in
      let x = machine_site d f s m.1 in
      record {
        owner = s.owner;
        k = x.item.k;
        here = x.item.here;
        home = ap (λ (n : MachinePlan). rank (bus.plan_of p) n.instance) m.2;
        port = ap (λ (n : MachinePlan). port_of n.name) m.2 ∙ ap port_of (machine_name d f s x) ∙ item_port s x.item;
        way = sym (ap (way_at s.owner x.item.here.port.kind) x.is.interface ∙ ap (λ b. cond b 4 5) x.is.side_is);
      }

  mode_port_use : (t : ModePortPlan) → Among t (mode_ports d f) → UseAt (used (rank (bus.plan_of p) t.instance) t.name 5)
  mode_port_use t h =
      let m = mapped (λ (s : Site). mode_port_at d f s.owner (unwrap_or s.port 0)) t (mode_ports_of d f) h in
      let s = m.0 in
      let x = mode_port_site d f s m.1 in
      record {
        owner = s.owner;
        k = x.item.k;
        here = x.item.here;
        home = ap (λ (t : ModePortPlan). rank (bus.plan_of p) t.instance) m.2;
        port = ap (λ (t : ModePortPlan). port_of t.name) m.2 ∙ ap port_of (mode_port_name d f s x) ∙ item_port s x.item;
        way = sym (ap (way_at s.owner x.item.here.port.kind) x.is.interface ∙ ap (λ b. cond b 4 5) x.is.side_is);
      }

  -- ---- all of them

  use_is : (kept : IsRefusal d f None) (u : PortUse) → Among u (port_uses (bus.plan_of p)) → UseAt u
  use_is kept u h =
      ⊎_elim
      (λ more.
      ⊎_elim
      (λ more.
      ⊎_elim
      (λ more.
      ⊎_elim
      (λ in_elements.
      let m = mapped (λ (e : ElemPlan). used (rank (bus.plan_of p) e.instance) e.name (cond e.provided 0 1)) u (filter (λ (e : ElemPlan). not (is_variable e)) p.elements) in_elements in
      let e = filtered (λ (e : ElemPlan). not (is_variable e)) m.0 p.elements m.1 in
      subst UseAt (sym m.2) (element_use m.0 e.0 e.1))
      (λ in_servers.
      let m = mapped (λ (s : ServerPlan). used s.instance s.name 2) u p.servers in_servers in
      subst UseAt (sym m.2) (server_use m.0 (subst (Among m.0) (servers_are d f p is) m.1)))
      (cases u _ _ more))
      (λ in_points.
      let m = mapped (λ (t : PointPlan). used (point_rank (bus.plan_of p) t) t.name 3) u p.points in_points in
      subst UseAt (sym m.2) (point_use kept m.0 (subst (Among m.0) (points_are d f p is) m.1)))
      (cases u _ _ more))
      (λ in_machines.
      let m = mapped (λ (n : MachinePlan). used (rank (bus.plan_of p) n.instance) n.name 4) u p.machines in_machines in
      subst UseAt (sym m.2) (machine_use m.0 (subst (Among m.0) (machines_are d f p is) m.1)))
      (cases u _ _ more))
      (λ in_mode_ports.
      let m = mapped (λ (t : ModePortPlan). used (rank (bus.plan_of p) t.instance) t.name 5) u p.mode_ports in_mode_ports in
      subst UseAt (sym m.2) (mode_port_use m.0 (subst (Among m.0) (mode_ports_are d f p is) m.1)))
      (cases u _ _ h)

  one_way : (a b : PortUse) → UseAt a → UseAt b → a.home ≡ b.home → a.port ≡ b.port → a.way ≡ b.way
  one_way a b x y homes ports =
      let owners : x.owner ≡ y.owner =
      same_rank d f whole p is x.owner y.owner (port_owns d f x.owner x.k x.here) (port_owns d f y.owner y.k y.here) (sym x.home ∙ homes ∙ y.home) in
      let same = same_port d f whole x.owner x.k y.k x.here (at_owner d f whole x.owner y.owner y.k owners y.here) (sym x.port ∙ ports ∙ y.port) in
      x.way ∙ (λ j. way_at (owners j) (same.1 j).kind (same.2 j).kind) ∙ sym y.way

  agree : (a b : PortUse) → UseAt a → UseAt b → uses_agree a b ≡ true
  agree a b x y = ⊎_elim
      (λ same.
      let s = and_parts (nat_eq a.home b.home) (same_numbers a.port b.port) same in
      or_right (not (nat_eq a.home b.home && same_numbers a.port b.port)) (nat_eq a.way b.way) (eq-eqb a.way b.way (one_way a b x y (eqb-true a.home b.home s.0) (same_numbers_is a.port b.port s.1))))
      (λ other. or_left (not (nat_eq a.home b.home && same_numbers a.port b.port)) (nat_eq a.way b.way) (ap not other))
      (cases_Bool (nat_eq a.home b.home && same_numbers a.port b.port))

  pub all_agree : IsRefusal d f None → ports_agree (bus.plan_of p) ≡ true
  all_agree kept =
      all_from (λ a. list_all (uses_agree a) (port_uses (bus.plan_of p))) (port_uses (bus.plan_of p))
      (λ a in_a. all_from (uses_agree a) (port_uses (bus.plan_of p)) (λ b in_b. agree a b (use_is kept a in_a) (use_is kept b in_b)))
