-- A required mode element of the plan has a machine of the plan: the provided end of its join is the site of one.
use Rattle.std.proofs.Common.{◌≡◌, ℕ, ◌<◌, [], length, slice_get, true, false, ◌&&◌, nat_eq, nat_lt, Option, Some, None, option_map, option_and_then, is_some, refl, sym, ap, subst, ◌∙◌}
use Rattle.std.proofs.Common.{arith, true≢false}
use Rattle.bus_semantics.specs.Common.{and_parts, eqb-true, lt-ltb, length-map, slice_get-map, find, list_all, option_eq, option_map_or, unwrap_or}
use Rattle.plan_definitions.specs.Common.{Interface, InterfaceKind, SenderReceiver, ClientServer, ModeSwitch, ModeElement, Component, Port, PortKind, Provided, Required, Description}
use Rattle.plan_definitions.specs.Common.{PrototypeType, End, Flat, Instance, Join, IsFlatOf, Place, places, instance_at, ItemsJoin, interface_at, Stand, interface_below, stand_in, Among}
use Rattle.plan_definitions.specs.Common.{type_at, end_at, provider_of, same_end, end_key, is_machine, is_mode_port, key_of, keys_of, of_kind, count_at, kind_at, provides_at, site, sites}
use Rattle.plan_definitions.specs.Common.{has_machine, machine_for, machine_number, machines_of, mode_ports_of, machine_at, machines, mode_port_at, mode_ports, plan_of, seen}
use Rattle.description_types.specs.declared.description.PrototypeType.TheVariants as of
use Rattle.description_types.specs.Connectors.{interface_of, kind_of, ports_of}
use Rattle.bus_laws.specs.Common.{BusPlan, ModePortPlan}
use Rattle.plan_definitions.specs.declared.site.Site.{Site}
use Rattle.plan_definitions.specs.Ports as plan
use Rattle.plan_definitions.proofs.Keys.{same_number}
use Rattle.plan_definitions.proofs.Lists.{is_there, all_from}
use Rattle.plan_definitions.proofs.Stands.{of_root}
use Rattle.sound_plans.proofs.Lists.{filter_has, filtered, found, map_has, map_some, mapped}
use Rattle.sound_plans.proofs.Numbers.{key_below}
use Rattle.sound_plans.proofs.Owners.{component_at}
use Rattle.sound_plans.proofs.Placed.{IsProvider, inner, outer, place_type, provider_is, stand_kind}
use Rattle.sound_plans.proofs.Seen.{machines_are, mode_ports_are}
use Rattle.sound_plans.proofs.Sites.{PortAt, instance_has, root_has}
use Rattle.sound_plans.proofs.Things.{mode_port_site}

-- modes are joined with modes
mode_items : (a b : Option InterfaceKind) (y : ModeElement) (i j : ℕ) → b ≡ Some (ModeSwitch y) → ItemsJoin a b i j → (x : ModeElement) × (a ≡ Some (ModeSwitch x)) × (i ≡ 0)
mode_items a None y i j e h = cc
mode_items a (Some (SenderReceiver ys)) y i j e h = cc
mode_items a (Some (ClientServer ys)) y i j e h = cc
mode_items None (Some (ModeSwitch z)) y i j e h = absurd h
mode_items (Some (SenderReceiver xs)) (Some (ModeSwitch z)) y i j e h = absurd h
mode_items (Some (ClientServer xs)) (Some (ModeSwitch z)) y i j e h = absurd h
mode_items (Some (ModeSwitch x)) (Some (ModeSwitch z)) y i j e h = (x, refl, h.0)

machine_kind : (o : Option ℕ) (side : PortKind) (x : ModeElement) → provides_at o side ≡ true → is_machine (kind_at o side (ModeSwitch x)) ≡ true
machine_kind None Provided x h = absurd (true≢false (sym h))
machine_kind None Required x h = refl
machine_kind (Some i) Provided x h = refl
machine_kind (Some i) Required x h = absurd (true≢false (sym h))

module _ (d : Description) (f : Flat) (flat : IsFlatOf d f) where
  -- what a stand of an end is: of this type, and with the ports of its owner
  record StandIs (o : Option ℕ) (k : ℕ) (s : Stand) : Type 0 where
    type : PrototypeType
    typed : type_at d (of.Composition d.root) s.path ≡ Some type
    ports : plan.ports_of d f o ≡ ports_of d type
    port : s.port ≡ k

  stand_is : (o : Option ℕ) (k : ℕ) (s : Stand) → stand_in d o k ≡ Some s → StandIs o k s
  stand_is None k s h =
      let e : record { path = []; port = k } ≡ s = cc in
      record {
        type = of.Composition d.root;
        typed = ap (λ (s : Stand). type_at d (of.Composition d.root) s.path) (sym e);
        ports = refl;
        port = ap (λ (s : Stand). s.port) (sym e);
      }
  stand_is (Some i) k s h =
      let m = map_some (λ (place : Place). record { path = place.path; port = k }) (slice_get (places d) i) s h in
      let place = m.0 in
      let listed : slice_get f.instances i ≡ Some (instance_at d place) =
      ap (λ l. slice_get l i) flat.instances_listed ∙ slice_get-map (instance_at d) (places d) i ∙ ap (option_map (instance_at d)) m.1 in
      record {
        type = of.Component place.component;
        typed = ap (λ (s : Stand). type_at d (of.Composition d.root) s.path) (sym m.2) ∙ place_type d i place m.1;
        ports = ap (λ o. option_map_or (λ (c : Component). c.ports) (option_and_then (λ (x : Instance). slice_get d.components x.component) o) []) listed;
        port = ap (λ (s : Stand). s.port) (sym m.2);
      }

  -- the interface of a port where it stands
  interface_there : (o : Option ℕ) (k : ℕ) (here : PortAt d f o k) (s : Stand) → StandIs o k s → interface_below d s ≡ Some here.interface.kind
  interface_there o k here s is =
      let port : slice_get (ports_of d is.type) s.port ≡ Some here.port = ap (slice_get (ports_of d is.type)) is.port ∙ ap (λ l. slice_get l k) (sym is.ports) ∙ here.at_port in
      ap (option_and_then (λ t. option_and_then (interface_at d) (interface_of d t s.port))) is.typed
      ∙ ap (λ o. option_and_then (interface_at d) (option_map (λ (p : Port). p.interface) o)) port
      ∙ ap (option_map (λ (i : Interface). i.kind)) here.at_interface

  -- a stand at a port of a kind and with an interface is such a port
  record EndAt (o : Option ℕ) (k : ℕ) (side : PortKind) (kind : InterfaceKind) : Type 0 where
    here : PortAt d f o k
    side_is : here.port.kind ≡ side
    kind_is : here.interface.kind ≡ kind

  port_there : (o : Option ℕ) (k : ℕ) (side : PortKind) (kind : InterfaceKind) (s : Stand) → StandIs o k s → stand_kind d s ≡ Some side → interface_below d s ≡ Some kind → EndAt o k side kind
  port_there o k side kind s is sided faced =
      let of_type : kind_of d is.type s.port ≡ Some side = sym (ap (option_and_then (λ t. kind_of d t s.port)) is.typed) ∙ sided in
      let port = map_some (λ (p : Port). p.kind) (slice_get (ports_of d is.type) s.port) side of_type in
      let face : option_and_then (interface_at d) (interface_of d is.type s.port) ≡ Some kind =
      sym (ap (option_and_then (λ t. option_and_then (interface_at d) (interface_of d t s.port))) is.typed) ∙ faced in
      let at_face : interface_at d port.0.interface ≡ Some kind = sym (ap (λ o. option_and_then (interface_at d) (option_map (λ (p : Port). p.interface) o)) port.1) ∙ face in
      let interface = map_some (λ (i : Interface). i.kind) (slice_get d.types.interfaces port.0.interface) kind at_face in
      record {
        here = record { port = port.0; interface = interface.0; at_port = ap (λ l. slice_get l k) is.ports ∙ ap (slice_get (ports_of d is.type)) (sym is.port) ∙ port.1; at_interface = interface.1 };
        side_is = port.2;
        kind_is = interface.2;
      }

  -- ---- the provided end is that of a machine

  record MachineEnd (o : Option ℕ) (k : ℕ) : Type 0 where
    here : PortAt d f o k
    element : ModeElement
    modes : here.interface.kind ≡ ModeSwitch element
    provides : provides_at o here.port.kind ≡ true

  in_root : (o : Option ℕ) (k : ℕ) (s : Stand) → stand_in d o k ≡ Some s → (s.path ≡ [] → ⊥) → is_some o ≡ true
  in_root None k s h inside = let e : record { path = []; port = k } ≡ s = cc in absurd (inside (ap (λ (s : Stand). s.path) (sym e)))
  in_root (Some i) k s h inside = refl

  machine_end : (o : Option ℕ) (k : ℕ) (s : Stand) (x : ModeElement) → stand_in d o k ≡ Some s → IsProvider d s → interface_below d s ≡ Some (ModeSwitch x) → MachineEnd o k
  machine_end o k s x h (inner inside sided) faced =
      let e = port_there o k Provided (ModeSwitch x) s (stand_is o k s h) sided faced in
      record { here = e.here; element = x; modes = e.kind_is; provides = ap (provides_at o) e.side_is ∙ in_root o k s h inside }
  machine_end o k s x h (outer root sided) faced =
      let there : stand_kind d s ≡ Some Required = ap (λ q. option_and_then (λ t. kind_of d t s.port) (type_at d (of.Composition d.root) q)) root ∙ sided in
      let e = port_there o k Required (ModeSwitch x) s (stand_is o k s h) there faced in
      record { here = e.here; element = x; modes = e.kind_is; provides = (λ j. provides_at (of_root d o k s h root j) (e.side_is j)) }

  has_site : (o : Option ℕ) (k n : ℕ) (here : PortAt d f o k) → n < count_at o here.port.kind here.interface.kind → Among (site o (Some k) n (kind_at o here.port.kind here.interface.kind)) (sites d f)
  has_site None k n here below = root_has d f k n here below
  has_site (Some i) k n here below = instance_has d f i k n (component_at d f i k here.port here.at_port) here below

  machine_there : (o : Option ℕ) (k : ℕ) → MachineEnd o k → machine_number d f (o, Some k, 0) < length (machines d f)
  machine_there o k m =
      let it = site o (Some k) 0 (kind_at o m.here.port.kind m.here.interface.kind) in
      let one : count_at o m.here.port.kind m.here.interface.kind ≡ 1 = ap (count_at o m.here.port.kind) m.modes in
      let is_one : is_machine it.kind ≡ true = ap (λ k. is_machine (kind_at o m.here.port.kind k)) m.modes ∙ machine_kind o m.here.port.kind m.element m.provides in
      let among = filter_has (λ (s : Site). is_machine s.kind) it (sites d f) (has_site o k 0 m.here (omega (arith, one))) is_one in
      let below = key_below (keys_of (machines_of d f)) (o, Some k, 0) (map_has key_of it (machines_of d f) among) in
      let keys : length (keys_of (machines_of d f)) ≡ length (machines_of d f) = length-map (machines_of d f) key_of in
      let listed : length (machines d f) ≡ length (machines_of d f) = length-map (machines_of d f) (λ (s : Site). machine_at d f s.owner (unwrap_or s.port 0)) in
      omega (arith, below, keys, listed)

  -- ---- required mode elements

  has_provider : (s : Site) (k : ℕ) → s.port ≡ Some k → s.item ≡ 0 → has_machine f.joins s ≡ true → (e : End) × (provider_of f.joins (end_at s.owner k 0) ≡ Some e)
  has_provider s k port first has =
      is_there (provider_of f.joins (end_at s.owner k 0))
      (sym (λ j. option_map_or (λ e. is_some (provider_of f.joins e)) (option_map (λ port. end_at s.owner port (first j)) (port j)) false) ∙ has)

  provider_below : (o : Option ℕ) (k : ℕ) (here : PortAt d f o k) (y : ModeElement) (e : End) → here.interface.kind ≡ ModeSwitch y → provider_of f.joins (end_at o k 0) ≡ Some e → machine_number d f (end_key e) < length (machines d f)
  provider_below o k here y e modes found_end =
      let j = map_some (λ (j : Join). j.provided) (find (λ (j : Join). same_end j.required (end_at o k 0)) f.joins) e found_end in
      let joined = found (λ (j : Join). same_end j.required (end_at o k 0)) j.0 f.joins j.1 in
      let is = (flat.joined j.0).0 joined.0 in
      let a = and_parts (option_eq nat_eq j.0.required.instance o && nat_eq j.0.required.port k) (nat_eq j.0.required.element 0) joined.1 in
      let b = and_parts (option_eq nat_eq j.0.required.instance o) (nat_eq j.0.required.port k) a.0 in
      let owner = same_number j.0.required.instance o b.0 in
      let port = eqb-true j.0.required.port k b.1 in
      let required : stand_in d o k ≡ Some is.required = (λ i. stand_in d (sym owner i) (sym port i)) ∙ is.is_required in
      let faced : interface_below d is.required ≡ Some (ModeSwitch y) = interface_there o k here is.required (stand_is o k is.required required) ∙ ap (λ k. Some k) modes in
      let provided = mode_items (interface_below d is.provided) (interface_below d is.required) y j.0.provided.element j.0.required.element faced is.items in
      let machine = machine_end j.0.provided.instance j.0.provided.port is.provided provided.0 is.is_provided (provider_is d is.provided is.required is.stands) provided.1 in
      let below = machine_there j.0.provided.instance j.0.provided.port machine in
      let key : (j.0.provided.instance, Some j.0.provided.port, 0) ≡ end_key e = (λ i. (j.0.provided.instance, Some j.0.provided.port, sym provided.2 i)) ∙ ap end_key j.2 in
      subst (λ k. machine_number d f k < length (machines d f)) key below

  pub port_below : (s : Site) → Among s (mode_ports_of d f) → (mode_port_at d f s.owner (unwrap_or s.port 0)).machine < length (machines d f)
  port_below s h =
      let x = mode_port_site d f s h in
      let has = (filtered (has_machine f.joins) s (of_kind is_mode_port d f) h).1 in
      let e = has_provider s x.item.k x.item.is_port x.is.first has in
      let below = provider_below s.owner x.item.k x.item.here x.is.element e.0 x.is.interface e.1 in
      let number : (mode_port_at d f s.owner (unwrap_or s.port 0)).machine ≡ machine_number d f (end_key e.0) =
      ap (λ o. machine_for d f s.owner (unwrap_or o 0)) x.item.is_port ∙ ap (λ o. option_map_or (λ e. machine_number d f (end_key e)) o 0) e.1 in
      omega (arith, below, number)

  pub all_have : (p : BusPlan) → seen p ≡ plan_of d f → list_all (λ (t : ModePortPlan). nat_lt t.machine (length p.machines)) p.mode_ports ≡ true
  all_have p is =
      ap (list_all (λ (t : ModePortPlan). nat_lt t.machine (length p.machines))) (mode_ports_are d f p is)
      ∙ all_from (λ (t : ModePortPlan). nat_lt t.machine (length p.machines)) (mode_ports d f)
      (λ t h.
      let m = mapped (λ (s : Site). mode_port_at d f s.owner (unwrap_or s.port 0)) t (mode_ports_of d f) h in
      let below = port_below m.0 m.1 in
      let count : length p.machines ≡ length (machines d f) = ap length (machines_are d f p is) in
      ap (λ (t : ModePortPlan). nat_lt t.machine (length p.machines)) m.2
      ∙ lt-ltb (mode_port_at d f m.0.owner (unwrap_or m.0.port 0)).machine (length p.machines) (omega (arith, below, count)))
