-- Who provides: a required operation that is joined is served by an instance, with its arguments; required modes have a machine.
use Rattle.std.proofs.Common.{◌≡◌, ℕ, ◌+◌, List, [], ◌∷◌, map, filter, length, Bool, true, false, cond, Option, Some, None, option_map, option_and_then, refl, sym, ap, subst, ◌∙◌, arith, slice_get}
use Rattle.std.specs.Prelude.{is_some}
use Rattle.bus_semantics.specs.Common.{find, list_all, option_map_or, unwrap_or, and_parts, false≢true, or_parts, same_Some}
use Rattle.plan_definitions.specs.Common.{Component, Port, PortKind, Provided, Required, Description, Interface, InterfaceKind, ClientServer, ModeSwitch, ModeElement, ModeGroup, Operation}
use Rattle.plan_definitions.specs.Common.{End, Flat, Instance, Join, interface_at, ItemsJoin, operation_names, IsSameName, requires_server, same_end, end_at, provider_of, key_of, end_key}
use Rattle.plan_definitions.specs.Common.{is_machine, is_mode_port, keys_of, of_kind, number_in, component_of, kind_at, count_at, shape_at, provides_at, root_ports, site, port_of}
use Rattle.plan_definitions.specs.Common.{interface_of, machine_for, machine_number, machines_of, mode_port_number, mode_ports_of, has_machine, group_in, machine_at, machines, mode_port_at}
use Rattle.plan_definitions.specs.Common.{mode_ports, IsWhole}
use Rattle.description_types.specs.declared.description.PrototypeType.TheVariants as of_type
use Rattle.plan_definitions.specs.Connectors as connectors
use Rattle.plan_definitions.specs.JoinedItems as items
use Rattle.plan_definitions.specs.Joins as sides
use Rattle.plan_definitions.specs.declared.join_rule.JoinRule.TheVariants.{Services}
use Rattle.bus_laws.specs.Common.{BusPlan, MachinePlan, Mapping}
use Rattle.plan_definitions.specs.declared.item.Item.TheVariants.{Modes}
use Rattle.plan_definitions.specs.declared.site.Site.{Site}
use Rattle.plan_definitions.specs.declared.site.SiteKind.TheVariants.{Machine, ModePort}
use Rattle.plan_definitions.specs.WellFormed as formed
use Rattle.plan_definitions.proofs.Firsts.{first_none, or_none}
use Rattle.plan_definitions.proofs.Lists.{is_there}
use Rattle.sound_plans.proofs.Places.{not_some, all_at, map_at, mapped, kept}
use Rattle.sound_plans.proofs.Members.{names_apart}
use Rattle.sound_plans.proofs.Parts.{Home, component_home}
use Rattle.sound_plans.proofs.SiteNumbers.{ports_at_home, site_there, numbered_kind, place_of, kept_apart, kind_apart, number_at}
use Rattle.sound_plans.proofs.Items.{ItemAt, ModesIn, modes_item}
use Rattle.sound_plans.proofs.Serving.{Provides}
use Rattle.sound_plans.proofs.PassingOperations.{ServesAs, FromServer, FromMachine, Served, modes_of_group}
use Rattle.sound_plans.proofs.Joints.{ProvidedBy, provided_by, Joint, joint, no_root_client, services_kept}

-- something is found where something is kept
kept_found : {X : Type 0} (test : X → Bool) (f : X → End) (xs : List X) → sides.is_none (map f (filter test xs)) ≡ false → is_some (option_map f (find test xs)) ≡ true
kept_found test f [] e = absurd (false≢true (sym e))
kept_found test f (x ∷ xs) e = by (λ r. kept_found test f xs r) (test x) e
  where
    by : (sides.is_none (map f (filter test xs)) ≡ false → is_some (option_map f (find test xs)) ≡ true) → (b : Bool) → sides.is_none (map f (cond b (x ∷ filter test xs) (filter test xs))) ≡ false → is_some (option_map f (cond b (Some x) (find test xs))) ≡ true
    by rest true e = refl
    by rest false e = rest e

module _ (d : Description) (f : Flat) (p : BusPlan) (m : Mapping) (w : IsWhole d f p m) where
  pub interface_is : (o : Option ℕ) (k : ℕ) (port : Port) → port_of d f o k ≡ Some port → interface_of d f o k ≡ interface_at d port.interface
  interface_is o k port there = ap (λ x. option_map (λ (i : Interface). i.kind) (option_and_then (λ (q : Port). slice_get d.types.interfaces q.interface) x)) there

  record InterfaceIs (i : ℕ) (kind : InterfaceKind) : Type 0 where
    interface : Interface
    has : slice_get d.types.interfaces i ≡ Some interface
    is : interface.kind ≡ kind

  interface_there : (i : ℕ) (kind : InterfaceKind) → interface_at d i ≡ Some kind → InterfaceIs i kind
  interface_there i kind e = by (slice_get d.types.interfaces i) refl e
    where
      by : (o : Option Interface) → slice_get d.types.interfaces i ≡ o → option_map (λ (x : Interface). x.kind) o ≡ Some kind → InterfaceIs i kind
      by None has e = not_some kind e
      by (Some x) has e = record { interface = x; has = has; is = same_Some x.kind kind e }

  -- ---- operations

  -- the server of a required operation
  pub record OperationBy (q : End) (r : Operation) : Type 0 where
    pub i : ℕ
    pub c : Component
    pub home : Home d f i c
    pub owner : q.instance ≡ Some i
    pub provides : Provides d c q.port q.element
    pub serves : ServesAs d.types provides.operation r

  no_server_outside : (k : ℕ) (port : Port) (all : List Operation) → slice_get (root_ports d) k ≡ Some port → port.kind ≡ Required → (x : InterfaceIs port.interface (ClientServer all)) → ⊥
  no_server_outside k port all there side x =
      let needs : requires_server d.types port ≡ true =
      (λ j. cond (connectors.is_required (side j)) (option_map_or (λ (i : Interface). connectors.is_client_server i.kind) (x.has j) false) false) ∙ ap connectors.is_client_server x.is in
      let none = first_none (λ k (port : Port). cond (requires_server d.types port) (Some k) None) 0 (root_ports d) k port (no_root_client d f p m w) there in
      not_some (0 + k) (sym none ∙ ap (λ b. cond b (Some (0 + k)) None) needs)

  module _ (o : Option ℕ) (k n : ℕ) (ys : List Operation) (r : Operation) (required : interface_of d f o k ≡ Some (ClientServer ys)) (at : slice_get ys n ≡ Some r) (q : End) (by_end : provider_of f.joins (end_at o k n) ≡ Some q) where
    by_join : ProvidedBy f.joins (end_at o k n) q
    by_join = provided_by f.joins (end_at o k n) q by_end

    at_joint : Joint d f p m w by_join.join
    at_joint = joint d f p m w by_join.join by_join.has

    requires_here : interface_at d at_joint.required.port.interface ≡ Some (ClientServer ys)
    requires_here = sym (interface_is by_join.join.required.instance by_join.join.required.port at_joint.required.port at_joint.required.there) ∙ ap (λ (e : End). interface_of d f e.instance e.port) by_join.required ∙ required

    from_server : FromServer d.types (interface_at d at_joint.provided.port.interface) ys
    from_server = at_joint.passes.operations ys requires_here

    names : IsSameName (operation_names from_server.all) (operation_names ys) by_join.join.provided.element by_join.join.required.element
    names = subst (λ x. ItemsJoin x (Some (ClientServer ys)) by_join.join.provided.element by_join.join.required.element) from_server.is
        (subst (λ y. ItemsJoin (interface_at d at_joint.provided.port.interface) y by_join.join.provided.element by_join.join.required.element) requires_here at_joint.items)

    here : InterfaceIs at_joint.provided.port.interface (ClientServer from_server.all)
    here = interface_there at_joint.provided.port.interface (ClientServer from_server.all) from_server.is

    distinct_names : formed.distinct (operation_names from_server.all) ≡ true
    distinct_names =
        let kinds = (and_parts (list_all formed.group_fits d.types.mode_groups) (list_all (λ (i : Interface). formed.kind_fits d.types i.kind) d.types.interfaces) (and_parts (list_all formed.type_fits d.types.data_types) _ w.well_formed.types).1).1 in
        let kept : formed.kind_fits d.types (ClientServer from_server.all) ≡ true = subst (λ k. formed.kind_fits d.types k ≡ true) here.is (all_at (λ (i : Interface). formed.kind_fits d.types i.kind) d.types.interfaces at_joint.provided.port.interface here.interface kinds here.has) in
        (and_parts _ (formed.distinct (operation_names from_server.all)) (and_parts (formed.names_fit (operation_names from_server.all)) (list_all (formed.operation_fits d.types.data_types) from_server.all) kept).0).1

    serving : Served d.types from_server.all r
    serving = from_server.serve n r at

    -- the operation at the provided end serves
    serves_at : slice_get from_server.all by_join.join.provided.element ≡ Some serving.operation
    serves_at =
        let x = map_at (λ (z : Operation). z.short_name) from_server.all by_join.join.provided.element names.0 names.1 in
        let y = map_at (λ (z : Operation). z.short_name) ys by_join.join.required.element names.0 names.2 in
        let number : by_join.join.required.element ≡ n = ap (λ (e : End). e.element) by_join.required in
        let same : y.item ≡ r = same_Some y.item r (sym y.there ∙ ap (slice_get ys) number ∙ at) in
        let name : names.0 ≡ serving.operation.short_name = y.is ∙ ap (λ (z : Operation). z.short_name) same ∙ sym serving.serves.name in
        let place : by_join.join.provided.element ≡ serving.place =
        names_apart (operation_names from_server.all) by_join.join.provided.element serving.place names.0 distinct_names names.1 (mapped (λ (z : Operation). z.short_name) from_server.all serving.place serving.operation serving.there ∙ ap (λ z. Some z) (sym name)) in
        ap (slice_get from_server.all) place ∙ serving.there

    at_home : (i : ℕ) (c : Component) → by_join.join.provided.instance ≡ Some i → Home d f i c → at_joint.provided.port.kind ≡ Provided → OperationBy by_join.join.provided r
    at_home i c owner home side = record {
      i = i;
      c = c;
      home = home;
      owner = owner;
      provides = record {
        port = at_joint.provided.port;
        there = ap (λ ps. slice_get ps by_join.join.provided.port) (sym (ports_at_home d f i c home)) ∙ ap (λ x. port_of d f x by_join.join.provided.port) (sym owner) ∙ at_joint.provided.there;
        kind = side;
        interface = here.interface;
        has = here.has;
        all = from_server.all;
        is = here.is;
        operation = serving.operation;
        at = serves_at;
      };
      serves = serving.serves;
    }

    by_owner : (x : Option ℕ) → by_join.join.provided.instance ≡ x → (side : PortKind) → at_joint.provided.port.kind ≡ side → provides_at x side ≡ true → OperationBy by_join.join.provided r
    by_owner (Some i) owner Provided side e = by_component (component_of d f i) refl
      where
        by_component : (z : Option Component) → component_of d f i ≡ z → OperationBy by_join.join.provided r
        by_component None none = not_some at_joint.provided.port (ap (λ z. slice_get (option_map_or (λ (y : Component). y.ports) z []) by_join.join.provided.port) (sym none) ∙ ap (λ x. port_of d f x by_join.join.provided.port) (sym owner) ∙ at_joint.provided.there)
        by_component (Some c) is = at_home i c owner (component_home d f i c is) side
    by_owner (Some i) owner Required side e = absurd (false≢true e)
    by_owner None owner Provided side e = absurd (false≢true e)
    by_owner None owner Required side e = absurd (no_server_outside by_join.join.provided.port at_joint.provided.port from_server.all (ap (λ x. port_of d f x by_join.join.provided.port) (sym owner) ∙ at_joint.provided.there) side here)

    pub operation_by : OperationBy q r
    operation_by = subst (λ e. OperationBy e r) by_join.provided (by_owner by_join.join.provided.instance refl at_joint.provided.port.kind refl at_joint.provided.side)

  -- ---- modes

  -- the machine of required modes
  pub record MachineBy (o : Option ℕ) (k : ℕ) (y : ModeElement) : Type 0 where
    pub machine : MachinePlan
    pub there : slice_get (machines d f) (machine_for d f o k) ≡ Some machine
    pub modes : Some machine.modes ≡ modes_of_group (slice_get d.types.mode_groups y.of_type)

  machine_shape : (o : Option ℕ) (port : Port) (x : ModeElement) → provides_at o port.kind ≡ true → interface_at d port.interface ≡ Some (ModeSwitch x) → shape_at d.types o port ≡ Some (Machine, 1)
  machine_shape o port x side is =
      let i = interface_there port.interface (ModeSwitch x) is in
      ap (option_map (λ (z : Interface). (kind_at o port.kind z.kind, count_at o port.kind z.kind))) i.has ∙ ap (λ z. Some (kind_at o port.kind z, count_at o port.kind z)) i.is ∙ ap (λ b. Some (cond b Machine ModePort, 1)) side

  pub machine_there : (o : Option ℕ) (k : ℕ) (port : Port) (x : ModeElement) → port_of d f o k ≡ Some port → provides_at o port.kind ≡ true → interface_at d port.interface ≡ Some (ModeSwitch x) → slice_get (machines d f) (machine_number d f (o, Some k, 0)) ≡ Some (machine_at d f o k)
  machine_there o k port x there side is =
      mapped (λ (s : Site). machine_at d f s.owner (unwrap_or s.port 0)) (machines_of d f) (machine_number d f (o, Some k, 0)) (site o (Some k) 0 Machine)
      (numbered_kind d f is_machine (place_of d f (o, Some k, 0)) (site o (Some k) 0 Machine) (site_there d f o k port Machine 1 0 there (machine_shape o port x side is) (omega arith)) refl)

  pub machine_modes : (o : Option ℕ) (k : ℕ) (x : ModeElement) (g : List (List ℕ)) → interface_of d f o k ≡ Some (ModeSwitch x) → modes_of_group (slice_get d.types.mode_groups x.of_type) ≡ Some g → (machine_at d f o k).modes ≡ g
  machine_modes o k x g is group = ap (λ z. option_map_or (λ (y : ModeGroup). y.modes) (option_and_then (group_in d) z) []) is ∙ by (slice_get d.types.mode_groups x.of_type) group
    where
      by : (z : Option ModeGroup) → modes_of_group z ≡ Some g → option_map_or (λ (y : ModeGroup). y.modes) z [] ≡ g
      by None e = not_some g e
      by (Some y) e = same_Some y.modes g e

  module _ (o : Option ℕ) (k : ℕ) (y : ModeElement) (g : ModeGroup) (required : interface_of d f o k ≡ Some (ModeSwitch y)) (group : slice_get d.types.mode_groups y.of_type ≡ Some g) (q : End) (by_end : provider_of f.joins (end_at o k 0) ≡ Some q) where
    mode_join : ProvidedBy f.joins (end_at o k 0) q
    mode_join = provided_by f.joins (end_at o k 0) q by_end

    mode_joint : Joint d f p m w mode_join.join
    mode_joint = joint d f p m w mode_join.join mode_join.has

    requires_modes : interface_at d mode_joint.required.port.interface ≡ Some (ModeSwitch y)
    requires_modes = sym (interface_is mode_join.join.required.instance mode_join.join.required.port mode_joint.required.port mode_joint.required.there) ∙ ap (λ (e : End). interface_of d f e.instance e.port) mode_join.required ∙ required

    from_machine : FromMachine d.types (interface_at d mode_joint.provided.port.interface) y
    from_machine = mode_joint.passes.modes y requires_modes

    first_item : (mode_join.join.provided.element ≡ 0) × (mode_join.join.required.element ≡ 0)
    first_item = subst (λ x. ItemsJoin x (Some (ModeSwitch y)) mode_join.join.provided.element mode_join.join.required.element) from_machine.is
        (subst (λ z. ItemsJoin (interface_at d mode_joint.provided.port.interface) z mode_join.join.provided.element mode_join.join.required.element) requires_modes mode_joint.items)

    pub machine_by : MachineBy o k y
    machine_by =
        let e = mode_join.join.provided in
        let number : machine_for d f o k ≡ machine_number d f (e.instance, Some e.port, 0) =
        ap (λ x. option_map_or (λ (z : End). machine_number d f (end_key z)) x 0) (by_end ∙ ap (λ z. Some z) (sym mode_join.provided)) ∙ ap (λ n. machine_number d f (e.instance, Some e.port, n)) first_item.0 in
        record {
          machine = machine_at d f e.instance e.port;
          there = ap (slice_get (machines d f)) number ∙ machine_there e.instance e.port mode_joint.provided.port from_machine.element mode_joint.provided.there mode_joint.provided.side from_machine.is;
          modes = ap (λ z. Some z) (machine_modes e.instance e.port from_machine.element g.modes (interface_is e.instance e.port mode_joint.provided.port mode_joint.provided.there ∙ from_machine.is) (from_machine.modes ∙ ap modes_of_group group ∙ refl)) ∙ sym (ap modes_of_group group);
        }

  -- ---- required modes of an instance

  module _ (i : ℕ) (c : Component) (home : Home d f i c) (k count : ℕ) (x : ItemAt d.types c.ports k 0 Required (Modes count)) where
    pub required_in : ModesIn d.types x.interface.kind count
    required_in = modes_item d.types x.interface.kind 0 count x.is

    has_provider : is_some (provider_of f.joins (end_at (Some i) k 0)) ≡ true
    has_provider =
        let at_instances = (or_none (items.in_instances Services d f) (items.in_ports Services d f None (connectors.ports_of d (of_type.Composition d.root))) (services_kept d f p m w)).0 in
        let at_instance = first_none (λ n (z : Instance). items.in_ports Services d f (Some n) (connectors.ports_of d (of_type.Component z.component))) 0 f.instances i home.instance at_instances home.there in
        let none : 0 + i ≡ i = omega arith in
        let ports : connectors.ports_of d (of_type.Component home.instance.component) ≡ c.ports = ap (λ o. option_map_or (λ (z : Component). z.ports) o []) home.has in
        let in_ports : items.in_ports Services d f (Some i) c.ports ≡ None = (λ q. items.in_ports Services d f (Some (sym none q)) (sym ports q)) ∙ at_instance in
        let in_port = first_none (λ n (port : Port). cond (items.requires_at (Some i) port.kind) (items.in_port Services d f (Some i) n port) None) 0 c.ports k x.port in_ports x.there in
        let nought : 0 + k ≡ k = omega arith in
        let here : items.first_item Services f.joins (Some i) k (ModeSwitch required_in.element) ≡ None =
        ap (items.first_item Services f.joins (Some i) k) (sym required_in.is)
        ∙ ap (option_and_then (λ (z : Interface). items.first_item Services f.joins (Some i) k z.kind)) (sym x.has)
        ∙ ap (λ s. cond (items.requires_at (Some i) s) (items.in_port Services d f (Some i) k x.port) None) (sym x.kind)
        ∙ ap (λ n. cond (items.requires_at (Some i) x.port.kind) (items.in_port Services d f (Some i) n x.port) None) (sym nought) ∙ in_port in
        kept_found (λ (z : Join). same_end z.required (end_at (Some i) k 0)) (λ (z : Join). z.provided) f.joins
        (by (items.breaks Services f.joins (ModeSwitch required_in.element) (items.end_of (Some i) k 0)) refl here)
      where
        by : (b : Bool) → items.breaks Services f.joins (ModeSwitch required_in.element) (items.end_of (Some i) k 0) ≡ b → option_map (items.end_of (Some i) k) (cond b (Some 0) None) ≡ None → sides.is_none (sides.providers f.joins (items.end_of (Some i) k 0)) ≡ false
        by true is none = absurd (cc none)
        by false is none = (or_parts (sides.are_several (sides.providers f.joins (items.end_of (Some i) k 0))) (sides.is_none (sides.providers f.joins (items.end_of (Some i) k 0))) is).1

    required_interface : interface_of d f (Some i) k ≡ Some (ModeSwitch required_in.element)
    required_interface =
        interface_is (Some i) k x.port (ap (λ ps. slice_get ps k) (ports_at_home d f i c home) ∙ x.there)
        ∙ ap (option_map (λ (z : Interface). z.kind)) x.has ∙ ap (λ z. Some z) required_in.is

    pub required_machine : MachineBy (Some i) k required_in.element
    required_machine = let q = is_there (provider_of f.joins (end_at (Some i) k 0)) has_provider in machine_by (Some i) k required_in.element required_in.group required_interface required_in.there q.0 q.1

    pub required_modes : length required_machine.machine.modes ≡ count
    required_modes = ap length (same_Some required_machine.machine.modes required_in.group.modes (required_machine.modes ∙ ap modes_of_group required_in.there)) ∙ required_in.counted

    mode_port_shape : shape_at d.types (Some i) x.port ≡ Some (ModePort, 1)
    mode_port_shape = ap (option_map (λ (z : Interface). (kind_at (Some i) x.port.kind z.kind, count_at (Some i) x.port.kind z.kind))) x.has ∙ (λ q. Some (kind_at (Some i) (x.kind q) (required_in.is q), count_at (Some i) (x.kind q) (required_in.is q)))

    pub mode_port_there : slice_get (mode_ports d f) (mode_port_number d f i k) ≡ Some (mode_port_at d f (Some i) k)
    mode_port_there =
        let s = site (Some i) (Some k) 0 ModePort in
        let there : port_of d f (Some i) k ≡ Some x.port = ap (λ ps. slice_get ps k) (ports_at_home d f i c home) ∙ x.there in
        let first = numbered_kind d f is_mode_port (place_of d f (Some i, Some k, 0)) s (site_there d f (Some i) k x.port ModePort 1 0 there mode_port_shape (omega arith)) refl in
        let z = kept (has_machine f.joins) (of_kind is_mode_port d f) (number_in (keys_of (of_kind is_mode_port d f)) (key_of s)) s first has_provider in
        mapped (λ (s : Site). mode_port_at d f s.owner (unwrap_or s.port 0)) (mode_ports_of d f) (mode_port_number d f i k) s
        (ap (slice_get (mode_ports_of d f)) (number_at (mode_ports_of d f) (kept_apart (has_machine f.joins) (of_kind is_mode_port d f) (kind_apart d f is_mode_port)) z.0 s z.1) ∙ z.1)
