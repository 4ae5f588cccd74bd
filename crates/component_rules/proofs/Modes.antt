-- How many modes a port has.
use Rattle.std.proofs.Common.{◌≡◌, ◌≤◌, ℕ, zero, suc, List, [], ◌∷◌, length, true, nat_le, ◌&&◌, Option, Some, None, option_and_then, option_map, slice_get, arith}
use Rattle.bus_semantics.specs.Common.{and_parts, leb-true, list_all, option_map_or, AccessKind}
use Rattle.runnable_lang.specs.declared.program.AccessKind.TheVariants as kind
use Rattle.plan_definitions.specs.Common.{DataElement, Interface, InterfaceKind, SenderReceiver, ClientServer, ModeSwitch, ModeGroup, Operation, TypeTable, Access, Component, Port, PortKind}
use Rattle.plan_definitions.specs.Common.{item_at, item_of, item_of_port, mode_count, modes_of, group_fits, kind_fits, type_fits, types_fit}
use Rattle.plan_definitions.specs.declared.item.Item.{Item}
use Rattle.plan_definitions.specs.declared.item.Item.TheVariants as thing

few_of_group : (gs : List ModeGroup) (n : ℕ) → list_all group_fits gs ≡ true → option_map_or mode_count (option_map (λ (g : ModeGroup). thing.Modes (length g.modes)) (slice_get gs n)) 0 ≤ 32
few_of_group [] n fit = omega arith
few_of_group (g ∷ gs) zero fit =
    let here = (and_parts (group_fits g) (list_all group_fits gs) fit).0 in
    let bounds = (and_parts (nat_le 1 (length g.modes) && nat_le (length g.modes) 32) _ here).0 in
    leb-true (length g.modes) 32 (and_parts (nat_le 1 (length g.modes)) (nat_le (length g.modes) 32) bounds).1
few_of_group (g ∷ gs) (suc n) fit = few_of_group gs n (and_parts (group_fits g) (list_all group_fits gs) fit).1

module _ (types : TypeTable) (fit : types_fit types ≡ true) where
  groups_fit : list_all group_fits types.mode_groups ≡ true
  groups_fit = (and_parts (list_all group_fits types.mode_groups) (list_all (λ (i : Interface). kind_fits types i.kind) types.interfaces) (and_parts (list_all type_fits types.data_types) _ fit).1).0

  few_of : (k : InterfaceKind) (n : ℕ) → option_map_or mode_count (item_of types k n) 0 ≤ 32
  few_of (SenderReceiver elements) n = by (slice_get elements n)
    where
      by : (o : Option DataElement) → option_map_or mode_count (option_map (λ (e : DataElement). thing.Data e.sw_impl_policy) o) 0 ≤ 32
      by None = omega arith
      by (Some e) = omega arith
  few_of (ClientServer operations) n = by (slice_get operations n)
    where
      by : (o : Option Operation) → option_map_or mode_count (option_map (λ (o : Operation). thing.Operation) o) 0 ≤ 32
      by None = omega arith
      by (Some o) = omega arith
  few_of (ModeSwitch element) n = few_of_group types.mode_groups element.of_type groups_fit

  few_of_port : (port : Port) (n : ℕ) → option_map_or mode_count (item_of_port types port n) 0 ≤ 32
  few_of_port port n = by (slice_get types.interfaces port.interface)
    where
      by : (o : Option Interface) → option_map_or mode_count (option_and_then (λ (i : Interface). item_of types i.kind n) o) 0 ≤ 32
      by None = omega arith
      by (Some i) = few_of i.kind n

  few_at : (ports : List Port) (k n : ℕ) → option_map_or (λ (x : PortKind × Item). mode_count x.1) (item_at types ports k n) 0 ≤ 32
  few_at ports k n = by (slice_get ports k)
    where
      paired : (s : PortKind) (o : Option Item) → option_map_or mode_count o 0 ≤ 32 → option_map_or (λ (x : PortKind × Item). mode_count x.1) (option_map (λ x. (s, x)) o) 0 ≤ 32
      paired s None few = few
      paired s (Some x) few = few

      by : (o : Option Port) → option_map_or (λ (x : PortKind × Item). mode_count x.1) (option_and_then (λ (p : Port). option_map (λ x. (p.kind, x)) (item_of_port types p n)) o) 0 ≤ 32
      by None = omega arith
      by (Some p) = paired p.kind (item_of_port types p n) (few_of_port p n)

  few_by_kind : (c : Component) (port item : ℕ) (k : AccessKind) → modes_of types c (record { kind = k; port = port; item = item }) ≤ 32
  few_by_kind c port item kind.Write = omega arith
  few_by_kind c port item kind.Read = omega arith
  few_by_kind c port item kind.Invalidate = omega arith
  few_by_kind c port item kind.IsUpdated = omega arith
  few_by_kind c port item kind.Send = omega arith
  few_by_kind c port item kind.Receive = omega arith
  few_by_kind c port item kind.IWrite = omega arith
  few_by_kind c port item kind.IRead = omega arith
  few_by_kind c port item kind.IrvWrite = omega arith
  few_by_kind c port item kind.IrvRead = omega arith
  few_by_kind c port item kind.IrvIWrite = omega arith
  few_by_kind c port item kind.IrvIRead = omega arith
  few_by_kind c port item kind.Call = omega arith
  few_by_kind c port item kind.ACall = omega arith
  few_by_kind c port item kind.TakeResult = omega arith
  few_by_kind c port item kind.Switch = few_at c.ports port item
  few_by_kind c port item kind.Mode = few_at c.ports port item
  few_by_kind c port item kind.Enter = omega arith

  pub few_modes : (c : Component) (a : Access) → modes_of types c a ≤ 32
  few_modes c a = few_by_kind c a.port a.item a.kind
