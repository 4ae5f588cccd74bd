-- The calls of a description that breaks no rule on components: each names an operation that its owner requires.
use Rattle.std.proofs.Common.{◌≡◌, ℕ, zero, suc, ◌+◌, ◌<◌, List, [], ◌∷◌, map, length, slice_get, Bool, true, false, cond, Option, Some, None, option_map, ⊎_elim, refl, sym, ap, subst, ◌∙◌}
use Rattle.std.proofs.Common.{arith, true≢false}
use Rattle.bus_semantics.specs.Common.{slice_get_within, option_map_or, AccessKind}
use Rattle.runnable_lang.specs.declared.program.AccessKind.TheVariants as kind
use Rattle.plan_definitions.specs.Common.{DataElement, Interface, InterfaceKind, SenderReceiver, ClientServer, ModeSwitch, ModeGroup, TypeTable, Access, Component, Port, PortKind, Provided}
use Rattle.plan_definitions.specs.Common.{Required, Runnable, Description, Flat, Among, names_port, fits, access_fits, misfit_among, misfit, first_of, unless, item_of, item_of_port, item_at}
use Rattle.plan_definitions.specs.Common.{IsAfter, from, positions, of_instances, provides_at, root_ports, calling_of, callings_in, callings_of_component, operation_count, operations_at}
use Rattle.plan_definitions.specs.Common.{outer_calling, outer_callings, callings, owner_of, IsRefusal}
use Rattle.description_types.specs.declared.interface.Operation as declared
use Rattle.plan_definitions.specs.declared.item.Item.{Item}
use Rattle.plan_definitions.specs.declared.item.Item.TheVariants.{Data, Operation, Modes}
use Rattle.plan_definitions.specs.declared.component_rule.ComponentRule.TheVariants as rule
use Rattle.plan_definitions.specs.declared.spot.Spot.TheVariants as spot
use Rattle.plan_definitions.specs.ComponentRefusals as components
use Rattle.plan_definitions.specs.declared.calling.Calling.{Calling}
use Rattle.plan_definitions.proofs.Firsts.{map_none, or_none, unless_none}
use Rattle.plan_definitions.proofs.Lists.{place as among_get, cases, unflat}
use Rattle.sound_plans.proofs.Lists.{and_then_some, map_some, mapped, pieces, position_in}
use Rattle.sound_plans.proofs.Numbers.{of_instances_is}
use Rattle.sound_plans.proofs.Sites.{PortAt, ComponentAt, ports_are}

-- ---- nothing is refused

first_none : {X Y : Type 0} (g : ℕ → X → Option Y) (i : ℕ) (xs : List X) → first_of g i xs ≡ None → (k : ℕ) (x : X) → slice_get xs k ≡ Some x → g (i + k) x ≡ None
first_none g i [] h k x at = cc
first_none g i (y ∷ xs) h zero x at =
    let start : i ≡ i + 0 = omega arith in
    let is : y ≡ x = cc in
    subst (λ m. g m x ≡ None) start (subst (λ z. g i z ≡ None) is (or_none (g i y) (first_of g (i + 1) xs) h).0)
first_none g i (y ∷ xs) h (suc k) x at =
    let e : i + 1 + k ≡ i + suc k = omega arith in
    subst (λ m. g m x ≡ None) e (first_none g (i + 1) xs (or_none (g i y) (first_of g (i + 1) xs) h).1 k x at)

not_after : (o : Option (ℕ × List ℕ)) (later : Option (ℕ × List ℕ) → Type 0) → IsAfter o later None → o ≡ None
not_after None later h = refl
not_after (Some x) later h = cc

module _ (d : Description) (f : Flat) (kept : IsRefusal d f None) where
  pub access_keeps : (n m k : ℕ) (c : Component) (r : Runnable) (a : Access) → slice_get d.components n ≡ Some c → slice_get c.behavior.runnables m ≡ Some r → slice_get r.accesses k ≡ Some a → access_fits d.types c.ports a ≡ true
  access_keeps n m k c r a at_c at_r at_a =
      let none = (or_none (components.of_rule rule.Accesses d) _ (not_after (components.refusal d) _ kept)).0 in
      let first = map_none _ (components.first_broken rule.Accesses d) none in
      let here = map_none (λ place. (0 + n, place)) (misfit d.types c) (first_none (λ n c. option_map (λ place. (n, place)) (misfit d.types c)) 0 d.components first n c at_c) in
      let among = first_none (λ m (r : Runnable). misfit_among d.types c.ports m r.accesses) 0 c.behavior.runnables here m r at_r in
      unless_none (access_fits d.types c.ports a) (spot.Access (0 + m) (0 + k)) (first_none (λ k a. unless (access_fits d.types c.ports a) (spot.Access (0 + m) k)) 0 r.accesses among k a at_a)

-- ---- who calls

abbrev calls : AccessKind → Bool
calls kind.Call = true
calls kind.ACall = true
calls _ = false

called : (i m : ℕ) (k : AccessKind) (port item : ℕ) (c : Calling) → Among c (calling_of i m (record { kind = k; port = port; item = item }))
    → (calls k ≡ true) × (b : Bool) × (c ≡ record { caller = Some (i, m); port = port; item = item; asynchronous = b })
called i m kind.Call port item c h = ⊎_elim (λ e. (refl, false, e)) (λ none. absurd none) h
called i m kind.ACall port item c h = ⊎_elim (λ e. (refl, true, e)) (λ none. absurd none) h
called i m _ port item c h = absurd h

call_side : (side : PortKind) (item : Item) → fits kind.Call side item ≡ true → (side ≡ Required) × (item ≡ Operation)
call_side Required Operation h = (refl, refl)
call_side Required (Data p) h = absurd (true≢false (sym h))
call_side Required (Modes n) h = absurd (true≢false (sym h))
call_side Provided Operation h = absurd (true≢false (sym h))
call_side Provided (Data p) h = absurd (true≢false (sym h))
call_side Provided (Modes n) h = absurd (true≢false (sym h))

left_side : (side : PortKind) (item : Item) → fits kind.ACall side item ≡ true → (side ≡ Required) × (item ≡ Operation)
left_side Required Operation h = (refl, refl)
left_side Required (Data p) h = absurd (true≢false (sym h))
left_side Required (Modes n) h = absurd (true≢false (sym h))
left_side Provided Operation h = absurd (true≢false (sym h))
left_side Provided (Data p) h = absurd (true≢false (sym h))
left_side Provided (Modes n) h = absurd (true≢false (sym h))

call_item : (k : AccessKind) (o : Option (PortKind × Item)) → calls k ≡ true → cond (names_port k) (option_map_or (λ (x : PortKind × Item). fits k x.0 x.1) o false) true ≡ true
    → (x : PortKind × Item) × (o ≡ Some x) × (x.0 ≡ Required) × (x.1 ≡ Operation)
call_item kind.Call None is h = absurd (true≢false (sym h))
call_item kind.Call (Some x) is h = let s = call_side x.0 x.1 h in (x, refl, s.0, s.1)
call_item kind.ACall None is h = absurd (true≢false (sym h))
call_item kind.ACall (Some x) is h = let s = left_side x.0 x.1 h in (x, refl, s.0, s.1)
call_item _ o is h = absurd (true≢false (sym is))

operation_item : (types : TypeTable) (k : InterfaceKind) (n : ℕ) → item_of types k n ≡ Some Operation → (operations : List declared.Operation) × (k ≡ ClientServer operations) × (n < length operations)
operation_item types (SenderReceiver es) n h =
    let r = map_some (λ (e : DataElement). Data e.sw_impl_policy) (slice_get es n) Operation h in
    let other = r.2 in
    cc
operation_item types (ClientServer os) n h =
    let r = map_some (λ (o : declared.Operation). Operation) (slice_get os n) Operation h in
    (os, refl, slice_get_within os n r.0 r.1)
operation_item types (ModeSwitch e) n h =
    let r = map_some (λ (g : ModeGroup). Modes (length g.modes)) (slice_get types.mode_groups e.of_type) Operation h in
    let other = r.2 in
    cc

-- who calls is a runnable of an instance, or the environment
abbrev pub IsCaller : Description → Flat → Option (ℕ × ℕ) → Type 0
IsCaller d f None = Unit {0}
IsCaller d f (Some x) = (at : ComponentAt d f x.0) × (x.1 < length at.component.behavior.runnables)

pub record CallAt (d : Description) (f : Flat) (c : Calling) : Type 0 where
  pub here : PortAt d f (owner_of c) c.port
  pub operations : List declared.Operation
  pub interface : here.interface.kind ≡ ClientServer operations
  pub below : c.item < length operations
  pub requires : provides_at (owner_of c) here.port.kind ≡ false
  pub caller : IsCaller d f c.caller

module _ (d : Description) (f : Flat) (kept : IsRefusal d f None) where
  of_access : (i m k : ℕ) (b : Bool) (at : ComponentAt d f i) (r : Runnable) (a : Access) → slice_get at.component.behavior.runnables m ≡ Some r → slice_get r.accesses k ≡ Some a → calls a.kind ≡ true
      → CallAt d f (record { caller = Some (i, m); port = a.port; item = a.item; asynchronous = b })
  of_access i m k b at r a at_r at_a is =
      let fit = access_keeps d f kept at.instance.component m k at.component r a at.at_component at_r at_a in
      let x = call_item a.kind (item_at d.types at.component.ports a.port a.item) is fit in
      let port = and_then_some (λ (port : Port). option_map (λ item. (port.kind, item)) (item_of_port d.types port a.item)) (slice_get at.component.ports a.port) x.0 x.1 in
      let item = map_some (λ item. (port.0.kind, item)) (item_of_port d.types port.0 a.item) x.0 port.2 in
      let interface = and_then_some (λ (i : Interface). item_of d.types i.kind a.item) (slice_get d.types.interfaces port.0.interface) item.0 item.1 in
      let is_operation : item.0 ≡ Operation = ap (λ y. y.1) item.2 ∙ x.3 in
      let is_required : port.0.kind ≡ Required = ap (λ y. y.0) item.2 ∙ x.2 in
      let o = operation_item d.types interface.0.kind a.item (interface.2 ∙ ap (λ y. Some y) is_operation) in
      record {
        here = record { port = port.0; interface = interface.0; at_port = ap (λ l. slice_get l a.port) (ports_are d f i at) ∙ port.1; at_interface = interface.1 };
        operations = o.0;
        interface = o.1;
        below = o.2;
        requires = ap (provides_at (Some i)) is_required;
        caller = (at, slice_get_within at.component.behavior.runnables m r at_r);
      }

  of_calling : (i m k : ℕ) (at : ComponentAt d f i) (r : Runnable) (a : Access) (c : Calling) → slice_get at.component.behavior.runnables m ≡ Some r → slice_get r.accesses k ≡ Some a → Among c (calling_of i m a) → CallAt d f c
  of_calling i m k at r a c at_r at_a h =
      let e = called i m a.kind a.port a.item c h in
      subst (CallAt d f) (sym e.2) (of_access i m k e.1 at r a at_r at_a e.0)

  of_runnable : (c : Calling) → Among c (of_instances callings_of_component d f) → CallAt d f c
  of_runnable c h =
      let x = of_instances_is d f callings_of_component c h in
      let r = pieces (callings_in x.0) x.1.component.behavior.runnables c x.2 in
      let a = unflat (calling_of x.0 r.0) r.1.accesses c r.3 in
      let place = among_get a.0 r.1.accesses a.1 in
      of_calling x.0 r.0 place.0 x.1 r.1 a.0 c r.2 place.1 a.2

  outer_side : (k : ℕ) (port : Port) (side : PortKind) (c : Calling) → Among c (outer_callings d k (record port { kind = side })) → (side ≡ Provided) × Among c (map (outer_calling k) (positions 0 (operations_at d port)))
  outer_side k port Required c h = absurd h
  outer_side k port Provided c h = (refl, h)

  operations_some : (o : Option Interface) (n : ℕ) → n < option_map_or (λ (i : Interface). operation_count i.kind) o 0 → (i : Interface) × (o ≡ Some i) × (n < operation_count i.kind)
  operations_some None n h = absurd (omega arith)
  operations_some (Some i) n h = (i, refl, h)

  operations_of : (k : InterfaceKind) (n : ℕ) → n < operation_count k → (operations : List declared.Operation) × (k ≡ ClientServer operations) × (n < length operations)
  operations_of (SenderReceiver es) n h = absurd (omega arith)
  operations_of (ClientServer os) n h = (os, refl, h)
  operations_of (ModeSwitch e) n h = absurd (omega arith)

  of_outer : (k n : ℕ) (port : Port) → slice_get (root_ports d) k ≡ Some port → port.kind ≡ Provided → n < operations_at d port → CallAt d f (outer_calling k n)
  of_outer k n port at side below =
      let i = operations_some (slice_get d.types.interfaces port.interface) n below in
      let o = operations_of i.0.kind n i.2 in
      record {
        here = record { port = port; interface = i.0; at_port = at; at_interface = i.1 };
        operations = o.0;
        interface = o.1;
        below = o.2;
        requires = ap (provides_at None) side;
        caller = tt;
      }

  of_port : (k : ℕ) (port : Port) (c : Calling) → slice_get (root_ports d) k ≡ Some port → Among c (outer_callings d k port) → CallAt d f c
  of_port k port c at h =
      let s = outer_side k port port.kind c h in
      let m = mapped (outer_calling k) c (positions 0 (operations_at d port)) s.1 in
      let bound = (position_in m.0 0 (operations_at d port) m.1).1 in
      subst (CallAt d f) (sym m.2) (of_outer k m.0 port at s.0 (omega (arith, bound)))

  of_root : (c : Calling) → Among c (from 0 (outer_callings d) (root_ports d)) → CallAt d f c
  of_root c h = let p = pieces (outer_callings d) (root_ports d) c h in of_port p.0 p.1 c p.2 p.3

  pub call_is : (c : Calling) → Among c (callings d f) → CallAt d f c
  call_is c h = ⊎_elim (of_runnable c) (of_root c) (cases c (of_instances callings_of_component d f) (from 0 (outer_callings d) (root_ports d)) h)
