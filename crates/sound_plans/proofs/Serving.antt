-- Servers: an operation that an instance provides has one event, and its server has the number of its site.
use Rattle.std.proofs.Common.{◌≡◌, ℕ, zero, suc, ◌+◌, ◌<◌, Bool, true, cond, ◌==◌, nat_eq, refl, sym, ◌∙◌, ap, subst, arith, List, [], ◌∷◌, ◌++◌, length, Option, Some, None, option_map}
use Rattle.std.proofs.Common.{option_and_then, inl, inr}
use Rattle.bus_semantics.specs.Common.{slice_get, position_from, option_map_or, unwrap_or, false≢true, eqb-true, eq-eqb, and_from, and_parts, same_Some, slice_get_within}
use Rattle.plan_definitions.specs.Common.{Interface, InterfaceKind, SenderReceiver, ClientServer, ModeSwitch, Operation, Component, Event, EventKind, Timing, Init, DataReceived}
use Rattle.plan_definitions.specs.Common.{OperationInvoked, CallReturns, ModeSwitchedAck, Port, PortKind, Provided, Required, Description, Flat, each_number, operation_of, invoked}
use Rattle.plan_definitions.specs.Common.{is_served, item_at, count, same_operation, invokes, invocation_of, key_of, is_server, component_of, kind_at, count_at, shape_at, site, ports_of}
use Rattle.plan_definitions.specs.Common.{port_of, server_number, servers_of, server_at, server_of, servers, IsWhole}
use Rattle.description_types.specs.declared.component.EventKind.TheVariants.{ModeSwitch as SwitchesMode}
use Rattle.bus_laws.specs.Common.{BusPlan, ServerPlan, Mapping}
use Rattle.plan_definitions.specs.declared.item.Item.TheVariants as item
use Rattle.plan_definitions.specs.Events as starting
use Rattle.plan_definitions.specs.Invocations.{operations_at, operation_count}
use Rattle.plan_definitions.specs.declared.site.Site.{Site}
use Rattle.plan_definitions.specs.declared.site.SiteKind.{SiteKind}
use Rattle.plan_definitions.specs.declared.site.SiteKind.TheVariants.{Element, Variable, Server, Machine, ModePort}
use Rattle.sound_plans.proofs.Places.{not_some, found, counted_at, once, mapped, map_at}
use Rattle.sound_plans.proofs.Parts.{Home, home_component, component_home}
use Rattle.sound_plans.proofs.Rules.{kind_kept, served_kept}
use Rattle.sound_plans.proofs.SiteNumbers.{PortSite, IsSite, ports_at_home, site_there, numbered_kind, of_kind_at, kind_apart, number_at, place_of}
use Rattle.sound_plans.proofs.Items.{item_there, operation_item, operation_provided}

-- ---- invocations

module _ (k n : ℕ) where
  pub invokes_is : (kind : EventKind) → invokes k n kind ≡ true → kind ≡ OperationInvoked k n
  invokes_is (OperationInvoked a b) e =
      let two = and_parts (nat_eq k a) (nat_eq n b) e in
      λ j. OperationInvoked (sym (eqb-true k a two.0) j) (sym (eqb-true n b two.1) j)
  invokes_is (Timing a) e = absurd (false≢true e)
  invokes_is Init e = absurd (false≢true e)
  invokes_is (DataReceived a b) e = absurd (false≢true e)
  invokes_is (CallReturns a b) e = absurd (false≢true e)
  invokes_is (SwitchesMode a b) e = absurd (false≢true e)
  invokes_is (ModeSwitchedAck a) e = absurd (false≢true e)

  pub is_invokes : (kind : EventKind) → kind ≡ OperationInvoked k n → invokes k n kind ≡ true
  is_invokes kind e = subst (λ x. invokes k n x ≡ true) (sym e) (and_from (nat_eq k k) (nat_eq n n) (eq-eqb k k refl) (eq-eqb n n refl))

  one_invoked : (kind : EventKind) (rest : List (ℕ × ℕ)) → count (same_operation (k, n)) (operation_of kind ++ rest) ≡ cond (invokes k n kind) (suc (count (same_operation (k, n)) rest)) (count (same_operation (k, n)) rest)
  one_invoked (OperationInvoked a b) rest = refl
  one_invoked (Timing a) rest = refl
  one_invoked Init rest = refl
  one_invoked (DataReceived a b) rest = refl
  one_invoked (CallReturns a b) rest = refl
  one_invoked (SwitchesMode a b) rest = refl
  one_invoked (ModeSwitchedAck a) rest = refl

  pub invoked_count : (es : List Event) → count (same_operation (k, n)) (invoked es) ≡ count (λ (e : Event). invokes k n e.kind) es
  invoked_count [] = refl
  invoked_count (e ∷ es) = one_invoked e.kind (invoked es) ∙ (λ j. cond (invokes k n e.kind) (suc (invoked_count es j)) (invoked_count es j))

pub each_at : (test : ℕ → Bool) (i count k : ℕ) → each_number test i count ≡ true → k < count → test (i + k) ≡ true
each_at test i zero k all l = absurd (omega arith)
each_at test i (suc n) zero all l = let place : i ≡ i + 0 = omega arith in subst (λ m. test m ≡ true) place (and_parts (test i) (each_number test (i + 1) n) all).0
each_at test i (suc n) (suc k) all l = let place : i + 1 + k ≡ i + suc k = omega arith in subst (λ m. test m ≡ true) place (each_at test (i + 1) n k (and_parts (test i) (each_number test (i + 1) n) all).1 (omega arith))

-- an operation that a port of a component provides
pub record Provides (d : Description) (c : Component) (k n : ℕ) : Type 0 where
  pub port : Port
  pub there : slice_get c.ports k ≡ Some port
  pub kind : port.kind ≡ Provided
  pub interface : Interface
  pub has : slice_get d.types.interfaces port.interface ≡ Some interface
  pub all : List Operation
  pub is : interface.kind ≡ ClientServer all
  pub operation : Operation
  pub at : slice_get all n ≡ Some operation

module _ (d : Description) (f : Flat) (p : BusPlan) (m : Mapping) (w : IsWhole d f p m) where
  -- the event that invokes an operation
  pub record InvokedBy (c : Component) (k n : ℕ) : Type 0 where
    pub place : ℕ
    pub event : Event
    pub there : slice_get c.behavior.events place ≡ Some event
    pub kind : event.kind ≡ OperationInvoked k n

  module _ (t : ℕ) (c : Component) (at : slice_get d.components t ≡ Some c) where
    pub provided_by : (j : ℕ) (e : Event) (k n : ℕ) → slice_get c.behavior.events j ≡ Some e → e.kind ≡ OperationInvoked k n → Provides d c k n
    provided_by j e k n there kind =
        let kept : starting.kind_fits d.types c.ports (OperationInvoked k n) ≡ true = subst (λ x. starting.kind_fits d.types c.ports x ≡ true) kind (kind_kept d f p m w t c at j e there) in
        let i = item_there d.types c.ports k n Provided item.Operation (operation_provided (item_at d.types c.ports k n) kept) in
        let o = operation_item d.types i.interface.kind n i.is in
        record { port = i.port; there = i.there; kind = i.kind; interface = i.interface; has = i.has; all = o.all; is = o.is; operation = o.operation; at = o.there }

    pub served_once : (k n : ℕ) → Provides d c k n → count (λ (e : Event). invokes k n e.kind) c.behavior.events ≡ 1
    served_once k n h =
        let served : is_served d.types c.behavior.events k h.port ≡ true = served_kept d f p m w t c at k h.port h.there in
        let many : operations_at d.types h.port ≡ length h.all = ap (λ o. option_map_or (λ (i : Interface). operation_count i.kind) o 0) h.has ∙ ap operation_count h.is in
        let within : n < length h.all = slice_get_within h.all n h.operation h.at in
        let less : n < operations_at d.types h.port = omega arith in
        let side : h.port ≡ record { short_name = h.port.short_name; kind = Provided; interface = h.port.interface; com_specs = h.port.com_specs } = λ j. record { short_name = h.port.short_name; kind = h.kind j; interface = h.port.interface; com_specs = h.port.com_specs } in
        let each : each_number (λ x. count (same_operation (k, x)) (invoked c.behavior.events) == 1) 0 (operations_at d.types h.port) ≡ true = subst (λ (q : Port). is_served d.types c.behavior.events k q ≡ true) side served in
        let none : 0 + n ≡ n = omega arith in
        let here = subst (λ x. (count (same_operation (k, x)) (invoked c.behavior.events) == 1) ≡ true) none (each_at (λ x. count (same_operation (k, x)) (invoked c.behavior.events) == 1) 0 (operations_at d.types h.port) n each less) in
        sym (invoked_count k n c.behavior.events) ∙ eqb-true (count (same_operation (k, n)) (invoked c.behavior.events)) 1 here

    pub invoked_by : (k n : ℕ) → Provides d c k n → InvokedBy c k n
    invoked_by k n h =
        let one = served_once k n h in
        let w = counted_at (λ (e : Event). invokes k n e.kind) c.behavior.events (omega arith) in
        record { place = w.place; event = w.item; there = w.there; kind = invokes_is k n w.item.kind w.passes }

    -- there is one
    pub invoked_once : (k n a b : ℕ) (x y : Event) → Provides d c k n → slice_get c.behavior.events a ≡ Some x → x.kind ≡ OperationInvoked k n → slice_get c.behavior.events b ≡ Some y → y.kind ≡ OperationInvoked k n → a ≡ b
    invoked_once k n a b x y h s t u v =
        let one = served_once k n h in
        once (λ (e : Event). invokes k n e.kind) c.behavior.events a b x y (omega arith) s (is_invokes k n x.kind t) u (is_invokes k n y.kind v)

  module _ (i : ℕ) (c : Component) (home : Home d f i c) where
    pub invocation_is : (k n j : ℕ) (e : Event) → Provides d c k n → slice_get c.behavior.events j ≡ Some e → e.kind ≡ OperationInvoked k n → invocation_of d f i k n ≡ Some j
    invocation_is k n j e h at kind =
        let w = found (λ (x : Event). invokes k n x.kind) 0 c.behavior.events j e at (is_invokes k n e.kind kind) in
        let same = invoked_once home.instance.component c home.has k n w.place j w.item e h w.there (invokes_is k n w.item.kind w.passes) at kind in
        let place : 0 + w.place ≡ j = omega arith in
        ap (option_and_then (λ (x : Component). position_from (λ (y : Event). invokes k n y.kind) 0 x.behavior.events)) (home_component d f i c home) ∙ w.is ∙ ap (λ x. Some x) place

    -- the server of an operation stands at its number
    server_shape : (k n : ℕ) (h : Provides d c k n) → shape_at d.types (Some i) h.port ≡ Some (Server, length h.all)
    server_shape k n h =
        ap (option_map (λ (x : Interface). (kind_at (Some i) h.port.kind x.kind, count_at (Some i) h.port.kind x.kind))) h.has
        ∙ (λ j. Some (kind_at (Some i) (h.kind j) (h.is j), count_at (Some i) (h.kind j) (h.is j)))

    pub server_site : (k n : ℕ) → Provides d c k n → slice_get (servers_of d f) (server_number d f (Some i, Some k, n)) ≡ Some (site (Some i) (Some k) n Server)
    server_site k n h =
        let there : port_of d f (Some i) k ≡ Some h.port = ap (λ ps. slice_get ps k) (ports_at_home d f i c home) ∙ h.there in
        numbered_kind d f is_server (place_of d f (Some i, Some k, n)) (site (Some i) (Some k) n Server) (site_there d f (Some i) k h.port Server (length h.all) n there (server_shape k n h) (slice_get_within h.all n h.operation h.at)) refl

    pub server_there : (k n j : ℕ) (e : Event) → slice_get c.behavior.events j ≡ Some e → e.kind ≡ OperationInvoked k n → slice_get (servers d f) (server_number d f (Some i, Some k, n)) ≡ Some (server_at d f i k n j)
    server_there k n j e at kind =
        let h = provided_by home.instance.component c home.has j e k n at kind in
        mapped (server_of d f) (servers_of d f) (server_number d f (Some i, Some k, n)) (site (Some i) (Some k) n Server) (server_site k n h)
        ∙ ap (λ o. Some (server_at d f i k n (unwrap_or o 0))) (invocation_is k n j e h at kind)

  pub record ServerAt (s : ℕ) (v : ServerPlan) : Type 0 where
    pub i : ℕ
    pub c : Component
    pub home : Home d f i c
    pub k : ℕ
    pub n : ℕ
    pub provides : Provides d c k n
    pub by : InvokedBy c k n
    pub is : v ≡ server_at d f i k n by.place
    pub number : server_number d f (Some i, Some k, n) ≡ s

  server_kind : (owner : Option ℕ) (port : Port) (interface : Interface) (count : ℕ) (n : ℕ) → kind_at owner port.kind interface.kind ≡ Server → count_at owner port.kind interface.kind ≡ count → n < count
      → (i : ℕ) × (all : List Operation) × (operation : Operation) × (owner ≡ Some i) × (port.kind ≡ Provided) × (interface.kind ≡ ClientServer all) × (slice_get all n ≡ Some operation)
  server_kind owner port interface count n kind many less = by owner port.kind interface.kind kind many
    where
      at_list : (all : List Operation) → n < length all → (o : Operation) × (slice_get all n ≡ Some o)
      at_list all l = Rattle.plan_definitions.proofs.Lists.there all n l

      by : (o : Option ℕ) (side : PortKind) (x : InterfaceKind) → kind_at o side x ≡ Server → count_at o side x ≡ count
          → (i : ℕ) × (all : List Operation) × (operation : Operation) × (o ≡ Some i) × (side ≡ Provided) × (x ≡ ClientServer all) × (slice_get all n ≡ Some operation)
      by (Some i) Provided (ClientServer all) e l = let at = at_list all (subst (λ z. n < z) (sym l) less) in (i, all, at.0, refl, refl, refl, at.1)
      by (Some i) Required (ClientServer all) e l = absurd (omega arith)
      by None Provided (ClientServer all) e l = absurd (omega arith)
      by None Required (ClientServer all) e l = absurd (omega arith)
      by o side (SenderReceiver es) e l = absurd (cc e)
      by (Some i) Provided (ModeSwitch x) e l = absurd (cc e)
      by (Some i) Required (ModeSwitch x) e l = absurd (cc e)
      by None Provided (ModeSwitch x) e l = absurd (cc e)
      by None Required (ModeSwitch x) e l = absurd (cc e)

  is_server_kind : (kind : SiteKind) → is_server kind ≡ true → kind ≡ Server
  is_server_kind Server e = refl
  is_server_kind (Element provided) e = absurd (false≢true e)
  is_server_kind Variable e = absurd (false≢true e)
  is_server_kind Machine e = absurd (false≢true e)
  is_server_kind ModePort e = absurd (false≢true e)

  -- a site of a server, with what it is of
  pub record ServerSite (t : Site) : Type 0 where
    pub i : ℕ
    pub c : Component
    pub home : Home d f i c
    pub k : ℕ
    pub provides : Provides d c k t.item
    pub is : t ≡ site (Some i) (Some k) t.item Server

  pub server_site_at : (s : ℕ) (t : Site) → slice_get (servers_of d f) s ≡ Some t → ServerSite t
  server_site_at s t at = by (of_kind_at d f is_server s t at).0
    where
      kind : t.kind ≡ Server
      kind = is_server_kind t.kind (of_kind_at d f is_server s t at).1

      with_interface : (x : PortSite d.types t.owner (ports_of d f t.owner) t) (o : Option Interface) → slice_get d.types.interfaces x.port.interface ≡ o
          → option_map {U = SiteKind × ℕ} (λ (z : Interface). (kind_at t.owner x.port.kind z.kind, count_at t.owner x.port.kind z.kind)) o ≡ Some (t.kind, x.count) → ServerSite t
      with_interface x None has shape = not_some (t.kind, x.count) shape
      with_interface x (Some z) has shape =
          let two : (kind_at t.owner x.port.kind z.kind, count_at t.owner x.port.kind z.kind) ≡ (t.kind, x.count) = same_Some (kind_at t.owner x.port.kind z.kind, count_at t.owner x.port.kind z.kind) (t.kind, x.count) shape in
          let r = server_kind t.owner x.port z x.count t.item (ap (λ (y : SiteKind × ℕ). y.0) two ∙ kind) (ap (λ (y : SiteKind × ℕ). y.1) two) x.within in
          let there : port_of d f (Some r.0) x.k ≡ Some x.port = ap (λ o. slice_get (ports_of d f o) x.k) (sym r.3) ∙ x.there in
          with_component r.0 (component_of d f r.0) refl r.1 r.2 r.3 r.4 r.5 r.6 there
        where
          with_component : (i : ℕ) (o : Option Component) → component_of d f i ≡ o → (all : List Operation) (operation : Operation) → t.owner ≡ Some i → x.port.kind ≡ Provided → z.kind ≡ ClientServer all → slice_get all t.item ≡ Some operation
              → slice_get (ports_of d f (Some i)) x.k ≡ Some x.port → ServerSite t
          with_component i None e all operation owner side is here there = not_some x.port (ap (λ o. slice_get (option_map_or (λ (y : Component). y.ports) o []) x.k) (sym e) ∙ there)
          with_component i (Some c) e all operation owner side is here there =
              let home = component_home d f i c e in
              record {
                i = i;
                c = c;
                home = home;
                k = x.k;
                provides = record { port = x.port; there = ap (λ ps. slice_get ps x.k) (sym (ports_at_home d f i c home)) ∙ there; kind = side; interface = z; has = has; all = all; is = is; operation = operation; at = here };
                is = λ j. site (owner j) (x.named j) t.item (kind j);
              }

      by : IsSite d f t → ServerSite t
      by (inr v) = absurd (cc (sym v.kind ∙ kind))
      by (inl x) = with_interface x (slice_get d.types.interfaces x.port.interface) refl x.shape

  pub server_numbered : (s : ℕ) (t : Site) → slice_get (servers_of d f) s ≡ Some t → server_number d f (key_of t) ≡ s
  server_numbered s t at = number_at (servers_of d f) (kind_apart d f is_server) s t at

  pub server_at_number : (s : ℕ) (v : ServerPlan) → slice_get (servers d f) s ≡ Some v → ServerAt s v
  server_at_number s v at =
      let t = map_at (server_of d f) (servers_of d f) s v at in
      let x = server_site_at s t.item t.there in
      let by = invoked_by x.home.instance.component x.c x.home.has x.k t.item.item x.provides in
      record {
        i = x.i;
        c = x.c;
        home = x.home;
        k = x.k;
        n = t.item.item;
        provides = x.provides;
        by = by;
        is = t.is ∙ ap (server_of d f) x.is ∙ ap (λ o. server_at d f x.i x.k t.item.item (unwrap_or o 0)) (invocation_is x.i x.c x.home x.k t.item.item by.place by.event x.provides by.there by.kind);
        number = ap (λ (y : Site). server_number d f (key_of y)) (sym x.is) ∙ server_numbered s t.item t.there;
      }
