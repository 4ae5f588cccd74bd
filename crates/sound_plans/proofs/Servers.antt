-- Servers are sound, and serve the runnables that their events start.
use Rattle.std.proofs.Common.{◌≡◌, ℕ, zero, suc, ◌+◌, Bool, true, false, cond, ◌&&◌, ◌||◌, not, ◌==◌, nat_eq, refl, sym, ◌∙◌, ap, subst, arith, List, [], ◌∷◌, map, length, Option, Some}
use Rattle.std.proofs.Common.{None, option_map, option_and_then}
use Rattle.std.specs.Prelude.{nat_lt, nat_le, pos}
use Rattle.bus_semantics.specs.Common.{slice_get, list_all, list_any, find, option_map_or, false≢true, eqb-true, eq-eqb, and_from, and_parts, length-map, same_Some, same_number, Runnable}
use Rattle.bus_semantics.specs.Common.{plan_of, look, every_from, limits_fit, code_list_fits, queue_fits, server_sound, server_served, serves_back, is_in, is_distinct}
use Rattle.plan_definitions.specs.Common.{DataType, ApplicationError, Argument, ComSpec, Interface, ClientServer, Operation, keeps_range, is_sound, is_sound_argument, one_word}
use Rattle.plan_definitions.specs.Common.{has_distinct_codes, Component, Event, Port, Description, Flat, started, is_alone, count, pair_number, events_of, runnables_of, com_spec_of}
use Rattle.plan_definitions.specs.Common.{queue_length_of, server_number, event_of, events, served_by, served_number, runnable_of, runnables, invoked_by, operation_in, operation_at}
use Rattle.plan_definitions.specs.Common.{started_by, argument_of, is_numbered_mapped, server_at, servers, IsWhole}
use Rattle.description_types.specs.declared.component.EventKind as declared_kind
use Rattle.description_types.specs.declared.component.EventKind.TheVariants as declared_event
use Rattle.description_types.specs.declared.component.Runnable as declared_runnable
use Rattle.bus_laws.specs.Common.{ArgPlan, BusPlan, ElemPlan, EventKind, Invoked, EventPlan, ServerPlan, Mapping}
use Rattle.plan_definitions.specs.Signatures.{limits_of}
use Rattle.plan_definitions.specs.Started.{kind_of, serves}
use Rattle.plan_definitions.specs.Services as services
use Rattle.plan_definitions.specs.WellFormed as formed
use Rattle.plan_definitions.proofs.Lists.{there}
use Rattle.plan_definitions.proofs.Words.{range_fits}
use Rattle.bus_laws.proofs.Thinning.{option_test}
use Rattle.sound_plans.proofs.Places.{not_some, all_if, all_at, every_if, looked, mapped, map_at, once}
use Rattle.sound_plans.proofs.Members.{Has}
use Rattle.sound_plans.proofs.Parts.{Home, home_component, RunnableAt, runnable_at, runnable_there, event_there}
use Rattle.sound_plans.proofs.Rules.{planned, plan_is, alone_kept, ports_formed}
use Rattle.sound_plans.proofs.Serving.{Provides, ServerAt, server_at_number, server_there}
use Rattle.sound_plans.proofs.SiteNumbers.{ports_at_home}
use Rattle.sound_plans.proofs.Tasks.{starts_within}

abbrev invoked_here : ℕ → EventKind → Bool
invoked_here s (Invoked n) = n == s
invoked_here s _ = false

abbrev of_server : Description → Flat → ℕ → Option ℕ → Bool
of_server d f q None = true
of_server d f q (Some s) = look (servers d f) s (λ (v : ServerPlan). v.runnable == q) false

-- ---- ranges

-- ---- what an operation keeps

pub find_has : {X : Type 0} (test : X → Bool) (xs : List X) (x : X) → find test xs ≡ Some x → Has X xs x
find_has test [] x e = not_some x e
find_has {X} test (y ∷ xs) x e = by (λ r. find_has test xs x r) (test y) e
  where
    by : (find test xs ≡ Some x → Has X xs x) → (b : Bool) → cond b (Some y) (find test xs) ≡ Some x → Has X (y ∷ xs) x
    by rest true e = record { place = 0; there = e }
    by rest false e = let deeper = rest e in record { place = suc deeper.place; there = deeper.there }

same_codes : (n : ℕ) (es : List ApplicationError) → list_any (λ m. m == n) (map (λ (e : ApplicationError). e.code) es) ≡ list_any (λ (e : ApplicationError). e.code == n) es
same_codes n [] = refl
same_codes n (e ∷ es) = ap (λ b. (e.code == n) || b) (same_codes n es)

codes_distinct : (es : List ApplicationError) → is_distinct (map (λ (e : ApplicationError). e.code) es) ≡ has_distinct_codes es
codes_distinct [] = refl
codes_distinct (e ∷ es) = λ j. not (same_codes e.code es j) && codes_distinct es j

codes_within : (es : List ApplicationError) → list_all (is_in 1 63) (map (λ (e : ApplicationError). e.code) es) ≡ list_all (λ (e : ApplicationError). is_in 1 63 e.code) es
codes_within [] = refl
codes_within (e ∷ es) = ap (λ b. is_in 1 63 e.code && b) (codes_within es)

module _ (d : Description) (f : Flat) (p : BusPlan) (m : Mapping) (w : IsWhole d f p m) where
  type_kept : (n : ℕ) (t : DataType) → slice_get d.types.data_types n ≡ Some t → formed.type_fits t ≡ true
  type_kept n t at = all_at formed.type_fits d.types.data_types n t (and_parts (list_all formed.type_fits d.types.data_types) _ w.well_formed.types).0 at

  pub operation_kept : (i : ℕ) (x : Interface) (all : List Operation) (n : ℕ) (o : Operation) → slice_get d.types.interfaces i ≡ Some x → x.kind ≡ ClientServer all → slice_get all n ≡ Some o → formed.operation_fits d.types.data_types o ≡ true
  operation_kept i x all n o at is there =
      let kinds = (and_parts (list_all formed.group_fits d.types.mode_groups) (list_all (λ (i : Interface). formed.kind_fits d.types i.kind) d.types.interfaces) (and_parts (list_all formed.type_fits d.types.data_types) _ w.well_formed.types).1).1 in
      let kept : formed.kind_fits d.types (ClientServer all) ≡ true = subst (λ k. formed.kind_fits d.types k ≡ true) is (all_at (λ (i : Interface). formed.kind_fits d.types i.kind) d.types.interfaces i x kinds at) in
      all_at (formed.operation_fits d.types.data_types) all n o (and_parts (formed.names_fit (map (λ (o : Operation). o.short_name) all)) (list_all (formed.operation_fits d.types.data_types) all) kept).1 there

  pub argument_fits : (a : Argument) → is_sound_argument d.types.data_types a ≡ true → limits_fit (limits_of d.types.data_types a.of_type) ≡ true
  argument_fits a e = by (slice_get d.types.data_types a.of_type) refl (and_parts (one_word (slice_get d.types.data_types a.of_type)) _ e).0
    where
      by : (o : Option DataType) → slice_get d.types.data_types a.of_type ≡ o → one_word o ≡ true → limits_fit (option_map_or (λ (t : DataType). t.limits) o (record { low = pos 0; high = pos 0 })) ≡ true
      by None at e = absurd (false≢true e)
      by (Some t) at e = range_fits t (and_parts (is_in 1 16 t.words) (keeps_range t) (type_kept a.of_type t at)).1

  -- ---- servers

  module _ (i : ℕ) (c : Component) (home : Home d f i c) where
    pub queue_length_kept : (k : ℕ) (port : Port) (n : ℕ) → slice_get c.ports k ≡ Some port → is_in 1 1024 (queue_length_of d f (Some i) k n) ≡ true
    queue_length_kept k port n at = subst (λ o. is_in 1 1024 (option_map_or (λ (s : ComSpec). s.queue_length) o 1) ≡ true) (sym here) (by (find (λ (s : ComSpec). nat_eq s.element n) port.com_specs) refl)
      where
        here : com_spec_of d f (Some i) k n ≡ find (λ (s : ComSpec). nat_eq s.element n) port.com_specs
        here = ap (option_and_then (λ (q : Port). find (λ (s : ComSpec). nat_eq s.element n) q.com_specs)) (ap (λ ps. slice_get ps k) (ports_at_home d f i c home) ∙ at)

        by : (o : Option ComSpec) → find (λ (s : ComSpec). nat_eq s.element n) port.com_specs ≡ o → is_in 1 1024 (option_map_or (λ (s : ComSpec). s.queue_length) o 1) ≡ true
        by None e = refl
        by (Some s) e =
            let h = find_has (λ (s : ComSpec). nat_eq s.element n) port.com_specs s e in
            let ports = (and_parts (formed.names_fit (map (λ (p : Port). p.short_name) c.ports)) (list_all (formed.port_fits d.types) c.ports) (ports_formed d f p m w home.instance.component c home.has)).1 in
            let fits = all_at (formed.port_fits d.types) c.ports k port ports at in
            let specs = (and_parts (nat_lt port.interface (length d.types.interfaces)) (list_all (formed.com_spec_fits d.types port.interface) port.com_specs) fits).1 in
            let spec = all_at (formed.com_spec_fits d.types port.interface) port.com_specs h.place s specs h.there in
            (and_parts (is_in 1 1024 s.queue_length) _ (and_parts (nat_lt s.element (formed.items_at d.types port.interface)) _ spec).1).0

    pub operation_is : (k n : ℕ) (h : Provides d c k n) → operation_at d f (Some i) k n ≡ Some h.operation
    operation_is k n h =
        ap (λ o. option_and_then (λ x. operation_in x n) (option_map (λ (z : Interface). z.kind) (option_and_then (λ (q : Port). slice_get d.types.interfaces q.interface) o))) (ap (λ ps. slice_get ps k) (ports_at_home d f i c home) ∙ h.there)
        ∙ ap (λ o. option_and_then (λ x. operation_in x n) (option_map (λ (z : Interface). z.kind) o)) h.has ∙ ap (λ x. operation_in x n) h.is ∙ h.at

    arguments : Option Operation → List ArgPlan
    arguments o = option_map_or (λ (o : Operation). map (argument_of d) o.arguments) o []

    codes : Option Operation → List ℕ
    codes o = option_map_or (λ (o : Operation). map (λ (e : ApplicationError). e.code) o.errors) o []

    parts_sound : (queue : Option ℕ) (o : Operation) → queue_fits queue ≡ true → formed.operation_fits d.types.data_types o ≡ true
        → (queue_fits queue && (nat_le (length (arguments (Some o))) 16 && (list_all (λ (a : ArgPlan). limits_fit a.limits) (arguments (Some o)) && code_list_fits (codes (Some o))))) ≡ true
    unfolding arguments codes
    parts_sound queue o fits kept =
        let a = and_parts (is_sound d.types.data_types o) (list_all (λ (e : ApplicationError). is_in 1 63 e.code) o.errors) kept in
        let b = and_parts (nat_le (length o.arguments) 16) (list_all (is_sound_argument d.types.data_types) o.arguments && has_distinct_codes o.errors) a.0 in
        let e = and_parts (list_all (is_sound_argument d.types.data_types) o.arguments) (has_distinct_codes o.errors) b.1 in
        and_from (queue_fits queue) _ fits
        (and_from (nat_le (length (map (argument_of d) o.arguments)) 16) _ (subst (λ x. nat_le x 16 ≡ true) (sym (length-map o.arguments (argument_of d))) b.0)
        (and_from (list_all (λ (a : ArgPlan). limits_fit a.limits) (map (argument_of d) o.arguments)) _
        (all_if (λ (a : ArgPlan). limits_fit a.limits) (map (argument_of d) o.arguments)
        (λ j y at. let z = map_at (argument_of d) o.arguments j y at in
        subst (λ (u : ArgPlan). limits_fit u.limits ≡ true) (sym z.is) (argument_fits z.item (all_at (is_sound_argument d.types.data_types) o.arguments j z.item e.0 z.there))))
        (and_from (is_distinct (map (λ (e : ApplicationError). e.code) o.errors)) (list_all (is_in 1 63) (map (λ (e : ApplicationError). e.code) o.errors)) (codes_distinct o.errors ∙ e.1) (codes_within o.errors ∙ a.1))))

    sound_server : (k n j : ℕ) (h : Provides d c k n) → server_sound (server_at d f i k n j) ≡ true
    unfolding arguments codes
    sound_server k n j h =
        subst (λ o. (queue_fits (services.queue_of d f i k n (pair_number (events_of d f) (i, j))) && (nat_le (length (arguments o)) 16 && (list_all (λ (a : ArgPlan). limits_fit a.limits) (arguments o) && code_list_fits (codes o)))) ≡ true)
        (sym (operation_is k n h))
        (parts_sound (services.queue_of d f i k n (pair_number (events_of d f) (i, j))) h.operation (by_mapped (is_numbered_mapped d f (pair_number (events_of d f) (i, j))))
        (operation_kept h.port.interface h.interface h.all n h.operation h.has h.is h.at))
      where
        by_mapped : (b : Bool) → queue_fits (cond b (Some (queue_length_of d f (Some i) k n)) None) ≡ true
        by_mapped true = queue_length_kept k h.port n h.there
        by_mapped false = refl

    -- ---- what a runnable serves

    pub started_is : (j : ℕ) (e : Event) → slice_get c.behavior.events j ≡ Some e → started_by d f i j ≡ e.runnable
    started_is j e at = ap (λ o. option_map_or (λ (e : Event). e.runnable) (option_and_then (λ (x : Component). slice_get x.behavior.events j) o) 0) (home_component d f i c home) ∙ ap (λ o. option_map_or (λ (e : Event). e.runnable) o 0) at

    -- the runnable of an invocation has no other event
    pub alone : (j : ℕ) (e : Event) (k n : ℕ) → slice_get c.behavior.events j ≡ Some e → e.kind ≡ declared_event.OperationInvoked k n → (a : ℕ) (y : Event) → slice_get c.behavior.events a ≡ Some y → y.runnable ≡ e.runnable → a ≡ j
    alone j e k n at kind a y there same =
        let side : e ≡ record { short_name = e.short_name; runnable = e.runnable; kind = declared_event.OperationInvoked k n; disabled_in_modes = e.disabled_in_modes } =
        λ q. record { short_name = e.short_name; runnable = e.runnable; kind = kind q; disabled_in_modes = e.disabled_in_modes } in
        let kept : (count (nat_eq e.runnable) (started c.behavior.events) == 1) ≡ true = subst (λ x. is_alone c.behavior.events x ≡ true) side (alone_kept d f p m w home.instance.component c home.has j e at) in
        let one = eqb-true (count (nat_eq e.runnable) (started c.behavior.events)) 1 kept in
        once (nat_eq e.runnable) (started c.behavior.events) a j y.runnable e.runnable (omega arith)
        (mapped (λ (x : Event). x.runnable) c.behavior.events a y there) (eq-eqb e.runnable y.runnable (sym same)) (mapped (λ (x : Event). x.runnable) c.behavior.events j e at) (eq-eqb e.runnable e.runnable refl)

  -- the first that serves
  pub served_first : (es : List Event) (j : ℕ) (e : Event) (r k n : ℕ) → slice_get es j ≡ Some e → e.runnable ≡ r → e.kind ≡ declared_event.OperationInvoked k n → ((a : ℕ) (y : Event) → slice_get es a ≡ Some y → y.runnable ≡ r → a ≡ j) → served_by es r ≡ Some (k, n)
  served_first [] j e r k n at is kind one = not_some e at
  served_first (x ∷ es) zero e r k n at is kind one =
      let same : x ≡ e = same_Some x e at in
      let starts : nat_eq x.runnable r ≡ true = eq-eqb x.runnable r (ap (λ (y : Event). y.runnable) same ∙ is) in
      let serving : serves r x ≡ Some (k, n) = ap (λ b. cond b (invoked_by x.kind) None) starts ∙ ap invoked_by (ap (λ (y : Event). y.kind) same ∙ kind) in
      ap (λ o. option_map_or (λ (z : ℕ × ℕ). Some z) o (served_by es r)) serving
  served_first (x ∷ es) (suc j) e r k n at is kind one = by (nat_eq x.runnable r) refl (served_first es j e r k n at is kind (λ a y s t. let same = one (suc a) y s t in omega arith))
    where
      by : (b : Bool) → nat_eq x.runnable r ≡ b → served_by es r ≡ Some (k, n) → option_map_or (λ (z : ℕ × ℕ). Some z) (cond b (invoked_by x.kind) None) (served_by es r) ≡ Some (k, n)
      by true s rest = let same = one 0 x refl (eqb-true x.runnable r s) in absurd (omega arith)
      by false s rest = rest

  pub record ServedBy (es : List Event) (r : ℕ) (x : ℕ × ℕ) : Type 0 where
    pub place : ℕ
    pub event : Event
    pub there : slice_get es place ≡ Some event
    pub starts : event.runnable ≡ r
    pub kind : event.kind ≡ declared_event.OperationInvoked x.0 x.1

  invoked_is : (kind : declared_kind.EventKind) (x : ℕ × ℕ) → invoked_by kind ≡ Some x → kind ≡ declared_event.OperationInvoked x.0 x.1
  invoked_is (declared_event.OperationInvoked k n) x e = let same : (k, n) ≡ x = same_Some (k, n) x e in λ j. declared_event.OperationInvoked (same j).0 (same j).1
  invoked_is (declared_event.Timing period) x e = not_some x e
  invoked_is declared_event.Init x e = not_some x e
  invoked_is (declared_event.DataReceived k n) x e = not_some x e
  invoked_is (declared_event.CallReturns k n) x e = not_some x e
  invoked_is (declared_event.ModeSwitch k when) x e = not_some x e
  invoked_is (declared_event.ModeSwitchedAck k) x e = not_some x e

  pub served_is : (es : List Event) (r : ℕ) (x : ℕ × ℕ) → served_by es r ≡ Some x → ServedBy es r x
  served_is [] r x e = not_some x e
  served_is (y ∷ es) r x e = by (λ s. served_is es r x s) (nat_eq y.runnable r) refl e
    where
      later : ServedBy es r x → ServedBy (y ∷ es) r x
      later s = record { place = suc s.place; event = s.event; there = s.there; starts = s.starts; kind = s.kind }

      by_kind : (served_by es r ≡ Some x → ServedBy es r x) → nat_eq y.runnable r ≡ true → (o : Option (ℕ × ℕ)) → invoked_by y.kind ≡ o → option_map_or (λ (z : ℕ × ℕ). Some z) o (served_by es r) ≡ Some x → ServedBy (y ∷ es) r x
      by_kind rest is None k e = later (rest e)
      by_kind rest is (Some z) k e = record { place = 0; event = y; there = refl; starts = eqb-true y.runnable r is; kind = invoked_is y.kind x (k ∙ e) }

      by : (served_by es r ≡ Some x → ServedBy es r x) → (b : Bool) → nat_eq y.runnable r ≡ b → option_map_or (λ (z : ℕ × ℕ). Some z) (cond b (invoked_by y.kind) None) (served_by es r) ≡ Some x → ServedBy (y ∷ es) r x
      by rest true is e = by_kind rest is (invoked_by y.kind) refl e
      by rest false is e = later (rest e)

  -- ---- the field

  module _ (es : List ElemPlan) where
    pub runnable_of_event : (i : ℕ) (c : Component) → Home d f i c → (j : ℕ) (e : Event) → slice_get c.behavior.events j ≡ Some e → (r : declared_runnable.Runnable) × (slice_get c.behavior.runnables e.runnable ≡ Some r)
    runnable_of_event i c home j e at = there c.behavior.runnables e.runnable (starts_within d f p m w es i c home j e at)

    served : (s : ℕ) (v : ServerPlan) → slice_get (servers d f) s ≡ Some v → server_served (planned d f es) s v ≡ true
    served s v at = subst (λ (u : ServerPlan). server_served (planned d f es) s u ≡ true) (sym x.is)
        (and_from (server_sound (server_at d f x.i x.k x.n x.by.place)) _ (sound_server x.i x.c x.home x.k x.n x.by.place x.provides)
        (and_from (look (events d f) (pair_number (events_of d f) (x.i, x.by.place)) (λ (u : EventPlan). invoked_here s u.kind) false) _
        (looked (events d f) (pair_number (events_of d f) (x.i, x.by.place)) (event_of d f x.i x.by.event) (λ (u : EventPlan). invoked_here s u.kind) false (event_there d f x.i x.c x.home x.by.place x.by.event x.by.there)
        ∙ ap (λ k. invoked_here s (kind_of d f x.i k)) x.by.kind ∙ eq-eqb (server_number d f (Some x.i, Some x.k, x.n)) s x.number)
        (ap (λ r. look (runnables d f) (pair_number (runnables_of d f) (x.i, r)) (λ (u : Runnable). same_number u.server (Some s)) false) (started_is x.i x.c x.home x.by.place x.by.event x.by.there)
        ∙ looked (runnables d f) (pair_number (runnables_of d f) (x.i, x.by.event.runnable)) (runnable_of d f x.i x.c x.by.event.runnable r.0) (λ (u : Runnable). same_number u.server (Some s)) false
        (runnable_there d f x.i x.c x.home x.by.event.runnable r.0 r.1)
        ∙ option_test (option_map (served_number d f x.i) (served_by x.c.behavior.events x.by.event.runnable)) (Some s)
        (ap (option_map (served_number d f x.i)) (served_first x.c.behavior.events x.by.place x.by.event x.by.event.runnable x.k x.n x.by.there refl x.by.kind
        (alone x.i x.c x.home x.by.place x.by.event x.k x.n x.by.there x.by.kind)) ∙ ap (λ n. Some n) x.number))))
      where
        x : ServerAt d f p m w s v
        x = server_at_number d f p m w s v at

        r : (r : declared_runnable.Runnable) × (slice_get x.c.behavior.runnables x.by.event.runnable ≡ Some r)
        r = runnable_of_event x.i x.c x.home x.by.place x.by.event x.by.there

    served_back : (q : ℕ) (r : Runnable) → slice_get (runnables d f) q ≡ Some r → serves_back (planned d f es) q r ≡ true
    served_back q r at = subst (λ (u : Runnable). serves_back (planned d f es) q u ≡ true) (sym x.is) (by (served_by x.c.behavior.events x.m) refl)
      where
        x : RunnableAt d f q r
        x = runnable_at d f q r at

        by : (o : Option (ℕ × ℕ)) → served_by x.c.behavior.events x.m ≡ o → of_server d f q (option_map (served_number d f x.i) o) ≡ true
        by None is = refl
        by (Some y) is =
            let z = served_is x.c.behavior.events x.m y is in
            looked (servers d f) (server_number d f (Some x.i, Some y.0, y.1)) (server_at d f x.i y.0 y.1 z.place) (λ (v : ServerPlan). v.runnable == q) false (server_there d f p m w x.i x.c x.home y.0 y.1 z.place z.event z.there z.kind)
            ∙ eq-eqb (pair_number (runnables_of d f) (x.i, started_by d f x.i z.place)) q (ap (λ n. pair_number (runnables_of d f) (x.i, n)) (started_is x.i x.c x.home z.place z.event z.there ∙ z.starts) ∙ x.number)

    pub all_served : (every_from 0 (server_served (planned d f es)) (servers d f) && every_from 0 (serves_back (planned d f es)) (runnables d f)) ≡ true
    all_served = and_from (every_from 0 (server_served (planned d f es)) (servers d f)) (every_from 0 (serves_back (planned d f es)) (runnables d f))
        (every_if (server_served (planned d f es)) 0 (servers d f) (λ s v at. let none : s ≡ 0 + s = omega arith in subst (λ k. server_served (planned d f es) k v ≡ true) none (served s v at)))
        (every_if (serves_back (planned d f es)) 0 (runnables d f) (λ q r at. let none : q ≡ 0 + q = omega arith in subst (λ k. serves_back (planned d f es) k r ≡ true) none (served_back q r at)))

pub servers_sound : (d : Description) (f : Flat) (p : BusPlan) (m : Mapping) → IsWhole d f p m → (every_from 0 (server_served (plan_of p)) (plan_of p).servers && every_from 0 (serves_back (plan_of p)) (plan_of p).runnables) ≡ true
servers_sound d f p m w =
    (λ j. every_from 0 (server_served (plan_is d f p w.is_plan j)) (plan_is d f p w.is_plan j).servers && every_from 0 (serves_back (plan_is d f p w.is_plan j)) (plan_is d f p w.is_plan j).runnables) ∙ all_served d f p m w p.elements
