-- The tasks have an order along waiting calls: a wait in the plan is one in the description, whose tasks have one.
use Rattle.std.proofs.Common.{◌≡◌, ℕ, zero, suc, ◌+◌, Bool, true, false, cond, ◌&&◌, not, ◌==◌, nat_eq, refl, sym, ◌∙◌, ap, subst, arith, List, [], ◌∷◌, length, Option, Some, None}
use Rattle.std.proofs.Common.{option_map, option_and_then, ◌⊎◌, inl, inr}
use Rattle.std.specs.Prelude.{is_some}
use Rattle.bus_semantics.specs.Common.{slice_get, list_any, flat_map, option_map_or, false≢true, eqb-true, eq-eqb, and_parts, not-true, any_passes_from_place, same_Some, same_number}
use Rattle.bus_semantics.specs.Common.{AccessKind, Plan, Runnable, plan_of, look, positions, runnable_of_event}
use Rattle.runnable_lang.specs.declared.program.AccessKind.TheVariants as kind
use Rattle.plan_definitions.specs.Common.{Interface, ClientServer, Component, Event, Description, End, Flat, item_at, tasks_of_event, tasks_from, task_of_server, tasks_behind, waits_by}
use Rattle.plan_definitions.specs.Common.{waits_for, Waits, mapping_of, end_at, provider_of, end_key, pair_number, runnables_of, interface_of, server_number, runnable_of, callings, point_of}
use Rattle.plan_definitions.specs.Common.{points, server_at, servers, IsWhole}
use Rattle.description_types.specs.declared.component.Runnable as declared_runnable
use Rattle.bus_laws.specs.Common.{BusPlan, ElemPlan, PointPlan, ServerPlan, Mapping, Task}
use Rattle.bus_semantics.specs.Sound as sound
use Rattle.plan_definitions.specs.declared.item.Item.TheVariants.{Operation}
use Rattle.plan_definitions.specs.MappingRules as mapped_rules
use Rattle.plan_definitions.specs.declared.calling.Calling.{Calling}
use Rattle.sound_plans.proofs.Places.{any_at, looked, map_at, append_at, Later}
use Rattle.sound_plans.proofs.Members.{Has, has_either, has_gathered, to_flat}
use Rattle.sound_plans.proofs.Parts.{Home, home_component, RunnableAt}
use Rattle.sound_plans.proofs.Rules.{planned, plan_is, access_kept}
use Rattle.sound_plans.proofs.SiteNumbers.{ports_at_home}
use Rattle.sound_plans.proofs.Items.{item_there, operation_item}
use Rattle.sound_plans.proofs.Serving.{InvokedBy, invoked_by, invocation_is, server_there}
use Rattle.sound_plans.proofs.Servers.{started_is, alone, runnable_of_event as started_runnable}
use Rattle.sound_plans.proofs.Tasks.{tasks, holds_event}
use Rattle.sound_plans.proofs.Providers.{interface_is, OperationBy, operation_by}
use Rattle.sound_plans.proofs.Points.{Calls, inner, outer, InnerCall, inner_call, outer_call}
use Rattle.sound_plans.proofs.Callers.{waits_is}
use Rattle.sound_plans.proofs.Fits.{Needs, Finds, finds}

-- an operation that a component requires
pub record RequiredAt (d : Description) (f : Flat) (i k n : ℕ) : Type 0 where
  pub all : List Rattle.description_types.specs.declared.interface.Operation.Operation
  pub is : interface_of d f (Some i) k ≡ Some (ClientServer all)
  pub operation : Rattle.description_types.specs.declared.interface.Operation.Operation
  pub there : slice_get all n ≡ Some operation

module _ (d : Description) (f : Flat) (p : BusPlan) (m : Mapping) (w : IsWhole d f p m) where
  pub operation_required : (i : ℕ) (c : Component) → Home d f i c → (k n : ℕ) → item_at d.types c.ports k n ≡ Some (Rattle.description_types.specs.declared.component.PortKind.TheVariants.Required, Operation) → RequiredAt d f i k n
  operation_required i c home k n e =
      let x = item_there d.types c.ports k n Rattle.description_types.specs.declared.component.PortKind.TheVariants.Required Operation e in
      let y = operation_item d.types x.interface.kind n x.is in
      record { all = y.all; is = interface_is d f p m w (Some i) k x.port (ap (λ ps. slice_get ps k) (ports_at_home d f i c home) ∙ x.there) ∙ ap (option_map (λ (z : Interface). z.kind)) x.has ∙ ap (λ z. Some z) y.is; operation = y.operation; there = y.there }

  call_required : (i : ℕ) (c : Component) → Home d f i c → (k : AccessKind) (port item : ℕ) → k ≡ kind.Call → Finds d.types c.ports k port item → RequiredAt d f i port item
  call_required i c home k port item is x =
      let y : Needs kind.Call x.side x.found = subst (λ z. Needs z x.side x.found) is x.needed in
      operation_required i c home port item (x.there ∙ (λ j. Some (y.0 j, y.1 j)))

  module _ (es : List ElemPlan) where
    -- ---- tasks

    -- a task of a runnable in the plan is one of the rules
    in_tasks : (r : ℕ) (v : Runnable) (x : RunnableAt d f r v) (a : ℕ) → Has ℕ (sound.tasks_of (planned d f es) (mapping_of d f) r) a → Has ℕ (mapped_rules.tasks_of d f (x.i, x.m)) a
    in_tasks r v x a h =
        let y = has_gathered (λ n. look (tasks d f p m w es) n (λ (t : Task). cond (list_any (λ e. same_number (runnable_of_event (planned d f es) e) (Some r)) t.events) (n ∷ []) []) []) (positions (length (tasks d f p m w es))) a h in
        by y.item (slice_get (tasks d f p m w es) y.item) refl y.inside
      where
        flagged : (n : ℕ) (t : Task) → slice_get (tasks d f p m w es) n ≡ Some t → (b : Bool) → list_any (λ e. same_number (runnable_of_event (planned d f es) e) (Some r)) t.events ≡ b → (k : ℕ) → slice_get (cond b (n ∷ []) []) k ≡ Some a → Has ℕ (mapped_rules.tasks_of d f (x.i, x.m)) a
        flagged n t at true is zero e = subst (λ z. Has ℕ (mapped_rules.tasks_of d f (x.i, x.m)) z) (same_Some n a e) (holds_event d f p m w es r v x n t at is)
        flagged n t at true is (suc k) e = absurd (cc e)
        flagged n t at false is k e = absurd (cc e)

        by : (n : ℕ) (o : Option Task) → slice_get (tasks d f p m w es) n ≡ o → Has ℕ (option_map_or (λ (t : Task). cond (list_any (λ e. same_number (runnable_of_event (planned d f es) e) (Some r)) t.events) (n ∷ []) []) o []) a → Has ℕ (mapped_rules.tasks_of d f (x.i, x.m)) a
        by n None at h = absurd (cc h.there)
        by n (Some t) at h = flagged n t at (list_any (λ e. same_number (runnable_of_event (planned d f es) e) (Some r)) t.events) refl h.place h.there

    abbrev is_in_task : ℕ → Option ℕ → Bool
    is_in_task n None = false
    is_in_task n (Some r) = list_any (λ k. k == n) (sound.tasks_of (planned d f es) (mapping_of d f) r)

    task_has : (n : ℕ) (xs : List ℕ) → list_any (λ k. k == n) xs ≡ true → Has ℕ xs n
    task_has n xs e = let x = any_at (λ k. k == n) xs e in record { place = x.place; there = x.there ∙ ap (λ k. Some k) (eqb-true x.item n x.passes) }

    has_task : (n : ℕ) (xs : List ℕ) → Has ℕ xs n → list_any (λ t. nat_eq t n) xs ≡ true
    has_task n xs h = any_passes_from_place (λ t. nat_eq t n) xs h.place n h.there (eq-eqb n n refl)

    -- the runnable of a pair, in the plan
    abbrev at_pair : (i : ℕ) (c : Component) → Home d f i c → (k : ℕ) (r : declared_runnable.Runnable) → slice_get c.behavior.runnables k ≡ Some r → RunnableAt d f (pair_number (runnables_of d f) (i, k)) (runnable_of d f i c k r)
    at_pair i c home k r there = record { i = i; c = c; home = home; m = k; runnable = r; there = there; is = refl; number = refl }

    tasks_of_pair : (i : ℕ) (c : Component) → Home d f i c → (k : ℕ) (r : declared_runnable.Runnable) → slice_get c.behavior.runnables k ≡ Some r → (a : ℕ) → is_in_task a (Some (pair_number (runnables_of d f) (i, k))) ≡ true → Has ℕ (mapped_rules.tasks_of d f (i, k)) a
    tasks_of_pair i c home k r there a e = in_tasks (pair_number (runnables_of d f) (i, k)) (runnable_of d f i c k r) (at_pair i c home k r there) a (task_has a (sound.tasks_of (planned d f es) (mapping_of d f) (pair_number (runnables_of d f) (i, k))) e)

    -- ---- the task of a server

    record FromEvent (i r n : ℕ) (xs : List Event) (t : ℕ) : Type 0 where
      place : ℕ
      event : Event
      there : slice_get xs place ≡ Some event
      starts : event.runnable ≡ r
      has : Has ℕ (tasks_of_event d f (i, n + place)) t

    from_event : (i r n : ℕ) (xs : List Event) (t : ℕ) → Has ℕ (tasks_from d f i r n xs) t → FromEvent i r n xs t
    from_event i r n [] t h = absurd (cc h.there)
    from_event i r n (e ∷ xs) t h = by (λ x. from_event i r (n + 1) xs t x) (has_either (cond (nat_eq r e.runnable) (tasks_of_event d f (i, n)) []) (tasks_from d f i r (n + 1) xs) t h)
      where
        here : (b : Bool) → nat_eq r e.runnable ≡ b → Has ℕ (cond b (tasks_of_event d f (i, n)) []) t → FromEvent i r n (e ∷ xs) t
        here true is x = let none : n ≡ n + 0 = omega arith in record { place = 0; event = e; there = refl; starts = sym (eqb-true r e.runnable is); has = subst (λ k. Has ℕ (tasks_of_event d f (i, k)) t) none x }
        here false is x = absurd (cc x.there)

        by : (Has ℕ (tasks_from d f i r (n + 1) xs) t → FromEvent i r (n + 1) xs t) → Has ℕ (cond (nat_eq r e.runnable) (tasks_of_event d f (i, n)) []) t ⊎ Has ℕ (tasks_from d f i r (n + 1) xs) t → FromEvent i r n (e ∷ xs) t
        by rest (inl x) = here (nat_eq r e.runnable) refl x
        by rest (inr x) =
            let y = rest x in
            let place : n + 1 + y.place ≡ n + suc y.place = omega arith in
            record { place = suc y.place; event = y.event; there = y.there; starts = y.starts; has = subst (λ k. Has ℕ (tasks_of_event d f (i, k)) t) place y.has }

    -- the tasks of a server's runnable are those of its event
    served_in : (i : ℕ) (c : Component) → Home d f i c → (k n : ℕ) (b : InvokedBy d f p m w c k n) (t : ℕ) → Has ℕ (mapped_rules.tasks_of d f (i, b.event.runnable)) t → Has ℕ (tasks_of_event d f (i, b.place)) t
    served_in i c home k n b t h =
        let x = from_event i b.event.runnable 0 c.behavior.events t (subst (λ o. Has ℕ (option_map_or (λ (z : Component). tasks_from d f i b.event.runnable 0 z.behavior.events) o []) t) (home_component d f i c home) h) in
        let same = alone d f p m w i c home b.place b.event k n b.there b.kind x.place x.event x.there x.starts in
        let place : 0 + x.place ≡ b.place = omega arith in
        subst (λ j. Has ℕ (tasks_of_event d f (i, j)) t) place x.has

    waits_at : (k : AccessKind) (i port item : ℕ) → k ≡ kind.Call → waits_by d f i (record { kind = k; port = port; item = item }) ≡ option_map_or (tasks_behind d f) (provider_of f.joins (end_at (Some i) port item)) []
    waits_at k i port item is = ap (λ z. waits_by d f i (record { kind = z; port = port; item = item })) is

    -- ---- a wait

    module _ (a b q : ℕ) (y : Calling) (z : InnerCall d f q y) (waiting : z.is.asynchronous ≡ false) (in_a : is_in_task a (Some (pair_number (runnables_of d f) (z.i, z.m))) ≡ true) where
      is_call : z.access.kind ≡ kind.Call
      is_call = waits_is z.access.kind (subst (λ x. Calls z.access.kind x) waiting z.is.calls)

      required : RequiredAt d f z.i z.access.port z.access.item
      required = call_required z.i z.c z.home z.access.kind z.access.port z.access.item is_call
          (finds d.types z.c.ports z.access (access_kept d f p m w z.home.instance.component z.c z.home.has z.m z.runnable z.j z.access z.there z.here) (ap Rattle.plan_definitions.specs.Accesses.names_port is_call))

      waits_behind : (e : End) → provider_of f.joins (end_at (Some z.i) z.access.port z.access.item) ≡ Some e → Has ℕ (tasks_behind d f e) b → Waits d f a b
      waits_behind e by h = record {
        runnable = (z.i, z.m);
        in_task = has_task a (mapped_rules.tasks_of d f (z.i, z.m)) (tasks_of_pair z.i z.c z.home z.m z.runnable z.there a in_a);
        for_task = has_task b (waits_for d f (z.i, z.m)) (subst (λ o. Has ℕ (option_map_or (λ (x : declared_runnable.Runnable). flat_map (waits_by d f z.i) x.accesses) o []) b)
            (sym (ap (option_and_then (λ (c : Component). slice_get c.behavior.runnables z.m)) (home_component d f z.i z.c z.home) ∙ z.there))
            (to_flat (waits_by d f z.i) z.runnable.accesses z.j z.access b z.here
            (subst (λ xs. Has ℕ xs b) (sym (waits_at z.access.kind z.i z.access.port z.access.item is_call ∙ ap (λ o. option_map_or (tasks_behind d f) o []) by)) h)));
      }

      behind : (e : End) → OperationBy d f p m w e required.operation → is_in_task b (sound.server_runnable (planned d f es) (Some (server_number d f (end_key e)))) ≡ true → Has ℕ (tasks_behind d f e) b
      behind e by in_b =
          let v = invoked_by d f p m w by.home.instance.component by.c by.home.has e.port e.element by.provides in
          let number : server_number d f (end_key e) ≡ server_number d f (Some by.i, Some e.port, e.element) = ap (λ o. server_number d f (o, Some e.port, e.element)) by.owner in
          let there : slice_get (servers d f) (server_number d f (end_key e)) ≡ Some (server_at d f by.i e.port e.element v.place) =
          ap (slice_get (servers d f)) number ∙ server_there d f p m w by.i by.c by.home e.port e.element v.place v.event v.there v.kind in
          let s = server_at d f by.i e.port e.element v.place in
          let runs : is_in_task b (cond (is_some s.queue) (Some s.runnable) None) ≡ true =
          ap (is_in_task b) (sym (looked (servers d f) (server_number d f (end_key e)) s (λ (u : ServerPlan). cond (is_some u.queue) (Some u.runnable) None) None there)) ∙ in_b in
          let r = started_runnable d f p m w es by.i by.c by.home v.place v.event v.there in
          let in_server = by_queue (is_some s.queue) s.runnable runs in
          let tasks_here = tasks_of_pair by.i by.c by.home v.event.runnable r.0 r.1 b (ap (λ n. is_in_task b (Some (pair_number (runnables_of d f) (by.i, n)))) (sym (started_is d f p m w by.i by.c by.home v.place v.event v.there)) ∙ in_server) in
          subst (λ o. Has ℕ (option_map_or (λ i. task_of_server d f i e.port e.element) o []) b) (sym by.owner)
          (subst (λ o. Has ℕ (option_map_or (λ j. tasks_of_event d f (by.i, j)) o []) b) (sym (invocation_is d f p m w by.i by.c by.home e.port e.element v.place v.event by.provides v.there v.kind))
          (served_in by.i by.c by.home e.port e.element v b tasks_here))
        where
          by_queue : (x : Bool) (r : ℕ) → is_in_task b (cond x (Some r) None) ≡ true → is_in_task b (Some r) ≡ true
          by_queue true r e = e
          by_queue false r e = absurd (false≢true e)

      wait_here : (o : Option End) → provider_of f.joins (end_at (Some z.i) z.access.port z.access.item) ≡ o → is_in_task b (sound.server_runnable (planned d f es) (option_map (λ e. server_number d f (end_key e)) o)) ≡ true → Waits d f a b
      wait_here None by e = absurd (false≢true e)
      wait_here (Some e) by in_b = waits_behind e by (behind e (operation_by d f p m w (Some z.i) z.access.port z.access.item required.all required.operation required.is required.there e by) in_b)

    wait_is : (a b : ℕ) → sound.waits_for (planned d f es) (mapping_of d f) a b ≡ true → Waits d f a b
    wait_is a b e =
        let x = any_at (λ (t : PointPlan). not t.asynchronous && (is_in_task a t.runnable && is_in_task b (sound.server_runnable (planned d f es) t.server))) (points d f) e in
        let y = map_at (point_of d f) (callings d f) x.place x.item x.there in
        by x.place y.item (append_at (inner d f) (outer d f) x.place y.item y.there)
        (subst (λ (t : PointPlan). (not t.asynchronous && (is_in_task a t.runnable && is_in_task b (sound.server_runnable (planned d f es) t.server))) ≡ true) y.is x.passes)
      where
        by : (q : ℕ) (y : Calling) → (slice_get (inner d f) q ≡ Some y) ⊎ Later Calling (inner d f) (outer d f) q y
            → (not (point_of d f y).asynchronous && (is_in_task a (point_of d f y).runnable && is_in_task b (sound.server_runnable (planned d f es) (point_of d f y).server))) ≡ true → Waits d f a b
        by q y (inl h) e =
            let z = inner_call d f q y h in
            let e2 = subst (λ u. (not (point_of d f u).asynchronous && (is_in_task a (point_of d f u).runnable && is_in_task b (sound.server_runnable (planned d f es) (point_of d f u).server))) ≡ true) z.is.is e in
            let first = and_parts (not z.is.asynchronous) _ e2 in
            let second = and_parts (is_in_task a (Some (pair_number (runnables_of d f) (z.i, z.m)))) _ first.1 in
            wait_here a b q y z (not-true z.is.asynchronous first.0) second.0 (provider_of f.joins (end_at (Some z.i) z.access.port z.access.item)) refl second.1
        by q y (inr l) e =
            let z = outer_call d f q y l in
            let e2 = subst (λ u. (not (point_of d f u).asynchronous && (is_in_task a (point_of d f u).runnable && is_in_task b (sound.server_runnable (planned d f es) (point_of d f u).server))) ≡ true) z.is e in
            absurd (false≢true e2)

    -- ---- the order

    pub order : sound.WaitOrder (planned d f es) (mapping_of d f)
    order = record { rank = w.has_order.0; later = λ a c waits. w.has_order.1 a c (wait_is a c waits) }

pub order_sound : (d : Description) (f : Flat) (p : BusPlan) (m : Mapping) → IsWhole d f p m → sound.WaitOrder (plan_of p) m
order_sound d f p m w = subst (λ (P : Plan). sound.WaitOrder P m) (sym (plan_is d f p w.is_plan)) (subst (sound.WaitOrder (planned d f p.elements)) (sym w.is_mapping) (order d f p m w p.elements))
