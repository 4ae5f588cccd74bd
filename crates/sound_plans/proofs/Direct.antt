-- Direct servers make no calls, and the environment does not call them.
use Rattle.std.proofs.Common.{◌≡◌, ℕ, ◌+◌, ◌<◌, Bool, true, false, cond, ◌&&◌, ◌||◌, not, refl, sym, ◌∙◌, ap, subst, arith, List, map, Option, Some, None, option_map, ◌⊎◌, inl, inr}
use Rattle.std.specs.Prelude.{is_some, is_none}
use Rattle.bus_semantics.specs.Common.{slice_get, list_all, option_map_or, false≢true, and_from, and_parts, not-true, or_left, or_right, same_Some, slice_get_within, any_passes_from_place}
use Rattle.bus_semantics.specs.Common.{same_number, AccessKind, AccessSig, Runnable, plan_of, look, every_from, direct_sound, same_kind}
use Rattle.runnable_lang.specs.declared.program.AccessKind.TheVariants as kind
use Rattle.plan_definitions.specs.Common.{Interface, InterfaceKind, ClientServer, ModeSwitch, SenderReceiver, Operation, Access, Port, Description, End, Flat, Join, access_sig, is_mapped}
use Rattle.plan_definitions.specs.Common.{is_call, may_be_direct, serves_outside, keeps_direct, end_at, provider_of, same_end, end_key, pair_number, events_of, runnables_of, site}
use Rattle.plan_definitions.specs.Common.{interface_of, queue_length_of, server_number, servers_of, runnable_of, runnables, callings, operations_at, operation_count, outer_calling}
use Rattle.plan_definitions.specs.Common.{is_numbered_mapped, point_of, points, servers, started_by, IsWhole}
use Rattle.description_types.specs.declared.component.EventKind.TheVariants as declared_event
use Rattle.description_types.specs.declared.component.Runnable as declared_runnable
use Rattle.bus_laws.specs.Common.{BusPlan, ElemPlan, PointPlan, ServerPlan, Mapping}
use Rattle.plan_definitions.specs.declared.site.Site.{Site}
use Rattle.plan_definitions.specs.declared.site.SiteKind.TheVariants.{Server}
use Rattle.plan_definitions.specs.declared.calling.Calling.{Calling}
use Rattle.plan_definitions.proofs.Lists.{there}
use Rattle.plan_definitions.proofs.Keys.{same_end_refl}
use Rattle.bus_laws.proofs.Thinning.{clash, option_same}
use Rattle.sound_plans.proofs.Places.{not_some, all_if, all_at, every_if, looked, map_at, append_at, Later}
use Rattle.sound_plans.proofs.Parts.{number_there, runnable_there, event_count}
use Rattle.sound_plans.proofs.Rules.{planned, plan_is, direct_kept}
use Rattle.sound_plans.proofs.Serving.{ServerAt, server_at_number, server_site}
use Rattle.sound_plans.proofs.Servers.{started_is, runnable_of_event}
use Rattle.sound_plans.proofs.Joints.{provided_by}
use Rattle.sound_plans.proofs.Providers.{interface_is, operation_by}
use Rattle.sound_plans.proofs.Points.{inner, outer, inner_call, OuterCall, outer_call}

-- ---- ends

no_call : (k : AccessKind) (port item : ℕ) → not (is_call (record { kind = k; port = port; item = item })) ≡ true → not (same_kind k kind.Call || (same_kind k kind.ACall || same_kind k kind.TakeResult)) ≡ true
no_call kind.Call port item e = absurd (false≢true e)
no_call kind.ACall port item e = absurd (false≢true e)
no_call kind.TakeResult port item e = absurd (false≢true e)
no_call k port item e = refl

module _ (d : Description) (f : Flat) (p : BusPlan) (m : Mapping) (w : IsWhole d f p m) where
  -- what the environment calls is an operation
  pub record Called (k n : ℕ) : Type 0 where
    pub all : List Operation
    pub is : interface_of d f None k ≡ Some (ClientServer all)
    pub operation : Operation
    pub there : slice_get all n ≡ Some operation

  pub outer_operation : (k : ℕ) (port : Port) (n : ℕ) → slice_get (Rattle.plan_definitions.specs.Sites.root_ports d) k ≡ Some port → n < operations_at d port → Called k n
  outer_operation k port n at less = by (slice_get d.types.interfaces port.interface) refl less
    where
      by_kind : (i : Interface) → slice_get d.types.interfaces port.interface ≡ Some i → (x : InterfaceKind) → i.kind ≡ x → n < operation_count x → Called k n
      by_kind i has (ClientServer all) is l = let found = there all n l in record { all = all; is = interface_is d f p m w None k port at ∙ ap (option_map (λ (z : Interface). z.kind)) has ∙ ap (λ z. Some z) is; operation = found.0; there = found.1 }
      by_kind i has (SenderReceiver es) is l = absurd (omega arith)
      by_kind i has (ModeSwitch x) is l = absurd (omega arith)

      by : (o : Option Interface) → slice_get d.types.interfaces port.interface ≡ o → n < option_map_or (λ (i : Interface). operation_count i.kind) o 0 → Called k n
      by None has l = absurd (omega arith)
      by (Some i) has l = by_kind i has i.kind refl l

  module _ (es : List ElemPlan) (s : ℕ) (v : ServerPlan) (x : ServerAt d f p m w s v) where
    unmapped : is_numbered_mapped d f (pair_number (events_of d f) (x.i, x.by.place)) ≡ false → is_mapped d f (x.i, x.by.place) ≡ false
    unmapped e = sym (ap (λ o. option_map_or (is_mapped d f) o false) (number_there d f event_count x.i x.c x.home x.by.place (slice_get_within x.c.behavior.events x.by.place x.by.event x.by.there))) ∙ e

    kept : is_mapped d f (x.i, x.by.place) ≡ false → (option_map_or may_be_direct (slice_get x.c.behavior.runnables x.by.event.runnable) false && not (serves_outside f x.i x.k x.n)) ≡ true
    kept e =
        let side : x.by.event ≡ record { short_name = x.by.event.short_name; runnable = x.by.event.runnable; kind = declared_event.OperationInvoked x.k x.n; disabled_in_modes = x.by.event.disabled_in_modes } =
        λ q. record { short_name = x.by.event.short_name; runnable = x.by.event.runnable; kind = x.by.kind q; disabled_in_modes = x.by.event.disabled_in_modes } in
        let rule : (is_mapped d f (x.i, x.by.place) || (option_map_or may_be_direct (slice_get x.c.behavior.runnables x.by.event.runnable) false && not (serves_outside f x.i x.k x.n))) ≡ true =
        subst (λ z. keeps_direct d f x.i x.c x.by.place z ≡ true) side (direct_kept d f p m w x.i x.c x.home x.by.place x.by.event x.by.there) in
        ap (λ b. b || (option_map_or may_be_direct (slice_get x.c.behavior.runnables x.by.event.runnable) false && not (serves_outside f x.i x.k x.n))) (sym e) ∙ rule

    abbrev calls_nothing : AccessSig → Bool
    calls_nothing a = not (same_kind a.kind kind.Call || (same_kind a.kind kind.ACall || same_kind a.kind kind.TakeResult))

    r : (r : declared_runnable.Runnable) × (slice_get x.c.behavior.runnables x.by.event.runnable ≡ Some r)
    r = runnable_of_event d f p m w es x.i x.c x.home x.by.place x.by.event x.by.there

    makes_none : option_map_or may_be_direct (slice_get x.c.behavior.runnables x.by.event.runnable) false ≡ true → look (runnables d f) (pair_number (runnables_of d f) (x.i, started_by d f x.i x.by.place)) (λ (u : Runnable). list_all calls_nothing u.accesses) false ≡ true
    makes_none e =
        let direct : may_be_direct r.0 ≡ true = ap (λ o. option_map_or may_be_direct o false) (sym r.1) ∙ e in
        let none = (and_parts r.0.can_be_invoked_concurrently (list_all (λ (a : Access). not (is_call a)) r.0.accesses) direct).1 in
        ap (λ n. look (runnables d f) (pair_number (runnables_of d f) (x.i, n)) (λ (u : Runnable). list_all calls_nothing u.accesses) false) (started_is d f p m w x.i x.c x.home x.by.place x.by.event x.by.there)
        ∙ looked (runnables d f) (pair_number (runnables_of d f) (x.i, x.by.event.runnable)) (runnable_of d f x.i x.c x.by.event.runnable r.0) (λ (u : Runnable). list_all calls_nothing u.accesses) false (runnable_there d f x.i x.c x.home x.by.event.runnable r.0 r.1)
        ∙ all_if calls_nothing (map (access_sig d.types x.c) r.0.accesses) (λ j y at. let z = map_at (access_sig d.types x.c) r.0.accesses j y at in
        subst (λ (u : AccessSig). calls_nothing u ≡ true) (sym z.is) (no_call z.item.kind z.item.port z.item.item (all_at (λ (a : Access). not (is_call a)) r.0.accesses j z.item none z.there)))

    -- the environment's points have other servers
    called_outside : (k n : ℕ) → Called k n → (o : Option End) → provider_of f.joins (end_at None k n) ≡ o → option_map (λ (e : End). server_number d f (end_key e)) o ≡ Some s → serves_outside f x.i x.k x.n ≡ true
    called_outside k n h None is e = not_some s e
    called_outside k n h (Some q) is e =
        let by = operation_by d f p m w None k n h.all h.operation h.is h.there q is in
        let j = provided_by f.joins (end_at None k n) q is in
        let number : server_number d f (Some by.i, Some q.port, q.element) ≡ s = ap (λ o. server_number d f (o, Some q.port, q.element)) (sym by.owner) ∙ same_Some (server_number d f (end_key q)) s e in
        let one = server_site d f p m w by.i by.c by.home q.port q.element by.provides in
        let other = server_site d f p m w x.i x.c x.home x.k x.n x.provides in
        let same : site (Some by.i) (Some q.port) q.element Server ≡ site (Some x.i) (Some x.k) x.n Server = same_Some (site (Some by.i) (Some q.port) q.element Server) (site (Some x.i) (Some x.k) x.n Server)
        (sym one ∙ ap (slice_get (servers_of d f)) (number ∙ sym x.number) ∙ other) in
        let port : Some q.port ≡ Some x.k = ap (λ (z : Site). z.port) same in
        let end : q ≡ end_at (Some x.i) x.k x.n = λ t. record { instance = (by.owner ∙ ap (λ (z : Site). z.owner) same) t; port = same_Some q.port x.k port t; element = (ap (λ (z : Site). z.item) same) t } in
        any_passes_from_place (λ (z : Join). same_end (end_at (Some x.i) x.k x.n) z.provided && is_none z.required.instance) f.joins j.has.place j.join j.has.there
        (and_from (same_end (end_at (Some x.i) x.k x.n) j.join.provided) (is_none j.join.required.instance)
        (ap (same_end (end_at (Some x.i) x.k x.n)) (j.provided ∙ end) ∙ same_end_refl (end_at (Some x.i) x.k x.n))
        (ap (λ (z : End). is_none z.instance) j.required))

    not_called : not (serves_outside f x.i x.k x.n) ≡ true → (q : ℕ) (t : PointPlan) → slice_get (points d f) q ≡ Some t → (not (same_number t.server (Some s)) || is_some t.runnable) ≡ true
    not_called outside q t at =
        let y = map_at (point_of d f) (callings d f) q t at in
        subst (λ (u : PointPlan). (not (same_number u.server (Some s)) || is_some u.runnable) ≡ true) (sym y.is) (by y.item (append_at (inner d f) (outer d f) q y.item y.there))
      where
        called : (y : Calling) → OuterCall d f q y → (b : Bool) → same_number (point_of d f y).server (Some s) ≡ b → not b ≡ true
        called y z false is = refl
        called y z true is =
            let server : (point_of d f (outer_calling z.k z.n)).server ≡ Some s = ap (λ (u : Calling). (point_of d f u).server) (sym z.is) ∙ option_same (point_of d f y).server (Some s) is in
            clash (serves_outside f x.i x.k x.n) (called_outside z.k z.n (outer_operation z.k z.port z.n z.there z.within) (provider_of f.joins (end_at None z.k z.n)) refl server) (not-true (serves_outside f x.i x.k x.n) outside)

        by : (y : Calling) → (slice_get (inner d f) q ≡ Some y) ⊎ Later Calling (inner d f) (outer d f) q y → (not (same_number (point_of d f y).server (Some s)) || is_some (point_of d f y).runnable) ≡ true
        by y (inl e) =
            let z = inner_call d f q y e in
            or_right (not (same_number (point_of d f y).server (Some s))) (is_some (point_of d f y).runnable) (ap (λ (u : Calling). is_some (option_map (pair_number (runnables_of d f)) u.caller)) z.is.is)
        by y (inr l) = or_left (not (same_number (point_of d f y).server (Some s))) (is_some (point_of d f y).runnable) (called y (outer_call d f q y l) (same_number (point_of d f y).server (Some s)) refl)

    pub direct_here : direct_sound (planned d f es) s v ≡ true
    direct_here = subst (λ (u : ServerPlan). direct_sound (planned d f es) s u ≡ true) (sym x.is) (by (is_numbered_mapped d f (pair_number (events_of d f) (x.i, x.by.place))) refl)
      where
        by : (b : Bool) → is_numbered_mapped d f (pair_number (events_of d f) (x.i, x.by.place)) ≡ b
            → (is_some (cond b (Some (queue_length_of d f (Some x.i) x.k x.n)) None) || (look (runnables d f) (pair_number (runnables_of d f) (x.i, started_by d f x.i x.by.place)) (λ (u : Runnable). list_all calls_nothing u.accesses) false
            && list_all (λ (t : PointPlan). not (same_number t.server (Some s)) || is_some t.runnable) (points d f))) ≡ true
        by true is = refl
        by false is =
            let two = and_parts (option_map_or may_be_direct (slice_get x.c.behavior.runnables x.by.event.runnable) false) (not (serves_outside f x.i x.k x.n)) (kept (unmapped is)) in
            and_from (look (runnables d f) (pair_number (runnables_of d f) (x.i, started_by d f x.i x.by.place)) (λ (u : Runnable). list_all calls_nothing u.accesses) false) (list_all (λ (t : PointPlan). not (same_number t.server (Some s)) || is_some t.runnable) (points d f))
            (makes_none two.0) (all_if (λ (t : PointPlan). not (same_number t.server (Some s)) || is_some t.runnable) (points d f) (not_called two.1))

  pub all_direct : (es : List ElemPlan) → every_from 0 (direct_sound (planned d f es)) (servers d f) ≡ true
  all_direct es = every_if (direct_sound (planned d f es)) 0 (servers d f) (λ s v at. let none : s ≡ 0 + s = omega arith in subst (λ k. direct_sound (planned d f es) k v ≡ true) none (direct_here es s v (server_at_number d f p m w s v at)))

pub direct_servers_sound : (d : Description) (f : Flat) (p : BusPlan) (m : Mapping) → IsWhole d f p m → every_from 0 (direct_sound (plan_of p)) (plan_of p).servers ≡ true
direct_servers_sound d f p m w = (λ j. every_from 0 (direct_sound (plan_is d f p w.is_plan j)) (plan_is d f p w.is_plan j).servers) ∙ all_direct d f p m w p.elements
