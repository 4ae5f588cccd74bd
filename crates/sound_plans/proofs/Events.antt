-- Events are sound: what they name is there and is of their instance.
use Rattle.std.proofs.Common.{◌≡◌, ℕ, ◌+◌, Bool, true, false, ◌&&◌, ◌||◌, not, ◌==◌, refl, sym, ◌∙◌, ap, subst, arith, List, map, length, Option, Some, None, option_map}
use Rattle.std.specs.Prelude.{nat_lt, nat_le}
use Rattle.bus_semantics.specs.Common.{slice_get, list_all, false≢true, eqb-true, eq-eqb, and_from, and_parts, le-leb, lt-ltb, ltb-false, or_left, or_parts, or_right, slice_get_within}
use Rattle.bus_semantics.specs.Common.{any_passes_from_place, same_number, modes_of, plan_of, every_from, instance_of, moment_sound, requires_machine, kind_sound, may_be_disabled}
use Rattle.bus_semantics.specs.Common.{disabling_sound, is_invoked, event_sound, is_variable}
use Rattle.plan_definitions.specs.Common.{Interface, SwImplPolicy, Standard, Queued, Component, DisabledInModes, ModeActivation, Provided, Required, Description, Flat, item_at}
use Rattle.plan_definitions.specs.Common.{plan_of as whole_plan, queue_lengths, things, elem_seen, elements, policy_kind, pair_number, events_of, runnables_of, element_number, machine_for}
use Rattle.plan_definitions.specs.Common.{machine_number, mode_port_number, server_number, moment_of, disabling_of, events, runnables, machines, mode_ports, mode_port_at, server_at, servers}
use Rattle.plan_definitions.specs.Common.{started_by, IsWhole}
use Rattle.description_types.specs.declared.component.EventKind as declared_kind
use Rattle.description_types.specs.declared.component.EventKind.TheVariants as declared_event
use Rattle.description_types.specs.declared.component.ModeActivation.TheVariants as activation
use Rattle.description_types.specs.declared.component.Runnable as declared_runnable
use Rattle.bus_laws.specs.Common.{BusPlan, ElemPlan, EventPlan, MachinePlan, ModePortPlan, ServerPlan, Mapping}
use Rattle.plan_definitions.specs.declared.item.Item.TheVariants.{Data, Modes}
use Rattle.plan_definitions.specs.Events as starting
use Rattle.plan_definitions.specs.Started.{kind_of}
use Rattle.plan_definitions.specs.WellFormed as formed
use Rattle.bus_laws.proofs.Thinning.{option_test}
use Rattle.sound_plans.proofs.Places.{every_if, looked}
use Rattle.sound_plans.proofs.Parts.{Home, same_home, EventAt, event_at, runnable_there, numbers_apart, runnable_count}
use Rattle.sound_plans.proofs.Rules.{planned, plan_is, kind_kept, disabling_kept, return_kept, event_formed, of_size}
use Rattle.sound_plans.proofs.SiteNumbers.{ports_at_home}
use Rattle.sound_plans.proofs.Items.{item_there, data_required, modes_provided, modes_required, modes_item}
use Rattle.sound_plans.proofs.Serving.{server_there}
use Rattle.sound_plans.proofs.Servers.{started_is, alone, runnable_of_event}
use Rattle.sound_plans.proofs.Tasks.{starts_within}
use Rattle.sound_plans.proofs.Providers.{machine_there, required_machine, required_modes, mode_port_there}
use Rattle.sound_plans.proofs.ElemNumbers.{data_elem}
use Rattle.sound_plans.proofs.Points.{left_by_access}
use Rattle.sound_plans.proofs.Callers.{result_there, home_of}
use Rattle.sound_plans.proofs.Elems.{queued, unqueued}

-- a data element is no variable
no_variable : (policy : SwImplPolicy) → not (not (queued (policy_kind policy) || unqueued (policy_kind policy))) ≡ true
no_variable Standard = refl
no_variable Queued = refl

moments : (n : ℕ) (when : ModeActivation) → starting.has_moment (Some n) when ≡ true → moment_sound n (moment_of when) ≡ true
moments n (activation.OnEntry mode) e = e
moments n (activation.OnExit mode) e = e
moments n (activation.OnTransition before after) e = e

has_count : (o : Option ℕ) (when : ModeActivation) → starting.has_moment o when ≡ true → (n : ℕ) × (o ≡ Some n)
has_count None when e = absurd (false≢true e)
has_count (Some n) when e = (n, refl)

modes_count : (o : Option ℕ) (modes : List ℕ) → starting.has_modes o modes ≡ true → (n : ℕ) × (o ≡ Some n)
modes_count None modes e = absurd (false≢true e)
modes_count (Some n) modes e = (n, refl)

module _ (d : Description) (f : Flat) (p : BusPlan) (m : Mapping) (w : IsWhole d f p m) (es : List ElemPlan) (seen_as : map elem_seen es ≡ elements d f) where
  -- ---- modes that an instance requires

  record Requires (i k count : ℕ) : Type 0 where
    required : requires_machine (planned d f es) (Some i) (machine_for d f (Some i) k) ≡ true
    modes : modes_of (planned d f es) (machine_for d f (Some i) k) ≡ count

  requires_modes : (i : ℕ) (c : Component) → Home d f i c → (k count : ℕ) → item_at d.types c.ports k 0 ≡ Some (Required, Modes count) → Requires i k count
  requires_modes i c home k count e =
      let x = item_there d.types c.ports k 0 Required (Modes count) e in
      let y = required_machine d f p m w i c home k count x in
      record {
        required = any_passes_from_place (λ (t : ModePortPlan). same_number t.instance (Some i) && (t.machine == machine_for d f (Some i) k)) (mode_ports d f) (mode_port_number d f i k) (mode_port_at d f (Some i) k) (mode_port_there d f p m w i c home k count x)
            (and_from (same_number (Some i) (Some i)) (machine_for d f (Some i) k == machine_for d f (Some i) k) (option_test (Some i) (Some i) refl) (eq-eqb (machine_for d f (Some i) k) (machine_for d f (Some i) k) refl));
        modes = looked (machines d f) (machine_for d f (Some i) k) y.machine (λ (n : MachinePlan). length n.modes) 0 y.there ∙ required_modes d f p m w i c home k count x;
      }

  -- ---- events

  module _ (e : ℕ) (v : EventPlan) (x : EventAt d f e v) where
    started : ℕ
    started = pair_number (runnables_of d f) (x.i, x.event.runnable)

    r : (r : declared_runnable.Runnable) × (slice_get x.c.behavior.runnables x.event.runnable ≡ Some r)
    r = runnable_of_event d f p m w es x.i x.c x.home x.m x.event x.there

    started_there : nat_lt started (length (runnables d f)) ≡ true
    unfolding started
    started_there = lt-ltb started (length (runnables d f)) (slice_get_within (runnables d f) started _ (runnable_there d f x.i x.c x.home x.event.runnable r.0 r.1))

    home : instance_of (planned d f es) started ≡ Some x.i
    unfolding started
    home = home_of d f p m w es x.i x.c x.home x.event.runnable r.0 r.1

    kept : (kind : declared_kind.EventKind) → x.event.kind ≡ kind → starting.kind_fits d.types x.c.ports kind ≡ true
    kept kind is = subst (λ k. starting.kind_fits d.types x.c.ports k ≡ true) is (kind_kept d f p m w x.home.instance.component x.c x.home.has x.m x.event x.there)

    fits : formed.event_fits d.types x.c x.event ≡ true
    fits = event_formed d f p m w x.home.instance.component x.c x.home.has x.m x.event x.there

    kind_here : (kind : declared_kind.EventKind) → x.event.kind ≡ kind → kind_sound (planned d f es) e started (Some x.i) (kind_of d f x.i kind) ≡ true
    unfolding started
    kind_here (declared_event.Timing period) is = subst (λ k. formed.event_kind_fits d.types x.c k ≡ true) is (and_parts (formed.event_kind_fits d.types x.c x.event.kind) _ (and_parts (nat_lt x.event.runnable (length x.c.behavior.runnables)) _ fits).1).0
    kind_here declared_event.Init is = refl
    kind_here (declared_event.DataReceived k n) is =
        let req = data_required (item_at d.types x.c.ports k n) (kept (declared_event.DataReceived k n) is) in
        let item = item_there d.types x.c.ports k n Required (Data req.0) req.1 in
        let y = data_elem d f es seen_as x.i x.c x.home k n Required req.0 item in
        looked es (element_number d f x.i (Some k) n) y.elem (λ (u : ElemPlan). same_number u.instance (Some x.i) && (not (is_variable u) && not u.provided)) false y.there
        ∙ and_from (same_number y.elem.instance (Some x.i)) (not (is_variable y.elem) && not y.elem.provided) (option_test y.elem.instance (Some x.i) y.owner)
        (and_from (not (is_variable y.elem)) (not y.elem.provided) (ap (λ k. not (not (queued k || unqueued k))) y.kept ∙ no_variable req.0) (ap not y.side))
    kind_here (declared_event.OperationInvoked k n) is =
        looked (servers d f) (server_number d f (Some x.i, Some k, n)) (server_at d f x.i k n x.m) (λ (u : ServerPlan). (u.event == e) && ((u.runnable == started) && same_number (Some u.instance) (Some x.i))) false
        (server_there d f p m w x.i x.c x.home k n x.m x.event x.there is)
        ∙ and_from (pair_number (events_of d f) (x.i, x.m) == e) _ (eq-eqb (pair_number (events_of d f) (x.i, x.m)) e x.number)
        (and_from (pair_number (runnables_of d f) (x.i, started_by d f x.i x.m) == started) (same_number (Some x.i) (Some x.i))
        (eq-eqb (pair_number (runnables_of d f) (x.i, started_by d f x.i x.m)) started (ap (λ n. pair_number (runnables_of d f) (x.i, n)) (started_is d f p m w x.i x.c x.home x.m x.event x.there)))
        (option_test (Some x.i) (Some x.i) refl))
    kind_here (declared_event.CallReturns k n) is =
        result_there d f p m w es x.i x.c x.home k n (left_by_access d f p m w x.home.instance.component x.c x.home.has k n
        (subst (λ k. Rattle.plan_definitions.specs.Calls.event_keeps x.c.behavior.runnables k ≡ true) is (return_kept d f p m w x.home.instance.component x.c x.home.has x.m x.event x.there)))
    kind_here (declared_event.ModeSwitch k when) is =
        let fit : starting.has_moment (starting.required_modes (item_at d.types x.c.ports k 0)) when ≡ true = kept (declared_event.ModeSwitch k when) is in
        let n = has_count (starting.required_modes (item_at d.types x.c.ports k 0)) when fit in
        let y = requires_modes x.i x.c x.home k n.0 (modes_required (item_at d.types x.c.ports k 0) n.0 n.1) in
        and_from (requires_machine (planned d f es) (Some x.i) (machine_for d f (Some x.i) k)) (moment_sound (modes_of (planned d f es) (machine_for d f (Some x.i) k)) (moment_of when)) y.required
        (ap (λ n. moment_sound n (moment_of when)) y.modes ∙ moments n.0 when (subst (λ o. starting.has_moment o when ≡ true) n.1 fit))
    kind_here (declared_event.ModeSwitchedAck k) is =
        let prov = modes_provided (item_at d.types x.c.ports k 0) (kept (declared_event.ModeSwitchedAck k) is) in
        let item = item_there d.types x.c.ports k 0 Provided (Modes prov.0) prov.1 in
        let z = modes_item d.types item.interface.kind 0 prov.0 item.is in
        looked (machines d f) (machine_number d f (Some x.i, Some k, 0)) _ (λ (n : MachinePlan). same_number n.instance (Some x.i)) false
        (machine_there d f p m w (Some x.i) k item.port z.element (ap (λ ps. slice_get ps k) (ports_at_home d f x.i x.c x.home) ∙ item.there) (ap (λ s. Rattle.plan_definitions.specs.Sites.provides_at (Some x.i) s) item.kind)
        (ap (option_map (λ (i : Interface). i.kind)) item.has ∙ ap (λ k. Some k) z.is))
        ∙ option_test (Some x.i) (Some x.i) refl

    -- ---- modes that disable it

    same_disabled : (kind : declared_kind.EventKind) → starting.may_be_disabled kind ≡ true → may_be_disabled (kind_of d f x.i kind) ≡ true
    same_disabled (declared_event.Timing period) e = refl
    same_disabled declared_event.Init e = refl
    same_disabled (declared_event.DataReceived k n) e = refl
    same_disabled (declared_event.OperationInvoked k n) e = absurd (false≢true e)
    same_disabled (declared_event.CallReturns k n) e = refl
    same_disabled (declared_event.ModeSwitch k when) e = absurd (false≢true e)
    same_disabled (declared_event.ModeSwitchedAck k) e = absurd (false≢true e)

    disabling_here : (o : Option DisabledInModes) → starting.disabling_fits d.types x.c.ports x.event.kind o ≡ true → disabling_sound (planned d f es) (Some x.i) (kind_of d f x.i x.event.kind) (option_map (disabling_of d f x.i) o) ≡ true
    disabling_here None e = refl
    disabling_here (Some s) e =
        let two = and_parts (starting.may_be_disabled x.event.kind) (starting.has_modes (starting.required_modes (item_at d.types x.c.ports s.port 0)) s.modes) e in
        let n = modes_count (starting.required_modes (item_at d.types x.c.ports s.port 0)) s.modes two.1 in
        let y = requires_modes x.i x.c x.home s.port n.0 (modes_required (item_at d.types x.c.ports s.port 0) n.0 n.1) in
        let all : list_all (λ mode. nat_lt mode n.0) s.modes ≡ true = subst (λ o. starting.has_modes o s.modes ≡ true) n.1 two.1 in
        and_from (may_be_disabled (kind_of d f x.i x.event.kind)) _ (same_disabled x.event.kind two.0)
        (and_from (requires_machine (planned d f es) (Some x.i) (machine_for d f (Some x.i) s.port)) (list_all (λ mode. nat_lt mode (modes_of (planned d f es) (machine_for d f (Some x.i) s.port))) s.modes) y.required
        (subst (λ n. list_all (λ mode. nat_lt mode n) s.modes ≡ true) (sym y.modes) all))

    -- ---- a runnable that is invoked has no other event

    other_runnable : (k n : ℕ) → x.event.kind ≡ declared_event.OperationInvoked k n → (a : ℕ) (u : EventPlan) → slice_get (events d f) a ≡ Some u → ((a == e) || not (u.runnable == started)) ≡ true
    unfolding started
    other_runnable k n is a u at = by (u.runnable == started) refl
      where
        y : EventAt d f a u
        y = event_at d f a u at

        by : (b : Bool) → (u.runnable == started) ≡ b → ((a == e) || not b) ≡ true
        by false differs = or_right (a == e) true refl
        by true same =
            let number : pair_number (runnables_of d f) (y.i, y.event.runnable) ≡ pair_number (runnables_of d f) (x.i, x.event.runnable) = ap (λ (t : EventPlan). t.runnable) (sym y.is) ∙ eqb-true u.runnable started same in
            let apart = numbers_apart d f runnable_count y.i x.i y.c x.c y.home x.home y.event.runnable x.event.runnable (starts_within d f p m w es y.i y.c y.home y.m y.event y.there) (starts_within d f p m w es x.i x.c x.home x.m x.event x.there) number in
            let comp : y.c ≡ x.c = same_home d f x.i y.c x.c (subst (λ j. Home d f j y.c) apart.0 y.home) x.home in
            let there : slice_get x.c.behavior.events y.m ≡ Some y.event = subst (λ (z : Component). slice_get z.behavior.events y.m ≡ Some y.event) comp y.there in
            let place : y.m ≡ x.m = alone d f p m w x.i x.c x.home x.m x.event k n x.there is y.m y.event there apart.1 in
            or_left (a == e) false (eq-eqb a e (sym y.number ∙ (λ j. pair_number (events_of d f) (apart.0 j, place j)) ∙ x.number))

    sole : (kind : declared_kind.EventKind) → x.event.kind ≡ kind → (not (is_invoked (kind_of d f x.i kind)) || every_from 0 (λ i (u : EventPlan). (i == e) || not (u.runnable == started)) (events d f)) ≡ true
    sole (declared_event.Timing period) is = refl
    sole declared_event.Init is = refl
    sole (declared_event.DataReceived k n) is = refl
    sole (declared_event.OperationInvoked k n) is = every_if (λ i (u : EventPlan). (i == e) || not (u.runnable == started)) 0 (events d f)
        (λ a u at. let none : a ≡ 0 + a = omega arith in subst (λ j. ((j == e) || not (u.runnable == started)) ≡ true) none (other_runnable k n is a u at))
    sole (declared_event.CallReturns k n) is = refl
    sole (declared_event.ModeSwitch k when) is = refl
    sole (declared_event.ModeSwitchedAck k) is = refl

    pub sound_here : event_sound (planned d f es) e v ≡ true
    unfolding started
    sound_here = subst (λ (u : EventPlan). event_sound (planned d f es) e u ≡ true) (sym x.is)
        (and_from (nat_lt started (length (runnables d f))) _ started_there
        (and_from (kind_sound (planned d f es) e started (instance_of (planned d f es) started) (kind_of d f x.i x.event.kind)) _
        (subst (λ o. kind_sound (planned d f es) e started o (kind_of d f x.i x.event.kind) ≡ true) (sym home) (kind_here x.event.kind refl))
        (and_from (disabling_sound (planned d f es) (instance_of (planned d f es) started) (kind_of d f x.i x.event.kind) (option_map (disabling_of d f x.i) x.event.disabled_in_modes)) _
        (subst (λ o. disabling_sound (planned d f es) o (kind_of d f x.i x.event.kind) (option_map (disabling_of d f x.i) x.event.disabled_in_modes) ≡ true) (sym home)
        (disabling_here x.event.disabled_in_modes (disabling_kept d f p m w x.home.instance.component x.c x.home.has x.m x.event x.there)))
        (sole x.event.kind refl))))

  few : nat_le (length (events d f)) 16384 ≡ true
  few =
      let a = or_parts (nat_lt 16384 (things (whole_plan d f)) || nat_lt 16384 (length (events d f))) (nat_lt 65536 (queue_lengths (whole_plan d f)) || nat_lt 262144 (length (whole_plan d f).points)) (of_size d f p m w) in
      let b = (or_parts (nat_lt 16384 (things (whole_plan d f))) (nat_lt 16384 (length (events d f))) a.0).1 in
      le-leb (length (events d f)) 16384 (ltb-false 16384 (length (events d f)) b)

  pub all_events : (every_from 0 (event_sound (planned d f es)) (events d f) && nat_le (length (events d f)) 16384) ≡ true
  all_events = and_from (every_from 0 (event_sound (planned d f es)) (events d f)) (nat_le (length (events d f)) 16384)
      (every_if (event_sound (planned d f es)) 0 (events d f) (λ e v at. let none : e ≡ 0 + e = omega arith in subst (λ k. event_sound (planned d f es) k v ≡ true) none (sound_here e v (event_at d f e v at)))) few

pub elements_seen : (d : Description) (f : Flat) (p : BusPlan) (m : Mapping) → IsWhole d f p m → map elem_seen p.elements ≡ elements d f
elements_seen d f p m w = λ j. (w.is_plan j).elements

pub events_sound : (d : Description) (f : Flat) (p : BusPlan) (m : Mapping) → IsWhole d f p m → (every_from 0 (event_sound (plan_of p)) (plan_of p).events && nat_le (length (plan_of p).events) 16384) ≡ true
events_sound d f p m w =
    (λ j. every_from 0 (event_sound (plan_is d f p w.is_plan j)) (plan_is d f p w.is_plan j).events && nat_le (length (plan_is d f p w.is_plan j).events) 16384) ∙ all_events d f p m w p.elements (elements_seen d f p m w)
