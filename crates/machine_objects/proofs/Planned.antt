-- The objects of a sound plan that have a machine's number are machines.
use Rattle.std.proofs.Common.{◌≡◌, ◌≤◌, ◌<◌, ◌+◌, ℕ, Bool, true, false, not, ◌&&◌, ◌||◌, ◌==◌, refl, sym, ◌∙◌, ap, subst, arith, length, Option, Some, None}
use Rattle.std.specs.Prelude.{nat_le, nat_lt}
use Rattle.bus_semantics.specs.Common.{slice_get, option_map_or, and_parts, eq-eqb, eqb-true, false≢true, leb-true, ltb-true, same_number, Plan, every_from, kind_of, instance_of, server_of}
use Rattle.bus_semantics.specs.Common.{bundle_of, first_machine, clock, server_object, object_of_kind, disabler_of, is_in, machine_sound, kind_sound, disabling_sound, may_be_disabled}
use Rattle.bus_semantics.specs.Common.{is_invoked, event_sound, IsSound}
use Rattle.bus_semantics.specs.declared.plan.MachinePlan.{MachinePlan}
use Rattle.bus_semantics.specs.declared.plan.EventPlan.{EventPlan}
use Rattle.bus_semantics.specs.declared.plan.EventKind.{EventKind}
use Rattle.bus_semantics.specs.declared.plan.EventKind.TheVariants.{Timing, Init, DataReceived, Invoked, Returns, ModeSwitch, Ack}
use Rattle.bus_semantics.specs.declared.plan.Disabling.{Disabling}
use Rattle.bus_semantics.specs.declared.script.Mapping.{Mapping}
use Rattle.object_kinds.proofs.Lists.{all_at, every_at}
use Rattle.object_kinds.proofs.Ranges.{bundle_within, joined_server, switching_machine, acked_machine, disabling_machine}
use Rattle.machine_objects.specs.Layout.{IsMachine, machine_of, waits_for_phase, waits_for_end, may_disable, starts_elsewhere, mattering}
use Rattle.machine_objects.specs.Plans.{AreTheirs}
use Rattle.machine_objects.proofs.Picking.{by_both, item_at, all_picked}

same_way : (a b : ℕ) → (a == b) ≡ (b == a)
same_way a b = by_both (a == b) (b == a) (λ e. eq-eqb b a (sym (eqb-true a b e))) (λ e. eq-eqb a b (sym (eqb-true b a e)))

alone : (b : Bool) → (b || false) ≡ b
alone true = refl
alone false = refl

module _ (p : Plan) (mapping : Mapping) (sound : IsSound p mapping) where
  -- what an event may be that a mode disables
  disabled_kind : (e : ℕ) (v : EventPlan) (d : Disabling) → slice_get p.events e ≡ Some v → v.disabled ≡ Some d → may_be_disabled v.kind ≡ true
  disabled_kind e v d found is =
      let a = nat_lt v.runnable (length p.runnables) in
      let b = kind_sound p e v.runnable (instance_of p v.runnable) v.kind in
      let c = disabling_sound p (instance_of p v.runnable) v.kind v.disabled in
      let rest = not (is_invoked v.kind) || every_from 0 (λ i (w : EventPlan). (i == e) || not (w.runnable == v.runnable)) p.events in
      let whole : event_sound p e v ≡ true = every_at (event_sound p) 0 p.events (and_parts (every_from 0 (event_sound p) p.events) (nat_le (length p.events) 16384) sound.events).0 e e v (omega arith) found in
      let fits : disabling_sound p (instance_of p v.runnable) v.kind v.disabled ≡ true = (and_parts c rest (and_parts b (c && rest) (and_parts a (b && (c && rest)) whole).1).1).0 in
      let some : disabling_sound p (instance_of p v.runnable) v.kind (Some d) ≡ true = ap (disabling_sound p (instance_of p v.runnable) v.kind) (sym is) ∙ fits in
      (and_parts (may_be_disabled v.kind) _ some).0

  may_be : (m e : ℕ) → may_disable p m e ≡ true → may_be_disabled (kind_of p e) ≡ true
  may_be m e may = by_event (slice_get p.events e) refl
    where
      by_event : (o : Option EventPlan) → slice_get p.events e ≡ o → may_be_disabled (kind_of p e) ≡ true
      by_event None none = let no = rw none at may in absurd (false≢true no)
      by_event (Some v) found = by_disabling v.disabled refl
        where
          by_disabling : (o : Option Disabling) → v.disabled ≡ o → may_be_disabled (kind_of p e) ≡ true
          by_disabling None is = let no = rw (found, is) at may in absurd (false≢true no)
          by_disabling (Some d) is = ap (λ (o : Option EventPlan). may_be_disabled (option_map_or (λ (w : EventPlan). w.kind) o Init)) found ∙ disabled_kind e v d found is

  -- what a mode may not disable no machine disables
  not_disabled : (m e : ℕ) → may_be_disabled (kind_of p e) ≡ false → may_disable p m e ≡ false
  not_disabled m e never = by_test (may_disable p m e) refl
    where
      by_test : (b : Bool) → may_disable p m e ≡ b → b ≡ false
      by_test true is = absurd (false≢true (sym never ∙ may_be m e is))
      by_test false is = refl

  one_machine : (e m : ℕ) (k : EventKind) → kind_of p e ≡ k → (waits_for_phase m k || (waits_for_end m k || may_disable p m e)) ≡ same_number (mattering k (disabler_of p e)) (Some m)
  one_machine e m (ModeSwitch n at) is = ap (λ b. (m == n) || b) (not_disabled m e (ap may_be_disabled is)) ∙ alone (m == n) ∙ same_way m n
  one_machine e m (Ack n) is = ap (λ b. (m == n) || b) (not_disabled m e (ap may_be_disabled is)) ∙ alone (m == n) ∙ same_way m n
  one_machine e m (Timing period) is = refl
  one_machine e m Init is = refl
  one_machine e m (DataReceived x) is = refl
  one_machine e m (Invoked s) is = refl
  one_machine e m (Returns q) is = refl

  machine_within : (e m : ℕ) (k : EventKind) → kind_of p e ≡ k → mattering k (disabler_of p e) ≡ Some m → m < length p.machines
  machine_within e m (ModeSwitch n at) kind is = let same : n ≡ m = cc in subst (λ z. z < length p.machines) same (switching_machine p mapping sound e n at kind)
  machine_within e m (Ack n) kind is = let same : n ≡ m = cc in subst (λ z. z < length p.machines) same (acked_machine p mapping sound e n kind)
  machine_within e m (Timing period) kind is = disabling_machine p mapping sound e m is
  machine_within e m Init kind is = disabling_machine p mapping sound e m is
  machine_within e m (DataReceived x) kind is = disabling_machine p mapping sound e m is
  machine_within e m (Invoked s) kind is = disabling_machine p mapping sound e m is
  machine_within e m (Returns q) kind is = disabling_machine p mapping sound e m is

  pub theirs : AreTheirs p
  theirs = record { one = λ e m. one_machine e m (kind_of p e) refl; within = λ e m. machine_within e m (kind_of p e) refl }

  module _ (object : ℕ) (from : first_machine p ≤ object) (below : object < clock p) where
    apart_from : (o : Option ℕ) → ((n : ℕ) → o ≡ Some n → n ≡ object → ⊥) → not (same_number o (Some object)) ≡ true
    apart_from None other = refl
    apart_from (Some n) other = by_test (n == object) refl
      where
        by_test : (b : Bool) → (n == object) ≡ b → not b ≡ true
        by_test true same = absurd (other n refl (eqb-true n object same))
        by_test false same = refl

    -- a start of such an event touches another object
    elsewhere : (k : EventKind) → may_be_disabled k ≡ true → not (same_number (object_of_kind p k) (Some object)) ≡ true
    elsewhere (Timing period) may = apart_from (Some (clock p)) (λ n is same. let here : clock p ≡ n = cc in absurd (omega arith))
    elsewhere Init may = apart_from (Some (clock p)) (λ n is same. let here : clock p ≡ n = cc in absurd (omega arith))
    elsewhere (DataReceived x) may = apart_from (bundle_of p x) (λ n is same. let within = bundle_within p mapping sound x n is in absurd (omega arith))
    elsewhere (Returns q) may = of_server (server_of p q) (joined_server p mapping sound q)
      where
        of_server : (o : Option ℕ) → ((s : ℕ) → o ≡ Some s → s < length p.servers) → not (same_number (server_object p o) (Some object)) ≡ true
        of_server None within = refl
        of_server (Some s) within = apart_from (server_object p (Some s)) (λ n is same. let here : length p.bundles + s ≡ n = cc in let less = within s refl in absurd (omega arith))
    elsewhere (Invoked s) may = absurd (false≢true may)
    elsewhere (ModeSwitch n at) may = absurd (false≢true may)
    elsewhere (Ack n) may = absurd (false≢true may)

    pub machine_planned : IsMachine p object
    machine_planned =
        let at = item_at p.machines (machine_of p object) (omega arith) in
        let n : MachinePlan = at.0 in
        let fits : machine_sound n ≡ true = all_at machine_sound p.machines (machine_of p object) n sound.machines at.1 in
        let modes = is_in 1 32 (length n.modes) in
        let rest = nat_lt n.initial (length n.modes) && is_in 1 1024 n.queue in
        let few : length n.modes ≤ 32 = leb-true (length n.modes) 32 (and_parts (nat_le 1 (length n.modes)) (nat_le (length n.modes) 32) (and_parts modes rest fits).0).1 in
        let less : n.initial < length n.modes = ltb-true n.initial (length n.modes) (and_parts (nat_lt n.initial (length n.modes)) (is_in 1 1024 n.queue) (and_parts modes rest fits).1).0 in
        record {
          from = from;
          below = below;
          initial = rw at.1 (omega arith);
          few_modes = rw at.1 (omega arith);
          apart = all_picked (may_disable p (machine_of p object)) (starts_elsewhere p object) (length p.events) (λ e within may. elsewhere (kind_of p e) (may_be (machine_of p object) e may));
        }
