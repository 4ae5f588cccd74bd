-- A start goes by its flag, and only a send sets one.
use Rattle.std.proofs.Common.{◌≡◌, ℕ, Bool, true, false, if◌then◌else◌, refl, sym, ◌∙◌, ap, subst, List, Option, Some, None}
use Rattle.std.specs.Prelude.{option_map, unwrap_or}
use Rattle.bus_semantics.specs.Common.{false≢true, Value, Plan, to_start, wanted_by}
use Rattle.bus_semantics.specs.declared.entries.Deed.{Deed}
use Rattle.bus_semantics.specs.declared.entries.Deed.TheVariants as deed
use Rattle.queued_ports.specs.Kept as ports
use Rattle.object_kinds.specs.Common.{StartsByFlag, OthersWakeNothing, place, given, is_set, is_pending}
use Rattle.object_kinds.proofs.Flags.{pending_cleared}
use Rattle.object_kinds.proofs.Options.{given_some, given_none, none_given, then_some, mapped_some}
use Rattle.queue_objects.specs.Kept.{may_start}
use Rattle.queue_objects.specs.Layout.{is_joined_at}
use Rattle.queue_objects.specs.Leading.{is_received, received_at_place, is_unconnected, started_at, lead_of_queues, with_queues, lead, wakes}

-- ---- a start that is not pending

not_started : (k : ports.Kept) (at : Option ℕ) → is_pending k.due at ≡ false → started_at k at ≡ None
not_started k None held = refl
not_started k (Some i) held = given_none (is_set k.due i) (ports.after_start i k) held

pub not_pending : (k : ports.Kept) (at : Option ℕ) → started_at k at ≡ None → is_pending k.due at ≡ false
not_pending k None none = refl
not_pending k (Some i) none = none_given (is_set k.due i) (ports.after_start i k) none

pub starts_by : (p : Plan) (receivers events : List ℕ) (k : ports.Kept) (d : Deed) (by event : ℕ) → wanted_by by d ≡ to_start event → lead_of_queues p receivers events k d ≡ started_at k (place event events)
starts_by p receivers events k (deed.Start e point value) by event same = let is : e ≡ event = cc in rw is refl
starts_by p receivers events k d by event same = absurd (cc same)

pub by_flags : (p : Plan) → StartsByFlag may_start (lead p)
by_flags p k event n off start =
    ap (option_map (with_queues k)) (starts_by p k.receivers k.events k.queued n.entry.deed (unwrap_or n.event 0) event start.wish ∙ not_started k.queued (place event k.events) off)

-- ---- what a Receive and a start leave

-- a Receive changes no flag, and a start clears one
record Leaves (k after : ports.Kept) : Type 0 where
  due : (at : Option ℕ) → is_pending k.due at ≡ false → is_pending after.due at ≡ false

receive_leaves : (code : ℕ) (value : Value) (k after : ports.Kept) (at : Option ℕ) → received_at_place code value k at ≡ Some after → Leaves k after
receive_leaves code value k after at leads =
    let there = then_some (λ r. given (is_received code value (ports.answer_to_receive r k)) (ports.after_receive r k)) at after leads in
    let gives = given_some (is_received code value (ports.answer_to_receive there.item k)) (ports.after_receive there.item k) after there.gives in
    subst (Leaves k) gives.same (record { due = λ at off. off })

group_leaves : (p : Plan) (receivers events : List ℕ) (k after : ports.Kept) (d : Deed) → lead_of_queues p receivers events k d ≡ Some after → wakes d ≡ false → Leaves k after
group_leaves p receivers events k after (deed.Receive x code value) leads other = by_join (is_joined_at p x) leads
  where
    by_join : (b : Bool) → (if b then received_at_place code value k (place x receivers) else given (is_unconnected code value) k) ≡ Some after → Leaves k after
    by_join true gives = receive_leaves code value k after (place x receivers) gives
    by_join false gives = subst (Leaves k) (given_some (is_unconnected code value) k after gives).same (record { due = λ at off. off })
group_leaves p receivers events k after (deed.Start e point value) leads other =
    let there = then_some (λ i. given (is_set k.due i) (ports.after_start i k)) (place e events) after leads in
    let gives = given_some (is_set k.due there.item) (ports.after_start there.item k) after there.gives in
    subst (Leaves k) gives.same (record { due = λ at off. pending_cleared k.due there.item at off })
group_leaves p receivers events k after (deed.Send x value code) leads other = absurd (false≢true (sym other))
group_leaves p receivers events k after d leads other = absurd (cc leads)

pub wakes_nothing : (p : Plan) → OthersWakeNothing wakes may_start (lead p)
wakes_nothing p before after n leads other event off =
    let of = mapped_some (with_queues before) (lead_of_queues p before.receivers before.events before.queued n.entry.deed) after leads in
    subst (λ z. may_start z event ≡ false) of.gives ((group_leaves p before.receivers before.events before.queued of.item n.entry.deed of.is other).due (place event before.events) off)
