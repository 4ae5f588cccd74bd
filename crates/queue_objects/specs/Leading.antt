-- The lead: what a group keeps after an entry if it kept that before, or nothing if it would not answer so (SWS_RTE: Rte_Send,
-- Rte_Receive, DataReceivedEvent). It is a function of the plan and of plain data, and knows no history. The entry touches the group.
use Rattle.std.specs.Prelude.{ℕ, List, [], Bool, true, false, ◌&&◌, ◌==◌, if◌then◌else◌, Option, Some, None, option_map, option_and_then}
use Rattle.bus_semantics.specs.Common.{Value, words_of, same_words, Plan, Noted, Wanted, to_start}
use Rattle.bus_semantics.specs.declared.entries.Deed.{Deed}
use Rattle.bus_semantics.specs.declared.entries.Deed.TheVariants as deed
use Rattle.queued_ports.specs.declared.received.Received.{Received}
use Rattle.queued_ports.specs.Kept as ports
use Rattle.object_kinds.specs.declared.acted.Shown.{Shown}
use Rattle.object_kinds.specs.declared.acted.Shown.TheVariants.{NotDue, Unmatched}
use Rattle.object_kinds.specs.Common.{place, given, is_set}
use Rattle.queue_objects.specs.Layout.{is_joined_at}
use Rattle.queue_objects.specs.Kept.{Kept}

-- this code and these words were received (Rte_Receive)
abbrev pub is_received : (code : ℕ) → Value → Option Received → Bool
is_received code v None = false
is_received code v (Some r) = (code == r.code) && same_words (words_of v) (words_of r.value)

-- the receiver at this place receives this code and these words
abbrev pub received_at_place : (code : ℕ) → Value → ports.Kept → (place : Option ℕ) → Option ports.Kept
received_at_place code v k at = option_and_then (λ r. given (is_received code v (ports.answer_to_receive r k)) (ports.after_receive r k)) at

-- 134 RTE_E_UNCONNECTED and no words (Rte_Receive by an element without a join)
abbrev pub is_unconnected : (code : ℕ) → Value → Bool
is_unconnected code v = (code == 134) && same_words (words_of v) []

-- a start by the event at this place (DataReceivedEvent)
abbrev pub started_at : ports.Kept → (place : Option ℕ) → Option ports.Kept
started_at k at = option_and_then (λ i. given (is_set k.due i) (ports.after_start i k)) at

-- one Send reaches each receiver of the group, and its code is 130 RTE_E_LIMIT if one of their queues is full; a Receive takes from
-- the queue of its element alone (Rte_Send, Rte_Receive)
abbrev pub lead_of_queues : Plan → (receivers : List ℕ) → (events : List ℕ) → ports.Kept → Deed → Option ports.Kept
lead_of_queues p receivers events k (deed.Send x value code) = given (code == ports.answer_to_send k) (ports.after_send value k)
lead_of_queues p receivers events k (deed.Receive x code value) = if is_joined_at p x then received_at_place code value k (place x receivers) else given (is_unconnected code value) k
lead_of_queues p receivers events k (deed.Start event point value) = started_at k (place event events)
lead_of_queues p receivers events k _ = None

-- the receivers, and the events that wait, stay
abbrev pub with_queues : Kept → ports.Kept → Kept
with_queues k d = record { receivers = k.receivers; events = k.events; queued = d }

abbrev pub lead : Plan → Kept → Noted → Option Kept
lead p k n = option_map (with_queues k) (lead_of_queues p k.receivers k.events k.queued n.entry.deed)

-- why a wish may not come: a start is not due; every other wish that may not come is none of the group's
abbrev pub why_held : Kept → Wanted → Shown
why_held k (to_start event) = NotDue event
why_held k w = Unmatched

-- an entry that can make a start come
abbrev pub wakes : Deed → Bool
wakes (deed.Send x value code) = true
wakes _ = false
