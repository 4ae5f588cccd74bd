-- The lead: what a server keeps after an entry if it kept that before, or nothing if it would not answer so (SWS_RTE: Rte_Call,
-- Rte_Result, OperationInvokedEvent, AsynchronousServerCallReturnsEvent). It is a function of plain data, and knows no history. The entry
-- touches the server.
use Rattle.std.specs.Prelude.{ℕ, List, [], Bool, true, false, ◌&&◌, ◌==◌, if◌then◌else◌, Option, Some, None, is_none, option_map, slice_get}
use Rattle.bus_semantics.specs.Common.{option_and_then, Value, words_of, same_words, same_number, Noted, Wanted, to_start, to_hear}
use Rattle.bus_semantics.specs.declared.entries.Actor.{Actor}
use Rattle.bus_semantics.specs.declared.entries.Actor.TheVariants.{Act}
use Rattle.bus_semantics.specs.declared.entries.Deed.{Deed}
use Rattle.bus_semantics.specs.declared.entries.Deed.TheVariants as deed
use Rattle.client_server.specs.declared.point.Outcome.{Outcome}
use Rattle.client_server.specs.declared.point.Request.{Request}
use Rattle.client_server.specs.Points.{is_started, outcome_in, value_asked}
use Rattle.client_server.specs.Kept as calls
use Rattle.object_kinds.specs.declared.acted.Shown.{Shown}
use Rattle.object_kinds.specs.declared.acted.Shown.TheVariants.{NotDue, NotReturned, Unmatched}
use Rattle.object_kinds.specs.Common.{given, place}
use Rattle.server_objects.specs.Kept.{Kept, ServerState, awaited_at}

-- ---- calls. The point stands at this place

-- an Ask answers whether its request was accepted (Rte_Call)
abbrev pub asked_at : (code : ℕ) → Value → calls.Kept → (at : Option ℕ) → Option calls.Kept
asked_at code v k at = option_and_then (λ i. given (code == calls.answer_to_ask i k) (calls.after_ask i v k)) at

-- this code and these words were returned
abbrev pub is_outcome : (code : ℕ) → Value → Option Outcome → Bool
is_outcome code v None = false
is_outcome code v (Some o) = (code == o.code) && same_words (words_of v) (words_of o.value)

-- an Answer gives what was returned to its own point, and takes it (Rte_Call)
abbrev pub heard_at : (code : ℕ) → Value → calls.Kept → (at : Option ℕ) → Option calls.Kept
heard_at code v k at = option_and_then (λ i. given (is_outcome code v (outcome_in (calls.point_at i k).stage)) (calls.after_answer i k)) at

-- 131 RTE_E_NO_DATA and no words, if nothing was returned
abbrev pub is_result : (code : ℕ) → Value → Option Outcome → Bool
is_result code v None = (code == 131) && same_words (words_of v) []
is_result code v (Some o) = is_outcome code v (Some o)

-- what was returned to its own point, if something was (Rte_Result)
abbrev pub taken_at : (code : ℕ) → Value → calls.Kept → (at : Option ℕ) → Option calls.Kept
taken_at code v k at = option_and_then (λ i. given (is_result code v (outcome_in (calls.point_at i k).stage)) (calls.after_answer i k)) at

-- ---- starts. `own` is the point of the activation's key, and `point` what the start names

-- a queued server starts with the request that waits longest (OperationInvokedEvent)
abbrev pub started_next : (points : List ℕ) → (point : Option ℕ) → Value → calls.Kept → Option calls.Kept
started_next points point v k = option_and_then (λ (r : Request). given (same_number point (slice_get points r.point) && same_words (words_of v) (words_of r.value)) (calls.after_start k)) (calls.starting k)

-- a direct server starts with the request of the point of its key, which stands at this place
abbrev pub started_directly : (own : Option ℕ) → (point : Option ℕ) → Value → calls.Kept → (at : Option ℕ) → Option calls.Kept
started_directly own point v k at = option_and_then (λ i. option_and_then (λ w. given (same_number point own && same_words (words_of v) (words_of w)) (calls.after_direct_start i k)) (value_asked (calls.point_at i k).stage)) at

-- the place of the point of a key
abbrev pub own_place : Kept → (own : Option ℕ) → Option ℕ
own_place k own = option_and_then (λ q. place q k.points) own

abbrev pub started_server : (queue : Option ℕ) → Kept → (own : Option ℕ) → (point : Option ℕ) → Value → Option calls.Kept
started_server None k own point v = started_directly own point v k.served (own_place k own)
started_server (Some most) k own point v = if is_none own then started_next k.points point v k.served else None

-- a start by a return event of the point at this place (AsynchronousServerCallReturnsEvent)
abbrev pub started_return : calls.Kept → (at : Option ℕ) → Option calls.Kept
started_return k at = option_and_then (λ i. given (calls.point_at i k).due (calls.after_return_start i k)) at

abbrev pub lead_of_start : Kept → (own : Option ℕ) → (event : ℕ) → (point : Option ℕ) → Value → Option calls.Kept
lead_of_start k own event point v = if event == k.event then started_server k.served.queue k own point v else started_return k.served (awaited_at k event)

-- ---- returns

-- the place of the point that an activation with this key serves
abbrev pub serving_at : (queue : Option ℕ) → Kept → (own : Option ℕ) → Option ℕ
serving_at None k own = own_place k own
serving_at (Some most) k own = k.served.serving

-- a Return goes to the point that is served
abbrev pub returned_at : (code : ℕ) → Value → calls.Kept → (at : Option ℕ) → Option calls.Kept
returned_at code v k at = option_and_then (λ i. given (is_started (calls.point_at i k).stage) (calls.after_reply i (record { code = code; value = v }) k)) at

-- of another actor none is served
abbrev pub serving_of : Kept → Actor → Option ℕ
serving_of k (Act key) = serving_at k.served.queue k key.point
serving_of k _ = None

-- ---- the whole

abbrev pub lead_of_server : Kept → Deed → Actor → Option calls.Kept
lead_of_server k (deed.Ask q value code) a = asked_at code value k.served (place q k.points)
lead_of_server k (deed.Answer q code value) a = heard_at code value k.served (place q k.points)
lead_of_server k (deed.TakeResult q code value) a = taken_at code value k.served (place q k.points)
lead_of_server k (deed.Start event point value) (Act key) = lead_of_start k key.point event point value
lead_of_server k (deed.Return code value) a = returned_at code value k.served (serving_of k a)
lead_of_server k _ _ = None

-- the point to which the last Return went
abbrev pub heard_by : ServerState → Deed → Actor → Option ℕ
heard_by s (deed.Return code value) a = option_and_then (λ i. slice_get s.kept.points i) (serving_of s.kept a)
heard_by s d a = s.heard

-- the points and the events stay
abbrev pub with_served : Kept → calls.Kept → Kept
with_served k c = record { points = k.points; event = k.event; returns = k.returns; awaited = k.awaited; served = c }

abbrev pub lead : Kept → Noted → Option Kept
lead k n = option_map (with_served k) (lead_of_server k n.entry.deed n.entry.actor)

-- why a wish may not come: a start is not due, nothing was returned for an Answer; every other wish that may not come does not match
abbrev pub why_held : Kept → Wanted → Shown
why_held k (to_start event) = NotDue event
why_held k (to_hear q) = NotReturned q
why_held k w = Unmatched

-- an entry that can make a start come
abbrev pub wakes : Deed → Bool
wakes (deed.Ask q value code) = true
wakes (deed.Return code value) = true
wakes _ = false
