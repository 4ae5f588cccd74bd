-- What a server keeps, as plain data (SWS_RTE: Rte_Call, Rte_Result, OperationInvokedEvent, AsynchronousServerCallReturnsEvent).
use Rattle.std.specs.Prelude.{ℕ, List, [], ◌∷◌, map, length, Bool, true, false, ◌&&◌, ◌==◌, if◌then◌else◌, Option, Some, None, is_some, slice_get}
use Rattle.bus_semantics.specs.Common.{option_and_then, Plan, queue_of}
use Rattle.client_server.specs.Kept as calls
use Rattle.client_server.specs.Points.{outcome_in}
use Rattle.object_kinds.specs.Layout.{events_of, place}
use Rattle.server_objects.specs.Layout.{server_in, event_in, points_of, returns_for, awaited_by}

-- the points that call the server, its event, and the return events of those points, each with the place of its point; points and return
-- events in rising order
pub record Kept : Type 0 where
  pub points : List ℕ
  pub event : ℕ
  pub returns : List ℕ
  pub awaited : List ℕ
  pub served : calls.Kept

-- with the events that the last Ask or Return made pending, and the point to which the last Return went
pub record ServerState : Type 0 where
  pub kept : Kept
  pub woken : List ℕ
  pub heard : Option ℕ

-- what is kept before anything has happened
abbrev pub opening_at : Plan → (server : ℕ) → Kept
opening_at p s = record {
  points = points_of p s;
  event = event_in p s;
  returns = events_of p (returns_for p s);
  awaited = map (awaited_by p s) (events_of p (returns_for p s));
  served = calls.fresh (length (points_of p s)) (queue_of p s);
}

abbrev pub opening : Plan → (object : ℕ) → Kept
opening p object = opening_at p (server_in p object)

-- the place of the point of a return event
abbrev pub awaited_at : Kept → (event : ℕ) → Option ℕ
awaited_at k e = option_and_then (λ j. slice_get k.awaited j) (place e k.returns)

-- the return events of the point at a place
abbrev pub awaiting : (returns : List ℕ) → (awaited : List ℕ) → (place : ℕ) → List ℕ
awaiting (e ∷ es) (i ∷ awaited) place = if i == place then e ∷ awaiting es awaited place else awaiting es awaited place
awaiting _ _ place = []

-- those events, if a flag is set now that was clear before
abbrev pub told_where : (before now : Bool) → List ℕ → List ℕ
told_where false true es = es
told_where false false es = []
told_where true now es = []

-- something was returned to the point at this place since the last start by one of its return events
abbrev pub is_due_at : calls.Kept → (at : Option ℕ) → Bool
is_due_at k None = false
is_due_at k (Some i) = (calls.point_at i k).due

-- a request waits for a queued server, and none is served
abbrev pub has_next : calls.Kept → Bool
has_next k = is_some k.queue && is_some (calls.next_point k)

-- something was returned to the point at this place, and was not taken
abbrev pub is_returned_at : calls.Kept → (at : Option ℕ) → Bool
is_returned_at k None = false
is_returned_at k (Some i) = is_some (outcome_in (calls.point_at i k).stage)

-- whether an Answer at a point may come
abbrev pub may_hear : Kept → (point : ℕ) → Bool
may_hear k q = is_returned_at k.served (place q k.points)

-- whether a start by an event may come. No plain start is by the event of a direct server
abbrev pub may_start : Kept → (event : ℕ) → Bool
may_start k e = if e == k.event then has_next k.served else is_due_at k.served (awaited_at k e)
