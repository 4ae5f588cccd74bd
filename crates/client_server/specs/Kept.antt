-- What a server keeps of its points' requests, and what each call makes of it (SWS_RTE: Rte_Call, Rte_Result,
-- OperationInvokedEvent, AsynchronousServerCallReturnsEvent).
use Rattle.std.specs.Prelude.{ℕ, List, [], ◌∷◌, ◌++◌, length, drop, set, replicate, Bool, true, false, ◌&&◌, nat_lt, if◌then◌else◌, Option, Some, None, is_some, slice_get, slice_index_or}
use Rattle.std.specs.Option.{option_and_then, option_map}
use Rattle.rte_value.specs.Values.{same_number}
use Rattle.rte_value.specs.declared.value.Value.{Value}
use Rattle.client_server.specs.Points.{is_idle, is_started, new_point, outcome_in, value_asked}
use Rattle.client_server.specs.declared.point.Outcome.{Outcome}
use Rattle.client_server.specs.declared.point.Point.{Point}
use Rattle.client_server.specs.declared.point.Request.{Request}
use Rattle.client_server.specs.declared.point.Stage.{Stage}
use Rattle.client_server.specs.declared.point.Stage.TheVariants.{Idle, Asked, Started, Returned}

pub record Kept : Type 0 where
  -- how many accepted requests may wait, which no call changes; none for a direct server
  pub queue : Option ℕ
  -- the points whose requests wait for a queued server, the oldest first
  pub waiting : List ℕ
  -- the point whose request a queued server serves
  pub serving : Option ℕ
  pub points : List Point

abbrev pub fresh : (points : ℕ) → (queue : Option ℕ) → Kept
fresh points queue = record { queue = queue; waiting = []; serving = None; points = replicate points new_point }

abbrev pub point_at : (point : ℕ) → Kept → Point
point_at p k = slice_index_or k.points p new_point

-- the points, with another stage of one of them
abbrev pub staged : (point : ℕ) → Stage → Kept → List Point
staged p s k = set k.points p (record { stage = s; due = (point_at p k).due })

-- ---- asking

-- a direct server takes any request
abbrev pub has_place : Kept → Bool
has_place k = by_queue k.queue
  where
    by_queue : Option ℕ → Bool
    by_queue None = true
    by_queue (Some n) = nat_lt (length k.waiting) n

-- a request is accepted if none of the point is outstanding and the queue has a place
abbrev pub accepts : (point : ℕ) → Kept → Bool
accepts p k = is_idle (point_at p k).stage && has_place k

-- 130 RTE_E_LIMIT exactly if the request is not accepted, else 0
abbrev pub answer_to_ask : (point : ℕ) → Kept → ℕ
answer_to_ask p k = if accepts p k then 0 else 130

-- an accepted request waits behind the others of a queued server
abbrev pub with_request : (point : ℕ) → Value → Kept → Kept
with_request p v k = record { queue = k.queue; waiting = if is_some k.queue then k.waiting ++ p ∷ [] else k.waiting; serving = k.serving; points = staged p (Asked v) k }

abbrev pub after_ask : (point : ℕ) → Value → Kept → Kept
after_ask p v k = if accepts p k then with_request p v k else k

-- ---- starting

-- the point whose request a queued server starts next: the oldest that waits, if none is being served
abbrev pub next_point : Kept → Option ℕ
next_point k = if is_some k.serving then None else slice_get k.waiting 0

abbrev pub starting : Kept → Option Request
starting k = option_and_then (λ p. option_map (λ v. record { point = p; value = v }) (value_asked (point_at p k).stage)) (next_point k)

abbrev pub after_start : Kept → Kept
after_start k = by_point (next_point k)
  where
    by_point : Option ℕ → Kept
    by_point None = k
    by_point (Some p) = record { queue = k.queue; waiting = drop 1 k.waiting; serving = Some p; points = staged p Started k }

-- a direct server starts with the request of its caller's point
abbrev pub after_direct_start : (point : ℕ) → Kept → Kept
after_direct_start p k = if is_some (value_asked (point_at p k).stage)
    then record { queue = k.queue; waiting = k.waiting; serving = k.serving; points = staged p Started k } else k

-- ---- returning

-- a reply belongs to its own point's request, which is no longer served, and makes the return events of the point due
abbrev pub after_reply : (point : ℕ) → Outcome → Kept → Kept
after_reply p o k = if is_started (point_at p k).stage then returned else k
  where
    returned : Kept
    returned = record {
      queue = k.queue;
      waiting = k.waiting;
      serving = if same_number k.serving (Some p) then None else k.serving;
      points = set k.points p (record { stage = Returned o; due = true });
    }

-- an outcome is taken once
abbrev pub after_answer : (point : ℕ) → Kept → Kept
after_answer p k = if is_some (outcome_in (point_at p k).stage)
    then record { queue = k.queue; waiting = k.waiting; serving = k.serving; points = staged p Idle k } else k

-- a start by a return event clears the flag that all return events of the point share
abbrev pub after_return_start : (point : ℕ) → Kept → Kept
after_return_start p k = record {
  queue = k.queue;
  waiting = k.waiting;
  serving = k.serving;
  points = set k.points p (record { stage = (point_at p k).stage; due = false });
}
