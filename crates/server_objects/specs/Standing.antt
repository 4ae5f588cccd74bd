-- What a server keeps, as the definitions give it from a past of the server.
use Rattle.std.specs.Prelude.{◌≡◌, ℕ, zero, ℤ, List, [], ◌∷◌, ◌+◌, map, length, drop, Bool, true, false, not, ◌==◌, nat_lt, if◌then◌else◌, Option, Some, None, is_some, option_map, slice_get}
use Rattle.std.specs.Prelude.{slice_index_or}
use Rattle.bus_semantics.specs.Common.{ActKey, Value, words_of, same_number, Plan, queue_of, Noted, Past, newest, is_outstanding, answer_to, requests_of, starts_of, serves, follows_last}
use Rattle.bus_semantics.specs.Common.{returns_to, is_start_by_return_of, is_open, serves_by, serves_any}
use Rattle.bus_semantics.specs.declared.entries.Actor.TheVariants.{Act}
use Rattle.bus_semantics.specs.declared.entries.Deed.{Deed}
use Rattle.bus_semantics.specs.declared.entries.Deed.TheVariants as deed
use Rattle.client_server.specs.declared.point.Outcome.{Outcome}
use Rattle.client_server.specs.declared.point.Point.{Point}
use Rattle.client_server.specs.Asked.{AreAsked}
use Rattle.client_server.specs.Points.{is_idle, is_started, outcome_in, value_asked}
use Rattle.client_server.specs.Kept as calls
use Rattle.object_kinds.specs.Layout.{events_of}
use Rattle.server_objects.specs.Layout.{server_in, event_in, runnable_in, points_of, is_joined_to, returns_for, awaited_by, IsServer}
use Rattle.server_objects.specs.Kept.{Kept}

-- ---- a point

-- the words of a request of the point (Rte_Call)
abbrev pub words_asked : (point : ℕ) → Deed → Option (List ℤ)
words_asked q (deed.Ask r value zero) = if q == r then Some (words_of value) else None
words_asked q _ = None

-- the words of its last request
abbrev pub last_asked : (point : ℕ) → Past → Option (List ℤ)
last_asked q l = newest (λ (n : Noted). words_asked q n.entry.deed) l

-- a code and words
abbrev pub told : Outcome → ℕ × List ℤ
told o = (o.code, words_of o.value)

-- the codes that a Return may have
abbrev pub is_returnable : Option Outcome → Bool
is_returnable None = true
is_returnable (Some o) = nat_lt o.code 64

-- a request is outstanding if the point is not idle; what waits to start is the last request; what was returned to it and not taken is
-- what an Answer gives; and the flag of its return events is set if they are due
pub record PointStands (p : Plan) (point : ℕ) (t : Point) (l : Past) : Type 0 where
  pub outstanding : is_outstanding point l ≡ not (is_idle t.stage)
  pub request : (v : Value) → value_asked t.stage ≡ Some v → last_asked point l ≡ Some (words_of v)
  pub answer : answer_to point l ≡ option_map told (outcome_in t.stage)
  pub code : is_returnable (outcome_in t.stage) ≡ true
  pub due : follows_last (is_start_by_return_of p point) (returns_to point) l ≡ t.due

-- ---- requests that start one after the other, for activations of one key

-- those that have not started; the key's activation has started and not returned exactly if a point is served, and then its last start
-- names that point
pub record RequestsStand (counts : ℕ → Bool) (key : ActKey) (unstarted : List (ℕ × List ℤ)) (served : Option ℕ) (l : Past) : Type 0 where
  pub rest : drop (starts_of counts l) (requests_of counts l) ≡ unstarted
  pub many : length (requests_of counts l) ≡ starts_of counts l + length unstarted
  pub opened : is_open (serves_by (Act key)) l ≡ is_some served
  pub named : (q : ℕ) → served ≡ Some q → (r : ℕ) → serves r key l ≡ (q == r)

-- the point at a place
abbrev pub number_at : (points : List ℕ) → (place : ℕ) → ℕ
number_at points i = slice_index_or points i 0

-- the request of the point at a place
abbrev pub words_of_asked : Option Value → List ℤ
words_of_asked None = []
words_of_asked (Some v) = words_of v

abbrev pub request_at : (points : List ℕ) → calls.Kept → (place : ℕ) → ℕ × List ℤ
request_at points k i = (number_at points i, words_of_asked (value_asked (calls.point_at i k).stage))

-- a queued server: the requests that wait are those that have not started, the oldest first, and the point that is served is the one whose
-- request has started
pub record QueueStands (p : Plan) (server : ℕ) (points : List ℕ) (k : calls.Kept) (l : Past) : Type 0 where
  pub asked : AreAsked k.points k.waiting
  pub requests : RequestsStand (is_joined_to p server) (record { runnable = runnable_in p server; point = None })
      (map (request_at points k) k.waiting) (option_map (number_at points) k.serving) l
  pub opened : is_open (serves_any p) l ≡ is_some k.serving
  pub started : (i : ℕ) → is_started (calls.point_at i k).stage ≡ same_number k.serving (Some i)

-- a direct server: each point has an activation of its own
abbrev pub unstarted_at : (point : ℕ) → Option Value → List (ℕ × List ℤ)
unstarted_at q None = []
unstarted_at q (Some v) = (q, words_of v) ∷ []

abbrev pub served_at : (point : ℕ) → (started : Bool) → Option ℕ
served_at q true = Some q
served_at q false = None

abbrev pub DirectStands : Plan → (server : ℕ) → (point : ℕ) → Point → Past → Type 0
DirectStands p s q t l = RequestsStand (λ r. q == r) (record { runnable = runnable_in p s; point = Some q })
    (unstarted_at q (value_asked t.stage)) (served_at q (is_started t.stage)) l

abbrev pub CallsStand : (queue : Option ℕ) → Plan → (server : ℕ) → (points : List ℕ) → calls.Kept → Past → Type 0
CallsStand None p s points k l = (i q : ℕ) → slice_get points i ≡ Some q → DirectStands p s q (calls.point_at i k) l
CallsStand (Some most) p s points k l = QueueStands p s points k l

-- ---- the whole

pub record Keeps (p : Plan) (object : ℕ) (k : Kept) (l : Past) : Type 0 where
  pub is_server : IsServer p object
  pub points : k.points ≡ points_of p (server_in p object)
  pub event : k.event ≡ event_in p (server_in p object)
  pub returns : k.returns ≡ events_of p (returns_for p (server_in p object))
  pub awaited : k.awaited ≡ map (awaited_by p (server_in p object)) k.returns
  pub queue : k.served.queue ≡ queue_of p (server_in p object)
  pub many : length k.served.points ≡ length k.points
  pub each : (i q : ℕ) → slice_get k.points i ≡ Some q → PointStands p q (calls.point_at i k.served) l
  pub calls_stand : CallsStand k.served.queue p (server_in p object) k.points k.served l
