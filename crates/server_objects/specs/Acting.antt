-- What the calls of a server answer, each for its own wish: the entry by which what was kept leads on, or that no deed of the wish leads
-- anywhere.
use Rattle.std.specs.Prelude.{◌≡◌, ℕ, ◌<◌, ◌≤◌, ◌+◌, List, length, Bool, true, false, Option, Some, None, All, IfSome, Vec, is_some, slice_get}
use Rattle.bus_semantics.specs.Common.{Global, Contains, Value, words_of, Plan, kind_of, answer_fits, start_fits, Wanted, to_start, wanted_by, plain_key}
use Rattle.bus_semantics.specs.declared.entries.Actor.{Actor}
use Rattle.bus_semantics.specs.declared.entries.Actor.TheVariants.{Act}
use Rattle.bus_semantics.specs.declared.entries.Deed.{Deed}
use Rattle.bus_semantics.specs.declared.entries.Entry.{Entry}
use Rattle.bus_semantics.specs.declared.entries.Deed.TheVariants as deed
use Rattle.client_server.specs.declared.point.Outcome.{Outcome}
use Rattle.client_server.specs.Kept.{after_ask, answer_to_ask, point_at}
use Rattle.client_server.specs.Points.{is_started}
use Rattle.object_kinds.specs.Common.{listed_at, place, is_rising}
use Rattle.object_kinds.specs.declared.acted.Acted.{Acted}
use Rattle.object_kinds.specs.declared.acted.Acted.TheVariants.{Done, NotYet}
use Rattle.object_kinds.specs.declared.acted.Shown.{Shown}
use Rattle.server_objects.specs.Kept.{Kept, ServerState, awaiting, may_start}
use Rattle.server_objects.specs.Leading.{lead_of_server, lead_of_start, returned_at, taken_at, why_held, wakes, heard_by, with_served}
use Rattle.server_objects.specs.Plans.{IsOfPlan}

-- each event that a deed made pending is told, and after an Ask or a Return no other; every other deed leaves what was told
pub record Tells (old new : ServerState) (d : Deed) : Type 0 where
  pub came : (event : ℕ) → may_start old.kept event ≡ false → may_start new.kept event ≡ true → Contains new.woken event
  pub only : wakes d ≡ true → (event : ℕ) → Contains new.woken event → (may_start old.kept event ≡ false) × (may_start new.kept event ≡ true)
  pub left : wakes d ≡ false → new.woken ≡ old.woken

pub record Leads (a : Actor) (w : Wanted) (old new : ServerState) (e : Entry) : Type 0 where
  pub actor : e.actor ≡ a
  pub wish : (event : ℕ) → wanted_by event e.deed ≡ w
  pub answer : (p : Plan) (object : ℕ) → IsOfPlan p object old.kept → answer_fits p a e.deed ≡ true
  pub leads : lead_of_server old.kept e.deed a ≡ Some new.kept.served
  pub kept : new.kept ≡ with_served old.kept new.kept.served
  pub told : Tells old new e.deed
  pub heard : new.heard ≡ heard_by old e.deed e.actor

pub record Holds (a : Actor) (w : Wanted) (old new : ServerState) (shown : Shown) : Type 0 where
  pub why : shown ≡ why_held old.kept w
  pub same : new ≡ old
  pub none : (d : Deed) (event : ℕ) → wanted_by event d ≡ w → lead_of_server old.kept d a ≡ None
  pub flag : (runnable event : ℕ) → a ≡ Act (plain_key runnable) → w ≡ to_start event → may_start old.kept event ≡ false

abbrev pub IsActed : Actor → Wanted → (old new : ServerState) → Acted → Type 0
IsActed a w old new (Done e) = Leads a w old new e
IsActed a w old new (NotYet shown) = Holds a w old new shown

-- a start that a server made for an activation whose key has this point, as its deed; or that there is none
pub record StartLeads (own : Option ℕ) (event : ℕ) (old new : ServerState) (d : Deed) : Type 0 where
  pub point : Option ℕ
  pub value : Value
  pub deed : d ≡ deed.Start event point value
  pub answer : (p : Plan) (object : ℕ) → IsOfPlan p object old.kept → start_fits p (kind_of p event) point (words_of value) ≡ true
  pub leads : lead_of_start old.kept own event point value ≡ Some new.kept.served
  pub kept : new.kept ≡ with_served old.kept new.kept.served
  pub woken : new.woken ≡ old.woken
  pub heard : new.heard ≡ old.heard

pub record NoStart (own : Option ℕ) (event : ℕ) (old new : ServerState) : Type 0 where
  pub none : (point : Option ℕ) (value : Value) → lead_of_start old.kept own event point value ≡ None
  pub same : new ≡ old
  pub flag : own ≡ None → may_start old.kept event ≡ false

abbrev pub IsStart : (own : Option ℕ) → (event : ℕ) → (old new : ServerState) → Option Deed → Type 0
IsStart own event old new None = NoStart own event old new
IsStart own event old new (Some d) = StartLeads own event old new d

-- a Return to the point at a place, if its request is served; and what that made pending is told
pub record ReturnLeads (code : ℕ) (value : Value) (old new : ServerState) (place : ℕ) : Type 0 where
  pub leads : returned_at code value old.kept.served (Some place) ≡ Some new.kept.served
  pub kept : new.kept ≡ with_served old.kept new.kept.served
  pub told : Tells old new (deed.Return code value)
  pub heard : new.heard ≡ slice_get old.kept.points place

pub record NoReturn (code : ℕ) (value : Value) (old new : ServerState) (place : ℕ) : Type 0 where
  pub none : is_started (point_at place old.kept.served).stage ≡ false
  pub same : new ≡ old

abbrev pub IsReturned : (code : ℕ) → Value → (old new : ServerState) → (place : ℕ) → Bool → Type 0
IsReturned code value old new place true = ReturnLeads code value old new place
IsReturned code value old new place false = NoReturn code value old new place

-- an Ask for the point at a place
pub record IsAskedAt (value : Value) (old new : ServerState) (place : ℕ) (code : ℕ) : Type 0 where
  pub code_is : code ≡ answer_to_ask place old.kept.served
  pub kept : new.kept ≡ with_served old.kept (after_ask place value old.kept.served)
  pub told : (point : ℕ) → Tells old new (deed.Ask point value code)
  pub heard : new.heard ≡ old.heard

-- what was returned to the point at a place, or 131 RTE_E_NO_DATA without words
pub record IsTaken (old new : ServerState) (place : ℕ) (o : Outcome) : Type 0 where
  pub leads : taken_at o.code o.value old.kept.served (Some place) ≡ Some new.kept.served
  pub kept : new.kept ≡ with_served old.kept new.kept.served
  pub woken : new.woken ≡ old.woken
  pub heard : new.heard ≡ old.heard

-- what the code of a server needs: numbers in rising order, a place for each return event and each point, and room to tell all events
pub record IsWhole (k : Kept) (queued : Bool) (lists : List (Vec ℕ Global)) (room : ℕ) : Type 0 where
  pub points_rise : is_rising k.points ≡ true
  pub returns_rise : is_rising k.returns ≡ true
  pub apart : place k.event k.returns ≡ None
  pub many : length k.served.points ≡ length k.points
  pub as_many : length k.awaited ≡ length k.returns
  pub within : All (λ i. i < length k.points) k.awaited
  pub serving : IfSome k.served.serving (λ i. i < length k.points)
  pub queued_is : queued ≡ is_some k.served.queue
  pub listed : (i : ℕ) → listed_at lists i ≡ awaiting k.returns k.awaited i
  pub lists_many : length lists ≡ length k.points
  pub room_for : length k.returns + 1 ≤ room
