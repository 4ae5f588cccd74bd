-- What comes of looks at wishes over a bench, in their order: the entry of the first that may come, or that none may.
use Rattle.std.specs.Prelude.{◌≡◌, ℕ, suc, List, [], ◌∷◌, ◌++◌, slice_get, Bool, true, false, ◌||◌, ◌==◌, if◌then◌else◌, Option, Some, None, unwrap_or, IfSome}
use Rattle.bus_semantics.specs.Common.{list_any, same_number, Plan, runnable_of_event, Wanted, to_start, wanted_by, Noted, wish_fits, answer_fits, object_of, IsObject, Try, plain_key}
use Rattle.bus_semantics.specs.Common.{is_start, asks_its_own, event_of}
use Rattle.bus_laws.specs.Common.{Actor, Act, Deed, Entry, Stamped}
use Rattle.port_objects.specs.declared.object.Object.{Object}
use Rattle.port_objects.specs.Common.{kept_of, lead, may_start_in, is_free, IsUnconnected, Work, IsFurther, StampAfter, MadeOn, Told}
use Rattle.task_slots.specs.Look.{Look, Made, Nothing, Contended}

-- ---- what may be tried

-- a wish that touches no object is answered at once; or it is a start, which then may never come
abbrev pub IsFree : Option ℕ → Wanted → Type 0
IsFree None w = (is_free w || is_start w) ≡ true
IsFree (Some object) w = Unit {0}

-- the wish fits its actor, a start, an admission and an end are by an event of the actor's own runnable, and what is touched is one of the
-- plan's objects
pub record IsTried (p : Plan) (a : Actor) (w : Wanted) : Type 0 where
  pub fits : wish_fits p a w ≡ true
  pub own : asks_its_own p a w ≡ true
  pub there : IfSome (object_of p a w) (IsObject p)
  pub free : IsFree (object_of p a w) w

-- a start that touches no object is not looked at
abbrev pub looks_at : Option ℕ → Wanted → ℕ
looks_at None w = if is_start w then 0 else 1
looks_at (Some object) w = 1

-- ---- the entry

-- the event comes with the entry of a wish that touches an object
abbrev pub event_for : Option ℕ → Wanted → Option ℕ
event_for None w = None
event_for (Some object) w = event_of w

-- without an object there is an end, and an answer at a point that is not joined, with its codes
abbrev pub IsAlone : Option ℕ → Wanted → Deed → Type 0
IsAlone None w d = (is_free w ≡ true) × IsUnconnected d
IsAlone (Some object) w d = Unit {0}

-- the entry is the actor's and of the wish, and what it names as an answer fits
pub record IsEntryOf (p : Plan) (a : Actor) (w : Wanted) (s : Stamped) : Type 0 where
  pub actor : s.entry.actor ≡ a
  pub wish : wanted_by (unwrap_or (event_of w) 0) s.entry.deed ≡ w
  pub answer : answer_fits p a s.entry.deed ≡ true
  pub alone : IsAlone (object_of p a w) w s.entry.deed
  pub event : s.event ≡ event_for (object_of p a w) w

abbrev pub EntryOf : Plan → Actor → Wanted → Look → Type 0
EntryOf p a w (Made s) = IsEntryOf p a w s
EntryOf p a w l = Unit {0}

-- ---- the bench's room, its next stamp and its work

abbrev pub RoomLooked : (old new : ℕ) → Look → Type 0
RoomLooked old new (Made s) = old ≡ suc new
RoomLooked old new l = new ≡ old

abbrev pub made_in : Look → Option Stamped
made_in (Made s) = Some s
made_in l = None

-- if nothing may come, so many looks answered NotYet
abbrev pub WorkLooked : (looks : ℕ) → (old new : Option Work) → Look → Type 0
WorkLooked n old new (Made s) = IsFurther old new (s ∷ []) 0 0
WorkLooked n old new Nothing = IsFurther old new [] n 0
WorkLooked n old new (Contended object) = IsFurther old new [] 0 1

-- ---- the objects, if the bench tells them

-- no entry of the actor and of the wish leads on from what the object keeps, and the object allows no plain start that is wished
pub record IsHeldOn (p : Plan) (objects : List Object) (a : Actor) (w : Wanted) (object : ℕ) : Type 0 where
  pub before : Object
  pub found : slice_get objects object ≡ Some before
  pub none : (n : Noted) → n.entry.actor ≡ a → wanted_by (unwrap_or n.event 0) n.entry.deed ≡ w → lead p object (kept_of before) n ≡ None
  pub flag : (runnable event : ℕ) → a ≡ Act (plain_key runnable) → w ≡ to_start event → may_start_in (kept_of before) event ≡ false

-- a start that touches no object may never come
abbrev pub IsHeldAt : Plan → List Object → Actor → Wanted → Option ℕ → Type 0
IsHeldAt p objects a w None = is_start w ≡ true
IsHeldAt p objects a w (Some object) = IsHeldOn p objects a w object

-- the wish of a try may not come
abbrev pub IsHeld : Plan → List Object → Try → Type 0
IsHeld p objects t = IsHeldAt p objects t.0 t.1 (object_of p t.0 t.1)

abbrev pub AllHeld : Plan → List Object → List Try → Type 0
AllHeld p objects [] = Unit {0}
AllHeld p objects (t ∷ ts) = IsHeld p objects t × AllHeld p objects ts

-- the entry of a try was made: the object that it touches changed as `act` changes it, and every other stayed
abbrev pub MadeAt : Plan → (old : List Object) → (new : Option (List Object)) → Try → Entry → Option ℕ → Type 0
MadeAt p old new t e None = new ≡ Some old
MadeAt p old new t e (Some object) = MadeOn p object t.0 t.1 old new e

-- of these tries, the first that may come was made
pub record FirstMade (p : Plan) (ts : List Try) (old : List Object) (new : Option (List Object)) (s : Stamped) : Type 0 where
  pub before : List Try
  pub tried : Try
  pub after : List Try
  pub whole : ts ≡ before ++ tried ∷ after
  pub held : AllHeld p old before
  pub entry : IsEntryOf p tried.0 tried.1 s
  pub made : MadeAt p old new tried s.entry (object_of p tried.0 tried.1)

abbrev pub ToldLooked : Plan → List Try → (old : List Object) → (new : Option (List Object)) → Look → Type 0
ToldLooked p ts old new (Made s) = FirstMade p ts old new s
ToldLooked p ts old new Nothing = AllHeld p old ts × (new ≡ Some old)
ToldLooked p ts old new (Contended object) = ⊥

abbrev pub ObjectsLooked : Plan → List Try → (old new : Option (List Object)) → Look → Type 0
ObjectsLooked p ts None new l = new ≡ None
ObjectsLooked p ts (Some objects) new l = ToldLooked p ts objects new l

-- ---- the object that another core holds

-- one of these tries touches it
abbrev pub is_touched : Plan → List Try → (object : ℕ) → Bool
is_touched p ts object = list_any (λ (t : Try). same_number (object_of p t.0 t.1) (Some object)) ts

abbrev pub LostLooked : Plan → List Try → Look → Type 0
LostLooked p ts (Contended object) = is_touched p ts object ≡ true
LostLooked p ts l = Unit {0}

-- ---- the whole

-- looks at these tries, so many of which touch an object
pub record Looked (p : Plan) (ts : List Try) (looks : ℕ) (old new : Told) (l : Look) : Type 0 where
  pub room : RoomLooked old.room new.room l
  pub next : StampAfter old.next new.next (made_in l)
  pub objects : ObjectsLooked p ts old.objects new.objects l
  pub work : WorkLooked looks old.work new.work l
  pub lost : LostLooked p ts l

-- ---- starts

-- the entry is of a start by one of these events
pub record IsStartBy (p : Plan) (events : List ℕ) (s : Stamped) : Type 0 where
  pub event : ℕ
  pub mapped : list_any (λ e. e == event) events ≡ true
  pub runnable : ℕ
  pub starts : runnable_of_event p event ≡ Some runnable
  pub entry : IsEntryOf p (Act (plain_key runnable)) (to_start event) s

abbrev pub StartBy : Plan → (events : List ℕ) → Look → Type 0
StartBy p events (Made s) = IsStartBy p events s
StartBy p events l = Unit {0}
