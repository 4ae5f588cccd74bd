-- What a bench answers, and what it tells of it: the objects if it has them all to itself, and its own work if it keeps an account.
use Rattle.std.specs.Prelude.{◌≡◌, ◌≤◌, ℕ, suc, ◌+◌, List, [], ◌∷◌, ◌++◌, set, slice_get, true, Option, Some, None, unwrap_or}
use Rattle.std.specs.List.{last_or}
use Rattle.bus_semantics.specs.Common.{option_map_or, Plan, Wanted, wanted_by, wish_fits, answer_fits, object_of, IsObject, event_of, asks_its_own}
use Rattle.bus_laws.specs.Common.{Actor, Entry, Stamped, BusPlan}
use Rattle.port_objects.specs.declared.object.Object.{Object}
use Rattle.object_kinds.specs.declared.acted.Shown.{Shown}
use Rattle.object_kinds.specs.declared.acted.Acted.{Acted}
use Rattle.object_kinds.specs.declared.acted.Acted.TheVariants as acted
use Rattle.port_objects.specs.declared.bench.Benched.{Benched}
use Rattle.port_objects.specs.declared.bench.Benched.TheVariants.{Done, NotYet, Contended}
use Rattle.port_objects.specs.declared.bench.Answered.{Answered}
use Rattle.port_objects.specs.declared.bench.Answered.TheVariants as answered
use Rattle.port_objects.specs.Answers.{IsMade, IsHeld}

-- ---- what may be asked

-- the wish fits its actor and touches the object, which is one of the plan's; a start, an admission and an end are by an event of the actor's
-- own runnable
pub record IsAsked (p : Plan) (object : ℕ) (a : Actor) (w : Wanted) : Type 0 where
  pub touching : object_of p a w ≡ Some object
  pub there : IsObject p object
  pub fits : wish_fits p a w ≡ true
  pub own : asks_its_own p a w ≡ true

-- ---- the entry

-- the entry is the actor's and of the wish, what it names as an answer fits, and it comes with the event that the wish names
pub record IsStampedFor (p : Plan) (a : Actor) (w : Wanted) (s : Stamped) : Type 0 where
  pub actor : s.entry.actor ≡ a
  pub wish : wanted_by (unwrap_or (event_of w) 0) s.entry.deed ≡ w
  pub answer : answer_fits p a s.entry.deed ≡ true
  pub event : s.event ≡ event_of w

abbrev pub EntryIsFor : Plan → Actor → Wanted → Benched → Type 0
EntryIsFor p a w (Done s) = IsStampedFor p a w s
EntryIsFor p a w r = Unit {0}

-- ---- the room: how many entries it can still make

abbrev pub RoomAfter : (old new : ℕ) → Benched → Type 0
RoomAfter old new (Done s) = old ≡ suc new
RoomAfter old new r = new ≡ old

-- ---- its next stamp, if it tells it: each entry takes it

abbrev pub StampAfter : Option ℕ → Option ℕ → (added : Option Stamped) → Type 0
StampAfter None new added = new ≡ None
StampAfter (Some next) new None = new ≡ Some next
StampAfter (Some next) new (Some s) = (s.stamp ≡ next) × (new ≡ Some (suc next))

abbrev pub added_by : Benched → Option Stamped
added_by (Done s) = Some s
added_by r = None

-- an entry that touches no object, with its stamp
abbrev pub stamped_alone : (stamp : ℕ) → Entry → Stamped
stamped_alone stamp e = record { stamp = stamp; entry = e; event = None }

-- ---- the objects, if it tells them: the one that is touched changes as `act` changes it, and every other stays

pub record MadeOn (p : Plan) (object : ℕ) (a : Actor) (w : Wanted) (objects : List Object) (after : Option (List Object)) (e : Entry) : Type 0 where
  pub before : Object
  pub now : Object
  pub found : slice_get objects object ≡ Some before
  pub made : IsMade p object a w before now e
  pub others : after ≡ Some (set objects object now)

pub record HeldOn (p : Plan) (object : ℕ) (a : Actor) (w : Wanted) (objects : List Object) (after : Option (List Object)) (shown : Shown) : Type 0 where
  pub before : Object
  pub found : slice_get objects object ≡ Some before
  pub held : IsHeld p object a w before before shown
  pub same : after ≡ Some objects

abbrev pub ActedOn : Plan → (object : ℕ) → Actor → Wanted → (old new : List Object) → Acted → Type 0
ActedOn p n a w objects after (acted.Done e) = MadeOn p n a w objects (Some after) e
ActedOn p n a w objects after (acted.NotYet shown) = HeldOn p n a w objects (Some after) shown

-- if it tells its objects, it never answers Contended
abbrev pub ObjectsAfter : Plan → (object : ℕ) → Actor → Wanted → (old new : Option (List Object)) → Benched → Type 0
ObjectsAfter p n a w None new r = new ≡ None
ObjectsAfter p n a w (Some objects) new (Done s) = MadeOn p n a w objects new s.entry
ObjectsAfter p n a w (Some objects) new (NotYet shown) = HeldOn p n a w objects new shown
ObjectsAfter p n a w (Some objects) new Contended = ⊥

-- ---- its work, if it tells it

-- the entries that it made, the oldest first, and how often it answered NotYet and Contended
pub record Work : Type 0 where
  pub made : List Stamped
  pub not_yet : ℕ
  pub contended : ℕ

-- entries are added at the end, and no count falls
pub record Further (old : Work) (new : Option Work) (added : List Stamped) (held lost : ℕ) : Type 0 where
  pub work : Work
  pub told : new ≡ Some work
  pub made : work.made ≡ old.made ++ added
  pub not_yet : old.not_yet + held ≤ work.not_yet
  pub contended : old.contended + lost ≤ work.contended

abbrev pub IsFurther : Option Work → Option Work → (added : List Stamped) → (held lost : ℕ) → Type 0
IsFurther None new added held lost = new ≡ None
IsFurther (Some old) new added held lost = Further old new added held lost

abbrev pub WorkAfter : Option Work → Option Work → Benched → Type 0
WorkAfter old new (Done s) = IsFurther old new (s ∷ []) 0 0
WorkAfter old new (NotYet shown) = IsFurther old new [] 1 0
WorkAfter old new Contended = IsFurther old new [] 0 1

-- ---- all that a bench tells

-- how many entries it can still make, its next stamp, its objects, its work
pub record Told : Type 0 where
  pub room : ℕ
  pub next : Option ℕ
  pub objects : Option (List Object)
  pub work : Option Work

-- after a wish on an object
pub record IsActed (p : Plan) (object : ℕ) (a : Actor) (w : Wanted) (old new : Told) (r : Benched) : Type 0 where
  pub entry : EntryIsFor p a w r
  pub room : RoomAfter old.room new.room r
  pub next : StampAfter old.next new.next (added_by r)
  pub objects : ObjectsAfter p object a w old.objects new.objects r
  pub work : WorkAfter old.work new.work r

-- after an entry that touches no object
pub record IsStamped (old new : Told) (s : Stamped) : Type 0 where
  pub room : old.room ≡ suc new.room
  pub next : StampAfter old.next new.next (Some s)
  pub objects : new.objects ≡ old.objects
  pub work : IsFurther old.work new.work (s ∷ []) 0 0

-- ---- entries that a bench writes down itself, at the end of a list

-- the entry that was written down last
abbrev pub written_last : List Stamped → Option Stamped
written_last made = last_or None made

-- the answer of a bench, with the entry that it wrote down in this list; if `IsWritten` holds, `Made` is `Done` of an entry
abbrev pub benched : Answered → (made : List Stamped) → Benched
benched answered.Made made = option_map_or Done (written_last made) Contended
benched (answered.NotYet shown) made = NotYet shown
benched answered.Contended made = Contended

-- one entry was written down behind the others, or none
abbrev pub IsWritten : (before after : List Stamped) → Answered → Type 0
IsWritten before after answered.Made = (s : Stamped) × (after ≡ before ++ s ∷ [])
IsWritten before after r = after ≡ before

-- this entry, which touches no object, was stamped and written down behind the others
pub record IsStampedInto (old new : Told) (before after : List Stamped) (e : Entry) : Type 0 where
  pub stamp : ℕ
  pub written : after ≡ before ++ stamped_alone stamp e ∷ []
  pub stamped : IsStamped old new (stamped_alone stamp e)

-- ---- a plain bench

-- its plan, its objects, how many entries it can still make, and the next stamp
pub record Plain : Type 0 where
  pub plan : BusPlan
  pub objects : List Object
  pub room : ℕ
  pub next : ℕ
