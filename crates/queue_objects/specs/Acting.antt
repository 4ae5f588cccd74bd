-- What the calls of a group answer, each for its own wish: the entry by which what was kept leads on, or that no deed of the wish leads
-- anywhere.
use Rattle.std.specs.Prelude.{◌≡◌, ℕ, [], Bool, true, false, ◌&&◌, Option, Some, None, is_none}
use Rattle.bus_semantics.specs.Common.{Contains, words_of, same_words, Plan, Wanted, wanted_by}
use Rattle.bus_laws.specs.Common.{Actor, Deed, Entry}
use Rattle.bus_semantics.specs.declared.entries.Deed.TheVariants as deed
use Rattle.queued_ports.specs.Kept as ports
use Rattle.object_kinds.specs.declared.acted.Acted.{Acted}
use Rattle.object_kinds.specs.declared.acted.Acted.TheVariants.{Done, NotYet}
use Rattle.object_kinds.specs.declared.acted.Shown.{Shown}
use Rattle.queue_objects.specs.Kept.{GroupState, may_start}
use Rattle.queue_objects.specs.Leading.{lead_of_queues, why_held, wakes, with_queues}

-- a start names no point and gives no words
abbrev pub is_bare : Deed → Bool
is_bare (deed.Start event point value) = is_none point && same_words (words_of value) []
is_bare _ = true

-- each event that a deed made pending is told, and after a send no other; every other deed leaves what was told
pub record Tells (old new : GroupState) (d : Deed) : Type 0 where
  pub came : (event : ℕ) → may_start old.kept event ≡ false → may_start new.kept event ≡ true → Contains new.woken event
  pub only : wakes d ≡ true → (event : ℕ) → Contains new.woken event → (may_start old.kept event ≡ false) × (may_start new.kept event ≡ true)
  pub left : wakes d ≡ false → new.woken ≡ old.woken

pub record Leads (p : Plan) (a : Actor) (w : Wanted) (old new : GroupState) (e : Entry) : Type 0 where
  pub actor : e.actor ≡ a
  pub wish : (event : ℕ) → wanted_by event e.deed ≡ w
  pub bare : is_bare e.deed ≡ true
  pub leads : lead_of_queues p old.kept.receivers old.kept.events old.kept.queued e.deed ≡ Some new.kept.queued
  pub kept : new.kept ≡ with_queues old.kept new.kept.queued
  pub told : Tells old new e.deed

pub record Holds (p : Plan) (w : Wanted) (old new : GroupState) (shown : Shown) : Type 0 where
  pub why : shown ≡ why_held old.kept w
  pub same : new ≡ old
  pub none : (d : Deed) (event : ℕ) → wanted_by event d ≡ w → lead_of_queues p old.kept.receivers old.kept.events old.kept.queued d ≡ None

abbrev pub IsActed : Plan → Actor → Wanted → (old new : GroupState) → Acted → Type 0
IsActed p a w old new (Done e) = Leads p a w old new e
IsActed p a w old new (NotYet shown) = Holds p w old new shown

-- a start that was pending leads on; another one changes nothing
abbrev pub IsTaken : (pending : Bool) → (old new : GroupState) → (led : Option ports.Kept) → Type 0
IsTaken true old new led = (led ≡ Some new.kept.queued) × (new.kept ≡ with_queues old.kept new.kept.queued) × (new.woken ≡ old.woken)
IsTaken false old new led = (led ≡ None) × (new ≡ old)
