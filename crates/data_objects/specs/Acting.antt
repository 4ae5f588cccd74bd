-- What the calls of a group answer, each for its own wish: the entry by which what was kept leads on, or that no deed of the wish leads
-- anywhere.
use Rattle.std.specs.Prelude.{◌≡◌, ℕ, [], Bool, true, false, ◌&&◌, Option, Some, None, is_none, option_and_then}
use Rattle.bus_semantics.specs.Common.{Contains, words_of, same_words, Plan, group_of, Wanted, to_read, to_fetch, to_see_updated, wanted_by}
use Rattle.bus_semantics.specs.declared.entries.Actor.{Actor}
use Rattle.bus_semantics.specs.declared.entries.Deed.{Deed}
use Rattle.bus_semantics.specs.declared.entries.Deed.TheVariants as deed
use Rattle.bus_semantics.specs.declared.entries.Entry.{Entry}
use Rattle.data_objects.specs.KeptValues as data_kept
use Rattle.object_kinds.specs.declared.acted.Acted.{Acted}
use Rattle.object_kinds.specs.declared.acted.Acted.TheVariants.{Done, NotYet}
use Rattle.object_kinds.specs.declared.acted.Shown.{Shown}
use Rattle.object_kinds.specs.Flags.{given, is_set}
use Rattle.data_objects.specs.Kept.{GroupState, may_start}
use Rattle.data_objects.specs.Leading.{lead_of_group, why_held, wakes}

-- a start names no point and gives no words
abbrev pub is_bare : Deed → Bool
is_bare (deed.Start event point value) = is_none point && same_words (words_of value) []
is_bare _ = true

-- each event that a deed made pending is told, and after a write or a publication no other; every other deed leaves what was told
pub record Tells (old new : GroupState) (d : Deed) : Type 0 where
  pub came : (event : ℕ) → may_start old.kept event ≡ false → may_start new.kept event ≡ true → Contains new.woken event
  pub only : wakes d ≡ true → (event : ℕ) → Contains new.woken event → (may_start old.kept event ≡ false) × (may_start new.kept event ≡ true)
  pub left : wakes d ≡ false → new.woken ≡ old.woken

pub record Leads (p : Plan) (group : ℕ) (a : Actor) (w : Wanted) (old new : GroupState) (e : Entry) : Type 0 where
  pub actor : e.actor ≡ a
  pub wish : (event : ℕ) → wanted_by event e.deed ≡ w
  pub bare : is_bare e.deed ≡ true
  pub leads : lead_of_group p group old.kept.events old.kept.unqueued e.deed ≡ Some new.kept.unqueued
  pub events : new.kept.events ≡ old.kept.events
  pub told : Tells old new e.deed

pub record Holds (p : Plan) (group : ℕ) (w : Wanted) (old new : GroupState) (shown : Shown) : Type 0 where
  pub why : shown ≡ why_held old.kept w
  pub same : new ≡ old
  pub none : (d : Deed) (event : ℕ) → wanted_by event d ≡ w → lead_of_group p group old.kept.events old.kept.unqueued d ≡ None

abbrev pub IsActed : Plan → (group : ℕ) → Actor → Wanted → (old new : GroupState) → Acted → Type 0
IsActed p group a w old new (Done e) = Leads p group a w old new e
IsActed p group a w old new (NotYet shown) = Holds p group w old new shown

-- the group of the element that a wish reads or looks at
abbrev pub group_seen : Plan → Wanted → Option ℕ
group_seen p (to_read x) = group_of p x
group_seen p (to_fetch x) = group_of p x
group_seen p (to_see_updated x) = group_of p x
group_seen p w = None

-- what the wish reads or looks at, if it does, is an element of the group
abbrev pub IsWishIn : Plan → (group : ℕ) → Wanted → Type 0
IsWishIn p g (to_read x) = group_of p x ≡ Some g
IsWishIn p g (to_fetch x) = group_of p x ≡ Some g
IsWishIn p g (to_see_updated x) = group_of p x ≡ Some g
IsWishIn p g w = Unit {0}

-- a start by the event at this place
abbrev pub started_at : data_kept.Kept → (place : Option ℕ) → Option data_kept.Kept
started_at k at = option_and_then (λ i. given (is_set k.due i) (data_kept.after_start i k)) at

-- a start that was pending leads on; another one changes nothing
abbrev pub IsTaken : (pending : Bool) → (old new : GroupState) → (led : Option data_kept.Kept) → Type 0
IsTaken true old new led = (led ≡ Some new.kept.unqueued) × (new.kept.events ≡ old.kept.events) × (new.woken ≡ old.woken)
IsTaken false old new led = (led ≡ None) × (new ≡ old)
