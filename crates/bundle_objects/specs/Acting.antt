-- What the calls of a bundle answer and tell.
use Rattle.std.specs.Prelude.{◌≡◌, ◌<◌, ◌≤◌, ◌+◌, ◌⊎◌, ℕ, length, true, false, Option, Some, None, slice_get}
use Rattle.bus_semantics.specs.Common.{Contains, Value, words_of, Plan, elems_of, marked, split, Wanted, to_read, to_fetch, to_invalidate, to_see_updated}
use Rattle.bus_laws.specs.Common.{Actor, Entry}
use Rattle.bus_semantics.specs.declared.entries.Deed.TheVariants as deed
use Rattle.object_kinds.specs.declared.acted.Acted.{Acted}
use Rattle.object_kinds.specs.declared.acted.Acted.TheVariants.{Done, NotYet}
use Rattle.object_kinds.specs.declared.acted.Shown.{Shown}
use Rattle.object_kinds.specs.declared.acted.Shown.TheVariants.{Unmatched}
use Rattle.object_kinds.specs.Kinds.{IsAnswerOf}
use Rattle.data_objects.specs.Kept as groups
use Rattle.data_objects.specs.Leading as group_leading
use Rattle.data_objects.specs.Leading.{group_lead}
use Rattle.data_objects.specs.Plans.{IsGroupOfPlan}
use Rattle.data_objects.specs.Acting.{IsWishIn}
use Rattle.bundle_objects.specs.Kept.{Kept, BundleState, may_start, clear_in}
use Rattle.bundle_objects.specs.Leading.{with_part, moment_in, store_at, publish, lead, why_held, wakes}
use Rattle.bundle_objects.specs.Plans.{IsOfPlan}

-- the group at this place answered the wish, and all else stays
pub record IsPartActed (p : Plan) (at : ℕ) (a : Actor) (w : Wanted) (old new : BundleState) (r : Acted) : Type 0 where
  pub before : groups.Kept
  pub now : groups.Kept
  pub found : slice_get old.kept.parts at ≡ Some before
  pub kept : new.kept ≡ with_part old.kept at now
  pub woken : new.woken ≡ old.woken
  pub room : new.room ≡ old.room
  pub planned : (group : ℕ) → IsWishIn p group w → IsGroupOfPlan p group before → IsGroupOfPlan p group now
  pub answer : (group : ℕ) → IsWishIn p group w → IsGroupOfPlan p group before → IsAnswerOf p (group_lead p group) groups.may_start group_leading.why_held a w before now r
  pub same : (group : ℕ) → IsWishIn p group w → (shown : Shown) → r ≡ NotYet shown → now ≡ before

-- events that became pending were appended to those that were told, no others, and there is room for all that may come
pub record Adds (old new : BundleState) : Type 0 where
  pub came : (event : ℕ) → may_start old.kept event ≡ false → may_start new.kept event ≡ true → Contains new.woken event
  pub stayed : (event : ℕ) → Contains old.woken event → Contains new.woken event
  pub only : (event : ℕ) → Contains new.woken event → Contains old.woken event ⊎ ((may_start old.kept event ≡ false) × (may_start new.kept event ≡ true))
  pub rises : (event : ℕ) → may_start old.kept event ≡ true → may_start new.kept event ≡ true
  pub counted : length new.woken + clear_in new.kept ≤ length old.woken + clear_in old.kept
  pub room : new.room ≡ old.room

-- what became pending was told, and no other event
pub record Tells (old new : BundleState) : Type 0 where
  pub came : (event : ℕ) → may_start old.kept event ≡ false → may_start new.kept event ≡ true → Contains new.woken event
  pub only : (event : ℕ) → Contains new.woken event → (may_start old.kept event ≡ false) × (may_start new.kept event ≡ true)

-- the wish reads, looks at or invalidates this element
abbrev pub IsOnElem : Wanted → (elem : ℕ) → Type 0
IsOnElem (to_read y) x = y ≡ x
IsOnElem (to_fetch y) x = y ≡ x
IsOnElem (to_invalidate y) x = y ≡ x
IsOnElem (to_see_updated y) x = y ≡ x
IsOnElem w x = ⊥

-- nothing was done, and nothing has changed
abbrev pub IsUndone : Shown → (old new : BundleState) → Acted → Type 0
IsUndone why old new (NotYet shown) = (shown ≡ why) × (new ≡ old)
IsUndone why old new (Done e) = ⊥

-- the group at this place answered the wish, if there is one
abbrev pub IsActedAt : Plan → (at : Option ℕ) → Actor → Wanted → (old new : BundleState) → Acted → Type 0
IsActedAt p None a w old new r = IsUndone (why_held old.kept w) old new r
IsActedAt p (Some i) a w old new r = IsPartActed p i a w old new r

-- the value was stored in the group at this place, if there is one, by this entry
abbrev pub IsDone : Plan → Entry → (after : Kept) → (old new : BundleState) → Acted → Type 0
IsDone p entry after old new (Done e) = (e ≡ entry) × (new.kept ≡ after) × ((bundle : ℕ) → IsOfPlan p bundle old.kept → Tells old new)
IsDone p entry after old new (NotYet shown) = ⊥

abbrev pub IsStored : Plan → (at : Option ℕ) → Value → Entry → (old new : BundleState) → Acted → Type 0
IsStored p None v entry old new r = IsUndone Unmatched old new r
IsStored p (Some i) v entry old new r = IsDone p entry (store_at old.kept v (Some i)) old new r

-- the values of the elements of a list were fetched, unless they have too many words
abbrev pub IsFetched : Plan → Actor → (list : ℕ) → Kept → Acted → Type 0
IsFetched p a l k (Done e) = (v : Value) × ((e ≡ record { actor = a; deed = deed.FetchAll l v }) × (words_of v ≡ moment_in p k (elems_of p l)))
IsFetched p a l k (NotYet shown) = (shown ≡ Unmatched) × (16 < length (moment_in p k (elems_of p l)))

-- the words of the marked elements of a list were stored
abbrev pub IsPublished : Plan → Actor → (list : ℕ) → (written : ℕ) → Value → (old new : BundleState) → Acted → Type 0
IsPublished p a l written v old new r =
    IsDone p (record { actor = a; deed = deed.PublishAll l written v }) (publish p old.kept (split p (marked written (elems_of p l)) (words_of v))) old new r

-- ---- the whole answer

-- the entry of the wish was made, or none may come; and what became pending was told
pub record Answered (p : Plan) (bundle : ℕ) (a : Actor) (w : Wanted) (old new : BundleState) (r : Acted) : Type 0 where
  pub planned : IsOfPlan p bundle new.kept
  pub answer : IsAnswerOf p (lead p) may_start why_held a w old.kept new.kept r
  pub same : (shown : Shown) → r ≡ NotYet shown → new ≡ old
  pub told : (event : ℕ) → may_start old.kept event ≡ false → may_start new.kept event ≡ true → Contains new.woken event
  pub only : (e : Entry) → r ≡ Done e → wakes e.deed ≡ true → (event : ℕ) → Contains new.woken event → (may_start old.kept event ≡ false) × (may_start new.kept event ≡ true)
  pub left : (e : Entry) → r ≡ Done e → wakes e.deed ≡ false → new.woken ≡ old.woken
