-- The lead: what a bundle keeps after an entry if it kept that before, or nothing if it would not answer so. It is a function of the
-- plan and of plain data, and knows no history. An entry on one element is its group's; a fetch of a list has the values of its elements at
-- this one moment, and a publication of a list stores all its values at once, one after the other in the list's order.
use Rattle.std.specs.Prelude.{ℕ, ℤ, List, [], ◌∷◌, flat_map, get_or, set, Bool, true, false, Option, Some, None, option_map, option_and_then, slice_get}
use Rattle.bus_semantics.specs.Common.{option_map_or, Value, words_of, same_words, Plan, group_of, elems_of, marked, split, Noted, Wanted, to_start}
use Rattle.bus_semantics.specs.declared.entries.Deed.{Deed}
use Rattle.bus_semantics.specs.declared.entries.Deed.TheVariants as deed
use Rattle.data_objects.specs.KeptValues as data_kept
use Rattle.object_kinds.specs.declared.acted.Shown.{Shown}
use Rattle.object_kinds.specs.declared.acted.Shown.TheVariants.{NotDue, Unmatched}
use Rattle.object_kinds.specs.Common.{place, given}
use Rattle.data_objects.specs.Kept as groups
use Rattle.data_objects.specs.Leading.{group_lead, value_in}
use Rattle.bundle_objects.specs.Kept.{Kept, route}
use Rattle.bundle_objects.specs.Words.{value_of}

-- ---- parts

-- the place of an element's group
abbrev pub part_of : Plan → Kept → (elem : ℕ) → Option ℕ
part_of p k x = option_and_then (λ g. place g k.numbers) (group_of p x)

abbrev pub number_at : Kept → (at : ℕ) → ℕ
number_at k i = get_or k.numbers i 0

-- one group keeps this, and the others stay
abbrev pub with_part : Kept → (at : ℕ) → groups.Kept → Kept
with_part k i part = record { numbers = k.numbers; events = k.events; places = k.places; parts = set k.parts i part }

-- the group at this place leads on by the entry
abbrev pub lead_part : Plan → Kept → Noted → (at : Option ℕ) → Option Kept
lead_part p k n at = option_and_then (λ i. option_and_then (λ part. option_map (with_part k i) (group_lead p (number_at k i) part n)) (slice_get k.parts i)) at

-- ---- lists

-- the value of an element as its group keeps it
abbrev pub value_kept : Plan → Kept → (elem : ℕ) → Option Value
value_kept p k x = option_and_then (λ i. option_and_then (λ (part : groups.Kept). value_in p (number_at k i) x part.unqueued) (slice_get k.parts i)) (part_of p k x)

-- the values of some elements, one after the other
abbrev pub moment_in : Plan → Kept → (elems : List ℕ) → List ℤ
moment_in p k xs = flat_map (λ x. option_map_or words_of (value_kept p k x) []) xs

-- a value is stored in the group at this place
abbrev pub after_publication : Value → groups.Kept → groups.Kept
after_publication v part = record { events = part.events; unqueued = data_kept.after_write v part.unqueued }

abbrev pub store_at : Kept → Value → (at : Option ℕ) → Kept
store_at k v at = option_map_or (λ i. option_map_or (λ part. with_part k i (after_publication v part)) (slice_get k.parts i) k) at k

-- and in the group of an element
abbrev pub store : Plan → Kept → (elem : ℕ) → Value → Kept
store p k x v = store_at k v (part_of p k x)

-- the words of each element, one after the other
abbrev pub publish : Plan → Kept → List (ℕ × List ℤ) → Kept
publish p k [] = k
publish p k (pair ∷ pairs) = publish p (store p k pair.0 (value_of pair.1)) pairs

-- ---- the lead

-- the place of the group on which an entry is
abbrev pub part_at : Plan → Kept → Deed → Option ℕ
part_at p k (deed.Start event point value) = route k event
part_at p k (deed.Fetch x value) = part_of p k x
part_at p k (deed.Write x value) = part_of p k x
part_at p k (deed.Read x code value) = part_of p k x
part_at p k (deed.Invalidate x) = part_of p k x
part_at p k (deed.IsUpdated x updated) = part_of p k x
part_at p k (deed.Publish x value) = part_of p k x
part_at p k _ = None

abbrev pub lead_by : Plan → Kept → Noted → Deed → Option Kept
lead_by p k n (deed.FetchAll l value) = given (same_words (words_of value) (moment_in p k (elems_of p l))) k
lead_by p k n (deed.PublishAll l written value) = Some (publish p k (split p (marked written (elems_of p l)) (words_of value)))
lead_by p k n d = lead_part p k n (part_at p k d)

abbrev pub lead : Plan → Kept → Noted → Option Kept
lead p k n = lead_by p k n n.entry.deed

-- why a wish may not come: a start is not due; every other wish that may not come is none of the bundle's
abbrev pub why_held : Kept → Wanted → Shown
why_held k (to_start event) = NotDue event
why_held k w = Unmatched

-- an entry that can make a start come
abbrev pub wakes : Deed → Bool
wakes (deed.Write x value) = true
wakes (deed.Publish x value) = true
wakes (deed.PublishAll l written value) = true
wakes _ = false
