-- The lead: what a group keeps after an entry if it kept that before, or nothing if it would not answer so. It is a function of the
-- plan and of plain data, and knows no history. The entry touches the group.
use Rattle.std.specs.Prelude.{ℕ, List, Bool, true, false, not, ◌&&◌, ◌==◌, is_some, if◌then◌else◌, Option, Some, None, option_map, option_and_then, slice_get}
use Rattle.bus_semantics.specs.Common.{Value, words_of, same_words, Plan, look, Noted, same_bool, Wanted, to_start}
use Rattle.bus_semantics.specs.declared.plan.ElemPlan.{ElemPlan}
use Rattle.bus_semantics.specs.declared.plan.ElemKind.{ElemKind}
use Rattle.bus_semantics.specs.declared.plan.ElemKind.TheVariants.{Unqueued, Queued, Variable}
use Rattle.bus_semantics.specs.declared.entries.Deed.{Deed}
use Rattle.bus_semantics.specs.declared.entries.Deed.TheVariants as deed
use Rattle.data_objects.specs.KeptValues as data_kept
use Rattle.object_kinds.specs.declared.acted.Shown.{Shown}
use Rattle.object_kinds.specs.declared.acted.Shown.TheVariants.{NotDue, Unmatched}
use Rattle.object_kinds.specs.Common.{group_at, members_of, place, given, is_set}
use Rattle.data_objects.specs.Kept.{Kept}

-- 134 RTE_E_UNCONNECTED, 1 RTE_E_INVALID, 133 RTE_E_NEVER_RECEIVED, 0 RTE_E_OK, the first that fits; 0 for a variable
abbrev pub read_code_by : ElemPlan → (invalid : Bool) → (seen : Bool) → ℕ
read_code_by e invalid seen = by_kind e.kind
  where
    of_port : ℕ
    of_port = if not e.joined then 134 else if invalid then 1 else if e.never_received && not seen then 133 else 0

    by_kind : ElemKind → ℕ
    by_kind Variable = 0
    by_kind Unqueued = of_port
    by_kind Queued = of_port

abbrev pub read_code_in : Plan → (elem : ℕ) → data_kept.Kept → ℕ
read_code_in p x k = look p.elements x (λ (e : ElemPlan). read_code_by e k.invalid (is_some k.stored)) 0

-- the value of a receiver is this one
abbrev pub has_value : Value → (receiver : ℕ) → data_kept.Kept → Bool
has_value v r k = is_words (data_kept.value_for r k)
  where
    is_words : Option Value → Bool
    is_words None = false
    is_words (Some w) = same_words (words_of v) (words_of w)

abbrev pub has_flag : Bool → List Bool → ℕ → Bool
has_flag b flags i = is_flag (slice_get flags i)
  where
    is_flag : Option Bool → Bool
    is_flag None = false
    is_flag (Some c) = same_bool b c

abbrev pub lead_of_group : Plan → (group : ℕ) → (events : List ℕ) → data_kept.Kept → Deed → Option data_kept.Kept
lead_of_group p g events k (deed.Write x value) = Some (data_kept.after_write value k)
lead_of_group p g events k (deed.Publish x value) = Some (data_kept.after_write value k)
lead_of_group p g events k (deed.Invalidate x) = Some (data_kept.after_invalidation k)
lead_of_group p g events k (deed.Read x code value) = option_and_then (λ r. given ((code == read_code_in p x k) && has_value value r k) (data_kept.after_read r k)) (place x (members_of p g))
lead_of_group p g events k (deed.Fetch x value) = option_and_then (λ r. given (has_value value r k) k) (place x (members_of p g))
lead_of_group p g events k (deed.IsUpdated x updated) = option_and_then (λ r. given (has_flag updated k.updated r) k) (place x (members_of p g))
lead_of_group p g events k (deed.Start event point value) = option_and_then (λ i. given (is_set k.due i) (data_kept.after_start i k)) (place event events)
lead_of_group p g events k _ = None

abbrev pub group_lead : Plan → (group : ℕ) → Kept → Noted → Option Kept
group_lead p g k n = option_map (λ (d : data_kept.Kept). record { events = k.events; unqueued = d }) (lead_of_group p g k.events k.unqueued n.entry.deed)

-- where the object of this number is the group
abbrev pub lead : Plan → (object : ℕ) → Kept → Noted → Option Kept
lead p object k n = group_lead p (group_at p object) k n

-- the value of an element as its group keeps it; none of an element that is not the group's
abbrev pub value_in : Plan → (group : ℕ) → (elem : ℕ) → data_kept.Kept → Option Value
value_in p g x k = option_and_then (λ r. data_kept.value_for r k) (place x (members_of p g))

-- why a wish may not come: a start is not due; every other wish that may not come is none of the group's
abbrev pub why_held : Kept → Wanted → Shown
why_held k (to_start event) = NotDue event
why_held k w = Unmatched

-- an entry that can make a start come
abbrev pub wakes : Deed → Bool
wakes (deed.Write x value) = true
wakes (deed.Publish x value) = true
wakes _ = false
