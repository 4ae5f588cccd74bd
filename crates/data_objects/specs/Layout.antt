-- What of a plan belongs to a group of unqueued data elements.
use Rattle.std.specs.Prelude.{◌≡◌, ℕ, ◌<◌, length, Bool, true, false, not, unwrap_or}
use Rattle.bus_semantics.specs.Common.{list_all, Value, empty_value, Plan, look, kind_of, is_queued}
use Rattle.bus_semantics.specs.declared.plan.ElemPlan.{ElemPlan}
use Rattle.object_kinds.specs.Layout.{members_of, place, element_in}

abbrev pub initial_of : Plan → (elem : ℕ) → Value
initial_of p x = look p.elements x (λ (e : ElemPlan). e.init) empty_value

-- the receiver of a group that an event waits for: a place among the elements of the group
abbrev pub receiver_of : Plan → (group : ℕ) → (event : ℕ) → ℕ
receiver_of p g e = unwrap_or (place (element_in (kind_of p e)) (members_of p g)) 0

abbrev pub is_queued_at : Plan → (elem : ℕ) → Bool
is_queued_at p x = look p.elements x is_queued false

-- the group is one of the plan's, and none of its elements is queued: these are ports' unqueued elements, or a variable
pub record IsUnqueuedGroup (p : Plan) (group : ℕ) : Type 0 where
  pub number : group < length p.groups
  pub unqueued : list_all (λ x. not (is_queued_at p x)) (members_of p group) ≡ true
