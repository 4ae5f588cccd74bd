-- Calls that the environment makes by its seat.
use Rattle.std.specs.Prelude.{◌≡◌, ℕ, List, [], ◌∷◌, ◌++◌, map, Some, slice_get}
use Rattle.bus_semantics.specs.declared.entries.Stamped.{Stamped}
use Rattle.bus_semantics.specs.Common.{Past, Plan, Wanted, wanted_by}
use Rattle.port_objects.specs.declared.object.Object.{Object}
use Rattle.port_objects.specs.Common.{kept_of, Stands}
use Rattle.cross_core_table.specs.declared.views.Opening.{Opening}
use Rattle.cross_core_table.specs.Logs.{plan_in}
use Rattle.core_lanes.specs.After.{calls_in}
use Rattle.core_lanes.specs.Calling.{IsCall}

-- what the environment wished by an entry, and by these
abbrev pub wish_in : Stamped → Wanted
wish_in s = wanted_by 0 s.entry.deed

abbrev pub wishes_in : List Stamped → List Wanted
wishes_in calls = map wish_in calls

-- by its entries among these
abbrev pub called_in : List Stamped → List Wanted
called_in entries = wishes_in (calls_in entries)

-- the environment's call of this wish was made, once, and is the last of what it made
pub record HasCalled (p : Plan) (w : Wanted) (before after : List Stamped) : Type 0 where
  pub made : Stamped
  pub added : after ≡ before ++ made ∷ []
  pub call : IsCall p made
  pub wish : wish_in made ≡ w

-- each object of the opening stood for some entries
abbrev pub HaveStood : Opening → Type 0
HaveStood k = (o : ℕ) (x : Object) → slice_get k.objects.value.items o ≡ Some x → (l : Past) × Stands (plan_in k) o (kept_of x) l
