-- What the close of a round gives.
use Rattle.std.specs.Prelude.{◌≡◌, ◌<◌, ◌≤◌, ◌*◌, ◌⊎◌, ℕ, List, [], ◌∷◌, ◌++◌, length, filter, slice_get, slice_index, Some, None}
use mathlib.Core.Option as option
use lib.ListN.{get_elem?}
use Rattle.bus_semantics.specs.declared.entries.Stamped.{Stamped}
use Rattle.bus_semantics.specs.Common.{Plan, Past, touches, IsInterleaved, past_of}
use Rattle.port_objects.specs.declared.object.Object.{Object}
use Rattle.port_objects.specs.Common.{leads, kept_of, IsOfPlan, ArePlans, Stands}
use Rattle.cross_core_table.specs.declared.views.Opening.{Opening}
use Rattle.cross_core_table.specs.declared.views.Part.{Part}
use Rattle.cross_core_table.specs.declared.views.View.{View}
use Rattle.cross_core_table.specs.Logs.{plan_in}
use Rattle.cross_core_table.specs.Rules.{Table, RoundRule}

-- the entries that touch an object, the newest first, out of entries in order of stamps
abbrev pub touching : Plan → (object : ℕ) → List Stamped → Past
touching p o entries = filter (touches p o) (past_of entries)

-- an object before the round and after it: it keeps what the lead gives along the entries that touch it; and whatever entries it stood for before, it
-- stands for these and the entries of the round that touch it, each of which is what the bus answers after those before it
pub record IsLed (p : Plan) (o : ℕ) (before after : Object) (entries : List Stamped) : Type 0 where
  pub leads_on : leads p o (kept_of before) (touching p o entries) ≡ Some (kept_of after)
  pub stands : (l : Past) → Stands p o (kept_of before) l → Stands p o (kept_of after) (touching p o entries ++ l)

-- ---- how a round ends, as its rule says it

-- a part among those that a seat has taken in
abbrev pub Among : List Part → Part → Type 0
Among [] x = ⊥
Among (y ∷ ys) x = (y ≡ x) ⊎ Among ys x

-- the first seat holds nothing, and has taken in each other seat that it gave
pub record HasAll (k : Opening) (s : Table) (v : View) : Type 0 where
  pub there : get_elem? s.views 0 ≡ option.some v
  pub opening : v.opening ≡ Some k
  pub held : v.held ≡ None
  pub taken_in : (c : ℕ) → 0 < c → c < v.given → (x : Part) × (x.core ≡ c) × Among v.joined x

-- an object is in its slot, and was led on by the entries that touch it
pub record IsLedHome (k : Opening) (s : Table) (o : ℕ) (entries : List Stamped) : Type 0 where
  pub after : Object
  pub there : get_elem? s.homes o ≡ option.some (option.some after)
  pub planned : IsOfPlan (plan_in k) o after
  pub led : (before : Object) → slice_get k.objects.value.items o ≡ Some before → IsLed (plan_in k) o before after entries

-- there are the entries of the round in order of stamps: an interleaving of the parts that the first seat made and took in; and all objects are at home
pub record IsWhole (k : Opening) (s : Table) (v : View) : Type 0 where
  pub entries : List Stamped
  pub parts : List (List Stamped)
  pub interleaved : IsInterleaved entries parts
  pub stamps : slice_index s.words 0 ≡ length entries
  pub fits : length entries ≤ v.given * k.room
  pub count : length parts ≡ v.given
  pub own : slice_get parts 0 ≡ Some v.made
  pub others : (x : Part) → Among v.joined x → slice_get parts x.core ≡ Some x.entries
  pub home : (o : ℕ) → o < length s.homes → IsLedHome k s o entries

abbrev pub RoundsEndWhole : Type 0
RoundsEndWhole = (k : Opening) (s : Table) (v : View) → RoundRule k s → HasAll k s v → IsWhole k s v

-- ---- what the close answers

-- the entries are an interleaving of what the cores made, and each object was led on by those that touch it
pub record IsClosed (k : Opening) (parts : List (List Stamped)) (objects : List Object) (entries : List Stamped) : Type 0 where
  pub interleaved : IsInterleaved entries parts
  pub planned : ArePlans (plan_in k) objects
  pub led : (o : ℕ) (before after : Object) → slice_get k.objects.value.items o ≡ Some before → slice_get objects o ≡ Some after → IsLed (plan_in k) o before after entries
