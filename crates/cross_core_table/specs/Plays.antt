-- What each atomic step of a round tells its seat: of the step, the seat before, the number found and the seat after.
use Rattle.std.specs.Prelude.{◌≡◌, ◌≢◌, ℕ, suc, List, [], ◌∷◌, ◌++◌, Option, Some, None}
use Rattle.atomic_table.specs.Table.{Me, Step, rest}
use Rattle.bus_semantics.specs.declared.entries.Entry.{Entry}
use Rattle.bus_semantics.specs.declared.entries.Stamped.{Stamped}
use Rattle.port_objects.specs.declared.object.Object.{Object}
use Rattle.port_objects.specs.Objects.{kept_of, IsOfPlan}
use Rattle.cross_core_table.specs.declared.views.Opening.{Opening}
use Rattle.cross_core_table.specs.declared.views.Held.{Held}
use Rattle.cross_core_table.specs.declared.views.Part.{Part}
use Rattle.cross_core_table.specs.declared.views.View.{View}
use Rattle.cross_core_table.specs.Logs.{plan_in, kept_after}
use Rattle.cross_core_table.specs.Rules.{place_of}

-- a seat: what it knows, and the slot that is out with it
abbrev pub Sat : Type 0
Sat = Me Object View

abbrev pub Play : Type 1
Play = Step Object → Sat → ℕ → Sat → Type 0

-- ---- what a seat knows after each step

abbrev pub held_of : (object : ℕ) → List Stamped → Held
held_of o l = record { object = o; entries = l }

abbrev pub holding : View → Held → View
holding v h = record v { held = Some h }

abbrev pub failing : View → (object word : ℕ) → View
failing v o w = record v { tried = Some (record { object = o; word = w }); tries = suc v.tries }

abbrev pub making : View → Stamped → View
making v s = record v { made = v.made ++ s ∷ [] }

abbrev pub letting_go : View → View
letting_go v = record v { held = None }

abbrev pub having_looked : View → View
having_looked v = record v { held = None; look = v.held; looks = suc v.looks }

-- the seat that gives, and the one that it gives
abbrev pub giving : View → View
giving v = record v { given = suc v.given }

abbrev pub newcomer : View → View
newcomer v = record { opening = v.opening; core = v.given; given = 0; made = []; joined = []; held = None; look = None; tried = None; looks = 0; tries = 0 }

-- the seat that takes another in, and one that was taken in
abbrev pub part_of_view : View → Part
part_of_view u = record { core = u.core; entries = u.made }

abbrev pub joining : View → View → View
joining v u = record v { joined = v.joined ++ part_of_view u ∷ [] }

abbrev pub spent : View
spent = record { opening = None; core = 0; given = 0; made = []; joined = []; held = None; look = None; tried = None; looks = 0; tries = 0 }

-- the first seat, before the others are given
abbrev pub first_view : Opening → View
first_view k = record { opening = Some k; core = 0; given = 1; made = []; joined = []; held = None; look = None; tried = None; looks = 0; tries = 0 }

-- ---- the plays

-- the object is the seat's, and keeps what the lead gives along the entries that the seat was told of
pub record Took (m : Sat) (o : ℕ) (n : Sat) : Type 0 where
  pub entries : List Stamped
  pub object : Object
  pub seat : n ≡ (holding m.0 (held_of o entries), (o, object) ∷ m.1)
  pub kept : (k : Opening) → m.0.opening ≡ Some k → kept_after k o entries ≡ Some (kept_of object)
  pub planned : (k : Opening) → m.0.opening ≡ Some k → IsOfPlan (plan_in k) o object

-- the word named another core, and nothing else has changed
pub record Missed (m : Sat) (o r : ℕ) (n : Sat) : Type 0 where
  pub seat : n ≡ (failing m.0 o r, m.1)
  pub other : r ≢ suc m.0.core

-- a try for an object: its word was 0, and the seat took it; or it named another core
pub record LockedAt (m : Sat) (o r : ℕ) (n : Sat) : Type 0 where
  pub took : r ≡ 0 → Took m o n
  pub missed : r ≢ 0 → Missed m o r n

abbrev pub locked : Play
locked st m r n = (o : ℕ) → st.word ≡ place_of o → LockedAt m o r n

-- an entry as it was stamped
abbrev pub as_stamped : (stamp : ℕ) → Entry → (event : Option ℕ) → Stamped
as_stamped r e event = record { stamp = r; entry = e; event = event }

abbrev pub held_after : Option Held → Stamped → Option Held
held_after None s = None
held_after (Some h) s = Some (held_of h.object (s ∷ h.entries))

-- an entry of the object that the seat holds
abbrev pub stamped_on : Entry → (event : Option ℕ) → Play
stamped_on e event st m r n = n ≡ (record (making m.0 (as_stamped r e event)) { held = held_after m.0.held (as_stamped r e event) }, m.1)

-- an entry that touches no object
abbrev pub stamped_off : Entry → Play
stamped_off e st m r n = n ≡ (making m.0 (as_stamped r e None), m.1)

-- the object is given back, after an entry and without one
abbrev pub unlocked : Play
unlocked st m r n = n ≡ (letting_go m.0, rest m.1)

abbrev pub looked : Play
looked st m r n = n ≡ (having_looked m.0, rest m.1)
