-- That each kind of step keeps the rule of a round, whatever the table is when the step is made, and tells its seat what its play says.
use Rattle.std.specs.Prelude.{◌≡◌, ◌<◌, ◌+◌, ◌%◌, ◌^◌, ℕ, suc, List, ◌∷◌, length, slice_index, eqb, Option, Some, None}
use mathlib.Core.Option.{none}
use prog.Atomic.{either}
use Rattle.atomic_table.specs.Table.{step, opening, Allows, Splits, Joins}
use Rattle.bus_semantics.specs.declared.entries.Entry.{Entry}
use Rattle.bus_semantics.specs.Objects.{touched_by}
use Rattle.port_objects.specs.declared.object.Object.{Object}
use Rattle.port_objects.specs.Objects.{kept_of, IsOfPlan, ArePlans}
use Rattle.cross_core_table.specs.declared.views.Opening.{Opening}
use Rattle.cross_core_table.specs.declared.views.Held.{Held}
use Rattle.cross_core_table.specs.declared.views.View.{View}
use Rattle.cross_core_table.specs.Logs.{plan_in, kept_after}
use Rattle.cross_core_table.specs.Rules.{RoundRule, place_of}
use Rattle.cross_core_table.specs.Plays.{Sat, locked, stamped_on, stamped_off, unlocked, looked, giving, newcomer, joining, spent, first_view}

-- at the opening: all words 0, all objects in their slots, and one seat
abbrev pub OpeningsKeep : Type 0
OpeningsKeep = (k : Opening) (ws : List ℕ) (objects : List Object) → k.room < 2 ^ 32 → k.objects.value.items ≡ objects → ArePlans (plan_in k) objects →
    length ws ≡ place_of (length objects) → ((i : ℕ) → slice_index ws i ≡ 0) → RoundRule k (opening ws objects (first_view k))

-- a try for an object, by a seat that holds none: a compare and exchange of the object's word, from 0 to 1 plus the core
abbrev pub TriesKeep : Type 0
TriesKeep = (k : Opening) (slots id : ℕ) (m : Sat) (word o new : ℕ) → word ≡ place_of o → new ≡ suc m.0.core → o < slots → m.0.opening ≡ Some k → m.0.held ≡ None →
    Allows (RoundRule k) slots id m word (λ n. either (eqb n 0) new n) (locked (step slots word 0 new none) m)

-- a stamp for an entry that touches the object in hand, while there is room: a fetch and add on word 0
abbrev pub StampsOnKeep : Type 0
StampsOnKeep = (k : Opening) (slots id : ℕ) (m : Sat) (o : ℕ) (e : Entry) (event : Option ℕ) (h : Held) → m.0.opening ≡ Some k → m.0.held ≡ Some h → h.object ≡ o →
    touched_by (plan_in k) (record { entry = e; event = event }) ≡ Some o → length m.0.made < k.room →
    Allows (RoundRule k) slots id m 0 (λ n. (n + 1) % 2 ^ 64) (stamped_on e event (step slots 0 1 0 none) m)

-- a stamp for an entry that touches no object, while there is room
abbrev pub StampsOffKeep : Type 0
StampsOffKeep = (k : Opening) (slots id : ℕ) (m : Sat) (e : Entry) → m.0.opening ≡ Some k →
    touched_by (plan_in k) (record { entry = e; event = None }) ≡ None → length m.0.made < k.room →
    Allows (RoundRule k) slots id m 0 (λ n. (n + 1) % 2 ^ 64) (stamped_off e (step slots 0 1 0 none) m)

-- the object in hand is given back, if it keeps what the lead gives along the entries of the round that touch it: its word becomes 0
abbrev pub GivesBack : (then : (slots word : ℕ) → Sat → Sat → Type 0) → Type 0
GivesBack then = (k : Opening) (slots id : ℕ) (v : View) (word o : ℕ) (object : Object) (more : List (ℕ × Object)) (h : Held) → word ≡ place_of o → o < slots →
    v.opening ≡ Some k → v.held ≡ Some h → h.object ≡ o → kept_after k o h.entries ≡ Some (kept_of object) → IsOfPlan (plan_in k) o object →
    Allows (RoundRule k) slots id (v, (o, object) ∷ more) word (λ n. 0) (λ n. then slots word (v, (o, object) ∷ more))

abbrev pub UnlocksKeep : Type 0
UnlocksKeep = GivesBack (λ slots word m. unlocked (step slots word 0 0 none) m 0)

-- the same if nothing was stamped: the seat has looked
abbrev pub LooksKeep : Type 0
LooksKeep = GivesBack (λ slots word m. looked (step slots word 0 0 none) m 0)

-- the first seat gives another, the eighth at most
abbrev pub SplitsKeep : Type 0
SplitsKeep = (k : Opening) (id : ℕ) (v : View) → v.opening ≡ Some k → 0 < v.given → v.given < 8 → Splits (RoundRule k) id v (giving v) (newcomer v)

-- it takes in a seat that holds nothing
abbrev pub JoinsKeep : Type 0
JoinsKeep = (k : Opening) (id : ℕ) (v : View) (other : ℕ) (u : View) → v.opening ≡ Some k → 0 < v.given → u.opening ≡ Some k → u.held ≡ None →
    Joins (RoundRule k) id v other u (joining v u) spent
