-- What has names in a plan, and tables of them.
use Rattle.std.specs.Prelude.{◌≡◌, ℕ, List, [], ◌∷◌, get_or, map, Bool, false, ◌&&◌, bytes_eq, nat_eq, if◌then◌else◌, Option, Some, None}
use Rattle.std.specs.List.{AllZip}
use Rattle.bus_semantics.specs.Common.{Bor, position, option_eq, same_number, Plan, Runnable, instance_of, look, Letters}
use Rattle.indexmap.specs.IndexMap.{IndexMap, get}
use Rattle.bus_laws.specs.Common.{AreaPlan, ElemPlan, EventPlan, MachinePlan, ModePortPlan, PointPlan}
use Rattle.trace_reading.specs.declared.tables.Kind.{Kind}
use Rattle.trace_reading.specs.declared.tables.Kind.TheVariants.{Instance, Runnable as a_runnable, Elem, Point, Result, Area, Machine, ModePort, Event}
use Rattle.trace_reading.specs.Finding.{home_of_caller}

-- a name, with the instance (or of a point the runnable) that has it; none for the environment
abbrev pub Label : Type 0
Label = Option ℕ × Letters

abbrev pub result_label : Plan → PointPlan → Option Label
result_label p t = if t.asynchronous then Some (home_of_caller p t.runnable, t.name) else None

-- the label of each thing of a kind, in order
abbrev pub labels : Kind → Plan → List (Option Label)
labels Instance p = map (λ (t : Letters). Some (None, t)) p.names
labels a_runnable p = map (λ (r : Runnable). Some (Some r.instance, r.name)) p.runnables
labels Elem p = map (λ (e : ElemPlan). Some (e.instance, e.name)) p.elements
labels Point p = map (λ (t : PointPlan). Some (t.runnable, t.name)) p.points
labels Result p = map (result_label p) p.points
labels Area p = map (λ (a : AreaPlan). Some (Some a.instance, a.name)) p.areas
labels Machine p = map (λ (n : MachinePlan). Some (n.instance, n.name)) p.machines
labels ModePort p = map (λ (t : ModePortPlan). Some (t.instance, t.name)) p.mode_ports
labels Event p = map (λ (v : EventPlan). Some (instance_of p v.runnable, v.name)) p.events

-- the label at a place
abbrev pub label_at : Kind → Plan → ℕ → Option Label
label_at Instance p x = look p.names x (λ (t : Letters). Some (None, t)) None
label_at a_runnable p x = look p.runnables x (λ (r : Runnable). Some (Some r.instance, r.name)) None
label_at Elem p x = look p.elements x (λ (e : ElemPlan). Some (e.instance, e.name)) None
label_at Point p x = look p.points x (λ (t : PointPlan). Some (t.runnable, t.name)) None
label_at Result p x = look p.points x (result_label p) None
label_at Area p x = look p.areas x (λ (a : AreaPlan). Some (Some a.instance, a.name)) None
label_at Machine p x = look p.machines x (λ (n : MachinePlan). Some (n.instance, n.name)) None
label_at ModePort p x = look p.mode_ports x (λ (t : ModePortPlan). Some (t.instance, t.name)) None
label_at Event p x = look p.events x (λ (v : EventPlan). Some (instance_of p v.runnable, v.name)) None

-- whether something goes by this label
abbrev pub goes_by : (home : Option ℕ) → Letters → Option Label → Bool
goes_by home name None = false
goes_by home name (Some l) = same_number l.0 home && bytes_eq l.1 name

-- the first thing of a kind that goes by it
abbrev pub first_of : Kind → Plan → (home : Option ℕ) → Letters → Option ℕ
first_of k p home name = position (goes_by home name) (labels k p)

-- ---- tables

abbrev pub Key : Type 0
Key = Option ℕ × Bor Letters

abbrev pub label_of : Option Key → Option Label
label_of None = None
label_of (Some k) = Some (k.0, k.1.now)

abbrev pub same_key : Key → Key → Bool
same_key a b = option_eq nat_eq a.0 b.0 && bytes_eq a.1.now b.1.now

-- the table has for each key the first thing of the kind that goes by it
abbrev pub IsTable : {S : Type 0} → Kind → Plan → IndexMap Key ℕ S → Type 0
IsTable k p m = (q : Key) → get same_key m q ≡ first_of k p q.0 q.1.now

-- the kinds in the order in which their tables are kept
abbrev pub kinds : List Kind
kinds = Instance ∷ a_runnable ∷ Elem ∷ Point ∷ Result ∷ Area ∷ Machine ∷ ModePort ∷ Event ∷ []

abbrev pub number_of : Kind → ℕ
number_of Instance = 0
number_of a_runnable = 1
number_of Elem = 2
number_of Point = 3
number_of Result = 4
number_of Area = 5
number_of Machine = 6
number_of ModePort = 7
number_of Event = 8

-- these are tables of these kinds, in their order
abbrev pub AreTables : {S : Type 0} → Plan → List Kind → List (IndexMap Key ℕ S) → Type 0
AreTables p ks tables = AllZip (λ k m. IsTable k p m) ks tables

-- each kind finds its table
abbrev pub HasTables : {S : Type 0} → Plan → List (IndexMap Key ℕ S) → Type 0
HasTables {S} p tables = (k : Kind) (m : IndexMap Key ℕ S) → IsTable k p (get_or tables (number_of k) m)

-- the table was given the place under this key, if there is one, and else is the same
abbrev pub IsNoted : {S : Type 0} → Option Key → ℕ → IndexMap Key ℕ S → IndexMap Key ℕ S → Type 0
IsNoted None n old new = (q : Key) → get same_key new q ≡ get same_key old q
IsNoted (Some k) n old new = (q : Key) → get same_key new q ≡ (if same_key k q then Some n else get same_key old q)
