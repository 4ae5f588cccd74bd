-- The rule of a round: what holds between any two atomic steps of any number of seats, on any threads. Word 0 counts stamps, and each object has a word
-- (0, or 1 plus the number of the core that holds it) and a slot. The table, its words and its seats are this project's own.
use Rattle.std.specs.Prelude.{◌≡◌, ◌≢◌, ◌<◌, ◌≤◌, ◌^◌, ◌+◌, ◌*◌, ◌==◌, min, ℕ, suc, List, [], ◌∷◌, ◌++◌, length, filter, slice_index, true, false, is_some, if◌then◌else◌, Option, Some, None}
use mathlib.Core.Option as option
use lib.ListN.{get_elem?}
use Rattle.atomic_table.specs.Table.{State}
use Rattle.bus_semantics.specs.declared.entries.Stamped.{Stamped}
use Rattle.bus_semantics.specs.Interleaving.{Logged}
use Rattle.port_objects.specs.declared.object.Object.{Object}
use Rattle.port_objects.specs.Objects.{kept_of, IsOfPlan}
use Rattle.cross_core_table.specs.declared.views.Opening.{Opening}
use Rattle.cross_core_table.specs.declared.views.Held.{Held}
use Rattle.cross_core_table.specs.declared.views.Part.{Part}
use Rattle.cross_core_table.specs.declared.views.Tried.{Tried}
use Rattle.cross_core_table.specs.declared.views.View.{View}
use Rattle.cross_core_table.specs.Logs.{on_object, made_by, AreCounted, AreOf, plan_in, kept_after}

-- the table of a round: its words, its slots with objects, and what each seat knows
abbrev pub Table : Type 0
Table = State Object View

-- where the word of an object stands. Each of the first 1,024 has a line of 8 words to itself, as the word of the stamps has; those of all others stand
-- side by side behind these lines. By the number of objects it is the number of words.
abbrev pub place_of : (object : ℕ) → ℕ
place_of o = o + 7 * min o 1024 + 8

-- the word of an object
abbrev pub word_of : List ℕ → (object : ℕ) → ℕ
word_of ws o = slice_index ws (place_of o)

-- ---- what a seat knows

-- the word of the object names the core, and the entries are those of the round that touch the object
pub record IsHolding (k : Opening) (ws : List ℕ) (log : List Logged) (core : ℕ) (h : Held) : Type 0 where
  pub word : word_of ws h.object ≡ suc core
  pub entries : h.entries ≡ on_object (plan_in k) h.object log

abbrev pub Holds : Opening → List ℕ → List Logged → (core : ℕ) → Option Held → Type 0
Holds k ws log c None = Unit {0}
Holds k ws log c (Some h) = IsHolding k ws log c h

-- a look found what had touched the object at some moment
abbrev pub Looked : Opening → List Logged → Option Held → Type 0
Looked k log None = Unit {0}
Looked k log (Some h) = (newer : List Stamped) × (on_object (plan_in k) h.object log ≡ newer ++ h.entries)

-- a try failed if the word named another core
abbrev pub Failed : (core : ℕ) → Option Tried → Type 0
Failed c None = Unit {0}
Failed c (Some t) = (t.word ≢ 0) × (t.word ≢ suc c)

-- a seat was taken in
abbrev pub IsSpent : View → Type 0
IsSpent v = v.opening ≡ None

-- each part is what its core made, whose seat was taken in
abbrev pub AreJoined : List View → List Logged → List Part → Type 0
AreJoined vs log [] = Unit {0}
AreJoined vs log (x ∷ xs) = (x.entries ≡ made_by x.core log) × ((u : View) × (get_elem? vs x.core ≡ option.some u) × IsSpent u) × AreJoined vs log xs

-- those that are of a core
abbrev pub parts_of : (core : ℕ) → List Part → List Part
parts_of c xs = filter (λ (x : Part). x.core == c) xs

-- how often the part of a seat was joined: once if the seat was taken in
abbrev pub times_joined : View → ℕ
times_joined u = if is_some u.opening then 0 else 1

-- what holds of a seat that was not taken in
pub record IsSeated (k : Opening) (ws : List ℕ) (vs : List View) (log : List Logged) (j : ℕ) (v : View) : Type 0 where
  pub opening : v.opening ≡ Some k
  pub core : v.core ≡ j
  pub made : v.made ≡ made_by j log
  pub held : Holds k ws log j v.held
  pub look : Looked k log v.look
  pub tried : Failed j v.tried
  pub joined : AreJoined vs log v.joined

-- what holds of one that was
pub record IsGone (v : View) : Type 0 where
  pub made : v.made ≡ []
  pub joined : v.joined ≡ []
  pub held : v.held ≡ None

-- ---- what is on the table

-- the object is in its slot, and keeps what the lead gives along the entries that touch it
pub record IsAtHome (k : Opening) (homes : List (option.Option Object)) (log : List Logged) (o : ℕ) : Type 0 where
  pub object : Object
  pub there : get_elem? homes o ≡ option.some (option.some object)
  pub kept : kept_after k o (on_object (plan_in k) o log) ≡ Some (kept_of object)
  pub planned : IsOfPlan (plan_in k) o object

-- a seat holds the object
pub record IsTaken (vs : List View) (core : ℕ) (o : ℕ) : Type 0 where
  pub view : View
  pub there : get_elem? vs core ≡ option.some view
  pub held : Held
  pub holds : view.held ≡ Some held
  pub object : held.object ≡ o

-- ---- the rule

pub record RoundRule (k : Opening) (s : Table) : Type 0 where
  -- there is a log, whose length is word 0; no core made more than it has room for
  pub log : List Logged
  pub stamps : AreCounted log
  pub count : slice_index s.words 0 ≡ length log
  pub cores : AreOf (length s.views) log
  pub small : k.room < 2 ^ 32
  pub room : (c : ℕ) → length (made_by c log) ≤ k.room
  -- there is a word for each object, and a seat for each core
  pub words : length s.words ≡ place_of (length s.homes)
  pub objects : length s.homes ≡ length k.objects.value.items
  pub seats : length s.views ≤ 8
  -- the first seat gives the others
  pub giver : (v : View) → get_elem? s.views 0 ≡ option.some v → v.given ≡ length s.views
  pub takers : (j : ℕ) (v : View) → get_elem? s.views (suc j) ≡ option.some v → v.given ≡ 0
  -- among the parts that the first seat has joined that of each seat which was taken in stands once, and that of no other; other seats have joined none
  pub once : (v : View) → get_elem? s.views 0 ≡ option.some v → (c : ℕ) (u : View) → get_elem? s.views c ≡ option.some u → length (parts_of c v.joined) ≡ times_joined u
  pub alone : (j : ℕ) (v : View) → get_elem? s.views (suc j) ≡ option.some v → v.joined ≡ []
  -- what each seat knows
  pub seated : (j : ℕ) (v : View) → get_elem? s.views j ≡ option.some v → is_some v.opening ≡ true → IsSeated k s.words s.views log j v
  pub gone : (j : ℕ) (v : View) → get_elem? s.views j ≡ option.some v → is_some v.opening ≡ false → IsGone v
  -- an object is free and at home, or its word names the core whose seat holds it
  pub free : (o : ℕ) → o < length s.homes → word_of s.words o ≡ 0 → IsAtHome k s.homes log o
  pub taken : (o c : ℕ) → o < length s.homes → word_of s.words o ≡ suc c → IsTaken s.views c o
