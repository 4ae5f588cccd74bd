-- Objects that stand for a history, and an entry of a trace that is tried on them. Histories stand the newest first.
use Rattle.std.specs.Prelude.{◌≡◌, ℕ, List, ◌∷◌, true, false, Option, Some, slice_get}
use Rattle.bus_laws.specs.Common.{Deed, Entry, Mapping}
use Rattle.bus_semantics.specs.Common.{Plan, Wanted, History, Noted, Past, note, entries_of, fits, follows_program, IsLegal, broken_clause, noted_for, MayCome, NoneMayCome, IsSound}
use Rattle.port_objects.specs.declared.object.Object.{Object}
use Rattle.port_objects.specs.Common.{Kept, IsTheOne, is_free, IsFree, kept_of, Stands}
use Rattle.trace_objects.specs.declared.came.Came.{Came}
use Rattle.trace_objects.specs.declared.came.Came.TheVariants.{Itself, Another, Nothing}
use Rattle.trace_objects.specs.Clauses.{broken_by}

-- each object stands for its entries of the history
abbrev pub ObjectsStand : Plan → History → List Object → Type 0
ObjectsStand p h objects = (i : ℕ) (o : Object) → slice_get objects i ≡ Some o → Stands p i (kept_of o) (entries_of p h i)

-- an entry that fits, and for which its actor's program asks after a legal history; with the event that started the activation, if it is an
-- Admit or an End
pub record IsTried (p : Plan) (m : Mapping) (h : History) (e : Entry) (event : Option ℕ) : Type 0 where
  pub sound : IsSound p m
  pub legal : IsLegal p h
  pub fit : fits p e ≡ true
  pub program : follows_program p h e.actor e.deed ≡ true
  pub by : event ≡ (note h e).event

-- after some history, for which the objects stand
pub record CanTry (p : Plan) (objects : List Object) (e : Entry) (event : Option ℕ) : Type 0 where
  pub mapping : Mapping
  pub history : History
  pub tried : IsTried p mapping history e event
  pub stand : ObjectsStand p history objects

-- the clause that it breaks goes by what may come of its wish; if it comes itself, the objects stand for the history and it
pub record Tries (p : Plan) (h : History) (objects : List Object) (e : Entry) (came : Came) : Type 0 where
  pub broken : broken_clause p h e ≡ broken_by e came
  pub made : came ≡ Itself → ObjectsStand p (e ∷ h) objects

-- ---- on its object, and without one

abbrev pub IsCompared : (made : Entry) → Entry → Came → Type 0
IsCompared made e Itself = made ≡ e
IsCompared made e Another = made ≡ e → ⊥
IsCompared made e Nothing = ⊥

-- another entry of the wish may come after these, and so it may not
pub record IsAnother (p : Plan) (w : Wanted) (l : Past) (e : Entry) : Type 0 where
  pub entry : Entry
  pub comes : MayCome p e.actor w l (noted_for w entry)
  pub other : (n : Noted) → MayCome p e.actor w l n → n.entry ≡ e → ⊥

-- the one entry of the wish that may come after these
abbrev pub IsMadeOn : Plan → Wanted → (after : Kept) → Past → Entry → Came → Type 0
IsMadeOn p w after l e Itself = IsTheOne p e.actor w after l e
IsMadeOn p w after l e Another = IsAnother p w l e
IsMadeOn p w after l e Nothing = NoneMayCome p e.actor w l

-- another deed is what is answered to the wish
pub record IsOther (w : Wanted) (e : Entry) : Type 0 where
  pub deed : Deed
  pub free : is_free w ≡ true
  pub answer : IsFree w deed
  pub other : record { actor = e.actor; deed = deed } ≡ e → ⊥

-- what is answered to a wish that touches no object
abbrev pub IsMadeAlone : Wanted → Entry → Came → Type 0
IsMadeAlone w e Itself = (is_free w ≡ true) × IsFree w e.deed
IsMadeAlone w e Another = IsOther w e
IsMadeAlone w e Nothing = is_free w ≡ false
