-- What an actor asks for, and the entry that is made of it. Histories stand the newest first.
use Rattle.std.specs.Prelude.{◌≡◌, List, ◌∷◌, true, false, Some, None, unwrap_or}
use Rattle.bus_semantics.specs.Common.{ActKey, Plan, Wanted, wanted_by, History, fits, wish_fits, follows_program, is_held_back, next_wish, asks_its_own, event_of, IsLegal, broken_clause}
use Rattle.bus_semantics.specs.Common.{IsSound}
use Rattle.bus_laws.specs.Common.{Mapping, Actor, Act, Deed, Entry}
use Rattle.port_objects.specs.declared.object.Object.{Object}
use Rattle.port_objects.specs.Freed.{is_free, IsFree}
use Rattle.trace_objects.specs.Standing.{ObjectsStand}

-- the program of the actor wants it next, and it does not wait for a direct activation; or it is no admission and no end, and each entry of
-- it follows what the actor's program says
pub data Asks (p : Plan) (h : History) (a : Actor) (w : Wanted) : Type 0 where
  by_program : (k : ActKey) → a ≡ Act k → next_wish p h k ≡ Some w → is_held_back p h k ≡ false → Asks p h a w
  by_itself : wish_fits p a w ≡ true → asks_its_own p a w ≡ true → event_of w ≡ None → ((d : Deed) → wanted_by 0 d ≡ w → follows_program p h a d ≡ true) → Asks p h a w

-- after a legal history the actor asks for it
pub record IsNext (p : Plan) (m : Mapping) (h : History) (a : Actor) (w : Wanted) : Type 0 where
  pub sound : IsSound p m
  pub legal : IsLegal p h
  pub asks : Asks p h a w

-- after some history, for which the objects stand
pub record CanGoOn (p : Plan) (objects : List Object) (a : Actor) (w : Wanted) : Type 0 where
  pub mapping : Mapping
  pub history : History
  pub next : IsNext p mapping history a w
  pub stand : ObjectsStand p history objects

-- the entry is the actor's and of the wish, fits and breaks no clause, and the objects stand for the history and it
pub record MakesNext (p : Plan) (h : History) (a : Actor) (w : Wanted) (objects : List Object) (e : Entry) : Type 0 where
  pub actor : e.actor ≡ a
  pub wanted : wanted_by (unwrap_or (event_of w) 0) e.deed ≡ w
  pub fit : fits p e ≡ true
  pub unbroken : broken_clause p h e ≡ None
  pub stand : ObjectsStand p (e ∷ h) objects

-- the entry of a wish that touches no object
pub record IsAlone (a : Actor) (w : Wanted) (e : Entry) : Type 0 where
  pub deed : Deed
  pub is : e ≡ record { actor = a; deed = deed }
  pub free : is_free w ≡ true
  pub answer : IsFree w deed
