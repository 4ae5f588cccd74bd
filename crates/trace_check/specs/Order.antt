-- The order of a script along a session, which is this project's own. Sessions stand the newest first.
use Rattle.std.specs.Prelude.{◌≡◌, List, ◌∷◌, ◌++◌, Bool, true, false}
use Rattle.bus_semantics.specs.declared.script.Line.{Line}
use Rattle.bus_semantics.specs.Run.{Item, Ordered, Session, IsBeginningOf, is_placed, orders_of, orders_of_script}

-- the session begins one of the script, and this is left of the script
pub record Leaves (script : List Line) (s : Session) (left : List Ordered) : Type 0 where
  pub orders : orders_of s ++ left ≡ orders_of_script script
  pub placed : is_placed s ≡ true

-- true: the item may come next in the order of the script, and this is left then. False: it may not
abbrev pub TakesItem : List Line → Session → Item → (left : List Ordered) → Bool → Type 0
TakesItem script s i left true = Leaves script (i ∷ s) left
TakesItem script s i left false = IsBeginningOf script (i ∷ s) → ⊥
