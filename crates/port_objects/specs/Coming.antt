-- What comes of a wish after the entries that its object stands for: the one entry that may come.
use Rattle.std.specs.Prelude.{◌≡◌, ◌∷◌, true}
use Rattle.bus_laws.specs.Common.{Mapping, Actor, Entry}
use Rattle.bus_semantics.specs.Common.{Plan, Wanted, Noted, Past, touched, wish_fits, noted_for, asks_its_own, MayCome, IsSound}
use Rattle.port_objects.specs.Kept.{Kept}
use Rattle.port_objects.specs.Standing.{Stands}

-- the plan is sound, the wish fits its actor, and its object stands for these entries
pub record MayAsk (p : Plan) (m : Mapping) (a : Actor) (w : Wanted) (k : Kept) (l : Past) : Type 0 where
  pub sound : IsSound p m
  pub fits : wish_fits p a w ≡ true
  pub own : asks_its_own p a w ≡ true
  pub stands : Stands p (touched p a w) k l

-- it is the one entry that may come, and what is kept then stands for these entries and it
pub record IsTheOne (p : Plan) (a : Actor) (w : Wanted) (after : Kept) (l : Past) (e : Entry) : Type 0 where
  pub comes : MayCome p a w l (noted_for w e)
  pub only : (n : Noted) → MayCome p a w l n → n.entry ≡ e
  pub stands : Stands p (touched p a w) after (noted_for w e ∷ l)
