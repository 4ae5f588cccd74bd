-- Which wishes always have an entry that may come after the past of their object, and when the others have one.
use Rattle.std.specs.Prelude.{◌≡◌, Bool, true, false, Some}
use Rattle.bus_laws.specs.Common.{Actor, Mapping, Wish}
use Rattle.bus_semantics.specs.Common.{Plan, Wanted, to_start, to_admit, to_hear, to_return, to_enter, to_leave, to_move_on, to_end, wanted_of, Noted, Past, object_of, touched, wish_fits}
use Rattle.bus_semantics.specs.Common.{asks_its_own, MayCome, IsPastOf, IsSound}

-- in a sound plan, a wish that fits its actor and is its own touches an object with this past
pub record IsAsked (p : Plan) (m : Mapping) (a : Actor) (wish : Wish) (l : Past) : Type 0 where
  pub sound : IsSound p m
  pub fits : wish_fits p a (wanted_of wish) ≡ true
  pub own : asks_its_own p a (wanted_of wish) ≡ true
  pub touching : object_of p a (wanted_of wish) ≡ Some (touched p a (wanted_of wish))
  pub past : IsPastOf p (touched p a (wanted_of wish)) l

pub record Comes (p : Plan) (a : Actor) (wish : Wish) (l : Past) : Type 0 where
  pub entry : Noted
  pub comes : MayCome p a (wanted_of wish) l entry

-- whether an entry comes depends on what was before: a start, an admission, the hearing of an answer, a return, an area, a phase, an end
abbrev pub may_be_held : Wanted → Bool
may_be_held (to_start event) = true
may_be_held (to_admit event) = true
may_be_held (to_hear q) = true
may_be_held (to_return code ws) = true
may_be_held (to_enter x) = true
may_be_held (to_leave x) = true
may_be_held to_move_on = true
may_be_held (to_end event) = true
may_be_held w = false
