-- The values that a wish gives, as many words as there are limits and each within its own (Software Component Template: types of data
-- elements and arguments).
use Rattle.std.specs.Prelude.{ℕ, ℤ, List, [], ◌∷◌, flat_map, Bool, true, false, ◌&&◌, replicate}
use Rattle.bus_semantics.specs.Common.{Limits, Plan, Runnable, look, Wanted, to_write, to_send, to_publish, to_publish_all, to_ask, to_return, elems_of, marked, arguments_of, is_within}
use Rattle.bus_semantics.specs.Common.{argument_limits}
use Rattle.bus_laws.specs.Common.{ElemPlan, PointPlan}

-- one word for each of the limits, and within them
abbrev pub are_within : List Limits → List ℤ → Bool
are_within [] [] = true
are_within (l ∷ limits) (x ∷ ws) = is_within l x && are_within limits ws
are_within _ _ = false

abbrev pub elem_takes : Plan → (elem : ℕ) → List ℤ → Bool
elem_takes p x ws = look p.elements x (λ (e : ElemPlan). are_within (replicate e.words e.limits) ws) false

-- the limits of the words of an element, and of some elements one after the other
abbrev pub limits_at : Plan → (elem : ℕ) → List Limits
limits_at p x = look p.elements x (λ (e : ElemPlan). replicate e.words e.limits) []

abbrev pub elems_take : Plan → (elems : List ℕ) → List ℤ → Bool
elems_take p xs ws = are_within (flat_map (limits_at p) xs) ws

abbrev pub point_gets : Plan → (point : ℕ) → List ℤ → Bool
point_gets p q ws = look p.points q (λ (t : PointPlan). are_within t.ins ws) false

-- what a wish of a runnable gives is what the element, the marked elements of the list, the operation's `in` arguments or, returned, its
-- `out` arguments take
abbrev pub gives_what_fits : Plan → Runnable → Wanted → Bool
gives_what_fits p r (to_write x ws) = elem_takes p x ws
gives_what_fits p r (to_send x ws) = elem_takes p x ws
gives_what_fits p r (to_publish x ws) = elem_takes p x ws
gives_what_fits p r (to_publish_all l written ws) = elems_take p (marked written (elems_of p l)) ws
gives_what_fits p r (to_ask q ws) = point_gets p q ws
gives_what_fits p r (to_return code ws) = are_within (argument_limits true (arguments_of p r)) ws
gives_what_fits p r w = true

-- the words that a wish gives
abbrev pub words_given : Wanted → List ℤ
words_given (to_write x ws) = ws
words_given (to_send x ws) = ws
words_given (to_publish x ws) = ws
words_given (to_publish_all l written ws) = ws
words_given (to_ask q ws) = ws
words_given (to_return code ws) = ws
words_given w = []
