-- What guides cores, one after the other.
use Rattle.std.proofs.Common.{◌≡◌, ◌<◌, ℕ, zero, suc, List, [], ◌∷◌, ◌++◌}
use Rattle.std.specs.Prelude.{Vec}
use Rattle.bus_semantics.specs.Common.{Global, vec_capacity}
use Rattle.bus_semantics.specs.declared.entries.Stamped.{Stamped}
use Rattle.core_turn.specs.Awake.{AwakeState, Fits}
use Rattle.core_turn.specs.Cores.{CoreState}
use Rattle.core_lanes.specs.Guiding.{AreFitting, AreRooms}

-- one more
pub fitting_more : (cores : List CoreState) (awake : List AwakeState) (c : CoreState) (a : AwakeState) → AreFitting cores awake → Fits c.slots c.first a → AreFitting (cores ++ c ∷ []) (awake ++ a ∷ [])
fitting_more [] [] c a all one = (one, tt)
fitting_more [] (x ∷ awake) c a all one = absurd all
fitting_more (x ∷ cores) [] c a all one = absurd all
fitting_more (x ∷ cores) (y ∷ awake) c a all one = (all.0, fitting_more cores awake c a all.1 one)

pub rooms_more : (n : ℕ) (rooms : List (Vec Stamped Global)) (v : Vec Stamped Global) → AreRooms n rooms → v.items ≡ [] → 0 < vec_capacity v → AreRooms (suc n) (rooms ++ v ∷ [])
rooms_more zero [] v all empty space = (empty, space, tt)
rooms_more zero (x ∷ rooms) v all empty space = absurd all
rooms_more (suc n) [] v all empty space = absurd all
rooms_more (suc n) (x ∷ rooms) v all empty space = (all.0, all.1, rooms_more n rooms v all.2 empty space)
