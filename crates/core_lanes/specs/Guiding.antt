-- What guides a core in its turns.
use Rattle.std.specs.Prelude.{◌≡◌, ◌<◌, ℕ, zero, suc, List, [], ◌∷◌, Vec}
use Rattle.bus_semantics.specs.Common.{Global, vec_capacity}
use Rattle.bus_semantics.specs.declared.entries.Stamped.{Stamped}
use Rattle.core_turn.specs.Awake.{AwakeState, Fits}
use Rattle.core_turn.specs.Cores.{CoreState}
use Rattle.core_lanes.specs.declared.guided.Guide.{Guide}

-- it was made for the core as it is, and has room for the entry of a turn
pub record IsGuide (c : CoreState) (g : Guide) : Type 0 where
  pub fits : Fits c.slots c.first g.awake
  pub none : g.made.items ≡ []
  pub space : 0 < vec_capacity g.made

-- what of each of these cores may step, as far as it is known, in their order
abbrev pub AreFitting : List CoreState → List AwakeState → Type 0
AreFitting [] [] = Unit {0}
AreFitting (c ∷ cores) (a ∷ awake) = Fits c.slots c.first a × AreFitting cores awake
AreFitting _ _ = ⊥

-- so many lists, each empty and with room for an entry
abbrev pub AreRooms : (count : ℕ) → List (Vec Stamped Global) → Type 0
AreRooms zero [] = Unit {0}
AreRooms (suc n) (v ∷ rooms) = (v.items ≡ []) × (0 < vec_capacity v) × AreRooms n rooms
AreRooms _ _ = ⊥
