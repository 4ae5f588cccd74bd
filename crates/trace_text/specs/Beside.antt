-- The lists beside a coherent list: those of its runnable.
use Rattle.std.specs.Prelude.{ℕ, slice_get, Option, None}
use Rattle.bus_semantics.specs.declared.plan.CoherentList.{CoherentList}
use Rattle.bus_semantics.specs.Plan.{Plan, Runnable, look}

-- the first of them
abbrev pub first_beside : Plan → (list : ℕ) → Option ℕ
first_beside p l = look p.lists l (λ (c : CoherentList). look p.runnables c.runnable (λ (r : Runnable). slice_get r.lists 0) None) None
