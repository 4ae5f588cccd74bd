-- An area as it is of a plan: all in it that no call changes.
use Rattle.std.specs.Prelude.{ℕ}
use Rattle.bus_semantics.specs.Plan.{Plan}
use Rattle.area_objects.specs.Layout.{IsArea}
use Rattle.area_objects.specs.Kept.{Kept}

pub record IsOfPlan (p : Plan) (object : ℕ) (k : Kept) : Type 0 where
  pub is_area : IsArea p object
