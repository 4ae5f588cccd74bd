-- What an area keeps, as the definitions give it from a past of the area.
use Rattle.std.specs.Prelude.{◌≡◌, ℕ, true, Some, is_some}
use Rattle.bus_semantics.specs.Common.{ActKey, Plan, Past, is_held, is_open, enters_by}
use Rattle.bus_semantics.specs.declared.entries.Actor.TheVariants.{Act}
use Rattle.area_objects.specs.Layout.{IsArea, area_of}
use Rattle.area_objects.specs.Kept.{Kept}

-- somebody is in it exactly if the area is held, and then the last Enter or Leave is the Enter of that activation
pub record Keeps (p : Plan) (object : ℕ) (k : Kept) (l : Past) : Type 0 where
  pub is_area : IsArea p object
  pub held : is_some k.holder ≡ is_held (area_of p object) l
  pub holder : (key : ActKey) → k.holder ≡ Some key → is_open (enters_by (Act key)) l ≡ true
