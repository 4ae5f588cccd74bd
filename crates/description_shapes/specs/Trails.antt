-- The spot that the program's trail stands for.
use Rattle.serde_json.specs.View.{view}
use Rattle.description_shapes.specs.declared.trail.Trail.{Trail, fold-Trail}
use Rattle.description_shapes.specs.declared.trail.Trail.TheOpen.{Trail-F}
use Rattle.description_shapes.specs.Spots.{Spot, top, inside, inside_part}

abbrev pub spot_step : Trail-F Spot → Spot
spot_step Trail-F.Whole = top
spot_step (Trail-F.Member outer owner kind key) = inside outer.now kind (view owner.now) key.now
spot_step (Trail-F.Part outer owner kind index) = inside_part outer.now kind (view owner.now) index

abbrev pub spot_of : Trail → Spot
spot_of = fold-Trail Spot spot_step
