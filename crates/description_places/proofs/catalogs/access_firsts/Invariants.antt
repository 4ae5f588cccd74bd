use Rattle.std.proofs.Common.{◌≡◌, map, take}
use Rattle.serde_json.specs.View.{view}
use Rattle.description_places.specs.Catalogs.{access_firsts}
use Rattle.description_places.proofs.catalogs.access_firsts.Given as goal

abbrev pub invariant-loop-runnable : goal.invariant-loop-runnable
invariant-loop-runnable l = l.lists.items ≡ map access_firsts (map view (take l.runnable-index l.runnables))
