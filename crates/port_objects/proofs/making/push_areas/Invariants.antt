use Rattle.std.proofs.Common.{◌++◌, map}
use Rattle.bus_semantics.specs.Plan.{plan_of, positions}
use Rattle.area_objects.specs.Kept as areas
use Rattle.port_objects.specs.Common.{of_area, before_areas, AreFirst}
use Rattle.port_objects.proofs.making.push_areas.Given as goal

abbrev pub invariant-loop-area : goal.invariant-loop-area
invariant-loop-area l = AreFirst (plan_of l.p) (before_areas (plan_of l.p) ++ map (λ x. of_area areas.opening) (positions l._area)) l.objects.items
