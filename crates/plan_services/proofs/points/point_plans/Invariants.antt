use Rattle.std.proofs.Common.{◌≡◌, map, take}
use Rattle.plan_definitions.specs.Services.{point_of}
use Rattle.plan_services.proofs.points.point_plans.Given as goal

abbrev pub invariant-loop-calling : goal.invariant-loop-calling
invariant-loop-calling l = l.list.items ≡ map (point_of l.source.d.now l.source.f.now) (take l.calling-index l.callings)
