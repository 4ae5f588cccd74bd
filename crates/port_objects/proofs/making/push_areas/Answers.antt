use Rattle.std.proofs.Common.{◌+◌, ◌<◌, ap, length, arith}
use Rattle.bus_semantics.specs.Common.{plan_of, first_area}
use Rattle.area_objects.specs.Kept as areas
use Rattle.port_objects.specs.declared.object.Object.TheVariants.{Area}
use Rattle.port_objects.specs.Common.{of_area, before_areas}
use Rattle.port_objects.proofs.Opened.{areas_from, row_more, this_area}
use Rattle.port_objects.proofs.making.push_areas.Goals as goal

pub loop-area-preserved : goal.loop-area-preserved
loop-area-preserved c =
    let p = plan_of c.args.p.now in
    let n = c.loop-area._area in
    let within : n < length c.args.p.now.areas = omega (arith, c.loop-area-test.true, c.loop-area.auto._area-end, c.len-area-end.ensures) in
    let area = this_area p n within in
    row_more p (before_areas p) (λ x. of_area areas.opening) n (n + 1) c.loop-area.objects.items c.push.new.self.items (Area c.new.result) (first_area p + n) (omega arith) c.loop-area.invariant
    (ap (λ k. k + n) (areas_from p c.requires.sound)) (ap of_area c.new.ensures) (record { is_area = area }) (record { past = tt; keeps = c.first_area_stands_for_nothing.ensures p (first_area p + n) area }) c.in_ok-push.ensures.items
