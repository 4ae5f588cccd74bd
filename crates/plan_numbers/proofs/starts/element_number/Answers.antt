use Rattle.std.proofs.Common.{◌<◌, ◌^◌, arith, sym, ◌∙◌}
use Rattle.plan_numbers.proofs.Starting.{place_fits}
use Rattle.plan_numbers.proofs.starts.element_number.Goals as goal

pub overflow_cast-result : goal.overflow_cast-result
overflow_cast-result c =
    let fits : c.in-Some.place < 2 ^ 32 = place_fits c.args.d.now c.args.f.now c.args.key c.in-Some.place c.args.starts.now.count c.requires.of_all c.requires.few (sym c.element_place.ensures ∙ c.in-Some.is) in
    omega (arith, fits)
