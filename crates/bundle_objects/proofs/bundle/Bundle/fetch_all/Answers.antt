use Rattle.std.proofs.Common.{refl, ◌∙◌, ap}
use Rattle.bus_semantics.specs.Plan.{plan_of}
use Rattle.bundle_objects.specs.Leading.{moment_in}
use Rattle.bundle_objects.proofs.bundle.Bundle.fetch_all.Goals as goal

pub returns-in-Some : goal.returns-in-Some
returns-in-Some c = (c.in-Some.value, (refl, c.in-Some.ensures.some ∙ ap (moment_in (plan_of c.args.p.now) c.args.self.now.kept) c.elems_of.ensures))
