use Rattle.std.proofs.Common.{length, ap, arith}
use Rattle.bundle_objects.proofs.Coded.{clear_few}
use Rattle.bundle_objects.proofs.bundle.Bundle.forget.Goals as goal

pub returns-clause-room : goal.returns-clause-room
returns-clause-room c =
    let i = c.self.inside in
    omega (arith, clear_few i.numbers.items i.events.items i.places.items i.groups.items, c.self.invariant.5, ap length c.clear.ensures.items, c.clear.ensures.capacity)
