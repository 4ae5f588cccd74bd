use Rattle.std.proofs.Common.{not, arith, length, ap}
use Rattle.std.proofs.lemmas.List.Sums.{count_by-le-length}
use Rattle.data_objects.specs.KeptValues.{Kept}
use Rattle.data_objects.proofs.unqueued.Unqueued.write_and_tell.Goals as goal

pub set_and_tell-requires-clause-room : goal.set_and_tell-requires-clause-room
set_and_tell-requires-clause-room c =
    omega (arith, c.requires.room, count_by-le-length not c.self.inside.due, c.self.invariant.1, ap length c.clear.ensures.items, ap (λ (k : Kept). length k.events) c.self.view_is)
