use Rattle.std.proofs.Common.{◌≡◌, ◌+◌, suc, sym, subst, arith, List}
use Rattle.std.specs.Prelude.{Vec}
use Rattle.bus_semantics.specs.Common.{Global}
use Rattle.bus_semantics.specs.declared.entries.Stamped.{Stamped}
use Rattle.core_lanes.specs.Guiding.{AreRooms}
use Rattle.core_lanes.proofs.Guides.{rooms_more}
use Rattle.core_lanes.proofs.guided.rooms_of.Goals as goal

pub loop-core-preserved : goal.loop-core-preserved
loop-core-preserved c =
    let n = c.loop-core._core in
    let room = c.in_ok-with_capacity.ensures.capacity in
    let next : suc n ≡ n + 1 = omega arith in
    subst (λ k. AreRooms k c.push.new.self.items) next
    (subst (AreRooms (suc n)) (sym {A = List (Vec Stamped Global)} c.in_ok-push.ensures.items)
    (rooms_more n c.loop-core.rooms.items c.in_ok-with_capacity.field-0 c.loop-core.invariant c.in_ok-with_capacity.ensures.items (omega (arith, room))))
