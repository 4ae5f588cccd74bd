use Rattle.std.proofs.Common.{◌≡◌, ◌++◌, ◌∷◌, [], ◌∙◌, List, length, length-append, append_assoc, sym, ap, arith, map}
use Rattle.bus_semantics.specs.Common.{length-map, map-append, flat_map, into_iter_items}
use Rattle.cross_core_table.specs.declared.seats.CoreSeat.{CoreSeat}
use Rattle.core_turn.specs.Cores.{CoreState}
use Rattle.live_lanes.specs.declared.lanes.Lane.{Lane}
use Rattle.live_lanes.specs.declared.workers.Worker.{Worker}
use Rattle.live_lanes.specs.Lanes.{core_in, seats_in}
use Rattle.live_lanes.specs.Workers.{lane_in}
use Rattle.live_lanes.proofs.Lists.{seats_within, seats_on}
use Rattle.live_lanes.proofs.Working.{lanes_few, lanes_on}
use Rattle.live_lanes.proofs.seating.part_all.Goals as goal

pub part-requires-clause-cores : goal.part-requires-clause-cores
part-requires-clause-cores c =
    let at = c.loop-worker in
    let x : Worker = c.in-Some.worker in
    let rest : List Worker = into_iter_items c.next.new.self in
    let steps : into_iter_items at.worker-iterator ≡ x ∷ rest = c.in-Some.ensures.steps.0 in
    let whole : at.yielded ++ x ∷ rest ≡ c.args.workers.items = ap (λ (l : List Worker). at.yielded ++ l) (sym steps) ∙ (at.invariant.all ∙ c.into_iter-worker-iterator.ensures.into_iter_gives.0) in
    omega (arith, ap (λ (l : List Worker). length l) whole, length-append at.yielded (x ∷ rest), ap (λ (cs : List CoreState). length cs) at.invariant.cores, length-map (flat_map lane_in at.yielded) core_in, lanes_few at.yielded, at.invariant.cores_space, c.requires.cores.1)

pub part-requires-clause-seats : goal.part-requires-clause-seats
part-requires-clause-seats c =
    let at = c.loop-worker in
    let x : Worker = c.in-Some.worker in
    let rest : List Worker = into_iter_items c.next.new.self in
    let steps : into_iter_items at.worker-iterator ≡ x ∷ rest = c.in-Some.ensures.steps.0 in
    let whole : at.yielded ++ x ∷ rest ≡ c.args.workers.items = ap (λ (l : List Worker). at.yielded ++ l) (sym steps) ∙ (at.invariant.all ∙ c.into_iter-worker-iterator.ensures.into_iter_gives.0) in
    omega (arith, ap (λ (l : List Worker). length l) whole, length-append at.yielded (x ∷ rest), ap (λ (ss : List CoreSeat). length ss) at.invariant.seats, seats_within (flat_map lane_in at.yielded), lanes_few at.yielded, at.invariant.seats_space, c.requires.seats.1)

pub loop-worker-preserved : goal.loop-worker-preserved
loop-worker-preserved c =
    let at = c.loop-worker in
    let x : Worker = c.in-Some.worker in
    let rest : List Worker = into_iter_items c.next.new.self in
    let steps : into_iter_items at.worker-iterator ≡ x ∷ rest = c.in-Some.ensures.steps.0 in
    let given : at.yielded ++ x ∷ rest ≡ _ = ap (λ (l : List Worker). at.yielded ++ l) (sym steps) ∙ at.invariant.all in
    let was = at.invariant.left in
    let gone = c.in-Some.ensures.steps.1 in
    let more : flat_map lane_in (at.yielded ++ x ∷ []) ≡ flat_map lane_in at.yielded ++ lane_in x = lanes_on at.yielded x in
    record {
      all = append_assoc at.yielded (x ∷ []) rest ∙ given;
      left = let short = ap (λ (l : List Worker). length l) steps in omega arith;
      cores = c.part.ensures.cores ∙ ap (λ (cs : List CoreState). cs ++ map core_in (lane_in x)) at.invariant.cores ∙ sym (ap (map core_in) more ∙ map-append core_in (flat_map lane_in at.yielded) (lane_in x));
      seats = c.part.ensures.seats ∙ ap (λ (ss : List CoreSeat). ss ++ seats_in (lane_in x)) at.invariant.seats ∙ sym (ap seats_in more ∙ seats_on (flat_map lane_in at.yielded) (lane_in x));
      cores_space = c.part.ensures.cores_space ∙ at.invariant.cores_space;
      seats_space = c.part.ensures.seats_space ∙ at.invariant.seats_space;
    }
