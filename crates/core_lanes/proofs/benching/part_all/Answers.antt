use Rattle.std.proofs.Common.{◌≡◌, ◌++◌, ◌∷◌, [], ◌∙◌, List, length, length-append, append_assoc, map, sym, ap, subst, arith}
use Rattle.bus_semantics.specs.Common.{map-append, into_iter_items}
use Rattle.cross_core_table.specs.declared.seats.CoreSeat.{CoreSeat}
use Rattle.core_turn.specs.Awake.{AwakeState}
use Rattle.core_turn.specs.Cores.{CoreState}
use Rattle.core_lanes.specs.Guiding.{AreFitting}
use Rattle.core_lanes.specs.declared.lanes.Lane.{Lane}
use Rattle.core_lanes.specs.Lanes.{core_in, with_seat}
use Rattle.core_lanes.proofs.Guides.{fitting_more}
use Rattle.core_lanes.proofs.Lists.{seats_within, seats_more}
use Rattle.core_lanes.proofs.benching.part_all.Goals as goal

pub keep-requires : goal.keep-requires
keep-requires c =
    let at = c.loop-lane in
    let x : Lane = c.in-Some.lane in
    let rest : List Lane = into_iter_items c.next.new.self in
    let steps : into_iter_items at.lane-iterator ≡ x ∷ rest = c.in-Some.ensures.steps.0 in
    let whole : at.yielded ++ x ∷ rest ≡ c.args.lanes.items = ap (λ (l : List Lane). at.yielded ++ l) (sym steps) ∙ (at.invariant.all ∙ c.into_iter-lane-iterator.ensures.into_iter_gives.0) in
    omega (arith, ap (λ (l : List Lane). length l) whole, length-append at.yielded (x ∷ rest), ap (λ (ss : List CoreSeat). length ss) at.invariant.seats, seats_within at.yielded, at.invariant.seats_space, c.requires.seats.1)

pub loop-lane-preserved : goal.loop-lane-preserved
loop-lane-preserved c =
    let at = c.loop-lane in
    let x : Lane = c.in-Some.lane in
    let rest : List Lane = into_iter_items c.next.new.self in
    let steps : into_iter_items at.lane-iterator ≡ x ∷ rest = c.in-Some.ensures.steps.0 in
    let given : at.yielded ++ x ∷ rest ≡ _ = ap (λ (l : List Lane). at.yielded ++ l) (sym steps) ∙ at.invariant.all in
    let was = at.invariant.left in
    let gone = c.in-Some.ensures.steps.1 in
    record {
      all = append_assoc at.yielded (x ∷ []) rest ∙ given;
      left = let short = ap (λ (l : List Lane). length l) steps in omega arith;
      cores = c.push_reserved.ensures.items ∙ ap (λ (k : CoreState). at.cores.items ++ k ∷ []) c.into_parts-core.ensures.core ∙ (ap (λ (cs : List CoreState). cs ++ x.core ∷ []) at.invariant.cores ∙ sym (map-append core_in at.yielded (x ∷ [])));
      seats = c.keep.ensures.items ∙ (ap (λ (ss : List CoreSeat). ss ++ with_seat x.seat []) at.invariant.seats ∙ sym (seats_more at.yielded x));
      fit = subst (λ (flags : List AwakeState). AreFitting (map core_in (at.yielded ++ x ∷ [])) flags) (sym c.push_reserved-in-loop-lane.ensures.items)
          (subst (λ (cs : List CoreState). AreFitting cs (at.awake.items ++ c.into_parts-core.result.1 ∷ [])) (ap (λ (k : CoreState). map core_in at.yielded ++ k ∷ []) c.into_parts-core.ensures.core ∙ sym (map-append core_in at.yielded (x ∷ [])))
          (fitting_more (map core_in at.yielded) at.awake.items c.into_parts-core.result.0 c.into_parts-core.result.1 at.invariant.fit c.into_parts-core.ensures.fits));
      awake_count = let one = ap (λ (flags : List AwakeState). length flags) c.push_reserved-in-loop-lane.ensures.items in
          omega (arith, one, length-append at.awake.items (c.into_parts-core.result.1 ∷ []), length-append at.yielded (x ∷ []), at.invariant.awake_count);
      awake_space = c.push_reserved-in-loop-lane.ensures.capacity ∙ at.invariant.awake_space;
      cores_space = c.push_reserved.ensures.capacity ∙ at.invariant.cores_space;
      seats_space = c.keep.ensures.capacity ∙ at.invariant.seats_space;
    }
