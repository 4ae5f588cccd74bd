use Rattle.std.proofs.Common.{◌≡◌, ◌<◌, length, sym, ◌∙◌, ap, subst, arith, Some}
use Rattle.bus_semantics.specs.Common.{slice_get-get_or, get_or_from_slice_get, slice_get_within, plan_of}
use Rattle.bus_semantics.proofs.Passing.{row_shared}
use Rattle.core_lanes.specs.Lanes.{HasGone}
use Rattle.core_lanes.proofs.Passing.{bodies_shared}
use Rattle.core_lanes.proofs.lanes.go_all.Goals as goal

pub start_each-requires-sync-F : goal.start_each-requires-sync-F
start_each-requires-sync-F g c κs lives = record {
  shared = λ x b o κ. (
    (
      ((λ q. tt), row_shared.shared x.0.now x.0.ref_ptr.0 x.0.ref_ptr.1 κs.1.1.1.1.1.1.0),
      (
        ((λ q. tt), bodies_shared.shared x.1.now x.1.ref_ptr.0 x.1.ref_ptr.1 κs.1.1.1.1.1.1.1.0),
        (
          ((λ q. tt), c.is_shared.ensures.shared x.2.now x.2.ref_ptr.0 x.2.ref_ptr.1 κs.1.1.1.1.1.1.1.1.0),
          (
            ((λ q. tt), c.is_shared-2.ensures.shared x.3.now x.3.ref_ptr.0 x.3.ref_ptr.1 κs.1.1.1.1.1.1.1.1.1.0),
            (((λ q. tt), c.type_bounds.sync-G.shared x.4.now x.4.ref_ptr.0 x.4.ref_ptr.1 κs.1.1.1.1.1.1.1.1.1.1.0), tt),
          ),
        ),
      ),
    ),
    λ q. tt,
  );
}

pub start_each-requires-clause-accepts : goal.start_each-requires-clause-accepts
start_each-requires-clause-accepts g c = λ κs lives i p less is.
    let few = c.requires.few.1 in
    (c.requires.plan, (c.requires.limit, (c.requires.bodies, (omega (arith, less, few), (c.requires.seated i p.now (slice_get-get_or c.args.lanes.now i p.now less ∙ ap (λ x. Some x) (sym is)), record { shared = c.type_bounds.sync-G.shared })))))

pub returns : goal.returns
returns g c = record {
  count = omega arith;
  each = λ i l k found is.
      let less : i < length c.args.lanes.now = slice_get_within c.args.lanes.now i l found in
      let at = (c.start_each.ensures i l less).1 in
      let old : at.argument.now ≡ l = at.argument_is ∙ get_or_from_slice_get c.args.lanes.now i l l found in
      let at_k = (c.start_each.ensures i k less).1 in
      let one = subst (λ x. HasGone (plan_of c.args.p.now) c.args.t.now c.args.round.now i x at.after_call.now) old at.call in
      subst (λ x. HasGone (plan_of c.args.p.now) c.args.t.now c.args.round.now i l x) (at.left ∙ get_or_from_slice_get c.start_each.new.s i k l is) one;
}
