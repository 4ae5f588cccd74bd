use denote.Exit.{no}
use denote.Param.Send.{param_send, arg_send}
use Rattle.std.proofs.Common.{◌≡◌, ◌<◌, length, sym, ◌∙◌, ap, subst, arith, Some}
use Rattle.bus_semantics.specs.Common.{slice_get-get_or, get_or_from_slice_get, slice_get_within, plan_of}
use Rattle.bus_semantics.proofs.Passing.{row_shared}
use Rattle.core_lanes.proofs.Passing.{bodies_shared}
use Rattle.live_lanes.specs.Workers.{HasWorked}
use Rattle.live_lanes.proofs.workers.work_all.Goals as goal

pub for_each_mut-requires-sync-F : goal.for_each_mut-requires-sync-F
for_each_mut-requires-sync-F g c κs lives = record {
  shared = λ x b o κ. (
    (
      ((λ q. tt), row_shared.shared x.0.now x.0.ref_ptr.0 x.0.ref_ptr.1 κs.1.1.1.1.1.1.0),
      (
        ((λ q. tt), bodies_shared.shared x.1.now x.1.ref_ptr.0 x.1.ref_ptr.1 κs.1.1.1.1.1.1.1.0),
        (
          ((λ q. tt), c.is_shared.ensures.shared x.2.now x.2.ref_ptr.0 x.2.ref_ptr.1 κs.1.1.1.1.1.1.1.1.0),
          (
            ((λ q. tt), c.is_shared-2.ensures.shared x.3.now x.3.ref_ptr.0 x.3.ref_ptr.1 κs.1.1.1.1.1.1.1.1.1.0),
            (
              ((λ q. tt), c.is_shared-3.ensures.shared x.4.now x.4.ref_ptr.0 x.4.ref_ptr.1 κs.1.1.1.1.1.1.1.1.1.1.0),
              (
                ((λ q. tt), c.is_shared-4.ensures.shared x.5.now x.5.ref_ptr.0 x.5.ref_ptr.1 κs.1.1.1.1.1.1.1.1.1.1.1.0),
                (
                  ((λ q. tt), c.type_bounds.sync-G.shared x.6.now x.6.ref_ptr.0 x.6.ref_ptr.1 κs.1.1.1.1.1.1.1.1.1.1.1.1.0),
                  (
                    ((λ q. tt), c.is_shared-5.ensures.shared x.7.now x.7.ref_ptr.0 x.7.ref_ptr.1 κs.1.1.1.1.1.1.1.1.1.1.1.1.1.0),
                    (
                      ((λ q. tt), c.type_bounds.sync-R.shared x.8.now x.8.ref_ptr.0 x.8.ref_ptr.1 κs.1.1.1.1.1.1.1.1.1.1.1.1.1.1.0),
                      tt,
                    ),
                  ),
                ),
              ),
            ),
          ),
        ),
      ),
    ),
    λ q. tt,
  );
}

pub for_each_mut-requires-clause-accepts : goal.for_each_mut-requires-clause-accepts
for_each_mut-requires-clause-accepts g c = λ κs lives i p less is.
    let few = c.requires.few.1 in (
      c.requires.ground,
      (
        omega (arith, less, few),
        (
          c.requires.ready i p.now (slice_get-get_or c.args.workers.now i p.now less ∙ ap (λ x. Some x) (sym is)),
          (
            param_send 0 _ (arg_send _ no _ c.type_bounds.send-F),
            record { shared = c.type_bounds.sync-F.shared },
            record { shared = c.type_bounds.sync-R.shared },
            record { shared = c.type_bounds.sync-G.shared },
          ),
        ),
      ),
    )

pub returns : goal.returns
returns g c = record {
  count = omega arith;
  each = λ i w v found is.
      let less : i < length c.args.workers.now = slice_get_within c.args.workers.now i w found in
      let at = (c.for_each_mut.ensures i w less).1 in
      let old : at.argument.now ≡ w = at.argument_is ∙ get_or_from_slice_get c.args.workers.now i w w found in
      let at_v = (c.for_each_mut.ensures i v less).1 in
      let one = subst (λ x. HasWorked (plan_of c.args.ground.now.plan.now) c.args.ground.now.bodies.now c.args.ground.now.feeds.now c.args.ground.now.round.now i x at.after_call.now) old at.call in
      subst (λ x. HasWorked (plan_of c.args.ground.now.plan.now) c.args.ground.now.bodies.now c.args.ground.now.feeds.now c.args.ground.now.round.now i w x) (at.left ∙ get_or_from_slice_get c.for_each_mut.new.s i v w is) one;
}
