use Rattle.std.proofs.Common.{◌≡◌, ◌<◌, ◌∙◌, ◌+◌, [], length, arith, ap, sym, Some}
use Rattle.bus_semantics.specs.Common.{slice_get-get_or, plan_of}
use Rattle.port_objects.specs.Opening.{opening_of_bundle}
use Rattle.port_objects.proofs.Opened.{none_first, bundle_more, row_all}
use Rattle.port_objects.proofs.making.push_bundles.Goals as goal

pub loop-bundle-init : goal.loop-bundle-init
loop-bundle-init c = record {
  long = c.in_ok-waiting.ensures.long;
  left = λ bundle from. c.in_ok-waiting.ensures.waiting bundle;
  first = none_first (plan_of c.args.p.now) c.args.objects.now.items c.requires.none;
}

pub loop-bundle-preserved : goal.loop-bundle-preserved
loop-bundle-preserved c =
    let p = plan_of c.args.p.now in
    let bundle = c.loop-bundle.bundle in
    record {
      long = c.take_list-events.ensures.long ∙ c.loop-bundle.invariant.long;
      left = λ other next. c.take_list-events.ensures.others other (omega (arith, next)) ∙ c.loop-bundle.invariant.left other (omega (arith, next));
      first = bundle_more p bundle (bundle + 1) c.loop-bundle.objects.items c.push.new.self.items c.in_ok-make_bundle.field-0 (omega arith) c.loop-bundle.invariant.first c.in_ok-make_bundle.ensures.kept c.in_ok-make_bundle.ensures.planned
          c.in_ok-make_bundle.ensures.standing c.in_ok-push.ensures.items;
    }

pub returns : goal.returns
returns c =
    let all : c.loop-bundle.bundle ≡ length c.args.p.now.bundles = omega (arith, c.loop-bundle-test.false, c.loop-bundle.auto.bundle-end, c.len-bundle-end.ensures) in
    row_all (plan_of c.args.p.now) [] (opening_of_bundle (plan_of c.args.p.now)) c.loop-bundle.bundle (length c.args.p.now.bundles) c.loop-bundle.objects.items all c.loop-bundle.invariant.first

pub make_bundle-requires-clause-listed : goal.make_bundle-requires-clause-listed
make_bundle-requires-clause-listed c =
    let b = c.loop-bundle.bundle in
    let below : b < length c.in_ok-listed.listed.items = omega (arith, c.in_ok-listed.ensures.long, c.loop-bundle-test.true, c.loop-bundle.auto.bundle-end, c.len-bundle-end.ensures) in
    c.in_ok-listed.ensures.listed b c.index.result.now (slice_get-get_or c.in_ok-listed.listed.items b _ below ∙ ap (λ is. Some is) (sym c.index.ensures))
