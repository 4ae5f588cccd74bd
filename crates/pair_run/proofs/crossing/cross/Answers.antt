use Rattle.std.proofs.Common.{◌≡◌, ◌<◌, ◌≤◌, [], length, suc, take, refl, sym, ap, ◌∙◌, arith}
use Rattle.bus_semantics.specs.Common.{slice_get, get_or_from_slice_get, plan_of}
use Rattle.bus_laws.proofs.Thinning.{there_is}
use Rattle.signal_link.specs.Unframing.{Kept}
use Rattle.pair_run.specs.Common.{Crosses, Drains, links_of}
use Rattle.pair_run.proofs.Carrying.{none_done}
use Rattle.pair_run.proofs.Faults.{after_then, link_then, sink_then}
use Rattle.pair_run.proofs.Lines.{all_done, links_may, one_cut, one_more}
use Rattle.pair_run.proofs.Stood.{few_between, stand_on}
use Rattle.pair_run.proofs.crossing.cross.Goals as goal

pub loop-number-init : goal.loop-number-init
loop-number-init g c = record {
  plan_one = refl;
  plan_two = refl;
  empty = c.requires.way;
  kept = refl;
  never = refl;
  carries = none_done (Crosses []) c.args.one.now c.args.two.now (g.K.Sink.told c.args.out.now) refl;
  sink = refl;
  link = refl;
}

pub overflow_cast-number : goal.overflow_cast-number
overflow_cast-number g c =
    let few = few_between c.args.one.now c.args.two.now c.requires.stand in
    let same : length c.args.unframer.now.links ≡ length (links_of (plan_of c.args.one.now.plan) (plan_of c.args.two.now.plan)) = ap (λ (u : Kept). length u.links) c.requires.unframer in
    let many : length c.links-count.result.now ≡ length c.args.unframer.now.links = ap length c.links-count.ensures in
    omega (arith, few, same, many, c.loop-number-test.true)

pub drain-requires-clause-stand : goal.drain-requires-clause-stand
drain-requires-clause-stand g c =
    let told = g.K.Sink.told in
    stand_on (Crosses (take c.loop-number.number c.args.unframer.now.links)) c.args.one.now c.loop-number.one c.args.two.now c.loop-number.two
    (told c.args.out.now) (told c.loop-number.out) c.requires.stand c.loop-number.invariant.carries

pub returns-in_default : goal.returns-in_default
returns-in_default g c =
    let told = g.K.Sink.told in
    let faults = g.K.Sink.faults in
    let ls = c.args.unframer.now.links in
    let i = c.loop-number.number in
    let so_far = c.loop-number.invariant in
    let many : length c.links-count.result.now ≡ length ls = ap length c.links-count.ensures in
    let within : i < length ls = omega (arith, many, c.loop-number-test.true) in
    let item = there_is ls i within in
    let there = ap (λ (u : Kept). slice_get u.links i) so_far.kept ∙ item.1 in
    record {
      plan_one = c.drain.ensures.plan_one ∙ so_far.plan_one;
      plan_two = c.drain.ensures.plan_two ∙ so_far.plan_two;
      after = after_then c.drain.result (g.L.Link.way c.drain.new.way) c.args.unframer.now c.loop-number.unframer c.drain.new.unframer so_far.kept c.drain.ensures.after;
      sound_link = λ never. c.drain.ensures.sound_link (so_far.never ∙ never);
      never_fails = c.drain.ensures.never_fails ∙ so_far.never;
      carries = one_cut Drains ls i item.0 within (sym (get_or_from_slice_get ls i item.0 item.0 item.1)) c.args.one.now c.loop-number.one c.drain.new.one c.args.two.now c.loop-number.two c.drain.new.two
          (told c.args.out.now) (told c.loop-number.out) (told c.drain.new.out) so_far.carries
          c.drain.result c.in_default.not-Finished (links_may ls (suc i)) (c.drain.ensures.carries item.0 there);
      sink = sink_then c.drain.result (faults c.args.out.now) (faults c.loop-number.out) (faults c.drain.new.out) so_far.sink c.drain.ensures.sink;
      link = link_then c.drain.result (g.L.Link.faults c.args.way.now) (g.L.Link.faults c.loop-number.way) (g.L.Link.faults c.drain.new.way) so_far.link c.drain.ensures.link;
    }

pub loop-number-preserved : goal.loop-number-preserved
loop-number-preserved g c =
    let told = g.K.Sink.told in
    let ls = c.args.unframer.now.links in
    let i = c.loop-number.number in
    let so_far = c.loop-number.invariant in
    let done = c.in-Finished.ensures in
    let many : length c.links-count.result.now ≡ length ls = ap length c.links-count.ensures in
    let within : i < length ls = omega (arith, many, c.loop-number-test.true) in
    let item = there_is ls i within in
    let there = ap (λ (u : Kept). slice_get u.links i) so_far.kept ∙ item.1 in
    record {
      plan_one = done.plan_one ∙ so_far.plan_one;
      plan_two = done.plan_two ∙ so_far.plan_two;
      empty = done.after.0;
      kept = done.after.1 ∙ so_far.kept;
      never = done.never_fails ∙ so_far.never;
      carries = one_more Drains ls i item.0 within (sym (get_or_from_slice_get ls i item.0 item.0 item.1)) c.args.one.now c.loop-number.one c.drain.new.one c.args.two.now c.loop-number.two c.drain.new.two
          (told c.args.out.now) (told c.loop-number.out) (told c.drain.new.out) so_far.carries (done.carries item.0 there);
      sink = done.sink ∙ so_far.sink;
      link = done.link ∙ so_far.link;
    }

pub returns-clause-carries : goal.returns-clause-carries
returns-clause-carries g c =
    let told = g.K.Sink.told in
    let many : length c.links-count.result.now ≡ length c.args.unframer.now.links = ap length c.links-count.ensures in
    let past : length c.args.unframer.now.links ≤ c.loop-number.number = omega (arith, many, c.loop-number-test.false) in
    all_done Drains c.args.unframer.now.links c.loop-number.number c.args.one.now c.loop-number.one c.args.two.now c.loop-number.two
    (told c.args.out.now) (told c.loop-number.out) past c.loop-number.invariant.carries
