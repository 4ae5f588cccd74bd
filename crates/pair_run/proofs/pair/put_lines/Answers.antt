use Rattle.std.proofs.Common.{[], suc, take, refl, sym, ◌∙◌, subst}
use Rattle.bus_laws.specs.Common.{BusPlan, Line}
use Rattle.bus_semantics.specs.Plan.{plan_of}
use Rattle.signal_link.specs.Unframing.{Kept}
use Rattle.pair_run.specs.Common.{Finished, Follows, Makes, IsPairLine, CarryBoth}
use Rattle.pair_run.proofs.Carrying.{none_done}
use Rattle.pair_run.proofs.Faults.{link_then, sink_then}
use Rattle.pair_run.proofs.Lines.{all_done, lines_may, one_cut, one_more}
use Rattle.pair_run.proofs.Stood.{stand_on}
use Rattle.pair_run.proofs.pair.put_lines.Goals as goal

pub loop-script_line-init : goal.loop-script_line-init
loop-script_line-init g c = record {
  plan_one = refl;
  plan_two = refl;
  empty = c.requires.way;
  kept = refl;
  never = refl;
  carries = none_done (Follows c.args.unframer.now.links []) c.args.one.now c.args.two.now (g.K.Sink.told c.args.out.now) refl;
  sink = refl;
  link = refl;
}

pub put_line-requires-clause-stand : goal.put_line-requires-clause-stand
put_line-requires-clause-stand g c κs within =
    let told = g.K.Sink.told in
    stand_on (Follows c.args.unframer.now.links (take c.loop-script_line.script_line-index c.args.script_lines.now)) c.args.one.now c.loop-script_line.one c.args.two.now c.loop-script_line.two
    (told c.args.out.now) (told c.loop-script_line.out) c.requires.stand c.loop-script_line.invariant.carries

pub put_line-requires-clause-script : goal.put_line-requires-clause-script
put_line-requires-clause-script g c κs within =
    let l = c.script_line-item.result in
    let here = subst (λ (k : Line). IsPairLine (plan_of c.args.one.now.plan) c.args.unframer.now.links k) (sym c.script_line-item.is)
    (c.requires.script c.loop-script_line.script_line-index l c.loop-script_line-test.true) in
    subst (λ (u : Kept). IsPairLine (plan_of c.loop-script_line.one.plan) u.links l) (sym c.loop-script_line.invariant.kept)
    (subst (λ (p : BusPlan). IsPairLine (plan_of p) c.args.unframer.now.links l) (sym c.loop-script_line.invariant.plan_one) here)

pub returns-in_default : goal.returns-in_default
returns-in_default g c =
    let told = g.K.Sink.told in
    let faults = g.K.Sink.faults in
    let i = c.loop-script_line.script_line-index in
    let ls = c.args.script_lines.now in
    let l = c.script_line-item.result in
    let links = c.args.unframer.now.links in
    let so_far = c.loop-script_line.invariant in
    let did = subst (λ (u : Kept). CarryBoth (Makes u.links l) c.put_line.result c.loop-script_line.one c.put_line.new.one c.loop-script_line.two c.put_line.new.two (told c.loop-script_line.out) (told c.put_line.new.out))
    so_far.kept c.put_line.ensures.carries in
    record {
      sound_link = λ never. c.put_line.ensures.sound_link (so_far.never ∙ never);
      carries = one_cut (Makes links) ls i l c.loop-script_line-test.true c.script_line-item.is c.args.one.now c.loop-script_line.one c.put_line.new.one c.args.two.now c.loop-script_line.two c.put_line.new.two
          (told c.args.out.now) (told c.loop-script_line.out) (told c.put_line.new.out) so_far.carries
          c.put_line.result c.in_default.not-Finished (lines_may (plan_of c.args.one.now.plan) links ls (suc i) c.requires.script) did;
      sink = sink_then c.put_line.result (faults c.args.out.now) (faults c.loop-script_line.out) (faults c.put_line.new.out) so_far.sink c.put_line.ensures.sink;
      link = link_then c.put_line.result (g.L.Link.faults c.args.way.now) (g.L.Link.faults c.loop-script_line.way) (g.L.Link.faults c.put_line.new.way) so_far.link c.put_line.ensures.link;
    }

pub loop-script_line-preserved : goal.loop-script_line-preserved
loop-script_line-preserved g c =
    let told = g.K.Sink.told in
    let i = c.loop-script_line.script_line-index in
    let ls = c.args.script_lines.now in
    let l = c.script_line-item.result in
    let links = c.args.unframer.now.links in
    let so_far = c.loop-script_line.invariant in
    let done = c.in-Finished.ensures in
    let did = subst (λ (u : Kept). CarryBoth (Makes u.links l) Finished c.loop-script_line.one c.put_line.new.one c.loop-script_line.two c.put_line.new.two (told c.loop-script_line.out) (told c.put_line.new.out))
    so_far.kept done.carries in
    record {
      plan_one = done.plan_one ∙ so_far.plan_one;
      plan_two = done.plan_two ∙ so_far.plan_two;
      empty = done.after.0;
      kept = done.after.1 ∙ so_far.kept;
      never = done.never_fails ∙ so_far.never;
      carries = one_more (Makes links) ls i l c.loop-script_line-test.true c.script_line-item.is c.args.one.now c.loop-script_line.one c.put_line.new.one c.args.two.now c.loop-script_line.two c.put_line.new.two
          (told c.args.out.now) (told c.loop-script_line.out) (told c.put_line.new.out) so_far.carries did;
      sink = done.sink ∙ so_far.sink;
      link = done.link ∙ so_far.link;
    }

pub returns-clause-carries : goal.returns-clause-carries
returns-clause-carries g c =
    let told = g.K.Sink.told in
    all_done (Makes c.args.unframer.now.links) c.args.script_lines.now c.loop-script_line.script_line-index c.args.one.now c.loop-script_line.one c.args.two.now c.loop-script_line.two
    (told c.args.out.now) (told c.loop-script_line.out) c.loop-script_line-test.false c.loop-script_line.invariant.carries
