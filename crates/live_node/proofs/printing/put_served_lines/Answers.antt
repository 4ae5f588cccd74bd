use Rattle.std.proofs.Common.{◌≡◌, ◌∙◌, refl, subst, take, true}
use Rattle.bus_semantics.specs.Common.{list_all, and_from, plan_of}
use Rattle.std.proofs.lemmas.List.Folds.{list_all_more}
use Rattle.bus_semantics.specs.declared.entries.Stamped.{Stamped}
use Rattle.script_run.specs.Sizes.{is_sized_stamped}
use Rattle.live_node.proofs.Texts.{cut_line, more_lines, order_next}
use Rattle.live_node.proofs.printing.put_served_lines.Goals as goal

pub returns-in-Failed-clause-told : goal.returns-in-Failed-clause-told
returns-in-Failed-clause-told g c =
    let told = g.K.Sink.told in
    cut_line (plan_of c.args.p.now) c.args.order.now c.loop-stamped.left.now c.args.entries.now c.loop-stamped.stamped-index c.stamped-item.result c.loop-stamped-test.true c.stamped-item.is c.loop-stamped.invariant.left
    (told c.args.out.now) (told c.loop-stamped.out) (told c.put_served_line.new.out) c.loop-stamped.invariant.told c.in-Failed.ensures.told

pub loop-stamped-preserved : goal.loop-stamped-preserved
loop-stamped-preserved g c =
    let told = g.K.Sink.told in
    let es = c.args.entries.now in
    let i = c.loop-stamped.stamped-index in
    let e = c.stamped-item.result in
    let left = c.loop-stamped.left.now in
    record {
      told = more_lines (plan_of c.args.p.now) c.args.order.now left es i e c.loop-stamped-test.true c.stamped-item.is c.loop-stamped.invariant.left
          (told c.args.out.now) (told c.loop-stamped.out) (told c.put_served_line.new.out) c.loop-stamped.invariant.told c.in-Done.ensures.told;
      left = c.order_behind-left.ensures ∙ order_next c.args.order.now left es i e c.loop-stamped-test.true c.stamped-item.is c.loop-stamped.invariant.left;
      faults = c.in-Done.ensures.faults ∙ c.loop-stamped.invariant.faults;
      sized = list_all_more is_sized_stamped es i e c.loop-stamped-test.true
          ∙ and_from (list_all is_sized_stamped (take i es)) _ c.loop-stamped.invariant.sized (subst (λ (y : Stamped). is_sized_stamped y ≡ true) c.stamped-item.is (c.in-Done.ensures.sized refl));
    }
