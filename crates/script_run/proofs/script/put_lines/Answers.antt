use Rattle.std.proofs.Common.{List, ◌++◌, suc, take, drop, subst, ◌∙◌}
use Rattle.bus_semantics.specs.Common.{take_all, orders_of_line, orders_of_script}
use Rattle.bus_semantics.specs.declared.script.Line.{Line}
use Rattle.script_run.specs.declared.script.ScriptRun.TheVariants.{Finished, Failed, Memory}
use Rattle.script_run.specs.Standing.{Carries, outside}
use Rattle.script_run.proofs.Sessions as by
use Rattle.script_run.proofs.script.put_lines.Goals as goal

pub returns-in-Failed-clause-carries : goal.returns-in-Failed-clause-carries
returns-in-Failed-clause-carries g c =
    let ls = c.args.script_lines.now in
    let i = c.loop-script_line.script_line-index in
    let l = c.script_line-item.result in
    let left = orders_of_script (drop (suc i) ls) in
    let told = g.K.Sink.told in
    subst (λ os. Carries c.args.w Failed os outside outside c.args.n.now c.put_line.new.n (told c.args.out.now) (told c.put_line.new.out)) (by.orders-whole ls i l c.loop-script_line-test.true c.script_line-item.is)
    (by.carries_then c.args.w Failed (orders_of_script (take i ls)) (orders_of_line l ++ left) outside outside outside c.args.n.now c.loop-script_line.n c.put_line.new.n
    (told c.args.out.now) (told c.loop-script_line.out) (told c.put_line.new.out) c.loop-script_line.invariant.carries
    (by.cut_before c.args.w Failed (orders_of_line l) left outside outside outside c.loop-script_line.n c.put_line.new.n (told c.loop-script_line.out) (told c.put_line.new.out) (λ e. cc) c.in-Failed.ensures.carries))

pub returns-in-Memory-clause-carries : goal.returns-in-Memory-clause-carries
returns-in-Memory-clause-carries g c =
    let ls = c.args.script_lines.now in
    let i = c.loop-script_line.script_line-index in
    let l = c.script_line-item.result in
    let left = orders_of_script (drop (suc i) ls) in
    let told = g.K.Sink.told in
    subst (λ os. Carries c.args.w Memory os outside outside c.args.n.now c.put_line.new.n (told c.args.out.now) (told c.put_line.new.out)) (by.orders-whole ls i l c.loop-script_line-test.true c.script_line-item.is)
    (by.carries_then c.args.w Memory (orders_of_script (take i ls)) (orders_of_line l ++ left) outside outside outside c.args.n.now c.loop-script_line.n c.put_line.new.n
    (told c.args.out.now) (told c.loop-script_line.out) (told c.put_line.new.out) c.loop-script_line.invariant.carries
    (by.cut_before c.args.w Memory (orders_of_line l) left outside outside outside c.loop-script_line.n c.put_line.new.n (told c.loop-script_line.out) (told c.put_line.new.out) (λ e. cc) c.in-Memory.ensures.carries))

pub loop-script_line-preserved : goal.loop-script_line-preserved
loop-script_line-preserved g c =
    let ls = c.args.script_lines.now in
    let i = c.loop-script_line.script_line-index in
    let l = c.script_line-item.result in
    let told = g.K.Sink.told in
    let so_far = c.loop-script_line.invariant in
    let done = c.in-Finished.ensures in
    record {
      plan = done.plan ∙ so_far.plan;
      mapping = done.mapping ∙ so_far.mapping;
      carries = subst (λ os. Carries c.args.w Finished os outside outside c.args.n.now c.put_line.new.n (told c.args.out.now) (told c.put_line.new.out)) (by.orders-next ls i l c.loop-script_line-test.true c.script_line-item.is)
          (by.carries_then c.args.w Finished (orders_of_script (take i ls)) (orders_of_line l) outside outside outside c.args.n.now c.loop-script_line.n c.put_line.new.n
          (told c.args.out.now) (told c.loop-script_line.out) (told c.put_line.new.out) so_far.carries done.carries);
      faults = done.faults ∙ so_far.faults;
    }

pub returns-clause-carries : goal.returns-clause-carries
returns-clause-carries g c =
    let told = g.K.Sink.told in
    subst (λ (ls : List Line). Carries c.args.w Finished (orders_of_script ls) outside outside c.args.n.now c.loop-script_line.n (told c.args.out.now) (told c.loop-script_line.out))
    (take_all c.loop-script_line.script_line-index c.args.script_lines.now c.loop-script_line-test.false) c.loop-script_line.invariant.carries
