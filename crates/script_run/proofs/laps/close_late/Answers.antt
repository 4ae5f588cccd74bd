use Rattle.std.proofs.Common.{◌≤◌, ◌++◌, subst, arith}
use Rattle.rte_text.specs.Sinks.{ToldAfter}
use Rattle.script_run.specs.Standing.{inside}
use Rattle.script_run.proofs.Sessions as by
use Rattle.script_run.proofs.laps.close_late.Goals as goal

pub returns-then-made-lt-MOST_MADE-clause-carries : goal.returns-then-made-lt-MOST_MADE-clause-carries
returns-then-made-lt-MOST_MADE-clause-carries g c = λ n. by.none_done c.args.w (inside c.args.made) n (g.K.Sink.told c.args.out.now)

pub returns-clause-carries : goal.returns-clause-carries
returns-clause-carries g c = λ n.
    let told = g.K.Sink.told in
    let many : 100000 ≤ c.args.made = omega arith in
    rw c.came_of.ensures
    (by.unsettled_carries c.args.w n c.put_behind.result (told c.args.out.now) (told c.put_behind.new.out) c.args.made many
    (subst (λ t. ToldAfter c.put_behind.result (told c.args.out.now) (told c.put_behind.new.out) (c.args.w.prefix.now ++ t)) c.unsettled_line.ensures c.put_behind.ensures.told))
