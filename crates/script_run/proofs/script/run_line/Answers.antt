use Rattle.std.proofs.Common.{[], ◌∷◌, subst}
use Rattle.bus_semantics.specs.declared.script.Line.TheVariants as line
use Rattle.bus_semantics.specs.Common.{plan_of, IsSound}
use Rattle.script_run.proofs.Sessions as by
use Rattle.script_run.proofs.script.run_line.Goals as goal

pub returns-clause-finished : goal.returns-clause-finished
returns-clause-finished g c =
    let told = g.K.Sink.told in
    by.ends c.args.w c.put_run.result (line.Run ∷ []) c.args.n.now c.put_run.new.n (told c.args.out.now) (told c.put_run.new.out) c.put_run.ensures.carries c.no_history_stalls.ensures.quiet
    (subst (λ (q : _). IsSound (plan_of q) c.args.n.now.mapping) c.plan-plan.ensures.plan c.plan-plan.ensures.sound)

pub returns-clause-cut : goal.returns-clause-cut
returns-clause-cut g c =
    let told = g.K.Sink.told in
    by.is_cut c.args.w c.put_run.result (line.Run ∷ []) c.args.n.now c.put_run.new.n (told c.args.out.now) (told c.put_run.new.out) c.put_run.ensures.carries
