use Rattle.std.proofs.Common.{◌++◌, refl, subst}
use Rattle.rte_text.specs.Sinks.{ToldAfter}
use Rattle.bus_semantics.specs.Common.{plan_of, to_tick}
use Rattle.core_runtime.specs.Common.{tick_of_env}
use Rattle.script_run.proofs.Sessions as by
use Rattle.script_run.proofs.script.put_tick.Goals as goal

pub returns-clause-calls : goal.returns-clause-calls
returns-clause-calls g c =
    let told = g.K.Sink.told in
    let made = c.tick.ensures in
    let p = plan_of c.tick.new.self.plan in
    by.call_made c.args.w c.args.n.now c.tick.new.self tick_of_env to_tick c.put_behind.result (told c.args.out.now) (told c.put_behind.new.out) p
    refl refl made.plan made.mapping made.lawful refl refl
    (subst (λ t. ToldAfter c.put_behind.result (told c.args.out.now) (told c.put_behind.new.out) (c.args.w.prefix.now ++ t)) (c.tick_line.ensures c.args.w.version p) c.put_behind.ensures.told)
