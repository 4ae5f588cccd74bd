use Rattle.std.proofs.Common.{◌≡◌, ◌-◌, [], ◌∷◌, ◌++◌, suc, replicate, subst, ◌∙◌, arith}
use Rattle.std.proofs.lemmas.List.{replicate-append-replicate}
use Rattle.rte_text.specs.declared.sink.Put.TheVariants as putting
use Rattle.bus_semantics.specs.Common.{a_call, to_tick}
use Rattle.core_runtime.specs.Common.{tick_of_env}
use Rattle.script_run.specs.declared.script.ScriptRun.TheVariants.{Finished, Failed}
use Rattle.script_run.specs.Standing.{Carries, outside}
use Rattle.script_run.proofs.Sessions as by
use Rattle.script_run.proofs.script.put_ticks.Goals as goal

pub returns-in-Failed-clause-carries : goal.returns-in-Failed-clause-carries
returns-in-Failed-clause-carries g c =
    let tick = a_call to_tick in
    let i = c.loop-i.i in
    let left = replicate (c.args.count - suc i) tick in
    let told = g.K.Sink.told in
    let carries = by.call_carries c.args.w c.loop-i.n c.put_tick.new.n tick_of_env to_tick putting.Failed (told c.loop-i.out) (told c.put_tick.new.out) c.in-Failed.ensures.calls in
    subst (λ os. Carries c.args.w Failed os outside outside c.args.n.now c.put_tick.new.n (told c.args.out.now) (told c.put_tick.new.out)) (by.all_of tick i c.args.count c.loop-i-test.true)
    (by.carries_then c.args.w Failed (replicate i tick) (tick ∷ [] ++ left) outside outside outside c.args.n.now c.loop-i.n c.put_tick.new.n
    (told c.args.out.now) (told c.loop-i.out) (told c.put_tick.new.out) c.loop-i.invariant.carries
    (by.cut_before c.args.w Failed (tick ∷ []) left outside outside outside c.loop-i.n c.put_tick.new.n (told c.loop-i.out) (told c.put_tick.new.out) (λ e. cc) carries))

pub loop-i-preserved : goal.loop-i-preserved
loop-i-preserved g c =
    let tick = a_call to_tick in
    let i = c.loop-i.i in
    let told = g.K.Sink.told in
    let so_far = c.loop-i.invariant in
    let done = c.in-Done.ensures in
    let carries = by.call_carries c.args.w c.loop-i.n c.put_tick.new.n tick_of_env to_tick putting.Done (told c.loop-i.out) (told c.put_tick.new.out) done.calls in
    record {
      plan = done.plan ∙ so_far.plan;
      mapping = done.mapping ∙ so_far.mapping;
      carries = subst (λ os. Carries c.args.w Finished os outside outside c.args.n.now c.put_tick.new.n (told c.args.out.now) (told c.put_tick.new.out)) (replicate-append-replicate i 1 tick)
          (by.carries_then c.args.w Finished (replicate i tick) (tick ∷ []) outside outside outside c.args.n.now c.loop-i.n c.put_tick.new.n
          (told c.args.out.now) (told c.loop-i.out) (told c.put_tick.new.out) so_far.carries carries);
      faults = done.faults ∙ so_far.faults;
    }

pub returns-clause-carries : goal.returns-clause-carries
returns-clause-carries g c =
    let told = g.K.Sink.told in
    let all : c.loop-i.i ≡ c.args.count = omega (arith, c.loop-i-test.false, c.loop-i.auto.i-end) in
    subst (λ k. Carries c.args.w Finished (replicate k (a_call to_tick)) outside outside c.args.n.now c.loop-i.n (told c.args.out.now) (told c.loop-i.out)) all c.loop-i.invariant.carries
