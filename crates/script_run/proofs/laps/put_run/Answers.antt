use Rattle.std.proofs.Common.{[], ◌∷◌, ◌++◌, refl, subst, ◌∙◌, arith}
use Rattle.rte_text.specs.declared.sink.Put.TheVariants.{Done, Failed}
use Rattle.rte_text.specs.Sinks.{ToldAfter}
use Rattle.bus_semantics.specs.Run.{a_run}
use Rattle.script_run.specs.declared.script.ScriptRun.TheVariants.{Finished}
use Rattle.script_run.specs.Standing.{inside, outside}
use Rattle.script_run.proofs.Sessions as by
use Rattle.script_run.proofs.laps.put_run.Goals as goal

pub returns-in-Failed-clause-carries : goal.returns-in-Failed-clause-carries
returns-in-Failed-clause-carries g c =
    let told = g.K.Sink.told in
    by.mark_carries c.args.w c.args.n.now Failed (told c.args.out.now) (told c.put_behind.new.out)
    (λ p. subst (λ t. ToldAfter Failed (told c.args.out.now) (told c.put_behind.new.out) (c.args.w.prefix.now ++ t)) (c.run_line.ensures c.args.w.version p) c.in-Failed.ensures.told)

pub laps-init : goal.laps-init
laps-init g c = let told = g.K.Sink.told in record {
  few = omega arith;
  plan = refl;
  mapping = refl;
  carries = by.mark_carries c.args.w c.args.n.now Done (told c.args.out.now) (told c.put_behind.new.out)
      (λ p. subst (λ t. ToldAfter Done (told c.args.out.now) (told c.put_behind.new.out) (c.args.w.prefix.now ++ t)) (c.run_line.ensures c.args.w.version p) c.in-Done.ensures.told);
  faults = c.in-Done.ensures.faults;
}

pub laps-preserved : goal.laps-preserved
laps-preserved g c =
    let told = g.K.Sink.told in
    let so_far = c.laps.invariant in
    let lap = c.in-Made.ensures in
    record {
      few = lap.rises.1;
      plan = lap.plan ∙ so_far.plan;
      mapping = lap.mapping ∙ so_far.mapping;
      carries = by.carries_then c.args.w Finished (a_run ∷ []) [] outside (inside c.laps.made) (inside c.in-Made.more) c.args.n.now c.laps.n c.put_lap.new.n
          (told c.args.out.now) (told c.laps.out) (told c.put_lap.new.out) so_far.carries lap.carries;
      faults = lap.faults ∙ so_far.faults;
    }

pub returns-in-Ended-clause-carries : goal.returns-in-Ended-clause-carries
returns-in-Ended-clause-carries g c =
    let told = g.K.Sink.told in
    by.carries_then c.args.w c.in-Ended.answer (a_run ∷ []) [] outside (inside c.laps.made) outside c.args.n.now c.laps.n c.put_lap.new.n
    (told c.args.out.now) (told c.laps.out) (told c.put_lap.new.out) c.laps.invariant.carries c.in-Ended.ensures.carries
