use Rattle.std.proofs.Common.{◌≡◌, replicate}
use Rattle.bus_semantics.specs.Common.{a_call, to_tick}
use Rattle.script_run.specs.declared.script.ScriptRun.TheVariants.{Finished}
use Rattle.script_run.specs.Standing.{Carries, outside}
use Rattle.script_run.proofs.script.put_ticks.Given as goal

-- so many ticks were carried out
abbrev pub invariant-loop-i : goal.invariant-loop-i
invariant-loop-i g l = let told = g.K.Sink.told in let faults = g.K.Sink.faults in record {
  plan : l.n.plan ≡ l.initial.n.plan;
  mapping : l.n.mapping ≡ l.initial.n.mapping;
  carries : Carries l.w Finished (replicate l.i (a_call to_tick)) outside outside l.initial.n l.n (told l.initial.out) (told l.out);
  faults : faults l.out ≡ faults l.initial.out;
}
