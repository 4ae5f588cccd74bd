use Rattle.std.proofs.Common.{◌≡◌, take}
use Rattle.bus_semantics.specs.Run.{orders_of_script}
use Rattle.script_run.specs.declared.script.ScriptRun.TheVariants.{Finished}
use Rattle.script_run.specs.Standing.{Carries, outside}
use Rattle.script_run.proofs.script.put_lines.Given as goal

-- the lines so far were carried out
abbrev pub invariant-loop-script_line : goal.invariant-loop-script_line
invariant-loop-script_line g l = let told = g.K.Sink.told in let faults = g.K.Sink.faults in record {
  plan : l.n.plan ≡ l.initial.n.plan;
  mapping : l.n.mapping ≡ l.initial.n.mapping;
  carries : Carries l.w Finished (orders_of_script (take l.script_line-index l.script_lines)) outside outside l.initial.n l.n (told l.initial.out) (told l.out);
  faults : faults l.out ≡ faults l.initial.out;
}
