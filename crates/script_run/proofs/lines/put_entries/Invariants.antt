use Rattle.std.proofs.Common.{◌≡◌, take}
use Rattle.rte_text.specs.Sinks.{AppendsWhereTold}
use Rattle.bus_semantics.specs.Plan.{plan_of}
use Rattle.script_run.specs.Texts.{entries_text}
use Rattle.script_run.proofs.lines.put_entries.Given as goal

-- the lines of so many entries were put
abbrev pub invariant-loop-stamped : goal.invariant-loop-stamped
invariant-loop-stamped g l = let told = g.K.Sink.told in let faults = g.K.Sink.faults in record {
  told : AppendsWhereTold (told l.initial.out) (told l.out) (entries_text l.w (plan_of l.p) (take l.stamped-index l.entries));
  faults : faults l.out ≡ faults l.initial.out;
}
