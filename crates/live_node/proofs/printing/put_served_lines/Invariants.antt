use Rattle.std.proofs.Common.{◌≡◌, take, true}
use Rattle.bus_semantics.specs.Common.{list_all, plan_of}
use Rattle.rte_text.specs.Sinks.{AppendsWhereTold}
use Rattle.script_run.specs.Sizes.{is_sized_stamped}
use Rattle.live_node.specs.Printing.{served_lines}
use Rattle.live_node.proofs.Texts.{order_after}
use Rattle.live_node.proofs.printing.put_served_lines.Given as goal

-- the lines of so many entries were put, and the order of the calls behind them is left
abbrev pub invariant-loop-stamped : goal.invariant-loop-stamped
invariant-loop-stamped g l = let told = g.K.Sink.told in let faults = g.K.Sink.faults in record {
  told : AppendsWhereTold (told l.initial.out) (told l.out) (served_lines (plan_of l.p) l.order (take l.stamped-index l.entries));
  left : l.left ≡ order_after l.order (take l.stamped-index l.entries);
  faults : faults l.out ≡ faults l.initial.out;
  sized : list_all is_sized_stamped (take l.stamped-index l.entries) ≡ true;
}
