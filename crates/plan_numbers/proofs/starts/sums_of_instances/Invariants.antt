use Rattle.std.proofs.Common.{◌≡◌, ◌+◌, ◌++◌, drop}
use Rattle.plan_numbers.specs.Starts.{elements_of_instance, sums, total}
use Rattle.plan_numbers.proofs.starts.sums_of_instances.Given as goal

abbrev pub invariant-loop-instance : goal.invariant-loop-instance
invariant-loop-instance l = record {
  sums : sums (elements_of_instance l.d) 0 l.instances ≡ l.list.items ++ sums (elements_of_instance l.d) l.sum (drop l.instance-index l.instances);
  rest : l.sum + total (elements_of_instance l.d) (drop l.instance-index l.instances) ≡ total (elements_of_instance l.d) l.instances;
}
