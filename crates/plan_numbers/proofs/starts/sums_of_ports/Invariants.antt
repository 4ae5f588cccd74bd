use Rattle.std.proofs.Common.{◌≡◌, ◌++◌, drop}
use Rattle.plan_numbers.specs.Starts.{capped_sums, elements_at}
use Rattle.plan_numbers.proofs.starts.sums_of_ports.Given as goal

abbrev pub invariant-loop-port : goal.invariant-loop-port
invariant-loop-port l = capped_sums (elements_at l.types) 0 l.ports ≡ l.list.items ++ capped_sums (elements_at l.types) l.sum (drop l.port-index l.ports)
