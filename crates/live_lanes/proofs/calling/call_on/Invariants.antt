use Rattle.std.proofs.Common.{◌≡◌}
use Rattle.live_lanes.proofs.calling.call_on.Given as goal

abbrev pub invariant-loop : goal.invariant-loop
invariant-loop g l = record {
  round : l.bench.round ≡ l.initial.bench.round;
  number : l.bench.core ≡ l.initial.bench.core;
  made : l.bench.view.made ≡ l.initial.bench.view.made;
}
