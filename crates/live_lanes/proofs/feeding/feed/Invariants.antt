use Rattle.std.proofs.Common.{◌≡◌}
use Rattle.feed_queue.specs.Passes.{IsFeederOf, feed_of, pushed}
use Rattle.live_lanes.proofs.feeding.feed.Given as goal

abbrev pub invariant-loop-number : goal.invariant-loop-number
invariant-loop-number g l = record {
  queue : IsFeederOf g.F.Feeding.lengths l.ground.queue.now l.feeder;
  feed : feed_of l.feeder ≡ feed_of l.initial.feeder;
  pushed : pushed l.feeder ≡ l.number;
}
