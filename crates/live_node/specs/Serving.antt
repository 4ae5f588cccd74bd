-- What comes of serving a node by feeds.
use Rattle.std.specs.Prelude.{◌≡◌, true}
use Rattle.bus_semantics.specs.Common.{History, stamps_count}
use Rattle.core_runtime.specs.Common.{after, NodeState, IsLawfulNode}
use Rattle.feed_queue.specs.Passes.{order_of}
use Rattle.feed_queue.specs.declared.feeds.Feeds.{Feeds}
use Rattle.live_lanes.specs.Calls.{called_in}
use Rattle.live_lanes.specs.Drawn.{IsDrawn, IsWhole}
use Rattle.live_node.specs.declared.serving.Report.{Report}
use Rattle.live_node.specs.declared.serving.Served.{Served}
use Rattle.live_node.specs.declared.serving.Served.TheVariants.{Stopped, Memory}

-- if it stopped, this holds of what is left; if there was no memory, that holds of the node
abbrev pub IfStopped : Served → (Report → Type 0) → Type 0
IfStopped (Stopped report) P = P report
IfStopped (Memory n) P = Unit {0}

abbrev pub IfMemory : Served → (NodeState → Type 0) → Type 0
IfMemory (Stopped report) P = Unit {0}
IfMemory (Memory n) P = P n

-- the plan, the mapping and the bodies are the same
pub record IsSameBus (old new : NodeState) : Type 0 where
  pub plan : new.plan ≡ old.plan
  pub mapping : new.mapping ≡ old.mapping
  pub bodies : new.bodies ≡ old.bodies

-- whatever history the node was lawful for, it is lawful for it and what was made, whose stamps count
pub record KeepsTheLaw (old new : NodeState) : Type 0 where
  pub lawful : (h : History) → IsLawfulNode old h → IsLawfulNode new (after new.entries h)
  pub stamps : stamps_count new.entries ≡ true

-- the environment's wishes among what was made are those of the feeds in the order in which the pump popped them, and it popped each feed
-- as often as it has wishes
pub record MakesTheCalls (feeds : Feeds) (r : Report) : Type 0 where
  pub drawn : IsDrawn feeds (order_of r.pump) (called_in r.node.entries)
  pub whole : IsWhole feeds (order_of r.pump)
