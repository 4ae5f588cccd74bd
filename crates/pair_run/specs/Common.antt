-- The names that proofs and the crates above cite, passed on from one place. Declares nothing.
pub use Rattle.pair_run.specs.Crossing.{Crosses, Did, Drains, FindsNone, Follows, InOrder, Makes, Passed, Passes, Sends, Takes, Then, held_in}
pub use Rattle.pair_run.specs.Given.{IsLastGiven, given_in, gives, reaches}
pub use Rattle.pair_run.specs.Joint.{Joint, Side, all_on, joint_lines, one, prefix_of, side_of, two}
pub use Rattle.pair_run.specs.Linked.{link_of, linked_in, links_from, links_of}
pub use Rattle.pair_run.specs.Parts.{is_link_receive}
pub use Rattle.pair_run.specs.Running.{IsPairLine, SinkFaultsAfter}
pub use Rattle.pair_run.specs.Sent.{EnvironmentKeepsLimits, IsReceived, a_value, keeps_limits, nothing, takes, waiting_at}
pub use Rattle.pair_run.specs.Standing.{CarryBoth, CutsBoth, Stand, StandBoth, Writes, came_of}
pub use Rattle.pair_run.specs.declared.pair.PairRun.{PairRun}
pub use Rattle.pair_run.specs.declared.pair.PairRun.TheVariants.{Failed, Finished, LinkFailed, Memory}
