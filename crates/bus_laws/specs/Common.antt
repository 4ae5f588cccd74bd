-- The names of laws on the bus and of the types of plans and entries that the crates above cite, passed on from one place. Declares nothing.
pub use Rattle.bus_semantics.specs.declared.entries.Actor.{Actor}
pub use Rattle.bus_semantics.specs.declared.entries.Actor.TheVariants.{Act, Env, Machine}
pub use Rattle.bus_semantics.specs.declared.entries.Deed.{Deed}
pub use Rattle.bus_semantics.specs.declared.entries.Entry.{Entry}
pub use Rattle.bus_semantics.specs.declared.entries.Stamped.{Stamped}
pub use Rattle.bus_semantics.specs.declared.entries.Wish.{Wish}
pub use Rattle.bus_semantics.specs.declared.plan.AreaPlan.{AreaPlan}
pub use Rattle.bus_semantics.specs.declared.plan.ArgPlan.{ArgPlan}
pub use Rattle.bus_semantics.specs.declared.plan.BusPlan.{BusPlan}
pub use Rattle.bus_semantics.specs.declared.plan.CoherentList.{CoherentList}
pub use Rattle.bus_semantics.specs.declared.plan.Disabling.{Disabling}
pub use Rattle.bus_semantics.specs.declared.plan.ElemKind.{ElemKind}
pub use Rattle.bus_semantics.specs.declared.plan.ElemKind.TheVariants.{Queued, Unqueued, Variable}
pub use Rattle.bus_semantics.specs.declared.plan.ElemPlan.{ElemPlan}
pub use Rattle.bus_semantics.specs.declared.plan.EventKind.{EventKind}
pub use Rattle.bus_semantics.specs.declared.plan.EventKind.TheVariants.{Ack, DataReceived, Init, Invoked, ModeSwitch, Returns, Timing}
pub use Rattle.bus_semantics.specs.declared.plan.EventPlan.{EventPlan}
pub use Rattle.bus_semantics.specs.declared.plan.MachinePlan.{MachinePlan}
pub use Rattle.bus_semantics.specs.declared.plan.ModePortPlan.{ModePortPlan}
pub use Rattle.bus_semantics.specs.declared.plan.Moment.{Moment}
pub use Rattle.bus_semantics.specs.declared.plan.PointPlan.{PointPlan}
pub use Rattle.bus_semantics.specs.declared.plan.ServerPlan.{ServerPlan}
pub use Rattle.bus_semantics.specs.declared.script.Line.{Line}
pub use Rattle.bus_semantics.specs.declared.script.Mapping.{Mapping}
pub use Rattle.bus_semantics.specs.declared.script.Task.{Task}
pub use Rattle.bus_semantics.specs.declared.version.Version.{Version}
pub use Rattle.bus_semantics.specs.declared.version.Version.TheVariants.{One, Two}
pub use Rattle.bus_laws.specs.Bounds.{UsesAtMost}
pub use Rattle.bus_laws.specs.Happened.{DoneInPhase, HappenedSince, IsAccepted, TickedSince}
pub use Rattle.bus_laws.specs.Returned.{IsAnswered}
pub use Rattle.bus_laws.specs.Waiting.{Chain}
