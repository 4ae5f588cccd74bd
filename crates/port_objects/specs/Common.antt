-- The names that proofs and the crates above cite, passed on from one place. Declares nothing.
pub use Rattle.port_objects.specs.Answers.{IsAnswer, IsHeld, IsMade, tick_of_env, why_held}
pub use Rattle.port_objects.specs.Benches.{ActedOn, Further, IsActed, IsAsked, IsFurther, IsStamped, IsStampedFor, IsWritten, MadeOn, ObjectsAfter, Plain, StampAfter, Told, Work, benched}
pub use Rattle.port_objects.specs.Benches.{stamped_alone, written_last}
pub use Rattle.port_objects.specs.Coming.{IsTheOne, MayAsk}
pub use Rattle.port_objects.specs.Freed.{Frees, IsFree, IsUnconnected, is_free}
pub use Rattle.port_objects.specs.Kept.{Kept, of_area, of_bundle, of_clock, of_group, of_machine, of_queues, of_server}
pub use Rattle.port_objects.specs.Leading.{lead_by_kind, leads}
unfoldable pub use Rattle.port_objects.specs.Leading.{lead}
pub use Rattle.port_objects.specs.Objects.{ArePlans, IsOfPlan, kept_of}
pub use Rattle.port_objects.specs.Opening.{AreFirst, AreMade, before_areas, before_clock, before_machines, before_servers, opening, opening_of_bundle, opening_of_kind, opening_of_machine}
pub use Rattle.port_objects.specs.Opening.{opening_of_server, opening_where}
pub use Rattle.port_objects.specs.Plans.{HasObjects, IsOfKind, IsOfOneKind, IsOneGroup, QueuesFit, has_queues, is_listed}
pub use Rattle.port_objects.specs.Standing.{Keeps, Stands}
pub use Rattle.port_objects.specs.Waking.{IsClosed, Tells, TellsPoint, heard_in, is_leave, may_hear_in, may_start_in, wakes, woken_in}
pub use Rattle.port_objects.specs.declared.object.Object.{Object}
