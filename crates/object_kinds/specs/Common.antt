-- The names that proofs and the crates above cite, passed on from one place. Declares nothing.
pub use Rattle.object_kinds.specs.Flags.{given, is_pending, is_set}
pub use Rattle.object_kinds.specs.Gathered.{listed_at}
pub use Rattle.object_kinds.specs.Kinds.{IsAnswerOf, IsHeldBy, IsMadeBy, IsPlainStart, LeadsFollow, LeadsKeep, MissesNothing, OthersWakeNothing, StandsFor, StartsByFlag, acted}
pub use Rattle.object_kinds.specs.Layout.{IsAlone, element_in, events_of, group_at, members_of, place, waits_for_data, waits_in_bundle}
pub use Rattle.object_kinds.specs.Rising.{is_rising}
