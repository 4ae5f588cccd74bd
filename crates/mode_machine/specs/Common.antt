-- The names that proofs and the crates above cite, passed on from one place. Declares nothing.
pub use Rattle.mode_machine.specs.Chains.{AreChains, IsNext, is_at, moment_of, occurs, same_moment}
pub use Rattle.mode_machine.specs.Disabling.{Dependency, Watched, dependencies, dependency_of, has_mode, holds_at, holds_back, idle_dependency, modes_in, no_dependency}
pub use Rattle.mode_machine.specs.Kept.{Kept}
pub use Rattle.mode_machine.specs.Owed.{after_end, after_owed_start, idle_event, is_woken, may_start, never_owed, owed_by, owes}
pub use Rattle.mode_machine.specs.Tracked.{AreTracked, IsReady, Tracked, event_at, if_at, is_left, moment_in}
pub use Rattle.mode_machine.specs.declared.chains.Chains.{Chains}
pub use Rattle.mode_machine.specs.declared.owed.ModeEvent.{ModeEvent}
pub use Rattle.mode_machine.specs.declared.owed.OwedEvent.{OwedEvent}
