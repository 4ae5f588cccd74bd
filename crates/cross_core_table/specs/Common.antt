-- The names that proofs and the crates above cite, passed on from one place. Declares nothing.
pub use Rattle.cross_core_table.specs.Closing.{Among, HasAll, IsWhole}
pub use Rattle.cross_core_table.specs.Logs.{AreCounted, AreOf, made_by, noted_as, on_object, plan_in}
unfoldable pub use Rattle.cross_core_table.specs.Logs.{kept_after}
pub use Rattle.cross_core_table.specs.OpenRounds.{OpenRound}
pub use Rattle.cross_core_table.specs.Opened.{AreGiven, AreRooms, IsFresh}
pub use Rattle.cross_core_table.specs.Ordering.{AreWithin, items_of, put_part, put_parts}
pub use Rattle.cross_core_table.specs.Places.{Place}
pub use Rattle.cross_core_table.specs.Plays.{LockedAt, Sat, as_stamped, failing, first_view, giving, held_after, held_of, holding, joining, looked, making, newcomer, part_of_view, spent}
pub use Rattle.cross_core_table.specs.Plays.{stamped_off, stamped_on, unlocked}
pub use Rattle.cross_core_table.specs.Rules.{AreJoined, Holds, IsAtHome, IsHolding, IsSeated, IsSpent, IsTaken, Looked, RoundRule, Table, place_of, parts_of, times_joined, word_of}
pub use Rattle.cross_core_table.specs.Seats.{AreSeatsOf, IsSeatOf, made_of, view_of}
pub use Rattle.cross_core_table.specs.Taking.{HasTaken, TakenIn, round_at}
pub use Rattle.cross_core_table.specs.declared.seats.CoreSeat.{CoreSeat}
pub use Rattle.cross_core_table.specs.declared.views.Held.{Held}
pub use Rattle.cross_core_table.specs.declared.views.Opening.{Opening}
pub use Rattle.cross_core_table.specs.declared.views.Part.{Part}
pub use Rattle.cross_core_table.specs.declared.views.View.{View}
