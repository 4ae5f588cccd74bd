-- A round as contracts see it, and a seat at its bench.
use Rattle.std.specs.Prelude.{◌-◌, ℕ, length, Some, None}
use Rattle.atomic_table.specs.Seated.{TableId}
use Rattle.port_objects.specs.Benches.{Told}
use Rattle.cross_core_table.specs.declared.views.Opening.{Opening}
use Rattle.cross_core_table.specs.declared.views.View.{View}

-- which table it is, what the round was opened with, and how many cores have a seat
pub record OpenRound : Type 0 where
  pub table : TableId
  pub opening : Opening
  pub cores : ℕ

-- the round, the core of the seat, and what the seat knows
pub record Sitting : Type 0 where
  pub round : OpenRound
  pub core : ℕ
  pub view : View

-- a seat tells its work, and not its objects
abbrev pub told_of : Sitting → Told
told_of b = record {
  room = b.round.opening.room - length b.view.made;
  next = None;
  objects = None;
  work = Some (record { made = b.view.made; not_yet = b.view.looks; contended = b.view.tries });
}
