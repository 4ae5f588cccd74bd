-- How a core leaves a round: it made as many entries as it may, or many turns in a row without one.
use Rattle.std.specs.Prelude.{◌≡◌, ◌≤◌, ◌<◌, ◌+◌, ◌⊎◌, ℕ, zero, suc, List, length, Bool, true, false, if◌then◌else◌}
use Rattle.bus_semantics.specs.Plan.{Plan}
use Rattle.task_slots.specs.declared.slot.Slot.{Slot}
use Rattle.cross_core_table.specs.declared.views.View.{View}
use Rattle.core_turn.specs.Cores.{looks_in}
use Rattle.core_lanes.specs.declared.stay.Stay.{Stay}

-- a core leaves after 1,024 entries; or its last 64 turns made none, and one of these looked at all of its slots, or up to an object that another
-- core held
abbrev pub MayLeave : Stay → Type 0
MayLeave s = (s.made ≡ 1024) ⊎ ((s.quiet ≡ 64) × (s.whole ≡ true))

-- ---- a turn without an entry

-- it looked at least so often and each look answered NotYet, or it found a word that names another core
pub record IsEmptyTurn (looks : ℕ) (before after : View) : Type 0 where
  pub made : after.made ≡ before.made
  pub looked : before.looks ≤ after.looks
  pub tried : before.tries ≤ after.tries
  pub cause : (before.looks + looks ≤ after.looks) ⊎ (before.tries < after.tries)

-- as many looks as it takes to see that nothing of any slot may come, if all of them are due
abbrev pub looks_due : Plan → List Slot → (all : Bool) → ℕ
looks_due p slots all = if all then looks_in p slots else 0

-- ---- what a core did in a round, as its turns count it

-- it has made no turn
abbrev pub nothing_done : Stay
nothing_done = record { made = 0; quiet = 0; whole = false }

-- a turn made an entry: no turn is behind the last entry now
pub record CountsEntry (old new : Stay) : Type 0 where
  pub made : new.made ≡ suc old.made
  pub quiet : new.quiet ≡ 0
  pub whole : new.whole ≡ false

-- a turn made none: behind the last entry it is one turn more, and one of these looked at all of these slots if one did before or this one does
pub record CountsNone (p : Plan) (slots : List Slot) (old new : Stay) (before after : View) : Type 0 where
  pub made : new.made ≡ old.made
  pub quiet : new.quiet ≡ suc old.quiet
  pub empty : IsEmptyTurn 0 before after
  pub whole : (new.whole ≡ old.whole) ⊎ ((new.whole ≡ true) × IsEmptyTurn (looks_in p slots) before after)

-- so after a turn of a core with these slots, by what its seat knew before and knows after
abbrev pub Counts : Plan → List Slot → (old new : Stay) → (before after : View) → (made : Bool) → Type 0
Counts p slots old new before after true = CountsEntry old new
Counts p slots old new before after false = CountsNone p slots old new before after

-- ---- that it is true of the core's seat

-- so many turns in a row made no entry; `whole` if one of them looked at all slots
pub data EmptyTurns (p : Plan) (slots : List Slot) (from : View) : (count : ℕ) → (whole : Bool) → (to : View) → Type 0 where
  none : EmptyTurns p slots from zero false from
  more : (count : ℕ) (whole : Bool) (between to : View) → EmptyTurns p slots from count whole between → IsEmptyTurn 0 between to → EmptyTurns p slots from (suc count) whole to
  through : (count : ℕ) (whole : Bool) (between to : View) → EmptyTurns p slots from count whole between → IsEmptyTurn (looks_in p slots) between to → EmptyTurns p slots from (suc count) true to

-- so many entries stand in its list, and behind the last of them there were so many turns without one
pub record IsTrueOf (p : Plan) (slots : List Slot) (s : Stay) (v : View) : Type 0 where
  pub made : length v.made ≡ s.made
  pub from : View
  pub turns : EmptyTurns p slots from s.quiet s.whole v
