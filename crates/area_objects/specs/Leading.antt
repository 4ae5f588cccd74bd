-- The lead: what an area keeps after an entry if it kept that before, or nothing if it would not answer so. It is a function of
-- plain data, and knows no history. The entry touches the area.
use Rattle.std.specs.Prelude.{Bool, false, Option, Some, None, is_none}
use Rattle.bus_semantics.specs.Common.{ActKey, Noted, Wanted, to_enter}
use Rattle.bus_semantics.specs.declared.entries.Actor.{Actor}
use Rattle.bus_semantics.specs.declared.entries.Actor.TheVariants.{Act}
use Rattle.bus_semantics.specs.declared.entries.Deed.{Deed}
use Rattle.bus_semantics.specs.declared.entries.Deed.TheVariants as deed
use Rattle.area_objects.specs.Held.{is_held_by}
use Rattle.object_kinds.specs.declared.acted.Shown.{Shown}
use Rattle.object_kinds.specs.declared.acted.Shown.TheVariants.{HeldBy, Unmatched}
use Rattle.object_kinds.specs.Flags.{given}
use Rattle.area_objects.specs.Kept.{Kept}

-- an activation enters if nobody is in the area, and the one that is in it leaves
abbrev pub lead_of_area : Kept → Deed → Actor → Option Kept
lead_of_area k (deed.Enter x) (Act key) = given (is_none k.holder) (record { holder = Some key })
lead_of_area k (deed.Leave x) (Act key) = given (is_held_by key k.holder) (record { holder = None })
lead_of_area k _ _ = None

abbrev pub lead : Kept → Noted → Option Kept
lead k n = lead_of_area k n.entry.deed n.entry.actor

-- why a wish may not come: another is in the area; every other wish that may not come does not match
abbrev pub why_held : Kept → Wanted → Shown
why_held k (to_enter x) = by_holder k.holder
  where
    by_holder : Option ActKey → Shown
    by_holder None = Unmatched
    by_holder (Some holder) = HeldBy holder
why_held k w = Unmatched

-- an entry that can make a start come: none
abbrev pub wakes : Deed → Bool
wakes d = false
