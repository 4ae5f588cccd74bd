-- The lead: what the clock keeps after an entry if it kept that before, or nothing if it would not answer so. It is a function of
-- plain data, and knows no history. The entry touches the clock.
use Rattle.std.specs.Prelude.{ℕ, List, Bool, true, false, Option, Some, None, option_map}
use Rattle.bus_semantics.specs.declared.entries.Deed.{Deed}
use Rattle.bus_semantics.specs.declared.entries.Deed.TheVariants as deed
use Rattle.bus_semantics.specs.Common.{Noted, Wanted, to_start}
use Rattle.tick_events.specs.Kept as clock_kept
use Rattle.object_kinds.specs.declared.acted.Shown.{Shown}
use Rattle.object_kinds.specs.declared.acted.Shown.TheVariants.{NotDue, Unmatched}
use Rattle.object_kinds.specs.Common.{place, given, is_set}
use Rattle.clock_objects.specs.Kept.{Kept, is_timer_due}

-- a start by a TimingEvent, else by an InitEvent
abbrev pub lead_of_start : (timing : Option ℕ) → (init : Option ℕ) → clock_kept.Kept → Option clock_kept.Kept
lead_of_start (Some i) init k = given (is_timer_due (clock_kept.is_due i k)) (clock_kept.after_timing i k)
lead_of_start None (Some i) k = given (is_set k.unstarted i) (clock_kept.after_init i k)
lead_of_start None None k = None

abbrev pub lead_of_clock : (timings : List ℕ) → (inits : List ℕ) → clock_kept.Kept → Deed → Option clock_kept.Kept
lead_of_clock timings inits k deed.Tick = Some (clock_kept.after_tick k)
lead_of_clock timings inits k (deed.Start event point value) = lead_of_start (place event timings) (place event inits) k
lead_of_clock timings inits k _ = None

-- with this kept of the clock itself
abbrev pub with_clock : Kept → clock_kept.Kept → Kept
with_clock k c = record { timings = k.timings; inits = k.inits; clock = c }

abbrev pub after_tick : Kept → Kept
after_tick k = with_clock k (clock_kept.after_tick k.clock)

-- after a start by an event; nothing if it is not pending
abbrev pub after_start : Kept → (event : ℕ) → Option Kept
after_start k event = option_map (with_clock k) (lead_of_start (place event k.timings) (place event k.inits) k.clock)

abbrev pub lead : Kept → Noted → Option Kept
lead k n = option_map (with_clock k) (lead_of_clock k.timings k.inits k.clock n.entry.deed)

-- why a wish may not come: a start is not due; every other wish that may not come is none of the clock's
abbrev pub why_held : Kept → Wanted → Shown
why_held k (to_start event) = NotDue event
why_held k w = Unmatched

-- an entry that can make a start come
abbrev pub wakes : Deed → Bool
wakes deed.Tick = true
wakes _ = false
