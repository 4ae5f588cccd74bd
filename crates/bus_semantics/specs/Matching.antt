-- Whether an entry matches the earlier entries of its object: what is left was entered, what returns or ends was started, what is
-- admitted does not run, and what a queued server or a mode switch starts has ended before. In a legal history each entry does. Entries
-- stand the newest first.
use Rattle.std.specs.Prelude.{ℕ, Bool, true, false, not, ◌||◌, ◌==◌, is_some, if◌then◌else◌, Option, Some, None, unwrap_or}
use Rattle.rte_value.specs.Values.{same_number}
use Rattle.bus_semantics.specs.declared.plan.EventKind.{EventKind}
use Rattle.bus_semantics.specs.declared.plan.EventKind.TheVariants.{Invoked, ModeSwitch}
use Rattle.bus_semantics.specs.declared.entries.Actor.{Actor}
use Rattle.bus_semantics.specs.declared.entries.Actor.TheVariants.{Act}
use Rattle.bus_semantics.specs.declared.entries.Deed.{Deed}
use Rattle.bus_semantics.specs.declared.entries.Deed.TheVariants as deed
use Rattle.bus_semantics.specs.Plan.{Plan, kind_of, queue_of}
use Rattle.bus_semantics.specs.History.{Noted, Past, newest, made_by}

-- whether the last entry that begins or finishes something begins it
abbrev pub is_open : (Noted → Option Bool) → Past → Bool
is_open begins l = unwrap_or (newest begins l) false

abbrev pub same_actor : Actor → Actor → Bool
same_actor (Act k) b = made_by k b
same_actor _ _ = false

-- the last Enter or Leave is an Enter by the actor
abbrev pub enters_by : Actor → Noted → Option Bool
enters_by a n = of_deed n.entry.deed
  where
    of_deed : Deed → Option Bool
    of_deed (deed.Enter x) = Some (same_actor a n.entry.actor)
    of_deed (deed.Leave x) = Some false
    of_deed _ = None

-- a Start by the actor without a Return after it
abbrev pub serves_by : Actor → Noted → Option Bool
serves_by a n = if same_actor a n.entry.actor then of_deed n.entry.deed else None
  where
    of_deed : Deed → Option Bool
    of_deed (deed.Start event point value) = Some true
    of_deed (deed.Return code value) = Some false
    of_deed _ = None

-- a Start of a server without its Return
abbrev pub serves_any : Plan → Noted → Option Bool
serves_any p n = of_deed n.entry.deed
  where
    of_kind : EventKind → Option Bool
    of_kind (Invoked s) = Some true
    of_kind _ = None

    of_deed : Deed → Option Bool
    of_deed (deed.Start event point value) = of_kind (kind_of p event)
    of_deed (deed.Return code value) = Some false
    of_deed _ = None

-- a Start, or an Admit that answers yes, by the event without an End after it
abbrev pub runs_by : (event : ℕ) → Noted → Option Bool
runs_by e n = of_deed n.entry.deed
  where
    of_deed : Deed → Option Bool
    of_deed (deed.Start event point value) = if e == event then Some true else None
    of_deed (deed.Admit true) = if same_number n.event (Some e) then Some true else None
    of_deed deed.End = if same_number n.event (Some e) then Some false else None
    of_deed _ = None

-- a server with a queue starts one request after the other; so does an event of a mode switch
abbrev pub start_matches : Plan → Past → (event : ℕ) → EventKind → Bool
start_matches p l e (Invoked s) = not (is_some (queue_of p s)) || not (is_open (serves_any p) l)
start_matches p l e (ModeSwitch m moment) = not (is_open (runs_by e) l)
start_matches p l e _ = true

-- an Admit or End that comes without its event touches no object
abbrev pub event_matches : (Bool → Bool) → Past → Option ℕ → Bool
event_matches test l None = true
event_matches test l (Some e) = test (is_open (runs_by e) l)

abbrev pub matches : Plan → Past → Noted → Bool
matches p l n = of_deed n.entry.deed
  where
    of_deed : Deed → Bool
    of_deed (deed.Leave x) = is_open (enters_by n.entry.actor) l
    of_deed (deed.Return code value) = is_open (serves_by n.entry.actor) l
    of_deed (deed.Start event point value) = start_matches p l event (kind_of p event)
    of_deed deed.End = event_matches (λ runs. runs) l n.event
    of_deed (deed.Admit admitted) = event_matches (λ runs. not runs) l n.event
    of_deed _ = true
