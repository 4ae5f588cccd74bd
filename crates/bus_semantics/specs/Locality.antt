-- What the bus answers to an entry looks only at the earlier entries of the object that the entry touches. Entries stand the newest first.
use Rattle.std.specs.Prelude.{◌≡◌, Bool, true, ◌&&◌, Some}
use Rattle.rte_value.specs.Values.{same_number}
use Rattle.bus_semantics.specs.declared.entries.Actor.{Actor}
use Rattle.bus_semantics.specs.declared.entries.Actor.TheVariants.{Act}
use Rattle.bus_semantics.specs.declared.entries.Deed.{Deed}
use Rattle.bus_semantics.specs.declared.entries.Deed.TheVariants as deed
use Rattle.bus_semantics.specs.Plan.{Plan, runnable_of_event}
use Rattle.bus_semantics.specs.History.{Noted, Past}
use Rattle.bus_semantics.specs.Fitting.{fits}
use Rattle.bus_semantics.specs.Legal.{unqueued_allows, queued_allows, calls_allow, areas_allow, modes_allow, admission_allows, due_allows}

-- an activation is started by an event of its own runnable
abbrev pub starts_its_own : Plan → Actor → Deed → Bool
starts_its_own p (Act k) (deed.Start event point value) = same_number (runnable_of_event p event) (Some k.runnable)
starts_its_own p _ _ = true

-- an entry that fits, and starts nobody else's runnable
abbrev pub is_proper : Plan → Noted → Bool
is_proper p n = fits p n.entry && starts_its_own p n.entry.actor n.entry.deed

-- each clause says of the entry after the one history what it says after the other
pub record SameAnswers (p : Plan) (n : Noted) (h l : Past) : Type 0 where
  pub unqueued : unqueued_allows p h n.entry.deed ≡ unqueued_allows p l n.entry.deed
  pub queued : queued_allows p h n.entry.deed ≡ queued_allows p l n.entry.deed
  pub calls : calls_allow p h n.entry.actor n.entry.deed ≡ calls_allow p l n.entry.actor n.entry.deed
  pub areas : areas_allow h n.entry.deed ≡ areas_allow l n.entry.deed
  pub modes : modes_allow p h n.entry.actor n.entry.deed ≡ modes_allow p l n.entry.actor n.entry.deed
  pub admission : admission_allows p h n.event n.entry.deed ≡ admission_allows p l n.event n.entry.deed
  pub due : due_allows p h n.entry.actor n.entry.deed ≡ due_allows p l n.entry.actor n.entry.deed
