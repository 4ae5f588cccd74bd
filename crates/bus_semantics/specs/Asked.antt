-- What an actor asks of an object, and which entries of that wish may come after the object's past.
use Rattle.std.specs.Prelude.{◌≡◌, ℕ, Bool, true, false, Option, Some, None, unwrap_or}
use Rattle.rte_value.specs.Values.{same_number}
use Rattle.bus_semantics.specs.declared.entries.Actor.{Actor}
use Rattle.bus_semantics.specs.declared.entries.Actor.TheVariants.{Act}
use Rattle.bus_semantics.specs.declared.entries.Entry.{Entry}
use Rattle.bus_semantics.specs.Plan.{Plan, runnable_of_event}
use Rattle.bus_semantics.specs.Wanted.{Wanted, to_start, to_admit, to_end, wanted_by}
use Rattle.bus_semantics.specs.History.{Noted, Past}
use Rattle.bus_semantics.specs.Objects.{touched}
use Rattle.bus_semantics.specs.Pasts.{Follows}

abbrev pub is_start : Wanted → Bool
is_start (to_start event) = true
is_start w = false

-- the event that a wish names for its entry: of an Admit or End, the one that started the activation
abbrev pub event_of : Wanted → Option ℕ
event_of (to_admit event) = Some event
event_of (to_end event) = Some event
event_of w = None

-- an entry with the event that its wish names
abbrev pub noted_for : Wanted → Entry → Noted
noted_for w e = record { entry = e; event = event_of w }

-- an activation starts, is admitted and ends by an event of its own runnable
abbrev pub asks_its_own : Plan → Actor → Wanted → Bool
asks_its_own p (Act k) (to_start event) = same_number (runnable_of_event p event) (Some k.runnable)
asks_its_own p (Act k) (to_admit event) = same_number (runnable_of_event p event) (Some k.runnable)
asks_its_own p (Act k) (to_end event) = same_number (runnable_of_event p event) (Some k.runnable)
asks_its_own p a w = true

-- an entry of the actor and of the wish that may come after these
pub record MayCome (p : Plan) (a : Actor) (w : Wanted) (l : Past) (n : Noted) : Type 0 where
  pub actor : n.entry.actor ≡ a
  pub wish : wanted_by (unwrap_or n.event 0) n.entry.deed ≡ w
  pub follows : Follows p (touched p a w) l n

abbrev pub NoneMayCome : Plan → Actor → Wanted → Past → Type 0
NoneMayCome p a w l = (n : Noted) → MayCome p a w l n → ⊥
