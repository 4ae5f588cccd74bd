-- What `act` answers, by the lead: the entry of the wish by which what the object kept leads to what it keeps, or that no entry of the
-- actor and of the wish leads anywhere.
use Rattle.std.specs.Prelude.{◌≡◌, ℕ, true, false, Some, None, unwrap_or}
use Rattle.bus_laws.specs.Common.{Actor, Env, Act, Entry}
use Rattle.bus_semantics.specs.declared.entries.Deed.TheVariants.{Tick}
use Rattle.bus_semantics.specs.Common.{Plan, Noted, Wanted, to_start, wanted_by, answer_fits, plain_key, event_of, noted_for}
use Rattle.object_kinds.specs.declared.acted.Acted.{Acted}
use Rattle.object_kinds.specs.declared.acted.Acted.TheVariants.{Done, NotYet}
use Rattle.object_kinds.specs.declared.acted.Shown.{Shown}
use Rattle.data_objects.specs.Leading as groups
use Rattle.bundle_objects.specs.Leading as bundles
use Rattle.queue_objects.specs.Leading as queues
use Rattle.server_objects.specs.Leading as servers
use Rattle.area_objects.specs.Leading as areas
use Rattle.machine_objects.specs.Leading as machines
use Rattle.clock_objects.specs.Leading as clocks
use Rattle.port_objects.specs.declared.object.Object.{Object}
use Rattle.port_objects.specs.Kept.{Kept, of_group, of_bundle, of_queues, of_server, of_area, of_machine, of_clock}
use Rattle.port_objects.specs.Leading.{lead}
use Rattle.port_objects.specs.Objects.{kept_of}
use Rattle.port_objects.specs.Waking.{may_start_in, Tells, TellsPoint}

-- the entry is the actor's and of the wish, what it names as an answer fits, what was kept leads by it to what is kept, and the starts and
-- the Answer that came are told
pub record IsMade (p : Plan) (object : ℕ) (a : Actor) (w : Wanted) (old new : Object) (e : Entry) : Type 0 where
  pub actor : e.actor ≡ a
  pub wish : wanted_by (unwrap_or (event_of w) 0) e.deed ≡ w
  pub answer : answer_fits p a e.deed ≡ true
  pub leads : lead p object (kept_of old) (noted_for w e) ≡ Some (kept_of new)
  pub told : Tells (kept_of old) new
  pub heard : TellsPoint (kept_of old) new

-- why a wish may not come, by the kind of the object
abbrev pub why_held : Kept → Wanted → Shown
why_held (of_group k) w = groups.why_held k w
why_held (of_bundle k) w = bundles.why_held k w
why_held (of_queues k) w = queues.why_held k w
why_held (of_server k) w = servers.why_held k w
why_held (of_area k) w = areas.why_held k w
why_held (of_machine k) w = machines.why_held k w
why_held (of_clock k) w = clocks.why_held k w

-- nothing has changed, no entry of the actor and of the wish leads anywhere, and the object allows no plain start that was wished
pub record IsHeld (p : Plan) (object : ℕ) (a : Actor) (w : Wanted) (old new : Object) (shown : Shown) : Type 0 where
  pub why : shown ≡ why_held (kept_of old) w
  pub same : new ≡ old
  pub none : (n : Noted) → n.entry.actor ≡ a → wanted_by (unwrap_or n.event 0) n.entry.deed ≡ w → lead p object (kept_of old) n ≡ None
  pub flag : (runnable event : ℕ) → a ≡ Act (plain_key runnable) → w ≡ to_start event → may_start_in (kept_of old) event ≡ false

abbrev pub IsAnswer : Plan → (object : ℕ) → Actor → Wanted → (old new : Object) → Acted → Type 0
IsAnswer p object a w old new (Done e) = IsMade p object a w old new e
IsAnswer p object a w old new (NotYet shown) = IsHeld p object a w old new shown

-- the entry of a tick: the environment alone makes one
abbrev pub tick_of_env : Entry
tick_of_env = record { actor = Env; deed = Tick }
