-- A bus along a trace that goes on by what its actors ask for. Histories stand the newest first.
use Rattle.std.specs.Prelude.{◌≡◌, ◌∷◌, true, unwrap_or}
use Rattle.bus_semantics.specs.declared.entries.Actor.{Actor}
use Rattle.bus_semantics.specs.declared.entries.Entry.{Entry}
use Rattle.bus_semantics.specs.Common.{Wanted, wanted_by, event_of, History, fits, IsLegal, Letters}
use Rattle.port_objects.specs.Objects.{ArePlans}
use Rattle.trace_objects.specs.Going.{Asks}
use Rattle.trace_objects.specs.Standing.{ObjectsStand}
use Rattle.trace_objects.specs.Unrest.{AreAmong}
use Rattle.trace_reading.specs.Reads.{BeginsWith}
use Rattle.trace_walks.specs.Runners.{RunnersStand}
use Rattle.trace_walks.specs.Standing.{WalksStand}
use Rattle.trace_check.specs.declared.rules.Rules.{Rules}
use Rattle.trace_check.specs.declared.bus_state.BusState.{BusState}
use Rattle.trace_check.specs.Along.{StateStands, plan_in}

-- for some legal history, after which the actor asks for this
pub record IsAskedAlong (r : Rules) (b : BusState) (a : Actor) (w : Wanted) : Type 0 where
  pub history : History
  pub legal : IsLegal (plan_in r) history
  pub stands : StateStands r.tasks.now (plan_in r) history b
  pub asks : Asks (plan_in r) history a w

-- the entry may follow the history; the objects stand for both, and the activations not yet for the entry
pub record IsMadeOf (r : Rules) (h : History) (e : Entry) (b : BusState) : Type 0 where
  pub fit : fits (plan_in r) e ≡ true
  pub legal : IsLegal (plan_in r) (e ∷ h)
  pub planned : ArePlans (plan_in r) b.objects.items
  pub objects : ObjectsStand (plan_in r) (e ∷ h) b.objects.items
  pub unrest : AreAmong (plan_in r) b.objects.items b.unrest
  pub walks : WalksStand r.tasks.now (plan_in r) h b.walks
  pub runners : RunnersStand (plan_in r) h b.runners

-- the text begins with the entry's line, and now the activations stand for it too
pub record NotesLine (r : Rules) (e : Entry) (text more : Letters) (old new : BusState) : Type 0 where
  pub begins : BeginsWith r.version (plan_in r) text e more
  pub stands : (h : History) → IsMadeOf r h e old → StateStands r.tasks.now (plan_in r) (e ∷ h) new

-- the text begins with the line of an entry of the actor and of the wish that may follow, and the state stands for the history and it
pub record GoesOnBy (r : Rules) (h : History) (a : Actor) (w : Wanted) (text more : Letters) (new : BusState) : Type 0 where
  pub entry : Entry
  pub actor : entry.actor ≡ a
  pub wanted : wanted_by (unwrap_or (event_of w) 0) entry.deed ≡ w
  pub begins : BeginsWith r.version (plan_in r) text entry more
  pub legal : IsLegal (plan_in r) (entry ∷ h)
  pub stands : StateStands r.tasks.now (plan_in r) (entry ∷ h) new
