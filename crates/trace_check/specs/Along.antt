-- A bus along a trace, and the history for which what is kept of it stands. Histories stand the newest first.
use Rattle.std.specs.Prelude.{◌≡◌, ℕ, ◌∷◌, Bool, true, false, Option, None}
use Rattle.bus_semantics.specs.declared.script.Mapping.{Mapping}
use Rattle.bus_semantics.specs.declared.entries.Entry.{Entry}
use Rattle.bus_semantics.specs.Common.{Plan, plan_of, History, follows_program, IsLegal, broken_clause, IsIdle, IsSound}
use Rattle.port_objects.specs.Objects.{ArePlans}
use Rattle.task_machine.specs.declared.instr.TaskSet.{TaskSet}
use Rattle.task_generator.specs.Promise.{AsksAsPlanned}
use Rattle.trace_objects.specs.Standing.{ObjectsStand}
use Rattle.trace_objects.specs.Unrest.{AreAmong}
use Rattle.trace_walks.specs.Runners.{RunnersStand}
use Rattle.trace_walks.specs.Standing.{WalksStand}
use Rattle.trace_check.specs.declared.rules.Rules.{Rules}
use Rattle.trace_check.specs.declared.bus_state.BusState.{BusState}

-- the plan of the bus
abbrev pub plan_in : Rules → Plan
plan_in r = plan_of r.plan.now

-- the bus is sound, and the bodies are those of its runnables
pub record AreSound (r : Rules) : Type 0 where
  pub sound : IsSound (plan_in r) r.mapping.now
  pub bodies : AsksAsPlanned (plan_in r) r.tasks.now

-- the objects are the plan's, and stand for the history with the activations and those that run; and what may come on the objects of its
-- own is known
pub record StateStands (t : TaskSet) (p : Plan) (h : History) (b : BusState) : Type 0 where
  pub planned : ArePlans p b.objects.items
  pub objects : ObjectsStand p h b.objects.items
  pub unrest : AreAmong p b.objects.items b.unrest
  pub walks : WalksStand t p h b.walks
  pub runners : RunnersStand p h b.runners

-- for some legal history
pub record IsAlong (t : TaskSet) (p : Plan) (b : BusState) : Type 0 where
  pub history : History
  pub legal : IsLegal p history
  pub stands : StateStands t p history b

-- for some legal history, after which the program of the entry's actor asks for the entry
pub record IsAsked (t : TaskSet) (p : Plan) (b : BusState) (e : Entry) : Type 0 where
  pub history : History
  pub legal : IsLegal p history
  pub stands : StateStands t p history b
  pub program : follows_program p history e.actor e.deed ≡ true

-- the least clause that the entry breaks; if none, the state stands for the history and the entry
pub record Makes (t : TaskSet) (p : Plan) (h : History) (e : Entry) (new : BusState) (broken : Option ℕ) : Type 0 where
  pub clause : broken ≡ broken_clause p h e
  pub stands : broken ≡ None → StateStands t p (e ∷ h) new

-- true: the word `idle` holds, and the state stands as before. False: it does not hold
abbrev pub Idles : TaskSet → Plan → Mapping → History → (new : BusState) → Bool → Type 0
Idles t p m h new true = IsIdle p m h × StateStands t p h new
Idles t p m h new false = IsIdle p m h → ⊥
