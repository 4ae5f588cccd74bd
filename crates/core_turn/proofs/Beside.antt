-- An entry of the environment changes nothing of what a slot stands for.
use Rattle.std.proofs.Common.{◌≡◌, true, false, refl, ◌∷◌}
use Rattle.bus_semantics.specs.Common.{false≢true, ActKey, Plan, History, is_environment, made_by}
use Rattle.bus_laws.specs.Common.{Actor, Env, Machine, Act, Entry}
use Rattle.task_machine.specs.declared.instr.TaskSet.{TaskSet}
use Rattle.task_slots.specs.declared.slot.Slot.{Slot}
use Rattle.task_slots.specs.declared.slot.Slot.TheVariants as of
use Rattle.task_slots.specs.declared.slot.Activity.{Activity}
use Rattle.task_slots.specs.declared.slot.Activity.TheVariants.{Free, Runs, Calls, Serves}
use Rattle.task_slots.specs.Standing.{SlotStands}
use Rattle.task_slots.proofs.Changing.{AreApart, apart_stands}

-- nobody's key made it
no_activation : (k : ActKey) (a : Actor) → is_environment a ≡ true → made_by k a ≡ false
no_activation k Env env = refl
no_activation k (Machine n) env = refl
no_activation k (Act j) env = absurd (false≢true env)

pub environment_stands : (p : Plan) (t : TaskSet) (g : History) (e : Entry) → is_environment e.actor ≡ true → (s : Slot) → SlotStands p t g s → SlotStands p t (e ∷ g) s
environment_stands p t g e env (of.Machine n) stands = tt
environment_stands p t g e env (of.Task s) stands = apart_stands p t g s.events.items s.frame s.inner e s.activity (λ j mine. no_activation j e.actor env) (by_activity s.activity) stands
  where
    by_activity : (a : Activity) → AreApart e a
    by_activity Free = tt
    by_activity (Runs k) = no_activation k e.actor env
    by_activity (Calls c) = (no_activation c.caller e.actor env, no_activation c.direct e.actor env)
    by_activity (Serves c) = (no_activation c.caller e.actor env, no_activation c.direct e.actor env)
