-- An entry that is made along a legal history.
use Rattle.std.proofs.Common.{◌≡◌, Bool, true, false, not, if◌then◌else◌, Option, Some, None, List, [], ◌∷◌, refl, sym, subst, ℕ}
use Rattle.std.specs.Prelude.{option_and_then, unwrap_or}
use Rattle.bus_semantics.specs.Common.{and_parts, false≢true, ActKey, Plan, Wanted, wanted_by, History, last_started, needs_event, note, runs, fits, activation_of, follows_program}
use Rattle.bus_semantics.specs.Common.{is_held_back, wanted_in, is_this, starts_or_goes_on, IsLegal, broken_clause, none_runs, Session, IsLegalRun, history_of, made, run_begins, run_closes}
use Rattle.bus_semantics.specs.Common.{IsSound}
use Rattle.bus_semantics.specs.declared.entries.Actor.TheVariants.{Act}
use Rattle.bus_semantics.specs.declared.entries.Deed.{Deed}
use Rattle.bus_semantics.specs.declared.entries.Deed.TheVariants as deed
use Rattle.bus_semantics.specs.declared.entries.Entry.{Entry}
use Rattle.bus_semantics.specs.declared.script.Mapping.{Mapping}
use Rattle.trace_reading.proofs.Clauses.{unbroken}
use Rattle.port_objects.specs.declared.object.Object.{Object}
use Rattle.port_objects.specs.Objects.{ArePlans}
use Rattle.task_machine.specs.declared.instr.TaskSet.{TaskSet}
use Rattle.trace_objects.specs.Resting.{Rests}
use Rattle.trace_objects.specs.Standing.{IsTried, ObjectsStand}
use Rattle.trace_objects.specs.Unrest.{AreAmong}
use Rattle.trace_walks.specs.Runners.{RunnersStand}
use Rattle.trace_walks.specs.Standing.{WalksStand}
use Rattle.trace_check.specs.declared.bus_state.BusState.{BusState}
use Rattle.trace_check.specs.Along.{Idles, Makes, StateStands}

-- ---- the entries of a legal run

pub legal_history : (p : Plan) (m : Mapping) (s : Session) → IsLegalRun p m s → IsLegal p (history_of s)
legal_history p m [] legal = tt
legal_history p m (made e ∷ s) legal = (legal_history p m s legal.0, legal.1)
legal_history p m (run_begins ∷ s) legal = legal_history p m s legal
legal_history p m (run_closes word ∷ s) legal = legal_history p m s legal.0

-- ---- what needs the event of its activation is made while that runs

asked_runs : (v : Wanted) (b : Bool) (o : Option Wanted) → is_this v (if b then o else None) ≡ true → b ≡ true
asked_runs v true o e = refl
asked_runs v false o e = e

needs_running : (p : Plan) (h : History) (k : ActKey) (d : Deed) → needs_event d ≡ true → starts_or_goes_on p h k d ≡ true → runs k h ≡ true
needs_running p h k (deed.Admit admitted) needs e = asked_runs (wanted_by (unwrap_or (last_started k h) 0) (deed.Admit admitted)) (runs k h) (option_and_then (wanted_in p k) (activation_of k h)) e
needs_running p h k deed.End needs e = asked_runs (wanted_by (unwrap_or (last_started k h) 0) deed.End) (runs k h) (option_and_then (wanted_in p k) (activation_of k h)) e
needs_running p h k d needs e = absurd (false≢true needs)

pub runs_then : (p : Plan) (h : History) (e : Entry) → follows_program p h e.actor e.deed ≡ true → needs_event e.deed ≡ true → (k : ActKey) → e.actor ≡ Act k → runs k h ≡ true
runs_then p h e program needs k who =
    needs_running p h k e.deed needs
    (and_parts (starts_or_goes_on p h k e.deed) (not (is_held_back p h k)) (subst (λ a. follows_program p h a e.deed ≡ true) who program)).0

-- ---- it goes on the history, or breaks a clause

pub legal_then : (p : Plan) (h : History) (e : Entry) → IsLegal p h → fits p e ≡ true → broken_clause p h e ≡ None → IsLegal p (e ∷ h)
legal_then p h e legal fit none = let may = unbroken p h e none in (legal, record { fit = fit; actor = may.program; answers = may.answers })

pub tried : (p : Plan) (m : Mapping) (h : History) (e : Entry) (event : Option ℕ) → IsSound p m → IsLegal p h → fits p e ≡ true → follows_program p h e.actor e.deed ≡ true
    → event ≡ (note h e).event → IsTried p m h e event
tried p m h e event sound legal fit program by = record { sound = sound; legal = legal; fit = fit; program = program; by = by }

-- ---- what making answers

pub made_some : (t : TaskSet) (p : Plan) (h : History) (e : Entry) (new : BusState) (clause : ℕ) → Some clause ≡ broken_clause p h e → Makes t p h e new (Some clause)
made_some t p h e new clause is = record { clause = is; stands = λ none. absurd cc }

-- ---- rest

pub idle_then : (t : TaskSet) (p : Plan) (m : Mapping) (h : History) (old new : BusState) → none_runs p h ≡ true → StateStands t p h old → ArePlans p new.objects.items → new.walks ≡ old.walks → new.runners ≡ old.runners
    → (b : Bool) → (b ≡ true → new.objects.items ≡ old.objects.items) → (b ≡ true → AreAmong p new.objects.items new.unrest) → Rests p m h b → Idles t p m h new b
idle_then t p m h old new none stands planned walks runners true same among rest = (
  record { rest = rest; none = none },
  record {
    planned = planned;
    objects = subst (λ (os : List Object). ObjectsStand p h os) (sym (same refl)) stands.objects;
    unrest = among refl;
    walks = subst (WalksStand t p h) (sym walks) stands.walks;
    runners = subst (RunnersStand p h) (sym runners) stands.runners;
  },
)
idle_then t p m h old new none stands planned walks runners false same among rest = λ idle. rest idle.rest
