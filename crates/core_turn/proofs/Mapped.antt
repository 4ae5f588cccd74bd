-- Each event of a runnable is in the one task that has events of the runnable.
use Rattle.std.proofs.Common.{◌≡◌, ℕ, ◌<◌, ◌≤◌, true, ◌&&◌, ◌==◌, if◌then◌else◌, refl, sym, ◌∙◌, ap, subst, arith, List, length, Option, Some, None}
use Rattle.std.specs.Prelude.{nat_lt, is_some}
use Rattle.bus_semantics.specs.Common.{list_all, list_any, slice_get, and_from, and_parts, eq-eqb, eqb-true, ltb-true, any_passes_from_place, same_Some, same_number, Plan, queue_of, kind_of}
use Rattle.bus_semantics.specs.Common.{runnable_of_event, count, plain_key, is_name, mapped_events, times_mapped, IsSound}
use Rattle.bus_laws.specs.Common.{EventPlan, EventKind, Timing, Init, DataReceived, Invoked, Returns, ModeSwitch, Ack, Mapping, Task}
use Rattle.bus_laws.proofs.OneEvent.{kind_at}
use Rattle.bus_laws.proofs.Thinning.{option_test}
use Rattle.history_laws.specs.LookUps.{all_at, at_place}
use Rattle.history_laws.proofs.Lists.{there_is}
use Rattle.task_slots.specs.Slots.{starts, is_key_of}
use Rattle.task_slots.specs.Ready.{may_be_mapped}
use Rattle.core_turn.proofs.Apart.{in_task, tasks_fit, each_mapped, few, runnable_inside, one_place}
use Rattle.core_turn.proofs.Places.{IsAmong, passing, gathers}

-- the task of an event
pub record InTask (m : Mapping) (event : ℕ) : Type 0 where
  pub task : Task
  pub at : IsAmong m.tasks task
  pub listed : list_any (λ d. d == event) task.events ≡ true
  pub core : task.core < m.cores

module _ (p : Plan) (m : Mapping) (sound : IsSound p m) where
  -- an event that may be mapped is in a task
  counted : (e : ℕ) (v : EventPlan) → slice_get p.events e ≡ Some v → count (λ d. d == e) (mapped_events m) ≡ times_mapped p v.kind
  counted e v there =
      eqb-true _ _ (at_place (λ e (v : EventPlan). count (λ d. d == e) (mapped_events m) == times_mapped p v.kind) p.events e v (each_mapped p m sound) there)

  pub task_within : (i : ℕ) (t : Task) → slice_get m.tasks i ≡ Some t → t.core < m.cores
  task_within i t found =
      let test = all_at (λ (t : Task). nat_lt t.core m.cores && (is_name t.name && list_all (λ e. nat_lt e (length p.events)) t.events)) m.tasks i t (tasks_fit p m sound) found in
      ltb-true t.core m.cores (and_parts (nat_lt t.core m.cores) _ test).0

  pub in_its_task : (e : ℕ) → may_be_mapped p e ≡ true → InTask m e
  in_its_task e mapped =
      let parts = and_parts (nat_lt e (length p.events)) _ mapped in
      let v = there_is p.events e (ltb-true e (length p.events) parts.0) in
      let once = eqb-true (times_mapped p (kind_of p e)) 1 parts.1 in
      let kind : times_mapped p v.0.kind ≡ 1 = ap (times_mapped p) (sym (kind_at p e v.0 v.1)) ∙ once in
      let n = counted e v.0 v.1 in
      let g = gathers (λ (t : Task). t.events) (λ d. d == e) m.tasks (omega arith) in
      record { task = g.from; at = g.at; listed = g.any; core = task_within g.at.place g.from g.at.found }

  -- each event of a task may be mapped
  pub listed_mapped : (e : ℕ) → nat_lt e (length p.events) ≡ true → 1 ≤ count (λ d. d == e) (mapped_events m) → may_be_mapped p e ≡ true
  listed_mapped e inside some =
      let v = there_is p.events e (ltb-true e (length p.events) inside) in
      let n = counted e v.0 v.1 in
      let kind : times_mapped p (kind_of p e) ≡ times_mapped p v.0.kind = ap (times_mapped p) (kind_at p e v.0 v.1) in
      and_from (nat_lt e (length p.events)) (times_mapped p (kind_of p e) == 1) inside (at_most (kind_of p e) (omega arith))
    where
      by_queue : (o : Option ℕ) → 1 ≤ (if is_some o then 1 else 0) → ((if is_some o then 1 else 0) == 1) ≡ true
      by_queue None some = absurd (omega arith)
      by_queue (Some q) some = refl

      at_most : (k : EventKind) → 1 ≤ times_mapped p k → (times_mapped p k == 1) ≡ true
      at_most (Invoked s) some = by_queue (queue_of p s) some
      at_most (Timing period) some = refl
      at_most Init some = refl
      at_most (DataReceived x) some = refl
      at_most (Returns q) some = refl
      at_most (ModeSwitch n moment) some = refl
      at_most (Ack n) some = refl

  -- what starts a runnable is started by a listed event
  pub starts_listed : (e r : ℕ) (events : List ℕ) → runnable_of_event p e ≡ Some r → list_any (λ d. d == e) events ≡ true → starts p r events ≡ true
  starts_listed e r events is any =
      let at = passing (λ d. d == e) events any in
      any_passes_from_place (λ d. same_number (runnable_of_event p d) (Some r)) events at.at.place at.item at.at.found
      (option_test (runnable_of_event p at.item) (Some r) (ap (runnable_of_event p) (eqb-true at.item e at.passes) ∙ is))

  pub is_own : (es : List ℕ) (i e r : ℕ) → slice_get es i ≡ Some e → runnable_of_event p e ≡ Some r → is_key_of p es (plain_key r) ≡ true
  is_own es i e r found is = starts_listed e r es is (any_passes_from_place (λ d. d == e) es i e found (eq-eqb e e refl))

  -- a task that has an event of a runnable has each that may be mapped
  pub has_all : (t : Task) (e r : ℕ) → IsAmong m.tasks t → starts p r t.events ≡ true → runnable_of_event p e ≡ Some r → may_be_mapped p e ≡ true → list_any (λ d. d == e) t.events ≡ true
  has_all t e r at own is mapped =
      let its = in_its_task e mapped in
      let also = starts_listed e r its.task.events is its.listed in
      let place = one_place (in_task p r) m.tasks at.place its.at.place t its.task (few p m sound r (runnable_inside p m sound r t.events own)) at.found own its.at.found also in
      let same : Some its.task ≡ Some t = sym its.at.found ∙ ap (slice_get m.tasks) (sym place) ∙ at.found in
      subst (λ o. list_any (λ d. d == e) o.events ≡ true) (same_Some _ _ same) its.listed
