-- A core after the step of one of its slots.
use Rattle.std.proofs.Common.{◌≡◌, ◌≢◌, ℕ, zero, suc, ◌+◌, ◌-◌, ◌<◌, true, false, if◌then◌else◌, refl, sym, ◌∙◌, ap, subst, arith, List, [], ◌∷◌, ◌++◌, length, take, drop, set, map}
use Rattle.std.proofs.Common.{add_comm, length-drop, Option, Some, None}
use Rattle.bus_semantics.specs.Common.{slice_get, take-append-drop, length-set, length_push, take-length, slice_get_within, le-leb, ActKey, Plan, History, Try, gathered}
use Rattle.std.proofs.lemmas.Bool.{lt-leb}
use Rattle.bus_laws.specs.Common.{Stamped, Mapping}
use Rattle.port_objects.specs.declared.object.Object.{Object}
use Rattle.port_objects.specs.Benches.{Told}
use Rattle.task_machine.specs.declared.instr.TaskSet.{TaskSet}
use Rattle.task_slots.specs.declared.slot.Slot.{Slot}
use Rattle.task_slots.specs.Look.{Made, Nothing, Contended}
use Rattle.task_slots.specs.declared.slot.Slot.TheVariants as of
use Rattle.task_slots.specs.Slots.{is_key_of, table_of, slot_tries, events_of_slot}
use Rattle.core_turn.specs.Cores.{CoreState, tables_of_core, slots_between, slots_before, looks_in}
use Rattle.task_slots.specs.Ready.{IsReadySlot}
use Rattle.core_turn.specs.Ready.{IsReady}
use Rattle.task_slots.specs.Standing.{SlotStands}
use Rattle.core_turn.specs.Standing.{CoreStands}
use Rattle.task_slots.specs.Looking.{AllHeld, ObjectsLooked, is_touched, Looked}
use Rattle.task_slots.specs.Stepping.{SlotStep}
use Rattle.core_turn.specs.Turning.{PassMade, OrderTold, StepsApart, NothingFound, NothingComes, NoneTold, IsContended, NeverTold}
use Rattle.task_slots.proofs.Onward.{looked_on, looked_as, looked_uncounted, touched_first, touched_last, gathered_on, all_on}
use Rattle.core_turn.proofs.Passing.{looks_on}
use Rattle.latches.proofs.Places.{Placed, here, there, placed}
use Rattle.task_slots.proofs.Changing.{other_stands}
use Rattle.core_turn.proofs.Apart.{apart, other_entry}

module _ (p : Plan) (m : Mapping) (t : TaskSet) (old new : CoreState) (ready : IsReady p m t old) (at : ℕ) (slot stepped : Slot) (s : Stamped)
    (is : slice_get old.slots at ≡ Some slot) (slots : new.slots ≡ set old.slots at stepped) (number : new.number ≡ old.number) (step : SlotStep p t slot stepped s) where
  pub stands_on : (g : History) → CoreStands p t g old → CoreStands p t (s.entry ∷ g) new
  stands_on g stands i x found = of_place (placed old.slots at stepped i x (subst (λ xs. slice_get xs i ≡ Some x) slots found))
    where
      of_slot : (x : Slot) → i ≢ at → slice_get old.slots i ≡ Some x → IsReadySlot p t x → SlotStands p t g x → SlotStands p t (s.entry ∷ g) x
      of_slot (of.Machine n) other here_it ready_it stands_it = tt
      of_slot (of.Task y) other here_it ready_it stands_it =
          let foreign : (k : ActKey) → is_key_of p (events_of_slot slot) k ≡ true → is_key_of p y.events.items k ≡ false = λ k own. apart p m ready.sound old k at i slot (of.Task y) ready.has is own here_it (λ e. other (sym e)) in
          other_stands p t g y.events.items y.frame y.inner s.entry y.activity (other_entry p slot s.entry.actor y.events.items step.own foreign) ready_it.active stands_it

      of_place : Placed Slot old.slots at stepped i x → SlotStands p t (s.entry ∷ g) x
      of_place (here place same) = subst (SlotStands p t (s.entry ∷ g)) (sym same) (step.follows g (stands at slot is)).stands
      of_place (there other here_it) = of_slot x other here_it (ready.each i x here_it) (stands i x here_it)

  set_tables : (xs : List Slot) (n : ℕ) → slice_get xs n ≡ Some slot → map table_of (set xs n stepped) ≡ map table_of xs
  set_tables [] n e = refl
  set_tables (x ∷ xs) zero e =
      let same : x ≡ slot = cc in
      ap (λ y. y ∷ map table_of xs) (step.table ∙ ap table_of (sym same))
  set_tables (x ∷ xs) (suc n) e = ap (λ ys. table_of x ∷ ys) (set_tables xs n e)

  pub ready_on : IsReady p m t new
  ready_on = record {
    sound = ready.sound;
    has = subst (λ n. map table_of new.slots ≡ tables_of_core p m n) (sym number) (ap (map table_of) slots ∙ set_tables old.slots at is ∙ ready.has);
    each = λ i x found. of_place i x (placed old.slots at stepped i x (subst (λ xs. slice_get xs i ≡ Some x) slots found));
  }
    where
      of_place : (i : ℕ) (x : Slot) → Placed Slot old.slots at stepped i x → IsReadySlot p t x
      of_place i x (here place same) = subst (IsReadySlot p t) (sym same) step.ready
      of_place i x (there other found) = ready.each i x found

-- ---- the order of slots

order_told : (p : Plan) (t : TaskSet) (c : CoreState) (at : ℕ) (slot : Slot) (a b d : Option (List Object)) (s : Stamped) (xs : List Slot) → xs ≡ slots_before c.first at c.slots
    → ObjectsLooked p (gathered (slot_tries p t) xs) a b Nothing → ObjectsLooked p (slot_tries p t slot) b d (Made s) → OrderTold p t c at slot a d s
order_told p t c at slot None b d s xs is passed now = subst (λ o. ObjectsLooked p (slot_tries p t slot) o d (Made s)) passed now
order_told p t c at slot (Some objects) b d s xs is passed now = record {
  passed = subst (λ ys. AllHeld p objects (gathered (slot_tries p t) ys)) is passed.0;
  made = subst (λ o. ObjectsLooked p (slot_tries p t slot) o d (Made s)) passed.1 now;
}

-- a core whose slot stepped after others were passed
steps_of : (p : Plan) (m : Mapping) (t : TaskSet) (old new : CoreState) (ready : IsReady p m t old) (at : ℕ) (slot stepped : Slot) (s : Stamped) (a b d : Told) (xs : List Slot)
    → slice_get old.slots at ≡ Some slot → new.slots ≡ set old.slots at stepped → new.number ≡ old.number → new.first ≡ suc at
    → SlotStep p t slot stepped s → xs ≡ slots_before old.first at old.slots
    → Looked p (gathered (slot_tries p t) xs) 0 a b Nothing → Looked p (slot_tries p t slot) 0 b d (Made s)
    → StepsApart p t old new a d s
steps_of p m t old new ready at slot stepped s a b d xs is slots number first step order passed now =
    let whole = looked_on p _ _ _ _ a b d (Made s) passed now in
    record {
      at = at;
      slot = slot;
      stepped = stepped;
      there = is;
      slots = slots;
      first = first;
      number = number;
      step = step;
      stands = stands_on p m t old new ready at slot stepped s is slots number step;
      bench_room = whole.room;
      next = whole.next;
      work = whole.work;
      order = order_told p t old at slot a.objects b.objects d.objects s xs order passed.objects now.objects;
    }

-- ---- the first pass, from the first slot on

module _ (p : Plan) (m : Mapping) (t : TaskSet) (old new : CoreState) (ready : IsReady p m t old) (s : Stamped) (at : ℕ)
    (number : new.number ≡ old.number) (first : new.first ≡ suc at) where
  pub back_steps : (a d : Told) → PassMade p t old.slots new.slots old.first at a d s → StepsApart p t old new a d s
  back_steps a d pass =
      let order : slots_between old.first at old.slots ≡ slots_before old.first at old.slots =
      ap (λ b. if b then slots_between old.first at old.slots else drop old.first old.slots ++ take at old.slots) (sym (le-leb old.first at pass.behind)) in
      steps_of p m t old new ready at pass.slot pass.stepped s a pass.middle d (slots_between old.first at old.slots) pass.there pass.slots number first pass.step order pass.passed pass.looked

  -- the second pass, up to the first slot
  pub front_steps : (a c d : Told) (n : ℕ) → at < old.first → Looked p (gathered (slot_tries p t) (drop old.first old.slots)) n a c Nothing
      → PassMade p t old.slots new.slots 0 at c d s → StepsApart p t old new a d s
  front_steps a c d n before back pass =
      let none : at - 0 ≡ at = omega arith in
      let order : drop old.first old.slots ++ slots_between 0 at old.slots ≡ slots_before old.first at old.slots =
      ap (λ n. drop old.first old.slots ++ take n old.slots) none
      ∙ ap (λ b. if b then slots_between old.first at old.slots else drop old.first old.slots ++ take at old.slots) (sym (lt-leb old.first at before)) in
      let tries : gathered (slot_tries p t) (drop old.first old.slots) ++ gathered (slot_tries p t) (slots_between 0 at old.slots) ≡ gathered (slot_tries p t) (drop old.first old.slots ++ slots_between 0 at old.slots) =
      sym (gathered_on (slot_tries p t) (drop old.first old.slots) (slots_between 0 at old.slots)) in
      let passed = looked_as p _ _ 0 0 a pass.middle Nothing tries refl (looked_on p _ _ 0 0 a c pass.middle Nothing (looked_uncounted p _ n a c Nothing back) pass.passed) in
      steps_of p m t old new ready at pass.slot pass.stepped s a pass.middle d (drop old.first old.slots ++ slots_between 0 at old.slots) pass.there pass.slots number first pass.step order passed pass.looked

-- ---- nothing steps

none_told : (p : Plan) (t : TaskSet) (c : CoreState) (a d : Option (List Object)) → ObjectsLooked p (gathered (slot_tries p t) c.slots) a d Nothing → NoneTold p t c a d
none_told p t c None d looked = looked
none_told p t c (Some objects) d looked = looked

-- in another order they are held as well
swapped : (p : Plan) (ts us : List Try) (a d : Option (List Object)) → ObjectsLooked p (ts ++ us) a d Nothing → ObjectsLooked p (us ++ ts) a d Nothing
swapped p ts us None d looked = looked
swapped p ts us (Some objects) d looked = let parts = all_parts p objects ts us looked.0 in (all_on p objects us ts parts.1 parts.0, looked.1)
  where
    all_parts : (p : Plan) (objects : List Object) (ts us : List Try) → AllHeld p objects (ts ++ us) → AllHeld p objects ts × AllHeld p objects us
    all_parts p objects [] us all = (tt, all)
    all_parts p objects (x ∷ ts) us all = let rest = all_parts p objects ts us all.1 in ((all.0, rest.0), rest.1)

looks_in_all : (p : Plan) (c : CoreState) → looks_in p (drop c.first c.slots) + looks_in p (take c.first c.slots) ≡ looks_in p c.slots
looks_in_all p c =
    add_comm (looks_in p (drop c.first c.slots)) (looks_in p (take c.first c.slots)) ∙ sym (looks_on p (take c.first c.slots) (drop c.first c.slots)) ∙ ap (looks_in p) (take-append-drop c.first c.slots)

pub nothing_found : (p : Plan) (t : TaskSet) (c new : CoreState) (m n : ℕ) (a b d : Told) → new ≡ c
    → Looked p (gathered (slot_tries p t) (drop c.first c.slots)) m a b Nothing
    → Looked p (gathered (slot_tries p t) (take c.first c.slots)) n b d Nothing
    → NothingFound p t (m + n) c new a d
nothing_found p t c new m n a b d same back front =
    let whole = looked_on p _ _ m n a b d Nothing back front in
    let tries : gathered (slot_tries p t) (take c.first c.slots) ++ gathered (slot_tries p t) (drop c.first c.slots) ≡ gathered (slot_tries p t) c.slots =
    sym (gathered_on (slot_tries p t) (take c.first c.slots) (drop c.first c.slots)) ∙ ap (gathered (slot_tries p t)) (take-append-drop c.first c.slots) in
    record {
      same = same;
      room = whole.room;
      next = whole.next;
      work = whole.work;
      objects = none_told p t c a.objects d.objects (subst (λ ts. ObjectsLooked p ts a.objects d.objects Nothing) tries
          (swapped p (gathered (slot_tries p t) (drop c.first c.slots)) (gathered (slot_tries p t) (take c.first c.slots)) a.objects d.objects whole.objects));
    }

-- each look that this took was counted
pub nothing_comes : (p : Plan) (t : TaskSet) (c new : CoreState) (m n : ℕ) (a b d : Told) → new ≡ c → m ≡ looks_in p (drop c.first c.slots) → n ≡ looks_in p (take c.first c.slots)
    → Looked p (gathered (slot_tries p t) (drop c.first c.slots)) m a b Nothing
    → Looked p (gathered (slot_tries p t) (take c.first c.slots)) n b d Nothing
    → NothingComes p t c new a d
nothing_comes p t c new m n a b d same behind before back front =
    subst (λ k. NothingFound p t k c new a d) ((λ i. behind i + before i) ∙ looks_in_all p c) (nothing_found p t c new m n a b d same back front)

-- ---- contended

never_told : (p : Plan) (a d : Option (List Object)) (object : ℕ) (ts : List Try) → ObjectsLooked p ts a d (Contended object) → NeverTold a d
never_told p None d object ts looked = looked
never_told p (Some objects) d object ts looked = looked

module _ (p : Plan) (t : TaskSet) (c new : CoreState) (a b d : Told) (object : ℕ) (same : new ≡ c) where
  tries : gathered (slot_tries p t) (take c.first c.slots) ++ gathered (slot_tries p t) (drop c.first c.slots) ≡ gathered (slot_tries p t) c.slots
  tries = sym (gathered_on (slot_tries p t) (take c.first c.slots) (drop c.first c.slots)) ∙ ap (gathered (slot_tries p t)) (take-append-drop c.first c.slots)

  whole_lost : (ts : List Try) (n : ℕ) → Looked p ts n a d (Contended object) → is_touched p (gathered (slot_tries p t) c.slots) object ≡ true → IsContended p t c new a d object
  whole_lost ts n looked touched = record {
    same = same;
    touched = touched;
    room = looked.room;
    next = looked.next;
    work = looked.work;
    objects = never_told p a.objects d.objects object ts looked.objects;
  }

  -- in the first pass
  pub back_contended : Looked p (gathered (slot_tries p t) (drop c.first c.slots)) 0 a d (Contended object) → IsContended p t c new a d object
  back_contended looked =
      whole_lost _ _ looked (subst (λ ts. is_touched p ts object ≡ true) tries (touched_last p (gathered (slot_tries p t) (take c.first c.slots)) (gathered (slot_tries p t) (drop c.first c.slots)) object looked.lost))

  -- in the second pass
  pub front_contended : (n : ℕ) → Looked p (gathered (slot_tries p t) (drop c.first c.slots)) n a b Nothing → Looked p (gathered (slot_tries p t) (take c.first c.slots)) 0 b d (Contended object) → IsContended p t c new a d object
  front_contended n back front =
      whole_lost _ _ (looked_on p _ _ _ _ a b d (Contended object) back front)
      (subst (λ ts. is_touched p ts object ≡ true) tries (touched_first p (gathered (slot_tries p t) (take c.first c.slots)) (gathered (slot_tries p t) (drop c.first c.slots)) object front.lost))

-- ---- passes over the slots that a core has

pub pass_at : (p : Plan) (t : TaskSet) (old old' new new' : List Slot) (from from' at : ℕ) (a d : Told) (s : Stamped) → old ≡ old' → new ≡ new' → from ≡ from' → PassMade p t old new from at a d s → PassMade p t old' new' from' at a d s
pass_at p t old old' new new' from from' at a d s same changed begun pass =
    subst (λ n. PassMade p t old' new' n at a d s) begun (subst (λ xs. PassMade p t old' xs from at a d s) changed (subst (λ xs. PassMade p t xs new from at a d s) same pass))

pub made_within : (p : Plan) (t : TaskSet) (old new : List Slot) (from at : ℕ) (a d : Told) (s : Stamped) → PassMade p t old new from at a d s → at < length new
made_within p t old new from at a d s pass =
    let less = slice_get_within old at pass.slot pass.there in
    omega (arith, ap length pass.slots, length-set old at pass.stepped)

module _ (p : Plan) (t : TaskSet) (c : CoreState) (xs : List Slot) (first : ℕ) (a b : Told) (same : xs ≡ c.slots) (begun : first ≡ c.first) where
  behind : (count : ℕ) → count ≡ length xs → slots_between first count xs ≡ drop c.first c.slots
  behind count whole =
      ap (λ n. take (n - first) (drop first xs)) whole
      ∙ ap (λ n. take n (drop first xs)) (sym (length-drop first xs))
      ∙ take-length (drop first xs)
      ∙ (λ i. drop (begun i) (same i))

  before : slots_between 0 first xs ≡ take c.first c.slots
  before = let none : first - 0 ≡ first = omega arith in ap (λ n. take n xs) none ∙ (λ i. take (begun i) (same i))

  pub behind_all : (n count : ℕ) → count ≡ length xs → Looked p (gathered (slot_tries p t) (slots_between first count xs)) n a b Nothing
      → Looked p (gathered (slot_tries p t) (drop c.first c.slots)) n a b Nothing
  behind_all n count whole looked = subst (λ ys. Looked p (gathered (slot_tries p t) ys) n a b Nothing) (behind count whole) looked

  pub before_all : (n : ℕ) → Looked p (gathered (slot_tries p t) (slots_between 0 first xs)) n a b Nothing
      → Looked p (gathered (slot_tries p t) (take c.first c.slots)) n a b Nothing
  before_all n looked = subst (λ ys. Looked p (gathered (slot_tries p t) ys) n a b Nothing) before looked

  pub behind_looks : (count : ℕ) → count ≡ length xs → looks_in p (slots_between first count xs) ≡ looks_in p (drop c.first c.slots)
  behind_looks count whole = ap (looks_in p) (behind count whole)

  pub before_looks : looks_in p (slots_between 0 first xs) ≡ looks_in p (take c.first c.slots)
  before_looks = ap (looks_in p) before

  pub behind_lost : (object count : ℕ) → count ≡ length xs → Looked p (gathered (slot_tries p t) (slots_between first count xs)) 0 a b (Contended object)
      → Looked p (gathered (slot_tries p t) (drop c.first c.slots)) 0 a b (Contended object)
  behind_lost object count whole looked = subst (λ ys. Looked p (gathered (slot_tries p t) ys) 0 a b (Contended object)) (behind count whole) looked

  pub before_lost : (object : ℕ) → Looked p (gathered (slot_tries p t) (slots_between 0 first xs)) 0 a b (Contended object)
      → Looked p (gathered (slot_tries p t) (take c.first c.slots)) 0 a b (Contended object)
  before_lost object looked = subst (λ ys. Looked p (gathered (slot_tries p t) ys) 0 a b (Contended object)) before looked

-- ---- the core as it is after its passes

-- a list has taken one more
pub room_taken : (cap cap' : ℕ) (xs ys : List Stamped) (s : Stamped) → 0 < cap - length xs → cap' ≡ cap → ys ≡ xs ++ s ∷ [] → cap - length xs ≡ suc (cap' - length ys)
room_taken cap cap' xs ys s some same is = let more : length ys ≡ length xs + 1 = ap length is ∙ length_push xs s in omega arith

abbrev core_with : (number first cap : ℕ) → List Slot → List Stamped → CoreState
core_with number first cap slots trace = record { number = number; slots = slots; first = first; trace = trace; room = cap - length trace }

-- the slots are the same, and so is the trace
pub same_core : (number first cap cap' : ℕ) (slots slots' : List Slot) (trace trace' : List Stamped) → slots' ≡ slots → trace' ≡ trace → cap' ≡ cap → core_with number first cap' slots' trace' ≡ core_with number first cap slots trace
same_core number first cap cap' slots slots' trace trace' same kept wide i = core_with number first (wide i) (same i) (kept i)
