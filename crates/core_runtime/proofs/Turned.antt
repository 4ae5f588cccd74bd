-- The watch of all cores, after a turn of one.
use Rattle.std.proofs.Common.{◌≡◌, ℕ, zero, suc, ◌+◌, ◌<◌, false, ◌&&◌, if◌then◌else◌, arith, refl, sym, ◌∙◌, ap, subst, List, [], ◌∷◌, ◌++◌, length, length-append, map, set, inl, inr}
use Rattle.std.proofs.Common.{Option, Some, None}
use Rattle.std.specs.Prelude.{unwrap_or, is_none, Vec}
use Rattle.bus_semantics.specs.Common.{Global, slice_get, length-set, same_Some, slice_get_within, Plan, needs_event, Wanted, wanted_by, object_of, touched_by, Try, event_of, noted_for}
use Rattle.bus_semantics.specs.declared.entries.Actor.{Actor}
use Rattle.bus_semantics.specs.declared.entries.Deed.{Deed}
use Rattle.bus_semantics.specs.declared.entries.Deed.TheVariants as deed
use Rattle.bus_semantics.specs.declared.entries.Entry.{Entry}
use Rattle.bus_semantics.specs.declared.entries.Stamped.{Stamped}
use Rattle.port_objects.specs.declared.object.Object.{Object}
use Rattle.port_objects.specs.Benches.{Plain}
use Rattle.task_machine.specs.declared.instr.TaskSet.{TaskSet}
use Rattle.task_slots.specs.declared.slot.Slot.{Slot}
use Rattle.core_turn.specs.Cores.{CoreState}
use Rattle.task_slots.specs.Slots.{Table, table_of, listed_in, events_of_slot}
use Rattle.task_slots.specs.Looking.{MadeAt, event_for}
use Rattle.core_turn.specs.Awake.{AwakeState, Fits, StartsHeld, WaitersHeld}
use Rattle.core_turn.specs.Turning.{StepsApart}
use Rattle.core_runtime.specs.Common.{Seat, tables_of, owners_of, AreBehind, AreSeated, IsWatched, AreWatched, AreWaiting, Touches, IsAfter}
use Rattle.latches.proofs.Places.{Placed, here, there, placed}
use Rattle.core_runtime.proofs.NewNodes.{Last, earlier, last, last_or}
use Rattle.core_runtime.proofs.Stepping.{told_by}

-- a slot that keeps its events
pub events_kept : (slots : List Slot) (at : ℕ) (slot stepped : Slot) → slice_get slots at ≡ Some slot → table_of stepped ≡ table_of slot → map events_of_slot (set slots at stepped) ≡ map events_of_slot slots
events_kept [] at slot stepped found same = absurd (cc found)
events_kept (s ∷ slots) zero slot stepped found same =
    let is : s ≡ slot = same_Some _ _ found in
    ap (λ es. es ∷ map events_of_slot slots) (ap listed_in same ∙ ap events_of_slot (sym is))
events_kept (s ∷ slots) (suc at) slot stepped found same = ap (λ es. events_of_slot s ∷ es) (events_kept slots at slot stepped found same)

-- a core that keeps its events
pub tables_kept : (cores : List CoreState) (n : ℕ) (old new : CoreState) → slice_get cores n ≡ Some old → map events_of_slot new.slots ≡ map events_of_slot old.slots → tables_of (set cores n new) ≡ tables_of cores
tables_kept [] n old new found same = absurd (cc found)
tables_kept (c ∷ cores) zero old new found same =
    let is : c ≡ old = same_Some _ _ found in
    ap (λ es. es ∷ tables_of cores) (same ∙ ap (λ (x : CoreState). map events_of_slot x.slots) (sym is))
tables_kept (c ∷ cores) (suc n) old new found same = ap (λ es. map events_of_slot c.slots ∷ es) (tables_kept cores n old new found same)

-- a slot, and a core, that is of the same owner
pub owners_same : (slots : List Slot) (at : ℕ) (slot stepped : Slot) → slice_get slots at ≡ Some slot → table_of stepped ≡ table_of slot → map table_of (set slots at stepped) ≡ map table_of slots
owners_same [] at slot stepped found same = absurd (cc found)
owners_same (s ∷ slots) zero slot stepped found same =
    let is : s ≡ slot = same_Some _ _ found in
    ap (λ (x : Table). x ∷ map table_of slots) (same ∙ ap table_of (sym is))
owners_same (s ∷ slots) (suc at) slot stepped found same = ap (λ xs. table_of s ∷ xs) (owners_same slots at slot stepped found same)

owners_kept : (cores : List CoreState) (n : ℕ) (old new : CoreState) → slice_get cores n ≡ Some old → map table_of new.slots ≡ map table_of old.slots → owners_of (set cores n new) ≡ owners_of cores
owners_kept [] n old new found same = absurd (cc found)
owners_kept (c ∷ cores) zero old new found same =
    let is : c ≡ old = same_Some _ _ found in
    ap (λ xs. xs ∷ owners_of cores) (same ∙ ap (λ (x : CoreState). map table_of x.slots) (sym is))
owners_kept (c ∷ cores) (suc n) old new found same = ap (λ xs. map table_of c.slots ∷ xs) (owners_kept cores n old new found same)

pub behind_on : (p : Plan) (cores : List CoreState) (n : ℕ) (old turned k : CoreState) → slice_get cores n ≡ Some old → k.slots ≡ turned.slots → map table_of turned.slots ≡ map table_of old.slots → AreBehind p (owners_of cores) → AreBehind p (owners_of (set cores n k))
behind_on p cores n old turned k found slots same behind = subst (AreBehind p) (sym (owners_kept cores n old k found (ap (map table_of) slots ∙ same))) behind

-- one core and its flags
pub watched_put : (p : Plan) (t : TaskSet) (objects : List Object) (cores : List CoreState) (awake : List AwakeState) (n : ℕ) (new : CoreState) (b : AwakeState) → AreWatched p t objects cores awake → IsWatched p t objects new b → AreWatched p t objects (set cores n new) (set awake n b)
watched_put p t objects cores awake n new b watched one = record {
  count = length-set awake n b ∙ watched.count ∙ sym (length-set cores n new);
  each = λ i c a core_is awake_is. of_place i c a (placed cores n new i c core_is) (placed awake n b i a awake_is);
}
  where
    of_place : (i : ℕ) (c : CoreState) (a : AwakeState) → Placed CoreState cores n new i c → Placed AwakeState awake n b i a → IsWatched p t objects c a
    of_place i c a (here at is) (here place same) = subst (λ x. IsWatched p t objects x a) (sym is) (subst (IsWatched p t objects new) (sym same) one)
    of_place i c a (here at is) (there other found) = absurd (other at)
    of_place i c a (there other found) (here place same) = absurd (other place)
    of_place i c a (there other found) (there another is) = watched.each i c a found is

-- a core with the same slots, of which the next turn begins with the same one
pub watched_slots : (p : Plan) (t : TaskSet) (objects : List Object) (c k : CoreState) (a : AwakeState) → k.slots ≡ c.slots → k.first ≡ c.first → Fits c.slots c.first a → StartsHeld p t objects c.slots a → IsWatched p t objects k a
watched_slots p t objects c k a same begins fits starts = record {
  fits = subst (λ n. Fits k.slots n a) (sym begins) (subst (λ xs. Fits xs c.first a) (sym same) fits);
  starts = subst (λ xs. StartsHeld p t objects xs a) (sym same) starts;
}

-- what of one core waits
pub waiting_put : (p : Plan) (t : TaskSet) (objects : List Object) (touched : Option ℕ) (cores : List CoreState) (awake : List AwakeState) (n : ℕ) (new : CoreState) (b : AwakeState) → AreWaiting p t objects touched cores awake → WaitersHeld p t objects touched new.slots b.first b
    → AreWaiting p t objects touched (set cores n new) (set awake n b)
waiting_put p t objects touched cores awake n new b waiting one = λ i c a core_is awake_is. of_place i c a (placed cores n new i c core_is) (placed awake n b i a awake_is)
  where
    of_place : (i : ℕ) (c : CoreState) (a : AwakeState) → Placed CoreState cores n new i c → Placed AwakeState awake n b i a → WaitersHeld p t objects touched c.slots a.first a
    of_place i c a (here at is) (here place same) = subst (λ (x : CoreState). WaitersHeld p t objects touched x.slots a.first a) (sym is) (subst (λ (x : AwakeState). WaitersHeld p t objects touched new.slots x.first x) (sym same) one)
    of_place i c a (here at is) (there other found) = absurd (other at)
    of_place i c a (there other found) (here place same) = absurd (other place)
    of_place i c a (there other found) (there another is) = waiting i c a found is

-- what an entry of a wish touches
pub made_touches : (p : Plan) (a : Actor) (w : Wanted) (n : ℕ) (e : Entry) → e.actor ≡ a → wanted_by (unwrap_or (event_of w) 0) e.deed ≡ w → object_of p a w ≡ Some n → touched_by p (noted_for w e) ≡ Some n
made_touches p a w n e actor wish is =
    let free : (needs_event e.deed && is_none (event_of w)) ≡ false = has_event w e.deed wish in
    ap (λ b. if b then None else object_of p e.actor (wanted_by (unwrap_or (event_of w) 0) e.deed)) free ∙ (λ i. object_of p (actor i) (wish i)) ∙ is
  where
    has_event : (w : Wanted) (d : Deed) → wanted_by (unwrap_or (event_of w) 0) d ≡ w → (needs_event d && is_none (event_of w)) ≡ false
    has_event w (deed.Admit admitted) same = ap (λ v. is_none (event_of v)) (sym same)
    has_event w deed.End same = ap (λ v. is_none (event_of v)) (sym same)
    has_event w d same = refl

-- an entry of a wish that touches no object touches none, whatever event it is by
made_apart : (p : Plan) (a : Actor) (w : Wanted) (e : Entry) → e.actor ≡ a → wanted_by (unwrap_or (event_of w) 0) e.deed ≡ w → object_of p a w ≡ None → touched_by p (record { entry = e; event = None }) ≡ None
made_apart p a w e actor wish is = of_deed e.deed wish
  where
    of_deed : (d : Deed) → wanted_by (unwrap_or (event_of w) 0) d ≡ w → touched_by p (record { entry = record { actor = e.actor; deed = d }; event = None }) ≡ None
    of_deed (deed.Admit admitted) same = refl
    of_deed deed.End same = refl
    of_deed d same = (λ i. object_of p (actor i) (same i)) ∙ is

-- what a step does to the objects
pub after_step : (p : Plan) (t : TaskSet) (old new : CoreState) (before now : Plain) (s : Stamped) → StepsApart p t old new (told_by before) (told_by now) s → IsAfter p before.objects now.objects (record { entry = s.entry; event = s.event })
after_step p t old new before now s steps = of_object (object_of p tried.0 tried.1) refl steps.order.made.entry.event steps.order.made.made
  where
    tried : Try
    tried = steps.order.made.tried

    of_object : (o : Option ℕ) → object_of p steps.order.made.tried.0 steps.order.made.tried.1 ≡ o → s.event ≡ event_for o steps.order.made.tried.1
        → MadeAt p before.objects (Some now.objects) steps.order.made.tried s.entry o → IsAfter p before.objects now.objects (record { entry = s.entry; event = s.event })
    of_object None is event made =
        let none = made_apart p steps.order.made.tried.0 steps.order.made.tried.1 s.entry steps.order.made.entry.actor steps.order.made.entry.wish is in
        inl (subst (λ v. touched_by p (record { entry = s.entry; event = v }) ≡ None) (sym event) none, same_Some _ _ made)
    of_object (Some n) is event made =
        let a = steps.order.made.tried.0 in
        let w = steps.order.made.tried.1 in
        inr (subst (λ v. Touches p before.objects now.objects (record { entry = s.entry; event = v })) (sym event) (record {
          object = n;
          touching = made_touches p a w n s.entry made.made.actor made.made.wish is;
          old = made.before;
          new = made.now;
          found = made.found;
          leads = made.made.leads;
          told = made.made.told;
          heard = made.made.heard;
          others = same_Some _ _ made.others;
        }))

-- what of the cores is watched after a turn of one, and the seats
module _ (p : Plan) (t : TaskSet) (objects : List Object) (cores : List CoreState) (awake : List AwakeState) (seats : List (Vec Seat Global)) (n : ℕ) (old turned k : CoreState) (b : AwakeState)
    (found : slice_get cores n ≡ Some old) (slots : k.slots ≡ turned.slots) (first : k.first ≡ turned.first) (events : map events_of_slot turned.slots ≡ map events_of_slot old.slots) where
  pub awake_on : Fits turned.slots turned.first b → StartsHeld p t objects turned.slots b → AreWatched p t objects cores awake → AreWatched p t objects (set cores n k) (set awake n b)
  awake_on fits starts watched = watched_put p t objects cores awake n k b watched (watched_slots p t objects turned k b slots first fits starts)

  pub waiting_on : (touched : Option ℕ) → WaitersHeld p t objects touched turned.slots b.first b → AreWaiting p t objects touched cores awake → AreWaiting p t objects touched (set cores n k) (set awake n b)
  waiting_on touched held waiting = waiting_put p t objects touched cores awake n k b waiting (subst (λ xs. WaitersHeld p t objects touched xs b.first b) (sym slots) held)

  pub seated_on : AreSeated (tables_of cores) seats → AreSeated (tables_of (set cores n k)) seats
  seated_on seated = subst (λ table. AreSeated table seats) (sym (tables_kept cores n old k found (ap (map events_of_slot) slots ∙ events))) seated

-- ---- new cores

pub none_watched : (p : Plan) (t : TaskSet) (objects : List Object) (awake : List AwakeState) → awake ≡ [] → AreWatched p t objects [] awake
none_watched p t objects awake empty = record { count = ap length empty; each = λ i c a core_is awake_is. absurd (cc core_is) }

pub none_waiting : (p : Plan) (t : TaskSet) (objects : List Object) (awake : List AwakeState) → AreWaiting p t objects None [] awake
none_waiting p t objects awake = λ i c a core_is awake_is. absurd (cc core_is)

module _ (p : Plan) (t : TaskSet) (objects : List Object) (cores : List CoreState) (awake : List AwakeState) (c : CoreState) (a : AwakeState) (watched : AreWatched p t objects cores awake) where
  -- a core and its flags stand at the same place
  data Paired (i : ℕ) (k : CoreState) (b : AwakeState) : Type 0 where
    earlier_pair : slice_get cores i ≡ Some k → slice_get awake i ≡ Some b → Paired i k b
    last_pair : k ≡ c → b ≡ a → Paired i k b

  paired : (i : ℕ) (k : CoreState) (b : AwakeState) → Last CoreState cores c i k → Last AwakeState awake a i b → Paired i k b
  paired i k b (earlier core_is) (earlier awake_is) = earlier_pair core_is awake_is
  paired i k b (earlier core_is) (last at same) = let within : i < length cores = slice_get_within cores i k core_is in absurd (omega (arith, watched.count))
  paired i k b (last at same) (earlier awake_is) = let within : i < length awake = slice_get_within awake i b awake_is in absurd (omega (arith, watched.count))
  paired i k b (last at same) (last place is) = last_pair same is

  pub one_watched : IsWatched p t objects c a → AreWatched p t objects (cores ++ c ∷ []) (awake ++ a ∷ [])
  one_watched one = record {
    count = length-append awake (a ∷ []) ∙ ap (λ n. n + 1) watched.count ∙ sym (length-append cores (c ∷ []));
    each = λ i k b core_is awake_is. of_pair i k b (paired i k b (last_or cores c i k core_is) (last_or awake a i b awake_is));
  }
    where
      of_pair : (i : ℕ) (k : CoreState) (b : AwakeState) → Paired i k b → IsWatched p t objects k b
      of_pair i k b (earlier_pair core_is awake_is) = watched.each i k b core_is awake_is
      of_pair i k b (last_pair same is) = subst (λ x. IsWatched p t objects x b) (sym same) (subst (IsWatched p t objects c) (sym is) one)

  pub one_waiting : WaitersHeld p t objects None c.slots a.first a → AreWaiting p t objects None cores awake → AreWaiting p t objects None (cores ++ c ∷ []) (awake ++ a ∷ [])
  one_waiting one waiting = λ i k b core_is awake_is. of_pair i k b (paired i k b (last_or cores c i k core_is) (last_or awake a i b awake_is))
    where
      of_pair : (i : ℕ) (k : CoreState) (b : AwakeState) → Paired i k b → WaitersHeld p t objects None k.slots b.first b
      of_pair i k b (earlier_pair core_is awake_is) = waiting i k b core_is awake_is
      of_pair i k b (last_pair same is) = subst (λ (x : CoreState). WaitersHeld p t objects None x.slots b.first b) (sym same) (subst (λ (x : AwakeState). WaitersHeld p t objects None c.slots x.first x) (sym is) one)
