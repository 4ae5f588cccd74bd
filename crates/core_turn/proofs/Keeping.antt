-- The entry of a turn keeps cores and objects lawful.
use Rattle.std.proofs.Common.{◌≡◌, ◌≢◌, ◌⊎◌, inl, inr, ℕ, Bool, true, false, ◌&&◌, not, if◌then◌else◌, refl, sym, ◌∙◌, ap, subst, List, ◌∷◌, length, set, Option, Some, None}
use Rattle.bus_semantics.specs.Common.{length-set, slice_get, and_parts, eq-eqb, eqb-true, false≢true, ne_eqb, same_Some, ActKey, same_number, Plan, Wanted, to_admit, to_end, wanted_by}
use Rattle.bus_semantics.specs.Common.{same_wanted, History, Noted, Past, needs_event, started_before, note, last_started, runs, object_of, touched_by, touches, entries_of, touched}
use Rattle.bus_semantics.specs.Common.{wish_fits, answer_fits, activation_fits, fits, next_wish, is_held_back, is_this, starts_or_goes_on, follows_program, MayFollow, starts_its_own}
use Rattle.bus_semantics.specs.Common.{asks_its_own, event_of, noted_for, MayCome}
use Rattle.std.specs.Prelude.{is_none, unwrap_or}
use Rattle.bus_laws.specs.Common.{Actor, Env, Machine, Act, Deed, Entry, Stamped, Mapping}
use Rattle.bus_semantics.specs.declared.entries.Deed.TheVariants as deed
use Rattle.history_laws.specs.Running.{GoesOn}
use Rattle.history_laws.proofs.Keys.{wish_runs}
use Rattle.port_objects.specs.declared.object.Object.{Object}
use Rattle.port_objects.specs.Common.{kept_of, Stands, MayAsk, IsTheOne, IsMade, MadeOn, Told}
use Rattle.task_machine.specs.declared.instr.TaskSet.{TaskSet}
use Rattle.task_slots.specs.declared.slot.Slot.{Slot}
use Rattle.task_slots.specs.declared.slot.Slot.TheVariants as of
use Rattle.task_slots.specs.Slots.{events_of_slot, is_key_of}
use Rattle.task_slots.specs.Ready.{IsReadySlot}
use Rattle.task_slots.specs.Standing.{SlotStands}
use Rattle.task_slots.specs.Looking.{event_for, IsEntryOf, MadeAt}
use Rattle.task_slots.specs.Stepping.{noting_of, IsApart, IsOwn, StepFollows}
use Rattle.task_slots.proofs.Histories.{free_same, bound_event}
use Rattle.latches.proofs.Places.{Placed, here, there, placed}
use Rattle.object_kinds.proofs.Lists.{set_same}
use Rattle.task_slots.proofs.Changing.{other_stands}
use Rattle.core_turn.specs.Cores.{CoreState}
use Rattle.core_turn.specs.Ready.{IsReady}
use Rattle.core_turn.specs.Standing.{CoreStands}
use Rattle.core_turn.specs.Turning.{FirstInOrder, OrderTold, StepsApart, NoneTold, NothingComes}
use Rattle.core_turn.specs.Lawful.{IsLawful}
use Rattle.core_turn.proofs.Apart.{cores_apart, other_entry}

-- ---- what an entry touches, by the event with which it was stamped

pub stamped_touches : (p : Plan) (s : Stamped) (a : Actor) (w : Wanted) → IsEntryOf p a w s → touched_by p (noting_of s) ≡ object_of p a w
stamped_touches p s a w entry = by_needs (needs_event s.entry.deed) refl
  where
    by_object : needs_event s.entry.deed ≡ true → (o : Option ℕ) → object_of p a w ≡ o → touched_by p (noting_of s) ≡ object_of p a w
    by_object bound None touching =
        let none : s.event ≡ None = entry.event ∙ ap (λ o. event_for o w) touching in
        (λ i. if bound i && is_none (none i) then None else object_of p s.entry.actor (wanted_by (unwrap_or s.event 0) s.entry.deed)) ∙ sym touching
    by_object bound (Some object) touching =
        let named : s.event ≡ Some (unwrap_or (event_of w) 0) = entry.event ∙ ap (λ o. event_for o w) touching ∙ ap event_of (sym entry.wish) ∙ bound_event s.entry.deed (unwrap_or (event_of w) 0) bound in
        (λ i. if bound i && is_none (named i) then None else object_of p (entry.actor i) (wanted_by (unwrap_or (named i) 0) s.entry.deed)) ∙ ap (object_of p a) entry.wish

    by_needs : (b : Bool) → needs_event s.entry.deed ≡ b → touched_by p (noting_of s) ≡ object_of p a w
    by_needs true bound = by_object bound (object_of p a w) refl
    by_needs false free =
        (λ i. if free i && is_none s.event then None else object_of p (entry.actor i) (free_same s.entry.deed (unwrap_or s.event 0) (unwrap_or (event_of w) 0) free i)) ∙ ap (object_of p a) entry.wish

own_asked : (p : Plan) (a : Actor) (d : Deed) (by : ℕ) → needs_event d ≡ false → starts_its_own p a d ≡ true → asks_its_own p a (wanted_by by d) ≡ true
own_asked p Env d by free own = refl
own_asked p (Machine n) d by free own = refl
own_asked p (Act k) (deed.Start event point value) by free own = own
own_asked p (Act k) (deed.Admit admitted) by free own = absurd (false≢true (sym free))
own_asked p (Act k) deed.End by free own = absurd (false≢true (sym free))
own_asked p (Act k) d by free own = refl

-- an Admit or End that follows its program is what its activation wants next
pub rule_next : (p : Plan) (h : History) (k : ActKey) (d : Deed) (n : ℕ) → needs_event d ≡ true → starts_or_goes_on p h k d ≡ true → last_started k h ≡ Some n → next_wish p h k ≡ Some (wanted_by n d)
rule_next p h k d n bound rule last = by_next (next_wish p h k) (ap (λ o. is_this (wanted_by (unwrap_or o 0) d) (next_wish p h k)) (sym last) ∙ wanted d bound rule)
  where
    wanted : (d : Deed) → needs_event d ≡ true → starts_or_goes_on p h k d ≡ true → is_this (wanted_by (unwrap_or (last_started k h) 0) d) (next_wish p h k) ≡ true
    wanted (deed.Admit admitted) bound rule = rule
    wanted deed.End bound rule = rule
    wanted d bound rule = absurd (false≢true bound)

    same_admit : (v : Wanted) → same_wanted (to_admit n) v ≡ true → v ≡ to_admit n
    same_admit (to_admit x) is = ap to_admit (sym (eqb-true n x is))
    same_admit v is = absurd (false≢true is)

    same_end : (v : Wanted) → same_wanted (to_end n) v ≡ true → v ≡ to_end n
    same_end (to_end x) is = ap to_end (sym (eqb-true n x is))
    same_end v is = absurd (false≢true is)

    same_bound : (d : Deed) (v : Wanted) → needs_event d ≡ true → same_wanted (wanted_by n d) v ≡ true → v ≡ wanted_by n d
    same_bound (deed.Admit admitted) v bound is = same_admit v is
    same_bound deed.End v bound is = same_end v is
    same_bound d v bound is = absurd (false≢true bound)

    by_next : (o : Option Wanted) → is_this (wanted_by n d) o ≡ true → o ≡ Some (wanted_by n d)
    by_next None is = absurd (false≢true is)
    by_next (Some v) is = ap (λ v. Some v) (same_bound d v bound is)

-- ---- another core

-- it stands for an entry of this one too
pub stands_beside : (p : Plan) (m : Mapping) (t : TaskSet) (g : History) (one other : CoreState) (at : ℕ) (slot : Slot) (e : Entry) → IsReady p m t one → IsReady p m t other → one.number ≢ other.number
    → slice_get one.slots at ≡ Some slot → IsOwn p slot e.actor → CoreStands p t g other → CoreStands p t (e ∷ g) other
stands_beside p m t g one other at slot e ready beside differ at_slot own stands n x found = of_slot x found (beside.each n x found) (stands n x found)
  where
    of_slot : (x : Slot) → slice_get other.slots n ≡ Some x → IsReadySlot p t x → SlotStands p t g x → SlotStands p t (e ∷ g) x
    of_slot (of.Machine k) found ready_it stands_it = tt
    of_slot (of.Task y) found ready_it stands_it =
        let foreign : (k : ActKey) → is_key_of p (events_of_slot slot) k ≡ true → is_key_of p y.events.items k ≡ false = λ k mine. cores_apart p m ready.sound one other k at n slot (of.Task y) ready.has beside.has differ at_slot mine found in
        other_stands p t g y.events.items y.frame y.inner e y.activity (other_entry p slot e.actor y.events.items own foreign) ready_it.active stands_it

-- ---- a turn

module _ (p : Plan) (m : Mapping) (t : TaskSet) (cores : List CoreState) (i : ℕ) (old new : CoreState) (objects after : List Object) (before now : Told) (s : Stamped) (h : History)
    (lawful : IsLawful p m t cores objects h) (is : slice_get cores i ≡ Some old) (ready : IsReady p m t new) (steps : StepsApart p t old new before now s)
    (goes_on : (k : ActKey) → runs k h ≡ true → GoesOn p h k)
    (made_one : (a : Actor) (w : Wanted) (x y : Object) (l : Past) (e : Entry) → object_of p a w ≡ Some (touched p a w) → MayAsk p m a w (kept_of x) l → IsMade p (touched p a w) a w x y e → IsTheOne p a w (kept_of y) l e)
    (wish_follow : (k : ActKey) (w : Wanted) (n : Noted) → next_wish p h k ≡ Some w → is_held_back p h k ≡ false → MayCome p (Act k) w (entries_of p h (touched p (Act k) w)) n → MayFollow p h n.entry)
    (may_follow : (a : Actor) (w : Wanted) (n : Noted) → needs_event n.entry.deed ≡ false → follows_program p h a n.entry.deed ≡ true → MayCome p a w (entries_of p h (touched p a w)) n → MayFollow p h n.entry) where
  old_ready : IsReady p m t old
  old_ready = lawful.ready i old is

  follows : StepFollows p t h steps.stepped s
  follows = steps.step.follows h (lawful.stands i old is steps.at steps.slot steps.there)

  -- ---- the cores

  other_core : (j : ℕ) (c : CoreState) → j ≢ i → slice_get cores j ≡ Some c → CoreStands p t (s.entry ∷ h) c
  other_core j c other found = stands_beside p m t h old c steps.at steps.slot s.entry old_ready (lawful.ready j c found) differ steps.there steps.step.own (lawful.stands j c found)
    where
      differ : old.number ≢ c.number
      differ e = other (sym (sym (lawful.number i old is) ∙ e ∙ lawful.number j c found))

  cores_stand : (j : ℕ) (c : CoreState) → Placed CoreState cores i new j c → CoreStands p t (s.entry ∷ h) c
  cores_stand j c (here place same) = subst (CoreStands p t (s.entry ∷ h)) (sym same) (steps.stands h (lawful.stands i old is))
  cores_stand j c (there other found) = other_core j c other found

  cores_ready : (j : ℕ) (c : CoreState) → Placed CoreState cores i new j c → IsReady p m t c
  cores_ready j c (here place same) = subst (IsReady p m t) (sym same) ready
  cores_ready j c (there other found) = lawful.ready j c found

  cores_numbered : (j : ℕ) (c : CoreState) → Placed CoreState cores i new j c → c.number ≡ j
  cores_numbered j c (here place same) = ap (λ (x : CoreState). x.number) same ∙ steps.number ∙ lawful.number i old is ∙ sym place
  cores_numbered j c (there other found) = lawful.number j c found

  -- ---- the entry and the objects

  record Kept : Type 0 where
    may : MayFollow p h s.entry
    count : length after ≡ length objects
    stand : (j : ℕ) (o : Object) → slice_get after j ≡ Some o → Stands p j (kept_of o) (entries_of p (s.entry ∷ h) j)

  -- the entries of an object with this one
  parted : (j : ℕ) (b : Bool) → touches p j (note h s.entry) ≡ b → entries_of p (s.entry ∷ h) j ≡ (if b then note h s.entry ∷ entries_of p h j else entries_of p h j)
  parted j b is = ap (λ v. if v then note h s.entry ∷ entries_of p h j else entries_of p h j) is

  untouched : (a : Actor) (w : Wanted) → IsEntryOf p a w s → object_of p a w ≡ None → after ≡ objects → Kept
  untouched a w entry none same = record {
    may = record { fit = (and_parts (fits p s.entry) (starts_its_own p s.entry.actor s.entry.deed) steps.step.proper).0; actor = follows.rule; answers = follows.free touching };
    count = ap length same;
    stand = λ j o found. subst (Stands p j (kept_of o)) (sym (parted j false (ap (λ x. same_number x (Some j)) touching))) (lawful.stand j o (subst (λ os. slice_get os j ≡ Some o) same found));
  }
    where
      by_noting : (note h s.entry ≡ noting_of s) ⊎ IsApart p h s → touched_by p (note h s.entry) ≡ None
      by_noting (inl named) = ap (touched_by p) named ∙ stamped_touches p s a w entry ∙ none
      by_noting (inr apart) = apart.named

      touching : touched_by p (note h s.entry) ≡ None
      touching = by_noting follows.noting

  module _ (a : Actor) (w : Wanted) (object : ℕ) (entry : IsEntryOf p a w s) (touching : object_of p a w ≡ Some object) where
    -- it came with the event of its activation
    named : note h s.entry ≡ noting_of s
    named = by_noting follows.noting
      where
        by_noting : (note h s.entry ≡ noting_of s) ⊎ IsApart p h s → note h s.entry ≡ noting_of s
        by_noting (inl same) = same
        by_noting (inr apart) = absurd (cc (sym apart.stamped ∙ stamped_touches p s a w entry ∙ touching))

    stamp : s.event ≡ event_of w
    stamp = entry.event ∙ ap (λ o. event_for o w) touching

    noted_same : noted_for w s.entry ≡ note h s.entry
    noted_same = (λ j. record { entry = s.entry; event = sym stamp j }) ∙ sym named

    touched_note : touched_by p (note h s.entry) ≡ Some object
    touched_note = ap (touched_by p) named ∙ stamped_touches p s a w entry ∙ touching

    number : touched p a w ≡ object
    number = ap (λ o. unwrap_or o 0) touching

    proper_parts : (fits p s.entry ≡ true) × (starts_its_own p s.entry.actor s.entry.deed ≡ true)
    proper_parts = and_parts (fits p s.entry) (starts_its_own p s.entry.actor s.entry.deed) steps.step.proper

    -- ---- an entry that names its event

    module _ (bound : needs_event s.entry.deed ≡ true) where
      record Maker : Type 0 where
        key : ActKey
        is_it : a ≡ Act key

      maker : Maker
      maker = of_actor a (sym (ap (activation_fits p) entry.actor) ∙ sym (ap (λ b. if b then activation_fits p s.entry.actor else wish_fits p s.entry.actor (wanted_by 0 s.entry.deed)) bound) ∙ (and_parts _ (answer_fits p s.entry.actor s.entry.deed) proper_parts.0).0) refl
        where
          of_actor : (b : Actor) → activation_fits p b ≡ true → a ≡ b → Maker
          of_actor Env fit same = absurd (false≢true fit)
          of_actor (Machine n) fit same = absurd (false≢true fit)
          of_actor (Act k) fit same = record { key = k; is_it = same }

      maker_is : s.entry.actor ≡ Act maker.key
      maker_is = entry.actor ∙ maker.is_it

      started : last_started maker.key h ≡ Some (unwrap_or (event_of w) 0)
      started =
          ap (λ b. started_before b h) (sym maker_is) ∙ ap (λ b. if b then started_before s.entry.actor h else None) (sym bound)
          ∙ ap (λ (n : Noted). n.event) named ∙ stamp ∙ ap event_of (sym entry.wish) ∙ bound_event s.entry.deed (unwrap_or (event_of w) 0) bound

      rule_parts : (starts_or_goes_on p h maker.key s.entry.deed ≡ true) × (not (is_held_back p h maker.key) ≡ true)
      rule_parts = and_parts (starts_or_goes_on p h maker.key s.entry.deed) (not (is_held_back p h maker.key)) (subst (λ b. follows_program p h b s.entry.deed ≡ true) maker_is follows.rule)

      not_held : is_held_back p h maker.key ≡ false
      not_held = is_false (is_held_back p h maker.key) rule_parts.1
        where
          is_false : (b : Bool) → not b ≡ true → b ≡ false
          is_false false same = refl
          is_false true same = absurd (false≢true same)

      next : next_wish p h maker.key ≡ Some w
      next = rule_next p h maker.key s.entry.deed (unwrap_or (event_of w) 0) bound rule_parts.0 started ∙ ap (λ v. Some v) entry.wish

      -- the wish is that of a running activation
      wish_is : GoesOn p h maker.key
      wish_is = goes_on maker.key (wish_runs p maker.key h w next)

      same_wish : wish_is.wish ≡ w
      same_wish = same_Some _ _ (sym wish_is.next ∙ next)

    -- ---- what is asked of the object

    fits_own : (wish_fits p a w ≡ true) × (asks_its_own p a w ≡ true)
    fits_own = by_needs (needs_event s.entry.deed) refl
      where
        by_needs : (b : Bool) → needs_event s.entry.deed ≡ b → (wish_fits p a w ≡ true) × (asks_its_own p a w ≡ true)
        by_needs true bound =
            let g = wish_is bound in
            let same = same_wish bound in
            let who = (maker bound).is_it in
            (ap (λ b. wish_fits p b w) who ∙ ap (wish_fits p (Act (maker bound).key)) (sym same) ∙ g.fits, ap (λ b. asks_its_own p b w) who ∙ ap (asks_its_own p (Act (maker bound).key)) (sym same) ∙ g.asked)
        by_needs false free =
            let wish : wanted_by 0 s.entry.deed ≡ w = free_same s.entry.deed 0 (unwrap_or (event_of w) 0) free ∙ entry.wish in
            let fit : (if needs_event s.entry.deed then activation_fits p s.entry.actor else wish_fits p s.entry.actor (wanted_by 0 s.entry.deed)) ≡ true = (and_parts _ (answer_fits p s.entry.actor s.entry.deed) proper_parts.0).0 in
            let plain : wish_fits p s.entry.actor (wanted_by 0 s.entry.deed) ≡ true = sym (ap (λ b. if b then activation_fits p s.entry.actor else wish_fits p s.entry.actor (wanted_by 0 s.entry.deed)) free) ∙ fit in (
              (λ j. wish_fits p (sym entry.actor j) (sym wish j)) ∙ plain,
              subst (λ v. asks_its_own p a v ≡ true) wish (own_asked p a s.entry.deed 0 free (subst (λ b. starts_its_own p b s.entry.deed ≡ true) entry.actor proper_parts.1)),
            )

    asked_on : (k : Object) → Stands p object (kept_of k) (entries_of p h object) → MayAsk p m a w (kept_of k) (entries_of p h object)
    asked_on k stands = record {
      sound = old_ready.sound;
      fits = fits_own.0;
      own = fits_own.1;
      stands = subst (λ n. Stands p n (kept_of k) (entries_of p h object)) (sym number) stands;
    }

    follows_legally : MayCome p a w (entries_of p h (touched p a w)) (noted_for w s.entry) → MayFollow p h s.entry
    follows_legally comes = by_needs (needs_event s.entry.deed) refl
      where
        by_needs : (b : Bool) → needs_event s.entry.deed ≡ b → MayFollow p h s.entry
        by_needs true bound =
            wish_follow (maker bound).key w (noted_for w s.entry) (next bound) (not_held bound) (subst (λ b. MayCome p b w (entries_of p h (touched p b w)) (noted_for w s.entry)) (maker bound).is_it comes)
        by_needs false free = may_follow a w (noted_for w s.entry) free (subst (λ b. follows_program p h b s.entry.deed ≡ true) entry.actor follows.rule) comes

    changed : MadeOn p object a w objects (Some after) s.entry → Kept
    changed made =
        let one = made_one a w made.before made.now (entries_of p h object) s.entry (touching ∙ ap (λ n. Some n) (sym number)) (asked_on made.before (lawful.stand object made.before made.found))
        (subst (λ n. IsMade p n a w made.before made.now s.entry) (sym number) made.made) in
        let comes : MayCome p a w (entries_of p h (touched p a w)) (noted_for w s.entry) = subst (λ n. MayCome p a w (entries_of p h n) (noted_for w s.entry)) (sym number) one.comes in
        let standing : Stands p object (kept_of made.now) (note h s.entry ∷ entries_of p h object) =
        subst (λ n. Stands p n (kept_of made.now) (note h s.entry ∷ entries_of p h object)) number (subst (λ x. Stands p (touched p a w) (kept_of made.now) (x ∷ entries_of p h object)) noted_same one.stands) in
        record {
          may = follows_legally comes;
          count = ap length (same_Some _ _ made.others) ∙ length-set objects object made.now;
          stand = λ j o found. of_place made.now standing j o (placed objects object made.now j o (subst (λ (os : List Object). slice_get os j ≡ Some o) (same_Some _ _ made.others) found));
        }
      where
        touches_at : (j : ℕ) → touches p j (note h s.entry) ≡ same_number (Some object) (Some j)
        touches_at j = ap (λ o. same_number o (Some j)) touched_note

        of_place : (now_is : Object) → Stands p object (kept_of now_is) (note h s.entry ∷ entries_of p h object) → (j : ℕ) (o : Object) → Placed Object objects object now_is j o → Stands p j (kept_of o) (entries_of p (s.entry ∷ h) j)
        of_place now_is standing j o (here place same) =
            let touch : touches p j (note h s.entry) ≡ true = touches_at j ∙ eq-eqb object j (sym place) in
            subst (Stands p j (kept_of o)) (sym (parted j true touch))
            (subst (λ n. Stands p n (kept_of o) (note h s.entry ∷ entries_of p h n)) (sym place) (subst (λ x. Stands p object (kept_of x) (note h s.entry ∷ entries_of p h object)) (sym same) standing))
        of_place now_is standing j o (there other found) =
            let touch : touches p j (note h s.entry) ≡ false = touches_at j ∙ ne_eqb object j (λ e. other (sym e)) in
            subst (Stands p j (kept_of o)) (sym (parted j false touch)) (lawful.stand j o found)

  kept_by : (a : Actor) (w : Wanted) (o : Option ℕ) → object_of p a w ≡ o → IsEntryOf p a w s → MadeAt p objects (Some after) (a, w) s.entry o → Kept
  kept_by a w None touching entry made = untouched a w entry touching (same_Some _ _ made)
  kept_by a w (Some object) touching entry made = changed a w object entry touching made

  kept : before.objects ≡ Some objects → now.objects ≡ Some after → Kept
  kept told tells =
      let order : FirstInOrder p t old steps.at steps.slot objects (Some after) s =
      subst (λ o. OrderTold p t old steps.at steps.slot (Some objects) o s) tells (subst (λ o. OrderTold p t old steps.at steps.slot o now.objects s) told steps.order) in
      kept_by order.made.tried.0 order.made.tried.1 (object_of p order.made.tried.0 order.made.tried.1) refl order.made.entry order.made.made

  pub keeps_lawful : before.objects ≡ Some objects → now.objects ≡ Some after → IsLawful p m t (set cores i new) after (s.entry ∷ h)
  keeps_lawful told tells =
      let k = kept told tells in
      record {
        legal = (lawful.legal, k.may);
        objects_are = k.count ∙ lawful.objects_are;
        cores_are = length-set cores i new ∙ lawful.cores_are;
        stand = k.stand;
        number = λ j c found. cores_numbered j c (placed cores i new j c found);
        ready = λ j c found. cores_ready j c (placed cores i new j c found);
        stands = λ j c found. cores_stand j c (placed cores i new j c found);
      }

-- ---- a turn without an entry

pub still_lawful : (p : Plan) (m : Mapping) (t : TaskSet) (cores : List CoreState) (i : ℕ) (old new : CoreState) (objects after : List Object) (before now : Told) (h : History)
    → IsLawful p m t cores objects h → slice_get cores i ≡ Some old → before.objects ≡ Some objects → now.objects ≡ Some after → NothingComes p t old new before now
    → IsLawful p m t (set cores i new) after h
still_lawful p m t cores i old new objects after before now h lawful is told tells none =
    let kept = subst (λ o. NoneTold p t old o now.objects) told none.objects in
    let same : after ≡ objects = same_Some _ _ (sym tells ∙ kept.1) in
    let all : set cores i new ≡ cores = ap (set cores i) none.same ∙ set_same cores i old is in
    subst (λ cs. IsLawful p m t cs after h) (sym all) (subst (λ os. IsLawful p m t cores os h) (sym same) lawful)
