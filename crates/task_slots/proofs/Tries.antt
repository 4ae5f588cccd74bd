-- What comes of one wish, from what a bench answers.
use Rattle.std.proofs.Common.{◌≡◌, ℕ, Bool, true, false, ◌||◌, if◌then◌else◌, refl, sym, ◌∙◌, ap, subst, List, [], ◌∷◌, Option, Some, None}
use Rattle.std.specs.Prelude.{unwrap_or, IfSome}
use Rattle.bus_semantics.specs.Common.{eq-eqb, false≢true, same_number, Plan, Wanted, wanted_by, object_of, touched_by, IsObject, answer_fits, is_start, event_of}
use Rattle.bus_laws.specs.Common.{Actor, Deed, Stamped}
use Rattle.bus_semantics.specs.declared.entries.Deed.TheVariants as deed
use Rattle.port_objects.specs.declared.object.Object.{Object}
use Rattle.port_objects.specs.declared.bench.Answered.TheVariants as answered
use Rattle.port_objects.specs.declared.bench.Benched.TheVariants.{Done, NotYet, Contended}
use Rattle.port_objects.specs.Freed as freed
use Rattle.port_objects.specs.Benches.{IsFurther, IsStampedFor, ObjectsAfter, Told, IsAsked, IsActed, IsStamped, stamped_alone, benched, written_last}
use Rattle.task_slots.specs.declared.look.Looks.TheVariants as looks
use Rattle.task_slots.specs.Look as look
use Rattle.task_slots.specs.Look.{look_of}
use Rattle.task_slots.specs.Looking.{IsFree, IsTried, looks_at, event_for, IsAlone, IsEntryOf, EntryOf, IsHeldAt, MadeAt, ObjectsLooked, Looked}
use Rattle.task_slots.proofs.Onward.{work_same, next_still}
use Rattle.task_slots.proofs.Written.{look_as, benched_as}

-- ---- a wish on an object

pub asked_on : (p q : Plan) (a : Actor) (w : Wanted) (object : ℕ) → q ≡ p → object_of p a w ≡ Some object → IsTried p a w → IsAsked q object a w
asked_on p q a w object same touching tried = subst (λ q. IsAsked q object a w) (sym same) (record {
  touching = touching;
  there = subst (λ o. IfSome o (IsObject p)) touching tried.there;
  fits = tried.fits;
  own = tried.own;
})

module _ (p : Plan) (a : Actor) (w : Wanted) (object : ℕ) (touching : object_of p a w ≡ Some object) where
  entry_of : (s : Stamped) → IsStampedFor p a w s → IsEntryOf p a w s
  entry_of s is = record {
    actor = is.actor;
    wish = is.wish;
    answer = is.answer;
    alone = subst (λ o. IsAlone o w s.entry.deed) (sym touching) tt;
    event = is.event ∙ sym (ap (λ o. event_for o w) touching);
  }

  one_look : looks_at (object_of p a w) w ≡ 1
  one_look = ap (λ o. looks_at o w) touching

  done_objects : (s : Stamped) → IsStampedFor p a w s → (old new : Option (List Object)) → ObjectsAfter p object a w old new (Done s) → ObjectsLooked p ((a, w) ∷ []) old new (look.Made s)
  done_objects s is None new after = after
  done_objects s is (Some objects) new after = record {
    before = [];
    tried = (a, w);
    after = [];
    whole = refl;
    held = tt;
    entry = entry_of s is;
    made = subst (MadeAt p objects new (a, w) s.entry) (sym touching) after;
  }

  done_looked : (s : Stamped) (old new : Told) → IsActed p object a w old new (Done s) → Looked p ((a, w) ∷ []) (looks_at (object_of p a w) w) old new (look.Made s)
  done_looked s old new acted = record {
    room = acted.room;
    next = acted.next;
    objects = done_objects s acted.entry old.objects new.objects acted.objects;
    work = acted.work;
    lost = tt;
  }

  -- and this one is the last that was written down
  module _ (made : List Stamped) (s : Stamped) (last : written_last made ≡ Some s) (old new : Told) (acted : IsActed p object a w old new (benched answered.Made made)) where
    done : IsActed p object a w old new (Done s)
    done = subst (IsActed p object a w old new) (benched_as made s last) acted

    pub made_entry : EntryOf p a w (look_of looks.Made made)
    made_entry = subst (EntryOf p a w) (sym (look_as made s last)) (entry_of s done.entry)

    pub made_looked : Looked p ((a, w) ∷ []) (looks_at (object_of p a w) w) old new (look_of looks.Made made)
    made_looked = subst (Looked p ((a, w) ∷ []) (looks_at (object_of p a w) w) old new) (sym (look_as made s last)) (done_looked s old new done)

  held_objects : (shown : _) → (old new : Option (List Object)) → ObjectsAfter p object a w old new (NotYet shown) → ObjectsLooked p ((a, w) ∷ []) old new look.Nothing
  held_objects shown None new after = after
  held_objects shown (Some objects) new after =
      ((subst (IsHeldAt p objects a w) (sym touching) (record { before = after.before; found = after.found; none = after.held.none; flag = after.held.flag }), tt), after.same)

  pub held_looked : (shown : _) (old new : Told) → IsActed p object a w old new (NotYet shown) → Looked p ((a, w) ∷ []) (looks_at (object_of p a w) w) old new look.Nothing
  held_looked shown old new acted = record {
    room = acted.room;
    next = acted.next;
    objects = held_objects shown old.objects new.objects acted.objects;
    work = subst (λ n. IsFurther old.work new.work [] n 0) (sym one_look) acted.work;
    lost = tt;
  }

  lost_objects : (old new : Option (List Object)) → ObjectsAfter p object a w old new Contended → ObjectsLooked p ((a, w) ∷ []) old new (look.Contended object)
  lost_objects None new after = after
  lost_objects (Some objects) new after = after

  pub lost_looked : (old new : Told) → IsActed p object a w old new Contended → Looked p ((a, w) ∷ []) (looks_at (object_of p a w) w) old new (look.Contended object)
  lost_looked old new acted = record {
    room = acted.room;
    next = acted.next;
    objects = lost_objects old.objects new.objects acted.objects;
    work = acted.work;
    lost = ap (λ o. same_number o (Some object) || false) touching ∙ ap (λ b. b || false) (eq-eqb object object refl);
  }

-- ---- a wish that touches nothing

-- an end, an ask and a result name nothing that would have to fit
free_fits : (p : Plan) (a : Actor) (d : Deed) (by : ℕ) → freed.is_free (wanted_by by d) ≡ true → answer_fits p a d ≡ true
free_fits p a deed.End by free = refl
free_fits p a (deed.Ask q value code) by free = refl
free_fits p a (deed.TakeResult q code value) by free = refl
free_fits p a d by free = absurd (false≢true free)

module _ (p : Plan) (a : Actor) (w : Wanted) (touching : object_of p a w ≡ None) where
  pub free_touches : (d : Deed) → freed.is_free w ≡ true → freed.IsFree w d → touched_by p (record { entry = record { actor = a; deed = d }; event = None }) ≡ None
  free_touches d free is = of_deed d (ap freed.is_free is.wish ∙ free) is.wish
    where
      of_deed : (d : Deed) → freed.is_free (wanted_by (unwrap_or (event_of w) 0) d) ≡ true → wanted_by (unwrap_or (event_of w) 0) d ≡ w → touched_by p (record { entry = record { actor = a; deed = d }; event = None }) ≡ None
      of_deed deed.End free wish = refl
      of_deed (deed.Ask q value code) free wish = ap (object_of p a) wish ∙ touching
      of_deed (deed.TakeResult q code value) free wish = ap (object_of p a) wish ∙ touching
      of_deed d free wish = absurd (false≢true free)

  free_entry : (stamp : ℕ) (d : Deed) → freed.is_free w ≡ true → freed.IsFree w d → IsEntryOf p a w (stamped_alone stamp (record { actor = a; deed = d }))
  free_entry stamp d free is = record {
    actor = refl;
    wish = is.wish;
    answer = free_fits p a d (unwrap_or (event_of w) 0) (ap freed.is_free is.wish ∙ free);
    alone = subst (λ o. IsAlone o w d) (sym touching) (free, is.codes);
    event = sym (ap (λ o. event_for o w) touching);
  }

  free_objects : (stamp : ℕ) (d : Deed) → freed.is_free w ≡ true → freed.IsFree w d → (old new : Option (List Object)) → new ≡ old
      → ObjectsLooked p ((a, w) ∷ []) old new (look.Made (stamped_alone stamp (record { actor = a; deed = d })))
  free_objects stamp d free is None new same = same
  free_objects stamp d free is (Some objects) new same = record {
    before = [];
    tried = (a, w);
    after = [];
    whole = refl;
    held = tt;
    entry = free_entry stamp d free is;
    made = subst (MadeAt p objects new (a, w) (record { actor = a; deed = d })) (sym touching) same;
  }

  free_looked : (stamp : ℕ) (d : Deed) (old new : Told) → freed.is_free w ≡ true → freed.IsFree w d → IsStamped old new (stamped_alone stamp (record { actor = a; deed = d }))
      → Looked p ((a, w) ∷ []) (looks_at None w) old new (look.Made (stamped_alone stamp (record { actor = a; deed = d })))
  free_looked stamp d old new free is stamped = record {
    room = stamped.room;
    next = stamped.next;
    objects = free_objects stamp d free is old.objects new.objects stamped.objects;
    work = stamped.work;
    lost = tt;
  }

  -- and this one is the last that was written down
  module _ (made : List Stamped) (stamp : ℕ) (d : Deed) (last : written_last made ≡ Some (stamped_alone stamp (record { actor = a; deed = d }))) (free : freed.is_free w ≡ true) (is : freed.IsFree w d) where
    pub alone_entry : EntryOf p a w (look_of looks.Made made)
    alone_entry = subst (EntryOf p a w) (sym (look_as made _ last)) (free_entry stamp d free is)

    pub alone_made : (old new : Told) → IsStamped old new (stamped_alone stamp (record { actor = a; deed = d })) → Looked p ((a, w) ∷ []) (looks_at None w) old new (look_of looks.Made made)
    alone_made old new stamped = subst (Looked p ((a, w) ∷ []) (looks_at None w) old new) (sym (look_as made _ last)) (free_looked stamp d old new free is stamped)

  -- a start that touches nothing is held without a look
  pub alone_start : IsFree (object_of p a w) w → freed.is_free w ≡ false → is_start w ≡ true
  alone_start tried never = of_test (freed.is_free w) never (subst (λ o. IsFree o w) touching tried)
    where
      of_test : (b : Bool) → b ≡ false → (b || is_start w) ≡ true → is_start w ≡ true
      of_test true never e = absurd (false≢true (sym never))
      of_test false never e = e

  alone_objects : is_start w ≡ true → (old : Option (List Object)) → ObjectsLooked p ((a, w) ∷ []) old old look.Nothing
  alone_objects starts None = refl
  alone_objects starts (Some objects) = ((subst (IsHeldAt p objects a w) (sym touching) starts, tt), refl)

  pub alone_looked : (old : Told) → is_start w ≡ true → Looked p ((a, w) ∷ []) (looks_at None w) old old look.Nothing
  alone_looked old starts = record {
    room = refl;
    next = next_still old.next;
    objects = alone_objects starts old.objects;
    work = subst (λ n. IsFurther old.work old.work [] n 0) (sym (ap (λ b. if b then 0 else 1) starts)) (work_same old.work);
    lost = tt;
  }
