-- The entry of what an actor asks for may follow, and its object stands for it.
use Rattle.std.proofs.Common.{◌≡◌, ℕ, ℤ, Bool, true, false, ◌&&◌, not, refl, sym, ◌∙◌, ap, subst, List, ◌∷◌, set, Option, Some, None}
use Rattle.std.specs.Prelude.{unwrap_or}
use Rattle.bus_semantics.specs.Common.{and_from, false≢true, same_Some, ActKey, same_number, Plan, Runnable, Wanted, to_end, wanted_by, History, Noted, Past, last_started, needs_event, note}
use Rattle.bus_semantics.specs.Common.{noted, object_of, touched, entries_of, fits, wish_fits, next_wish, is_held_back, is_this, follows_program, Answers, MayFollow, asks_its_own, event_of}
use Rattle.bus_semantics.specs.Common.{noted_for, MayCome, IsSound, next_of_activity}
use Rattle.bus_laws.specs.Common.{Actor, Act, Deed, Entry, Mapping}
use Rattle.bus_semantics.specs.declared.entries.Deed.TheVariants as deed
use Rattle.bus_semantics.proofs.SameWanted.{same_wanted-Decides}
use Rattle.history_laws.specs.Followed.{IsActivation}
use Rattle.history_laws.specs.Running.{GoesOn}
use Rattle.history_laws.proofs.Keys.{wish_runs}
use Rattle.port_objects.specs.declared.object.Object.{Object}
use Rattle.port_objects.specs.Common.{IsTheOne, is_free, IsFree, kept_of, Stands}
use Rattle.trace_objects.specs.Going.{Asks, by_program, by_itself, IsNext, MakesNext}
use Rattle.trace_objects.specs.Standing.{IsTried, ObjectsStand}
use Rattle.trace_objects.proofs.Alone.{with_event}
use Rattle.trace_objects.proofs.Broken.{as_answered}
use Rattle.trace_objects.proofs.Parted as parted
use Rattle.trace_objects.proofs.Spoken.{unbroken}
use Rattle.trace_objects.proofs.Tried.{Facts, IsAsked, Laws, wished, plain, asked, bound_event, free_same}
use Rattle.trace_objects.proofs.TriedEntries.{GoesLaw, WishLaw, EntryLaw, facts_at}

-- an end is by the event of its activation
abbrev pub EndLaw : Type 0
EndLaw = (p : Plan) (m : Mapping) (k : ActKey) (r : Runnable) (event : ℕ) (start : List ℤ) (answers : List Deed) (other : ℕ) → IsActivation p m k r event → next_of_activity p r event start answers ≡ Some (to_end other) → other ≡ event

-- what is answered to a wish without an object
abbrev pub FreeLaw : Type 0
FreeLaw = (p : Plan) (m : Mapping) (a : Actor) (w : Wanted) (d : Deed) (l : Past) → IsSound p m → wish_fits p a w ≡ true → object_of p a w ≡ None → IsFree w d → is_free w ≡ true
    → Answers p l (record { entry = record { actor = a; deed = d }; event = None })

-- the deed of a wish that names no event needs none
unneeded : (w : Wanted) (d : Deed) (n : ℕ) → wanted_by n d ≡ w → event_of w ≡ None → needs_event d ≡ false
unneeded w d n is none = by_needs (needs_event d) refl
  where
    by_needs : (b : Bool) → needs_event d ≡ b → needs_event d ≡ false
    by_needs true bound = absurd (cc (sym (bound_event d n bound) ∙ ap event_of is ∙ none))
    by_needs false free = free

module _ (p : Plan) (m : Mapping) (h : History) (a : Actor) (w : Wanted) (next : IsNext p m h a w) (goes : GoesLaw) where
  going : (k : ActKey) → next_wish p h k ≡ Some w → GoesOn p h k
  going k is = goes p m h k next.sound next.legal (wish_runs p k h w is)

  same : (k : ActKey) (is : next_wish p h k ≡ Some w) → (going k is).wish ≡ w
  same k is = same_Some _ _ (sym (going k is).next ∙ is)

  pub fit_so : wish_fits p a w ≡ true
  fit_so = by_kind next.asks
    where
      by_kind : Asks p h a w → wish_fits p a w ≡ true
      by_kind (by_program k who is free) = ap (λ x. wish_fits p x w) who ∙ subst (λ v. wish_fits p (Act k) v ≡ true) (same k is) (going k is).fits
      by_kind (by_itself fit own none follows) = fit

  pub own_so : asks_its_own p a w ≡ true
  own_so = by_kind next.asks
    where
      by_kind : Asks p h a w → asks_its_own p a w ≡ true
      by_kind (by_program k who is free) = ap (λ x. asks_its_own p x w) who ∙ subst (λ v. asks_its_own p (Act k) v ≡ true) (same k is) (going k is).asked
      by_kind (by_itself fit own none follows) = own

  module _ (wish : WishLaw) (entry : EntryLaw) where
    may_follow : (n : Noted) → MayCome p a w (entries_of p h (touched p a w)) n → MayFollow p h n.entry
    may_follow n comes = by_kind next.asks
      where
        by_kind : Asks p h a w → MayFollow p h n.entry
        by_kind (by_program k who is free) = wish p m h k w n next.sound next.legal is free (subst (λ x. MayCome p x w (entries_of p h (touched p x w)) n) who comes)
        by_kind (by_itself fit own none follows) =
            let free = unneeded w n.entry.deed (unwrap_or n.event 0) comes.wish none in
            entry p m h a w n next.sound next.legal free (follows n.entry.deed (free_same n.entry.deed 0 (unwrap_or n.event 0) free ∙ comes.wish)) comes

    module _ (e : Entry) (may : MayFollow p h e) (who : e.actor ≡ a) (wanted : wanted_by (unwrap_or (event_of w) 0) e.deed ≡ w) where
      abbrev event : Option ℕ
      event = (note h e).event

      tried : IsTried p m h e event
      tried = record { sound = next.sound; legal = next.legal; fit = may.fit; program = may.actor; by = refl }

      laws : Laws p h
      laws = record {
        goes = λ j running. goes p m h j next.sound next.legal running;
        wish = λ j v n is free comes. wish p m h j v n next.sound next.legal is free comes;
        entry = λ b v n free program comes. entry p m h b v n next.sound next.legal free program comes;
      }

      -- the wish is the entry's, with the event that started the activation
      wish_is : w ≡ wanted_by (unwrap_or event 0) e.deed
      wish_is = by_kind next.asks (asked p m h e event tried laws)
        where
          by_kind : Asks p h a w → IsAsked p h event e.actor e.deed → w ≡ wanted_by (unwrap_or event 0) e.deed
          by_kind (by_program k act is free) (wished j other next_is held needs) =
              let key : k ≡ j = cc (sym act ∙ sym who ∙ other) in
              same_Some w (wanted_by (unwrap_or event 0) e.deed) (sym is ∙ subst (λ i. next_wish p h i ≡ Some (wanted_by (unwrap_or event 0) e.deed)) (sym key) next_is)
          by_kind (by_program k act is held) (plain free fit own starts) = sym wanted ∙ free_same e.deed (unwrap_or (event_of w) 0) (unwrap_or event 0) free
          by_kind (by_itself fit own none follows) how =
              sym wanted ∙ free_same e.deed (unwrap_or (event_of w) 0) (unwrap_or event 0) (unneeded w e.deed (unwrap_or (event_of w) 0) wanted none)

      known : Facts p h e event w
      known = facts_at p e event w wish_is goes wish entry m h tried

      makes : (objects : List Object) → ObjectsStand p (e ∷ h) objects → MakesNext p h a w objects e
      makes objects stand = record {
        actor = who;
        wanted = wanted;
        fit = may.fit;
        unbroken = as_answered p h e None may.actor (unbroken p (noted h) (note h e) may.answers);
        stand = stand;
      }

      makes_at : (objects : List Object) (object : ℕ) → Some object ≡ object_of p a w → ObjectsStand p h objects → (new : Object) → IsTheOne p a w (kept_of new) (entries_of p h object) e
          → MakesNext p h a w (set objects object new) e
      makes_at objects object touching stand new one =
          makes (set objects object new)
          (parted.stand_then p m h e event w tried known object (ap (λ x. object_of p x w) who ∙ sym touching) objects stand new
          (subst (λ x. IsTheOne p x w (kept_of new) (entries_of p h object) e) (sym who) one))

      makes_alone : (objects : List Object) → object_of p a w ≡ None → ObjectsStand p h objects → MakesNext p h a w objects e
      makes_alone objects none stand =
          makes objects
          (λ i o is. subst (Stands p i (kept_of o))
          (sym (parted.parted p h e i false (ap (λ v. same_number v (Some i)) (known.touch ∙ ap (λ x. object_of p x w) who ∙ none)))) (stand i o is))

    -- ---- on its object

    pub next_at : (objects : List Object) (object : ℕ) (touching : Some object ≡ object_of p a w) (stand : ObjectsStand p h objects) (new : Object) (e : Entry)
        → IsTheOne p a w (kept_of new) (entries_of p h object) e → MakesNext p h a w (set objects object new) e
    next_at objects object touching stand new e one =
        let number : object ≡ touched p a w = ap (λ o. unwrap_or o 0) touching in
        let comes = subst (λ n. MayCome p a w (entries_of p h n) (noted_for w e)) number one.comes in
        makes_at e (may_follow (noted_for w e) comes) one.comes.actor one.comes.wish objects object touching stand new one

    -- ---- without one

    module _ (d : Deed) (free : is_free w ≡ true) (is : IsFree w d) where
      free_fits : fits p (record { actor = a; deed = d }) ≡ true
      free_fits = by_deed d is.wish
        where
          by_deed : (x : Deed) → wanted_by (unwrap_or (event_of w) 0) x ≡ w → fits p (record { actor = a; deed = x }) ≡ true
          by_deed deed.End wanted = by_kind next.asks
            where
              by_kind : Asks p h a w → fits p (record { actor = a; deed = deed.End }) ≡ true
              by_kind (by_program k who is free) = subst (λ x. fits p (record { actor = x; deed = deed.End }) ≡ true) (sym who) (and_from _ true (going k is).key refl)
              by_kind (by_itself fit own none follows) = absurd (cc (ap event_of wanted ∙ none))
          by_deed (deed.Ask q value code) wanted = and_from _ true (subst (λ v. wish_fits p a v ≡ true) (sym wanted) fit_so) refl
          by_deed (deed.TakeResult q code value) wanted = and_from _ true (subst (λ v. wish_fits p a v ≡ true) (sym wanted) fit_so) refl
          by_deed x wanted = absurd (false≢true (ap is_free wanted ∙ free))

      this_one : (k : ActKey) (v : Wanted) → v ≡ w → next_wish p h k ≡ Some w → is_held_back p h k ≡ false → (is_this v (next_wish p h k) && not (is_held_back p h k)) ≡ true
      this_one k v same is held = and_from _ _ (ap (is_this v) (is ∙ ap (λ u. Some u) (sym same)) ∙ (same_wanted-Decides v v).1 refl) (ap not held)

      free_follows : EndLaw → follows_program p h a d ≡ true
      free_follows ends = by_kind next.asks
        where
          by_deed : (k : ActKey) → next_wish p h k ≡ Some w → is_held_back p h k ≡ false → (x : Deed) → wanted_by (unwrap_or (event_of w) 0) x ≡ w → follows_program p h (Act k) x ≡ true
          by_deed k is held deed.End wanted =
              let other = unwrap_or (event_of w) 0 in
              let g = going k is in
              let active : IsActivation p m k g.runnable g.activation.event = record { sound = next.sound; key = g.key; runnable = g.found; starts = g.own } in
              let own : other ≡ g.activation.event = ends p m k g.runnable g.activation.event g.activation.start g.activation.deeds other active (g.asks.next ∙ ap (λ v. Some v) (same k is ∙ sym wanted)) in
              let started : unwrap_or (last_started k h) 0 ≡ other = ap (λ o. unwrap_or o 0) g.started ∙ sym own in
              this_one k (to_end (unwrap_or (last_started k h) 0)) (ap to_end started ∙ wanted) is held
          by_deed k is held (deed.Ask q value code) wanted = this_one k _ wanted is held
          by_deed k is held (deed.TakeResult q code value) wanted = this_one k _ wanted is held
          by_deed k is held x wanted = absurd (false≢true (ap is_free wanted ∙ free))

          by_kind : Asks p h a w → follows_program p h a d ≡ true
          by_kind (by_program k who next_is held) = ap (λ x. follows_program p h x d) who ∙ by_deed k next_is held d is.wish
          by_kind (by_itself fit own none follows) =
              follows d (free_same d 0 (unwrap_or (event_of w) 0) (unneeded w d (unwrap_or (event_of w) 0) is.wish none) ∙ is.wish)

      pub next_alone : FreeLaw → EndLaw → object_of p a w ≡ None → (objects : List Object) → ObjectsStand p h objects → MakesNext p h a w objects (record { actor = a; deed = d })
      next_alone answers_free ends none objects stand =
          let e : Entry = record { actor = a; deed = d } in
          let answers = with_event p (noted h) a d (unwrap_or (event_of w) 0) (note h e).event (ap is_free is.wish ∙ free) (answers_free p m a w d (noted h) next.sound fit_so none is free) in
          let may : MayFollow p h e = record { fit = free_fits; actor = free_follows ends; answers = answers } in
          makes_alone e may refl is.wish objects none stand
