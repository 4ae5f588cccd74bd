-- What the environment wishes never has to wait, and what comes of it.
use Rattle.std.proofs.Common.{◌≡◌, ◌<◌, ℕ, false, true, is_some, refl, sym, ◌∙◌, ap, subst, arith, List, [], ◌∷◌, ◌++◌, map, length, slice_get, unwrap_or, Option, Some, None}
use Rattle.std.specs.Prelude.{IfSome}
use Rattle.bus_semantics.specs.Common.{false≢true, same_Some, Plan, Noted, Past, object_of, touched, IsObject, wish_fits, Follows, IsPastOf, IsSound, Wanted, wanted_of, wanted_by, event_of}
use Rattle.bus_laws.specs.Common.{Actor, Env, Deed, Stamped, Wish, Mapping}
use Rattle.history_laws.specs.Coming.{IsAsked, Comes, may_be_held}
use Rattle.object_kinds.specs.declared.acted.Shown.{Shown}
use Rattle.object_kinds.proofs.Options.{then_some}
use Rattle.port_objects.specs.declared.object.Object.{Object}
use Rattle.port_objects.specs.Common.{Kept, lead, leads, kept_of, Stands, Work, IsStamped, stamped_alone, Frees}
use Rattle.port_objects.specs.declared.bench.Benched.TheVariants.{Done, NotYet}
use Rattle.port_objects.specs.Benches as Benches
use Rattle.cross_core_table.specs.declared.views.Opening.{Opening}
use Rattle.cross_core_table.specs.declared.views.View.{View}
use Rattle.cross_core_table.specs.Logs.{plan_in, noted_as, kept_after}
use Rattle.cross_core_table.specs.OpenRounds.{Sitting, told_of}
use Rattle.cross_core_table.specs.Places.{IsHeldAfter, HasMade, KnowsAfter}
use Rattle.core_lanes.proofs.Calls.{never_held, no_event, AnswersLaw, call_made, call_alone}
use Rattle.live_lanes.specs.Calls.{HasCalled, HaveStood}

-- what the laws of objects say

abbrev pub StandLaw : Type 0
StandLaw = (p : Plan) (object : ℕ) (before after : Kept) (l : Past) (n : Noted) → Stands p object before l → lead p object before n ≡ Some after → Stands p object after (n ∷ l)

abbrev pub MissLaw : Type 0
MissLaw = (p : Plan) (m : Mapping) (object : ℕ) (before : Kept) (l : Past) (n : Noted) → IsSound p m → Stands p object before l → Follows p object l n → is_some (lead p object before n) ≡ true

abbrev pub ComeLaw : Type 0
ComeLaw = (p : Plan) (m : Mapping) (a : Actor) (w : Wish) (l : Past) → IsAsked p m a w l → may_be_held (wanted_of w) ≡ false → Comes p a w l

-- along entries that lead on, an object stands for them too
leads_stand : (p : Plan) (o : ℕ) → StandLaw → (first last : Kept) (l ns : Past) → Stands p o first l → leads p o first ns ≡ Some last → Stands p o last (ns ++ l)
leads_stand p o law first last l [] stands e = subst (λ (k : Kept). Stands p o k l) (same_Some _ _ e) stands
leads_stand p o law first last l (n ∷ ns) stands e =
    let t = then_some (λ (k : Kept). lead p o k n) (leads p o first ns) last e in
    law p o t.item last (ns ++ l) n (leads_stand p o law first t.item l ns stands t.is) t.gives

-- the object of the opening, and what its lead gave along these entries
found_after : (k : Opening) (o : ℕ) (l : List Stamped) (last : Kept) → kept_after k o l ≡ Some last
    → (x : Object) × (slice_get k.objects.value.items o ≡ Some x) × (leads (plan_in k) o (kept_of x) (map noted_as l) ≡ Some last)
unfolding kept_after
found_after k o l last e = let t = then_some (λ (x : Object). leads (plan_in k) o (kept_of x) (map noted_as l)) (slice_get k.objects.value.items o) last e in (t.item, t.is, t.gives)

module _ (k : Opening) (m : Mapping) (o : ℕ) (w : Wish) (sound : IsSound (plan_in k) m) (may_want : wish_fits (plan_in k) Env (wanted_of w) ≡ true) (touching : object_of (plan_in k) Env (wanted_of w) ≡ Some o)
    (stand : StandLaw) (miss : MissLaw) (come : ComeLaw) where
  abbrev p : Plan
  p = plan_in k

  at : touched p Env (wanted_of w) ≡ o
  at = ap (λ x. unwrap_or x 0) touching

  -- whatever the object stands for, an entry of the wish leads on from it
  leads_on : (l : Past) (kept : Kept) → Stands p o kept l → ((n : Noted) → n.entry.actor ≡ Env → wanted_by (unwrap_or n.event 0) n.entry.deed ≡ wanted_of w → lead p o kept n ≡ None) → ⊥
  leads_on l kept stands none =
      let come_at = come p m Env w l (record {
        sound = sound;
        fits = may_want;
        own = refl;
        touching = touching ∙ ap (λ n. Some n) (sym at);
        past = subst (λ n. IsPastOf p n l) (sym at) stands.past;
      }) (never_held p (wanted_of w) may_want) in
      let n = come_at.entry in
      let follows : Follows p o l n = subst (λ x. Follows p x l n) at come_at.comes.follows in
      let some : is_some (lead p o kept n) ≡ true = miss p m o kept l n sound stands follows in
      false≢true (sym (ap is_some (none n come_at.comes.actor come_at.comes.wish)) ∙ some)

  -- so no look finds that none may come
  pub never_looks : HaveStood k → (entries : List Stamped) (shown : Shown) → IsHeldAfter k o Env (wanted_of w) entries shown → ⊥
  never_looks stood entries shown held =
      let before = found_after k o entries held.kept held.leads in
      let was = stood o before.0 before.1 in
      leads_on (map noted_as entries ++ was.0) held.kept (leads_stand p o stand (kept_of before.0) held.kept was.0 (map noted_as entries) was.1 before.2) held.none

  -- and the entry that was made is the environment's call
  pub called_on : (old new : View) (s : Stamped) → HasMade p Env (wanted_of w) old new s → HasCalled p (wanted_of w) old.made new.made
  called_on old new s made = record {
    made = s;
    added = ap (λ (v : View). v.made) made.view;
    call = call_made p (wanted_of w) o s may_want touching made.entry;
    wish = subst (λ v. wanted_by (unwrap_or v 0) s.entry.deed ≡ wanted_of w) (no_event p (wanted_of w) may_want) made.entry.wish;
  }

-- so it is of a wish that touches no object
pub called_alone : (p : Plan) (m : Mapping) (w : Wanted) (d : Deed) → IsSound p m → wish_fits p Env w ≡ true → object_of p Env w ≡ None → Frees w (Some d) → AnswersLaw
    → (old new : Sitting) (stamp : ℕ) → IsStamped (told_of old) (told_of new) (stamped_alone stamp (record { actor = Env; deed = d })) → HasCalled p w old.view.made new.view.made
called_alone p m w d sound may_want none frees answers old new stamp stamped = record {
  made = stamped_alone stamp (record { actor = Env; deed = d });
  added = ap (λ (x : Work). x.made) (same_Some _ _ stamped.work.told) ∙ stamped.work.made;
  call = call_alone p m w d sound may_want none frees answers stamp;
  wish = subst (λ v. wanted_by (unwrap_or v 0) d ≡ w) (no_event p w may_want) frees.1.wish;
}

-- ---- by a plan that is the opening's

module _ (k : Opening) (p : Plan) (is : plan_in k ≡ p) (m : Mapping) (o : ℕ) (w : Wish) (sound : IsSound p m) (may_want : wish_fits p Env (wanted_of w) ≡ true) (touching : object_of p Env (wanted_of w) ≡ Some o) where
  sound_in : IsSound (plan_in k) m
  sound_in = subst (λ q. IsSound q m) (sym is) sound

  fits_in : wish_fits (plan_in k) Env (wanted_of w) ≡ true
  fits_in = subst (λ q. wish_fits q Env (wanted_of w) ≡ true) (sym is) may_want

  touching_in : object_of (plan_in k) Env (wanted_of w) ≡ Some o
  touching_in = subst (λ q. object_of q Env (wanted_of w) ≡ Some o) (sym is) touching

  pub asked_in : ((q : Plan) (x : Mapping) (a : Actor) (v : Wanted) → IsSound q x → wish_fits q a v ≡ true → IfSome (object_of q a v) (IsObject q)) → Benches.IsAsked (plan_in k) o Env (wanted_of w)
  asked_in law = record {
    touching = touching_in;
    there = subst (λ v. IfSome v (IsObject (plan_in k))) touching_in (law (plan_in k) m Env (wanted_of w) sound_in fits_in);
    fits = fits_in;
    own = refl;
  }

  pub never_waits : StandLaw → MissLaw → ComeLaw → HaveStood k → (core : ℕ) (before after : View) (shown : Shown) → KnowsAfter k core o Env (wanted_of w) before after (NotYet shown) → ⊥
  never_waits stand miss come stood core before after shown looked = never_looks k m o w sound_in fits_in touching_in stand miss come stood looked.entries shown looked.held

  pub called_then : StandLaw → MissLaw → ComeLaw → (core : ℕ) (before after : View) (s : Stamped) → KnowsAfter k core o Env (wanted_of w) before after (Done s) → HasCalled p (wanted_of w) before.made after.made
  called_then stand miss come core before after s made = subst (λ q. HasCalled q (wanted_of w) before.made after.made) is (called_on k m o w sound_in fits_in touching_in stand miss come before after s made)
