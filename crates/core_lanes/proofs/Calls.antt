-- What the environment may want, and its entries as calls in a round.
use Rattle.std.proofs.Common.{◌≡◌, ◌<◌, ◌+◌, ℕ, Bool, true, false, ◌&&◌, if◌then◌else◌, refl, sym, ◌∙◌, ap, subst, arith, length, Option, Some, None}
use Rattle.std.specs.Prelude.{◌==◌, unwrap_or, not, option_and_then}
use Rattle.bus_semantics.specs.Common.{option_map, option_map_or, slice_get, unsigned_Decides, and_parts, false≢true, none-some, same_number, Plan, look, group_of, home_of, bundle_of}
use Rattle.bus_semantics.specs.Common.{Wanted, to_tick, to_start, to_admit, to_write, to_read, to_send, to_receive, to_ask, to_hear, to_take_result, to_return, to_enter, to_leave, to_switch}
use Rattle.bus_semantics.specs.Common.{to_see_mode, to_move_on, to_end, wanted_by, Past, needs_event, first_machine, object_of, touched_by, wish_fits, answer_fits, activation_fits, fits}
use Rattle.bus_semantics.specs.Common.{is_unqueued, is_queued, holds, Answers, starts_its_own, event_of, IsSound}
use Rattle.bus_laws.specs.Common.{Actor, Env, Deed, Entry, Stamped, ElemPlan, ModePortPlan, Mapping}
use Rattle.bus_semantics.specs.declared.entries.Deed.TheVariants as deed
use Rattle.history_laws.specs.Coming.{may_be_held}
use Rattle.object_kinds.proofs.Members.{group_within}
use Rattle.object_kinds.proofs.Ranges.{sought}
use Rattle.port_objects.specs.Common.{IsStampedFor, stamped_alone, is_free, IsFree, Frees}
use Rattle.task_slots.specs.Stepping.{noting_of}
use Rattle.core_lanes.specs.Calling.{IsCall}
use Rattle.bus_laws.proofs.Thinning.{there_is}

-- ---- what the environment may want

-- nothing that it wants may have to wait
pub never_held : (p : Plan) (w : Wanted) → wish_fits p Env w ≡ true → may_be_held w ≡ false
never_held p (to_start event) may_want = absurd (false≢true may_want)
never_held p (to_admit event) may_want = absurd (false≢true may_want)
never_held p (to_hear q) may_want = absurd (false≢true may_want)
never_held p (to_return code ws) may_want = absurd (false≢true may_want)
never_held p (to_enter x) may_want = absurd (false≢true may_want)
never_held p (to_leave x) may_want = absurd (false≢true may_want)
never_held p to_move_on may_want = absurd (false≢true may_want)
never_held p (to_end event) may_want = absurd (false≢true may_want)
never_held p w may_want = refl

pub no_event : (p : Plan) (w : Wanted) → wish_fits p Env w ≡ true → event_of w ≡ None
no_event p (to_admit event) may_want = absurd (false≢true may_want)
no_event p (to_end event) may_want = absurd (false≢true may_want)
no_event p w may_want = refl

-- its entries need no event
pub eventless : (p : Plan) (w : Wanted) (d : Deed) (by : ℕ) → wish_fits p Env w ≡ true → wanted_by by d ≡ w → needs_event d ≡ false
eventless p w (deed.Admit admitted) by may_want same = absurd (false≢true (subst (λ v. wish_fits p Env v ≡ true) (sym same) may_want))
eventless p w deed.End by may_want same = absurd (false≢true (subst (λ v. wish_fits p Env v ≡ true) (sym same) may_want))
eventless p w d by may_want same = refl

-- ---- a wish that touches no object

module _ (p : Plan) (m : Mapping) (sound : IsSound p m) where
  -- each element of a sound plan is in a bundle
  bundled : (x : ℕ) (test : ElemPlan → Bool) → look p.elements x test false ≡ true → bundle_of p x ≡ None → ⊥
  bundled x test held none =
      let at = sought p.elements x test held in
      let group : group_of p x ≡ Some at.item.group = ap (λ o. option_map_or (λ (e : ElemPlan). Some e.group) o None) at.found in
      let within : at.item.group < length p.groups = group_within p x at.item.group sound.groups group in
      let homes : length p.homes ≡ length p.groups = (unsigned_Decides (length p.homes) (length p.groups)).0 (and_parts (length p.homes == length p.groups) _ sound.bundles).0 in
      let home = there_is p.homes at.item.group (omega arith) in
      let is : bundle_of p x ≡ Some home.0 = ap (option_and_then (home_of p)) group ∙ ap (λ o. option_map_or (λ (b : ℕ). Some b) o None) home.1 in
      cc (sym none ∙ is)

  -- it is an ask or the taking of a result
  pub is_free_one : (w : Wanted) → wish_fits p Env w ≡ true → object_of p Env w ≡ None → is_free w ≡ true
  is_free_one to_tick may_want none = absurd (cc none)
  is_free_one (to_write x ws) may_want none = absurd (bundled x (λ (e : ElemPlan). same_number e.instance None && ((is_unqueued e && e.provided) && holds ws e)) may_want none)
  is_free_one (to_read x) may_want none = absurd (bundled x (λ (e : ElemPlan). same_number e.instance None && (is_unqueued e && not e.provided)) may_want none)
  is_free_one (to_send x ws) may_want none = absurd (bundled x (λ (e : ElemPlan). same_number e.instance None && ((is_queued e && e.provided) && holds ws e)) may_want none)
  is_free_one (to_receive x) may_want none = absurd (bundled x (λ (e : ElemPlan). same_number e.instance None && (is_queued e && not e.provided)) may_want none)
  is_free_one (to_switch n mode) may_want none = absurd (cc none)
  is_free_one (to_see_mode port) may_want none = absurd (machine_found (slice_get p.mode_ports port) may_want none)
    where
      machine_found : (o : Option ModePortPlan) → option_map_or (λ (t : ModePortPlan). same_number t.instance None) o false ≡ true
          → option_map (λ n. first_machine p + n) (option_map_or (λ (v : ModePortPlan). Some v.machine) o None) ≡ None → ⊥
      machine_found None held none = false≢true held
      machine_found (Some t) held none = absurd (cc none)
  is_free_one (to_ask q ws) may_want none = refl
  is_free_one (to_take_result q) may_want none = refl
  is_free_one w may_want none = absurd (false≢true may_want)

-- what it is answered names nothing
names_nothing : (p : Plan) (a : Actor) (w : Wanted) (d : Deed) (by : ℕ) → is_free w ≡ true → wanted_by by d ≡ w → answer_fits p a d ≡ true
names_nothing p a w (deed.Start event point value) by free eq = absurd (false≢true (subst (λ v. is_free v ≡ true) (sym eq) free))
names_nothing p a w (deed.Mode port mode) by free eq = absurd (false≢true (subst (λ v. is_free v ≡ true) (sym eq) free))
names_nothing p a w (deed.Phase step) by free eq = absurd (false≢true (subst (λ v. is_free v ≡ true) (sym eq) free))
names_nothing p a w d by free eq = refl

abbrev pub AnswersLaw : Type 0
AnswersLaw = (p : Plan) (m : Mapping) (a : Actor) (w : Wanted) (d : Deed) (h : Past) → IsSound p m → wish_fits p a w ≡ true → object_of p a w ≡ None → IsFree w d → is_free w ≡ true
    → Answers p h (record { entry = record { actor = a; deed = d }; event = None })

-- ---- its entries

-- one on an object
module _ (p : Plan) (w : Wanted) (object : ℕ) (s : Stamped) (may_want : wish_fits p Env w ≡ true) (touching : object_of p Env w ≡ Some object) (is : IsStampedFor p Env w s) where
  wish_is : wanted_by 0 s.entry.deed ≡ w
  wish_is = subst (λ v. wanted_by (unwrap_or v 0) s.entry.deed ≡ w) (no_event p w may_want) is.wish

  own_is : needs_event s.entry.deed ≡ false
  own_is = eventless p w s.entry.deed 0 may_want wish_is

  event_is : s.event ≡ None
  event_is = is.event ∙ no_event p w may_want

  touches_it : touched_by p (noting_of s) ≡ Some object
  touches_it =
      (λ i. touched_by p (record { entry = s.entry; event = event_is i }))
      ∙ ap (λ b. if b && true then None else object_of p s.entry.actor (wanted_by 0 s.entry.deed)) own_is
      ∙ (λ i. object_of p (is.actor i) (wish_is i)) ∙ touching

  pub call_made : IsCall p s
  call_made = record {
    actor = is.actor;
    own = own_is;
    event = event_is;
    proper =
        (λ i. ((if own_is i then activation_fits p (is.actor i) else wish_fits p (is.actor i) (wish_is i)) && answer_fits p (is.actor i) s.entry.deed) && starts_its_own p (is.actor i) s.entry.deed)
        ∙ (λ i. (may_want i && is.answer i) && true);
    free = λ none h. absurd (none-some object (sym none ∙ touches_it));
  }

-- one that touches no object
module _ (p : Plan) (m : Mapping) (w : Wanted) (d : Deed) (sound : IsSound p m) (may_want : wish_fits p Env w ≡ true) (none : object_of p Env w ≡ None) (frees : Frees w (Some d)) where
  abbrev pub e : Entry
  e = record { actor = Env; deed = d }

  wish : wanted_by 0 d ≡ w
  wish = subst (λ v. wanted_by (unwrap_or v 0) d ≡ w) (no_event p w may_want) frees.1.wish

  pub no_need : needs_event d ≡ false
  no_need = eventless p w d 0 may_want wish

  pub touches_none : touched_by p (record { entry = e; event = None }) ≡ None
  touches_none = ap (λ b. if b && true then None else object_of p Env (wanted_by 0 d)) no_need ∙ ap (object_of p Env) wish ∙ none

  pub free_fits : fits p e ≡ true
  free_fits = (λ i. (if no_need i then activation_fits p Env else wish_fits p Env (wish i)) && names_nothing p Env w d 0 frees.0 wish i) ∙ ap (λ b. b && true) may_want

  pub call_alone : AnswersLaw → (stamp : ℕ) → IsCall p (stamped_alone stamp e)
  call_alone answers stamp = record {
    actor = refl;
    own = no_need;
    event = refl;
    proper = ap (λ b. b && true) free_fits;
    free = λ untouched h. answers p m Env w d h sound may_want none frees.1 frees.0;
  }
