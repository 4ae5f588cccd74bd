-- What is known of an entry that is tried: its wish fits and is its own, it touches what its wish touches, and it may follow if it may come.
use Rattle.std.proofs.Common.{◌≡◌, ℕ, Bool, true, false, ◌&&◌, not, if◌then◌else◌, refl, sym, ◌∙◌, ap, subst, Option, Some, None}
use Rattle.std.specs.Prelude.{is_none, unwrap_or}
use Rattle.bus_semantics.specs.Common.{and_parts, false≢true, same_Some, ActKey, Value, same_number, Plan, runnable_of_event, Wanted, to_start, wanted_by, History, Noted, needs_event}
use Rattle.bus_semantics.specs.Common.{started_before, note, last_started, runs, object_of, touched_by, touched, entries_of, wish_fits, answer_fits, activation_fits, fits, next_wish}
use Rattle.bus_semantics.specs.Common.{is_held_back, is_this, may_start, caller_has_asked, starts_or_goes_on, follows_program, MayFollow, asks_its_own, event_of, noted_for, MayCome}
use Rattle.bus_laws.specs.Common.{Actor, Env, Machine, Act, Deed, Entry, Mapping}
use Rattle.bus_semantics.specs.declared.entries.Deed.TheVariants as deed
use Rattle.history_laws.specs.Running.{GoesOn}
use Rattle.history_laws.proofs.Keys.{wish_runs}
use Rattle.bus_semantics.proofs.SameWanted.{same_wanted-Decides}
use Rattle.trace_objects.specs.Standing.{IsTried}

-- ---- deeds and wishes

pub free_same : (d : Deed) (by other : ℕ) → needs_event d ≡ false → wanted_by by d ≡ wanted_by other d
free_same (deed.Admit admitted) by other free = absurd (false≢true (sym free))
free_same deed.End by other free = absurd (false≢true (sym free))
free_same d by other free = refl

free_event : (d : Deed) (by : ℕ) → needs_event d ≡ false → event_of (wanted_by by d) ≡ None
free_event (deed.Admit admitted) by free = absurd (false≢true (sym free))
free_event deed.End by free = absurd (false≢true (sym free))
free_event d by free = refl

pub bound_event : (d : Deed) (by : ℕ) → needs_event d ≡ true → event_of (wanted_by by d) ≡ Some by
bound_event (deed.Admit admitted) by bound = refl
bound_event deed.End by bound = refl
bound_event d by bound = absurd (false≢true bound)

is_false : (b : Bool) → not b ≡ true → b ≡ false
is_false false same = refl
is_false true same = absurd (false≢true same)

this_is : (v : Wanted) (o : Option Wanted) → is_this v o ≡ true → o ≡ Some v
this_is v None e = absurd (false≢true e)
this_is v (Some u) e = ap (λ x. Some x) (sym ((same_wanted-Decides v u).0 e))

-- ---- how an entry was asked for

pub record IsStart (d : Deed) : Type 0 where
  pub event : ℕ
  pub point : Option ℕ
  pub value : Value
  pub is : d ≡ deed.Start event point value

-- as the next wish of a running activation, or as a start, by the environment or by a machine
pub data IsAsked (p : Plan) (h : History) (event : Option ℕ) (a : Actor) (d : Deed) : Type 0 where
  wished : (k : ActKey) → a ≡ Act k → next_wish p h k ≡ Some (wanted_by (unwrap_or event 0) d) → is_held_back p h k ≡ false → (needs_event d ≡ true → event ≡ Some (unwrap_or event 0)) → IsAsked p h event a d
  plain : needs_event d ≡ false → wish_fits p a (wanted_by (unwrap_or event 0) d) ≡ true → asks_its_own p a (wanted_by (unwrap_or event 0) d) ≡ true → ((k : ActKey) → a ≡ Act k → IsStart d) → IsAsked p h event a d

module _ (p : Plan) (h : History) (event : Option ℕ) (goes : (k : ActKey) → runs k h ≡ true → GoesOn p h k) where
  -- what the environment and machines want fits
  plainly : (a : Actor) (d : Deed) → ((k : ActKey) → a ≡ Act k → IsStart d) → activation_fits p a ≡ false → asks_its_own p a (wanted_by (unwrap_or event 0) d) ≡ true → fits p (record { actor = a; deed = d }) ≡ true → IsAsked p h event a d
  plainly a d starts alone own fit = by_needs (needs_event d) refl (and_parts (if needs_event d then activation_fits p a else wish_fits p a (wanted_by 0 d)) (answer_fits p a d) fit).0
    where
      by_needs : (b : Bool) → needs_event d ≡ b → (if b then activation_fits p a else wish_fits p a (wanted_by 0 d)) ≡ true → IsAsked p h event a d
      by_needs true bound fit = absurd (false≢true (sym alone ∙ fit))
      by_needs false free fit = plain free (subst (λ w. wish_fits p a w ≡ true) (free_same d 0 (unwrap_or event 0) free) fit) own starts

  -- an Admit or an End is by the event that started the activation
  by_event : (k : ActKey) (d : Deed) → event ≡ last_started k h → is_this (wanted_by (unwrap_or (last_started k h) 0) d) (next_wish p h k) ≡ true → (event ≡ Some (unwrap_or event 0)) × (next_wish p h k ≡ Some (wanted_by (unwrap_or event 0) d))
  by_event k d by rule =
      let next : next_wish p h k ≡ Some (wanted_by (unwrap_or (last_started k h) 0) d) = this_is (wanted_by (unwrap_or (last_started k h) 0) d) (next_wish p h k) rule in
      let g = goes k (wish_runs p k h (wanted_by (unwrap_or (last_started k h) 0) d) next) in
      let named : event ≡ Some g.activation.event = by ∙ g.started in
      (named ∙ ap (λ n. Some n) (sym (ap (λ o. unwrap_or o 0) named)), next ∙ ap (λ o. Some (wanted_by (unwrap_or o 0) d)) (sym by))

  sorted : (a : Actor) (d : Deed) → fits p (record { actor = a; deed = d }) ≡ true → follows_program p h a d ≡ true → event ≡ (note h (record { actor = a; deed = d })).event → IsAsked p h event a d
  sorted Env d fit program by = plainly Env d (λ k e. cc) refl refl fit
  sorted (Machine n) d fit program by = plainly (Machine n) d (λ k e. cc) refl refl fit
  sorted (Act k) (deed.Start e point value) fit program by =
      let rule = and_parts (may_start p h k e) (not (is_held_back p h k)) program in
      let may = and_parts (same_number (runnable_of_event p e) (Some k.runnable) && not (runs k h)) (caller_has_asked p h k) rule.0 in
      plain refl (and_parts (wish_fits p (Act k) (to_start e)) (answer_fits p (Act k) (deed.Start e point value)) fit).0 (and_parts (same_number (runnable_of_event p e) (Some k.runnable)) (not (runs k h)) may.0).0 (λ j is. record { event = e; point = point; value = value; is = refl })
  sorted (Act k) (deed.Admit admitted) fit program by =
      let rule = and_parts (starts_or_goes_on p h k (deed.Admit admitted)) (not (is_held_back p h k)) program in
      let both = by_event k (deed.Admit admitted) by rule.0 in
      wished k refl both.1 (is_false (is_held_back p h k) rule.1) (λ bound. both.0)
  sorted (Act k) deed.End fit program by =
      let rule = and_parts (starts_or_goes_on p h k deed.End) (not (is_held_back p h k)) program in
      let both = by_event k deed.End by rule.0 in
      wished k refl both.1 (is_false (is_held_back p h k) rule.1) (λ bound. both.0)
  sorted (Act k) d fit program by =
      let rule = and_parts (starts_or_goes_on p h k d) (not (is_held_back p h k)) program in
      wished k refl (this_is (wanted_by 0 d) (next_wish p h k) rule.0) (is_false (is_held_back p h k) rule.1) (λ bound. absurd (false≢true bound))

-- ---- what follows

-- the laws that are used
pub record Laws (p : Plan) (h : History) : Type 0 where
  pub goes : (k : ActKey) → runs k h ≡ true → GoesOn p h k
  pub wish : (k : ActKey) (w : Wanted) (n : Noted) → next_wish p h k ≡ Some w → is_held_back p h k ≡ false → MayCome p (Act k) w (entries_of p h (touched p (Act k) w)) n → MayFollow p h n.entry
  pub entry : (a : Actor) (w : Wanted) (n : Noted) → needs_event n.entry.deed ≡ false → follows_program p h a n.entry.deed ≡ true → MayCome p a w (entries_of p h (touched p a w)) n → MayFollow p h n.entry

pub record Facts (p : Plan) (h : History) (e : Entry) (event : Option ℕ) (w : Wanted) : Type 0 where
  pub fit : wish_fits p e.actor w ≡ true
  pub own : asks_its_own p e.actor w ≡ true
  pub named : noted_for w e ≡ note h e
  pub touch : touched_by p (note h e) ≡ object_of p e.actor w
  pub follows : MayCome p e.actor w (entries_of p h (touched p e.actor w)) (noted_for w e) → MayFollow p h e

module _ (p : Plan) (m : Mapping) (h : History) (e : Entry) (event : Option ℕ) (tried : IsTried p m h e event) (laws : Laws p h) where
  abbrev w : Wanted
  w = wanted_by (unwrap_or event 0) e.deed

  pub asked : IsAsked p h event e.actor e.deed
  asked = sorted p h event laws.goes e.actor e.deed tried.fit tried.program tried.by

  -- with the event, if it needs one
  known : (needs_event e.deed ≡ true → event ≡ Some (unwrap_or event 0)) → (event_of w ≡ event) × (touched_by p (record { entry = e; event = event }) ≡ object_of p e.actor w)
  known named = by_needs (needs_event e.deed) refl
    where
      none : (b : Bool) → needs_event e.deed ≡ b → b ≡ false → event ≡ None
      none true is free = absurd (false≢true (sym free))
      none false is free = tried.by ∙ ap (λ x. if x then started_before e.actor h else None) is

      by_needs : (b : Bool) → needs_event e.deed ≡ b → (event_of w ≡ event) × (touched_by p (record { entry = e; event = event }) ≡ object_of p e.actor w)
      by_needs true bound = (
        bound_event e.deed (unwrap_or event 0) bound ∙ sym (named bound),
        (λ i. if bound i && is_none (named bound i) then None else object_of p e.actor (wanted_by (unwrap_or event 0) e.deed)),
      )
      by_needs false free = (
        free_event e.deed (unwrap_or event 0) free ∙ sym (none false free refl),
        (λ i. if free i && is_none event then None else object_of p e.actor (wanted_by (unwrap_or event 0) e.deed)),
      )

  noted_so : record { entry = e; event = event } ≡ note h e
  noted_so = λ i. record { entry = e; event = tried.by i }

  module _ (needs : needs_event e.deed ≡ true → event ≡ Some (unwrap_or event 0)) where
    pub named : noted_for w e ≡ note h e
    named = (λ i. record { entry = e; event = (known needs).0 i }) ∙ noted_so

    pub touch : touched_by p (note h e) ≡ object_of p e.actor w
    touch = ap (touched_by p) (sym noted_so) ∙ (known needs).1

  of_kind : IsAsked p h event e.actor e.deed → Facts p h e event w
  of_kind (wished k who next free needs) =
      let g = laws.goes k (wish_runs p k h w next) in
      let same : g.wish ≡ w = same_Some _ _ (sym g.next ∙ next) in
      record {
        fit = ap (λ a. wish_fits p a w) who ∙ ap (wish_fits p (Act k)) (sym same) ∙ g.fits;
        own = ap (λ a. asks_its_own p a w) who ∙ ap (asks_its_own p (Act k)) (sym same) ∙ g.asked;
        named = named needs;
        touch = touch needs;
        follows = λ comes. laws.wish k w (noted_for w e) next free (subst (λ a. MayCome p a w (entries_of p h (touched p a w)) (noted_for w e)) who comes);
      }
  of_kind (plain free fit own starts) =
      let needs = λ (bound : needs_event e.deed ≡ true). absurd (false≢true (sym free ∙ bound)) in
      record {
        fit = fit;
        own = own;
        named = named needs;
        touch = touch needs;
        follows = λ comes. laws.entry e.actor w (noted_for w e) free tried.program comes;
      }

  pub facts : Facts p h e event w
  facts = of_kind asked
