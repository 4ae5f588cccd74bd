-- What a phase, a start and an end make of the events that are tracked.
use Rattle.std.proofs.Common.{◌≡◌, ◌<◌, ◌≤◌, ◌&&◌, ◌||◌, not, ℕ, refl, sym, ◌∙◌, ap, subst, arith, Bool, true, false, zero, suc, List, [], ◌∷◌, length, get_or, map, set, inl, inr, Option}
use Rattle.std.proofs.Common.{Some, None, if◌then◌else◌}
use Rattle.std.proofs.lemmas.Bool.{and_parts, and_right, cases_eq, cases_lt, false≢true, or_cases}
use Rattle.std.proofs.lemmas.List.{get_or-map, get_or-set_other, get_or-set_same, get_or_past, get_or_read, length-map, map-set, set-get_or}
use Rattle.rte_value.specs.declared.kinds.Step.{Step}
use Rattle.mode_machine.specs.Common.{AreChains, IsNext, is_at, moment_of, occurs, after_end, after_owed_start, idle_event, is_woken, may_start, never_owed, owed_by, owes, AreTracked}
use Rattle.mode_machine.specs.Common.{IsReady, Tracked, event_at, if_at, is_left, moment_in, Chains, ModeEvent, OwedEvent}
use Rattle.mode_machine.specs.Tracked.{IsTracked}
use Rattle.mode_machine.proofs.Each.{done_twice, map_after}
use Rattle.mode_machine.proofs.Moments.{none_past, occurs_at, owes_at}
use Rattle.mode_machine.proofs.Nexts.{begins_earlier, is_position, same_tests}

or_true : (b : Bool) → (b || true) ≡ true
or_true true = refl
or_true false = refl

abbrev pub left_of : OwedEvent → Bool
left_of e = e.left

-- what no phase, start or end has reached
pub idle_tracked : (last : Option ModeEvent) → IsTracked last idle_event
idle_tracked last = record { due = λ on. absurd (false≢true on); waits = λ on. absurd (false≢true on); owed = λ on. absurd (false≢true on) }

pub never_due : (last : Option ModeEvent) (e : OwedEvent) → IsTracked last e → e.left ≡ false → e.due ≡ false
never_due last e tracked off = by e.due refl
  where
    by : (b : Bool) → e.due ≡ b → b ≡ false
    by true on = absurd (false≢true (sym off ∙ tracked.due on))
    by false on = refl

-- nothing is left where a phase may come
pub rests : (t : Tracked) (chains : Chains) (left : Option ℕ) → AreTracked t chains left → IsReady t → (event : ℕ) → is_left t.events event ≡ false
rests t chains left are (inl none) event = by (is_left t.events event) refl
  where
    by : (b : Bool) → is_left t.events event ≡ b → b ≡ false
    by true on =
        let e = event_at t.events event in
        absurd (false≢true (ap (λ at. is_at at e.moment) (sym none) ∙ (are.each event).owed (ap (λ b. b || e.begun) on)))
    by false on = refl
rests t chains left are (inr none) event =
    let first : left ≡ None = is_position left_of t.events idle_event refl left are.left ∙ none in
    subst (IsNext (is_left t.events) 0) first are.left event (omega arith)

-- events before anything happened
pub never_tracked : (moments : List ModeEvent) (chains : Chains) → AreChains moments chains → AreTracked (record { events = map never_owed moments; last = None }) chains None
never_tracked moments chains are = record {
  chains = subst (λ ms. AreChains ms chains) (sym (same moments)) are;
  left = λ place behind. none moments place;
  each = λ event. subst_never moments event;
}
  where
    same : (ms : List ModeEvent) → map moment_in (map never_owed ms) ≡ ms
    same [] = refl
    same (m ∷ ms) = ap (λ xs. m ∷ xs) (same ms)

    none : (ms : List ModeEvent) (place : ℕ) → is_left (map never_owed ms) place ≡ false
    none [] place = refl
    none (m ∷ ms) zero = refl
    none (m ∷ ms) (suc place) = none ms place

    subst_never : (ms : List ModeEvent) (event : ℕ) → IsTracked None (event_at (map never_owed ms) event)
    subst_never [] event = idle_tracked None
    subst_never (m ∷ ms) zero = record { due = λ on. absurd (false≢true on); waits = λ on. absurd (false≢true on); owed = λ on. absurd (false≢true on) }
    subst_never (m ∷ ms) (suc event) = subst_never ms event

-- ---- a phase

pub moments_kept : (at : Option ModeEvent) (s : Step) (settled next : ℕ) (events : List OwedEvent) → map moment_in (map (if_at at (owed_by s settled next)) events) ≡ map moment_in events
moments_kept at s settled next events = map_after moment_in (if_at at (owed_by s settled next)) events (λ e. by e (is_at at e.moment))
  where
    by : (e : OwedEvent) (b : Bool) → (if b then owed_by s settled next e else e).moment ≡ e.moment
    by e true = refl
    by e false = refl

module _ (s : Step) (settled next : ℕ) where
  once_more : (e : OwedEvent) → owed_by s settled next (owed_by s settled next e) ≡ owed_by s settled next e
  once_more e = ap (λ d. record { moment = e.moment; due = d; running = e.running; begun = false; left = owes s settled next e.moment }) (by (owes s settled next e.moment))
    where
      by : (b : Bool) → (b || (b || e.due)) ≡ (b || e.due)
      by true = refl
      by false = refl

  untouched : (e : OwedEvent) → owes s settled next e.moment ≡ false → e.due ≡ false → e.begun ≡ false → e.left ≡ false → e ≡ owed_by s settled next e
  untouched e off due begun left = λ i. record {
    moment = e.moment;
    due = (due ∙ sym (λ j. off j || due j)) i;
    running = e.running;
    begun = begun i;
    left = (left ∙ sym off) i;
  }

  pub both_moments : (last : Option ModeEvent) (e : OwedEvent) → IsTracked last e → e.left ≡ false → if_at (moment_of s settled next) (owed_by s settled next) (if_at last (owed_by s settled next) e) ≡ owed_by s settled next e
  both_moments last e tracked rest = by (is_at last e.moment) (is_at (moment_of s settled next) e.moment) refl refl
    where
      now : (b c : Bool) → is_at last e.moment ≡ b → is_at (moment_of s settled next) e.moment ≡ c → if_at (moment_of s settled next) (owed_by s settled next) (if_at last (owed_by s settled next) e) ≡ if_at (moment_of s settled next) (owed_by s settled next) (if b then owed_by s settled next e else e)
      now b c was is = ap (λ (b : Bool). if_at (moment_of s settled next) (owed_by s settled next) (if b then owed_by s settled next e else e)) was

      by : (b c : Bool) → is_at last e.moment ≡ b → is_at (moment_of s settled next) e.moment ≡ c → if_at (moment_of s settled next) (owed_by s settled next) (if_at last (owed_by s settled next) e) ≡ owed_by s settled next e
      by true true was is = now true true was is ∙ ap (λ (c : Bool). if c then owed_by s settled next (owed_by s settled next e) else owed_by s settled next e) is ∙ once_more e
      by true false was is = now true false was is ∙ ap (λ (c : Bool). if c then owed_by s settled next (owed_by s settled next e) else owed_by s settled next e) is
      by false true was is = now false true was is ∙ ap (λ (c : Bool). if c then owed_by s settled next e else e) is
      by false false was is =
          now false false was is ∙ ap (λ (c : Bool). if c then owed_by s settled next e else e) is
          ∙ untouched e (owes_at s settled next e.moment ∙ is) (never_due last e tracked rest) (begun e.begun refl) rest
        where
          begun : (b : Bool) → e.begun ≡ b → e.begun ≡ false
          begun true on = absurd (false≢true (sym was ∙ tracked.owed (ap (λ b. e.left || b) on ∙ or_true e.left)))
          begun false on = on

  never_woken : (e : OwedEvent) → owes s settled next e.moment ≡ false → e.due ≡ false → is_woken s settled next e ≡ false
  never_woken e off rest = ap (λ b. not (may_start e) && (b && not e.running)) (λ i. off i || rest i) ∙ and_right (not (may_start e)) false refl

  module _ (t : Tracked) (chains : Chains) (left : Option ℕ) (are : AreTracked t chains left) (ready : IsReady t) where
    pub both_owed : map (if_at (moment_of s settled next) (owed_by s settled next)) (map (if_at t.last (owed_by s settled next)) t.events) ≡ map (owed_by s settled next) t.events
    both_owed = done_twice (if_at t.last (owed_by s settled next)) (if_at (moment_of s settled next) (owed_by s settled next)) (owed_by s settled next) t.events idle_event
        (λ k within. both_moments t.last (event_at t.events k) (are.each k) (rests t chains left are ready k))

    owed_then : (event : ℕ) → event < length t.events → event_at (map (owed_by s settled next) t.events) event ≡ owed_by s settled next (event_at t.events event)
    owed_then event within = get_or-map (owed_by s settled next) t.events event idle_event idle_event within

    idle_then : (event : ℕ) → length t.events ≤ event → event_at (map (owed_by s settled next) t.events) event ≡ idle_event
    idle_then event past = get_or_past (map (owed_by s settled next) t.events) event idle_event (omega (arith, length-map t.events (owed_by s settled next), past))

    tracked_now : (event : ℕ) → IsTracked (moment_of s settled next) (owed_by s settled next (event_at t.events event))
    tracked_now event =
        let e = event_at t.events event in
        let rest = never_due t.last e (are.each event) (rests t chains left are ready event) in
        record {
          due = λ on. elim (or_cases (owes s settled next e.moment) e.due on) [ inl owed ↦ owed | inr due ↦ absurd (false≢true (sym rest ∙ due)) ];
          waits = λ on. refl;
          owed = λ on. sym (owes_at s settled next e.moment) ∙ elim (or_cases (owes s settled next e.moment) false on) [ inl owed ↦ owed | inr never ↦ absurd (false≢true never) ];
        }

    pub moments_stay : map moment_in (map (owed_by s settled next) t.events) ≡ map moment_in t.events
    moments_stay = map_after moment_in (owed_by s settled next) t.events (λ e. refl)

    -- the events that are left are those of the moment
    left_now : (event : ℕ) → is_left (map (owed_by s settled next) t.events) event ≡ occurs (map moment_in t.events) (moment_of s settled next) event
    left_now event = elim (cases_lt event (length t.events)) [
      | inl within ↦
          let e = event_at t.events event in
          ap left_of (owed_then event within) ∙ owes_at s settled next e.moment
          ∙ sym (occurs_at (map moment_in t.events) (moment_of s settled next) event e.moment (omega (arith, within, length-map t.events moment_in)) (sym (get_or-map moment_in t.events event idle_event e.moment within)))
      | inr past ↦ ap left_of (idle_then event past) ∙ sym (none_past (map moment_in t.events) (moment_of s settled next) event (omega (arith, past, length-map t.events moment_in)))
    ]

    pub phase_tracked : (first : Option ℕ) → IsNext (occurs (map moment_in t.events) (moment_of s settled next)) 0 first → AreTracked (record { events = map (owed_by s settled next) t.events; last = moment_of s settled next }) chains first
    phase_tracked first is = record {
      chains = subst (λ ms. AreChains ms chains) (sym moments_stay) are.chains;
      left = same_tests (occurs (map moment_in t.events) (moment_of s settled next)) (is_left (map (owed_by s settled next) t.events)) 0 first left_now is;
      each = λ event. elim (cases_lt event (length t.events)) [
        | inl within ↦ subst (IsTracked (moment_of s settled next)) (sym (owed_then event within)) (tracked_now event)
        | inr past ↦ subst (IsTracked (moment_of s settled next)) (sym (idle_then event past)) (idle_tracked (moment_of s settled next))
      ];
    }

    -- a phase makes no start possible by another event
    pub not_woken : (event : ℕ) → event < length t.events → occurs (map moment_in t.events) (moment_of s settled next) event ≡ false → is_woken s settled next (event_at t.events event) ≡ false
    not_woken event within off =
        let e = event_at t.events event in
        let rest = never_due t.last e (are.each event) (rests t chains left are ready event) in
        let here = occurs_at (map moment_in t.events) (moment_of s settled next) event e.moment (omega (arith, within, length-map t.events moment_in)) (sym (get_or-map moment_in t.events event idle_event e.moment within)) in
        never_woken e (owes_at s settled next e.moment ∙ sym here ∙ off) rest

-- ---- a start or an end

-- one event became another, of which no more is left
module _ (t : Tracked) (chains : Chains) (left : Option ℕ) (are : AreTracked t chains left) (event : ℕ) (within : event < length t.events) (e : OwedEvent) (same_moment : e.moment ≡ (event_at t.events event).moment)
    (tracked : IsTracked t.last e) (less : (event_at t.events event).left ≡ false → e.left ≡ false) where
  here : event_at (set t.events event e) event ≡ e
  here = get_or-set_same t.events event e idle_event within

  elsewhere : (other : ℕ) → (other ≡ event → ⊥) → event_at (set t.events event e) other ≡ event_at t.events other
  elsewhere other differs = get_or-set_other t.events event other e idle_event differs

  pub chains_stay : AreChains (map moment_in (set t.events event e)) chains
  chains_stay = subst (λ ms. AreChains ms chains) (sym moments_same) are.chains
    where
      moments_same : map moment_in (set t.events event e) ≡ map moment_in t.events
      moments_same =
          map-set moment_in t.events event e
          ∙ ap (set (map moment_in t.events) event) (same_moment ∙ sym (get_or-map moment_in t.events event idle_event e.moment within))
          ∙ set-get_or (map moment_in t.events) event e.moment

  pub each_tracked : (other : ℕ) → IsTracked t.last (event_at (set t.events event e) other)
  each_tracked other = elim (cases_eq other event) [
    | inl same ↦ subst (IsTracked t.last) (sym (ap (event_at (set t.events event e)) same ∙ here)) tracked
    | inr differs ↦ subst (IsTracked t.last) (sym (elsewhere other differs)) (are.each other)
  ]

  pub no_more_left : (other : ℕ) → is_left t.events other ≡ false → is_left (set t.events event e) other ≡ false
  no_more_left other off = elim (cases_eq other event) [
    | inl same ↦ ap left_of (ap (event_at (set t.events event e)) same ∙ here) ∙ less (ap (is_left t.events) (sym same) ∙ off)
    | inr differs ↦ ap left_of (elsewhere other differs) ∙ off
  ]

  -- another event is the first that is left, or none is
  pub first_stays : (left ≡ Some event → ⊥) → AreTracked (record { events = set t.events event e; last = t.last }) chains left
  first_stays another = record { chains = chains_stay; left = by left refl; each = each_tracked }
    where
      by : (o : Option ℕ) → left ≡ o → IsNext (is_left (set t.events event e)) 0 left
      by None is = subst (IsNext (is_left (set t.events event e)) 0) (sym is) (λ place behind. no_more_left place (subst (IsNext (is_left t.events) 0) is are.left place behind))
      by (Some first) is =
          let before = subst (IsNext (is_left t.events) 0) is are.left in
          let differs : first ≡ event → ⊥ = λ same. another (is ∙ ap (λ n. Some n) same) in
          subst (IsNext (is_left (set t.events event e)) 0) (sym is) (record {
            behind = before.behind;
            passes = ap left_of (elsewhere first differs) ∙ before.passes;
            none = λ place behind sooner. no_more_left place (before.none place behind sooner);
          })

  -- it was the first that was left, and the search went on from it
  pub first_found : left ≡ Some event → (found : Option ℕ) → IsNext (is_left (set t.events event e)) event found → AreTracked (record { events = set t.events event e; last = t.last }) chains found
  first_found is found next =
      let before = subst (IsNext (is_left t.events) 0) is are.left in
      record {
        chains = chains_stay;
        left = begins_earlier (is_left (set t.events event e)) event 0 found (omega arith) (λ place behind sooner. no_more_left place (before.none place behind sooner)) next;
        each = each_tracked;
      }

  -- as much is left
  pub left_same : e.left ≡ (event_at t.events event).left → AreTracked (record { events = set t.events event e; last = t.last }) chains left
  left_same same = record { chains = chains_stay; left = same_tests (is_left t.events) (is_left (set t.events event e)) 0 left each_same are.left; each = each_tracked }
    where
      each_same : (other : ℕ) → is_left (set t.events event e) other ≡ is_left t.events other
      each_same other = elim (cases_eq other event) [
        | inl one ↦ ap left_of (ap (event_at (set t.events event e)) one ∙ here) ∙ same ∙ ap (is_left t.events) (sym one)
        | inr differs ↦ ap left_of (elsewhere other differs)
      ]

  pub moment_here : left ≡ Some event → is_at t.last (event_at (set t.events event e) event).moment ≡ true
  moment_here is =
      let before = subst (IsNext (is_left t.events) 0) is are.left in
      let was = event_at t.events event in
      ap (λ (x : OwedEvent). is_at t.last x.moment) here ∙ ap (is_at t.last) same_moment ∙ (are.each event).owed (ap (λ b. b || was.begun) before.passes)

  pub owed_here : (other : ℕ) → is_left (set t.events event e) other ≡ true → is_at t.last (event_at (set t.events event e) other).moment ≡ true
  owed_here other on = let x = event_at (set t.events event e) other in (each_tracked other).owed (ap (λ b. b || x.begun) on)

module _ (last : Option ModeEvent) (e : OwedEvent) (tracked : IsTracked last e) where
  pub started : IsTracked last (after_owed_start e)
  started = by (may_start e) refl
    where
      by : (b : Bool) → may_start e ≡ b → IsTracked last (if b then record { moment = e.moment; due = false; running = true; begun = true; left = e.left } else e)
      by true on =
          let due = (and_parts e.due (not e.running) on).0 in
          record {
            due = λ never. absurd (false≢true never);
            waits = λ never. absurd (false≢true never);
            owed = λ is. tracked.owed (ap (λ b. b || e.begun) (tracked.due due));
          }
      by false off = tracked

  pub start_moment : (after_owed_start e).moment ≡ e.moment
  start_moment = by (may_start e)
    where
      by : (b : Bool) → (if b then record { moment = e.moment; due = false; running = true; begun = true; left = e.left } else e).moment ≡ e.moment
      by true = refl
      by false = refl

  pub start_left : (after_owed_start e).left ≡ e.left
  start_left = by (may_start e)
    where
      by : (b : Bool) → (if b then record { moment = e.moment; due = false; running = true; begun = true; left = e.left } else e).left ≡ e.left
      by true = refl
      by false = refl

  abbrev after : Bool → OwedEvent
  after b = if b then record { moment = e.moment; due = e.due; running = false; begun = e.begun; left = e.left && not e.begun } else e

  pub ended : IsTracked last (after_end e)
  ended = by e.running
    where
      by : (b : Bool) → IsTracked last (after b)
      by true = record {
        due = λ due. (λ i. tracked.due due i && not (tracked.waits due i));
        waits = tracked.waits;
        owed = λ is. tracked.owed (elim (or_cases (e.left && not e.begun) e.begun is) [
          | inl left ↦ ap (λ b. b || e.begun) (and_parts e.left (not e.begun) left).0
          | inr begun ↦ ap (λ b. e.left || b) begun ∙ or_true e.left
        ]);
      }
      by false = tracked

  pub end_moment : (after_end e).moment ≡ e.moment
  end_moment = by e.running
    where
      by : (b : Bool) → (after b).moment ≡ e.moment
      by true = refl
      by false = refl

  pub end_left : e.left ≡ false → (after_end e).left ≡ false
  end_left off = by e.running
    where
      by : (b : Bool) → (after b).left ≡ false
      by true = ap (λ b. b && not e.begun) off
      by false = off

module _ (t : Tracked) (chains : Chains) (left : Option ℕ) (are : AreTracked t chains left) (event : ℕ) (within : event < length t.events) where
  abbrev was : OwedEvent
  was = event_at t.events event

  pub start_tracked : AreTracked (record { events = set t.events event (after_owed_start was); last = t.last }) chains left
  start_tracked = left_same t chains left are event within (after_owed_start was) (start_moment t.last was (are.each event)) (started t.last was (are.each event))
      (λ off. start_left t.last was (are.each event) ∙ off) (start_left t.last was (are.each event))

  pub end_other : (left ≡ Some event → ⊥) → AreTracked (record { events = set t.events event (after_end was); last = t.last }) chains left
  end_other = first_stays t chains left are event within (after_end was) (end_moment t.last was (are.each event)) (ended t.last was (are.each event)) (end_left t.last was (are.each event))

  pub end_first : left ≡ Some event → (found : Option ℕ) → IsNext (is_left (set t.events event (after_end was))) event found → AreTracked (record { events = set t.events event (after_end was); last = t.last }) chains found
  end_first = first_found t chains left are event within (after_end was) (end_moment t.last was (are.each event)) (ended t.last was (are.each event)) (end_left t.last was (are.each event))

  pub end_chains : AreChains (map moment_in (set t.events event (after_end was))) chains
  end_chains = chains_stay t chains left are event within (after_end was) (end_moment t.last was (are.each event)) (ended t.last was (are.each event)) (end_left t.last was (are.each event))

  pub end_here : left ≡ Some event → is_at t.last (event_at (set t.events event (after_end was)) event).moment ≡ true
  end_here = moment_here t chains left are event within (after_end was) (end_moment t.last was (are.each event)) (ended t.last was (are.each event)) (end_left t.last was (are.each event))

  pub end_owed : (other : ℕ) → is_left (set t.events event (after_end was)) other ≡ true → is_at t.last (event_at (set t.events event (after_end was)) other).moment ≡ true
  end_owed = owed_here t chains left are event within (after_end was) (end_moment t.last was (are.each event)) (ended t.last was (are.each event)) (end_left t.last was (are.each event))

-- what is read at a place, and what is made of it
pub made_at : (f : OwedEvent → OwedEvent) (events : List OwedEvent) (event : ℕ) (x y : OwedEvent) → event < length events → x ≡ get_or events event x → y ≡ f x → set events event y ≡ set events event (f (event_at events event))
made_at f events event x y within read made = ap (set events event) (made ∙ ap f (get_or_read events event x within read idle_event))
