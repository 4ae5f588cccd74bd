-- The laws of what an activation asks.
use Rattle.std.proofs.Common.{◌≡◌, ℕ, ℤ, true, false, ◌||◌, not, if◌then◌else◌, refl, sym, ◌∙◌, ap, subst, List, [], ◌∷◌, ◌++◌, length, Option, Some, None, is_some}
use Rattle.std.specs.Prelude.{nat_lt, nat_le, is_none}
use Rattle.bus_semantics.specs.Common.{list_all, and_from, and_parts, false≢true, true≢false, ActKey, Value, words_of, Plan, Runnable, queue_of, disabling_of, instance_of, Wanted, to_tick}
use Rattle.bus_semantics.specs.Common.{to_start, to_admit, to_ask, to_hear, to_return, to_enter, to_leave, to_move_on, to_publish, to_publish_all, to_end, wanted_by, count, is_over}
use Rattle.bus_semantics.specs.Common.{object_of, served_by, key_fits, serves_directly, activation_may_want, wish_fits, is_start, asks_its_own, State, Outcome, Stop, Go, Running, both}
use Rattle.bus_semantics.specs.Common.{goes_on, run_program, fetching, publishing, returning, ending, activity, state_at_start, wanted_next, next_of_activity}
use Rattle.bus_laws.specs.Common.{Act, Deed, Disabling, Mapping}
use Rattle.bus_semantics.specs.declared.entries.Deed.TheVariants as deed
use Rattle.history_laws.specs.Followed.{IsActivation, Followed, HasJustAsked}
use Rattle.history_laws.specs.OpenAreas.{open_areas, innermost, all_but_innermost, are_nested, comes_outside}
use Rattle.history_laws.specs.Given.{gives_what_fits, words_given}
use Rattle.history_laws.specs.Wishes.{is_of_a_call, is_the_end, is_return, is_awaited}
use Rattle.history_laws.specs.ValuesOfWords.{value_of}
use Rattle.history_laws.specs.LookUps.{looked}
use Rattle.history_laws.proofs.Trails.{Trail, open_of, returns_of, trail_of, open_of_trail, returns_of_trail, trail_more, Last, no_answer, after, last_of}
use Rattle.history_laws.proofs.Runs as runs
use Rattle.history_laws.proofs.Runs.{Run, IsFollowed, Obeys, Now, stops, ends}
use Rattle.history_laws.proofs.Asked.{HasAsked, WasAccepted, MayAsk}
use Rattle.history_laws.proofs.Wholes.{admits_some, kept_at_start, Ended, activity_obeys}
use Rattle.history_laws.proofs.Fitting as fitting

stopped : (o : Outcome) (w : Wanted) → wanted_next o ≡ Some w → o ≡ Stop w
stopped (Stop v) w e = let same : v ≡ w = cc e in ap (λ x. Stop x) same
stopped (Go s ds) w e = absurd (cc e)

pub admission_first : (p : Plan) (r : Runnable) (event : ℕ) (start : List ℤ) (d : Disabling) → disabling_of p event ≡ Some d → next_of_activity p r event start [] ≡ Some (to_admit event)
admission_first p r event start d is =
    let rest : Running = both (fetching p r) (both (run_program r r.program.body) (both (publishing p r) (both (returning p r) (ending event)))) in
    ap (λ o. wanted_next (goes_on rest o)) (admits_some p event d (state_at_start p r start) [] is)

direct_none : (p : Plan) (k : ActKey) → served_by p (Act k) ≡ None → serves_directly p k ≡ false
direct_none p k is = rw is refl

direct_some : (p : Plan) (k : ActKey) (n : ℕ) → served_by p (Act k) ≡ Some n → serves_directly p k ≡ is_none (queue_of p n)
direct_some p k n is = rw is refl

module _ (p : Plan) (m : Mapping) (k : ActKey) (r : Runnable) (event : ℕ) (of : IsActivation p m k r event) (start : List ℤ) where
  abbrev May : Trail → Wanted → Type 0
  May = MayAsk p k.runnable r event

  abbrev run : Run
  run = activity p r event (state_at_start p r start)

  obeys : Obeys May (Ended p m of.sound k.runnable r of.runnable event) [] run
  obeys = activity_obeys p m of.sound k.runnable r of.runnable event (state_at_start p r start) (kept_at_start p r start)

  module _ (answers : List Deed) where
    -- ---- whatever was answered

    module _ (w : Wanted) (next : next_of_activity p r event start answers ≡ Some w) where
      somewhere : (t : Trail) × May t w
      somewhere = runs.reached May (Ended p m of.sound k.runnable r of.runnable event) [] run obeys answers w (stopped (run answers) w next)

      pub fits : wish_fits p (Act k) w ≡ true
      fits =
          let home : instance_of p k.runnable ≡ Some r.instance = looked p.runnables k.runnable r (λ (v : Runnable). Some v.instance) None of.runnable in
          and_from (key_fits p k) (activation_may_want p k (instance_of p k.runnable) w) of.key
          (subst (λ h. activation_may_want p k h w ≡ true) (sym home) (fitting.may_want p m of.sound k r of.runnable event of.starts somewhere.0 w somewhere.1))

      pub own : asks_its_own p (Act k) w ≡ true
      own = fitting.may_own p m of.sound k r of.runnable event of.starts somewhere.0 w somewhere.1

      pub begun : is_start w ≡ false
      begun = fitting.may_not_start p m of.sound k r of.runnable event of.starts somewhere.0 w somewhere.1

      pub given : gives_what_fits p r w ≡ true
      given = fitting.may_give p m of.sound k r of.runnable event of.starts somewhere.0 w somewhere.1

      pub short : nat_le (length (words_given w)) 16 ≡ true
      short = fitting.may_be_short p m of.sound k r of.runnable event of.starts somewhere.0 w somewhere.1

      pub valued : (v : Value) × (words_of v ≡ words_given w)
      valued = value_of (words_given w) short

      pub touches : object_of p (Act k) w ≡ None → (is_of_a_call w || is_the_end w) ≡ true
      touches none = fitting.may_touch p m of.sound k r of.runnable event of.starts somewhere.0 w somewhere.1 none

      pub calls_none : serves_directly p k ≡ true → is_of_a_call w ≡ false
      calls_none direct = by_server r.server refl
        where
          served : served_by p (Act k) ≡ r.server
          served = looked p.runnables k.runnable r (λ (v : Runnable). v.server) None of.runnable

          none_is : (o : Option ℕ) → is_none o ≡ true → o ≡ None
          none_is None e = refl
          none_is (Some n) e = absurd (false≢true e)

          by_server : (o : Option ℕ) → r.server ≡ o → is_of_a_call w ≡ false
          by_server None is = absurd (false≢true (sym (direct_none p k (served ∙ is)) ∙ direct))
          by_server (Some n) is =
              let queueless : queue_of p n ≡ None = none_is (queue_of p n) (sym (direct_some p k n (served ∙ is)) ∙ direct) in
              fitting.no_calls p m of.sound k r of.runnable event of.starts somewhere.0 n is queueless w somewhere.1

    pub end_own : (other : ℕ) → next_of_activity p r event start answers ≡ Some (to_end other) → other ≡ event
    end_own other next = (somewhere (to_end other) next).1.2

    pub admission_own : (other : ℕ) → next_of_activity p r event start answers ≡ Some (to_admit other) → other ≡ event
    admission_own other next = (somewhere (to_admit other) next).1.1

    pub admission_disabled : (other : ℕ) → next_of_activity p r event start answers ≡ Some (to_admit other) → is_some (disabling_of p event) ≡ true
    admission_disabled other next = (somewhere (to_admit other) next).1.3

    pub returns_served : (code : ℕ) (ws : List ℤ) → next_of_activity p r event start answers ≡ Some (to_return code ws) → is_some r.server ≡ true
    returns_served code ws next = (somewhere (to_return code ws) next).1.2

    pub awaited : (point : ℕ) → next_of_activity p r event start answers ≡ Some (to_hear point) → is_awaited p point ≡ true
    awaited point next = (somewhere (to_hear point) next).1.3

    -- ---- after answers that were followed

    module _ (followed : Followed p r event start answers) where
      follows : IsFollowed event run answers
      follows before d rest e = stopped (run before) (wanted_by event d) (followed.each before d rest e)

      -- an end is over
      end_is_over : (d : Deed) → wanted_by event d ≡ to_end event → is_over d ≡ true
      end_is_over deed.End e = refl
      end_is_over d e = absurd (cc e)

      pub goes_on_asking : list_all (λ d. not (is_over d)) answers ≡ true → (w : Wanted) × (next_of_activity p r event start answers ≡ Some w)
      goes_on_asking none = by_now (runs.now May event (Ended p m of.sound k.runnable r of.runnable event) [] run obeys answers follows)
        where
          last_not : (before : List Deed) (d : Deed) → list_all (λ d. not (is_over d)) (before ++ d ∷ []) ≡ true → not (is_over d) ≡ true
          last_not [] d all = (and_parts (not (is_over d)) true all).0
          last_not (b ∷ before) d all = last_not before d (and_parts (not (is_over b)) (list_all (λ d. not (is_over d)) (before ++ d ∷ [])) all).1

          not_ended : (s : State) → Ended p m of.sound k.runnable r of.runnable event (trail_of event answers) s → ⊥
          not_ended s ended = by_last (last_of answers)
            where
              by_last : Last answers → ⊥
              by_last (no_answer is) = subst (λ ds. Ended p m of.sound k.runnable r of.runnable event (trail_of event ds) s) is ended
              by_last (after before d is) =
                  let at : Ended p m of.sound k.runnable r of.runnable event (trail_of event (before ++ d ∷ [])) s = subst (λ ds. Ended p m of.sound k.runnable r of.runnable event (trail_of event ds) s) is ended in
                  let end : wanted_by event d ≡ to_end event = subst (λ t. Ended p m of.sound k.runnable r of.runnable event t s) (trail_more event before d []) at in
                  let all : list_all (λ d. not (is_over d)) (before ++ d ∷ []) ≡ true = subst (λ ds. list_all (λ d. not (is_over d)) ds ≡ true) is none in
                  true≢false (sym (last_not before d all) ∙ ap not (end_is_over d end))

          by_now : Now May event (Ended p m of.sound k.runnable r of.runnable event) [] run answers → (w : Wanted) × (next_of_activity p r event start answers ≡ Some w)
          by_now (stops w is) = (w, ap wanted_next is)
          by_now (ends s ended) = absurd (not_ended s ended)

      -- each area that was entered has a greater number than those around it
      keeps_nested : (t : Trail) (w : Wanted) (d : Deed) → May t w → are_nested (open_of t) ≡ true → are_nested (open_of ((w, d) ∷ t)) ≡ true
      keeps_nested t (to_enter x) d may nested = and_from (list_all (λ y. nat_lt y x) (open_of t)) (are_nested (open_of t)) may.2 nested
      keeps_nested t (to_leave x) d may nested = inner (open_of t) nested
        where
          inner : (areas : List ℕ) → are_nested areas ≡ true → are_nested (all_but_innermost areas) ≡ true
          inner [] nested = refl
          inner (y ∷ areas) nested = (and_parts (list_all (λ z. nat_lt z y) areas) (are_nested areas) nested).1
      keeps_nested t w d may nested = nested

      pub nested : are_nested (open_areas answers) ≡ true
      nested = subst (λ areas. are_nested areas ≡ true) (open_of_trail event answers)
          (runs.kept_after May event (λ t. are_nested (open_of t) ≡ true) keeps_nested (Ended p m of.sound k.runnable r of.runnable event) [] run obeys answers follows refl)

      here : (w : Wanted) → next_of_activity p r event start answers ≡ Some w → May (trail_of event answers) w
      here w next = runs.asked_after May event (Ended p m of.sound k.runnable r of.runnable event) [] run obeys answers follows w (stopped (run answers) w next)

      pub leaves_innermost : (area : ℕ) → next_of_activity p r event start answers ≡ Some (to_leave area) → innermost (open_areas answers) ≡ Some area
      leaves_innermost area next = ap innermost (sym (open_of_trail event answers)) ∙ (here (to_leave area) next).2

      pub enters_greater : (area : ℕ) → next_of_activity p r event start answers ≡ Some (to_enter area) → list_all (λ x. nat_lt x area) (open_areas answers) ≡ true
      enters_greater area next = subst (λ areas. list_all (λ x. nat_lt x area) areas ≡ true) (open_of_trail event answers) (here (to_enter area) next).2

      none_open : (w : Wanted) → comes_outside w ≡ true → May (trail_of event answers) w → open_of (trail_of event answers) ≡ []
      none_open (to_ask q ws) out may = may.1
      none_open (to_hear q) out may = may.1
      none_open (to_publish x ws) out may = may.1
      none_open (to_publish_all l written ws) out may = may.1
      none_open (to_return code ws) out may = may.1
      none_open (to_end other) out may = may.1
      none_open w out may = absurd (false≢true out)

      pub outside : (w : Wanted) → next_of_activity p r event start answers ≡ Some w → comes_outside w ≡ true → open_areas answers ≡ []
      outside w next out = sym (open_of_trail event answers) ∙ none_open w out (here w next)

      none_returned : (w : Wanted) → is_the_end w ≡ false → May (trail_of event answers) w → returns_of (trail_of event answers) ≡ 0
      none_returned to_tick before may = absurd may
      none_returned (to_start e) before may = absurd may
      none_returned to_move_on before may = absurd may
      none_returned (to_end e) before may = absurd (true≢false before)
      none_returned w before may = may.0

      pub not_returned : (w : Wanted) → next_of_activity p r event start answers ≡ Some w → is_the_end w ≡ false → count is_return answers ≡ 0
      not_returned w next before = sym (returns_of_trail event answers) ∙ none_returned w before (here w next)

      pub returned : (other : ℕ) → next_of_activity p r event start answers ≡ Some (to_end other) → count is_return answers ≡ (if is_some r.server then 1 else 0)
      returned other next = sym (returns_of_trail event answers) ∙ (here (to_end other) next).0

      pub admission_once : (other : ℕ) → next_of_activity p r event start answers ≡ Some (to_admit other) → answers ≡ []
      admission_once other next = by_last (last_of answers) (here (to_admit other) next).2
        where
          by_last : Last answers → trail_of event answers ≡ [] → answers ≡ []
          by_last (no_answer is) none = is
          by_last (after before d is) none = absurd (cc (sym (trail_more event before d []) ∙ ap (trail_of event) (sym is) ∙ none))

      asked_by : (q : ℕ) (d : Deed) → WasAccepted q (wanted_by event d) d → (value : Value) × (d ≡ deed.Ask q value 0)
      asked_by q (deed.Ask point value code) was = (value, λ j. deed.Ask (was.0 j) value (was.1 j))
      asked_by q d was = absurd was

      pub accepted : (point : ℕ) → next_of_activity p r event start answers ≡ Some (to_hear point) → HasJustAsked point answers
      accepted point next = by_last (last_of answers) (here (to_hear point) next).4
        where
          by_last : Last answers → HasAsked point (trail_of event answers) → HasJustAsked point answers
          by_last (no_answer is) was = absurd (subst (λ ds. HasAsked point (trail_of event ds)) is was)
          by_last (after before d is) was =
              let at : HasAsked point (trail_of event (before ++ d ∷ [])) = subst (λ ds. HasAsked point (trail_of event ds)) is was in
              let asked = asked_by point d (subst (HasAsked point) (trail_more event before d []) at) in
              record { before = before; value = asked.0; last = is ∙ ap (λ x. before ++ x ∷ []) asked.1 }
