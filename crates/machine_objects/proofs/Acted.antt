-- What a call answers is what a kind owes, and what is of a plan stays so.
use Rattle.std.proofs.Common.{◌≡◌, ◌≤◌, ◌<◌, ◌+◌, ℕ, ℤ, Bool, true, false, ◌&&◌, ◌==◌, if◌then◌else◌, refl, sym, ◌∙◌, ap, subst, arith, le-leb, List, [], ◌∷◌, ◌++◌, length, drop, set}
use Rattle.std.proofs.Common.{Option, Some, None}
use Rattle.std.specs.Prelude.{is_none, nat_le, nat_lt, option_map, position, unwrap_or}
use Rattle.bus_semantics.specs.Common.{Contains, list_all, slice_get, option_map_or, and_parts, eqb-true, false≢true, ltb-true, Step, words_of, same_words, same_number, empty_value, Plan}
use Rattle.bus_semantics.specs.Common.{look, kind_of, machine_of_port, Wanted, to_switch, wanted_by, modes_of, switch_fits, first_machine, machine_object, object_of, wish_fits, answer_fits}
use Rattle.bus_semantics.specs.Common.{phase_fits, start_fits, event_of}
use Rattle.rte_value.specs.declared.kinds.Step.TheVariants as step
use Rattle.bus_semantics.specs.declared.plan.MachinePlan.{MachinePlan}
use Rattle.bus_semantics.specs.declared.plan.ModePortPlan.{ModePortPlan}
use Rattle.bus_semantics.specs.declared.plan.EventKind.{EventKind}
use Rattle.bus_semantics.specs.declared.plan.EventKind.TheVariants.{ModeSwitch, Ack}
use Rattle.bus_semantics.specs.declared.entries.Actor.{Actor}
use Rattle.bus_semantics.specs.declared.entries.Actor.TheVariants.{Env, Machine, Act}
use Rattle.bus_semantics.specs.declared.entries.Deed.{Deed}
use Rattle.bus_semantics.specs.declared.entries.Deed.TheVariants as deed
use Rattle.mode_machine.specs.declared.disabling.Admitted.{Admitted}
use Rattle.mode_machine.specs.declared.disabling.Admitted.TheVariants.{Yes, No, Runs}
use Rattle.mode_machine.specs.Disabling.{holds_back}
use Rattle.mode_machine.specs.Kept as machines
use Rattle.mode_machine.specs.Owed as owed
use Rattle.object_kinds.specs.declared.acted.Acted.{Acted}
use Rattle.object_kinds.specs.declared.acted.Acted.TheVariants.{Done, NotYet}
use Rattle.object_kinds.specs.Common.{IsAnswerOf, place, given, is_set}
use Rattle.object_kinds.proofs.Events.{events_all}
use Rattle.object_kinds.proofs.Lists.{all_at, all_end}
use Rattle.object_kinds.proofs.Options.{given_some, then_some, mapped_some, none_given}
use Rattle.object_kinds.proofs.Placing.{place_at}
use Rattle.object_kinds.proofs.Proper.{noting, by_actor}
use Rattle.object_kinds.proofs.Ranges.{sought}
use Rattle.machine_objects.specs.Acting.{is_bare, IsActed}
use Rattle.machine_objects.specs.Kept.{Kept, MachineState, may_start_at, may_start}
use Rattle.machine_objects.specs.Layout.{IsMachine, machine_of, waits_for_phase, waits_for_end}
use Rattle.machine_objects.specs.Leading.{same_step, is_made, is_answered, started_at, ended_at, lead_of_machine, with_machine, lead, why_held}
use Rattle.machine_objects.specs.Plans.{IsOfPlan, IsAskedOf}
use Rattle.machine_objects.proofs.Touches.{switching, acked_kind}
use Rattle.machine_objects.proofs.Fixing.{fixed_by}

-- ---- a Close takes the oldest switch that waits

close_waits : (k : machines.Kept) (mode : ℕ) → is_made (step.Close mode) (machines.answer_to_advance k) ≡ true → slice_get k.unbegun 0 ≡ Some mode
close_waits k mode made = by_stage k.stage made
  where
    not_running : {X : Type 0} (o : Option ℕ) → is_made (step.Close mode) (machines.unless_running o) ≡ true → X
    not_running None is = absurd (false≢true is)
    not_running (Some d) is = absurd (false≢true is)

    not_owed : {X : Type 0} (o : Option ℕ) (t : Step) → same_step t (step.Close mode) ≡ false → is_made (step.Close mode) (machines.unless_owed o t) ≡ true → X
    not_owed None t other is = absurd (false≢true (sym other ∙ is))
    not_owed (Some e) t other is = absurd (false≢true is)

    by_first : (o : Option ℕ) → is_made (step.Close mode) (machines.begun o) ≡ true → o ≡ Some mode
    by_first None is = absurd (false≢true is)
    by_first (Some other) is = ap (λ n. Some n) (eqb-true other mode is)

    by_stage : (t : Step) → is_made (step.Close mode) (machines.phase_after t k) ≡ true → slice_get k.unbegun 0 ≡ Some mode
    by_stage step.Stable is = by_first (slice_get k.unbegun 0) is
    by_stage (step.Close other) is = not_running (if k.waits then position (holds_back k.next) k.disablings else None) is
    by_stage step.Exit is = not_owed (machines.first_left k) step.Transition refl is
    by_stage step.Transition is = not_owed (machines.first_left k) step.Entry refl is
    by_stage step.Entry is = not_owed (machines.first_left k) step.Stable refl is

-- ---- what the bus answers names what there is

module _ (p : Plan) (object : ℕ) (is : IsMachine p object) where
  -- the machine itself
  itself : (n : ℕ) → machine_object p (Some n) ≡ Some object → n ≡ machine_of p object
  itself n same = let at : first_machine p + n ≡ object = cc in let from = is.from in omega arith

  module _ (a : Actor) (k : Kept) (after : machines.Kept) (planned : IsOfPlan p object k) where
    -- a start by an event of the machine serves nobody
    start_fit : (e : ℕ) (point : Option ℕ) (ws : List ℤ) → started_at k.machine (place e k.owed) (place e k.acks) ≡ Some after → (is_none point && same_words ws []) ≡ true → start_fits p (kind_of p e) point ws ≡ true
    start_fit e point ws leads bare = by_places (place e k.owed) (place e k.acks) refl refl leads
      where
        switch_kind : (kind : EventKind) (at : _) (q : Option ℕ) → kind ≡ ModeSwitch (machine_of p object) at → (is_none q && same_words ws []) ≡ true → start_fits p kind q ws ≡ true
        switch_kind kind at None is none = rw is none
        switch_kind kind at (Some q) is none = absurd (false≢true none)

        ack_kind : (kind : EventKind) (q : Option ℕ) → kind ≡ Ack (machine_of p object) → (is_none q && same_words ws []) ≡ true → start_fits p kind q ws ≡ true
        ack_kind kind None is none = rw is none
        ack_kind kind (Some q) is none = absurd (false≢true none)

        by_places : (o r : Option ℕ) → place e k.owed ≡ o → place e k.acks ≡ r → started_at k.machine o r ≡ Some after → start_fits p (kind_of p e) point ws ≡ true
        by_places (Some i) r at other gives =
            let all = subst (λ es. list_all (λ f. waits_for_phase (machine_of p object) (kind_of p f)) es ≡ true) (sym planned.owed) (events_all p (waits_for_phase (machine_of p object))) in
            let sw = switching (machine_of p object) (kind_of p e) (all_at (λ f. waits_for_phase (machine_of p object) (kind_of p f)) k.owed i e all (place_at e k.owed i at)) in
            switch_kind (kind_of p e) sw.at point sw.kind bare
        by_places None (Some i) none at gives =
            let all = subst (λ es. list_all (λ f. waits_for_end (machine_of p object) (kind_of p f)) es ≡ true) (sym planned.acks) (events_all p (waits_for_end (machine_of p object))) in
            ack_kind (kind_of p e) point (acked_kind (machine_of p object) (kind_of p e) (all_at (λ f. waits_for_end (machine_of p object) (kind_of p f)) k.acks i e all (place_at e k.acks i at))) bare
        by_places None None none other gives = absurd (cc gives)

    -- a mode that is seen is one of the machine's, or their number
    mode_within : machines.mode_of k.machine ≤ modes_of p (machine_of p object)
    mode_within = by_test (machines.is_stable k.machine.stage)
      where
        by_test : (b : Bool) → (if b then k.machine.settled else k.machine.modes) ≤ modes_of p (machine_of p object)
        by_test true = let settled = planned.settled in omega arith
        by_test false = let same = planned.modes in omega arith

    mode_fit : (port mode : ℕ) → machine_object p (machine_of_port p port) ≡ Some object → mode ≡ machines.mode_of k.machine → look p.mode_ports port (λ (t : ModePortPlan). nat_le mode (modes_of p t.machine)) false ≡ true
    mode_fit port mode touching same = by_port (slice_get p.mode_ports port) refl
      where
        by_port : (o : Option ModePortPlan) → slice_get p.mode_ports port ≡ o → look p.mode_ports port (λ (t : ModePortPlan). nat_le mode (modes_of p t.machine)) false ≡ true
        by_port None none = let no = rw none at touching in absurd (cc no)
        by_port (Some t) found =
            let here = rw found at touching in
            let own : t.machine ≡ machine_of p object = itself t.machine here in
            let within = mode_within in
            let few : mode ≤ modes_of p t.machine = subst (λ n. mode ≤ modes_of p n) (sym own) (subst (λ n. n ≤ modes_of p (machine_of p object)) (sym same) within) in
            rw found (le-leb mode (modes_of p t.machine) few)

    -- a phase goes to a mode of the machine
    phase_fit : (s : Step) (b : Actor) → (machine_of_actor : (n : ℕ) → b ≡ Machine n → n ≡ machine_of p object) → is_made s (machines.answer_to_advance k.machine) ≡ true → phase_fits p b s ≡ true
    phase_fit s Env own made = refl
    phase_fit s (Act key) own made = refl
    phase_fit (step.Close mode) (Machine n) own made =
        let small = all_at (λ j. nat_lt j (modes_of p (machine_of p object))) k.machine.unbegun 0 mode planned.unbegun (close_waits k.machine mode made) in
        subst (λ j. nat_lt mode (modes_of p j) ≡ true) (sym (own n refl)) small
    phase_fit step.Exit (Machine n) own made = refl
    phase_fit step.Transition (Machine n) own made = refl
    phase_fit step.Entry (Machine n) own made = refl
    phase_fit step.Stable (Machine n) own made = refl

    mover : (b : Actor) → object_of p b (wanted_by 0 (deed.Phase step.Exit)) ≡ Some object → (n : ℕ) → b ≡ Machine n → n ≡ machine_of p object
    mover Env touching n same = absurd (cc touching)
    mover (Act key) touching n same = absurd (cc touching)
    mover (Machine j) touching n same = let is_n : j ≡ n = cc in sym is_n ∙ itself j touching

    answers_fit : (event : Option ℕ) (d : Deed) → object_of p a (wanted_by (unwrap_or event 0) d) ≡ Some object → lead_of_machine k event d ≡ Some after → is_bare d ≡ true → answer_fits p a d ≡ true
    answers_fit event (deed.Start e point value) touching leads bare = start_fit e point (words_of value) leads bare
    answers_fit event (deed.Mode port mode) touching leads bare =
        mode_fit port mode touching (eqb-true mode (machines.mode_of k.machine) (given_some (mode == machines.mode_of k.machine) k.machine after leads).holds)
    answers_fit event (deed.Phase s) touching leads bare = phase_fit s a (mover a touching) (given_some (is_made s (machines.answer_to_advance k.machine)) (machines.after_step s k.machine) after leads).holds
    answers_fit event (deed.Switch n mode code) touching leads bare = refl
    answers_fit event (deed.Admit answer) touching leads bare = refl
    answers_fit event deed.End touching leads bare = refl
    answers_fit event d touching leads bare = absurd (cc leads)

-- ---- what is of a plan stays so

-- as many modes, and none past them
record Bounds (modes : ℕ) (k : machines.Kept) : Type 0 where
  same : k.modes ≡ modes
  settled : k.settled < modes
  next : k.next < modes
  unbegun : list_all (λ mode. nat_lt mode modes) k.unbegun ≡ true

one_off : (t : ℕ → Bool) (xs : List ℕ) → list_all t xs ≡ true → list_all t (drop 1 xs) ≡ true
one_off t [] all = refl
one_off t (x ∷ xs) all = (and_parts (t x) (list_all t xs) all).1

module _ (modes : ℕ) (k : Kept) (bounds : Bounds modes k.machine) where
  switch_bounds : (mode : ℕ) → nat_lt mode modes ≡ true → Bounds modes (machines.after_switch mode k.machine)
  switch_bounds mode small = by_place (machines.has_place k.machine)
    where
      by_place : (b : Bool) → Bounds modes (if b then machines.with_unbegun (k.machine.unbegun ++ mode ∷ []) k.machine else k.machine)
      by_place true = record { same = bounds.same; settled = bounds.settled; next = bounds.next; unbegun = all_end (λ j. nat_lt j modes) k.machine.unbegun mode bounds.unbegun small }
      by_place false = bounds

  phase_bounds : (s : Step) → is_made s (machines.answer_to_advance k.machine) ≡ true → Bounds modes (machines.after_step s k.machine)
  phase_bounds (step.Close mode) made =
      let small = all_at (λ j. nat_lt j modes) k.machine.unbegun 0 mode bounds.unbegun (close_waits k.machine mode made) in
      let less = ltb-true mode modes small in
      record { same = bounds.same; settled = bounds.settled; next = less; unbegun = one_off (λ j. nat_lt j modes) k.machine.unbegun bounds.unbegun }
  phase_bounds step.Exit made = record { same = bounds.same; settled = bounds.settled; next = bounds.next; unbegun = bounds.unbegun }
  phase_bounds step.Transition made = record { same = bounds.same; settled = bounds.settled; next = bounds.next; unbegun = bounds.unbegun }
  phase_bounds step.Entry made = record { same = bounds.same; settled = bounds.settled; next = bounds.next; unbegun = bounds.unbegun }
  phase_bounds step.Stable made = record { same = bounds.same; settled = bounds.next; next = bounds.next; unbegun = bounds.unbegun }

  start_bounds : (after : machines.Kept) (o r : Option ℕ) → started_at k.machine o r ≡ Some after → Bounds modes after
  start_bounds after (Some i) r leads =
      let of = given_some (owed.may_start (machines.owed_at i k.machine)) (machines.after_owed i owed.after_owed_start k.machine) after leads in
      subst (Bounds modes) of.same (record { same = bounds.same; settled = bounds.settled; next = bounds.next; unbegun = bounds.unbegun })
  start_bounds after None (Some i) leads =
      let of = given_some (is_set k.machine.acks i) (machines.with_acks (set k.machine.acks i false) k.machine) after leads in
      subst (Bounds modes) of.same (record { same = bounds.same; settled = bounds.settled; next = bounds.next; unbegun = bounds.unbegun })
  start_bounds after None None leads = absurd (cc leads)

  admit_bounds : (d : ℕ) → Bounds modes (machines.after_admit d k.machine)
  admit_bounds d = by_answer (machines.answer_to_admit d k.machine)
    where
      by_answer : (o : Admitted) → Bounds modes (machines.admitted_by o d k.machine)
      by_answer Yes = record { same = bounds.same; settled = bounds.settled; next = bounds.next; unbegun = bounds.unbegun }
      by_answer No = bounds
      by_answer Runs = bounds

  end_bounds : (after : machines.Kept) (o r : Option ℕ) → ended_at k.machine o r ≡ Some after → Bounds modes after
  end_bounds after (Some i) r leads =
      let of = given_some (machines.owed_at i k.machine).running (machines.after_owed i owed.after_end k.machine) after leads in
      subst (Bounds modes) of.same (record { same = bounds.same; settled = bounds.settled; next = bounds.next; unbegun = bounds.unbegun })
  end_bounds after None (Some d) leads =
      let of = given_some (machines.dependency_at d k.machine).admitted (machines.after_end_admitted d k.machine) after leads in
      subst (Bounds modes) of.same (by_test (machines.dependency_at d k.machine).admitted)
    where
      by_test : (b : Bool) → Bounds modes (if b then machines.with_admitted d false k.machine else k.machine)
      by_test true = record { same = bounds.same; settled = bounds.settled; next = bounds.next; unbegun = bounds.unbegun }
      by_test false = bounds
  end_bounds after None None leads = absurd (cc leads)

  led_bounds : (after : machines.Kept) (event : Option ℕ) (d : Deed) → ((n mode code : ℕ) → d ≡ deed.Switch n mode code → nat_lt mode modes ≡ true) → lead_of_machine k event d ≡ Some after → Bounds modes after
  led_bounds after event (deed.Switch n mode code) small leads =
      let of = given_some (code == machines.answer_to_switch k.machine) (machines.after_switch mode k.machine) after leads in
      subst (Bounds modes) of.same (switch_bounds mode (small n mode code refl))
  led_bounds after event (deed.Mode port mode) small leads = subst (Bounds modes) (given_some (mode == machines.mode_of k.machine) k.machine after leads).same bounds
  led_bounds after event (deed.Phase s) small leads =
      let of = given_some (is_made s (machines.answer_to_advance k.machine)) (machines.after_step s k.machine) after leads in
      subst (Bounds modes) of.same (phase_bounds s of.holds)
  led_bounds after event (deed.Start e point value) small leads = start_bounds after (place e k.owed) (place e k.acks) leads
  led_bounds after None (deed.Admit answer) small leads = absurd (cc leads)
  led_bounds after (Some e) (deed.Admit answer) small leads =
      let there = then_some (λ d. given (is_answered answer (machines.answer_to_admit d k.machine)) (machines.after_admit d k.machine)) (place e k.disabled) after leads in
      let of = given_some (is_answered answer (machines.answer_to_admit there.item k.machine)) (machines.after_admit there.item k.machine) after there.gives in
      subst (Bounds modes) of.same (admit_bounds there.item)
  led_bounds after None deed.End small leads = absurd (cc leads)
  led_bounds after (Some e) deed.End small leads = end_bounds after (place e k.owed) (place e k.disabled) leads
  led_bounds after event d small leads = absurd (cc leads)

-- a switch that fits goes to a mode of the machine
switch_small : (p : Plan) (a : Actor) (n mode : ℕ) → wish_fits p a (to_switch n mode) ≡ true → nat_lt mode (modes_of p n) ≡ true
switch_small p a n mode fit = by_actor p a (to_switch n mode) fit (λ fits. small None fits) (λ key fits. small _ fits) (λ k less fits. absurd (false≢true fits))
  where
    small : (home : Option ℕ) → switch_fits p home n mode ≡ true → nat_lt mode (modes_of p n) ≡ true
    small home fits =
        let at = sought p.machines n (λ (v : MachinePlan). same_number v.instance home && nat_lt mode (length v.modes)) fits in
        ap (λ o. nat_lt mode (option_map_or (λ (v : MachinePlan). length v.modes) o 0)) at.found ∙ (and_parts (same_number at.item.instance home) (nat_lt mode (length at.item.modes)) at.holds).1

-- ---- the whole

not_mapped : {X Y : Type 0} (f : X → Y) (o : Option X) → option_map f o ≡ None → o ≡ None
not_mapped f None none = refl
not_mapped f (Some x) none = absurd (cc none)

not_pending : (k : machines.Kept) (o r : Option ℕ) → started_at k o r ≡ None → may_start_at k o r ≡ false
not_pending k (Some i) r none = none_given (owed.may_start (machines.owed_at i k)) (machines.after_owed i owed.after_owed_start k) none
not_pending k None (Some i) none = none_given (is_set k.acks i) (machines.with_acks (set k.acks i false) k) none
not_pending k None None none = refl

module _ (p : Plan) (object : ℕ) (a : Actor) (w : Wanted) (old new : MachineState) where
  pub acted_answers : (r : Acted) → IsAskedOf p object a w old.kept → IsActed a w old new r → IsAnswerOf p lead may_start why_held a w old.kept new.kept r
  acted_answers (Done e) asked made =
      let of = mapped_some (with_machine old.kept) (lead_of_machine old.kept (event_of w) e.deed) new.kept made.leads in
      record {
        actor = made.actor;
        wish = made.wish;
        answer = answers_fit p object asked.planned.is_machine a old.kept of.item asked.planned (event_of w) e.deed (ap (object_of p a) made.wish ∙ asked.touching) of.is made.bare;
        leads = made.leads;
      }
  acted_answers (NotYet shown) asked held = (
    held.why,
    ap (λ (s : MachineState). s.kept) held.same,
    record {
      none = λ n actor wish. held.none n wish;
      flag = λ runnable event by is. not_pending old.kept.machine (place event old.kept.owed) (place event old.kept.acks)
          (not_mapped (with_machine old.kept) (started_at old.kept.machine (place event old.kept.owed) (place event old.kept.acks)) (held.none (noting a (deed.Start event None empty_value) None) (sym is)));
    },
  )

  pub acted_planned : (r : Acted) → IsAskedOf p object a w old.kept → IsActed a w old new r → IsOfPlan p object new.kept
  acted_planned (Done e) asked made =
      let planned = asked.planned in
      let of = mapped_some (with_machine old.kept) (lead_of_machine old.kept (event_of w) e.deed) new.kept made.leads in
      let small : (n mode code : ℕ) → e.deed ≡ deed.Switch n mode code → nat_lt mode (modes_of p (machine_of p object)) ≡ true = λ n mode code is.
      let wish : to_switch n mode ≡ w = ap (wanted_by (unwrap_or (event_of w) 0)) (sym is) ∙ made.wish in
      let own : n ≡ machine_of p object = itself p object planned.is_machine n (ap (object_of p a) wish ∙ asked.touching) in
      subst (λ j. nat_lt mode (modes_of p j) ≡ true) own (switch_small p a n mode (ap (wish_fits p a) wish ∙ asked.fits)) in
      let bounds : Bounds (modes_of p (machine_of p object)) of.item = led_bounds (modes_of p (machine_of p object)) old.kept
      (record { same = planned.modes; settled = planned.settled; next = planned.next; unbegun = planned.unbegun }) of.item (event_of w) e.deed small of.is in
      let fixed = fixed_by old.kept of.item (event_of w) e.deed of.is in
      subst (IsOfPlan p object) of.gives (record {
        is_machine = planned.is_machine;
        owed = planned.owed;
        acks = planned.acks;
        disabled = planned.disabled;
        modes = bounds.same;
        queue = fixed.queue ∙ planned.queue;
        waits = fixed.waits ∙ planned.waits;
        moments = fixed.moments ∙ planned.moments;
        acked = fixed.acked ∙ planned.acked;
        disablings = fixed.disablings ∙ planned.disablings;
        settled = bounds.settled;
        next = bounds.next;
        unbegun = bounds.unbegun;
      })
  acted_planned (NotYet shown) asked held = subst (λ (s : MachineState). IsOfPlan p object s.kept) (sym held.same) asked.planned

pub acted_tells : (a : Actor) (w : Wanted) (old new : MachineState) (r : Acted) → IsActed a w old new r → (event : ℕ) → may_start old.kept event ≡ false → may_start new.kept event ≡ true → Contains new.woken event
acted_tells a w old new (Done e) made event off on = made.told.came event off on
acted_tells a w old new (NotYet shown) held event off on = absurd (false≢true (sym off ∙ sym (ap (λ (s : MachineState). may_start s.kept event) held.same) ∙ on))
