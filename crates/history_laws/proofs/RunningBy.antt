-- Between starts, admissions and ends that touch a machine, an event's activation runs: from its start, or from its admission where it
-- has disabled modes.
use Rattle.std.proofs.Common.{◌≡◌, ℕ, ◌+◌, ◌<◌, Bool, true, false, ◌&&◌, ◌||◌, not, ◌==◌, if◌then◌else◌, refl, sym, ◌∙◌, ap, subst, List, [], ◌∷◌, ◌++◌, length, Option, Some, None, is_some}
use Rattle.bus_semantics.specs.Common.{and_parts, and_right, or_right, eq-eqb, eqb-true, false≢true, same_Some, option_or, option_map_or, ActKey, Value, same_number, same_key}
use Rattle.bus_semantics.specs.Common.{same_key-Decides, Plan, kind_of, disabling_of, runnable_of_event, to_admit, wanted_by, History, note, newest, is_of, is_over, runs, last_started}
use Rattle.bus_semantics.specs.Common.{first_machine, object_of_kind, machine_object, disabler_of, owing, machine_of_event, touches, entries_of, key_fits, next_of_activity, Activation}
use Rattle.bus_semantics.specs.Common.{activation_of, with_deed, is_open, runs_by, MayFollow, IsLegal, may_be_disabled, IsSound}
use Rattle.std.specs.Prelude.{unwrap_or, is_none, option_map, nat_lt}
use Rattle.bus_laws.specs.Common.{EventKind, Timing, Init, DataReceived, Invoked, Returns, ModeSwitch, Ack, Disabling, Mapping, Actor, Env, Machine, Act, Deed, Entry}
use Rattle.bus_semantics.specs.declared.entries.Deed.TheVariants as deed
use Rattle.history_laws.proofs.Asking.{admission_first, admission_once, admission_disabled}
use Rattle.bus_laws.proofs.Thinning.{clash, not_same}
use Rattle.history_laws.proofs.Lists.{skipped}
use Rattle.history_laws.proofs.Keys.{mine, itself, begins, grown, none_started, Alive, alive, IsTo, others, starts, goes_on, is_to, fit_key, runs_mine, runs_other, activation_mine}
use Rattle.history_laws.proofs.Keys.{activation_other, started_mine, started_other}
use Rattle.history_laws.proofs.GoingOn.{acting}
use Rattle.history_laws.proofs.EventFacts.{can_be_disabled, start_apart, plain, unserved}

abbrev pub is_any : List Deed → Bool
is_any [] = false
is_any (d ∷ ds) = true

any_more : (ds : List Deed) (d : Deed) → is_any (ds ++ d ∷ []) ≡ true
any_more [] d = refl
any_more (x ∷ ds) d = refl

-- something was answered since the start
abbrev pub begun : Option Activation → Bool
begun o = option_map_or (λ (a : Activation). is_any a.deeds) o false

-- of an event that matters to a machine: its kind is a switch of the machine, or the machine disables it
data Matters (p : Plan) (e n : ℕ) : Type 0 where
  switches : disabling_of p e ≡ None → object_of_kind p (kind_of p e) ≡ Some (first_machine p + n) → Matters p e n
  disables : (d : Disabling) → disabling_of p e ≡ Some d → disabler_of p e ≡ Some n → n < length p.machines → may_be_disabled (kind_of p e) ≡ true → Matters p e n

matters : (p : Plan) (m : Mapping) → IsSound p m → (e n : ℕ) → machine_of_event p e ≡ Some n → Matters p e n
matters p m sound e n matter = by_disabling (disabling_of p e) refl
  where
    switch_of : (k : EventKind) → owing k None ≡ Some n → object_of_kind p k ≡ Some (first_machine p + n)
    switch_of (ModeSwitch t moment) is = ap (machine_object p) is
    switch_of (Timing period) is = absurd (cc is)
    switch_of Init is = absurd (cc is)
    switch_of (DataReceived x) is = absurd (cc is)
    switch_of (Invoked s) is = absurd (cc is)
    switch_of (Returns q) is = absurd (cc is)
    switch_of (Ack t) is = absurd (cc is)

    disabler_is : (k : EventKind) (o : Option ℕ) → may_be_disabled k ≡ true → owing k o ≡ o
    disabler_is (ModeSwitch t moment) o may = absurd (false≢true may)
    disabler_is (Timing period) o may = refl
    disabler_is Init o may = refl
    disabler_is (DataReceived x) o may = refl
    disabler_is (Invoked s) o may = refl
    disabler_is (Returns q) o may = refl
    disabler_is (Ack t) o may = refl

    by_disabling : (o : Option Disabling) → disabling_of p e ≡ o → Matters p e n
    by_disabling None is = switches is (switch_of (kind_of p e) (ap (λ o. owing (kind_of p e) (option_map (λ (d : Disabling). d.machine) o)) (sym is) ∙ matter))
    by_disabling (Some d) is =
        let can = can_be_disabled p m sound e d is in
        let disabler : disabler_of p e ≡ Some n = sym (disabler_is (kind_of p e) (disabler_of p e) can.kind) ∙ matter in
        let machine : d.machine ≡ n = same_Some d.machine n (sym (ap (option_map (λ (d : Disabling). d.machine)) is) ∙ disabler) in
        disables d is disabler (subst (λ x. x < length p.machines) machine can.machine) can.kind

module _ (p : Plan) (m : Mapping) (sound : IsSound p m) (e n : ℕ) (matter : machine_of_event p e ≡ Some n) (k : ActKey) (fit : key_fits p k ≡ true) (own : runnable_of_event p e ≡ Some k.runnable) where
  abbrev object : ℕ
  object = first_machine p + n

  abbrev never : Bool
  never = is_none (disabling_of p e)

  -- an activation by the event runs, and was admitted where it has to be
  abbrev running_by : History → Bool
  running_by h = runs k h && (same_number (last_started k h) (Some e) && (never || begun (activation_of k h)))

  one_key : (j : ActKey) → key_fits p j ≡ true → runnable_of_event p e ≡ Some j.runnable → same_key k j ≡ true
  one_key j there of =
      let runnables : k.runnable ≡ j.runnable = same_Some k.runnable j.runnable (sym own ∙ of) in
      let points : k.point ≡ j.point = plain p m sound k fit (unserved p m sound e n k matter own) ∙ sym (plain p m sound j there (unserved p m sound e n j matter of)) in
      (same_key-Decides k j).1 (λ i. record { runnable = runnables i; point = points i })

  -- ---- entries of other keys

  silent_key : (j : ActKey) (h : History) (d : Deed) → IsLegal p h → MayFollow p h (mine j d) → same_key k j ≡ false → runs_by e (note h (mine j d)) ≡ None
  silent_key j h d legal may apart = by_kind (is_to p j h (mine j d) may (alive p j h legal))
    where
      none_at : (o : Option ℕ) (v : Bool) → ((f : ℕ) → o ≡ Some f → (f == e) ≡ false) → (if same_number o (Some e) then Some v else None) ≡ None
      none_at None v other = refl
      none_at (Some f) v other = ap (λ b. if b then Some v else None) (other f refl)

      by_deed : (d : Deed) → begins d ≡ false → ((f : ℕ) → last_started j h ≡ Some f → (f == e) ≡ false) → runs_by e (note h (mine j d)) ≡ None
      by_deed (deed.Start event point value) other last = absurd (false≢true (sym other))
      by_deed (deed.Admit true) other last = none_at (last_started j h) true last
      by_deed (deed.Admit false) other last = refl
      by_deed deed.End other last = none_at (last_started j h) false last
      by_deed d other last = refl

      by_kind : IsTo p j h (mine j d) → runs_by e (note h (mine j d)) ≡ None
      by_kind (others other) = absurd (false≢true (sym other ∙ itself j))
      by_kind (starts event point value is mine idle runnable asked) = ap (λ x. runs_by e (note h x)) is ∙ by_test (e == event) refl
        where
          by_test : (b : Bool) → (e == event) ≡ b → (if e == event then Some true else None) ≡ None
          by_test false other = ap (λ c. if c then Some true else None) other
          by_test true same =
              let starts_it : runnable_of_event p e ≡ Some j.runnable = ap (runnable_of_event p) (eqb-true e event same) ∙ runnable in
              clash (same_key k j) (one_key j (fit_key p j d may.fit) starts_it) apart
      by_kind (goes_on is mine other running a next) = by_deed d other last
        where
          by_test : (f : ℕ) (b : Bool) → (f == e) ≡ b → a.activation.event ≡ f → b ≡ false
          by_test f false is at = refl
          by_test f true is at = clash (same_key k j) (one_key j a.key (ap (runnable_of_event p) (sym (at ∙ eqb-true f e is)) ∙ a.own)) apart

          last : (f : ℕ) → last_started j h ≡ Some f → (f == e) ≡ false
          last f is = by_test f (f == e) refl (same_Some a.activation.event f (sym a.started ∙ is))

  silent : (h : History) (x : Entry) → IsLegal p h → MayFollow p h x → is_of k x ≡ false → runs_by e (note h x) ≡ None
  silent h x legal may apart = by_actor x.actor x.deed may apart
    where
      by_env : (d : Deed) → MayFollow p h (record { actor = Env; deed = d }) → runs_by e (note h (record { actor = Env; deed = d })) ≡ None
      by_env (deed.Start event point value) may = absurd (false≢true may.fit)
      by_env (deed.Admit said) may = absurd (false≢true may.fit)
      by_env deed.End may = absurd (false≢true may.fit)
      by_env d may = refl

      by_machine : (t : ℕ) (d : Deed) → MayFollow p h (record { actor = Machine t; deed = d }) → runs_by e (note h (record { actor = Machine t; deed = d })) ≡ None
      by_machine t (deed.Start event point value) may = let inside = nat_lt t (length p.machines) in absurd (false≢true (and_parts inside false (and_parts (inside && false) _ may.fit).0).1)
      by_machine t (deed.Admit said) may = absurd (false≢true may.fit)
      by_machine t deed.End may = absurd (false≢true may.fit)
      by_machine t d may = refl

      by_actor : (a : Actor) (d : Deed) → MayFollow p h (record { actor = a; deed = d }) → is_of k (record { actor = a; deed = d }) ≡ false → runs_by e (note h (record { actor = a; deed = d })) ≡ None
      by_actor Env d may apart = by_env d may
      by_actor (Machine t) d may apart = by_machine t d may
      by_actor (Act j) d may apart = silent_key j h d legal may apart

  -- ---- entries of the key

  -- what is no admission comes after it
  begun_at : (h : History) (a : Alive p k h) (d : Deed) → a.activation.event ≡ e → (wanted_by e d ≡ to_admit e → ⊥)
      → next_of_activity p a.runnable a.activation.event a.activation.start a.activation.deeds ≡ Some (wanted_by a.activation.event d) → (never || begun (Some a.activation)) ≡ true
  begun_at h a d same other next = by_disabling (disabling_of p e) refl
    where
      by_deeds : (dd : Disabling) → disabling_of p e ≡ Some dd → (ds : List Deed) → a.activation.deeds ≡ ds → is_any ds ≡ true
      by_deeds dd is (x ∷ ds) at = refl
      by_deeds dd is [] at =
          let first : next_of_activity p a.runnable a.activation.event a.activation.start [] ≡ Some (to_admit a.activation.event) = admission_first p a.runnable a.activation.event a.activation.start dd (ap (disabling_of p) same ∙ is) in
          let wishes : wanted_by a.activation.event d ≡ to_admit a.activation.event =
          same_Some (wanted_by a.activation.event d) (to_admit a.activation.event) (sym next ∙ ap (next_of_activity p a.runnable a.activation.event a.activation.start) at ∙ first) in
          absurd (other (subst (λ x. wanted_by x d ≡ to_admit x) same wishes))

      by_disabling : (o : Option Disabling) → disabling_of p e ≡ o → (never || begun (Some a.activation)) ≡ true
      by_disabling None is = rw is refl
      by_disabling (Some dd) is = or_right never (is_any a.activation.deeds) (by_deeds dd is a.activation.deeds refl)

  -- an admission comes first, where the event has disabled modes
  unbegun_at : (h : History) (a : Alive p k h) → a.activation.event ≡ e → next_of_activity p a.runnable a.activation.event a.activation.start a.activation.deeds ≡ Some (to_admit a.activation.event)
      → (never || begun (Some a.activation)) ≡ false
  unbegun_at h a same next =
      let of = acting p m k h sound a in
      let some : is_some (disabling_of p e) ≡ true = subst (λ x. is_some (disabling_of p x) ≡ true) same (admission_disabled p m k a.runnable a.activation.event of a.activation.start a.activation.deeds a.activation.event next) in
      let none : a.activation.deeds ≡ [] = admission_once p m k a.runnable a.activation.event of a.activation.start a.activation.deeds a.followed a.activation.event next in
      λ i. not_none (disabling_of p e) some i || is_any (none i)
    where
      not_none : (o : Option Disabling) → is_some o ≡ true → is_none o ≡ false
      not_none None some = absurd (false≢true some)
      not_none (Some dd) some = refl

  at_event : (h : History) → runs k h ≡ true → (a : Alive p k h) → a.activation.event ≡ e → running_by h ≡ (never || begun (Some a.activation))
  at_event h running a same =
      let last : same_number (last_started k h) (Some e) ≡ true = ap (λ o. same_number o (Some e)) a.started ∙ eq-eqb a.activation.event e same in
      λ i. running i && (last i && (never || begun (a.is i)))

  other_event : (h : History) → same_number (last_started k h) (Some e) ≡ false → running_by h ≡ false
  other_event h other = and_right (runs k h) (same_number (last_started k h) (Some e) && (never || begun (activation_of k h))) (ap (λ b. b && (never || begun (activation_of k h))) other)

  idle_by : (h : History) → runs k h ≡ false → running_by h ≡ false
  idle_by h idle = ap (λ b. b && (same_number (last_started k h) (Some e) && (never || begun (activation_of k h)))) idle

  abbrev opened : History → Bool
  opened h = is_open (runs_by e) (entries_of p h object)

  unheard : (h : History) (x : Entry) → runs_by e (note h x) ≡ None → opened (x ∷ h) ≡ opened h
  unheard h x none = ap (λ o. unwrap_or o false) (skipped (runs_by e) (note h x) (entries_of p h object) (touches p object (note h x)) none)

  heard : (h : History) (x : Entry) (v : Bool) → touches p object (note h x) ≡ true → runs_by e (note h x) ≡ Some v → opened (x ∷ h) ≡ v
  heard h x v touch some =
      (λ i. is_open (runs_by e) (if touch i then note h x ∷ entries_of p h object else entries_of p h object)) ∙ ap (λ o. unwrap_or (option_or o (newest (runs_by e) (entries_of p h object))) false) some

  apart_from : (h : History) (x : Entry) → touches p object (note h x) ≡ false → opened (x ∷ h) ≡ opened h
  apart_from h x off = λ i. is_open (runs_by e) (if off i then note h x ∷ entries_of p h object else entries_of p h object)

  starting : (h : History) (event : ℕ) (point : Option ℕ) (value : Value) → runs k h ≡ false → opened h ≡ running_by h → opened (mine k (deed.Start event point value) ∷ h) ≡ running_by (mine k (deed.Start event point value) ∷ h)
  starting h event point value idle before = by_test (e == event) refl
    where
      x : Entry
      x = mine k (deed.Start event point value)

      last : last_started k (mine k (deed.Start event point value) ∷ h) ≡ Some event
      last = started_mine k (deed.Start event point value) h

      runs_now : runs k (mine k (deed.Start event point value) ∷ h) ≡ true
      runs_now = runs_mine k (deed.Start event point value) h

      is_now : begun (activation_of k (mine k (deed.Start event point value) ∷ h)) ≡ false
      is_now = ap begun (activation_mine k (deed.Start event point value) h)

      by_matter : event ≡ e → (e == event) ≡ true → Matters p e n → opened (mine k (deed.Start event point value) ∷ h) ≡ running_by (mine k (deed.Start event point value) ∷ h)
      by_matter same test (switches none at) =
          let touch : touches p object (note h (mine k (deed.Start event point value))) ≡ true = ap (λ f. same_number (object_of_kind p (kind_of p f)) (Some object)) same ∙ ap (λ o. same_number o (Some object)) at ∙ eq-eqb object object refl in
          let after : running_by (mine k (deed.Start event point value) ∷ h) ≡ true =
          (λ i. runs_now i && (same_number (last i) (Some e) && (is_none (none i) || begun (activation_of k (mine k (deed.Start event point value) ∷ h))))) ∙ ap (λ b. b && true) (eq-eqb event e same) in
          heard h (mine k (deed.Start event point value)) true touch (ap (λ b. if b then Some true else None) test) ∙ sym after
      by_matter same test (disables d is disabler small may) =
          let off : touches p object (note h (mine k (deed.Start event point value))) ≡ false = ap (λ f. same_number (object_of_kind p (kind_of p f)) (Some object)) same ∙ start_apart p m sound e n small may in
          let after : running_by (mine k (deed.Start event point value) ∷ h) ≡ false =
          (λ i. runs_now i && (same_number (last i) (Some e) && (is_none (is i) || is_now i))) ∙ and_right (event == e) false refl in
          apart_from h (mine k (deed.Start event point value)) off ∙ before ∙ idle_by h idle ∙ sym after

      by_test : (b : Bool) → (e == event) ≡ b → opened (mine k (deed.Start event point value) ∷ h) ≡ running_by (mine k (deed.Start event point value) ∷ h)
      by_test true same = by_matter (sym (eqb-true e event same)) same (matters p m sound e n matter)
      by_test false other =
          unheard h (mine k (deed.Start event point value)) (ap (λ b. if b then Some true else None) other) ∙ before ∙ idle_by h idle
          ∙ sym (other_event (mine k (deed.Start event point value) ∷ h) (ap (λ o. same_number o (Some e)) last ∙ not_same e event other))

  going : (h : History) (d : Deed) → begins d ≡ false → runs k h ≡ true → (a : Alive p k h) → a.activation.event ≡ e
      → next_of_activity p a.runnable a.activation.event a.activation.start a.activation.deeds ≡ Some (wanted_by a.activation.event d) → opened h ≡ running_by h → opened (mine k d ∷ h) ≡ running_by (mine k d ∷ h)
  going h d other running a same next before = by_deed d other next after
    where
      last : last_started k h ≡ Some e
      last = a.started ∙ ap (λ x. Some x) same

      test : same_number (last_started k h) (Some e) ≡ true
      test = ap (λ o. same_number o (Some e)) last ∙ eq-eqb e e refl

      after : running_by (mine k d ∷ h) ≡ not (is_over d)
      after =
          let started : last_started k (mine k d ∷ h) ≡ Some e = started_mine k d h ∙ ap (λ o. option_or o (last_started k h)) (none_started d other) ∙ last in
          let something : begun (activation_of k (mine k d ∷ h)) ≡ true =
          ap begun (activation_mine k d h ∙ ap (with_deed d) a.is ∙ grown d a.activation other) ∙ any_more a.activation.deeds d in
          (λ i. runs_mine k d h i && (same_number (started i) (Some e) && (never || something i)))
          ∙ (λ i. not (is_over d) && (eq-eqb e e refl i && or_right never true refl i)) ∙ whole (not (is_over d))
        where
          whole : (b : Bool) → (b && true) ≡ b
          whole true = refl
          whole false = refl

      by_deed : (d : Deed) → begins d ≡ false → next_of_activity p a.runnable a.activation.event a.activation.start a.activation.deeds ≡ Some (wanted_by a.activation.event d) → running_by (mine k d ∷ h) ≡ not (is_over d)
          → opened (mine k d ∷ h) ≡ running_by (mine k d ∷ h)
      by_deed (deed.Start event point value) other next after = absurd (false≢true (sym other))
      by_deed deed.End other next after = heard h (mine k deed.End) false touch (ap (λ b. if b then Some false else None) test) ∙ sym after
        where
          touch : touches p object (note h (mine k deed.End)) ≡ true
          touch = rw last (ap (λ o. same_number (machine_object p o) (Some object)) matter ∙ eq-eqb object object refl)
      by_deed (deed.Admit true) other next after = heard h (mine k (deed.Admit true)) true (by_matter (matters p m sound e n matter)) (ap (λ b. if b then Some true else None) test) ∙ sym after
        where
          some : is_some (disabling_of p e) ≡ true
          some = subst (λ x. is_some (disabling_of p x) ≡ true) same (admission_disabled p m k a.runnable a.activation.event (acting p m k h sound a) a.activation.start a.activation.deeds a.activation.event next)

          by_matter : Matters p e n → touches p object (note h (mine k (deed.Admit true))) ≡ true
          by_matter (switches none at) = clash (is_some (disabling_of p e)) some (ap is_some none)
          by_matter (disables dd is disabler small may) = rw last (ap (λ o. same_number (machine_object p o) (Some object)) disabler ∙ eq-eqb object object refl)
      by_deed (deed.Admit false) other next after = unheard h (mine k (deed.Admit false)) refl ∙ before ∙ at_event h running a same ∙ unbegun_at h a same next ∙ sym after
      by_deed d other next after = unheard h (mine k d) refl ∙ before ∙ at_event h running a same ∙ begun_at h a d same (λ is. absurd (cc is)) next ∙ sym after

  elsewhere : (h : History) (d : Deed) → begins d ≡ false → (a : Alive p k h) → (a.activation.event == e) ≡ false → opened h ≡ running_by h → opened (mine k d ∷ h) ≡ running_by (mine k d ∷ h)
  elsewhere h d other a apart before = unheard h (mine k d) (by_deed d other) ∙ before ∙ other_event h here ∙ sym (other_event (mine k d ∷ h) there)
    where
      here : same_number (last_started k h) (Some e) ≡ false
      here = ap (λ o. same_number o (Some e)) a.started ∙ apart

      there : same_number (last_started k (mine k d ∷ h)) (Some e) ≡ false
      there = ap (λ o. same_number o (Some e)) (started_mine k d h ∙ ap (λ o. option_or o (last_started k h)) (none_started d other)) ∙ here

      by_deed : (d : Deed) → begins d ≡ false → runs_by e (note h (mine k d)) ≡ None
      by_deed (deed.Start event point value) other = absurd (false≢true (sym other))
      by_deed (deed.Admit true) other = ap (λ b. if b then Some true else None) here
      by_deed (deed.Admit false) other = refl
      by_deed deed.End other = ap (λ b. if b then Some false else None) here
      by_deed d other = refl

  runs_open : (h : History) → IsLegal p h → opened h ≡ running_by h
  runs_open [] legal = refl
  runs_open (x ∷ h) legal = by_kind (runs_open h legal.0) (is_to p k h x legal.1 (alive p k h legal.0))
    where
      by_kind : opened h ≡ running_by h → IsTo p k h x → opened (x ∷ h) ≡ running_by (x ∷ h)
      by_kind before (others other) =
          let after : running_by (x ∷ h) ≡ running_by h = λ i. runs_other k x h other i && (same_number (started_other k x h other i) (Some e) && (never || begun (activation_other k x h other i))) in
          unheard h x (silent h x legal.0 legal.1 other) ∙ before ∙ sym after
      by_kind before (starts event point value is mine_is idle runnable asked) = subst (λ y. opened (y ∷ h) ≡ running_by (y ∷ h)) (sym is) (starting h event point value idle before)
      by_kind before (goes_on is mine_is other running a next) = subst (λ y. opened (y ∷ h) ≡ running_by (y ∷ h)) (sym is) (by_test (a.activation.event == e) refl)
        where
          by_test : (b : Bool) → (a.activation.event == e) ≡ b → opened (mine k x.deed ∷ h) ≡ running_by (mine k x.deed ∷ h)
          by_test true same = going h x.deed other running a (eqb-true a.activation.event e same) next before
          by_test false apart = elsewhere h x.deed other a apart before

  -- ---- what matches

  -- where the key is idle nothing is open
  pub idle_closed : (h : History) → IsLegal p h → runs k h ≡ false → opened h ≡ false
  idle_closed h legal idle = runs_open h legal ∙ idle_by h idle

  pub end_open : (h : History) → IsLegal p h → runs k h ≡ true → (a : Alive p k h) → a.activation.event ≡ e
      → next_of_activity p a.runnable a.activation.event a.activation.start a.activation.deeds ≡ Some (wanted_by a.activation.event deed.End) → opened h ≡ true
  end_open h legal running a same next = runs_open h legal ∙ at_event h running a same ∙ begun_at h a deed.End same (λ is. absurd (cc is)) next

  pub admit_closed : (h : History) → IsLegal p h → runs k h ≡ true → (a : Alive p k h) → a.activation.event ≡ e
      → next_of_activity p a.runnable a.activation.event a.activation.start a.activation.deeds ≡ Some (to_admit a.activation.event) → opened h ≡ false
  admit_closed h legal running a same next = runs_open h legal ∙ at_event h running a same ∙ unbegun_at h a same next
