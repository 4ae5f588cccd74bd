-- The modes in which a machine of a sound plan stands, and those that are switched to, are modes of it.
use Rattle.std.proofs.Common.{◌≡◌, ℕ, Bool, true, false, ◌&&◌, ◌==◌, if◌then◌else◌, refl, sym, ◌∙◌, ap, subst, arith, [], ◌∷◌, length, Option, Some, None}
use Rattle.bus_semantics.specs.Common.{and_parts, eqb-true, false≢true, nat_tests, same_Some, option_map_or, slice_get, list_all, Step, same_number, Plan, instance_of, to_switch, wanted_by}
use Rattle.bus_semantics.specs.Common.{Noted, Past, needs_event, key_fits, modes_of, switch_fits, wish_fits, activation_fits, answer_fits, phase_fits, fits, phase_in, phase_of, closed_mode}
use Rattle.bus_semantics.specs.Common.{is_stable_phase, is_stable, next_of, settled_of, initial_of, mode_of, switched_to, accepted_switches, first_unbegun, phase_after, phase_may_come}
use Rattle.bus_semantics.specs.Common.{starts_its_own, is_proper, is_in, machine_sound, IsPastOf}
use Rattle.std.specs.Prelude.{nat_lt, nat_le}
use Rattle.rte_value.specs.declared.kinds.Step.TheVariants as step
use Rattle.bus_laws.specs.Common.{MachinePlan, Actor, Env, Machine, Act, Deed}
use Rattle.bus_semantics.specs.declared.entries.Deed.TheVariants as deed
use Rattle.bus_laws.proofs.Thinning.{noting, option_same}
use Rattle.bus_laws.proofs.LocalServers.{answer_part}
use Rattle.history_laws.specs.LookUps.{all_at}
use Rattle.history_laws.proofs.Lists.{AtEnd, earlier, last, at_end}

pub proper_past : (p : Plan) (object : ℕ) (l : Past) → IsPastOf p object l → list_all (is_proper p) l ≡ true
proper_past p object [] past = refl
proper_past p object (n ∷ l) past = λ i. past.1.proper i && proper_past p object l past.0 i

pub wish_part : (p : Plan) (n : Noted) → is_proper p n ≡ true → (if needs_event n.entry.deed then activation_fits p n.entry.actor else wish_fits p n.entry.actor (wanted_by 0 n.entry.deed)) ≡ true
wish_part p n proper =
    let wish = if needs_event n.entry.deed then activation_fits p n.entry.actor else wish_fits p n.entry.actor (wanted_by 0 n.entry.deed) in
    (and_parts wish (answer_fits p n.entry.actor n.entry.deed) (and_parts (fits p n.entry) (starts_its_own p n.entry.actor n.entry.deed) proper).0).0

-- ---- phases

module _ (p : Plan) (m : ℕ) where
  -- the mode of a Close
  close_small : (a : Actor) (d : Deed) (event : Option ℕ) (mode : ℕ) → is_proper p (noting a d event) ≡ true → closed_mode (phase_of m (noting a d event)) ≡ Some mode → nat_lt mode (modes_of p m) ≡ true
  close_small Env d event mode proper e = absurd (cc e)
  close_small (Act k) d event mode proper e = absurd (cc e)
  close_small (Machine n) d event mode proper e = by_machine (m == n) refl e
    where
      by_deed : (d : Deed) → answer_fits p (Machine n) d ≡ true → closed_mode (phase_in d) ≡ Some mode → nat_lt mode (modes_of p n) ≡ true
      by_deed (deed.Phase (step.Close other)) fit e = subst (λ x. nat_lt x (modes_of p n) ≡ true) (same_Some other mode e) fit
      by_deed (deed.Phase step.Exit) fit e = absurd (cc e)
      by_deed (deed.Phase step.Transition) fit e = absurd (cc e)
      by_deed (deed.Phase step.Entry) fit e = absurd (cc e)
      by_deed (deed.Phase step.Stable) fit e = absurd (cc e)
      by_deed d fit e = absurd (cc e)

      by_machine : (b : Bool) → (m == n) ≡ b → closed_mode (if b then phase_in d else None) ≡ Some mode → nat_lt mode (modes_of p m) ≡ true
      by_machine true same e = subst (λ x. nat_lt mode (modes_of p x) ≡ true) (sym (eqb-true m n same)) (by_deed d (answer_part p (noting (Machine n) d event) proper) e)
      by_machine false same e = absurd (cc e)

  module _ (first : nat_lt (initial_of p m) (modes_of p m) ≡ true) where
    next_small : (l : Past) → list_all (is_proper p) l ≡ true → nat_lt (next_of p m l) (modes_of p m) ≡ true
    next_small [] fine = first
    next_small (n ∷ l) fine =
        let parts = and_parts (is_proper p n) (list_all (is_proper p) l) fine in
        by_close (next_small l parts.1) parts.0 (closed_mode (phase_of m n)) refl
      where
        by_close : nat_lt (next_of p m l) (modes_of p m) ≡ true → is_proper p n ≡ true → (o : Option ℕ) → closed_mode (phase_of m n) ≡ o → nat_lt (next_of p m (n ∷ l)) (modes_of p m) ≡ true
        by_close before proper None is = rw is before
        by_close before proper (Some mode) is = rw is (close_small n.entry.actor n.entry.deed n.event mode proper is)

    settled_small : (l : Past) → list_all (is_proper p) l ≡ true → nat_lt (settled_of p m l) (modes_of p m) ≡ true
    settled_small [] fine = first
    settled_small (n ∷ l) fine =
        let parts = and_parts (is_proper p n) (list_all (is_proper p) l) fine in
        by_test (settled_small l parts.1) (next_small l parts.1) (is_stable_phase (phase_of m n))
      where
        by_test : nat_lt (settled_of p m l) (modes_of p m) ≡ true → nat_lt (next_of p m l) (modes_of p m) ≡ true → (b : Bool) → nat_lt (if b then next_of p m l else settled_of p m l) (modes_of p m) ≡ true
        by_test before next true = next
        by_test before next false = before

le_of_lt : (a b : ℕ) → nat_lt a b ≡ true → nat_le a b ≡ true
le_of_lt a b less = grind (arith, nat_tests)

le_same : (a : ℕ) → nat_le a a ≡ true
le_same a = grind (arith, nat_tests)

-- a mode port shows a mode of its machine, or their number
pub mode_small : (p : Plan) (m : ℕ) (l : Past) → list_all machine_sound p.machines ≡ true → list_all (is_proper p) l ≡ true → nat_le (mode_of p m l) (modes_of p m) ≡ true
mode_small p m l sound fine = by_machine (slice_get p.machines m) refl
  where
    by_stable : (n : MachinePlan) → slice_get p.machines m ≡ Some n → nat_lt (initial_of p m) (modes_of p m) ≡ true → (b : Bool) → nat_le (if b then settled_of p m l else length n.modes) (length n.modes) ≡ true
    by_stable n there first true =
        let modes : modes_of p m ≡ length n.modes = ap (λ (o : Option MachinePlan). option_map_or (λ (x : MachinePlan). length x.modes) o 0) there in
        le_of_lt (settled_of p m l) (length n.modes) (subst (λ x. nat_lt (settled_of p m l) x ≡ true) modes (settled_small p m first l fine))
    by_stable n there first false = le_same (length n.modes)

    by_machine : (o : Option MachinePlan) → slice_get p.machines m ≡ o → nat_le (mode_of p m l) (modes_of p m) ≡ true
    by_machine None there = rw there refl
    by_machine (Some n) there =
        let initial : nat_lt n.initial (length n.modes) ≡ true =
        (and_parts (nat_lt n.initial (length n.modes)) (is_in 1 1024 n.queue) (and_parts (is_in 1 32 (length n.modes)) (nat_lt n.initial (length n.modes) && is_in 1 1024 n.queue) (all_at machine_sound p.machines m n sound there)).1).0 in
        rw there (by_stable n there (rw there initial) (is_stable m l))

-- ---- switches

switch_part : (p : Plan) (a : Actor) (m mode code : ℕ) (event : Option ℕ) → is_proper p (noting a (deed.Switch m mode code) event) ≡ true → nat_lt mode (modes_of p m) ≡ true
switch_part p a m mode code event proper = by_actor a (wish_part p (noting a (deed.Switch m mode code) event) proper)
  where
    by_machine : (home : Option ℕ) (o : Option MachinePlan) → option_map_or (λ (n : MachinePlan). same_number n.instance home && nat_lt mode (length n.modes)) o false ≡ true
        → nat_lt mode (option_map_or (λ (n : MachinePlan). length n.modes) o 0) ≡ true
    by_machine home None fit = absurd (false≢true fit)
    by_machine home (Some n) fit = (and_parts (same_number n.instance home) (nat_lt mode (length n.modes)) fit).1

    by_actor : (a : Actor) → wish_fits p a (to_switch m mode) ≡ true → nat_lt mode (modes_of p m) ≡ true
    by_actor Env fit = by_machine None (slice_get p.machines m) fit
    by_actor (Machine n) fit = absurd (false≢true (and_parts (nat_lt n (length p.machines)) false fit).1)
    by_actor (Act k) fit = by_machine (instance_of p k.runnable) (slice_get p.machines m) (and_parts (key_fits p k) (switch_fits p (instance_of p k.runnable) m mode) fit).1

switched_small : (p : Plan) (m : ℕ) (a : Actor) (d : Deed) (event : Option ℕ) (mode : ℕ) → is_proper p (noting a d event) ≡ true → switched_to m d ≡ Some mode → nat_lt mode (modes_of p m) ≡ true
switched_small p m a (deed.Switch n other code) event mode proper e = by_test (m == n) refl (code == 0) e
  where
    by_test : (b : Bool) → (m == n) ≡ b → (c : Bool) → (if b && c then Some other else None) ≡ Some mode → nat_lt mode (modes_of p m) ≡ true
    by_test true same true e =
        let small : nat_lt mode (modes_of p n) ≡ true = subst (λ x. nat_lt x (modes_of p n) ≡ true) (same_Some other mode e) (switch_part p a n other code event proper) in
        subst (λ x. nat_lt mode (modes_of p x) ≡ true) (sym (eqb-true m n same)) small
    by_test true same false e = absurd (cc e)
    by_test false same c e = absurd (cc e)
switched_small p m a d event mode proper e = absurd (cc e)

accepted_small : (p : Plan) (m : ℕ) (l : Past) (i mode : ℕ) → list_all (is_proper p) l ≡ true → slice_get (accepted_switches m l) i ≡ Some mode → nat_lt mode (modes_of p m) ≡ true
accepted_small p m [] i mode fine e = absurd (cc e)
accepted_small p m (n ∷ l) i mode fine e =
    let parts = and_parts (is_proper p n) (list_all (is_proper p) l) fine in
    by_switch (accepted_small p m l i mode parts.1) parts.0 (switched_to m n.entry.deed) refl
  where
    by_switch : (slice_get (accepted_switches m l) i ≡ Some mode → nat_lt mode (modes_of p m) ≡ true) → is_proper p n ≡ true → (o : Option ℕ) → switched_to m n.entry.deed ≡ o → nat_lt mode (modes_of p m) ≡ true
    by_switch before proper None is = before (rw is at e)
    by_switch before proper (Some new) is = by_place (at_end (accepted_switches m l) new i mode (rw is at e))
      where
        by_place : AtEnd (accepted_switches m l) new i mode → nat_lt mode (modes_of p m) ≡ true
        by_place (earlier there) = before there
        by_place (last there) = switched_small p m n.entry.actor n.entry.deed n.event mode proper (is ∙ ap (λ x. Some x) there)

-- the mode of a phase that may come is one of the machine's
pub phase_small : (p : Plan) (a : Actor) (l : Past) (s : Step) → list_all (is_proper p) l ≡ true → phase_may_come p a l s ≡ true → phase_fits p a s ≡ true
phase_small p Env l s fine may = absurd (false≢true may)
phase_small p (Act k) l s fine may = absurd (false≢true may)
phase_small p (Machine m) l (step.Close mode) fine may = by_stage _ may
  where
    by_stage : (stage : Step) → phase_after p m l stage (step.Close mode) ≡ true → nat_lt mode (modes_of p m) ≡ true
    by_stage step.Stable may = accepted_small p m l _ mode fine (option_same (first_unbegun m l) (Some mode) may)
    by_stage stage may = absurd (false≢true may)
phase_small p (Machine m) l step.Exit fine may = refl
phase_small p (Machine m) l step.Transition fine may = refl
phase_small p (Machine m) l step.Entry fine may = refl
phase_small p (Machine m) l step.Stable fine may = refl
