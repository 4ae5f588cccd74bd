-- What the accesses to areas, machines and mode ports let the statements of a runnable ask.
use Rattle.std.proofs.Common.{◌≡◌, ℕ, ◌⊎◌, inl, inr, Bool, true, ◌&&◌, not, ◌==◌, sym, ◌∙◌, ap, subst, [], length, Some, None}
use Rattle.std.specs.Prelude.{nat_lt}
use Rattle.bus_semantics.specs.Common.{list_any, slice_get, and_from, and_parts, or_cases, eqb-true, false≢true, same_number, AccessSig, is_at, serves_switch, Plan, Runnable, area_fits}
use Rattle.bus_semantics.specs.Common.{modes_of, switch_fits, mode_port_fits, access, is_to, same_kind, access_sound, each_access, rises_to, IsSound}
use Rattle.runnable_lang.specs.declared.program.AccessKind.TheVariants as kind
use Rattle.runnable_lang.specs.Accesses.{serves}
use Rattle.bus_laws.specs.Common.{MachinePlan, Mapping}
use Rattle.history_laws.specs.LookUps.{sought, looked, looks}
use Rattle.history_laws.proofs.Served.{served, sound_of_kind, of_serves, kind_same, any_sound}
use Rattle.history_laws.proofs.Accesses.{accesses_sound, distinct, rising, target}

module _ (p : Plan) (m : Mapping) (sound : IsSound p m) (i : ℕ) (r : Runnable) (there : slice_get p.runnables i ≡ Some r) where
  abbrev pub enters : ℕ → AccessSig → Bool
  enters x = serves kind.Enter 0 x None None

  -- the number of an area that the runnable enters
  abbrev pub area : ℕ → ℕ
  area x = (access r kind.Enter 0 x).target

  pub area_may : (x : ℕ) → list_any (enters x) r.accesses ≡ true → area_fits p (Some r.instance) (area x) ≡ true
  area_may x has = (target p m sound i r there kind.Enter 0 x None None has).is

  -- an area that is declared later has the greater number
  pub area_rises : (x y : ℕ) → list_any (enters x) r.accesses ≡ true → list_any (enters y) r.accesses ≡ true → nat_lt x y ≡ true → nat_lt (area x) (area y) ≡ true
  area_rises x y has_x has_y less =
      let apart = distinct p m sound i r there in
      let one = served (λ a t. each_access (rises_to a t) r.accesses r.targets) kind.Enter 0 x (enters x) (of_serves kind.Enter 0 x None None) r.accesses r.targets (rising p m sound i r there) apart has_x in
      let two = served (rises_to one.sig (area x)) kind.Enter 0 y (enters y) (of_serves kind.Enter 0 y None None) r.accesses r.targets one.sound apart has_y in
      let first = and_parts (is_at kind.Enter 0 one.sig) (one.sig.item == x) (of_serves kind.Enter 0 x None None one.sig one.serves) in
      let second = and_parts (is_at kind.Enter 0 two.sig) (two.sig.item == y) (of_serves kind.Enter 0 y None None two.sig two.serves) in
      let kinds : (same_kind one.sig.kind kind.Enter && same_kind two.sig.kind kind.Enter) ≡ true =
      and_from (same_kind one.sig.kind kind.Enter) (same_kind two.sig.kind kind.Enter) (and_parts (same_kind one.sig.kind kind.Enter) (one.sig.port == 0) first.0).0 (and_parts (same_kind two.sig.kind kind.Enter) (two.sig.port == 0) second.0).0 in
      let items : nat_lt one.sig.item two.sig.item ≡ true =
      ap (λ a. nat_lt a two.sig.item) (eqb-true one.sig.item x first.1) ∙ ap (λ b. nat_lt x b) (eqb-true two.sig.item y second.1) ∙ less in
      by_cases one.sig two.sig (and_from (same_kind one.sig.kind kind.Enter && same_kind two.sig.kind kind.Enter) (nat_lt one.sig.item two.sig.item) kinds items) (or_cases (not ((same_kind one.sig.kind kind.Enter && same_kind two.sig.kind kind.Enter) && nat_lt one.sig.item two.sig.item)) (nat_lt (area x) (area y)) two.sound)
    where
      by_cases : (a b : AccessSig) → ((same_kind a.kind kind.Enter && same_kind b.kind kind.Enter) && nat_lt a.item b.item) ≡ true
          → (not ((same_kind a.kind kind.Enter && same_kind b.kind kind.Enter) && nat_lt a.item b.item) ≡ true) ⊎ (nat_lt (area x) (area y) ≡ true) → nat_lt (area x) (area y) ≡ true
      by_cases a b both (inl never) = absurd (false≢true (sym (ap not both) ∙ never))
      by_cases a b both (inr is) = is

  -- ---- modes

  abbrev switching : (port mode : ℕ) → AccessSig → Bool
  switching port mode a = serves_switch port mode a && (a.item == 0)

  switch_item : (port mode : ℕ) (a : AccessSig) (n : ℕ) → access_sound p i (Some r.instance) a n ≡ true → serves_switch port mode a ≡ true → switching port mode a ≡ true
  switch_item port mode a n ok passes =
      let is = kind_same a.kind kind.Switch (and_parts (same_kind a.kind kind.Switch) (a.port == port) (and_parts (is_at kind.Switch port a) (nat_lt mode a.modes) passes).0).0 in
      let parts = and_parts (switch_fits p (Some r.instance) n 0) ((a.modes == modes_of p n) && (a.item == 0)) (sound_of_kind p i (Some r.instance) a kind.Switch n is ok) in
      and_from (serves_switch port mode a) (a.item == 0) passes (and_parts (a.modes == modes_of p n) (a.item == 0) parts.1).1

  of_switching : (port mode : ℕ) (a : AccessSig) → switching port mode a ≡ true → is_to kind.Switch port 0 a ≡ true
  of_switching port mode a passes =
      let parts = and_parts (serves_switch port mode a) (a.item == 0) passes in
      and_from (same_kind a.kind kind.Switch && (a.port == port)) (a.item == 0) (and_parts (is_at kind.Switch port a) (nat_lt mode a.modes) parts.0).0 parts.1

  pub switch_may : (port mode : ℕ) → list_any (serves_switch port mode) r.accesses ≡ true → switch_fits p (Some r.instance) (access r kind.Switch port 0).target mode ≡ true
  switch_may port mode has =
      let n = (access r kind.Switch port 0).target in
      let ok = accesses_sound p m sound i r there in
      let some = any_sound (access_sound p i (Some r.instance)) (serves_switch port mode) (switching port mode) (switch_item port mode) r.accesses r.targets ok has in
      let s = served (access_sound p i (Some r.instance)) kind.Switch port 0 (switching port mode) (of_switching port mode) r.accesses r.targets ok (distinct p m sound i r there) some in
      let parts = and_parts (switch_fits p (Some r.instance) n 0) ((s.sig.modes == modes_of p n) && (s.sig.item == 0)) (sound_of_kind p i (Some r.instance) s.sig kind.Switch n s.kind s.sound) in
      let modes : s.sig.modes ≡ modes_of p n = eqb-true s.sig.modes (modes_of p n) (and_parts (s.sig.modes == modes_of p n) (s.sig.item == 0) parts.1).0 in
      let less : nat_lt mode s.sig.modes ≡ true = (and_parts (is_at kind.Switch port s.sig) (nat_lt mode s.sig.modes) (and_parts (serves_switch port mode s.sig) (s.sig.item == 0) s.serves).0).1 in
      let at = sought p.machines n (λ (v : MachinePlan). same_number v.instance (Some r.instance) && nat_lt 0 (length v.modes)) parts.0 in
      let count : modes_of p n ≡ length at.item.modes = looked p.machines n at.item (λ (v : MachinePlan). length v.modes) 0 at.found in
      looks p.machines n at.item (λ (v : MachinePlan). same_number v.instance (Some r.instance) && nat_lt mode (length v.modes)) at.found
      (and_from (same_number at.item.instance (Some r.instance)) (nat_lt mode (length at.item.modes)) (and_parts (same_number at.item.instance (Some r.instance)) (nat_lt 0 (length at.item.modes)) at.holds).0
      (subst (λ k. nat_lt mode k ≡ true) (modes ∙ count) less))

  pub mode_may : (port : ℕ) → list_any (serves kind.Mode port 0 None None) r.accesses ≡ true → mode_port_fits p (Some r.instance) (access r kind.Mode port 0).target ≡ true
  mode_may port has = (and_parts (mode_port_fits p (Some r.instance) (access r kind.Mode port 0).target) _ (target p m sound i r there kind.Mode port 0 None None has).is).0

  pub invalidates_may : (port item : ℕ) → list_any (serves kind.Invalidate port item None None) r.accesses ≡ true
      → access_sound p i (Some r.instance) (record { kind = kind.Invalidate; port = port; item = item; ins = []; outs = []; modes = 0 }) (access r kind.Invalidate port item).target ≡ true
  invalidates_may port item has = (target p m sound i r there kind.Invalidate port item None None has).is

  pub updated_may : (port item : ℕ) → list_any (serves kind.IsUpdated port item None None) r.accesses ≡ true
      → access_sound p i (Some r.instance) (record { kind = kind.IsUpdated; port = port; item = item; ins = []; outs = []; modes = 0 }) (access r kind.IsUpdated port item).target ≡ true
  updated_may port item has = (target p m sound i r there kind.IsUpdated port item None None has).is
