-- Mode machines: they have the modes and the first mode of a mode group, and a queue as a port says.
use Rattle.std.proofs.Common.{◌≡◌, ℕ, [], length, true, false, ◌&&◌, nat_lt, Option, Some, option_and_then, unwrap_or, refl, sym, ap, subst, ◌∙◌, ⊎_elim, true≢false}
use Rattle.bus_semantics.specs.Common.{and_from, and_parts, list_all, option_map_or, machine_sound, is_in}
use Rattle.plan_definitions.specs.Common.{InterfaceKind, ClientServer, ModeSwitch, SenderReceiver, ModeElement, ModeGroup, PortKind, Description, Flat, Among, is_machine, kind_at, sites}
use Rattle.plan_definitions.specs.Common.{item_text, queue_length_of, machine_number, machines_of, group_at, group_in, machine_at, machines, waits_of, IsWellFormed, group_fits, kind_fits}
use Rattle.plan_definitions.specs.Common.{names_fit, IsWhole}
use Rattle.bus_laws.specs.Common.{BusPlan, MachinePlan, Mapping}
use Rattle.plan_definitions.specs.declared.site.Site.{Site}
use Rattle.sound_plans.proofs.Kept.{interface_is, queue_keeps, some_group}
use Rattle.plan_definitions.proofs.Lists.{all_from, unkept, unmapped}
use Rattle.plan_definitions.proofs.Sites.{AtPort, IsVariable, is_site}
use Rattle.sound_plans.proofs.Keeping.{of_interface}
use Rattle.sound_plans.proofs.Seen.{machines_are}

-- a machine is the mode element of an interface
machine_kind : (owner : Option ℕ) (side : PortKind) (k : InterfaceKind) → is_machine (kind_at owner side k) ≡ true → (x : ModeElement) × (k ≡ ModeSwitch x)
machine_kind owner side (SenderReceiver es) h = cc
machine_kind owner side (ClientServer os) h = cc
machine_kind owner side (ModeSwitch x) h = (x, refl)

module _ (d : Description) (w : IsWellFormed d) (f : Flat) where
  by_group : (owner : Option ℕ) (k : ℕ) (g : ModeGroup) → group_at d f owner k ≡ Some g → group_fits g ≡ true → is_in 1 1024 (queue_length_of d f owner k 0) ≡ true → machine_sound (machine_at d f owner k) ≡ true
  by_group owner k g is fits queue = subst (λ o. machine_sound (record { instance = owner; name = item_text d f owner k 0; modes = option_map_or (λ (x : ModeGroup). x.modes) o []; initial = option_map_or (λ (x : ModeGroup). x.initial_mode) o 0; queue = queue_length_of d f owner k 0; waits = waits_of d f (machine_number d f (owner, Some k, 0)) }) ≡ true) (sym is)
      (let p = and_parts (is_in 1 32 (length g.modes)) (names_fit g.modes && nat_lt g.initial_mode (length g.modes)) fits in
      let q = and_parts (names_fit g.modes) (nat_lt g.initial_mode (length g.modes)) p.1 in
      and_from (is_in 1 32 (length g.modes)) (nat_lt g.initial_mode (length g.modes) && is_in 1 1024 (queue_length_of d f owner k 0)) p.0
      (and_from (nat_lt g.initial_mode (length g.modes)) (is_in 1 1024 (queue_length_of d f owner k 0)) q.1 queue))

  at_site : (s : Site) → is_machine s.kind ≡ true → AtPort d f s → machine_sound (machine_at d f s.owner (unwrap_or s.port 0)) ≡ true
  at_site s machine p =
      let x = machine_kind s.owner p.port.kind p.interface.kind (sym (ap is_machine p.kind) ∙ machine) in
      let fits = subst (λ k. kind_fits d.types k ≡ true) x.1 (of_interface d w p.port.interface p.interface p.has_interface) in
      let q = and_parts _ (nat_lt x.0.of_type (length d.types.mode_groups)) fits in
      let g = some_group d w x.0.of_type q.1 in
      subst (λ o. machine_sound (machine_at d f s.owner (unwrap_or o 0)) ≡ true) (sym p.at)
      (by_group s.owner p.k g.0 (ap (option_and_then (group_in d)) (interface_is d w f s.owner p.k p.port p.interface p.has_port p.has_interface ∙ ap (λ k. Some k) x.1) ∙ g.1) g.2 (queue_keeps d w f s.owner p.k 0 p.port p.has_port))

  not_variable : (s : Site) → is_machine s.kind ≡ true → IsVariable d f s → ⊥
  not_variable s machine v = let e : is_machine s.kind ≡ false = ap is_machine v.kind in true≢false (sym machine ∙ e)

  each_machine : (s : Site) → Among s (machines_of d f) → machine_sound (machine_at d f s.owner (unwrap_or s.port 0)) ≡ true
  each_machine s among =
      let p = unkept (λ (x : Site). is_machine x.kind) (sites d f) s among in
      ⊎_elim (at_site s p.1) (λ v. absurd (not_variable s p.1 v)) (is_site d f s p.0)

  pub machines_keep : list_all machine_sound (machines d f) ≡ true
  machines_keep = all_from machine_sound (machines d f) each
    where
      each : (n : MachinePlan) → Among n (machines d f) → machine_sound n ≡ true
      each n among =
          let p = unmapped (λ (s : Site). machine_at d f s.owner (unwrap_or s.port 0)) (machines_of d f) n among in
          subst (λ x. machine_sound x ≡ true) (sym p.2) (each_machine p.0 p.1)

pub machines_sound : (d : Description) (f : Flat) (p : BusPlan) (m : Mapping) → IsWhole d f p m → list_all machine_sound p.machines ≡ true
machines_sound d f p m w = subst (λ ns. list_all machine_sound ns ≡ true) (sym (machines_are d f p w.is_plan)) (machines_keep d w.well_formed f)
