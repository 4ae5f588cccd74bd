-- 32 bits number what a plan that keeps rule 30 has of each kind.
use Rattle.std.proofs.Common.{◌≡◌, ℕ, ◌^◌, ◌<◌, ◌≤◌, List, length, Bool, true, false, cond, ◌||◌, nat_lt, Option, Some, None, unwrap_or, refl, sym, ap, ◌∙◌, arith}
use Rattle.bus_semantics.specs.Common.{ltb-false, or_parts, length-map}
use Rattle.bus_semantics.specs.declared.plan.BusPlan.{BusPlan}
use Rattle.plan_definitions.specs.Common.{Description, Flat, elem_seen, IsAfter, mapping_text, mode_port_at, Planned, plan_of, seen, IsOfLists, IsOfSize, IsRefusal, IsThen, is_too_large}
use Rattle.plan_definitions.specs.Common.{queue_lengths, things, mode_ports_of}
use Rattle.plan_definitions.specs.declared.site.Site.{Site}
use Rattle.plan_definitions.specs.ComponentRefusals as components
use Rattle.plan_definitions.specs.MappingRefusals as mapping
use Rattle.event_mapping.proofs.Counting.{few_mode_ports}
use Rattle.event_mapping.proofs.Foretelling.{elements_listed, elements_most}

-- its elements, points, mode machines and required mode elements
pub record AreFewNumbers (p : BusPlan) : Type 0 where
  pub elements : length p.elements < 2 ^ 32
  pub points : length p.points < 2 ^ 32
  pub machines : length p.machines < 2 ^ 32
  pub mode_ports : length p.mode_ports < 2 ^ 32

-- what is not refused keeps rule 30
pub keeps_size : (d : Description) (f : Flat) → IsRefusal d f None → is_too_large (plan_of d f) ≡ false
keeps_size d f kept = by (components.refusal d) kept
  where
    of_size : (b : Bool) → cond {A = Option (ℕ × List ℕ)} b (Some (30, mapping_text)) None ≡ None → b ≡ false
    of_size true h = cc
    of_size false h = refl

    by : (o : Option (ℕ × List ℕ)) → IsAfter o (IsThen (mapping.IsRefusal d f) (IsThen (IsOfSize d f) (IsOfLists d))) None → is_too_large (plan_of d f) ≡ false
    by None h = of_size (is_too_large (plan_of d f)) h.1.0
    by (Some x) h = cc

within : (p : Planned) → is_too_large p ≡ false → (things p ≤ 16384) × (length p.points ≤ 262144)
within p fits =
    let parts = or_parts (nat_lt 16384 (things p) || nat_lt 16384 (length p.events)) (nat_lt 65536 (queue_lengths p) || nat_lt 262144 (length p.points)) fits in
    let first = or_parts (nat_lt 16384 (things p)) (nat_lt 16384 (length p.events)) parts.0 in
    let last = or_parts (nat_lt 65536 (queue_lengths p)) (nat_lt 262144 (length p.points)) parts.1 in
    (ltb-false 16384 (things p) first.0, ltb-false 262144 (length p.points) last.1)

pub few_numbers : (p : BusPlan) (d : Description) (f : Flat) → seen p ≡ plan_of d f → is_too_large (plan_of d f) ≡ false → length f.joins ≤ 65536 → AreFewNumbers p
few_numbers p d f same fits joins =
    let few = within (plan_of d f) fits in
    let objects : things (plan_of d f) ≤ 16384 = few.0 in
    let as_many_elements : length p.elements ≡ length (plan_of d f).elements = sym (length-map p.elements elem_seen) ∙ ap (λ (x : Planned). length x.elements) same in
    let as_many_points : length p.points ≡ length (plan_of d f).points = ap (λ (x : Planned). length x.points) same in
    let as_many_machines : length p.machines ≡ length (plan_of d f).machines = ap (λ (x : Planned). length x.machines) same in
    let as_many_ports : length p.mode_ports ≡ length (mode_ports_of d f)
    = ap (λ (x : Planned). length x.mode_ports) same ∙ length-map (mode_ports_of d f) (λ (s : Site). mode_port_at d f s.owner (unwrap_or s.port 0)) in
    record {
      elements = omega (arith, as_many_elements, elements_listed d f, elements_most d f, objects, joins);
      points = omega (arith, as_many_points, few.1);
      machines = omega (arith, as_many_machines, objects);
      mode_ports = omega (arith, as_many_ports, few_mode_ports d f, joins);
    }
