-- What the counts tell of a plan.
use Rattle.std.proofs.Common.{◌≡◌, ℕ, ◌+◌, ◌-◌, ◌<◌, ◌≤◌, ◌==◌, [], filter, length, Bool, true, false, ◌||◌, nat_lt, Option, Some, None, ⊎_elim, refl, sym, ◌∙◌, arith, slice_get}
use Rattle.bus_semantics.specs.Common.{eqb-true, lt-ltb, or_cases, or_left, or_parts, or_right, length-map, sum_by, option_map_or, unwrap_or}
use Rattle.plan_definitions.specs.Common.{Component, Description, Flat, Instance, is_element, key_of, sites, elements_of, machines_of, servers_of, element_of, elements, group_of, leaders}
use Rattle.plan_definitions.specs.Common.{groups, event_of, events, events_of_component, machine_at, machines, callings, point_of, points, server_of, servers, area_of, areas, areas_at}
use Rattle.plan_definitions.specs.Common.{named_areas, plan_of, is_too_large, queue_lengths, things}
use Rattle.plan_definitions.specs.declared.site.Site.{Site}
use Rattle.plan_definitions.proofs.Apart.{apart_filter}
use Rattle.plan_definitions.proofs.Sites.{sites_apart}
use Rattle.event_mapping.specs.Foretold.{IsForetold, listed}
use Rattle.event_mapping.specs.Guard.{event_count, events_of_instance, is_counted, item_count, point_count}
use Rattle.event_mapping.proofs.Alone.{groups_most}
use Rattle.event_mapping.proofs.Spending.{some_left}
use Rattle.event_mapping.proofs.Totals.{areas_in, by_kind, callings_counted, length_from, sites_counted}

module _ (d : Description) (f : Flat) where
  events_listed : length (events d f) ≡ event_count d f
  events_listed = length_from (λ i (x : Instance). option_map_or (events_of_component d f i) (slice_get d.components x.component) []) (events_of_instance d) each 0 f.instances
    where
      each : (i : ℕ) (x : Instance) → length (option_map_or (events_of_component d f i) (slice_get d.components x.component) []) ≡ events_of_instance d x
      each i x = by (slice_get d.components x.component)
        where
          by : (o : Option Component) → length (option_map_or (events_of_component d f i) o []) ≡ option_map_or (λ (c : Component). length c.behavior.events) o 0
          by None = refl
          by (Some c) = length-map c.behavior.events (event_of d f i)

  areas_listed : length (areas d f) ≡ sum_by (areas_in d) f.instances
  areas_listed = length_from (λ i x. named_areas i (areas_at d x)) (areas_in d) each 0 f.instances
    where
      each : (i : ℕ) (x : Instance) → length (named_areas i (areas_at d x)) ≡ areas_in d x
      each i x = length-map (areas_at d x) (area_of i) ∙ by (slice_get d.components x.component)
        where
          by : (o : Option Component) → length (option_map_or (λ (c : Component). c.behavior.exclusive_areas) o []) ≡ option_map_or (λ (c : Component). length c.behavior.exclusive_areas) o 0
          by None = refl
          by (Some c) = refl

  pub elements_listed : length (elements d f) ≡ length (elements_of d f)
  elements_listed = length-map (elements_of d f) (λ s. element_of d f (group_of d f s) s)

  pub servers_listed : length (servers d f) ≡ length (servers_of d f)
  servers_listed = length-map (servers_of d f) (server_of d f)

  pub machines_listed : length (machines d f) ≡ length (machines_of d f)
  machines_listed = length-map (machines_of d f) (λ s. machine_at d f s.owner (unwrap_or s.port 0))

  points_listed : length (points d f) ≡ point_count d f
  points_listed = length-map (callings d f) (point_of d f) ∙ callings_counted d f

  all_listed : listed (plan_of d f) ≡ item_count d f
  all_listed =
      let counted = sites_counted d f in
      let kinds : length (elements_of d f) + (length (servers_of d f) + length (machines_of d f)) ≡ length (filter (λ s. is_counted s.kind) (sites d f)) = by_kind (sites d f) in
      omega (arith, counted, kinds, elements_listed, servers_listed, machines_listed, areas_listed)

  -- all but what the ends of joins name lead a group, and are objects with the clock
  pub elements_most : length (elements_of d f) ≤ length (groups (leaders d f)) + (length f.joins + length f.joins)
  elements_most = groups_most f.joins (elements_of d f) (apart_filter key_of (λ (s : Site). is_element s.kind) (sites d f) (sites_apart d f))

  objects_most : item_count d f < things (plan_of d f) + (length f.joins + length f.joins)
  objects_most = omega (arith, all_listed, elements_most, elements_listed)

  pub foretold : (answer : Bool) (most left few rest : ℕ) → answer ≡ ((left == 0) || ((few == 0) || (rest == 0))) → left ≡ 16385 - event_count d f → few ≡ 262145 - point_count d f
      → rest ≡ most - item_count d f → most ≡ 16384 + (length f.joins + length f.joins) → IsForetold answer d f
  foretold true most left few rest is events_are points_are items_are most_is = ⊎_elim many_events (λ h. ⊎_elim many_points many_objects (or_cases (few == 0) (rest == 0) h)) (or_cases (left == 0) ((few == 0) || (rest == 0)) (sym is))
    where
      objects_over : Bool
      objects_over = nat_lt 16384 (things (plan_of d f))

      events_over : Bool
      events_over = nat_lt 16384 (length (events d f))

      lengths_over : Bool
      lengths_over = nat_lt 65536 (queue_lengths (plan_of d f))

      points_over : Bool
      points_over = nat_lt 262144 (length (points d f))

      many_events : (left == 0) ≡ true → is_too_large (plan_of d f) ≡ true
      many_events none = let spent = eqb-true left 0 none in or_left (objects_over || events_over) (lengths_over || points_over)
          (or_right objects_over events_over (lt-ltb 16384 (length (events d f)) (omega (arith, spent, events_listed, events_are))))

      many_points : (few == 0) ≡ true → is_too_large (plan_of d f) ≡ true
      many_points none = let spent = eqb-true few 0 none in or_right (objects_over || events_over) (lengths_over || points_over)
          (or_right lengths_over points_over (lt-ltb 262144 (length (points d f)) (omega (arith, spent, points_listed, points_are))))

      many_objects : (rest == 0) ≡ true → is_too_large (plan_of d f) ≡ true
      many_objects none = let spent = eqb-true rest 0 none in or_left (objects_over || events_over) (lengths_over || points_over)
          (or_left objects_over events_over (lt-ltb 16384 (things (plan_of d f)) (omega (arith, spent, objects_most, items_are, most_is))))
  foretold false most left few rest is events_are points_are items_are most_is =
      let parts = or_parts (left == 0) ((few == 0) || (rest == 0)) (sym is) in
      let others = or_parts (few == 0) (rest == 0) parts.1 in
      let events_left = some_left left parts.0 in
      let points_left = some_left few others.0 in
      let items_left = some_left rest others.1 in
      record {
        objects = omega (arith, all_listed, items_left, items_are, most_is);
        events = omega (arith, events_left, events_listed, events_are);
        points = omega (arith, points_left, points_listed, points_are);
      }
