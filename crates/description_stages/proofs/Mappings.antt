-- What the mapping of a description keeps.
use Rattle.std.proofs.Common.{◌≡◌, ℕ, ◌≤◌, ◌<◌, ◌^◌, map, length, Bool, true, ◌&&◌, leb, ltb, codes, Option, Some, None, refl, sym, ap, subst, arith, ◌∙◌}
use Rattle.bus_semantics.specs.Common.{list_all, option_and_then, unwrap_or, and_parts, and_from, false≢true, leb-true, ltb-true, length-map, is_in}
use mathlib.Core.List.{map-map}
use Rattle.serde_json.specs.Data.{Data, null, array, Items}
use Rattle.serde_json.specs.Events.{items_len}
use Rattle.serde_json.specs.Find.{as_number, as_u64, get}
use Rattle.description_shapes.specs.declared.kind.Kind.TheVariants as of_kind
use Rattle.description_shapes.specs.declared.kind.Kind.TheVariants.{Description}
use Rattle.description_places.specs.Distinct.{stands_before}
use Rattle.description_places.specs.Catalogs.{catalog_of}
use Rattle.description_shapes.specs.Keys.{needed, optional}
use Rattle.description_shapes.specs.Shape.{holds, is_within}
use Rattle.description_shapes.specs.Spots.{Spot, top, inside, inside_part}
use Rattle.plan_definitions.specs.Common.{MappedEvent, Task, TaskMapping, names_fit}
use Rattle.declared_names.specs.Names.{has_name, position_in, short_names}
use Rattle.declared_names.specs.Values.{below as under, items_at, listed, number_at, text_at, text_in}
use Rattle.component_model.specs.Compositions.{mapped_event_reading, mapping_reading, task_reading}
use Rattle.description_stages.proofs.Kept.{Kept, kept_part, shape_here, found_here}
use Rattle.description_stages.proofs.Naming.{all_listed, Objects, on_list, short_names_fit}
use Rattle.description_stages.proofs.Positions.{items_there, low}
use Rattle.description_stages.proofs.Readings.{below_is, counted_array, items_counted, number_fits}
use Rattle.description_stages.proofs.Shorts.{needed_value, text_there, Value}

-- the fields of a mapping, as `mapping_fits` has them
abbrev pub fits_mapping : TaskMapping → Bool
fits_mapping m =
    is_in 1 8 m.cores && (leb (length m.tasks) 256
    && (names_fit (map (λ (t : Task). t.short_name) m.tasks) && (list_all (λ (t : Task). ltb t.core m.cores) m.tasks
    && list_all (λ (x : MappedEvent). ltb x.task (length m.tasks)) m.events)))

tasks_list : Objects of_kind.Tasks of_kind.Task
tasks_list = record { parts = λ ps i. refl; short = λ x. refl }

module _ (d m : Data) (kept : Kept (catalog_of d) d Description top) (there : get (codes "mapping") d ≡ Some m)
    (kept_m : Kept (catalog_of d) m of_kind.Mapping (inside top Description d (codes "mapping"))) where
  abbrev spot : Spot
  spot = inside top Description d (codes "mapping")

  -- the tasks as the lists have them
  mapped : (catalog_of d).mapping.tasks ≡ short_names (items_at (codes "tasks") m)
  mapped = ap (λ o. short_names (items_at (codes "tasks") (unwrap_or o null))) there

  tasks_there : (ps : Items) → get (codes "tasks") m ≡ Some (array ps) → items_at (codes "tasks") (unwrap_or (get (codes "mapping") d) null) ≡ listed ps
  tasks_there ps at = ap (λ o. items_at (codes "tasks") (unwrap_or o null)) there ∙ items_there (codes "tasks") m ps at

  cores_value : Value (catalog_of d) m of_kind.Mapping spot (needed "cores" of_kind.CoreCount)
  cores_value = needed_value (catalog_of d) m of_kind.Mapping spot 0 (needed "cores" of_kind.CoreCount) refl refl refl kept_m

  cores_within : holds (is_within 1 8) (option_and_then as_u64 (option_and_then as_number (get (codes "cores") m))) ≡ true
  cores_within = subst (λ o. holds (is_within 1 8) (option_and_then as_u64 (option_and_then as_number o)) ≡ true) (sym cores_value.there)
      (shape_here (catalog_of d) cores_value.value of_kind.CoreCount (inside spot of_kind.Mapping m (codes "cores")) cores_value.kept)

  cores_fit : is_in 1 8 (number_at (2 ^ 32) 0 (codes "cores") m) ≡ true
  cores_fit = number_fits (2 ^ 32) 0 1 8 (option_and_then as_u64 (option_and_then as_number (get (codes "cores") m))) cores_within (omega arith)

  tasks_counted : leb (length (map task_reading (items_at (codes "tasks") m))) 256 ≡ true
  tasks_counted = on_list (catalog_of d) m of_kind.Mapping spot 1 (optional "tasks" of_kind.Tasks) refl refl (counted_array 0 256) kept_m
      (λ xs. leb (length (map task_reading xs)) 256 ≡ true) refl
      (λ ps at kept. let shape = shape_here (catalog_of d) (array ps) of_kind.Tasks (inside spot of_kind.Mapping m (codes "tasks")) kept in
      ap (λ n. leb n 256) (length-map (listed ps) task_reading ∙ items_counted ps) ∙ (and_parts (leb 0 (items_len ps)) (leb (items_len ps) 256) shape).1)

  tasks_named : names_fit (map (λ (t : Task). t.short_name) (map task_reading (items_at (codes "tasks") m))) ≡ true
  tasks_named = on_list (catalog_of d) m of_kind.Mapping spot 1 (optional "tasks" of_kind.Tasks) refl refl (counted_array 0 256) kept_m
      (λ xs. names_fit (map (λ (t : Task). t.short_name) (map task_reading xs)) ≡ true) refl
      (λ ps at kept. ap names_fit (map-map (λ (t : Task). t.short_name) task_reading (listed ps)) ∙ short_names_fit (catalog_of d) of_kind.Tasks of_kind.Task (inside spot of_kind.Mapping m (codes "tasks")) ps tasks_list (λ i y is. ap (λ xs. stands_before (map (text_at (codes "shortName")) xs) (text_at (codes "shortName") y) i) (tasks_there ps at)) kept)

  core_fits : (o c : Option ℕ) → holds (is_within 1 8) c ≡ true → holds (λ n. ltb n (unwrap_or c 0)) o ≡ true → ltb (under (2 ^ 32) 0 o) (under (2 ^ 32) 0 c) ≡ true
  core_fits None c h k = absurd (false≢true k)
  core_fits (Some n) None h k = absurd (false≢true h)
  core_fits (Some n) (Some c) h k =
      let low : c ≤ 8 = leb-true c 8 (and_parts (leb 1 c) (leb c 8) h).1 in
      let less : n < c = ltb-true n c k in
      let n_is : under (2 ^ 32) 0 (Some n) ≡ n = below_is (2 ^ 32) 0 n (omega arith) in
      let c_is : under (2 ^ 32) 0 (Some c) ≡ c = below_is (2 ^ 32) 0 c (omega arith) in
      ap (λ x. ltb x (under (2 ^ 32) 0 (Some c))) n_is ∙ ap (ltb n) c_is ∙ k

  cores_low : list_all (λ (t : Task). ltb t.core (number_at (2 ^ 32) 0 (codes "cores") m)) (map task_reading (items_at (codes "tasks") m)) ≡ true
  cores_low = on_list (catalog_of d) m of_kind.Mapping spot 1 (optional "tasks" of_kind.Tasks) refl refl (counted_array 0 256) kept_m
      (λ xs. list_all (λ (t : Task). ltb t.core (number_at (2 ^ 32) 0 (codes "cores") m)) (map task_reading xs) ≡ true) refl
      (λ ps at kept. all_listed (λ (t : Task). ltb t.core (number_at (2 ^ 32) 0 (codes "cores") m)) task_reading ps
      (λ i x is. of_task ps i x (kept_part (catalog_of d) ps of_kind.Tasks (inside spot of_kind.Mapping m (codes "tasks")) i x kept is)))
    where
      of_task : (ps : Items) (i : ℕ) (x : Data) → Kept (catalog_of d) x of_kind.Task (inside_part (inside spot of_kind.Mapping m (codes "tasks")) of_kind.Tasks (array ps) i)
          → ltb (number_at (2 ^ 32) 0 (codes "core") x) (number_at (2 ^ 32) 0 (codes "cores") m) ≡ true
      of_task ps i x kept =
          let at = inside_part (inside spot of_kind.Mapping m (codes "tasks")) of_kind.Tasks (array ps) i in
          let v = needed_value (catalog_of d) x of_kind.Task at 1 (needed "core" of_kind.CoreNumber) refl refl refl kept in
          core_fits (option_and_then as_u64 (option_and_then as_number (get (codes "core") x))) (option_and_then as_u64 (option_and_then as_number (get (codes "cores") m))) cores_within
          (subst (λ o. holds (λ n. ltb n (unwrap_or (option_and_then as_u64 (option_and_then as_number (get (codes "cores") m))) 0)) (option_and_then as_u64 (option_and_then as_number o)) ≡ true) (sym v.there)
          (found_here (catalog_of d) v.value of_kind.CoreNumber (inside at of_kind.Task x (codes "core")) v.kept))

  events_placed : list_all (λ (x : MappedEvent). ltb x.task (length (map task_reading (items_at (codes "tasks") m)))) (map (mapped_event_reading (short_names (items_at (codes "tasks") m))) (items_at (codes "events") m)) ≡ true
  events_placed = on_list (catalog_of d) m of_kind.Mapping spot 2 (optional "events" of_kind.MappedEvents) refl refl (λ v h. h) kept_m
      (λ xs. list_all (λ (x : MappedEvent). ltb x.task (length (map task_reading (items_at (codes "tasks") m)))) (map (mapped_event_reading (short_names (items_at (codes "tasks") m))) xs) ≡ true) refl
      (λ ps at kept. all_listed (λ (x : MappedEvent). ltb x.task (length (map task_reading (items_at (codes "tasks") m)))) (mapped_event_reading (short_names (items_at (codes "tasks") m))) ps
      (λ i x is. of_event ps i x (kept_part (catalog_of d) ps of_kind.MappedEvents (inside spot of_kind.Mapping m (codes "events")) i x kept is)))
    where
      of_event : (ps : Items) (i : ℕ) (x : Data) → Kept (catalog_of d) x of_kind.MappedEvent (inside_part (inside spot of_kind.Mapping m (codes "events")) of_kind.MappedEvents (array ps) i)
          → ltb (position_in (short_names (items_at (codes "tasks") m)) (text_at (codes "task") x)) (length (map task_reading (items_at (codes "tasks") m))) ≡ true
      of_event ps i x kept_x =
          let at = inside_part (inside spot of_kind.Mapping m (codes "events")) of_kind.MappedEvents (array ps) i in
          let v = needed_value (catalog_of d) x of_kind.MappedEvent at 2 (needed "task" of_kind.TaskName) refl refl refl kept_x in
          subst (λ t. ltb (position_in (short_names (items_at (codes "tasks") m)) t) (length (map task_reading (items_at (codes "tasks") m))) ≡ true) (sym (text_there (catalog_of d) x of_kind.MappedEvent at (needed "task" of_kind.TaskName) v))
          (low (text_at (codes "shortName")) task_reading (items_at (codes "tasks") m) (text_in v.value)
          (subst (λ ns. has_name ns (text_in v.value) ≡ true) mapped (found_here (catalog_of d) v.value of_kind.TaskName (inside at of_kind.MappedEvent x (codes "task")) v.kept)))

  mapping_kept : fits_mapping (mapping_reading m) ≡ true
  mapping_kept = and_from _ _ cores_fit (and_from _ _ tasks_counted (and_from _ _ tasks_named (and_from _ _ cores_low events_placed)))

pub mapping_law : (d : Data) → Kept (catalog_of d) d Description top → fits_mapping (mapping_reading (unwrap_or (get (codes "mapping") d) null)) ≡ true
mapping_law d kept =
    let v = needed_value (catalog_of d) d Description top 6 (needed "mapping" of_kind.Mapping) refl refl refl kept in
    subst (λ o. fits_mapping (mapping_reading (unwrap_or o null)) ≡ true) (sym v.there) (mapping_kept d v.value kept v.there v.kept)
