-- The description of `soak N` breaks no rule.
use Rattle.std.proofs.Common.{◌≡◌, ◌≤◌, ℕ, List, inl, inr, ⊎_elim, Some, None, refl, sym, ap, subst, ◌∙◌, if◌then◌else◌}
use Rattle.bus_semantics.specs.Common.{option_or, none-some}
use Rattle.rte_text.specs.declared.refusal.Refusal.{Refusal}
use Rattle.rte_text.specs.declared.refusal.Refused.TheVariants.{Rule}
use Rattle.plan_definitions.specs.Common.{Description, Flat, Join, IsFlatOf, Among, IsAfter, IsOfTasks, mapping_text, IsOfLists, IsOfSize, IsRefusal, IsThen}
use Rattle.description_places.specs.Catalogs.{catalog_of}
use Rattle.description_places.specs.Distinct.{breaks_distinct}
use Rattle.description_places.specs.References.{breaks_references}
use Rattle.description_shapes.specs.Rules.{breaks_names, breaks_shape, visits_of}
use Rattle.description_places.specs.Rules.{Reads, least_of}
use Rattle.description_places.specs.Rules as base
use Rattle.description_shapes.specs.Visits.{first_broken}
use Rattle.component_model.specs.Descriptions.{description_of, reading}
use Rattle.component_model.specs.Refusals as early
use Rattle.component_model.specs.Refusals.{IsRead, typed_refusal}
use Rattle.description_types.specs.Flattening as flattening
use Rattle.plan_definitions.specs.JoinRefusals as joins
use Rattle.plan_definitions.specs.MappingRefusals as mapping
use Rattle.description_stages.specs.Plans.{IsPlanRefusalOf}
use Rattle.description_stages.proofs.Sizes.{plan_counts}
use Rattle.soak_maker.specs.Soak.{soak_value}
use Rattle.soak_maker.proofs.Catalogs.{catalog_is, soak_catalog}
use Rattle.soak_maker.proofs.Distinct.{distinct}
use Rattle.soak_maker.proofs.Flat.{instances_are, joined, not_refused, soak_instances, soak_joins}
use Rattle.soak_maker.proofs.Held.{IsSoaked, soaked_back}
use Rattle.soak_maker.proofs.Joins.{may_join}
use Rattle.soak_maker.proofs.Mapped.{events_keep, none_reaches_itself}
use Rattle.soak_maker.proofs.Programs.{components_keep, lists_keep}
use Rattle.soak_maker.proofs.Reading.{reading_is}
use Rattle.soak_maker.proofs.References.{references}
use Rattle.soak_maker.proofs.Shapes.{names, none_passes, shapes, unbroken}
use Rattle.soak_maker.proofs.Sizes.{small}
use Rattle.soak_maker.proofs.Soaked.{soak_tree, soaked}
use Rattle.description_stages.proofs.WholePlans.{one_value}

-- ---- rules 1 to 8

module _ (n : ℕ) (few : n ≤ 64) where
  refers : first_broken (breaks_references (catalog_of (soak_value n))) (visits_of (soak_value n)) ≡ None
  refers = ap (λ c. first_broken (breaks_references c) (visits_of (soak_value n))) (catalog_is n)
      ∙ unbroken (breaks_references (soak_catalog n)) (visits_of (soak_value n)) (none_passes n (breaks_references (soak_catalog n)) (references n few))

  differs : first_broken (breaks_distinct (catalog_of (soak_value n))) (visits_of (soak_value n)) ≡ None
  differs = ap (λ c. first_broken (breaks_distinct c) (visits_of (soak_value n))) (catalog_is n)
      ∙ unbroken (breaks_distinct (soak_catalog n)) (visits_of (soak_value n)) (none_passes n (breaks_distinct (soak_catalog n)) (distinct n few))

  pub keeps_base : base.refusal (soak_value n) ≡ None
  keeps_base = λ i. least_of 2 (unbroken breaks_shape (visits_of (soak_value n)) (none_passes n breaks_shape (shapes n few)) i)
      (least_of 3 (unbroken breaks_names (visits_of (soak_value n)) (none_passes n breaks_names (names n few)) i)
      (least_of 4 (differs i) (least_of 5 (refers i) None)))

  typed_keeps : typed_refusal (soak_tree n) ≡ None
  typed_keeps = refl

  pub keeps_reading : early.refusal (soak_value n) ≡ None
  keeps_reading = λ i. option_or (keeps_base i) ((ap typed_refusal (reading_is n few) ∙ typed_keeps) i)

-- ---- rules 9 to 31

module _ (n : ℕ) (few : n ≤ 64) (d : Description) (is : IsSoaked n d) where
  open is use {producing as p, consuming as q, serving as s}

  -- the same flat description, by what is joined in it
  as_flat : (f : Flat) → IsFlatOf (soaked n p q s) f → f ≡ record { instances = soak_instances n; joins = f.joins }
  as_flat f flat = λ i. record { instances = (flat.instances_listed ∙ instances_are n few p q s) i; joins = f.joins }

  all_joins : (f : Flat) → IsFlatOf (soaked n p q s) f → (j : Join) → Among j f.joins → Among j (soak_joins n)
  all_joins f flat j among = joined n few p q s j ((flat.joined j).0 among)

  flat_of : (f : Flat) → IsFlatOf d f → IsFlatOf (soaked n p q s) f
  flat_of f flat = subst (λ e. IsFlatOf e f) is.is flat

  no_flat_refusal : (r : Refusal) → flattening.IsRefusalOf d (Rule r) → ⊥
  no_flat_refusal r refused = not_refused n few p q s r.rule r.place (subst (λ e. flattening.IsRefusedAt e r.rule r.place) is.is refused)

  joins_keep : (f : Flat) → IsFlatOf d f → joins.refusal d f ≡ None
  joins_keep f flat = let here = flat_of f flat in
      ap (λ e. joins.refusal e f) is.is ∙ (ap (joins.refusal (soaked n p q s)) (as_flat f here) ∙ may_join n p q s f.joins (all_joins f here))

  no_size_refusal : (js : List Join) (x : ℕ × List ℕ) → IsOfSize (soaked n p q s) (record { instances = soak_instances n; joins = js }) (Some x) → ⊥
  no_size_refusal js x refused =
      let f : Flat = record { instances = soak_instances n; joins = js } in
      none-some x (sym (ap (λ b. if b then Some (30, mapping_text) else None) (plan_counts (soaked n p q s) f ∙ small n few p q s js)) ∙ refused)

  no_list_refusal : (x : ℕ × List ℕ) → IsOfLists (soaked n p q s) (Some x) → ⊥
  no_list_refusal x refused = none-some x (sym (lists_keep n p q s is.producer_is is.consumer_is is.server_is) ∙ refused)

  module _ (js : List Join) (all : (j : Join) → Among j js → Among j (soak_joins n)) (x : ℕ × List ℕ) where
    abbrev made_flat : Flat
    made_flat = record { instances = soak_instances n; joins = js }

    no_task_refusal : mapping.IsRefusal (soaked n p q s) made_flat (Some x) → ⊥
    no_task_refusal refused = none_reaches_itself n few p q s js all (subst (λ o. IsAfter o (IsOfTasks (soaked n p q s) made_flat) (Some x)) (events_keep n few p q s js) refused).1

    no_mapping_refusal : IsRefusal (soaked n p q s) made_flat (Some x) → ⊥
    no_mapping_refusal refused =
        ⊎_elim no_task_refusal (λ later. ⊎_elim (no_size_refusal js x) (λ last. no_list_refusal x last.1) later.1)
        (subst (λ o. IsAfter o (IsThen (mapping.IsRefusal (soaked n p q s) made_flat) (IsThen (IsOfSize (soaked n p q s) made_flat) (IsOfLists (soaked n p q s)))) (Some x)) (components_keep n p q s is.producer_is is.consumer_is is.server_is) refused)

  no_refusal : (f : Flat) → IsFlatOf d f → (x : ℕ × List ℕ) → IsRefusal d f (Some x) → ⊥
  no_refusal f flat x refused = let here = flat_of f flat in
      no_mapping_refusal f.joins (all_joins f here) x (subst (λ g. IsRefusal (soaked n p q s) g (Some x)) (as_flat f here) (subst (λ e. IsRefusal e f (Some x)) is.is refused))

-- ---- the law

soaked_is : (n : ℕ) → n ≤ 64 → (bytes : List ℕ) → Reads bytes (soak_value n) → (d : Description) → IsRead bytes (description_of d) → IsSoaked n d
soaked_is n few bytes reads d read = soaked_back n d (read.is_reading ∙ (ap reading (one_value bytes read.value (soak_value n) read.reads reads) ∙ reading_is n few))

pub breaks_none : (n : ℕ) → n ≤ 64 → (bytes : List ℕ) → Reads bytes (soak_value n) → (r : Refusal) → IsPlanRefusalOf bytes (Rule r) → ⊥
breaks_none n few bytes reads r (inl (inl (inl (is, place, unread)))) = unread (soak_value n) reads
breaks_none n few bytes reads r (inl (inl (inr breaks))) =
    none-some (r.rule, r.place) (sym (ap early.refusal (one_value bytes breaks.value (soak_value n) breaks.reads reads) ∙ keeps_reading n few) ∙ breaks.is_least)
breaks_none n few bytes reads r (inl (inr later)) = let is = soaked_is n few bytes reads later.description later.is_read in
    ⊎_elim (no_flat_refusal n few later.description is r) (λ breaks. none-some (r.rule, r.place) (sym (joins_keep n few later.description is breaks.flat breaks.is_flat) ∙ breaks.is_refusal)) later.is_refusal
breaks_none n few bytes reads r (inr later) = let j = later.joined in let is = soaked_is n few bytes reads j.description later.is_joined.is_read in
    no_refusal n few j.description is j.flat later.is_joined.is_flat (r.rule, r.place) later.is_refusal
