-- The bytes of a description have a plan or a refusal.
use Rattle.std.proofs.Common.{◌≡◌, ℕ, ◌^◌, ◌<◌, ◌≤◌, List, length, codes, Bool, true, false, cond, Option, Some, None, ◌⊎◌, inl, inr, refl, sym, ap, subst, ◌∙◌, true≢false, arith}
use Rattle.std.proofs.lemmas.Str.{IsUtf8-from_is_utf8, is_utf8-from_IsUtf8}
use Rattle.std.specs.Prelude.{IsUtf8}
use Rattle.std.specs.Str.{is_utf8}
use Rattle.serde_json.specs.Data.{Data}
use Rattle.serde_json.specs.Read.{read}
use Rattle.rte_text.specs.declared.refusal.Refusal.{Refusal}
use Rattle.bus_semantics.specs.declared.plan.BusPlan.{BusPlan}
use Rattle.bus_semantics.specs.declared.script.Mapping.{Mapping}
use Rattle.bus_semantics.specs.Plan as bus
use Rattle.bus_semantics.specs.Sound.{IsSound}
use Rattle.plan_definitions.specs.Common.{Description, Flat, IsFlatOf, IsAfter, IsOfTasks, mapping_text, HaveOrder, ReachesItself, IsOfLists, IsOfSize, IsRefusal, IsThen, plan_of, seen}
use Rattle.plan_definitions.specs.Common.{is_too_large, mapping_of, IsWellFormed, IsWhole}
use Rattle.declared_names.proofs.Reading.{short_few}
use Rattle.description_places.specs.Rules.{Reads}
use Rattle.component_model.specs.Descriptions.{description_of, reading}
use Rattle.component_model.specs.Refusals.{IsRead, refusal}
use Rattle.plan_definitions.specs.declared.component_rule.ComponentRule.TheVariants as rule
use Rattle.plan_definitions.specs.ComponentRefusals as components
use Rattle.plan_definitions.specs.JoinRefusals as joins
use Rattle.plan_definitions.specs.MappingRefusals as mapping
use Rattle.mapping_rules.proofs.Reached.{never_reaches}
use Rattle.outcome_laws.specs.Flattened as flat
use Rattle.outcome_laws.specs.Outcomes.{HasPlan, HasRefusal}
use Rattle.outcome_laws.proofs.Described.{description_for}
use Rattle.outcome_laws.proofs.Plans.{plan_for}
use Rattle.outcome_laws.proofs.Waits.{order_or_circle}

abbrev Outcome : List ℕ → Type 0
Outcome bytes = HasPlan bytes ⊎ HasRefusal bytes

-- ---- rules 16 to 31

module _ (d : Description) (f : Flat) where
  -- what is refused, or nothing, and the tasks have an order
  abbrev Judged : (Option (ℕ × List ℕ) → Type 0) → Type 0
  Judged is_refusal = ((x : ℕ × List ℕ) × is_refusal (Some x)) ⊎ (is_refusal None × HaveOrder d f)

  abbrev Later : Option (ℕ × List ℕ) → Type 0
  Later = IsThen (mapping.IsRefusal d f) (IsThen (IsOfSize d f) (IsOfLists d))

  of_events : (o : Option (ℕ × List ℕ)) → mapping.of_events d f ≡ o → HaveOrder d f ⊎ ReachesItself d f → Judged (mapping.IsRefusal d f)
  of_events (Some x) is tasks = inl (x, subst (λ o. IsAfter o (IsOfTasks d f) (Some x)) (sym is) refl)
  of_events None is (inl order) = inr (subst (λ o. IsAfter o (IsOfTasks d f) None) (sym is) (never_reaches d f order), order)
  of_events None is (inr circle) = inl ((29, mapping_text), subst (λ o. IsAfter o (IsOfTasks d f) (Some (29, mapping_text))) (sym is) (refl, circle))

  of_lists : (o : Option (ℕ × List ℕ)) → components.of_rule rule.CoherentLists d ≡ o → mapping.IsRefusal d f None → IsOfSize d f None → HaveOrder d f → Judged Later
  of_lists (Some x) is keeps size order = inl (x, inr (keeps, inr (size, is)))
  of_lists None is keeps size order = inr ((keeps, (size, is)), order)

  of_size : (b : Bool) → is_too_large (plan_of d f) ≡ b → mapping.IsRefusal d f None → HaveOrder d f → Judged Later
  of_size true is keeps order = inl ((30, mapping_text), inr (keeps, inl (ap (λ b. cond b (Some (30, mapping_text)) None) is)))
  of_size false is keeps order = of_lists (components.of_rule rule.CoherentLists d) refl keeps (ap (λ b. cond b (Some (30, mapping_text)) None) is) order

  of_mapping : Judged (mapping.IsRefusal d f) → Judged Later
  of_mapping (inl (x, broken)) = inl (x, inl broken)
  of_mapping (inr (keeps, order)) = of_size (is_too_large (plan_of d f)) refl keeps order

  of_components : (o : Option (ℕ × List ℕ)) → components.refusal d ≡ o → Judged Later → Judged (IsRefusal d f)
  of_components (Some x) is later = inl (x, subst (λ o. IsAfter o Later (Some x)) (sym is) refl)
  of_components None is (inl (x, broken)) = inl (x, subst (λ o. IsAfter o Later (Some x)) (sym is) broken)
  of_components None is (inr (keeps, order)) = inr (subst (λ o. IsAfter o Later None) (sym is) keeps, order)

  judged : Judged (IsRefusal d f)
  judged = of_components (components.refusal d) refl (of_mapping (of_events (mapping.of_events d f) refl (order_or_circle d f)))

-- ---- a description that is read

abbrev refused_by : ℕ × List ℕ → Refusal
refused_by x = record { rule = x.0; place = x.1 }

module _ (sound : (d : Description) (f : Flat) (p : BusPlan) (m : Mapping) → IsWhole d f p m → IsSound (bus.plan_of p) m) (bytes : List ℕ) (d : Description) (is_read : IsRead bytes (description_of d)) (well_formed : IsWellFormed d) where
  module _ (f : Flat) (is_flat : IsFlatOf d f) (may_join : joins.refusal d f ≡ None) where
    planned : (p : BusPlan) × (seen p ≡ plan_of d f) → IsRefusal d f None → HaveOrder d f → Outcome bytes
    planned (p, is_plan) keeps order =
        let whole : IsWhole d f p (mapping_of d f) = record { well_formed = well_formed; is_flat = is_flat; may_join = may_join; keeps_rules = keeps; has_order = order; is_plan = is_plan; is_mapping = refl } in
        inl (record { description = d; flat = f; plan = p; mapping = mapping_of d f }, record { is_read = is_read; is_whole = whole; is_sound = sound d f p (mapping_of d f) whole })

    of_mapped : Judged d f (IsRefusal d f) → Outcome bytes
    of_mapped (inl (x, broken)) = inr (
      refused_by x,
      inr (record {
        joined = record { description = d; flat = f };
        is_joined = record { is_read = is_read; is_flat = is_flat; may_join = may_join };
        is_refusal = broken;
      }),
    )
    of_mapped (inr (keeps, order)) = planned (plan_for d f) keeps order

  of_joins : (f : Flat) → IsFlatOf d f → (o : Option (ℕ × List ℕ)) → joins.refusal d f ≡ o → Outcome bytes
  of_joins f is_flat (Some x) is = inr (refused_by x, inl (inr (record { description = d; is_read = is_read; is_refusal = inr (record { flat = f; is_flat = is_flat; is_refusal = is }) })))
  of_joins f is_flat None is = of_mapped f is_flat is (judged d f)

  of_flat : flat.HasFlat d ⊎ flat.HasRefusal d → Outcome bytes
  of_flat (inl (f, is_flat)) = of_joins f is_flat (joins.refusal d f) refl
  of_flat (inr (r, refused)) = inr (r, inl (inr (record { description = d; is_read = is_read; is_refusal = inl refused })))

-- ---- bytes

module _ (law : (bytes : List ℕ) (d : Description) → length bytes < 2 ^ 64 → IsRead bytes (description_of d) → IsWellFormed d)
    (flattened : (d : Description) → flat.HasFlat d ⊎ flat.HasRefusal d)
    (sound : (d : Description) (f : Flat) (p : BusPlan) (m : Mapping) → IsWhole d f p m → IsSound (bus.plan_of p) m) (bytes : List ℕ) (short : length bytes ≤ 8388608) where
  unreadable : ((d : Data) → ¬ Reads bytes d) → Outcome bytes
  unreadable none = inr (refused_by (1, codes "/"), inl (inl (inl (refl, refl, none))))

  described : (value : Data) → Reads bytes value → refusal value ≡ None → (d : Description) × (description_of d ≡ reading value) → Outcome bytes
  described value reads unbroken (d, is) =
      let is_read : IsRead bytes (description_of d) = record { value = value; reads = reads; is_unbroken = unbroken; is_reading = is } in
      of_flat sound bytes d is_read (law bytes d (omega (arith, short)) is_read) (flattened d)

  of_value : (value : Data) → Reads bytes value → (o : Option (ℕ × List ℕ)) → refusal value ≡ o → Outcome bytes
  of_value value reads (Some x) is = inr (refused_by x, inl (inl (inr (record { value = value; reads = reads; is_least = is }))))
  of_value value reads None is = described value reads is (description_for value ((short_few bytes (omega (arith, short))).small value reads.1))

  of_text : IsUtf8 bytes → (o : Option Data) → read bytes ≡ o → Outcome bytes
  of_text utf8 None is = unreadable (λ d reads. let e : None ≡ Some d = sym is ∙ reads.1 in cc)
  of_text utf8 (Some value) is = of_value value (utf8, is) (refusal value) refl

  of_bytes : (b : Bool) → is_utf8 bytes ≡ b → Outcome bytes
  of_bytes true is = of_text (IsUtf8-from_is_utf8 bytes is) (read bytes) refl
  of_bytes false is = unreadable (λ d reads. absurd (true≢false (sym (is_utf8-from_IsUtf8 bytes reads.0) ∙ is)))

  pub has_outcome : Outcome bytes
  has_outcome = of_bytes (is_utf8 bytes) refl
