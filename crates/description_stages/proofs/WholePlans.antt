-- The bytes of a description have one plan or one refusal.
use Rattle.std.proofs.Common.{◌≡◌, ℕ, List, [], ◌∷◌, map, Some, None, inl, inr, refl, sym, ap, subst, ◌∙◌, ◌⊎◌}
use Rattle.bus_semantics.specs.Common.{same_Some, Value-by_words}
use Rattle.serde_json.specs.Data.{Data}
use Rattle.rte_text.specs.declared.refusal.Refusal.{Refusal}
use Rattle.rte_text.specs.declared.refusal.Refused.TheVariants.{Rule}
use Rattle.plan_definitions.specs.Common.{Description, Flat, IsFlatOf, mapping_of, elem_seen, plan_of, seen, IsRefusal}
use Rattle.description_places.specs.Rules.{IsUnreadable, Reads}
use Rattle.component_model.specs.Descriptions.{DescriptionTree, description_of, reading}
use Rattle.component_model.specs.Refusals.{Breaks, IsRead, refusal}
use Rattle.bus_semantics.specs.declared.plan.BusPlan.{BusPlan}
use Rattle.bus_semantics.specs.declared.plan.ElemPlan.{ElemPlan}
use Rattle.bus_semantics.specs.Plan as bus
use Rattle.plan_definitions.specs.JoinRefusals as joins
use Rattle.description_stages.specs.declared.planning.PlannedDescription.{PlannedDescription}
use Rattle.description_stages.specs.Plans.{IsPlanRefusalOf, IsPlannedOf}
use Rattle.description_stages.specs.Stages.{IsJoinRefusalOf}
use Rattle.plan_text.specs.Lines.{plan_text}
use Rattle.description_stages.specs.Same.{IsSamePlan}
use Rattle.description_stages.proofs.Flat.{flat_as}
use Rattle.description_stages.proofs.Held.{held_is, held_same}
use Rattle.description_stages.proofs.Mapped.{mapping_of-again}
use Rattle.description_stages.proofs.Planned.{plan_of-again}
use Rattle.description_stages.proofs.Printed.{text-again, text-same}
use Rattle.description_stages.proofs.Refused.{Found, IsRefusedRead, after_first, after_none, none_some, read_once, read_refused_as}
use Rattle.description_stages.proofs.Sorted.{flat_once}

-- ---- reading is a function

pub one_value : (bytes : List ℕ) (v w : Data) → Reads bytes v → Reads bytes w → v ≡ w
one_value bytes v w (_, reads) (_, again) = same_Some v w (sym reads ∙ again)

one_tree : (bytes : List ℕ) (t u : DescriptionTree) → IsRead bytes t → IsRead bytes u → t ≡ u
one_tree bytes t u a b = a.is_reading ∙ (ap reading (one_value bytes a.value b.value a.reads b.reads) ∙ sym b.is_reading)

-- what is refused of the bytes, or nothing
abbrev IsBytesRefusal : List ℕ → ℕ × List ℕ → Type 0
IsBytesRefusal bytes x = IsUnreadable bytes x.0 x.1 ⊎ Breaks bytes x.0 x.1

bytes_once : (bytes : List ℕ) (x y : ℕ × List ℕ) → IsBytesRefusal bytes x → IsBytesRefusal bytes y → x ≡ y
bytes_once bytes x y (inl (r, p, none)) (inl (s, q, never)) = λ i. ((r ∙ sym s) i, (p ∙ sym q) i)
bytes_once bytes x y (inl (r, p, none)) (inr b) = absurd (none b.value b.reads)
bytes_once bytes x y (inr a) (inl (s, q, never)) = absurd (never a.value a.reads)
bytes_once bytes x y (inr a) (inr b) = same_Some x y (sym a.is_least ∙ (ap refusal (one_value bytes a.value b.value a.reads b.reads) ∙ b.is_least))

unread : (bytes : List ℕ) (x : ℕ × List ℕ) (t : DescriptionTree) → IsBytesRefusal bytes x → IsRead bytes t → ⊥
unread bytes x t (inl (r, p, none)) a = none a.value a.reads
unread bytes x t (inr b) a = let e = sym b.is_least ∙ (ap refusal (one_value bytes b.value a.value b.reads a.reads) ∙ a.is_unbroken) in absurd (none_some x (sym e))

-- ---- the outcome of all stages: a refusal, or none

abbrev IsOutcome : List ℕ → Found → Type 0
IsOutcome bytes o = ((x : ℕ × List ℕ) × IsBytesRefusal bytes x × (o ≡ Some x)) ⊎ ((d : Description) × IsRead bytes (description_of d) × IsRefusedRead d o)

outcome_once : (bytes : List ℕ) (o p : Found) → IsOutcome bytes o → IsOutcome bytes p → o ≡ p
outcome_once bytes o p (inl (x, refused, o_is)) (inl (y, again, p_is)) = o_is ∙ (ap (λ z. Some z) (bytes_once bytes x y refused again) ∙ sym p_is)
outcome_once bytes o p (inl (x, refused, o_is)) (inr (d, read, more)) = absurd (unread bytes x (description_of d) refused read)
outcome_once bytes o p (inr (d, read, more)) (inl (y, again, p_is)) = absurd (unread bytes y (description_of d) again read)
outcome_once bytes o p (inr (d, read, is)) (inr (e, also, same)) = let tree = one_tree bytes (description_of d) (description_of e) read also in
    read_once e o p (subst (λ h. IsRefusedRead h o) (held_is d e tree) (read_refused_as d e.components (held_same d e tree) o is)) same

join_outcome : (d : Description) (r : Refusal) → IsJoinRefusalOf d (Rule r) → IsRefusedRead d (Some (r.rule, r.place))
join_outcome d r (inl refused) = inl (r.rule, r.place, refused, refl)
join_outcome d r (inr x) = inr (x.flat, x.is_flat, after_first (joins.refusal d x.flat) (IsRefusal d x.flat) (r.rule, r.place) x.is_refusal)

refused_outcome : (bytes : List ℕ) (r : Refusal) → IsPlanRefusalOf bytes (Rule r) → IsOutcome bytes (Some (r.rule, r.place))
refused_outcome bytes r (inl (inl early)) = inl ((r.rule, r.place), early, refl)
refused_outcome bytes r (inl (inr later)) = inr (later.description, later.is_read, join_outcome later.description r later.is_refusal)
refused_outcome bytes r (inr x) = let j = x.joined in
    inr (j.description, x.is_joined.is_read, inr (j.flat, x.is_joined.is_flat, after_none (joins.refusal j.description j.flat) (IsRefusal j.description j.flat) (Some (r.rule, r.place)) x.is_joined.may_join x.is_refusal))

planned_outcome : (bytes : List ℕ) (x : PlannedDescription) → IsPlannedOf bytes x → IsOutcome bytes None
planned_outcome bytes x p = inr (
  x.description,
  p.is_read,
  inr (x.flat, p.is_whole.is_flat, after_none (joins.refusal x.description x.flat) (IsRefusal x.description x.flat) None p.is_whole.may_join p.is_whole.keeps_rules),
)

pub refusals_once : (bytes : List ℕ) (r s : Refusal) → IsPlanRefusalOf bytes (Rule r) → IsPlanRefusalOf bytes (Rule s) → r ≡ s
refusals_once bytes r s a b = let same = same_Some (r.rule, r.place) (s.rule, s.place) (outcome_once bytes (Some (r.rule, r.place)) (Some (s.rule, s.place)) (refused_outcome bytes r a) (refused_outcome bytes s b)) in
    λ i. record { rule = (same i).0; place = (same i).1 }

pub refused_unplanned : (bytes : List ℕ) (r : Refusal) (x : PlannedDescription) → IsPlanRefusalOf bytes (Rule r) → IsPlannedOf bytes x → ⊥
refused_unplanned bytes r x a p = none_some (r.rule, r.place) (outcome_once bytes None (Some (r.rule, r.place)) (planned_outcome bytes x p) (refused_outcome bytes r a))

-- ---- the plan

elem_once : (a b : ElemPlan) → elem_seen a ≡ elem_seen b → a ≡ b
elem_once a b e = let init = Value-by_words a.init b.init (ap (λ t. t.init) e) in
    λ i. record {
      instance = (e i).instance;
      name = (e i).name;
      kind = (e i).kind;
      provided = (e i).provided;
      joined = (e i).joined;
      group = (e i).group;
      limits = (e i).limits;
      words = (e i).words;
      init = init i;
      never_received = (e i).never_received;
      queue_length = (e i).queue_length;
    }

elems_once : (xs ys : List ElemPlan) → map elem_seen xs ≡ map elem_seen ys → xs ≡ ys
elems_once [] [] e = refl
elems_once [] (y ∷ ys) e = absurd cc
elems_once (x ∷ xs) [] e = absurd cc
elems_once (x ∷ xs) (y ∷ ys) e = let one : elem_seen x ≡ elem_seen y = cc in let others : map elem_seen xs ≡ map elem_seen ys = cc in
    λ i. elem_once x y one i ∷ elems_once xs ys others i

plan_once : (p q : BusPlan) → seen p ≡ seen q → bus.plan_of p ≡ bus.plan_of q
plan_once p q e = let elements = elems_once p.elements q.elements (ap (λ t. t.elements) e) in
    λ i. record {
      names = (e i).names;
      elements = elements i;
      groups = (e i).groups;
      points = (e i).points;
      servers = (e i).servers;
      areas = (e i).areas;
      machines = (e i).machines;
      mode_ports = (e i).mode_ports;
      events = (e i).events;
      runnables = (e i).runnables;
      lists = (e i).lists;
      homes = (e i).homes;
      bundles = (e i).bundles;
      objects = (e i).objects;
    }

module _ (d e : Description) (tree : description_of d ≡ description_of e) where
  flats : (f g : Flat) → IsFlatOf d f → IsFlatOf e g → f ≡ g
  flats f g a b = flat_once e f g (subst (λ h. IsFlatOf h f) (held_is d e tree) (flat_as d e.components (held_same d e tree) f a)) b

  plans : (f : Flat) → plan_of d f ≡ plan_of e f
  plans f = plan_of-again d e.components (held_same d e tree) f ∙ ap (λ h. plan_of h f) (held_is d e tree)

  mappings : (f : Flat) → mapping_of d f ≡ mapping_of e f
  mappings f = mapping_of-again d e.components (held_same d e tree) f ∙ ap (λ h. mapping_of h f) (held_is d e tree)

  texts : (f : Flat) (p : BusPlan) → plan_text d f p ≡ plan_text e f p
  texts f p = text-again d e.components (held_same d e tree) f p ∙ ap (λ h. plan_text h f p) (held_is d e tree)

pub plans_once : (bytes : List ℕ) (x y : PlannedDescription) → IsPlannedOf bytes x → IsPlannedOf bytes y → IsSamePlan x y
plans_once bytes x y p q =
    let tree = one_tree bytes (description_of x.description) (description_of y.description) p.is_read q.is_read in
    let flat = flats x.description y.description tree x.flat y.flat p.is_whole.is_flat q.is_whole.is_flat in
    let plan = plan_once x.plan y.plan (p.is_whole.is_plan ∙ (plans x.description y.description tree x.flat ∙ (ap (plan_of y.description) flat ∙ sym q.is_whole.is_plan))) in
    record {
      description = tree;
      flat = flat;
      plan = plan;
      mapping = p.is_whole.is_mapping ∙ (mappings x.description y.description tree x.flat ∙ (ap (mapping_of y.description) flat ∙ sym q.is_whole.is_mapping));
      text = texts x.description y.description tree x.flat x.plan ∙ (text-same y.description x.flat x.plan y.plan plan ∙ ap (λ f. plan_text y.description f y.plan) flat);
    }
