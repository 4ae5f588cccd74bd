-- A description made flat, with what the rules on it refuse, has one refusal or none.
use Rattle.std.proofs.Common.{◌≡◌, ℕ, ◌<◌, List, map, length, Option, Some, None, inl, inr, refl, sym, ap, subst, ◌∙◌, ◌⊎◌, arith}
use Rattle.plan_definitions.specs.Common.{Component, Description, IsBrokenConnector, IsFirstBroken, IsFirst, ContainsItself, Flat, IsFlatOf, IsRefusedAt, composition_place, connector_place}
use Rattle.plan_definitions.specs.Common.{IsAfter, IsOfTasks, mapping_text, of_events, IsOfLists, IsOfSize, IsRefusal, IsThen, of_size}
use Rattle.component_model.specs.Programs.{component_tree}
use Rattle.plan_definitions.specs.JoinRefusals as joins
use Rattle.plan_definitions.specs.declared.component_rule.ComponentRule.TheVariants as rule
use Rattle.plan_definitions.specs.ComponentRefusals as components
use Rattle.plan_definitions.specs.MappingRefusals as mapping
use Rattle.description_stages.proofs.ComponentPlans as again
use Rattle.description_stages.proofs.Flat.{flat_as, refused_as}
use Rattle.description_stages.proofs.Held.{held_as}
use Rattle.description_stages.proofs.Joins as joined
use Rattle.description_stages.proofs.Mapped.{refusal_as}
use Rattle.description_stages.proofs.Planned.{plan_of-again}
use Rattle.description_stages.proofs.Sorted.{flat_once}

abbrev pub Found : Type 0
Found = Option (ℕ × List ℕ)

abbrev pub IsOnce : (Found → Type 0) → Type 0
IsOnce is = (o p : Found) → is o → is p → o ≡ p

-- ---- the first of some numbers

one_number : (P : ℕ → Type 0) (limit k m : ℕ) → IsFirst P limit (Some k) → IsFirst P limit (Some m) → k ≡ m
one_number P limit k m (_, is, least) (_, also, first) = by (apart k m)
  where
    apart : (k m : ℕ) → (k < m) ⊎ ((k ≡ m) ⊎ (m < k))
    apart k m = grind arith

    by : (k < m) ⊎ ((k ≡ m) ⊎ (m < k)) → k ≡ m
    by (inl below) = absurd (first k below is)
    by (inr (inl same)) = same
    by (inr (inr below)) = absurd (least m below also)

none_first : (P : ℕ → Type 0) (limit k : ℕ) → IsFirst P limit None → IsFirst P limit (Some k) → ⊥
none_first P limit k none (below, is, least) = none k below is

one_broken : (d : Description) (x y : ℕ × ℕ) → IsFirstBroken d (Some x) → IsFirstBroken d (Some y) → x ≡ y
one_broken d x y (_, is, least, first) (_, also, less, before) = by (apart x.0 y.0)
  where
    apart : (k m : ℕ) → (k < m) ⊎ ((k ≡ m) ⊎ (m < k))
    apart k m = grind arith

    inner : x.0 ≡ y.0 → (x.1 < y.1) ⊎ ((x.1 ≡ y.1) ⊎ (y.1 < x.1)) → x ≡ y
    inner same (inl below) = absurd (less x.1 below (subst (λ c. IsBrokenConnector d c x.1) same is))
    inner same (inr (inl alike)) = λ i. (same i, alike i)
    inner same (inr (inr below)) = absurd (least y.1 below (subst (λ c. IsBrokenConnector d c y.1) (sym same) also))

    by : (x.0 < y.0) ⊎ ((x.0 ≡ y.0) ⊎ (y.0 < x.0)) → x ≡ y
    by (inl below) = absurd (before x.0 x.1 below is)
    by (inr (inl same)) = inner same (apart x.1 y.1)
    by (inr (inr below)) = absurd (first y.0 y.1 below also)

none_broken : (d : Description) (x : ℕ × ℕ) → IsFirstBroken d None → IsFirstBroken d (Some x) → ⊥
none_broken d x none (_, is, least, first) = none x.0 x.1 is

-- ---- rules 9 to 11

found_at : (r s : ℕ) (p q : List ℕ) → r ≡ s → p ≡ q → ◌≡◌ {A = Found} (Some (r, p)) (Some (s, q))
found_at r s p q same alike = λ i. Some (same i, alike i)

refused_once : (d : Description) (r s : ℕ) (p q : List ℕ) → IsRefusedAt d r p → IsRefusedAt d s q → ◌≡◌ {A = Found} (Some (r, p)) (Some (s, q))
refused_once d r s p q (inl (r_is, (c, first, p_is))) (inl (s_is, (e, least, q_is))) =
    found_at r s p q (r_is ∙ sym s_is) (p_is ∙ (ap composition_place (one_number (ContainsItself d) (length d.compositions) c e first least) ∙ sym q_is))
refused_once d r s p q (inl (r_is, (c, first, p_is))) (inr (inl (s_is, nesting, past, at))) = absurd (none_first (ContainsItself d) (length d.compositions) c nesting first)
refused_once d r s p q (inl (r_is, (c, first, p_is))) (inr (inr (s_is, nesting, limits, more))) = absurd (none_first (ContainsItself d) (length d.compositions) c nesting first)
refused_once d r s p q (inr (inl (r_is, nesting, past, at))) (inl (s_is, (e, least, q_is))) = absurd (none_first (ContainsItself d) (length d.compositions) e nesting least)
refused_once d r s p q (inr (inl (r_is, nesting, past, p_is))) (inr (inl (s_is, keeps, far, q_is))) = found_at r s p q (r_is ∙ sym s_is) (p_is ∙ sym q_is)
refused_once d r s p q (inr (inl (r_is, nesting, past, p_is))) (inr (inr (s_is, keeps, limits, more))) = absurd (past limits)
refused_once d r s p q (inr (inr (r_is, nesting, limits, more))) (inl (s_is, (e, least, q_is))) = absurd (none_first (ContainsItself d) (length d.compositions) e nesting least)
refused_once d r s p q (inr (inr (r_is, nesting, limits, more))) (inr (inl (s_is, keeps, far, q_is))) = absurd (far limits)
refused_once d r s p q (inr (inr (r_is, nesting, limits, (x, first, p_is)))) (inr (inr (s_is, keeps, within, (y, least, q_is)))) =
    found_at r s p q (r_is ∙ sym s_is) (p_is ∙ (ap connector_place (one_broken d x y first least) ∙ sym q_is))

refused_not_flat : (d : Description) (r : ℕ) (p : List ℕ) (f : Flat) → IsRefusedAt d r p → IsFlatOf d f → ⊥
refused_not_flat d r p f (inl (is, (c, first, at))) flat = none_first (ContainsItself d) (length d.compositions) c flat.nesting first
refused_not_flat d r p f (inr (inl (is, nesting, past, at))) flat = past flat.limits
refused_not_flat d r p f (inr (inr (is, nesting, limits, (x, first, at)))) flat = none_broken d x flat.connectors first

-- ---- rules 12 to 31

after_once : (found : Found) (later : Found → Type 0) → IsOnce later → IsOnce (IsAfter found later)
after_once None later once o p a b = once o p a b
after_once (Some x) later once o p a b = a ∙ sym b

pub none_some : (x : ℕ × List ℕ) → ◌≡◌ {A = Found} None (Some x) → ⊥
none_some x e = cc

then_once : (first later : Found → Type 0) → IsOnce first → IsOnce later → IsOnce (IsThen first later)
then_once first later one other None None a b = refl
then_once first later one other None (Some y) (none, last) (inl is) = one None (Some y) none is
then_once first later one other None (Some y) (none, last) (inr (also, is)) = other None (Some y) last is
then_once first later one other (Some x) None (inl is) (none, last) = one (Some x) None is none
then_once first later one other (Some x) None (inr (also, is)) (none, last) = other (Some x) None is last
then_once first later one other (Some x) (Some y) (inl is) (inl same) = one (Some x) (Some y) is same
then_once first later one other (Some x) (Some y) (inl is) (inr (none, same)) = absurd (none_some x (one None (Some x) none is))
then_once first later one other (Some x) (Some y) (inr (none, is)) (inl same) = absurd (none_some y (one None (Some y) none same))
then_once first later one other (Some x) (Some y) (inr (none, is)) (inr (also, same)) = other (Some x) (Some y) is same

tasks_once : (d : Description) (f : Flat) → IsOnce (IsOfTasks d f)
tasks_once d f None None a b = refl
tasks_once d f None (Some y) none (is, reaches) = absurd (none reaches)
tasks_once d f (Some x) None (is, reaches) none = absurd (none reaches)
tasks_once d f (Some x) (Some y) (is, reaches) (also, again) = ap (λ z. Some z) (is ∙ sym also)

size_once : (d : Description) (f : Flat) → IsOnce (IsOfSize d f)
size_once d f o p a b = sym a ∙ b

lists_once : (d : Description) → IsOnce (IsOfLists d)
lists_once d o p a b = sym a ∙ b

mapping_once : (d : Description) (f : Flat) → IsOnce (IsRefusal d f)
mapping_once d f = after_once (components.refusal d) _ (then_once (mapping.IsRefusal d f) (IsThen (IsOfSize d f) (IsOfLists d)) (after_once (of_events d f) (IsOfTasks d f) (tasks_once d f))
    (then_once (IsOfSize d f) (IsOfLists d) (size_once d f) (lists_once d)))

pub after_first : (found : Found) (later : Found → Type 0) (x : ℕ × List ℕ) → found ≡ Some x → IsAfter found later (Some x)
after_first None later x e = absurd (none_some x e)
after_first (Some y) later x e = sym e

pub after_none : (found : Found) (later : Found → Type 0) (o : Found) → found ≡ None → later o → IsAfter found later o
after_none None later o e is = is
after_none (Some y) later o e is = absurd (none_some y (sym e))

-- what is refused of a description made flat, or nothing: by the rules on joins, then by the later ones
abbrev pub IsRefusedFlat : Description → Flat → Found → Type 0
IsRefusedFlat d f = IsAfter (joins.refusal d f) (IsRefusal d f)

-- what is refused of a description that is read, or nothing
abbrev pub IsRefusedRead : Description → Found → Type 0
IsRefusedRead d o = ((rule : ℕ) × (place : List ℕ) × IsRefusedAt d rule place × (o ≡ Some (rule, place))) ⊎ ((f : Flat) × IsFlatOf d f × IsRefusedFlat d f o)

pub read_once : (d : Description) → IsOnce (IsRefusedRead d)
read_once d o p (inl (r, x, refused, o_is)) (inl (s, y, again, p_is)) = o_is ∙ (refused_once d r s x y refused again ∙ sym p_is)
read_once d o p (inl (r, x, refused, o_is)) (inr (f, flat, more)) = absurd (refused_not_flat d r x f refused flat)
read_once d o p (inr (f, flat, more)) (inl (s, y, again, p_is)) = absurd (refused_not_flat d s y f again flat)
read_once d o p (inr (f, flat, is)) (inr (g, also, same)) =
    after_once (joins.refusal d f) (IsRefusal d f) (mapping_once d f) o p is (subst (λ h. IsRefusedFlat d h p) (flat_once d g f also flat) same)

-- ---- the same where programs are held elsewhere

module _ (d : Description) (cs : List Component) (same : map component_tree d.components ≡ map component_tree cs) where
  size_as : (f : Flat) (o : Found) → IsOfSize d f o → IsOfSize (held_as d cs) f o
  size_as f o is = subst (λ p. of_size p ≡ o) (plan_of-again d cs same f) is

  lists_as : (o : Found) → IsOfLists d o → IsOfLists (held_as d cs) o
  lists_as o is = subst (λ p. p ≡ o) (again.of_rule-again d cs same rule.CoherentLists) is

  either_as : (p q r s : Found → Type 0) → ((o : Found) → p o → q o) → ((o : Found) → r o → s o) → (o : Found) → IsThen p r o → IsThen q s o
  either_as p q r s first later None (none, is) = (first None none, later None is)
  either_as p q r s first later (Some x) (inl is) = inl (first (Some x) is)
  either_as p q r s first later (Some x) (inr (none, is)) = inr (first None none, later (Some x) is)

  then_as : (f : Flat) (o : Found) → IsThen (mapping.IsRefusal d f) (IsThen (IsOfSize d f) (IsOfLists d)) o → IsThen (mapping.IsRefusal (held_as d cs) f) (IsThen (IsOfSize (held_as d cs) f) (IsOfLists (held_as d cs))) o
  then_as f = either_as (mapping.IsRefusal d f) (mapping.IsRefusal (held_as d cs) f) _ _ (refusal_as d cs same f)
      (either_as (IsOfSize d f) (IsOfSize (held_as d cs) f) (IsOfLists d) (IsOfLists (held_as d cs)) (size_as f) lists_as)

  after_as : (a b : Found) → a ≡ b → (p q : Found → Type 0) → ((o : Found) → p o → q o) → (o : Found) → IsAfter a p o → IsAfter b q o
  after_as None None e p q to o is = to o is
  after_as None (Some y) e p q to o is = absurd (none_some y e)
  after_as (Some x) None e p q to o is = absurd (none_some x (sym e))
  after_as (Some x) (Some y) e p q to o is = is ∙ e

  flat_refused_as : (f : Flat) (o : Found) → IsRefusedFlat d f o → IsRefusedFlat (held_as d cs) f o
  flat_refused_as f = after_as (joins.refusal d f) (joins.refusal (held_as d cs) f) (joined.refusal-again d cs same f) (IsRefusal d f) (IsRefusal (held_as d cs) f)
      (after_as (components.refusal d) (components.refusal (held_as d cs)) (again.refusal-again d cs same) _ _ (then_as f))

  pub read_refused_as : (o : Found) → IsRefusedRead d o → IsRefusedRead (held_as d cs) o
  read_refused_as o (inl (rule, place, refused, is)) = inl (rule, place, refused_as d cs same rule place refused, is)
  read_refused_as o (inr (f, flat, is)) = inr (f, flat_as d cs same f flat, flat_refused_as f o is)
