-- The joins of a plan: elements of one group agree, an element is joined exactly where its group has both sides, and one side of
-- each group has one element.
use Rattle.std.proofs.Common.{◌≡◌, ℕ, ◌+◌, List, map, length, filter, Bool, true, false, if◌then◌else◌, not, ◌&&◌, ◌||◌, ◌==◌, nat_le, ℤ, pos, negsuc, int_le, Option, Some, None, inl, inr}
use Rattle.std.proofs.Common.{⊎_elim, refl, sym, ap, subst, ◌∙◌, arith, true≢false}
use Rattle.bus_semantics.specs.Common.{and_from, and_parts, eq-eqb, eqb-true, le-leb, not-true, or_cases, or_left, or_right, list_all-map, list_all, list_any, option_map_or, plan_of, agrees}
use Rattle.bus_semantics.specs.Common.{count_side, has_side, joins_fit}
use Rattle.std.proofs.lemmas.Bool.{leb-false}
use Rattle.plan_definitions.specs.Common.{Description, refusal, End, Flat, Join, IsFlatOf, Among, end_of, is_joined, partners, same_end, end_key, key_of, elements_of, Elem, elem_seen}
use Rattle.plan_definitions.specs.Common.{element_of, elements, group_of, is_provided, IsWellFormed, IsWhole}
use Rattle.bus_laws.specs.Common.{BusPlan, ElemKind, ElemPlan, Mapping}
use Rattle.bus_semantics.specs.declared.plan.ElemKind.TheVariants as kind
use Rattle.plan_definitions.specs.declared.site.Site.{Site}
use Rattle.plan_definitions.proofs.Apart.{Two, by_second, one, two}
use Rattle.sound_plans.proofs.Elems.{queued, unqueued, variable}
use Rattle.sound_plans.proofs.Ends.{Traits, traits}
use Rattle.sound_plans.proofs.Linked.{Linked, group_linked, linked_agree, linked_group}
use Rattle.plan_definitions.proofs.Lists.{all_from, any_at, any_from, any_seen, count_seen, mapped, unmapped}
use Rattle.plan_definitions.proofs.Keys.{key_is, same_end_is, same_end_refl}
use Rattle.sound_plans.proofs.Partners.{Faces, back, elements_apart, end_site, faces, provided_touches, required_touches, same_site, star, touched}
use Rattle.sound_plans.proofs.Stars.{Touch}
use Rattle.sound_plans.proofs.Seen.{elements_are}

-- ---- the joins, by what is seen of the elements

abbrev agrees_seen : Elem → Elem → Bool
agrees_seen a b = not (a.group == b.group)
    || (((queued a.kind && queued b.kind) || (unqueued a.kind && unqueued b.kind) || (variable a.kind && variable b.kind))
    && ((a.words == b.words) && (int_le a.limits.low b.limits.low && (int_le b.limits.low a.limits.low
    && (int_le a.limits.high b.limits.high && int_le b.limits.high a.limits.high)))))

abbrev provides_in : ℕ → Elem → Bool
provides_in g e = (e.group == g) && e.provided

abbrev requires_in : ℕ → Elem → Bool
requires_in g e = (e.group == g) && not e.provided

abbrev sides_seen : List Elem → Elem → Bool
sides_seen es e = if e.joined then list_any (provides_in e.group) es && list_any (requires_in e.group) es else (length (filter (provides_in e.group) es) + length (filter (requires_in e.group) es) == 1)

abbrev one_seen : List Elem → Elem → Bool
one_seen es e = nat_le (length (filter (provides_in e.group) es)) 1 || nat_le (length (filter (requires_in e.group) es)) 1

abbrev joins_seen : List Elem → Bool
joins_seen es = list_all (λ a. list_all (agrees_seen a) es) es && (list_all (sides_seen es) es && list_all (one_seen es) es)

same_joins : (p : BusPlan) → joins_fit (plan_of p) ≡ joins_seen (map elem_seen p.elements)
same_joins p = λ j. agree j && (sides j && ones j)
  where
    agree : list_all (λ (a : ElemPlan). list_all (agrees a) p.elements) p.elements ≡ list_all (λ a. list_all (agrees_seen a) (map elem_seen p.elements)) (map elem_seen p.elements)
    agree = (λ j. list_all (λ (a : ElemPlan). sym (list_all-map (agrees_seen (elem_seen a)) elem_seen p.elements) j) p.elements) ∙ sym (list_all-map (λ a. list_all (agrees_seen a) (map elem_seen p.elements)) elem_seen p.elements)

    any_sides : (g : ℕ) → (has_side (plan_of p) g true && has_side (plan_of p) g false) ≡ (list_any (provides_in g) (map elem_seen p.elements) && list_any (requires_in g) (map elem_seen p.elements))
    any_sides g = λ j. any_seen elem_seen (provides_in g) p.elements j && any_seen elem_seen (requires_in g) p.elements j

    counts : (g : ℕ) → (count_side (plan_of p) g true + count_side (plan_of p) g false == 1) ≡ (length (filter (provides_in g) (map elem_seen p.elements)) + length (filter (requires_in g) (map elem_seen p.elements)) == 1)
    counts g = λ j. (count_seen elem_seen (provides_in g) p.elements j + count_seen elem_seen (requires_in g) p.elements j) == 1

    sides : list_all (λ (e : ElemPlan). if e.joined then has_side (plan_of p) e.group true && has_side (plan_of p) e.group false else (count_side (plan_of p) e.group true + count_side (plan_of p) e.group false == 1)) p.elements
        ≡ list_all (sides_seen (map elem_seen p.elements)) (map elem_seen p.elements)
    sides = (λ j. list_all (λ (e : ElemPlan). if e.joined then any_sides e.group j else counts e.group j) p.elements) ∙ sym (list_all-map (sides_seen (map elem_seen p.elements)) elem_seen p.elements)

    ones : list_all (λ (e : ElemPlan). nat_le (count_side (plan_of p) e.group true) 1 || nat_le (count_side (plan_of p) e.group false) 1) p.elements ≡ list_all (one_seen (map elem_seen p.elements)) (map elem_seen p.elements)
    ones = (λ j. list_all (λ (e : ElemPlan). nat_le (count_seen elem_seen (provides_in e.group) p.elements j) 1 || nat_le (count_seen elem_seen (requires_in e.group) p.elements j) 1) p.elements) ∙ sym (list_all-map (one_seen (map elem_seen p.elements)) elem_seen p.elements)

-- ---- what agrees

same_le : (x : ℤ) → int_le x x ≡ true
same_le (pos n) = le-leb n n (omega arith)
same_le (negsuc n) = le-leb n n (omega arith)

abbrev alike : Traits → Traits → Bool
alike a b = ((queued a.0 && queued b.0) || (unqueued a.0 && unqueued b.0) || (variable a.0 && variable b.0))
    && ((a.2 == b.2) && (int_le a.1.low b.1.low && (int_le b.1.low a.1.low && (int_le a.1.high b.1.high && int_le b.1.high a.1.high))))

alike_itself : (a : Traits) → alike a a ≡ true
alike_itself a = and_from ((queued a.0 && queued a.0) || (unqueued a.0 && unqueued a.0) || (variable a.0 && variable a.0)) _ (by a.0)
    (and_from (a.2 == a.2) _ (eq-eqb a.2 a.2 refl)
    (λ j. same_le a.1.low j && (same_le a.1.low j && (same_le a.1.high j && same_le a.1.high j))))
  where
    by : (k : ElemKind) → ((queued k && queued k) || (unqueued k && unqueued k) || (variable k && variable k)) ≡ true
    by kind.Unqueued = refl
    by kind.Queued = refl
    by kind.Variable = refl

if_same : (a b : ℕ) (c : Bool) → (a ≡ b → c ≡ true) → (not (a == b) || c) ≡ true
if_same a b c h = by (a == b) refl
  where
    by : (e : Bool) → (a == b) ≡ e → (not e || c) ≡ true
    by true is = h (eqb-true a b is)
    by false is = refl

module _ (d : Description) (w : IsWellFormed d) (f : Flat) (flat : IsFlatOf d f) (fair : refusal d f ≡ None) where
  abbrev elem : Site → Elem
  elem s = element_of d f (group_of d f s) s

  agree_two : (s t : Site) → Among s (elements_of d f) → Among t (elements_of d f) → agrees_seen (elem s) (elem t) ≡ true
  agree_two s t here there = if_same (group_of d f s) (group_of d f t) (alike (traits d f s) (traits d f t))
      (λ same. subst (λ x. alike (traits d f s) x ≡ true) (linked_agree d w f flat fair s t here there (group_linked d w f flat fair s t here there same)) (alike_itself (traits d f s)))

  -- ---- sides

  abbrev in_group : ℕ → Site → Bool
  in_group g s = group_of d f s == g

  any_in : (g : ℕ) (test : Elem → Bool) (t : Site) → Among t (elements_of d f) → test (elem t) ≡ true → list_any test (elements d f) ≡ true
  any_in g test t there passes = any_from test (elements d f) (elem t) (mapped elem (elements_of d f) t there) passes

  of_side : (s : Site) (e x : End) → Among s (elements_of d f) → end_of s ≡ Some e → Touch (partners f.joins) e x
      → (list_any (provides_in (group_of d f s)) (elements d f) && list_any (requires_in (group_of d f s)) (elements d f)) ≡ true
  of_side s e x here is touch = by (is_provided s.kind) refl
    where
      t : Faces d w f flat fair s x
      t = faces d w f flat fair s e x here is touch

      same : group_of d f t.site ≡ group_of d f s
      same = sym (linked_group d w f flat fair s t.site here t.among (inr (e, x, is, t.is_end, inr (inl touch))))

      own : (group_of d f s == group_of d f s) ≡ true
      own = eq-eqb (group_of d f s) (group_of d f s) refl

      other : (group_of d f t.site == group_of d f s) ≡ true
      other = eq-eqb (group_of d f t.site) (group_of d f s) same

      by : (b : Bool) → is_provided s.kind ≡ b → (list_any (provides_in (group_of d f s)) (elements d f) && list_any (requires_in (group_of d f s)) (elements d f)) ≡ true
      by true side = and_from (list_any (provides_in (group_of d f s)) (elements d f)) (list_any (requires_in (group_of d f s)) (elements d f))
          (any_in (group_of d f s) (provides_in (group_of d f s)) s here (λ j. own j && side j))
          (any_in (group_of d f s) (requires_in (group_of d f s)) t.site t.among (λ j. other j && not ((t.side ∙ ap not side) j)))
      by false side = and_from (list_any (provides_in (group_of d f s)) (elements d f)) (list_any (requires_in (group_of d f s)) (elements d f))
          (any_in (group_of d f s) (provides_in (group_of d f s)) t.site t.among (λ j. other j && (t.side ∙ ap not side) j))
          (any_in (group_of d f s) (requires_in (group_of d f s)) s here (λ j. own j && not (side j)))

  touch_where : (e : End) → is_joined f.joins e ≡ true → (x : End) × Touch (partners f.joins) e x
  touch_where e h =
      let p = any_at (λ (j : Join). same_end j.provided e || same_end j.required e) f.joins h in
      ⊎_elim (λ own. (p.0.required, subst (λ y. Touch (partners f.joins) y p.0.required) (same_end_is p.0.provided e own) (provided_touches f.joins p.0 p.1)))
      (λ own. (p.0.provided, subst (λ y. Touch (partners f.joins) y p.0.provided) (same_end_is p.0.required e own) (required_touches f.joins p.0 p.1)))
      (or_cases (same_end p.0.provided e) (same_end p.0.required e) p.2)

  joined_where : (e x : End) → Touch (partners f.joins) e x → is_joined f.joins e ≡ true
  joined_where e x touch =
      let p = touched f.joins e x touch in
      any_from (λ (j : Join). same_end j.provided e || same_end j.required e) f.joins p.0 p.1 (⊎_elim
      (λ own. or_right (same_end p.0.provided e) (same_end p.0.required e) (ap (λ y. same_end y e) own.0 ∙ same_end_refl e))
      (λ own. or_left (same_end p.0.provided e) (same_end p.0.required e) (ap (λ y. same_end y e) own.0 ∙ same_end_refl e)) p.2)

  -- an element that is not joined is alone in its group
  alone_in : (s t : Site) → Among s (elements_of d f) → Among t (elements_of d f) → option_map_or (is_joined f.joins) (end_of s) false ≡ false → group_of d f t ≡ group_of d f s → key_of t ≡ key_of s
  alone_in s t here there apart same = by (group_linked d w f flat fair s t here there (sym same))
    where
      untouched : (e x : End) → end_of s ≡ Some e → Touch (partners f.joins) e x → ⊥
      untouched e x is touch =
          let h : is_joined f.joins e ≡ true = joined_where e x touch in
          true≢false (sym h ∙ sym (ap (λ o. option_map_or (is_joined f.joins) o false) is) ∙ apart)

      by : Linked f s t → key_of t ≡ key_of s
      by (inl e) = sym e
      by (inr (a, b, x, y, inl e)) = ap key_of (end_site d w f flat fair t s b there here y (x ∙ ap (λ q. Some q) e))
      by (inr (a, b, x, y, inr (inl touch))) = absurd (untouched a b x touch)
      by (inr (a, b, x, y, inr (inr (m, touch, second)))) = absurd (untouched a m x touch)

  count_of : (g : ℕ) (test : Elem → Bool) → length (filter test (elements d f)) ≡ length (filter (λ (s : Site). test (elem s)) (elements_of d f))
  count_of g test = sym (count_seen elem test (elements_of d f))

  one_alone : (s : Site) → Among s (elements_of d f) → option_map_or (is_joined f.joins) (end_of s) false ≡ false
      → length (filter (provides_in (group_of d f s)) (elements d f)) + length (filter (requires_in (group_of d f s)) (elements d f)) ≡ 1
  one_alone s here apart =
      let sum = by_second (in_group (group_of d f s)) (λ (t : Site). is_provided t.kind) (elements_of d f) in
      let single = one key_of (in_group (group_of d f s)) (elements_of d f) (elements_apart d w f flat fair) s here (eq-eqb (group_of d f s) (group_of d f s) refl)
      (λ t there same. alone_in s t here there apart (eqb-true (group_of d f t) (group_of d f s) same)) in
      (λ j. count_of (group_of d f s) (provides_in (group_of d f s)) j + count_of (group_of d f s) (requires_in (group_of d f s)) j) ∙ sum ∙ single

  both_sides : (s : Site) → Among s (elements_of d f) → sides_seen (elements d f) (elem s) ≡ true
  both_sides s here = by (option_map_or (is_joined f.joins) (end_of s) false) refl
    where
      g : ℕ
      g = group_of d f s

      by_end : (o : Option End) → end_of s ≡ o → option_map_or (is_joined f.joins) o false ≡ true → (list_any (provides_in (group_of d f s)) (elements d f) && list_any (requires_in (group_of d f s)) (elements d f)) ≡ true
      by_end None is joined = cc
      by_end (Some e) is joined = let p = touch_where e joined in of_side s e p.0 here is p.1

      by : (b : Bool) → option_map_or (is_joined f.joins) (end_of s) false ≡ b
          → (if b then list_any (provides_in (group_of d f s)) (elements d f) && list_any (requires_in (group_of d f s)) (elements d f) else (length (filter (provides_in (group_of d f s)) (elements d f)) + length (filter (requires_in (group_of d f s)) (elements d f)) == 1)) ≡ true
      by true joined = by_end (end_of s) refl joined
      by false apart = eq-eqb (length (filter (provides_in (group_of d f s)) (elements d f)) + length (filter (requires_in (group_of d f s)) (elements d f))) 1 (one_alone s here apart)

  -- ---- one of the sides has one element

  -- elements of one group on different sides are joined
  across : (s t : Site) → Among s (elements_of d f) → Among t (elements_of d f) → group_of d f s ≡ group_of d f t → is_provided s.kind ≡ true → is_provided t.kind ≡ false
      → (a : End) × (b : End) × (end_of s ≡ Some a) × (end_of t ≡ Some b) × Touch (partners f.joins) a b
  across s t here there same provides requires = by (group_linked d w f flat fair s t here there same)
    where
      differ : s ≡ t → ⊥
      differ e = true≢false (sym provides ∙ ap (λ (x : Site). is_provided x.kind) e ∙ requires)

      by : Linked f s t → (a : End) × (b : End) × (end_of s ≡ Some a) × (end_of t ≡ Some b) × Touch (partners f.joins) a b
      by (inl e) = absurd (differ (same_site d w f flat fair s t here there e))
      by (inr (a, b, x, y, inl e)) = absurd (differ (end_site d w f flat fair s t b here there (x ∙ ap (λ q. Some q) e) y))
      by (inr (a, b, x, y, inr (inl touch))) = (a, b, x, y, touch)
      by (inr (a, b, x, y, inr (inr (m, first, second)))) =
          let p = faces d w f flat fair s a m here x first in
          let q = faces d w f flat fair p.site m b p.among p.is_end second in
          let e = end_site d w f flat fair q.site t b q.among there q.is_end y in
          let side : is_provided t.kind ≡ is_provided s.kind = sym (ap (λ (z : Site). is_provided z.kind) e) ∙ q.side ∙ ap not p.side ∙ twice (is_provided s.kind) in
          absurd (true≢false (sym provides ∙ sym side ∙ requires))
        where
          twice : (c : Bool) → not (not c) ≡ c
          twice true = refl
          twice false = refl

  not_both : (g : ℕ) → Two key_of (λ (s : Site). provides_in g (elem s)) (elements_of d f) → Two key_of (λ (s : Site). requires_in g (elem s)) (elements_of d f) → ⊥
  not_both g (p, q, hp, hq, apart) (r, s, hr, hs, other) =
      let gp = and_parts (group_of d f p == g) (is_provided p.kind) hp.1 in
      let gq = and_parts (group_of d f q == g) (is_provided q.kind) hq.1 in
      let gr = and_parts (group_of d f r == g) (not (is_provided r.kind)) hr.1 in
      let gs = and_parts (group_of d f s == g) (not (is_provided s.kind)) hs.1 in
      let a = across p r hp.0 hr.0 (eqb-true (group_of d f p) g gp.0 ∙ sym (eqb-true (group_of d f r) g gr.0)) gp.1 (not-true (is_provided r.kind) gr.1) in
      let b = across p s hp.0 hs.0 (eqb-true (group_of d f p) g gp.0 ∙ sym (eqb-true (group_of d f s) g gs.0)) gp.1 (not-true (is_provided s.kind) gs.1) in
      let c = across q r hq.0 hr.0 (eqb-true (group_of d f q) g gq.0 ∙ sym (eqb-true (group_of d f r) g gr.0)) gq.1 (not-true (is_provided r.kind) gr.1) in
      let same_p : b.0 ≡ a.0 = cc (a.2, b.2) in
      let same_r : c.1 ≡ a.1 = cc (a.3, c.3) in
      ⊎_elim
      (λ single. let e : a.1 ≡ b.1 = single a.1 b.1 a.4 (subst (λ x. Touch (partners f.joins) x b.1) same_p b.4) in
      other (sym (key_is r a.1 a.3) ∙ ap end_key e ∙ key_is s b.1 b.3))
      (λ single. let e : a.0 ≡ c.0 = single a.0 c.0 (back f.joins a.0 a.1 a.4) (subst (λ x. Touch (partners f.joins) x c.0) same_r (back f.joins c.0 c.1 c.4)) in
      apart (sym (key_is p a.0 a.2) ∙ ap end_key e ∙ key_is q c.0 c.2))
      (star d w f flat fair a.0 a.1 (p, hp.0, a.2) a.4)

  one_side : (g : ℕ) → (nat_le (length (filter (provides_in g) (elements d f))) 1 || nat_le (length (filter (requires_in g) (elements d f))) 1) ≡ true
  one_side g = by (nat_le (length (filter (provides_in g) (elements d f))) 1) (nat_le (length (filter (requires_in g) (elements d f))) 1) refl refl
    where
      by : (b c : Bool) → nat_le (length (filter (provides_in g) (elements d f))) 1 ≡ b → nat_le (length (filter (requires_in g) (elements d f))) 1 ≡ c → (b || c) ≡ true
      by true c is also = refl
      by false true is also = refl
      by false false is also =
          let m = leb-false (length (filter (provides_in g) (elements d f))) 1 is in
          let n = leb-false (length (filter (requires_in g) (elements d f))) 1 also in
          let p = count_of g (provides_in g) in
          let r = count_of g (requires_in g) in
          absurd (not_both g (two key_of (λ (s : Site). provides_in g (elem s)) (elements_of d f) (elements_apart d w f flat fair) (omega (arith, m, p)))
          (two key_of (λ (s : Site). requires_in g (elem s)) (elements_of d f) (elements_apart d w f flat fair) (omega (arith, n, r))))

  joins_keep : joins_seen (elements d f) ≡ true
  joins_keep = and_from (list_all (λ a. list_all (agrees_seen a) (elements d f)) (elements d f)) _
      (all_from (λ a. list_all (agrees_seen a) (elements d f)) (elements d f) agree)
      (and_from (list_all (sides_seen (elements d f)) (elements d f)) (list_all (one_seen (elements d f)) (elements d f))
      (all_from (sides_seen (elements d f)) (elements d f) sides)
      (all_from (one_seen (elements d f)) (elements d f) (λ e among. one_side e.group)))
    where
      agree : (a : Elem) → Among a (elements d f) → list_all (agrees_seen a) (elements d f) ≡ true
      agree a here = all_from (agrees_seen a) (elements d f) (λ b there.
          let p = unmapped elem (elements_of d f) a here in
          let q = unmapped elem (elements_of d f) b there in
          (λ j. agrees_seen (p.2 j) (q.2 j)) ∙ agree_two p.0 q.0 p.1 q.1)

      sides : (e : Elem) → Among e (elements d f) → sides_seen (elements d f) e ≡ true
      sides e among = let p = unmapped elem (elements_of d f) e among in ap (sides_seen (elements d f)) p.2 ∙ both_sides p.0 p.1

pub joins_sound : (d : Description) (f : Flat) (p : BusPlan) (m : Mapping) → IsWhole d f p m → joins_fit (plan_of p) ≡ true
joins_sound d f p m w = same_joins p ∙ ap joins_seen (elements_are d f p w.is_plan) ∙ joins_keep d w.well_formed f w.is_flat w.may_join
