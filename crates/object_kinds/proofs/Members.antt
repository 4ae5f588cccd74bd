-- The elements of a group: those that a sound plan lists for it are those that are in it, and each has its place.
use Rattle.std.proofs.Common.{◌≡◌, ℕ, zero, suc, ◌+◌, ◌<◌, Bool, true, false, ◌&&◌, not, ◌==◌, refl, sym, ◌∙◌, ap, arith, List, [], ◌∷◌, length, Option, Some, None}
use Rattle.bus_semantics.specs.Common.{slice_get_within, and_parts, eq-eqb, eqb-true, false≢true, nat_tests, option_map_or, list_all, slice_get, Plan, look, group_of, every_from, positions}
use Rattle.bus_semantics.specs.Common.{is_in_group, same_numbers, members, firsts, groups_fit, is_distinct, same_number}
use Rattle.std.proofs.lemmas.List.Elements.{filter_agree}
use Rattle.std.specs.Prelude.{nat_lt}
use Rattle.bus_semantics.specs.declared.plan.ElemPlan.{ElemPlan}
use Rattle.bus_semantics.specs.SoundPlan as sound_plan
use Rattle.object_kinds.specs.Common.{members_of, is_rising}
use Rattle.object_kinds.proofs.Lists.{all_filter, every_at, every_all}
use Rattle.object_kinds.proofs.Options.{clash}
use Rattle.object_kinds.proofs.Placing.{Placed, placed}
use Rattle.object_kinds.proofs.Positions.{distinct_positions}
use Rattle.object_kinds.proofs.Rising.{rising_positions}

-- ---- an element that is in a group

pub record Member (p : Plan) (g x : ℕ) : Type 0 where
  pub elem : ElemPlan
  pub found : slice_get p.elements x ≡ Some elem
  pub group : elem.group ≡ g

member_in : (p : Plan) (g x : ℕ) (o : Option ElemPlan) → slice_get p.elements x ≡ o → same_number (option_map_or (λ (v : ElemPlan). Some v.group) o None) (Some g) ≡ true → Member p g x
member_in p g x None there e = absurd (false≢true e)
member_in p g x (Some v) there e = record { elem = v; found = there; group = eqb-true v.group g e }

pub member_of : (p : Plan) (g x : ℕ) → is_in_group p g x ≡ true → Member p g x
member_of p g x e = member_in p g x (slice_get p.elements x) refl e

pub member_placed : (p : Plan) (g x : ℕ) → is_in_group p g x ≡ true → Placed x (members_of p g)
member_placed p g x inside = let m = member_of p g x inside in placed (is_in_group p g) (length p.elements) x (slice_get_within p.elements x m.elem m.found) inside

-- its group is one of the plan's
pub group_within : (p : Plan) (x g : ℕ) → groups_fit p ≡ true → group_of p x ≡ Some g → g < length p.groups
group_within p x g fit found = by_elem p.elements x (and_parts (list_all (λ (e : ElemPlan). nat_lt e.group (length p.groups)) p.elements) _ fit).0 found
  where
    by_elem : (es : List ElemPlan) (i : ℕ) → list_all (λ (e : ElemPlan). nat_lt e.group (length p.groups)) es ≡ true → look es i (λ (e : ElemPlan). Some e.group) None ≡ Some g → g < length p.groups
    by_elem [] i all at = absurd (cc at)
    by_elem (e ∷ es) zero all at =
        let less : nat_lt e.group (length p.groups) ≡ true = (and_parts (nat_lt e.group (length p.groups)) (list_all (λ (f : ElemPlan). nat_lt f.group (length p.groups)) es) all).0 in
        let same : e.group ≡ g = cc in
        grind (arith, nat_tests)
    by_elem (e ∷ es) (suc i) all at = by_elem es i (and_parts (nat_lt e.group (length p.groups)) (list_all (λ (f : ElemPlan). nat_lt f.group (length p.groups)) es) all).1 at

pub inside_within : (p : Plan) (x g : ℕ) → groups_fit p ≡ true → is_in_group p g x ≡ true → g < length p.groups
inside_within p x g fit inside =
    let m = member_of p g x inside in
    group_within p x g fit (ap (λ (o : Option ElemPlan). option_map_or (λ (e : ElemPlan). Some e.group) o None) m.found ∙ ap (λ n. Some n) m.group)

-- ---- all of them: each once, in rising order

pub members_all : (p : Plan) (g : ℕ) → list_all (is_in_group p g) (members_of p g) ≡ true
members_all p g = all_filter (is_in_group p g) (positions (length p.elements))

pub members_once : (p : Plan) (g : ℕ) → is_distinct (members_of p g) ≡ true
members_once p g = distinct_positions (is_in_group p g) (length p.elements)

pub members_rise : (p : Plan) (g : ℕ) → is_rising (members_of p g) ≡ true
members_rise p g = rising_positions (is_in_group p g) (length p.elements)

-- ---- what a plan lists

same_list : (xs ys : List ℕ) → same_numbers xs ys ≡ true → xs ≡ ys
same_list [] [] e = refl
same_list [] (y ∷ ys) e = absurd (cc e)
same_list (x ∷ xs) [] e = absurd (cc e)
same_list (x ∷ xs) (y ∷ ys) e = let parts = and_parts (x == y) (same_numbers xs ys) e in
    λ i. eqb-true x y parts.0 i ∷ same_list xs ys parts.1 i

listed_is : (p : Plan) (g x : ℕ) → not (every_from 0 (λ y (e : ElemPlan). not ((x == y) && (e.group == g))) p.elements) ≡ is_in_group p g x
listed_is p g x = by_elem (slice_get p.elements x) refl
  where
    by_elem : (o : Option ElemPlan) → slice_get p.elements x ≡ o → not (every_from 0 (λ y (e : ElemPlan). not ((x == y) && (e.group == g))) p.elements) ≡ is_in_group p g x
    by_elem None there = rw there (ap not (every_all (λ y (e : ElemPlan). not ((x == y) && (e.group == g))) 0 p.elements (λ j k e at found. absent j k e at found (x == k) refl)))
      where
        absent : (j k : ℕ) (e : ElemPlan) → k ≡ 0 + j → slice_get p.elements j ≡ Some e → (b : Bool) → (x == k) ≡ b → not ((x == k) && (e.group == g)) ≡ true
        absent j k e at found false t = ap (λ b. not (b && (e.group == g))) t
        absent j k e at found true t =
            let same : x ≡ j = eqb-true x k t ∙ (let here : k ≡ j = omega arith in here) in
            absurd (cc (sym there ∙ ap (slice_get p.elements) same ∙ found))
    by_elem (Some v) there = rw there (by_group (v.group == g) refl)
      where
        by_group : (b : Bool) → (v.group == g) ≡ b → not (every_from 0 (λ y (e : ElemPlan). not ((x == y) && (e.group == g))) p.elements) ≡ (v.group == g)
        by_group true t = by_every (every_from 0 (λ y (e : ElemPlan). not ((x == y) && (e.group == g))) p.elements) refl ∙ sym t
          where
            by_every : (b : Bool) → every_from 0 (λ y (e : ElemPlan). not ((x == y) && (e.group == g))) p.elements ≡ b → not (every_from 0 (λ y (e : ElemPlan). not ((x == y) && (e.group == g))) p.elements) ≡ true
            by_every false is = ap not is
            by_every true is =
                let here : not ((x == x) && (v.group == g)) ≡ true = every_at (λ y (e : ElemPlan). not ((x == y) && (e.group == g))) 0 p.elements is x x v (omega arith) there in
                let no : not ((x == x) && (v.group == g)) ≡ false = λ i. not (eq-eqb x x refl i && t i) in
                clash (not ((x == x) && (v.group == g))) here no
        by_group false t = ap not (every_all (λ y (e : ElemPlan). not ((x == y) && (e.group == g))) 0 p.elements (λ j k e at found. other j k e at found (x == k) refl)) ∙ sym t
          where
            other : (j k : ℕ) (e : ElemPlan) → k ≡ 0 + j → slice_get p.elements j ≡ Some e → (b : Bool) → (x == k) ≡ b → not ((x == k) && (e.group == g)) ≡ true
            other j k e at found false u = ap (λ b. not (b && (e.group == g))) u
            other j k e at found true u =
                let here : k ≡ j = omega arith in
                let same : x ≡ j = eqb-true x k u ∙ here in
                let elem : e ≡ v = cc (sym found ∙ sym (ap (slice_get p.elements) same) ∙ there) in
                λ i. not (u i && (ap (λ (w : ElemPlan). w.group == g) elem ∙ t) i)

pub listed_members : (p : Plan) (g : ℕ) (xs : List ℕ) → groups_fit p ≡ true → slice_get p.groups g ≡ Some xs → xs ≡ members_of p g
listed_members p g xs fit there =
    let elements = list_all (λ (e : ElemPlan). nat_lt e.group (length p.groups)) p.elements in
    let groups = every_from 0 (λ h ys. same_numbers ys (members p h) && nat_lt 0 (length ys)) p.groups in
    let every : groups ≡ true = (and_parts groups (sound_plan.is_rising (firsts p.groups)) (and_parts elements (groups && sound_plan.is_rising (firsts p.groups)) fit).1).0 in
    let here = every_at (λ h ys. same_numbers ys (members p h) && nat_lt 0 (length ys)) 0 p.groups every g g xs (omega arith) there in
    same_list xs (members p g) (and_parts (same_numbers xs (members p g)) (nat_lt 0 (length xs)) here).0
    ∙ filter_agree (λ x. not (every_from 0 (λ y (e : ElemPlan). not ((x == y) && (e.group == g))) p.elements)) (is_in_group p g) (listed_is p g) (positions (length p.elements))
