-- Points stand by runnable and access, and those of the environment come last.
use Rattle.std.proofs.Common.{◌≡◌, ℕ, zero, suc, ◌+◌, ◌<◌, Bool, true, false, cond, ◌&&◌, ◌||◌, ◌==◌, refl, sym, ◌∙◌, ap, subst, arith, append_assoc, length-append, List, [], ◌∷◌, ◌++◌, map}
use Rattle.std.proofs.Common.{length, Option, Some, None, ◌⊎◌, inl, inr}
use Rattle.std.specs.Prelude.{nat_lt, is_none}
use Rattle.bus_semantics.specs.Common.{slice_get, flat_map, option_map_or, append-nil, length-map, same_Some, slice_get_within, and_from, eq-eqb, lt-ltb, or_left, or_right, AccessKind}
use Rattle.bus_semantics.specs.Common.{AccessSig, plan_of, every_from, gathered, called_points, points_arranged, same_numbers}
use Rattle.runnable_lang.specs.declared.program.AccessKind.TheVariants as kind
use Rattle.plan_definitions.specs.Common.{Access, Component, Description, Flat, Instance, access_sig, from, target_of, runnable_of, runnables_of_component, runnables, calling_of}
use Rattle.plan_definitions.specs.Common.{callings_in, callings_of_component, callings, is_calling, point_number, point_of, points, IsWhole}
use Rattle.description_types.specs.declared.component.Runnable as declared_runnable
use Rattle.bus_laws.specs.Common.{BusPlan, ElemPlan, PointPlan, Mapping}
use Rattle.bus_semantics.specs.Plan as plan
use Rattle.plan_definitions.specs.declared.calling.Calling.{Calling}
use Rattle.plan_definitions.proofs.Lists.{map_from}
use Rattle.sound_plans.proofs.Places.{every_if, map_at, append_at, Later}
use Rattle.sound_plans.proofs.Rules.{planned, plan_is}
use Rattle.sound_plans.proofs.Points.{inner, outer, inner_call, outer_call}
use Rattle.sound_plans.proofs.Callers.{point_is}

-- ---- lists joined end to end

gathered_append : {X Y : Type 0} (g : X → List Y) (xs ys : List X) → gathered g (xs ++ ys) ≡ gathered g xs ++ gathered g ys
gathered_append g [] ys = refl
gathered_append g (x ∷ xs) ys = ap (λ z. g x ++ z) (gathered_append g xs ys) ∙ sym (append_assoc (g x) (gathered g xs) (gathered g ys))

gathered_from : {X Y Z : Type 0} (g : Y → List Z) (h : ℕ → X → List Y) (n : ℕ) (xs : List X) → gathered g (from n h xs) ≡ from n (λ k x. gathered g (h k x)) xs
gathered_from g h n [] = refl
gathered_from g h n (x ∷ xs) = gathered_append g (h n x) (from (n + 1) h xs) ∙ ap (λ z. gathered g (h n x) ++ z) (gathered_from g h (n + 1) xs)

-- ---- the numbers below one

length-plan_positions : (n : ℕ) → length (plan.positions n) ≡ n
length-plan_positions zero = refl
length-plan_positions (suc n) = length-append (plan.positions n) (n ∷ []) ∙ (let e = length-plan_positions n in omega arith)

plan_position : (n k r : ℕ) → slice_get (plan.positions n) k ≡ Some r → r ≡ k
plan_position zero k r e = absurd (cc e)
plan_position (suc n) k r e = by (λ a. plan_position n k r a) (append_at (plan.positions n) (n ∷ []) k r e)
  where
    last : (j : ℕ) → k ≡ length (plan.positions n) + j → slice_get (n ∷ []) j ≡ Some r → r ≡ k
    last zero s e = let same : n ≡ r = same_Some n r e in let long = length-plan_positions n in omega arith
    last (suc j) s e = absurd (cc e)

    by : (slice_get (plan.positions n) k ≡ Some r → r ≡ k) → (slice_get (plan.positions n) k ≡ Some r) ⊎ Later ℕ (plan.positions n) (n ∷ []) k r → r ≡ k
    by rest (inl a) = rest a
    by rest (inr l) = last l.place l.sum l.there

same_by : (xs ys : List ℕ) → length xs ≡ length ys → ((k x y : ℕ) → slice_get xs k ≡ Some x → slice_get ys k ≡ Some y → x ≡ y) → same_numbers xs ys ≡ true
same_by [] [] long each = refl
same_by [] (y ∷ ys) long each = absurd (omega arith)
same_by (x ∷ xs) [] long each = absurd (omega arith)
same_by (x ∷ xs) (y ∷ ys) long each = and_from (x == y) (same_numbers xs ys) (eq-eqb x y (each 0 x y refl refl)) (same_by xs ys (omega arith) (λ k a b s t. each (suc k) a b s t))

-- ---- the calls of runnables

abbrev calls_out : AccessKind → Bool
calls_out kind.Call = true
calls_out kind.ACall = true
calls_out _ = false

abbrev pairs : List AccessSig → List ℕ → List ℕ
pairs (a ∷ more) (t ∷ ts) = cond (calls_out a.kind) (t ∷ pairs more ts) (pairs more ts)
pairs _ _ = []

module _ (d : Description) (f : Flat) where
  number : Calling → ℕ
  number y = option_map_or (λ x. point_number d f (is_calling x y.port y.item)) y.caller 0

  one_access : (i m : ℕ) (k : AccessKind) (port item : ℕ) (ps : List ℕ) (ys : List Calling) → ps ≡ map number ys
      → cond (calls_out k) (target_of d f i m (record { kind = k; port = port; item = item }) ∷ ps) ps ≡ map number (calling_of i m (record { kind = k; port = port; item = item }) ++ ys)
  unfolding number
  one_access i m kind.Call port item ps ys e = ap (λ z. point_number d f (is_calling (i, m) port item) ∷ z) e
  one_access i m kind.ACall port item ps ys e = ap (λ z. point_number d f (is_calling (i, m) port item) ∷ z) e
  one_access i m k port item ps ys e = e

  of_accesses : (i m : ℕ) (c : Component) (xs : List Access) → pairs (map (access_sig d.types c) xs) (map (target_of d f i m) xs) ≡ map number (flat_map (calling_of i m) xs)
  of_accesses i m c [] = refl
  of_accesses i m c (a ∷ xs) = one_access i m a.kind a.port a.item (pairs (map (access_sig d.types c) xs) (map (target_of d f i m) xs)) (flat_map (calling_of i m) xs) (of_accesses i m c xs)

  of_component : (i : ℕ) (c : Component) → gathered called_points (runnables_of_component d f i c) ≡ map number (callings_of_component i c)
  of_component i c =
      gathered_from called_points (λ m r. runnable_of d f i c m r ∷ []) 0 c.behavior.runnables
      ∙ (λ j. from 0 (λ m (r : declared_runnable.Runnable). (append-nil (called_points (runnable_of d f i c m r)) ∙ of_accesses i m c r.accesses) j) c.behavior.runnables)
      ∙ sym (map_from number (callings_in i) 0 c.behavior.runnables)

  called_are : gathered called_points (runnables d f) ≡ map number (inner d f)
  called_are =
      gathered_from called_points (λ i (x : Instance). option_map_or (runnables_of_component d f i) (slice_get d.components x.component) []) 0 f.instances
      ∙ (λ j. from 0 (λ i (x : Instance). by i (slice_get d.components x.component) j) f.instances)
      ∙ sym (map_from number (λ i (x : Instance). option_map_or (callings_of_component i) (slice_get d.components x.component) []) 0 f.instances)
    where
      by : (i : ℕ) (o : Option Component) → gathered called_points (option_map_or (runnables_of_component d f i) o []) ≡ map number (option_map_or (callings_of_component i) o [])
      by i None = refl
      by i (Some c) = of_component i c

  module _ (p : BusPlan) (m : Mapping) (w : IsWhole d f p m) (es : List ElemPlan) where
    numbered : (k x : ℕ) → slice_get (map number (inner d f)) k ≡ Some x → x ≡ k
    unfolding number
    numbered k x at =
        let y = map_at number (inner d f) k x at in
        let z = inner_call d f k y.item y.there in
        y.is ∙ ap number z.is.is ∙ point_is d f p m w z.i z.c z.home z.m z.runnable z.there z.j z.access z.here z.is.asynchronous z.is.calls ∙ sym z.place

    arranged : points_arranged (planned d f es) ≡ true
    arranged = subst (λ called. (same_numbers called (plan.positions (length called)) && every_from 0 (λ q (t : PointPlan). nat_lt q (length called) || (is_none t.runnable && t.asynchronous)) (points d f)) ≡ true) (sym called_are)
        (and_from (same_numbers (map number (inner d f)) (plan.positions (length (map number (inner d f))))) _
        (same_by (map number (inner d f)) (plan.positions (length (map number (inner d f)))) (sym (length-plan_positions (length (map number (inner d f)))))
        (λ k x y s t. numbered k x s ∙ sym (plan_position (length (map number (inner d f))) k y t)))
        (every_if (λ q (t : PointPlan). nat_lt q (length (map number (inner d f))) || (is_none t.runnable && t.asynchronous)) 0 (points d f)
        (λ q t at. let none : q ≡ 0 + q = omega arith in let y = map_at (point_of d f) (callings d f) q t at in
        subst (λ k. (nat_lt k (length (map number (inner d f))) || (is_none t.runnable && t.asynchronous)) ≡ true) none
        (subst (λ (u : PointPlan). (nat_lt q (length (map number (inner d f))) || (is_none u.runnable && u.asynchronous)) ≡ true) (sym y.is) (by q y.item (append_at (inner d f) (outer d f) q y.item y.there))))))
      where
        by : (q : ℕ) (y : Calling) → (slice_get (inner d f) q ≡ Some y) ⊎ Later Calling (inner d f) (outer d f) q y
            → (nat_lt q (length (map number (inner d f))) || (is_none (point_of d f y).runnable && (point_of d f y).asynchronous)) ≡ true
        by q y (inl e) =
            let within : q < length (inner d f) = slice_get_within (inner d f) q y e in
            let long : length (map number (inner d f)) ≡ length (inner d f) = length-map (inner d f) number in
            or_left (nat_lt q (length (map number (inner d f)))) (is_none (point_of d f y).runnable && (point_of d f y).asynchronous) (lt-ltb q (length (map number (inner d f))) (omega arith))
        by q y (inr l) =
            let z = outer_call d f q y l in
            or_right (nat_lt q (length (map number (inner d f)))) (is_none (point_of d f y).runnable && (point_of d f y).asynchronous)
            (ap (λ (u : Calling). is_none (point_of d f u).runnable && (point_of d f u).asynchronous) z.is)

pub points_stand : (d : Description) (f : Flat) (p : BusPlan) (m : Mapping) → IsWhole d f p m → points_arranged (plan_of p) ≡ true
points_stand d f p m w = (λ j. points_arranged (plan_is d f p w.is_plan j)) ∙ arranged d f p m w p.elements
