-- No runnable, and not the environment, has two points of one name.
use Rattle.std.proofs.Common.{◌≡◌, ℕ, suc, ◌<◌, Bool, true, false, not, ◌==◌, refl, sym, ◌∙◌, ap, subst, arith, List, [], ◌∷◌, map, length, Some, ◌⊎◌, inl, inr}
use Rattle.bus_semantics.specs.Common.{slice_get, list_any, and_from, and_parts, eqb-true, same_Some, slice_get_within, plan_of, Named, caller_rank, named_once, same_named, same_numbers}
use Rattle.plan_definitions.specs.Common.{Component, Description, Flat, pair_number, runnables_of, runnable_of, runnables, callings, point_of, points, IsWhole}
use Rattle.description_types.specs.declared.component.Runnable as declared_runnable
use Rattle.bus_laws.specs.Common.{BusPlan, ElemPlan, PointPlan, Mapping}
use Rattle.plan_definitions.specs.declared.calling.Calling.{Calling}
use Rattle.sound_plans.proofs.Places.{any_at, append_at, map_at, Later}
use Rattle.sound_plans.proofs.Parts.{numbers_apart, runnable_count, runnable_there}
use Rattle.sound_plans.proofs.Rules.{planned, plan_is}
use Rattle.sound_plans.proofs.Points.{inner, outer, InnerCall, inner_call, OuterCall, outer_call}
use Rattle.sound_plans.proofs.Callers.{one_call}
use Rattle.sound_plans.proofs.Operations.{same_access, same_called, same_outer}

-- names that differ at each two places are named once
once_by_places : (ns : List Named) → ((i j : ℕ) (a b : Named) → slice_get ns i ≡ Some a → slice_get ns j ≡ Some b → same_named a b ≡ true → i ≡ j) → named_once ns ≡ true
once_by_places [] apart = refl
once_by_places (n ∷ ns) apart =
    and_from (not (list_any (same_named n) ns)) (named_once ns) (none (list_any (same_named n) ns) refl)
    (once_by_places ns (λ i j a b s t same. let next : suc i ≡ suc j = apart (suc i) (suc j) a b s t same in omega arith))
  where
    none : (b : Bool) → list_any (same_named n) ns ≡ b → not b ≡ true
    none false is = refl
    none true is = let x = any_at (same_named n) ns is in let one : 0 ≡ suc x.place = apart 0 (suc x.place) n x.item refl x.there x.passes in absurd (omega arith)

module _ (d : Description) (f : Flat) (p : BusPlan) (m : Mapping) (w : IsWhole d f p m) (es : List ElemPlan) where
  abbrev rank_of : Calling → ℕ
  rank_of y = caller_rank (planned d f es) (point_of d f y)

  inner_rank : (q : ℕ) (y : Calling) (z : InnerCall d f q y) → rank_of y ≡ pair_number (runnables_of d f) (z.i, z.m)
  inner_rank q y z = ap rank_of z.is.is

  outer_rank : (q : ℕ) (y : Calling) (z : OuterCall d f q y) → rank_of y ≡ length (runnables d f)
  outer_rank q y z = ap rank_of z.is

  inner_within : (q : ℕ) (y : Calling) (z : InnerCall d f q y) → rank_of y < length (runnables d f)
  inner_within q y z =
      let there = runnable_there d f z.i z.c z.home z.m z.runnable z.there in
      let within : pair_number (runnables_of d f) (z.i, z.m) < length (runnables d f) = slice_get_within (runnables d f) (pair_number (runnables_of d f) (z.i, z.m)) (runnable_of d f z.i z.c z.m z.runnable) there in
      subst (λ n. n < length (runnables d f)) (sym (inner_rank q y z)) within

  two_inner : (i j : ℕ) (y u : Calling) (z : InnerCall d f i y) (v : InnerCall d f j u) → rank_of y ≡ rank_of u → same_numbers (point_of d f y).name (point_of d f u).name ≡ true → i ≡ j
  two_inner i j y u z v ranks same =
      let pair = numbers_apart d f runnable_count z.i v.i z.c v.c z.home v.home z.m v.m
      (slice_get_within z.c.behavior.runnables z.m z.runnable z.there) (slice_get_within v.c.behavior.runnables v.m v.runnable v.there)
      (sym (inner_rank i y z) ∙ ranks ∙ inner_rank j u v) in
      let x = same_called d f p m w es i j y u z v pair.0 same in
      let there : slice_get z.c.behavior.runnables v.m ≡ Some v.runnable = subst (λ (c : Component). slice_get c.behavior.runnables v.m ≡ Some v.runnable) (sym x.component) v.there in
      let runnable : z.runnable ≡ v.runnable = same_Some z.runnable v.runnable (sym z.there ∙ ap (slice_get z.c.behavior.runnables) pair.1 ∙ there) in
      let here = subst (λ (r : declared_runnable.Runnable). slice_get r.accesses v.j ≡ Some v.access) (sym runnable) v.here in
      same_access d f p m w es i j y u z v x
      (pair.1, one_call d f p m w z.home.instance.component z.c z.home.has z.m z.runnable z.there z.j v.j z.access v.access z.here here z.is.asynchronous v.is.asynchronous z.is.calls v.is.calls x.port x.item)

  two_points : (i j : ℕ) (y u : Calling) → slice_get (callings d f) i ≡ Some y → slice_get (callings d f) j ≡ Some u → rank_of y ≡ rank_of u → same_numbers (point_of d f y).name (point_of d f u).name ≡ true → i ≡ j
  two_points i j y u at_i at_j ranks same = by (append_at (inner d f) (outer d f) i y at_i) (append_at (inner d f) (outer d f) j u at_j)
    where
      by : (slice_get (inner d f) i ≡ Some y) ⊎ Later Calling (inner d f) (outer d f) i y → (slice_get (inner d f) j ≡ Some u) ⊎ Later Calling (inner d f) (outer d f) j u → i ≡ j
      by (inl a) (inl b) = two_inner i j y u (inner_call d f i y a) (inner_call d f j u b) ranks same
      by (inr a) (inr b) = same_outer d f p m w es i j y u (outer_call d f i y a) (outer_call d f j u b) same
      by (inl a) (inr b) = let low = inner_within i y (inner_call d f i y a) in let high = outer_rank j u (outer_call d f j u b) in absurd (omega (arith, low, high, ranks))
      by (inr a) (inl b) = let low = inner_within j u (inner_call d f j u b) in let high = outer_rank i y (outer_call d f i y a) in absurd (omega (arith, low, high, ranks))

  abbrev named : PointPlan → Named
  named t = (caller_rank (planned d f es) t, t.name)

  points_once : named_once (map named (points d f)) ≡ true
  points_once = once_by_places (map named (points d f))
      (λ i j a b at_i at_j same.
      let t = map_at named (points d f) i a at_i in
      let s = map_at named (points d f) j b at_j in
      let y = map_at (point_of d f) (callings d f) i t.item t.there in
      let u = map_at (point_of d f) (callings d f) j s.item s.there in
      let both : same_named (named (point_of d f y.item)) (named (point_of d f u.item)) ≡ true = (λ k. same_named (named (sym y.is k)) (named (sym u.is k))) ∙ (λ k. same_named (sym t.is k) (sym s.is k)) ∙ same in
      let parts = and_parts (rank_of y.item == rank_of u.item) (same_numbers (point_of d f y.item).name (point_of d f u.item).name) both in
      two_points i j y.item u.item y.there u.there (eqb-true (rank_of y.item) (rank_of u.item) parts.0) parts.1)

pub points_named_once : (d : Description) (f : Flat) (p : BusPlan) (m : Mapping) → IsWhole d f p m → named_once (map (λ (t : PointPlan). (caller_rank (plan_of p) t, t.name)) (plan_of p).points) ≡ true
points_named_once d f p m w =
    (λ j. named_once (map (λ (t : PointPlan). (caller_rank (plan_is d f p w.is_plan j) t, t.name)) (plan_is d f p w.is_plan j).points)) ∙ points_once d f p m w p.elements
