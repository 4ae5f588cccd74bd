-- Numbers of pairs and keys, and what stands at them.
use Rattle.std.proofs.Common.{◌≡◌, ℕ, ◌+◌, ◌<◌, List, [], ◌∷◌, length, map, slice_get, ◌&&◌, nat_eq, Option, Some, None, refl, sym, ap, subst, ◌∙◌, arith}
use Rattle.bus_semantics.specs.Common.{and_from, eq-eqb, slice_get-map, slice_get_within, option_map, option_map_or, option_eq, unwrap_or, Runnable}
use Rattle.plan_definitions.specs.Common.{Component, Description, Flat, Instance, Among, Key, same_key, number_in, same_pair, pair_number, positions, from, of_instances, numbered}
use Rattle.plan_definitions.specs.Common.{runnables_of, runnable_of, runnables_of_component, runnables}
use Rattle.description_types.specs.declared.component.Runnable as declared
use Rattle.plan_definitions.proofs.Keys.{same_number_refl, same_pair_is}
use Rattle.plan_definitions.proofs.Lists.{map_from, get_map as unmap}
use Rattle.sound_plans.proofs.Lists.{position_found, pieces, in_pieces, map_has, in_positions, from_same}
use Rattle.sound_plans.proofs.Sites.{ComponentAt}

-- at the number of a pair that is among them stands this pair
pub pair_at : (pairs : List (ℕ × ℕ)) (x : ℕ × ℕ) → Among x pairs → slice_get pairs (pair_number pairs x) ≡ Some x
pair_at pairs x h =
    let r = position_found (same_pair x) 0 x pairs h (and_from (nat_eq x.0 x.0) (nat_eq x.1 x.1) (eq-eqb x.0 x.0 refl) (eq-eqb x.1 x.1 refl)) in
    let e : 0 + r.0 ≡ r.0 = omega arith in
    let number : pair_number pairs x ≡ r.0 = ap (λ o. unwrap_or o 0) r.2 ∙ e in
    ap (slice_get pairs) number ∙ r.3 ∙ ap (λ z. Some z) (sym (same_pair_is x r.1 r.4))

-- the number of a key that is among them is one of theirs
pub key_below : (keys : List Key) (k : Key) → Among k keys → number_in keys k < length keys
key_below keys k h =
    let itself = and_from (option_eq nat_eq k.0 k.0 && option_eq nat_eq k.1 k.1) (nat_eq k.2 k.2) (and_from (option_eq nat_eq k.0 k.0) (option_eq nat_eq k.1 k.1) (same_number_refl k.0) (same_number_refl k.1)) (eq-eqb k.2 k.2 refl) in
    let r = position_found (same_key k) 0 k keys h itself in
    let number : number_in keys k ≡ 0 + r.0 = ap (λ o. unwrap_or o 0) r.2 in
    let below = slice_get_within keys r.0 r.1 r.3 in
    omega (arith, number)

-- ---- what instances have

abbrev runnable_count : Component → ℕ
runnable_count c = length c.behavior.runnables

abbrev runnables_at : Description → Instance → ℕ
runnables_at d x = option_map_or runnable_count (slice_get d.components x.component) 0

module _ (d : Description) (f : Flat) where
  pub in_component : {X : Type 0} (g : ℕ → Component → List X) (i : ℕ) (x : Instance) (y : X) (o : Option Component) → slice_get f.instances i ≡ Some x → slice_get d.components x.component ≡ o → Among y (option_map_or (g i) o [])
      → (at : ComponentAt d f i) × Among y (g i at.component)
  in_component g i x y None at none h = absurd h
  in_component g i x y (Some c) at some h = (record { instance = x; component = c; at_instance = at; at_component = some }, h)

  pub of_instances_is : {X : Type 0} (g : ℕ → Component → List X) (y : X) → Among y (of_instances g d f) → (i : ℕ) × (at : ComponentAt d f i) × Among y (g i at.component)
  of_instances_is g y h =
      let p = pieces (λ i (x : Instance). option_map_or (g i) (slice_get d.components x.component) []) f.instances y h in
      let r = in_component g p.0 p.1 y (slice_get d.components p.1.component) p.2 refl p.3 in
      (p.0, r.0, r.1)

  pub in_runnables : (i m : ℕ) (at : ComponentAt d f i) → m < length at.component.behavior.runnables → Among (i, m) (runnables_of d f)
  in_runnables i m at below =
      in_pieces (λ i (x : Instance). numbered i (runnables_at d x)) f.instances i at.instance (i, m) at.at_instance
      (subst (λ o. Among (i, m) (numbered i (option_map_or (runnable_count) o 0))) (sym at.at_component)
      (map_has (λ n. (i, n)) m (positions 0 (length at.component.behavior.runnables)) (in_positions m 0 (length at.component.behavior.runnables) (omega arith) (omega arith))))

  -- the runnables of the plan stand as their pairs
  same_instances : (i : ℕ) (c : Component) (n : ℕ) (rs : List declared.Runnable) → map (λ (r : Runnable). r.instance) (from n (λ m r. runnable_of d f i c m r ∷ []) rs) ≡ map (λ (x : ℕ × ℕ). x.0) (map (λ k. (i, k)) (positions n (length rs)))
  same_instances i c n [] = refl
  same_instances i c n (r ∷ rs) = ap (λ l. i ∷ l) (same_instances i c (n + 1) rs)

  same_component : (i : ℕ) (o : Option Component) → map (λ (r : Runnable). r.instance) (option_map_or (runnables_of_component d f i) o []) ≡ map (λ (x : ℕ × ℕ). x.0) (numbered i (option_map_or (runnable_count) o 0))
  same_component i None = refl
  same_component i (Some c) = same_instances i c 0 c.behavior.runnables

  pub instances_of_runnables : map (λ (r : Runnable). r.instance) (runnables d f) ≡ map (λ (x : ℕ × ℕ). x.0) (runnables_of d f)
  instances_of_runnables =
      map_from (λ (r : Runnable). r.instance) (λ i (x : Instance). option_map_or (runnables_of_component d f i) (slice_get d.components x.component) []) 0 f.instances
      ∙ from_same (λ i (x : Instance). map (λ (r : Runnable). r.instance) (option_map_or (runnables_of_component d f i) (slice_get d.components x.component) [])) (λ i (x : Instance). map (λ (x : ℕ × ℕ). x.0) (numbered i (runnables_at d x))) 0 f.instances
      (λ i (x : Instance). same_component i (slice_get d.components x.component))
      ∙ sym (map_from (λ (x : ℕ × ℕ). x.0) (λ i (x : Instance). numbered i (runnables_at d x)) 0 f.instances)

  -- at the number of a runnable of an instance stands one of this instance
  pub runnable_at : (i m : ℕ) (at : ComponentAt d f i) → m < length at.component.behavior.runnables → (r : Runnable) × (slice_get (runnables d f) (pair_number (runnables_of d f) (i, m)) ≡ Some r) × (r.instance ≡ i)
  runnable_at i m at below =
      let n = pair_number (runnables_of d f) (i, m) in
      let pair = pair_at (runnables_of d f) (i, m) (in_runnables i m at below) in
      let there : slice_get (map (λ (r : Runnable). r.instance) (runnables d f)) n ≡ Some i =
      ap (λ l. slice_get l n) instances_of_runnables ∙ slice_get-map (λ (x : ℕ × ℕ). x.0) (runnables_of d f) n ∙ ap (option_map (λ (x : ℕ × ℕ). x.0)) pair in
      unmap (λ (r : Runnable). r.instance) (runnables d f) n i there
